-- Runs: how they are read, and what is left of them.
use Rattle.std.proofs.Common.{◌≡◌, ◌≢◌, ℕ, zero, suc, ◌+◌, ◌<◌, List, [], ◌∷◌, ◌++◌, length, take, drop, refl, ap, sym, subst, ◌∙◌, arith, Option, Some, None, IsSome, add-one, Bool, true, false}
use Rattle.std.specs.Prelude.{option_to_list, IsTrue}
use Rattle.node_heap.specs.Forms.{Forms, node, chain}
use Rattle.champ_chain.specs.Entry.{Entry, entry, key_at, IsEntry}
use Rattle.champ_chain.specs.Chain.{AreChainRows}
use Rattle.champ_chain.proofs.FrameLemmas.{KeepsForms, rows-kept, key-kept}
use Rattle.champ_chain.proofs.RowLemmas.{rows-only}
use Rattle.champ_chain.proofs.SpotLemmas.{first-row, rows-none, row-entry, row-next}
use Rattle.champ_trie.specs.declared.place.Place.{Place}
use Rattle.champ_trie.specs.declared.place.Place.TheVariants.{Empty, Entry as At, Node}
use Rattle.set_merge.specs.Chains.{place_from}
use Rattle.set_merge.specs.Walk.{IsRun}

module _ {K : Type 0} (F : Forms K) where
  pub run-from : (next : Option ℕ) (es : List (Entry K)) → AreChainRows F next es → IsRun F (place_from next) es
  run-from None es rows = rows-none F es rows
  run-from (Some l) es rows = rows

  -- what is read of the first row of a run
  pub front-row : (l x : ℕ) (next : Option ℕ) (e : Entry K) (es : List (Entry K)) → AreChainRows F (Some l) (e ∷ es) → F l ≡ Some (node chain (x ∷ option_to_list next)) → (x ≡ e.link) × IsRun F (place_from next) es
  front-row l x next e es rows row =
      let at = first-row F l (e ∷ es) rows in
      let same : e ≡ at.first = (let w = at.whole in cc) in
      let others : at.others ≡ es = (let w = at.whole in cc) in
      let rest : AreChainRows F next es = subst (AreChainRows F next) others (subst (λ n. AreChainRows F n at.others) (row-next F l at.first.link x at.next next at.row row) at.rows) in (
        row-entry F l x at.first.link next at.next row at.row ∙ ap (λ (d : Entry K). d.link) (sym same),
        run-from next es rest,
      )

  -- a run has one list of entries
  pub run-only : (place : Place) (es ds : List (Entry K)) → IsRun F place es → IsRun F place ds → es ≡ ds
  run-only Empty es ds first second = first ∙ sym second
  run-only (At x) es ds first second =
      let keys : Some first.0 ≡ Some second.0 = sym first.2 ∙ second.2 in
      let same : first.0 ≡ second.0 = cc in
      first.1 ∙ ap (λ k. entry k x ∷ []) same ∙ sym second.1
  run-only (Node l) es ds first second = rows-only F (Some l) es ds first second

module _ {K : Type 0} (F G : Forms K) (kept : KeepsForms F G) where
  -- a run stays where rows are only added
  pub run-kept : (place : Place) (es : List (Entry K)) → IsRun F place es → IsRun G place es
  run-kept Empty es is = is
  run-kept (At x) es is = (is.0, is.1, key-kept F G kept x is.0 is.2)
  run-kept (Node l) es is = rows-kept F G kept (Some l) es is

module _ {K : Type 0} (F : Forms K) where
  -- the first entry of a run has its key
  pub run-key : (place : Place) (e : Entry K) (es : List (Entry K)) → IsRun F place (e ∷ es) → key_at F e.link ≡ Some e.key
  run-key Empty e es is = absurd (let bad : e ∷ es ≡ [] = is in cc)
  run-key (At x) e es is =
      let same : e ≡ entry is.0 x = (let w = is.1 in cc) in
      subst (λ (d : Entry K). key_at F d.link ≡ Some d.key) (sym same) is.2
  run-key (Node l) e es is =
      let at = first-row F l (e ∷ es) is in
      let same : at.first ≡ e = (let w = at.whole in cc) in
      subst (λ (d : Entry K). key_at F d.link ≡ Some d.key) same at.key

  -- a run of one row is its entry
  pub lone-run : (l x : ℕ) (next : Option ℕ) (es : List (Entry K)) → AreChainRows F (Some l) es → F l ≡ Some (node chain (x ∷ option_to_list next)) → next ≡ None → (key : K) × (es ≡ entry key x ∷ []) × IsEntry F (entry key x)
  lone-run l x next es rows row last =
      let at = first-row F l es rows in
      let here : at.first.link ≡ x = row-entry F l at.first.link x at.next next at.row row in
      let none : at.others ≡ [] = rows-none F at.others (subst (λ n. AreChainRows F n at.others) (row-next F l at.first.link x at.next next at.row row ∙ last) at.rows) in (
        at.first.key,
        at.whole ∙ ap (λ us. at.first ∷ us) none ∙ ap (λ y. entry at.first.key y ∷ []) here,
        subst (λ y. key_at F y ≡ Some at.first.key) here at.key,
      )

module _ {X : Type 0} where
  -- the element at a place, and those after it
  pub record IsSplit (i : ℕ) (xs : List X) : Type 0 where
    pub first : X
    pub others : List X
    pub here : drop i xs ≡ first ∷ others
    pub next : drop (i + 1) xs ≡ others
    pub front : take (i + 1) xs ≡ take i xs ++ first ∷ []

  pub split-at : (i : ℕ) (xs : List X) → i < length xs → IsSplit i xs
  split-at i [] lt = absurd (omega (arith, lt))
  split-at zero (x ∷ xs) lt = record { first = x; others = xs; here = refl; next = refl; front = refl }
  split-at (suc i) (x ∷ xs) lt =
      let s = split-at i xs (omega (arith, lt)) in
      record {
        first = s.first;
        others = s.others;
        here = s.here;
        next = rw add-one (rw add-one at s.next);
        front = rw add-one (ap (λ ys. x ∷ ys) (rw add-one at s.front));
      }

-- a test that failed
pub not-true : (b : Bool) → b ≡ false → IsTrue b → ⊥
not-true b e t = let bad : true ≡ false = sym t ∙ e in cc

module _ {K : Type 0} (F : Forms K) where
  -- a run that isn't empty has entries
  pub some-run : (place : Place) (es : List (Entry K)) → IsRun F place es → place ≢ Empty → (e : Entry K) × (us : List (Entry K)) × IsRun F place (e ∷ us)
  some-run Empty es is some = absurd (some refl)
  some-run (At x) es is some = (entry is.0 x, [], (is.0, refl, is.2))
  some-run (Node l) es is some = (let at = first-row F l es is in (at.first, at.others, subst (AreChainRows F (Some l)) at.whole is))

  no-entries : (place : Place) (e : Entry K) (us : List (Entry K)) → IsRun F place (e ∷ us) → IsRun F place [] → ⊥
  no-entries place e us first second = let bad = run-only F place (e ∷ us) [] first second in cc

  pub run-some : (place : Place) (es : List (Entry K)) → IsRun F place es → place ≢ Empty → IsRun F place [] → ⊥
  run-some place es is some none = (let s = some-run place es is some in no-entries place s.0 s.1 s.2 none)

  -- the key that was read of an entry
  pub keyed : (x : ℕ) (key : K) → key_at F x ≡ Some key → IsSome (key_at F x)
  keyed x key is = subst IsSome (sym is) refl

  pub front-key : (place : Place) (e : Entry K) (es : List (Entry K)) (x : ℕ) → IsRun F place (e ∷ es) → x ≡ e.link → key_at F x ≡ Some e.key
  front-key place e es x run same = subst (λ y. key_at F y ≡ Some e.key) (sym same) (run-key F place e es run)
