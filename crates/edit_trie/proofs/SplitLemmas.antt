-- An entry put beside another one with the same digit: that one is taken out, a node of both is made, and takes its place.
use Rattle.std.proofs.Common.{◌≡◌, ◌≢◌, ◌⊎◌, ℕ, suc, ◌+◌, ◌*◌, ◌%◌, ◌<◌, ◌≤◌, ◌^◌, List, [], ◌∷◌, length, get_or, refl, ap, sym, subst, ◌∙◌, arith, cond, true, false, Bool, Option, Some, None, IsSome, option_map, inl, inr}
use Rattle.std.specs.List.{find}
use Rattle.std.specs.Ordering.{is_eq}
use Rattle.std.specs.declared.cmp.Ordering.{Ordering}
use Rattle.std.specs.declared.cmp.Ordering.TheVariants.{Equal}
use Rattle.std.proofs.lemmas.Bool.{cases_eq}
use Rattle.elem_core.specs.Codes.{digit_at}
use Rattle.elem_core.specs.declared.codes.TheConstants.{LEVELS}
use Rattle.node_heap.specs.Links.{count, HasLink, Reaches, here}
use Rattle.node_heap.specs.Forms.{Row, links_in, form_of}
use Rattle.node_heap.specs.Heap.{Heap, row_at, form_at, links_at, holds_at, owners_at, live_count}
use Rattle.node_heap.specs.Calls.{Builds, KeepsOwners, Gains}
use Rattle.node_heap.specs.InPlace.{Changes}
use Rattle.node_heap.specs.Owner.{alone as alone_rows}
use Rattle.node_heap.proofs.CallerLemmas.{alone-yes, test_other, Reaches-by, IsGraph-acyclic, count-link as count-cons, count-one, Changes-Builds, Gains-trans, Gains-Builds, above_live, KeepsBelow-apart, Reaches-back, Changes-both, Changes-then, Changes-more, Extends-row}
use Rattle.champ_chain.specs.Entry.{Entry, entry, has_key, key_at, link_with, put}
use Rattle.champ_chain.specs.Old.{KeepsOldOwners, ReachesOldBy}
use Rattle.champ_chain.proofs.CallerLemmas.{same-key, form-live, links-form, held-one, key-live, one_at-same}
use Rattle.champ_trie.specs.Bits.{has, rank}
use Rattle.champ_trie.specs.Trie.{IsTrie, IsPlace, IsRow, part, place_of}
use Rattle.champ_trie.specs.Edit.{chain_nodes}
use Rattle.champ_trie.specs.Reach.{alike_in}
use Rattle.champ_trie.specs.declared.place.Place.TheVariants.{Entry as At, Node, Empty}
use Rattle.champ_trie.proofs.CallerLemmas.{place-entry, at-link, trie-stays, IsAlone, alone, eq-apart, put-apart}
use Rattle.edit_trie.specs.Path.{edit_rows, way_rows, MakesFew}
use Rattle.edit_trie.specs.Spot.{PutsAt}
use Rattle.edit_trie.specs.Walk.{PutsEntryIn}
use Rattle.edit_trie.proofs.StepLemmas.{AtRow, digit, digit-small, part-find, place-is, elsewhere, entry-stays, trie-with, puts-then, shared-one, none-live, path-was, path-now, off-row}
use Rattle.edit_trie.proofs.PathLemmas.{edit-paths, rows-stay, stays-below}
use Rattle.edit_trie.proofs.WayLemmas.{few-came, live-along, two-rows, way-paths, way-says}

-- a key that isn't found is not that of the only entry
not-found : {K : Type 0} (cmp : K → K → Ordering) (k j : K) (y : ℕ) → find (has_key cmp k) (entry j y ∷ []) ≡ None → is_eq (cmp k j) ≡ false
not-found cmp k j y none = by_test (is_eq (cmp k j)) none
  where
    by_test : (b : Bool) → cond b (Some (entry j y)) None ≡ None → b ≡ false
    by_test true is = absurd cc
    by_test false is = refl

-- an entry whose link isn't found isn't found
pub not-linked : {K : Type 0} (o : Option (Entry K)) → option_map (λ (z : Entry K). z.link) o ≡ None → o ≡ None
not-linked None is = refl
not-linked (Some z) is = absurd cc

-- what has a part has entries
some-part : {K : Type 0} (cmp : K → K → Ordering) (code : K → ℕ) (d p : ℕ) (E : List (Entry K)) (z : Entry K) → part cmp code d p E ≡ z ∷ [] → 1 ≤ length E
some-part cmp code d p [] z is = absurd (let bad : [] ≡ z ∷ [] = is in cc)
some-part cmp code d p (e ∷ es) z is = omega arith

module _ {T : Type 0} {cmp : T → T → Ordering} {code : T → ℕ} {old : Heap T} {left d row c : ℕ} {E : List (Entry T)} {key : T} (a : AtRow cmp code old left d row c E key) where
  -- an entry of the key, which is absent, comes to the digit, where this entry was taken out
  pub record TakesEntry (x : ℕ) (cut : Heap T) (y : ℕ) : Type 0 where
    pub keyed : key_at (form_at old) x ≡ Some key
    pub absent : link_with cmp key E ≡ None
    pub had : has a.entries (digit_at c d) ≡ true
    pub given : y ≡ get_or a.links (rank a.entries (digit_at c d)) 0
    pub puts : PutsAt (form_at cut) row d a.entries a.nodes a.links (digit_at c d) Empty
    pub others : (k : ℕ) → k ≢ row → row_at cut k ≡ row_at old k
    pub owners : KeepsOwners old cut
    pub changes : Changes row old cut [] (y ∷ []) 0 0
    pub gains : Gains old cut

module _ {T : Type 0} {cmp : T → T → Ordering} {code : T → ℕ} {old : Heap T} {left d row c : ℕ} {E : List (Entry T)} {key : T} {a : AtRow cmp code old left d row c E key} {x : ℕ} {cut : Heap T} {y : ℕ} (took : TakesEntry a x cut y) where
  pub place : place_of a.entries a.nodes a.links (digit_at c d) ≡ At y
  place = place-entry a.entries a.nodes a.links (digit_at c d) took.had ∙ ap At (sym took.given)

  -- it was the only one with the digit
  pub al : IsAlone cmp code old d row x c (digit-small a) y (place-is a (At y) place) E left
  al = alone cmp code old d row x c (digit-small a) y (place-is a (At y) place) E left a.can.below

  pub keyed-cut : key_at (form_at cut) x ≡ Some key
  keyed-cut = entry-stays a cut (λ k other live. took.others k other) (entry key x) took.keyed

  pub other-cut : key_at (form_at cut) y ≡ Some al.key
  other-cut = entry-stays a cut (λ k other live. took.others k other) (entry al.key y) al.keyed

  apart-keys : is_eq (cmp key al.key) ≡ false
  apart-keys = not-found cmp key al.key y (sym (ap (find (has_key cmp key)) al.whole) ∙ part-find a ∙ not-linked (find (has_key cmp key) E) took.absent)

  pub keys-cut : (i : T) × (j : T) × (key_at (form_at cut) x ≡ Some i) × (key_at (form_at cut) y ≡ Some j) × (cmp i j ≢ Equal)
  keys-cut = (key, al.key, keyed-cut, other-cut, eq-apart (cmp key al.key) apart-keys)

  pub other-key : (j : T) → key_at (form_at cut) y ≡ Some j → j ≡ al.key
  other-key j has = same-key (form_at cut) y y j al.key refl has other-cut

  live : IsSome (row_at old row)
  live = form-live old row _ a.is.row

  live-cut : IsSome (row_at cut row)
  live-cut = took.gains.stays row live

  pub codes-cut : (oc : ℕ) → oc ≡ code al.key → c % 2 ^ (5 * (d + 1)) ≡ oc % 2 ^ (5 * (d + 1))
  codes-cut oc is_key = sym (ap (λ m. m % 2 ^ (5 * (d + 1))) is_key ∙ al.agrees)

  pub spare-cut : (oc : ℕ) → oc ≡ code al.key → left + 1 + alike_in code c E ≤ old.spare_nodes → LEVELS + chain_nodes c oc ≤ cut.spare_nodes + (d + 1)
  spare-cut oc is_key spare = omega (arith, ap (chain_nodes c) is_key, al.few, spare, took.changes.trades.balance.spare_nodes, took.changes.trades.nodes)

  -- a node of both was made
  pub record MakesNode (built : Heap T) (z m oc : ℕ) : Type 0 where
    pub apart : ¬ Reaches (links_at old) x row
    pub held : 0 < holds_at old x
    pub is_key : oc ≡ code al.key
    pub few : m + (d + 1) ≤ LEVELS + chain_nodes c oc
    pub builds : Builds cut built (x ∷ y ∷ []) (z ∷ []) 0 m
    pub made : IsTrie cmp code (form_at built) left (d + 1) z (entry key x ∷ entry al.key y ∷ [])
    pub owners : KeepsOldOwners cut built
    pub below : ReachesOldBy cut built x y z

  module _ {built : Heap T} {z m oc : ℕ} (b : MakesNode built z m oc) where
    row-built : row_at built row ≡ row_at cut row
    row-built = Extends-row b.builds.extends row live-cut

    pub is-built : IsRow (form_at built) row d took.puts.entries took.puts.nodes took.puts.links
    is-built = record { row = ap (option_map form_of) row-built ∙ took.puts.row_is.row; sets = took.puts.row_is.sets }

    pub sole-built : owners_at built row ≡ 1
    sole-built = b.owners row live-cut ∙ took.owners row ∙ a.can.sole

    pub held-built : 0 < holds_at built z
    held-built = omega (arith, b.builds.holds z, count-one z z, one_at-same z, took.changes.trades.holds z, held-one old x z b.held, count-cons z x (y ∷ []), count-one z y, count-one z x)

    linked : HasLink (links_at old) row y
    linked = omega (arith, at-link (form_at old) row d a.entries a.nodes (digit_at c d) y a.links a.is (omega arith) place, ap (count y) (links-form old row))

    off-entry : ¬ Reaches (links_at cut) x row
    off-entry way = b.apart (Reaches-back old cut x row (KeepsBelow-apart took.changes.apart x (omega (arith, b.held)) b.apart) way)

    off-taken : ¬ Reaches (links_at cut) y row
    off-taken way =
        IsGraph-acyclic old a.can.graph row y linked
        (Reaches-back old cut y row (λ k down. took.others k (λ at. IsGraph-acyclic old a.can.graph row y linked (subst (Reaches (links_at old) y) at down))) way)

    pub apart-built : ¬ Reaches (links_at built) z row
    apart-built way = elim (b.below row live-cut way) as (λ _. ⊥) [
      | inl up ↦ off-entry up
      | inr up ↦ off-taken up
    ]

    -- what a row that was there leads to was there
    along : (a b : ℕ) → IsSome (row_at cut a) → Reaches (links_at built) a b → IsSome (row_at cut b)
    along = live-along cut built took.changes.trades.graph (λ l live. Extends-row b.builds.extends l live)

    forms-way : (a b : ℕ) → Reaches (links_in (form_at built)) a b → Reaches (links_at built) a b
    forms-way a b way = Reaches-by (links_in (form_at built)) (links_at built) (λ i. sym (links-form built i)) a b way

    links-way : (a b : ℕ) → Reaches (links_at built) a b → Reaches (links_in (form_at built)) a b
    links-way a b way = Reaches-by (links_at built) (links_in (form_at built)) (λ i. links-form built i) a b way

    -- no more rows came than lie over the new key
    pub few-built : (most : ℕ) → 2 ≤ most → live_count built ≤ live_count cut + length (way_rows (form_at built) most left (d + 1) (code key) z)
    few-built most enough = few-came cut built (way_rows (form_at built) most left (d + 1) (code key) z) (λ l some. by_row l some (row_at cut l) refl)
      where
        by_up : (l u : ℕ) → row_at cut l ≡ None → 0 < holds_at built u → Reaches (links_at built) u l → 0 < count l (way_rows (form_at built) most left (d + 1) (code key) z)
        by_up l u gone held way = elim (cases_eq u z) as (λ _. 0 < count l (way_rows (form_at built) most left (d + 1) (code key) z)) [
          | inl same ↦
              two-rows (form_at built) l cmp code (entry key x) (entry al.key y) most left (d + 1) z enough b.made
              (λ down. none-live (row_at cut l) gone (along x l (key-live cut x key keyed-cut) (forms-way x l down)))
              (λ down. none-live (row_at cut l) gone (along y l (key-live cut y al.key other-cut) (forms-way y l down)))
              (links-way z l (subst (λ j. Reaches (links_at built) j l) same way))
          | inr other ↦
              let held_cut : 0 < holds_at cut u = omega (arith, held, b.builds.holds u, count-one u z, test_other u z other) in
              absurd (none-live (row_at cut l) gone (along u l (took.changes.trades.graph.held u held_cut) way))
        ]

        by_row : (l : ℕ) → IsSome (row_at built l) → (r : Option (Row T)) → row_at cut l ≡ r → IsSome (row_at cut l) ⊎ (0 < count l (way_rows (form_at built) most left (d + 1) (code key) z))
        by_row l some (Some w) is = inl (subst IsSome (sym is) refl)
        by_row l some None is = let up = b.builds.graph.reached l some in inr (by_up l up.0 is up.1 up.2)

    -- it took the place
    module _ (new : Heap T) (puts : PutsAt (form_at new) row d took.puts.entries took.puts.nodes took.puts.links (digit_at c d) (Node z)) (others : (k : ℕ) → k ≢ row → row_at new k ≡ row_at built k)
        (change : Changes row built new (z ∷ []) [] 0 0) (gains : Gains built new) where
      others-new : (k : ℕ) → k ≢ row → IsSome (row_at old k) → row_at new k ≡ row_at old k
      others-new k other some = others k other ∙ Extends-row b.builds.extends k (took.gains.stays k some) ∙ took.others k other

      trie-new : IsTrie cmp code (form_at new) (suc left) d row (put cmp E (entry key x))
      trie-new =
          let both : put cmp (part cmp code d (digit_at c d) E) (entry key x) ≡ entry key x ∷ entry al.key y ∷ [] = ap (λ es. put cmp es (entry key x)) al.whole ∙ put-apart cmp code al.key key y x apart-keys in
          let stays : IsTrie cmp code (form_at new) left (d + 1) z (entry key x ∷ entry al.key y ∷ []) =
          trie-stays (form_at built) (form_at new) z (λ k way. ap (option_map form_of) (others k (λ at. apart-built (subst (Reaches (links_at built) z) at (forms-way z k way))))) cmp code left (d + 1) z (entry key x ∷ entry al.key y ∷ []) (here z) b.made in
          trie-with a new (Node z) (puts-then took.puts puts) (elsewhere a new others-new) (entry key x) (digit a) (subst (IsPlace (form_at new) (λ k P. IsTrie cmp code (form_at new) left (d + 1) k P) (Node z)) (sym both) (omega arith, stays))

      was-rows : (most : ℕ) → edit_rows cmp (form_at old) key most (suc left) d c row ≡ row ∷ []
      was-rows most = path-was a (edit-paths cmp code key) most (At y) place

      changes-two : Changes row old built (x ∷ []) (z ∷ []) (0 + 0) (0 + m)
      changes-two =
          Changes-both (x ∷ []) (z ∷ []) took.changes (Changes-Builds row took.changes.trades.graph (λ k up one. b.owners k (above_live cut k row up live-cut) ∙ one) b.builds)
          (λ k. omega (arith, count-cons k x (y ∷ []), count-one k x, count-one k y)) (λ k. omega arith) (λ k. omega (arith, count-cons k x (y ∷ []), count-one k x, count-one k y)) (omega arith)

      deep : suc d ≡ d + 1
      deep = omega arith

      way-new : (more : ℕ) → way_rows (form_at new) more (suc left) d c row ≡ row ∷ way_rows (form_at built) more left (d + 1) (code key) z
      way-new more =
          let F = form_at built in
          let G = form_at new in
          path-now a (way-paths cmp code) new more (Node z) (puts-then took.puts puts)
          ∙ ap (λ q. row ∷ way_rows G more left q c z) deep ∙ ap (λ q. row ∷ way_rows G more left (d + 1) q z) a.is_code
          ∙ ap (λ ks. row ∷ ks) (rows-stay cmp code F G (stays-below F G) _ _ _ _ (way-says cmp code F G (stays-below F G) more) left (d + 1) (code key) z (entry key x ∷ entry al.key y ∷ [])
          (λ k way. ap (option_map form_of) (others k (λ at. apart-built (subst (Reaches (links_at built) z) at (forms-way z k way))))) b.made)

      few-split : (most more : ℕ) → length E + 1 ≤ more → MakesFew old new (edit_rows cmp (form_at old) key most (suc left) d c row) (way_rows (form_at old) most (suc left) d c row) (way_rows (form_at new) more (suc left) d c row) 0
      few-split most more short =
          let some = some-part cmp code d (digit_at c d) E (entry al.key y) al.whole in
          omega (
            arith,
            few-built more (omega (arith, some, short)),
            ap (alone_rows old) (was-rows most),
            ap length (was-rows most),
            ap length (path-was a (way-paths cmp code) most (At y) place),
            ap length (way-new more),
            alone-yes old row [] a.can.sole,
            took.gains.makes.live,
            took.gains.makes.cells,
            took.gains.makes.nodes,
            took.changes.trades.cells,
            took.changes.trades.nodes,
            gains.makes.live,
            gains.makes.cells,
            gains.makes.nodes,
            change.trades.cells,
            change.trades.nodes,
          )

      pub puts-split : PutsEntryIn cmp code old new left d row c E key x
      puts-split = record {
        trie = trie-new;
        changes = Changes-more 0 (left + 1 + alike_in code c E) (Changes-then changes-two change) (omega arith) (omega (arith, b.few, ap (chain_nodes c) b.is_key, al.few));
        gains = Gains-trans took.gains (Gains-trans (Gains-Builds b.builds) gains);
        path = λ most more short short'. rw (was-rows most, path-now a (edit-paths cmp code key) new more (Node z) (puts-then took.puts puts)) (shared-one old row _ a.can.sole);
        came = λ most more short short'. few-split most more short';
        others = λ most short k some off. others-new k (off-row a k (was-rows most) off).0 some;
      }
