-- An entry put into a chain, and one taken out: the rows of smaller keys were made one's own, and the place after them is written.
use Rattle.std.proofs.Common.{◌≡◌, ◌≢◌, ◌⊎◌, ℕ, suc, zero, ◌-◌, ◌+◌, ◌<◌, ◌≤◌, List, [], ◌∷◌, ◌++◌, length, set, refl, ap, sym, subst, ◌∙◌, arith, Option, Some, None, IsSome, option_map, inl, inr, append-nil, length-append, not}
use Rattle.std.specs.Prelude.{option_to_list, insert, remove, IfSome}
use Rattle.std.specs.Ordering.{match_ordering}
use Rattle.std.specs.Cmp.{IsTotalOrder, tied_itself}
use Rattle.std.specs.declared.cmp.Ordering.{Ordering}
use Rattle.std.specs.declared.cmp.Ordering.TheVariants.{Equal}
use Rattle.std.proofs.lemmas.Bool.{cases_eq}
use Rattle.std.proofs.lemmas.List.{length-set, take_all, drop_all}
use Rattle.std.proofs.lemmas.List.Edits.{length-remove}
use Rattle.std.proofs.lemmas.Option.{slice_get-get_or, get_or_from_slice_get, slice_get_within}
use Rattle.std.proofs.lemmas.Cmp.{tied_back}
use Rattle.node_heap.specs.Links.{count, HasLink, SameBelow, Reaches, here, below}
use Rattle.node_heap.specs.Forms.{Forms, node, chain, links_of, links_in, head_of, form_of, is_node}
use Rattle.node_heap.specs.Heap.{Heap, row_at, form_at, links_at, holds_at, owners_at, IsGraph, hold_count, one_at}
use Rattle.node_heap.specs.Calls.{KeepsBelow, KeepsOwners, AddsOwner, Makes, Builds, Gains, SameRows, Extends}
use Rattle.node_heap.specs.InPlace.{child_at, Writes, Changes}
use Rattle.node_heap.specs.Owner.{written, KeepsAlone}
use Rattle.node_heap.specs.declared.row.Head.TheVariants.{Chain}
use Rattle.node_heap.proofs.CallerLemmas.{insert-removed, linked-node, count-at, above_live, KeepsBelow-apart, Reaches-back, Changes-both, Changes-then, Changes-more, test_other, count-link as count-cons, count-one, IsGraph-acyclic, KeepsBelow-trans, Extends-row, paths-off, owned-live, new-reach, Changes-Builds, Gains-trans, Gains-Builds, Gains-Changes, KeepsAlone-none, SameBelow-link, Reaches-by, IsSolePath-Reaches, Changes-hold, Reaches-live, child-linked}
use Rattle.champ_chain.specs.Entry.{Entry, entry, key_at, has_key, others, SameSet}
use Rattle.champ_chain.specs.Chain.{IsChain, AreChainRows, AreAbove}
use Rattle.champ_chain.specs.KeySpot.{Parts}
use Rattle.champ_chain.proofs.CallerLemmas.{links-form, held-one, one_at-same, rows-over, rows-empty, greater_flip, same-length, FirstRow, first-row, rows-none, chain-with, same-filter, others-parts, rising-without}
use Rattle.champ_trie.proofs.CallerLemmas.{forms-below, key-stays, rows-stay, has-next}
use Rattle.edit_trie.specs.Path.{chain_rows, next_in, MakesCopies}
use Rattle.edit_trie.specs.Walk.{EditsChild}
use Rattle.edit_trie.specs.Chains.{IsFront, OwnsRows, PutsInChain, link_in, CutsFromChain, WritesBelow}
use Rattle.edit_trie.proofs.RowLemmas.{row-form, node-form, node-head, keys-stay}
use Rattle.edit_trie.proofs.ChildLemmas.{unspent-one}
use Rattle.edit_trie.proofs.PathLemmas.{chain-row, order-row}
use Rattle.edit_trie.proofs.ChainLemmas.{front-rows, front-rest, front-path, child-more, written-child, written-front}

-- a list of which a place past its end is taken out, or is filled again
pub remove-past : {X : Type 0} (xs : List X) (i : ℕ) → length xs ≤ i → remove xs i ≡ xs
remove-past xs i past = rw (take_all i xs (omega (arith, past)), drop_all (suc i) xs (omega (arith, past)), append-nil) refl

-- the second link of a chain row
second-turned : (y x : ℕ) (o : Option ℕ) → insert (remove (y ∷ option_to_list o) 1) 1 x ≡ y ∷ x ∷ []
second-turned y x None = refl
second-turned y x (Some m) = refl

second-gone : (y : ℕ) (o : Option ℕ) → length (remove (y ∷ option_to_list o) 1) ≡ 1
second-gone y None = refl
second-gone y (Some m) = refl

pub one-at-most : (o : Option ℕ) → length (option_to_list o) ≤ 1
one-at-most None = omega arith
one-at-most (Some m) = omega arith

-- what is counted beside a link and a second one, if any
pub one-of : (s x : ℕ) (o : Option ℕ) → 0 < count s (x ∷ option_to_list o) → (s ≡ x) ⊎ (o ≡ Some s)
one-of s x None some = elim (cases_eq s x) as (λ _. (s ≡ x) ⊎ (None ≡ Some s)) [
  | inl same ↦ inl same
  | inr other ↦ absurd (omega (arith, some, count-one s x, test_other s x other))
]
one-of s x (Some m) some = elim (cases_eq s x) as (λ _. (s ≡ x) ⊎ (Some m ≡ Some s)) [
  | inl same ↦ inl same
  | inr other ↦ elim (cases_eq s m) as (λ _. (s ≡ x) ⊎ (Some m ≡ Some s)) [
    | inl is ↦ inr (ap Some (sym is))
    | inr neither ↦ absurd (omega (arith, some, count-cons s x (m ∷ []), count-one s m, test_other s x other, test_other s m neither))
  ]
]

module _ {K : Type 0} (F : Forms K) where
  -- the last row of a front
  pub front-end : (o : Option ℕ) (cs : List ℕ) (r : ℕ) (es : List (Entry K)) (rest : Option ℕ) → IsFront F o (cs ++ r ∷ []) es rest → (y : ℕ) × (F r ≡ Some (node chain (y ∷ option_to_list rest)))
  unfolding IsFront
  front-end o [] r [] rest is = absurd is
  front-end o [] r (e ∷ []) rest is = (e.link, is.3 ∙ ap (λ (p : Option ℕ). Some (node chain (e.link ∷ option_to_list p))) is.4)
  front-end o [] r (e ∷ d ∷ es) rest is = absurd is.4
  front-end o (c ∷ cs) r [] rest is = absurd is
  front-end o (c ∷ cs) r (e ∷ es) rest is = front-end is.2 cs r es rest is.4

  -- chain rows stay where all below the first one is the same
  pub rows-below-stay : (G : Forms K) (a : Option ℕ) (es : List (Entry K)) → ((m : ℕ) → a ≡ Some m → SameBelow (links_in F) F G m) → AreChainRows F a es → AreChainRows G a es
  rows-below-stay G None es same rows = subst (AreChainRows G None) (sym (rows-none F es rows)) (rows-empty G)
  rows-below-stay G (Some m) es same rows = rows-stay F G m (same m refl) (Some m) es (λ k at. let is : m ≡ k = cc in subst (Reaches (links_in F) m) is (here m)) rows

  module _ (cmp : K → K → Ordering) (o : IsTotalOrder cmp) (key : K) where
    -- no row of a greater key is on the path
    pub greater-none : (m : ℕ) (a : Option ℕ) (es : List (Entry K)) → AreChainRows F a es → AreAbove cmp key es → chain_rows cmp F key (λ _. []) m a ≡ []
    unfolding chain_rows
    greater-none zero a es rows above = refl
    greater-none (suc m) None es rows above = refl
    greater-none (suc m) (Some l) es rows above = by_first (first-row F l es rows) above
      where
        by_first : FirstRow F l es → AreAbove cmp key es → chain_rows cmp F key (λ _. []) (suc m) (Some l) ≡ []
        by_first at above =
            let first : AreAbove cmp key (at.first ∷ at.others) = subst (AreAbove cmp key) at.whole above in
            chain-row cmp F key (λ _. []) m l ∙ ap (λ q. match_ordering q (l ∷ chain_rows cmp F key (λ _. []) m (next_in (F l))) [] []) (order-row cmp F key l at.first at.next at.row at.key ∙ greater_flip cmp o key at.first.key first.0)

    -- nor is the key's own
    pub equal-none : (m l : ℕ) (e : Entry K) (next : Option ℕ) → F l ≡ Some (node chain (e.link ∷ option_to_list next)) → key_at F e.link ≡ Some e.key → cmp e.key key ≡ Equal → chain_rows cmp F key (λ _. []) m (Some l) ≡ []
    unfolding chain_rows
    equal-none zero l e next row keyed equal = refl
    equal-none (suc m) l e next row keyed equal =
        chain-row cmp F key (λ _. []) m l ∙ ap (λ q. match_ordering q (l ∷ chain_rows cmp F key (λ _. []) m (next_in (F l))) [] []) (order-row cmp F key l e next row keyed ∙ equal)

-- the first of some chain rows
row-of : {K : Type 0} (F : Forms K) (a : Option ℕ) (e : Entry K) (es : List (Entry K)) → AreChainRows F a (e ∷ es)
    → (k : ℕ) × (next : Option ℕ) × (a ≡ Some k) × (F k ≡ Some (node chain (e.link ∷ option_to_list next))) × (key_at F e.link ≡ Some e.key) × AreChainRows F next es
unfolding AreChainRows
row-of F a e es rows = (rows.link, rows.next, rows.here, rows.row, rows.key, rows.rest)

some-row : {K : Type 0} (F : Forms K) (a : Option ℕ) (es : List (Entry K)) → AreChainRows F a es → 1 ≤ length es → (m : ℕ) × (a ≡ Some m)
some-row F a [] rows some = absurd (omega (arith, some))
some-row F a (e ∷ es) rows some = let at = row-of F a e es rows in (at.0, at.2)

-- a front of no rows is of no entries
front-empty : {K : Type 0} (F : Forms K) (a : Option ℕ) (es : List (Entry K)) (rest : Option ℕ) → IsFront F a [] es rest → es ≡ []
unfolding IsFront
front-empty F a [] rest is = refl
front-empty F a (e ∷ es) rest is = absurd is

-- one hold more, which is a change apart from the row
pub hold-change : {T : Type 0} {old new : Heap T} (r link : ℕ) → IsGraph old → IsGraph new → SameRows old new → ((k : ℕ) → holds_at new k ≡ holds_at old k + one_at link k) → AddsOwner old new link → Makes old new 0 0 → hold_count new ≡ hold_count old + 1 → Extends old new
    → ¬ Reaches (links_at old) link r → Changes r old new [] (link ∷ []) 0 0
hold-change r link graph graph' rows holds owners makes total extends off =
    Changes-hold r link graph owners
    (record { extends = extends; graph = graph'; holds = λ k. omega (arith, holds k, count-one k link); total = omega (arith, total); cells = 0; nodes = 0; few_cells = omega arith; few_nodes = omega arith; makes = makes }) off

-- the entry of a key that is there
pub there-is : {K : Type 0} (o : Option (Entry K)) (q : Option ℕ) → option_map (λ (e : Entry K). e.link) o ≡ q → q ≢ None → (e : Entry K) × (o ≡ Some e)
there-is None q is some = absurd (some (sym is))
there-is (Some e) q is some = (e, refl)

-- a row that the held link doesn't reach has the owners that it had
pub sole-held : {T : Type 0} (old new : Heap T) (r link : ℕ) → AddsOwner old new link → ¬ Reaches (links_at old) link r → owners_at old r ≡ 1 → owners_at new r ≡ 1
sole-held old new r link owners off sole =
    omega (arith, sole, owners r, test_other r link (λ same. off (subst (λ k. Reaches (links_at old) k r) same (here r))))

-- nor does it reach it now
pub apart-held : {T : Type 0} (old new : Heap T) (r link : ℕ) → SameRows old new → ¬ Reaches (links_at old) link r → ¬ Reaches (links_at new) link r
apart-held old new r link rows off way = off (Reaches-by (links_at new) (links_at old) (λ k. ap links_of (sym (rows k))) link r way)

-- the chain at a place, whose rows of smaller keys were made one's own
pub record OwnsSmaller {T : Type 0} (cmp : T → T → Ordering) (old now : Heap T) (row index r i : ℕ) (E : List (Entry T)) (key : T) : Type 0 where
  pub total : IsTotalOrder cmp
  pub graph : IsGraph old
  pub inside : index < length (links_at old row)
  pub chained : IsChain cmp (form_at old) (child_at old row index) E
  pub parts : Parts cmp key chained.entries
  pub owns : OwnsRows old now row index parts.smaller r i

module _ {T : Type 0} {cmp : T → T → Ordering} {old now : Heap T} {row index r i : ℕ} {E : List (Entry T)} {key : T} (w : OwnsSmaller cmp old now row index r i E key) where
  there : link_in old row index ≡ Some (child_at old row index)
  there = slice_get-get_or (links_at old row) index 0 w.inside

  -- the rows from the place on
  after-old : AreChainRows (form_at old) (link_in now r i) (option_to_list w.parts.equal ++ w.parts.greater)
  after-old =
      let after : List (Entry T) = option_to_list w.parts.equal ++ w.parts.greater in
      front-rest (form_at old) (link_in old row index) w.owns.rows w.parts.smaller (link_in now r i) after w.owns.was
      (subst (λ a. AreChainRows (form_at old) a (w.parts.smaller ++ after)) (sym there) (subst (AreChainRows (form_at old) (Some (child_at old row index))) w.parts.in_order w.chained.rows))

  pub size-all : length E ≡ length w.parts.smaller + (length (option_to_list w.parts.equal) + length w.parts.greater)
  size-all = omega (arith, ap length w.parts.in_order, length-append w.parts.smaller (option_to_list w.parts.equal ++ w.parts.greater), length-append (option_to_list w.parts.equal) w.parts.greater, same-length w.chained.entries E w.chained.same)

  -- the place was written, and leads on to another rest
  module _ {new : Heap T} {c n : ℕ} {spent gained : List ℕ} (child : EditsChild row index old new spent gained c n) (rest : Option ℕ) (front : IsFront (form_at new) (link_in new row index) w.owns.own w.parts.smaller rest) where
    there-new : link_in new row index ≡ Some (child_at new row index)
    there-new = slice_get-get_or (links_at new row) index 0 (omega (arith, w.inside, ap length child.links, length-set (links_at old row) index (child_at new row index)))

    rows-after : (es : List (Entry T)) → AreChainRows (form_at new) rest es → AreChainRows (form_at new) (Some (child_at new row index)) (w.parts.smaller ++ es)
    rows-after es rows = subst (λ a. AreChainRows (form_at new) a (w.parts.smaller ++ es)) there-new (front-rows (form_at new) (link_in new row index) w.owns.own w.parts.smaller rest es front rows)

    -- none of these rows is on the path
    module _ (none_old : (m : ℕ) → chain_rows cmp (form_at old) key (λ _. []) m (link_in now r i) ≡ []) (none_new : (m : ℕ) → chain_rows cmp (form_at new) key (λ _. []) m rest ≡ []) where
      was-path : (most : ℕ) → length E ≤ most → chain_rows cmp (form_at old) key (λ _. []) most (Some (child_at old row index)) ≡ w.owns.rows ++ []
      was-path most short =
          let m : ℕ = most - length w.parts.smaller in
          ap (chain_rows cmp (form_at old) key (λ _. []) most) (sym there)
          ∙ front-path (form_at old) cmp key (λ _. []) most m (link_in old row index) w.owns.rows w.parts.smaller (link_in now r i) (omega (arith, size-all, short)) w.parts.are_smaller w.owns.was
          ∙ ap (λ (ks : List ℕ). w.owns.rows ++ ks) (none_old m)

      now-path : (more : ℕ) → length E ≤ more → chain_rows cmp (form_at new) key (λ _. []) more (Some (child_at new row index)) ≡ w.owns.own ++ []
      now-path more short =
          let m : ℕ = more - length w.parts.smaller in
          ap (chain_rows cmp (form_at new) key (λ _. []) more) (sym there-new)
          ∙ front-path (form_at new) cmp key (λ _. []) more m (link_in new row index) w.owns.own w.parts.smaller rest (omega (arith, size-all, short)) w.parts.are_smaller front
          ∙ ap (λ (ks : List ℕ). w.owns.own ++ ks) (none_new m)

      path-kept : (most more : ℕ) → length E ≤ most → length E ≤ more → KeepsAlone old (chain_rows cmp (form_at old) key (λ _. []) most (Some (child_at old row index))) (chain_rows cmp (form_at new) key (λ _. []) more (Some (child_at new row index)))
      path-kept most more short short' = rw (was-path most short, now-path more short') (w.owns.path [] [] (λ some. absurd (omega (arith, some))) (KeepsAlone-none now))

      path-came : (most : ℕ) → length E ≤ most → MakesCopies old now (chain_rows cmp (form_at old) key (λ _. []) most (Some (child_at old row index)))
      path-came most short =
          let came : MakesCopies old now (w.owns.rows ++ []) = omega (arith, w.owns.came [] (λ some. absurd (omega (arith, some))), length-append w.owns.rows []) in
          subst (MakesCopies old now) (sym (was-path most short)) came

      path-writes : ((m : ℕ) → m ≢ r → IsSome (row_at now m) → row_at new m ≡ row_at now m) → (most : ℕ) → length E ≤ most → WritesBelow row old new (chain_rows cmp (form_at old) key (λ _. []) most (Some (child_at old row index)))
      path-writes kept most short m live other off =
          let before = w.owns.others [] (λ some. absurd (omega (arith, some))) m live other (subst (λ ks. count m (written old ks) ≡ 0) (was-path most short) off) in
          kept m before.1 (subst IsSome (sym before.0) live) ∙ before.0

-- an entry of a key that the chain at a place lacks is to be put into it, and its rows of smaller keys were made one's own
pub record MeetsGap {T : Type 0} (cmp : T → T → Ordering) (old now : Heap T) (row index r i : ℕ) (E : List (Entry T)) (key : T) (x : ℕ) : Type 0 where
  pub on : OwnsSmaller cmp old now row index r i E key
  pub apart : ¬ Reaches (links_at old) x row
  pub held : 0 < holds_at old x
  pub keyed : key_at (form_at old) x ≡ Some key
  pub equal : on.parts.equal ≡ None

module _ {T : Type 0} {cmp : T → T → Ordering} {old now : Heap T} {row index r i : ℕ} {E : List (Entry T)} {key : T} {x : ℕ} (w : MeetsGap cmp old now row index r i E key x) where
  graph_now : IsGraph now
  graph_now = w.on.owns.child.changes.trades.graph

  back-old : AreChainRows (form_at old) (link_in now r i) w.on.parts.greater
  back-old = subst (λ q. AreChainRows (form_at old) (link_in now r i) (option_to_list q ++ w.on.parts.greater)) w.equal (after-old w.on)

  pub few-smaller : length w.on.parts.smaller ≤ length E
  few-smaller = omega (arith, size-all w.on)

  held-now : 0 < holds_at now x
  held-now = omega (arith, w.held, w.on.owns.child.changes.trades.holds x)

  keeps-x : KeepsBelow old now x
  keeps-x = KeepsBelow-apart w.on.owns.child.changes.apart x (omega (arith, w.held)) w.apart

  off-row : ¬ Reaches (links_at now) x row
  off-row way = w.apart (Reaches-back old now x row keeps-x way)

  off-r : ¬ Reaches (links_at now) x r
  off-r = paths-off now row r x w.on.owns.down held-now off-row

  live-r : IsSome (row_at now r)
  live-r = owned-live now graph_now r (omega (arith, w.on.owns.sole))

  -- the row of the place: that above the chain, or a chain row
  by-slot : ((r ≡ row) × (i ≡ index) × (i < length (links_at now r))) ⊎ ((i ≡ 1) × (y : ℕ) × (form_at now r ≡ Some (node chain (y ∷ option_to_list (link_in now r i)))))
  by-slot = elim w.on.owns.slot as (λ _. ((r ≡ row) × (i ≡ index) × (i < length (links_at now r))) ⊎ ((i ≡ 1) × (y : ℕ) × (form_at now r ≡ Some (node chain (y ∷ option_to_list (link_in now r i)))))) [
    | inl at ↦ inl (at.2, at.3, omega (arith, w.on.inside, ap length w.on.owns.child.links, length-set (links_at old row) index (child_at now row index), ap (λ k. length (links_at now k)) at.2, at.3))
    | inr past ↦ let last = front-end (form_at now) (link_in now row index) past.before r w.on.parts.smaller (link_in now r i) (subst (λ ks. IsFront (form_at now) (link_in now row index) ks w.on.parts.smaller (link_in now r i)) past.last w.on.owns.is) in inr (past.second, last.0, last.1)
  ]

  links-second : (y : ℕ) → form_at now r ≡ Some (node chain (y ∷ option_to_list (link_in now r i))) → links_at now r ≡ y ∷ option_to_list (link_in now r i)
  links-second y is = sym (links-form now r) ∙ ap links_of is

  node-r : is_node (row_at now r) ≡ 1
  node-r = elim by-slot as (λ _. is_node (row_at now r) ≡ 1) [
    | inl at ↦ linked-node (row_at now r) (child_at now r i) (child-linked now r i at.2)
    | inr at ↦ node-form (row_at now r) chain (at.1 ∷ option_to_list (link_in now r i)) at.2
  ]

  short-r : length (remove (links_at now r) i) < 32
  short-r = elim by-slot as (λ _. length (remove (links_at now r) i) < 32) [
    | inl at ↦ omega (arith, length-remove (links_at now r) i at.2, graph_now.short r)
    | inr at ↦ omega (arith, ap length (ap (λ (ks : List ℕ). remove ks i) (links-second at.1 at.2)), ap (λ (j : ℕ). length (remove (at.1 ∷ option_to_list (link_in now r i)) j)) at.0, second-gone at.1 (link_in now r i))
  ]

  place-r : i ≤ length (remove (links_at now r) i)
  place-r = elim by-slot as (λ _. i ≤ length (remove (links_at now r) i)) [
    | inl at ↦ omega (arith, length-remove (links_at now r) i at.2, at.2)
    | inr at ↦ omega (arith, at.0, ap length (ap (λ (ks : List ℕ). remove ks i) (links-second at.1 at.2)), ap (λ (j : ℕ). length (remove (at.1 ∷ option_to_list (link_in now r i)) j)) at.0, second-gone at.1 (link_in now r i))
  ]

  -- what stood at the place was taken out
  module _ {cut : Heap T} {next : Option ℕ} (next_is : next ≡ link_in now r i) (writes : Writes now cut r (head_of (row_at now r)) (remove (links_at now r) i)) (owners : KeepsOwners now cut) (change : Changes r now cut [] (option_to_list next) 0 0) (makes : Makes now cut 0 0) where
    gains-cut : Gains now cut
    gains-cut = Gains-Changes change (λ k other live. writes.others k other) makes

    live-cut : IsSome (row_at cut r)
    live-cut = gains-cut.stays r live-r

    pub held-cut : (k : ℕ) → count k (x ∷ option_to_list next) ≤ holds_at cut k
    held-cut k = omega (arith, change.trades.holds k, count-cons k x (option_to_list next), held-one now x k held-now, count-one k x)

    keeps-off : (l : ℕ) → ¬ Reaches (links_at now) l r → KeepsBelow now cut l
    keeps-off l off m way = writes.others m (λ same. off (subst (Reaches (links_at now) l) same way))

    linked-next : (m : ℕ) → next ≡ Some m → HasLink (links_at now) r m
    linked-next m is =
        let at : link_in now r i ≡ Some m = sym next_is ∙ is in
        count-at (links_at now r) i m (slice_get_within (links_at now r) i m at) (get_or_from_slice_get (links_at now r) i m 0 at)

    off-next : (m : ℕ) → next ≡ Some m → ¬ Reaches (links_at now) m r
    off-next m is = IsGraph-acyclic now graph_now r m (linked-next m is)

    -- a row over the entry was made
    module _ {made : Heap T} {R : ℕ} (row_is : row_at made R ≡ Some (node Chain (x ∷ option_to_list next))) (fresh : row_at cut R ≡ None) (adds : AddsOwner cut made R) (builds : Builds cut made (x ∷ option_to_list next) (R ∷ []) 0 1) where
      not-new : (k : ℕ) → IsSome (row_at cut k) → k ≢ R
      not-new k live same = let gone : row_at cut k ≡ None = ap (row_at cut) same ∙ fresh in absurd cc

      owners-made : (k : ℕ) → IsSome (row_at cut k) → owners_at made k ≡ owners_at cut k
      owners-made k live = omega (arith, adds k, test_other k R (not-new k live))

      pub sole-made : owners_at made r ≡ 1
      sole-made = owners-made r live-cut ∙ owners r ∙ w.on.owns.sole

      row-made : row_at made r ≡ row_at cut r
      row-made = Extends-row builds.extends r live-cut

      links-made : links_at made r ≡ remove (links_at now r) i
      links-made = ap links_of row-made ∙ writes.new_links

      pub node-made : is_node (row_at made r) ≡ 1
      node-made = node-head (row_at made r) (row_at now r) (ap head_of row-made ∙ writes.new_head) node-r

      pub index-made : i ≤ length (links_at made r)
      index-made = omega (arith, ap length links-made, place-r)

      pub room-made : length (links_at made r) < 32
      room-made = omega (arith, ap length links-made, short-r)

      pub held-made : 0 < holds_at made R
      held-made = omega (arith, builds.holds R, held-cut R, count-one R R, one_at-same R)

      pub apart-made : ¬ Reaches (links_at made) R r
      apart-made way =
          let up = new-reach cut made (x ∷ option_to_list next) (R ∷ []) 0 1 owners-made builds R r fresh live-cut way in
          elim (one-of up.0 x next up.1) as (λ _. ⊥) [
            | inl same ↦ off-r (Reaches-back now cut x r (keeps-off x off-r) (subst (λ l. Reaches (links_at cut) l r) same up.2))
            | inr is ↦ off-next up.0 is (Reaches-back now cut up.0 r (keeps-off up.0 (off-next up.0 is)) up.2)
          ]

      -- it came to the place
      module _ {new : Heap T} (writes' : Writes made new r (head_of (row_at made r)) (insert (links_at made r) i R)) (change' : Changes r made new (R ∷ []) [] 0 0) (makes' : Makes made new 0 0) where
        others-kept : (m : ℕ) → m ≢ r → IsSome (row_at now m) → row_at new m ≡ row_at now m
        others-kept m other live = writes'.others m other ∙ Extends-row builds.extends m (gains-cut.stays m live) ∙ writes.others m other

        links-new : links_at new r ≡ insert (remove (links_at now r) i) i R
        links-new = writes'.new_links ∙ ap (λ (ks : List ℕ). insert ks i R) links-made

        head-new : head_of (row_at new r) ≡ head_of (row_at now r)
        head-new = writes'.new_head ∙ ap head_of row-made ∙ writes.new_head

        all-change : Changes r now new (x ∷ []) [] 0 1
        all-change =
            let built : Changes r cut made (x ∷ option_to_list next) (R ∷ []) 0 1 = Changes-Builds r change.trades.graph (λ k up one. owners-made k (above_live cut k r up live-cut) ∙ one) builds in
            let two : Changes r now made (x ∷ []) (R ∷ []) (0 + 0) (0 + 1) =
            Changes-both (x ∷ []) (R ∷ []) change built
            (λ k. omega (arith, count-cons k x (option_to_list next), count-one k x)) (λ k. omega arith) (λ k. omega (arith, count-cons k x (option_to_list next), count-one k x)) (omega arith) in
            Changes-more 0 1 (Changes-then two change') (omega arith) (omega arith)

        gains-new : Gains now new
        gains-new = Gains-trans gains-cut (Gains-trans (Gains-Builds builds) (Gains-Changes change' (λ k other live. writes'.others k other) makes'))

        at-first : r ≡ row → i ≡ index → (k : ℕ) × (Some R ≡ Some k) × (links_at new r ≡ set (links_at now r) i k)
        at-first same_row same_index =
            let lt : i < length (links_at now r) = omega (arith, w.on.inside, ap length w.on.owns.child.links, length-set (links_at old row) index (child_at now row index), ap (λ k. length (links_at now k)) same_row, same_index) in
            (R, refl, links-new ∙ insert-removed (links_at now r) i R lt)

        at-row : i ≡ 1 → (y : ℕ) → form_at now r ≡ Some (node chain (y ∷ option_to_list (link_in now r i))) → form_at new r ≡ Some (node chain (y ∷ option_to_list (Some R)))
        at-row second y was =
            let links : links_at new r ≡ y ∷ R ∷ [] =
            links-new ∙ ap (λ (ks : List ℕ). insert (remove ks i) i R) (links-second y was) ∙ ap (λ j. insert (remove (y ∷ option_to_list (link_in now r i)) j) j R) second ∙ second-turned y R (link_in now r i) in
            row-form (row_at new r) (row_at now r) chain (y ∷ option_to_list (link_in now r i)) (y ∷ R ∷ []) head-new links was

        child-new : EditsChild row index old new (x ∷ []) [] 0 (length w.on.parts.smaller + 1)
        child-new = written-child w.on.inside w.on.owns all-change (unspent-one now row x off-row) others-kept (Some R) head-new at-first at-row

        front-new : IsFront (form_at new) (link_in new row index) w.on.owns.own w.on.parts.smaller (Some R)
        front-new = written-front w.on.inside w.on.owns all-change (unspent-one now row x off-row) others-kept (Some R) head-new at-first at-row

        keyed-new : key_at (form_at new) x ≡ Some key
        keyed-new = keys-stay now new r w.on.owns.keyless others-kept x key (key-stays (form_at old) (form_at now) x (forms-below old now x keeps-x) x key (here x) w.keyed)

        row-new : form_at new R ≡ Some (node chain (x ∷ option_to_list next))
        row-new = ap (option_map form_of) (writes'.others R (λ same. not-new r live-cut (sym same)) ∙ row_is)

        keeps-next : (m : ℕ) → next ≡ Some m → KeepsBelow old new m
        keeps-next m is =
            KeepsBelow-trans old now new m (w.on.owns.left m (sym next_is ∙ is))
            (λ k way. others-kept k (λ same. off-next m is (subst (Reaches (links_at now) m) same way)) (Reaches-live now graph_now m k way (graph_now.closed r m (linked-next m is))))

        back-new : AreChainRows (form_at new) next w.on.parts.greater
        back-new = rows-below-stay (form_at old) (form_at new) next w.on.parts.greater (λ m is. forms-below old new m (keeps-next m is)) (subst (λ a. AreChainRows (form_at old) a w.on.parts.greater) (sym next_is) back-old)

        rows-new : AreChainRows (form_at new) (Some (child_at new row index)) (w.on.parts.smaller ++ entry key x ∷ w.on.parts.greater)
        rows-new = rows-after w.on child-new _ front-new (entry key x ∷ w.on.parts.greater) (rows-over (form_at new) R (entry key x) next w.on.parts.greater row-new keyed-new back-new)

        none-old : (m : ℕ) → chain_rows cmp (form_at old) key (λ _. []) m (link_in now r i) ≡ []
        none-old m = greater-none (form_at old) cmp w.on.total key m (link_in now r i) w.on.parts.greater back-old w.on.parts.are_greater

        none-new : (m : ℕ) → chain_rows cmp (form_at new) key (λ _. []) m (Some R) ≡ []
        none-new m = equal-none (form_at new) cmp w.on.total key m R (entry key x) next row-new keyed-new (tied_itself w.on.total key)

        pub puts-in-chain : PutsInChain cmp old new row index E key x
        puts-in-chain = record {
          child = child-more 0 (length E + 1) child-new (omega arith) (omega (arith, few-smaller));
          chain = chain-with cmp w.on.total (form_at old) (form_at new) (child_at old row index) (child_at new row index) x E key w.on.chained w.on.parts rows-new;
          gains = Gains-trans w.on.owns.gains gains-new;
          path = λ most more short short'. path-kept w.on child-new _ front-new none-old none-new most more short (omega (arith, short'));
          came = λ most short. omega (arith, path-came w.on child-new _ front-new none-old none-new most short, makes.live, builds.makes.live, builds.few_cells, builds.few_nodes, makes'.live);
          writes = path-writes w.on child-new _ front-new none-old none-new others-kept;
        }

-- the chain at a place has the key, and its rows of smaller keys were made one's own: the key's row is at this place now
pub record MeetsKey {T : Type 0} (cmp : T → T → Ordering) (old now : Heap T) (row index r i : ℕ) (E : List (Entry T)) (key : T) : Type 0 where
  pub on : OwnsSmaller cmp old now row index r i E key
  pub entry : Entry T
  pub equal : on.parts.equal ≡ Some entry

module _ {T : Type 0} {cmp : T → T → Ordering} {old now : Heap T} {row index r i : ℕ} {E : List (Entry T)} {key : T} (w : MeetsKey cmp old now row index r i E key) where
  cut-graph_now : IsGraph now
  cut-graph_now = w.on.owns.child.changes.trades.graph

  size : length E ≡ length w.on.parts.smaller + suc (length w.on.parts.greater)
  size = omega (arith, size-all w.on, ap (λ q. length (option_to_list q)) w.equal)

  equal-key : cmp w.entry.key key ≡ Equal
  equal-key = let is : IfSome (Some w.entry) (λ (d : Entry T). cmp key d.key ≡ Equal) = subst (λ q. IfSome q (λ (d : Entry T). cmp key d.key ≡ Equal)) w.equal w.on.parts.is_equal in tied_back w.on.total key w.entry.key is

  found : (k : ℕ) × (next : Option ℕ) × (link_in now r i ≡ Some k) × (form_at old k ≡ Some (node chain (w.entry.link ∷ option_to_list next))) × (key_at (form_at old) w.entry.link ≡ Some w.entry.key) × AreChainRows (form_at old) next w.on.parts.greater
  found = row-of (form_at old) (link_in now r i) w.entry w.on.parts.greater (subst (λ q. AreChainRows (form_at old) (link_in now r i) (option_to_list q ++ w.on.parts.greater)) w.equal (after-old w.on))

  pub next-cut : Option ℕ
  next-cut = found.1

  pub inside-cut : i < length (links_at now r)
  inside-cut = slice_get_within (links_at now r) i found.0 found.2

  child-is : child_at now r i ≡ found.0
  child-is = get_or_from_slice_get (links_at now r) i found.0 0 found.2

  at-cut : link_in now r i ≡ Some (child_at now r i)
  at-cut = found.2 ∙ ap Some (sym child-is)

  form-old : form_at old (child_at now r i) ≡ Some (node chain (w.entry.link ∷ option_to_list next-cut))
  unfolding next-cut
  form-old = ap (form_at old) child-is ∙ found.3

  pub form-cut : form_at now (child_at now r i) ≡ Some (node chain (w.entry.link ∷ option_to_list next-cut))
  form-cut = ap (option_map form_of) (w.on.owns.left (child_at now r i) at-cut (child_at now r i) (here (child_at now r i))) ∙ form-old

  rest-old : AreChainRows (form_at old) next-cut w.on.parts.greater
  unfolding next-cut
  rest-old = found.5

  linked-cut : HasLink (links_at now) r (child_at now r i)
  linked-cut = child-linked now r i inside-cut

  pub cut-linked-next : (m : ℕ) → next-cut ≡ Some m → HasLink (links_at now) (child_at now r i) m
  cut-linked-next m is = subst (λ ks. 0 < count m ks) (links-form now (child_at now r i)) (has-next (form_at now) (child_at now r i) w.entry.link m chain (form-cut ∙ ap (λ (q : Option ℕ). Some (node chain (w.entry.link ∷ option_to_list q))) is))

  linked-old : (m : ℕ) → next-cut ≡ Some m → HasLink (links_at old) (child_at now r i) m
  linked-old m is = subst (λ ks. 0 < count m ks) (links-form old (child_at now r i)) (has-next (form_at old) (child_at now r i) w.entry.link m chain (form-old ∙ ap (λ (q : Option ℕ). Some (node chain (w.entry.link ∷ option_to_list q))) is))

  pub cut-off-next : (m : ℕ) → next-cut ≡ Some m → ¬ Reaches (links_at now) m r
  cut-off-next m is way = IsGraph-acyclic now cut-graph_now r (child_at now r i) linked-cut (below (child_at now r i) m r (cut-linked-next m is) way)

  pub live-next : (m : ℕ) → next-cut ≡ Some m → IsSome (row_at now m)
  live-next m is = cut-graph_now.closed (child_at now r i) m (cut-linked-next m is)

  -- the place was written
  module _ (long : 3 ≤ length E) (new : Heap T) (heads : head_of (row_at new r) ≡ head_of (row_at now r)) (links-none : next-cut ≡ None → links_at new r ≡ remove (links_at now r) i) (links-some : (m : ℕ) → next-cut ≡ Some m → links_at new r ≡ set (links_at now r) i m)
      (kept : (m : ℕ) → m ≢ r → row_at new m ≡ row_at now m) (change : Changes r now new [] (child_at now r i ∷ []) 0 0) where
    next-some : w.on.parts.smaller ≡ [] → (m : ℕ) × (next-cut ≡ Some m)
    next-some none = some-row (form_at old) next-cut w.on.parts.greater rest-old (omega (arith, size, ap length none, long))

    cut-at-first : r ≡ row → i ≡ index → (k : ℕ) × (next-cut ≡ Some k) × (links_at new r ≡ set (links_at now r) i k)
    cut-at-first same_row same_index = elim w.on.owns.slot as (λ _. (k : ℕ) × (next-cut ≡ Some k) × (links_at new r ≡ set (links_at now r) i k)) [
      | inl at ↦
          let none = front-empty (form_at now) (link_in now row index) w.on.parts.smaller (link_in now r i) (subst (λ ks. IsFront (form_at now) (link_in now row index) ks w.on.parts.smaller (link_in now r i)) at.0 w.on.owns.is) in
          let some = next-some none in
          (some.0, some.1, links-some some.0 some.1)
      | inr past ↦
          let lt : index < length (links_at now row) = omega (arith, w.on.inside, ap length w.on.owns.child.links, length-set (links_at old row) index (child_at now row index)) in
          let down : Reaches (links_at now) (child_at now row index) r = IsSolePath-Reaches (owners_at now) (links_at now) (child_at now row index) r past.below in
          absurd (IsGraph-acyclic now cut-graph_now row (child_at now row index) (child-linked now row index lt) (subst (Reaches (links_at now) (child_at now row index)) same_row down))
    ]

    cut-at-row : i ≡ 1 → (y : ℕ) → form_at now r ≡ Some (node chain (y ∷ option_to_list (link_in now r i))) → form_at new r ≡ Some (node chain (y ∷ option_to_list next-cut))
    cut-at-row second y was =
        let links : links_at now r ≡ y ∷ child_at now r i ∷ [] = sym (links-form now r) ∙ ap links_of was ∙ ap (λ (q : Option ℕ). y ∷ option_to_list q) at-cut in
        row-form (row_at new r) (row_at now r) chain (y ∷ option_to_list (link_in now r i)) (y ∷ option_to_list next-cut) heads (by_next next-cut refl links) was
      where
        by_next : (q : Option ℕ) → next-cut ≡ q → links_at now r ≡ y ∷ child_at now r i ∷ [] → links_at new r ≡ y ∷ option_to_list next-cut
        by_next None is links = links-none is ∙ ap (λ (ks : List ℕ). remove ks i) links ∙ ap (λ (j : ℕ). remove (y ∷ child_at now r i ∷ []) j) second ∙ ap (λ (q : Option ℕ). y ∷ option_to_list q) (sym is)
        by_next (Some m) is links = links-some m is ∙ ap (λ (ks : List ℕ). set ks i m) links ∙ ap (λ (j : ℕ). set (y ∷ child_at now r i ∷ []) j m) second ∙ ap (λ (q : Option ℕ). y ∷ option_to_list q) (sym is)

    cut-child-new : EditsChild row index old new [] (child_at now r i ∷ []) 0 (length w.on.parts.smaller + 0)
    cut-child-new = written-child w.on.inside w.on.owns change (λ u up. refl) (λ m other live. kept m other) next-cut heads cut-at-first cut-at-row

    cut-front-new : IsFront (form_at new) (link_in new row index) w.on.owns.own w.on.parts.smaller next-cut
    cut-front-new = written-front w.on.inside w.on.owns change (λ u up. refl) (λ m other live. kept m other) next-cut heads cut-at-first cut-at-row

    cut-keeps-next : (m : ℕ) → next-cut ≡ Some m → KeepsBelow old new m
    cut-keeps-next m is =
        KeepsBelow-trans old now new m (SameBelow-link (links_at old) (row_at old) (row_at now) (child_at now r i) m (linked-old m is) (w.on.owns.left (child_at now r i) at-cut))
        (λ k way. kept k (λ same. cut-off-next m is (subst (Reaches (links_at now) m) same way)))

    greater-new : AreChainRows (form_at new) next-cut w.on.parts.greater
    greater-new = rows-below-stay (form_at old) (form_at new) next-cut w.on.parts.greater (λ m is. forms-below old new m (cut-keeps-next m is)) rest-old

    cut-rows-new : AreChainRows (form_at new) (Some (child_at new row index)) (w.on.parts.smaller ++ w.on.parts.greater)
    cut-rows-new = rows-after w.on cut-child-new _ cut-front-new w.on.parts.greater greater-new

    chain-new : IsChain cmp (form_at new) (child_at new row index) (others cmp key E)
    chain-new =
        let same : SameSet (w.on.parts.smaller ++ w.on.parts.greater) (others cmp key E) =
        subst (λ ys. SameSet ys (others cmp key E)) (others-parts cmp w.on.total key w.on.chained.entries w.on.parts) (same-filter (λ d. not (has_key cmp key d)) w.on.chained.entries E w.on.chained.same) in
        record {
          entries = w.on.parts.smaller ++ w.on.parts.greater;
          rows = cut-rows-new;
          rising = rising-without cmp w.on.total key w.on.chained.entries w.on.parts w.on.chained.rising;
          same = same;
          two = omega (arith, same-length (w.on.parts.smaller ++ w.on.parts.greater) (others cmp key E) same, length-append w.on.parts.smaller w.on.parts.greater, size, long);
        }

    cut-none-old : (m : ℕ) → chain_rows cmp (form_at old) key (λ _. []) m (link_in now r i) ≡ []
    cut-none-old m = ap (chain_rows cmp (form_at old) key (λ _. []) m) found.2 ∙ equal-none (form_at old) cmp w.on.total key m found.0 w.entry found.1 found.3 found.4 equal-key

    cut-none-new : (m : ℕ) → chain_rows cmp (form_at new) key (λ _. []) m next-cut ≡ []
    cut-none-new m = greater-none (form_at new) cmp w.on.total key m next-cut w.on.parts.greater greater-new w.on.parts.are_greater

    pub cuts-from-chain : Gains now new → CutsFromChain cmp old new row index E key (child_at now r i)
    cuts-from-chain gain = record {
      child = child-more 0 (length E) cut-child-new (omega arith) (omega (arith, size));
      chain = chain-new;
      gains = Gains-trans w.on.owns.gains gain;
      path = path-kept w.on cut-child-new _ cut-front-new cut-none-old cut-none-new;
      came = λ most short. omega (arith, path-came w.on cut-child-new _ cut-front-new cut-none-old cut-none-new most short, gain.makes.live, gain.makes.cells, gain.makes.nodes, change.trades.cells, change.trades.nodes);
      writes = path-writes w.on cut-child-new _ cut-front-new cut-none-old cut-none-new (λ m other live. kept m other);
    }
