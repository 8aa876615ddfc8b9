-- Each pair below a trie of pairs of cells is that of an entry.
use Rattle.std.proofs.Common.{◌≡◌, ◌⊎◌, ℕ, suc, ◌<◌, List, [], ◌∷◌, Some, take, ap, sym, subst, ◌∙◌, arith, inl, inr}
use Rattle.std.specs.List.{All}
use Rattle.std.specs.Prelude.{option_to_list}
use Rattle.std.specs.declared.cmp.Ordering.{Ordering}
use Rattle.std.proofs.lemmas.Bool.{cases_eq, cases_lt}
use Rattle.std.proofs.lemmas.List.Elements.{All-head, All-tail}
use Rattle.node_heap.specs.Links.{count, HasLink, Reaches, here, below}
use Rattle.node_heap.specs.Forms.{Forms, cell, node, trie, chain, pair, links_of, links_in}
use Rattle.node_heap.proofs.Counts.{test_other, count-cons}
use Rattle.rrb_core.proofs.LinkCounts.{count-split}
use Rattle.champ_chain.specs.Entry.{Entry}
use Rattle.champ_chain.proofs.SetLemmas.{Among}
use Rattle.champ_chain.proofs.SpotLemmas.{first-row}
use Rattle.champ_trie.specs.Trie.{IsTrie}
use Rattle.champ_trie.specs.Walk.{entry_count, row_links, ReachesRow}
use Rattle.champ_trie.proofs.BelowLemmas.{one-counted, Stands, Under, under-trans, under-entry, trie-stands, stands-reach, trie-opened, child-at, link-child}

pub all-among : {X : Type 0} (P : X → Type 0) (x : X) (xs : List X) → All P xs → Among x xs → P x
all-among P x [] all among = absurd among
all-among P x (y ∷ ys) all (inl same) = subst P same (All-head P y ys all)
all-among P x (y ∷ ys) all (inr later) = all-among P x ys (All-tail P y ys all) later

-- one of two links
two-counted : (a b k : ℕ) → 0 < count k (a ∷ b ∷ []) → (P : ℕ → Type 0) → P a → P b → P k
two-counted a b k some P first second = elim (cases_eq a k) as (λ _. P k) [
  | inl same ↦ subst P same first
  | inr other ↦ subst P (one-counted k b (omega (arith, some, count-cons k a (b ∷ []), test_other a k other))) second
]

module _ {K : Type 0} (F : Forms K) where
  -- a row that a link reaches is a row of a trie, or stands below an entry
  rows-split : (l m : ℕ) → Reaches (links_in F) l m → ReachesRow F l m ⊎ ((x : ℕ) × Under F l x × Reaches (links_in F) x m)
  rows-split _ _ (here l) = inl (here l)
  rows-split _ _ (below l k m has down) = elim (cases_lt 0 (count k (take (entry_count (F l)) (links_of (F l))))) as (λ _. ReachesRow F l m ⊎ ((x : ℕ) × Under F l x × Reaches (links_in F) x m)) [
    | inl own ↦ inr (k, record { row = l; down = here l; own = own }, down)
    | inr none ↦ by_rest (omega (arith, has, none, count-split k (entry_count (F l)) (links_of (F l)))) (rows-split k m down)
  ]
    where
      by_rest : HasLink (row_links F) l k → ReachesRow F k m ⊎ ((x : ℕ) × Under F k x × Reaches (links_in F) x m) → ReachesRow F l m ⊎ ((x : ℕ) × Under F l x × Reaches (links_in F) x m)
      by_rest row (inl rows) = inl (below l k m row rows)
      by_rest row (inr rest) = inr (rest.0, under-trans F l k rest.0 (below l k k row (here k)) rest.1, rest.2)

  -- the entry is a pair of two cells
  pub record IsCellPair (e : Entry K) : Type 0 where
    pub key_cell : ℕ
    pub value_cell : ℕ
    pub key : K
    pub value : K
    pub row : F e.link ≡ Some (node pair (key_cell ∷ value_cell ∷ []))
    pub key_row : F key_cell ≡ Some (cell key)
    pub value_row : F value_cell ≡ Some (cell value)

  -- what is below such an entry and is a pair is the entry's
  below-pair : (e : Entry K) (m : ℕ) (ks : List ℕ) → IsCellPair e → F m ≡ Some (node pair ks) → (x : ℕ) → x ≡ e.link → Reaches (links_in F) x m → m ≡ e.link
  below-pair e m ks is row x same (here _) = same
  below-pair e m ks is row x same (below _ k _ has down) =
      let links : links_in F x ≡ is.key_cell ∷ is.value_cell ∷ [] = ap (links_in F) same ∙ ap links_of is.row in
      absurd (by_cell k (two-cells is k (omega (arith, has, ap (count k) links))) m down row)
    where
      two-cells : (is : IsCellPair e) (k : ℕ) → 0 < count k (is.key_cell ∷ is.value_cell ∷ []) → (y : K) × (F k ≡ Some (cell y))
      two-cells is k some = two-counted is.key_cell is.value_cell k some (λ j. (y : K) × (F j ≡ Some (cell y))) (is.key, is.key_row) (is.value, is.value_row)

      by_cell : (k : ℕ) → ((y : K) × (F k ≡ Some (cell y))) → (m : ℕ) → Reaches (links_in F) k m → F m ≡ Some (node pair ks) → ⊥
      by_cell _ at _ (here k) row = let both : Some (cell at.0) ≡ Some (node pair ks) = sym at.1 ∙ row in cc
      by_cell _ at _ (below k j m has down) row = omega (arith, has, ap (λ r. count j (links_of r)) at.1)

module _ {K : Type 0} (cmp : K → K → Ordering) (code : K → ℕ) (F : Forms K) where
  -- a row of a trie is no pair
  stands-no-pair : (d m : ℕ) (ks : List ℕ) → Stands cmp code F d m → F m ≡ Some (node pair ks) → ⊥
  stands-no-pair d m ks (inl stands) row =
      let is = trie-opened cmp code F stands.0 stands.1 m stands.2 stands.5 in
      let both : Some (node (trie stands.1 is.entries is.nodes) is.links) ≡ Some (node pair ks) = sym is.row.row ∙ row in
      cc
  stands-no-pair d m ks (inr rows) row =
      let at = first-row F m (rows.0 ∷ rows.1) rows.2 in
      let both : Some (node chain (at.first.link ∷ option_to_list at.next)) ≡ Some (node pair ks) = sym at.row ∙ row in
      cc

  row-no-pair : (left d l m : ℕ) (E : List (Entry K)) (ks : List ℕ) → IsTrie cmp code F (suc left) d l E → ReachesRow F l m → F m ≡ Some (node pair ks) → ⊥
  row-no-pair left d l m (e ∷ E) ks is rows row = stands-no-pair d m ks (stands-reach cmp code F d l m rows (trie-stands cmp code F (suc left) d l (e ∷ E) is (omega arith))) row
  row-no-pair left d _ _ [] ks is (here l) row =
      let at = trie-opened cmp code F left d l [] is in
      let both : Some (node (trie d at.entries at.nodes) at.links) ≡ Some (node pair ks) = sym at.row.row ∙ row in
      cc
  row-no-pair left d _ _ [] ks is (below l k m has down) row =
      let at = trie-opened cmp code F left d l [] is in
      let found = link-child cmp code F left d l [] at k has in
      let child = child-at cmp code F left d l [] at found.0 found.1 found.2 in
      absurd (omega (arith, child.two))

  -- a pair that the root of a trie of pairs reaches is that of an entry
  pub pair-entry : (left d l m : ℕ) (E : List (Entry K)) (ks : List ℕ) → IsTrie cmp code F (suc left) d l E → All (IsCellPair F) E → Reaches (links_in F) l m → F m ≡ Some (node pair ks) → (e : Entry K) × Among e E × (e.link ≡ m)
  pair-entry left d l m E ks is pairs way row = by_split (rows-split F l m way)
    where
      by_split : ReachesRow F l m ⊎ ((x : ℕ) × Under F l x × Reaches (links_in F) x m) → (e : Entry K) × Among e E × (e.link ≡ m)
      by_split (inl rows) = absurd (row-no-pair left d l m E ks is rows row)
      by_split (inr rest) =
          let found = under-entry cmp code F (suc left) d l E rest.0 is rest.1 in
          (found.0, found.1, sym (below-pair F found.0 m ks (all-among (IsCellPair F) found.0 E pairs found.1) row rest.0 (sym found.2) rest.2))
