-- The lowest row to which the digits of a code lead, by the sets and links that are read of it.
use Rattle.std.proofs.Common.{◌≡◌, ℕ, suc, ◌+◌, ◌-◌, ◌<◌, ◌≤◌, List, [], ◌∷◌, length, get_or, refl, ap, sym, subst, ◌∙◌, arith, IsSome, true, false}
use Rattle.std.specs.declared.cmp.Ordering.{Ordering}
use Rattle.elem_core.specs.Codes.{digit_at}
use Rattle.elem_core.specs.declared.codes.TheConstants.{DEEPEST, LEVELS}
use Rattle.node_heap.specs.Links.{HasLink}
use Rattle.node_heap.specs.Heap.{Heap, row_at, form_at, links_at, owners_at, IsGraph}
use Rattle.node_heap.specs.InPlace.{child_at}
use Rattle.node_heap.specs.Reads.{IsTrieForm}
use Rattle.champ_chain.specs.Entry.{Entry, entry, IsEntry}
use Rattle.champ_chain.specs.Chain.{IsChain}
use Rattle.champ_trie.specs.Trie.{IsTrie, IsPlace, IsRow, place_of}
use Rattle.champ_trie.specs.Reach.{agreeing}
use Rattle.champ_trie.specs.declared.place.Place.{Place}
use Rattle.champ_trie.specs.declared.place.Place.TheVariants.{Entry as At, Node, Empty}
use Rattle.champ_trie.proofs.CallerLemmas.{place-entry, place-node, place-empty, read-place, sets-short, row-there, next-place, trie-chain}
use Rattle.node_heap.proofs.CallerLemmas.{child-linked}
use Rattle.edit_trie.specs.Spot.{IsSpot}
use Rattle.edit_trie.specs.Way.{IsSoleWay}
use Rattle.edit_trie.specs.declared.row.Spot.{Spot}
use Rattle.edit_trie.specs.declared.row.Spot.TheVariants.{Entry as EntryAt, Node as NodeAt, Empty as NoneAt}
use Rattle.edit_trie.proofs.LoneLemmas.{link-at}
use Rattle.edit_trie.proofs.RowLemmas.{row-links, row-read, spot-read, entry-inside, node-inside}

-- what stands at a spot of these links
abbrev pub place_by : List ℕ → Spot → Place
place_by ls NoneAt = Empty
place_by ls (EntryAt i) = At (get_or ls i 0)
place_by ls (NodeAt i) = Node (get_or ls i 0)

spot-place : (e n p : ℕ) (ls : List ℕ) (spot : Spot) → IsSpot e n p spot → place_by ls spot ≡ place_of e n ls p
spot-place e n p ls NoneAt is = sym (place-empty e n ls p is.0 is.1)
spot-place e n p ls (EntryAt i) is = ap (λ j. At (get_or ls j 0)) is.1 ∙ sym (place-entry e n ls p is.0)
spot-place e n p ls (NodeAt i) is = ap (λ j. Node (get_or ls j 0)) is.2 ∙ sym (place-node e n ls p is.0 is.1)

module _ {T : Type 0} (cmp : T → T → Ordering) (code : T → ℕ) (h : Heap T) (E : List (Entry T)) (c d row : ℕ) (deep : d ≤ DEEPEST) (trie : IsTrie cmp code (form_at h) (LEVELS - d) d row (agreeing code d c E)) where
  pub row-is : (depth e n : ℕ) × (ls : List ℕ) × IsRow (form_at h) row depth e n ls
  row-is = row-there cmp code (form_at h) d row c E trie deep

  module _ {e' n' p : ℕ} {ls' : List ℕ} (read : IsTrieForm (form_at h row) e' n' ls') (digit : p ≡ digit_at c d) where
    links-of : links_at h row ≡ ls'
    links-of = row-links h row row-is.0 row-is.1 row-is.2 row-is.3 row-is.4 ∙ (row-read h row row-is.0 row-is.1 row-is.2 row-is.3 row-is.4 read).2

    pub few-links : length ls' ≤ 32
    few-links = omega (arith, sets-short row-is.1 row-is.2 row-is.3 row-is.4.sets, ap length (row-read h row row-is.0 row-is.1 row-is.2 row-is.3 row-is.4 read).2)

    -- by any sets and links of the row
    pub spot-of : (spot : Spot) → IsSpot e' n' p spot → (depth e n : ℕ) (ls : List ℕ) → IsRow (form_at h) row depth e n ls → IsSpot e n (digit_at c d) spot
    spot-of spot at depth e n ls is = let same = row-read h row depth e n ls is read in spot-read spot same.0 same.1 digit at

    pub leads-on : (spot : Spot) → IsSpot e' n' p spot → IsPlace (form_at h) (λ k P. IsTrie cmp code (form_at h) (LEVELS - (d + 1)) (d + 1) k P) (place_by ls' spot) (agreeing code (d + 1) c E)
    leads-on spot at =
        next-place cmp code (form_at h) d row c E trie deep p (place_by ls' spot) digit
        (λ depth e n ls is. spot-place e' n' p ls' spot at ∙ read-place (form_at h) row depth e n read.0 e' n' ls ls' p is read.1)

    pub entry-in : (i : ℕ) → IsSpot e' n' p (EntryAt i) → i < length ls'
    entry-in i at = omega (arith, entry-inside h row row-is.0 row-is.1 row-is.2 row-is.3 row-is.4 (digit_at c d) i (omega arith) (spot-of (EntryAt i) at row-is.0 row-is.1 row-is.2 row-is.3 row-is.4), ap length links-of)

    pub node-in : (i : ℕ) → IsSpot e' n' p (NodeAt i) → i < length ls'
    node-in i at = omega (arith, node-inside h row row-is.0 row-is.1 row-is.2 row-is.3 row-is.4 (digit_at c d) i (omega arith) (spot-of (NodeAt i) at row-is.0 row-is.1 row-is.2 row-is.3 row-is.4), ap length links-of)

    -- an entry that stands there alone
    pub entry-on : (i child : ℕ) → IsSpot e' n' p (EntryAt i) → child ≡ get_or ls' i child → (k : T) × (agreeing code (d + 1) c E ≡ entry k child ∷ []) × IsEntry (form_at h) (entry k child)
    entry-on i child at is = subst (λ x. (k : T) × (agreeing code (d + 1) c E ≡ entry k x ∷ []) × IsEntry (form_at h) (entry k x)) (sym (link-at ls' ls' i child is refl (entry-in i at))) (leads-on (EntryAt i) at)

    module _ (i child : ℕ) (at : IsSpot e' n' p (NodeAt i)) (is : child ≡ get_or ls' i child) where
      pub trie-on : IsTrie cmp code (form_at h) (LEVELS - (d + 1)) (d + 1) child (agreeing code (d + 1) c E)
      trie-on = subst (λ x. IsTrie cmp code (form_at h) (LEVELS - (d + 1)) (d + 1) x (agreeing code (d + 1) c E)) (sym (link-at ls' ls' i child is refl (node-in i at))) ((leads-on (NodeAt i) at).1)

      -- below the deepest row it is a chain
      pub chain-on : d ≡ DEEPEST → IsChain cmp (form_at h) child (agreeing code (d + 1) c E)
      chain-on deepest = trie-chain cmp code (form_at h) (d + 1) child (agreeing code (d + 1) c E) (subst (λ n. IsTrie cmp code (form_at h) n (d + 1) child (agreeing code (d + 1) c E)) none trie-on)
        where
          none : LEVELS - (d + 1) ≡ 0
          none = omega (arith, deepest)

      inside : i < length (links_at h row)
      inside = omega (arith, node-in i at, ap length links-of)

      there : child ≡ child_at h row i
      there = link-at ls' (links_at h row) i child is (sym links-of) inside

      pub child-of : HasLink (links_at h) row child
      child-of = subst (HasLink (links_at h) row) (sym there) (child-linked h row i inside)

      pub child-live : IsGraph h → IsSome (row_at h child)
      child-live graph = graph.closed row child child-of

      -- one step more of a way
      pub way-more : (root : ℕ) → IsSoleWay h root c d row → owners_at h child ≡ 1 → IsSoleWay h root c (d + 1) child
      unfolding IsSoleWay
      way-more root way one =
          let more : IsSoleWay h root c (suc d) child = (row, i, way, record { spot = spot-of (NodeAt i) at; inside = inside; sole = subst (λ l. owners_at h l ≡ 1) there one }, there) in
          let next : suc d ≡ d + 1 = omega arith in
          subst (λ n. IsSoleWay h root c n child) next more

-- one thing stands at a position
pub spot-one : (e n p i : ℕ) (spot : Spot) → IsSpot e n p spot → IsSpot e n p (NodeAt i) → spot ≡ NodeAt i
spot-one e n p i NoneAt is at = absurd (let bad : false ≡ true = sym is.1 ∙ at.1 in cc)
spot-one e n p i (EntryAt j) is at = absurd (let bad : false ≡ true = sym at.0 ∙ is.0 in cc)
spot-one e n p i (NodeAt j) is at = ap NodeAt (is.2 ∙ sym at.2)
