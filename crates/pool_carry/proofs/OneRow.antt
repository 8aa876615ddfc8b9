-- Where no row of a trie stands twice, a set of entries has one trie.
use Rattle.std.proofs.Common.{◌≡◌, ℕ, zero, suc, ◌<◌, refl, ap, sym, subst, ◌∙◌, arith, inl, inr, Bool, true, false, List, [], ◌∷◌, ◌++◌, length, take, drop, Option, Some}
use Rattle.std.specs.Prelude.{option_to_list}
use Rattle.std.specs.Ordering.{nat_cmp}
use Rattle.std.specs.Cmp.Lexicographic.{slice_cmp}
use Rattle.std.proofs.lemmas.Bool.{cases_Bool}
use Rattle.std.proofs.lemmas.Cmp.{nat_list_cmp_total}
use Rattle.std.proofs.lemmas.List.{take-append-drop}
use Rattle.node_heap.specs.Forms.{Form, Forms, node, trie, chain}
use Rattle.champ_chain.specs.Entry.{Entry, entry, SameSet, same_through}
use Rattle.champ_chain.specs.Chain.{AreChainRows}
use Rattle.champ_chain.proofs.SetLemmas.{same-length, same-sym, same-filter, same-one}
use Rattle.champ_chain.proofs.RisingLemmas.{rising-unique}
use Rattle.champ_trie.specs.Bits.{has, rank}
use Rattle.champ_trie.specs.Trie.{AreSets, IsPlace, IsTrie, part, place_of}
use Rattle.champ_trie.specs.declared.place.Place.{Place}
use Rattle.champ_trie.specs.declared.place.Place.TheVariants.{Entry as At, Node, Empty}
use Rattle.champ_trie.proofs.PlaceLemmas.{place-entry, place-node, place-empty}
use Rattle.champ_trie.proofs.GatherLemmas.{gather-same, entry_links, node_links, entries-gather, nodes-gather}
use Rattle.champ_trie.proofs.CanonLemmas.{same-sets}
use Rattle.pool_text.specs.Rows.{Bytes}
use Rattle.pool_carry.specs.Carried.{is_of_trie}

-- what a place says of the sets
abbrev pub is_entry : Place → Bool
is_entry Empty = false
is_entry (At x) = true
is_entry (Node l) = false

abbrev pub is_node : Place → Bool
is_node Empty = false
is_node (At x) = false
is_node (Node l) = true

pub has-entry : (e m : ℕ) (ls : List ℕ) (p : ℕ) → has e p ≡ is_entry (place_of e m ls p)
has-entry e m ls p = elim (cases_Bool (has e p)) [
  | inl here ↦ here ∙ sym (ap is_entry (place-entry e m ls p here))
  | inr absent ↦ elim (cases_Bool (has m p)) [
    | inl here ↦ absent ∙ sym (ap is_entry (place-node e m ls p absent here))
    | inr none ↦ absent ∙ sym (ap is_entry (place-empty e m ls p absent none))
  ]
]

pub has-node : (e m : ℕ) (ls : List ℕ) → AreSets e m ls → (p : ℕ) → p < 32 → has m p ≡ is_node (place_of e m ls p)
has-node e m ls sets p low = elim (cases_Bool (has e p)) [
  | inl here ↦ sets.apart p low here ∙ sym (ap is_node (place-entry e m ls p here))
  | inr absent ↦ elim (cases_Bool (has m p)) [
    | inl here ↦ here ∙ sym (ap is_node (place-node e m ls p absent here))
    | inr none ↦ none ∙ sym (ap is_node (place-empty e m ls p absent none))
  ]
]

-- the row of these sets and links
abbrev trie_node : ℕ → ℕ → ℕ → List ℕ → Form Bytes
trie_node depth e m ls = node (trie depth e m) ls

-- rows with the same at each position are the same
pub same-row-of-places : (depth e m e' m' : ℕ) (ls ls' : List ℕ) → AreSets e m ls → AreSets e' m' ls' → ((p : ℕ) → p < 32 → place_of e m ls p ≡ place_of e' m' ls' p) → trie_node depth e m ls ≡ trie_node depth e' m' ls'
same-row-of-places depth e m e' m' ls ls' sets sets' same =
    let entries : e ≡ e' = same-sets e e' sets.entries_small sets'.entries_small (λ p low. has-entry e m ls p ∙ ap is_entry (same p low) ∙ sym (has-entry e' m' ls' p)) in
    let nodes : m ≡ m' = same-sets m m' sets.nodes_small sets'.nodes_small (λ p low. has-node e m ls sets p low ∙ ap is_node (same p low) ∙ sym (has-node e' m' ls' sets' p low)) in
    let first : take (rank e 32) ls ≡ take (rank e' 32) ls' = entries-gather e m ls sets ∙ gather-same _ _ 32 (λ p low. ap entry_links (same p low)) ∙ sym (entries-gather e' m' ls' sets') in
    let rest : drop (rank e 32) ls ≡ drop (rank e' 32) ls' = nodes-gather e m ls sets ∙ gather-same _ _ 32 (λ p low. ap node_links (same p low)) ∙ sym (nodes-gather e' m' ls' sets') in
    let links : ls ≡ ls' = sym (take-append-drop (rank e 32) ls) ∙ ap (λ xs. xs ++ drop (rank e 32) ls) first ∙ ap (λ xs. take (rank e' 32) ls' ++ xs) rest ∙ take-append-drop (rank e' 32) ls' in
    ap (λ x. trie_node depth x m ls) entries ∙ ap (λ x. trie_node depth e' x ls) nodes ∙ ap (trie_node depth e' m') links

module _ (H : Forms Bytes) (once : (k l : ℕ) → is_of_trie (H k) ≡ true → H k ≡ H l → k ≡ l) (code : Bytes → ℕ) where
  pub chain-one : (o p : Option ℕ) (es : List (Entry Bytes)) → AreChainRows H o es → AreChainRows H p es → o ≡ p
  unfolding AreChainRows
  chain-one o p [] rows rows' = rows ∙ sym rows'
  chain-one o p (e ∷ es) rows rows' =
      let next : rows.next ≡ rows'.next = chain-one rows.next rows'.next es rows.rest rows'.rest in
      let form : H rows.link ≡ H rows'.link = rows.row ∙ ap (λ o. Some (node chain (e.link ∷ option_to_list o))) next ∙ sym rows'.row in
      rows.here ∙ ap Some (once rows.link rows'.link (ap is_of_trie rows.row) form) ∙ sym rows'.here

  -- what stands for the same entries is the same, where nodes of the same entries are
  place-one : (IsNode : ℕ → List (Entry Bytes) → Type 0) → ((k l : ℕ) (P Q : List (Entry Bytes)) → SameSet P Q → IsNode k P → IsNode l Q → k ≡ l)
      → (q r : Place) (P Q : List (Entry Bytes)) → SameSet P Q → IsPlace H IsNode q P → IsPlace H IsNode r Q → q ≡ r
  place-one IsNode one Empty Empty P Q same is is' = refl
  place-one IsNode one Empty (At y) P Q same is is' = absurd (omega (arith, same-length P Q same, ap length is, ap length is'.1))
  place-one IsNode one Empty (Node l) P Q same is is' = absurd (omega (arith, same-length P Q same, ap length is, is'.0))
  place-one IsNode one (At x) Empty P Q same is is' = absurd (omega (arith, same-length P Q same, ap length is.1, ap length is'))
  place-one IsNode one (At x) (At y) P Q same is is' =
      let both : entry is'.0 y ∷ [] ≡ entry is.0 x ∷ [] = sym is'.1 ∙ same-one (entry is.0 x) Q (subst (λ xs. SameSet xs Q) is.1 same) in
      (let link : x ≡ y = cc in ap At link)
  place-one IsNode one (At x) (Node l) P Q same is is' = absurd (omega (arith, same-length P Q same, ap length is.1, is'.0))
  place-one IsNode one (Node k) Empty P Q same is is' = absurd (omega (arith, same-length P Q same, is.0, ap length is'))
  place-one IsNode one (Node k) (At y) P Q same is is' = absurd (omega (arith, same-length P Q same, is.0, ap length is'.1))
  place-one IsNode one (Node k) (Node l) P Q same is is' = ap Node (one k l P Q same is.1 is'.1)

  pub trie-one : (left depth k l : ℕ) (E D : List (Entry Bytes)) → SameSet E D → IsTrie (slice_cmp nat_cmp) code H left depth k E → IsTrie (slice_cmp nat_cmp) code H left depth l D → k ≡ l
  unfolding IsTrie
  trie-one zero depth k l E D same is is' =
      let lists : is.entries ≡ is'.entries = rising-unique (slice_cmp nat_cmp) nat_list_cmp_total is.entries is'.entries is.rising is'.rising (same_through _ _ _ is.same (same_through _ _ _ same (same-sym _ _ is'.same))) in
      let both : Some k ≡ Some l = chain-one (Some k) (Some l) is'.entries (subst (AreChainRows H (Some k)) lists is.rows) is'.rows in
      cc
  trie-one (suc left) depth k l E D same is is' =
      let places : (p : ℕ) → p < 32 → place_of is.entries is.nodes is.links p ≡ place_of is'.entries is'.nodes is'.links p =
      λ p low. place-one (λ j P. IsTrie (slice_cmp nat_cmp) code H left (suc depth) j P) (λ i j P Q s x y. trie-one left (suc depth) i j P Q s x y)
      (place_of is.entries is.nodes is.links p) (place_of is'.entries is'.nodes is'.links p) (part (slice_cmp nat_cmp) code depth p E) (part (slice_cmp nat_cmp) code depth p D) (same-filter _ E D same) (is.places p low) (is'.places p low) in
      let row = same-row-of-places depth is.entries is.nodes is'.entries is'.nodes is.links is'.links is.row.sets is'.row.sets places in
      once k l (ap is_of_trie is.row.row) (is.row.row ∙ ap Some row ∙ sym is'.row.row)
