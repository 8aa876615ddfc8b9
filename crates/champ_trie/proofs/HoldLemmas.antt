-- Links that are held one after the other.
use Rattle.std.proofs.Common.{◌≡◌, ℕ, ◌<◌, List, [], ◌∷◌, length, get_or, zero, suc, ap, sym, subst, ◌∙◌, arith, Option, Some, IsSome}
use Rattle.node_heap.specs.Links.{count}
use Rattle.node_heap.specs.Heap.{Heap, row_at, form_at, one_at, IsGraph}
use Rattle.node_heap.specs.Forms.{Form, Forms, node, trie, links_of}
use Rattle.champ_trie.specs.Trie.{AreSets, IsRow, place_of}
use Rattle.champ_chain.proofs.FrameLemmas.{links-form}
use Rattle.node_heap.proofs.BuildLemmas.{count-cons}
use Rattle.champ_chain.proofs.CopyLemmas.{one_at-same}

-- a link that stands at a place is counted
pub count-at : (ls : List ℕ) (i x : ℕ) → i < length ls → x ≡ get_or ls i x → 0 < count x ls
count-at [] i x within is = absurd (omega arith)
count-at (l ∷ ls) zero x within is = omega (arith, count-cons x l ls, ap (λ y. one_at y x) (sym is), one_at-same x)
count-at (l ∷ ls) (suc i) x within is = omega (arith, count-cons x l ls, count-at ls i x (omega arith) is)

-- a row's links are there
module _ {T : Type 0} where
  pub links-live : (h : Heap T) → IsGraph h → (l d e n : ℕ) (ls : List ℕ) → form_at h l ≡ Some (node (trie d e n) ls) → (k : ℕ) → 0 < count k ls → IsSome (row_at h k)
  links-live h graph l d e n ls is k some = graph.closed l k (omega (arith, ap (count k) (sym (links-form h l) ∙ ap links_of is), some))

pub sets-same : (e n e' n' : ℕ) (ls ls' : List ℕ) → e' ≡ e → n' ≡ n → ls' ≡ ls → AreSets e n ls → AreSets e' n' ls'
sets-same e n e' n' ls ls' a b d sets = subst (λ x. AreSets x n' ls') (sym a) (subst (λ x. AreSets e x ls') (sym b) (subst (λ xs. AreSets e n xs) (sym d) sets))

pub place-same : (e n e' n' : ℕ) (ls ls' : List ℕ) (p : ℕ) → e' ≡ e → n' ≡ n → ls' ≡ ls → place_of e' n' ls' p ≡ place_of e n ls p
place-same e n e' n' ls ls' p a b d = ap (λ x. place_of x n' ls' p) a ∙ ap (λ x. place_of e x ls' p) b ∙ ap (λ xs. place_of e n xs p) d

module _ {K : Type 0} where
  -- a form is that of one row of a trie
  pub row-same : (r : Option (Form K)) (d e n d' e' n' : ℕ) (ls ls' : List ℕ) → r ≡ Some (node (trie d e n) ls) → r ≡ Some (node (trie d' e' n') ls') → (e' ≡ e) × (n' ≡ n) × (ls' ≡ ls)
  row-same r d e n d' e' n' ls ls' is said = let same : Some (node (trie d e n) ls) ≡ Some (node (trie d' e' n') ls') = sym is ∙ said in (cc, cc, cc)

  -- the sets of a row as the heap reads it
  pub read-sets : (F : Forms K) (l d e n d' e' n' : ℕ) (ls ls' : List ℕ) → IsRow F l d e n ls → F l ≡ Some (node (trie d' e' n') ls') → AreSets e' n' ls'
  read-sets F l d e n d' e' n' ls ls' row said =
      let same = row-same (F l) d e n d' e' n' ls ls' row.row said in
      sets-same e n e' n' ls ls' same.0 same.1 same.2 row.sets

  -- what stands at a position of a row as the heap reads it
  pub read-place : (F : Forms K) (l d e n d' e' n' : ℕ) (ls ls' : List ℕ) (p : ℕ) → IsRow F l d e n ls → F l ≡ Some (node (trie d' e' n') ls') → place_of e' n' ls' p ≡ place_of e n ls p
  read-place F l d e n d' e' n' ls ls' p row said =
      let same = row-same (F l) d e n d' e' n' ls ls' row.row said in
      place-same e n e' n' ls ls' p same.0 same.1 same.2
