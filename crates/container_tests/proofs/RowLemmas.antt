-- What is known of a row by its head or its links.
use Rattle.std.proofs.Common.{◌≡◌, ◌≢◌, ℕ, List, refl, sym, ap, ◌∙◌, arith, Option, Some, None, IsSome}
use Rattle.std.specs.Prelude.{option_map}
use Rattle.std.proofs.lemmas.Option.{none-some}
use Rattle.node_heap.specs.Links.{count, Reaches, here, below}
use Rattle.node_heap.specs.Forms.{Row, cell, node, links_of, head_of, is_node, form_of, trie}
use Rattle.node_heap.specs.Heap.{Heap, row_at, links_at}
use Rattle.node_heap.specs.declared.row.Head.{Head}
use Rattle.node_heap.specs.declared.row.Head.TheVariants as head

module _ {T : Type 0} where
  -- a cell reaches itself alone
  pub cell-reaches : (h : Heap T) (x : T) (l k : ℕ) → row_at h l ≡ Some (cell x) → Reaches (links_at h) l k → l ≡ k
  cell-reaches h x l k is (here _) = refl
  cell-reaches h x l k is (below _ m _ has rest) = absurd (omega (arith, has, ap (λ r. count m (links_of r)) is))

  -- a row that came later is not the cell, and the cell doesn't reach it
  pub cell-other : (h : Heap T) (x : T) (l k : ℕ) → row_at h k ≡ None → row_at h l ≡ Some (cell x) → k ≢ l
  cell-other h x l k fresh is same = none-some _ (sym fresh ∙ (ap (row_at h) same ∙ is))

  pub cell-apart : (h h' : Heap T) (x : T) (l k : ℕ) → row_at h k ≡ None → row_at h l ≡ Some (cell x) → row_at h' l ≡ Some (cell x) → ¬ Reaches (links_at h') l k
  cell-apart h h' x l k fresh was is way = cell-other h x l k fresh was (sym (cell-reaches h' x l k is way))

  -- what has a head is a node
  pub headed-node : (r : Option (Row T)) (head : Head) → head_of r ≡ Some head → is_node r ≡ 1
  headed-node None head is = absurd cc
  headed-node (Some (cell x)) head is = absurd cc
  headed-node (Some (node h links)) head is = refl

  pub headed-live : (r : Option (Row T)) (head : Head) → head_of r ≡ Some head → IsSome r
  headed-live None head is = absurd cc
  headed-live (Some x) head is = refl

  -- the form of a row of a trie
  pub trie-form : (r : Option (Row T)) (depth entries nodes : ℕ) (links : List ℕ) → head_of r ≡ Some (head.Trie depth entries nodes) → links_of r ≡ links → option_map form_of r ≡ Some (node (trie depth entries nodes) links)
  trie-form None depth entries nodes links is are = absurd cc
  trie-form (Some (cell x)) depth entries nodes links is are = absurd cc
  trie-form (Some (node h ks)) depth entries nodes links is are =
      let same : h ≡ head.Trie depth entries nodes = cc in
      let all : ks ≡ links = cc in
      rw (same, all) refl
