use Rattle.std.proofs.Common.{arith, ◌≡◌, ◌<◌, subst, sym, map, List, ℕ, length}
use Rattle.std.proofs.lemmas.List.{length-map}
use Rattle.elem_core.specs.declared.codes.TheConstants.{LEVELS}
use Rattle.node_heap.specs.Forms.{AreTrees, trees_of}
use Rattle.node_heap.specs.Heap.{Heap, form_at, live_count, IsGraph, row_limit}
use Rattle.std.specs.Cmp.{IsTotalOrder}
use Rattle.std.specs.declared.cmp.Ordering.{Ordering}
use Rattle.champ_chain.specs.Entry.{Entry, SameSet}
use Rattle.champ_chain.proofs.FrameLemmas.{rows-live}
use Rattle.champ_chain.proofs.SetLemmas.{same-length}
use Rattle.champ_trie.specs.Trie.{IsCanon}
use Rattle.champ_trie.specs.Walk.{depth_of, walk, tree_entries}
use Rattle.champ_trie.proofs.WalkLemmas.{trie-layer, trie-walk, canon-fit}
use Rattle.champ_trie.proofs.TreeLemmas.{walk-trees}
use Rattle.champ_trie.specs.Trie.{code_by}
use Rattle.champ_trie.proofs.entries.Goals as goal

-- the walk has the links of the entries
has-links : {T : Type 0} (cmp : T → T → Ordering) (code : T → ℕ) → IsTotalOrder cmp → (h : Heap T) (root : ℕ) (ls : List ℕ) → ls ≡ walk h root → (E : List (Entry T)) → IsCanon cmp code (form_at h) root E → SameSet ls (map (λ e. e.link) E)
has-links cmp code o h root ls is E canon =
    subst (λ xs. SameSet xs (map (λ e. e.link) E)) (sym is)
    (trie-walk cmp code (form_at h) LEVELS 0 root E canon.trie (depth_of h) (live_count h) (canon-fit cmp code o h root E canon) (omega arith))

are-few : {T : Type 0} (cmp : T → T → Ordering) (code : T → ℕ) → IsTotalOrder cmp → (h : Heap T) → IsGraph h → (root : ℕ) (ls : List ℕ) → ls ≡ walk h root → (E : List (Entry T)) → IsCanon cmp code (form_at h) root E → length ls < row_limit
are-few cmp code o h graph root ls is E canon =
    omega (arith, same-length ls _ (has-links cmp code o h root ls is E canon), length-map E (λ e. e.link), canon-fit cmp code o h root E canon, graph.few_rows)

pub over-requires : goal.over-requires
over-requires g c =
    let trie = c.requires.trie in
    let layer = trie-layer g.T.Ord.cmp (code_by g.T.Element.code_of trie.0) (form_at c.args.heap.now) LEVELS 0 c.args.root trie.1 trie.2.trie in
    record { row = layer.0; below = layer.1 }

pub returns-clause-links : goal.returns-clause-links
returns-clause-links g c = λ bits E canon. has-links g.T.Ord.cmp (code_by g.T.Element.code_of bits) g.met.T.Ord.total c.args.heap.now c.args.root c.over.result c.over.ensures.walk E canon

pub returns-clause-few : goal.returns-clause-few
returns-clause-few g c =
    let trie = c.requires.trie in
    are-few g.T.Ord.cmp (code_by g.T.Element.code_of trie.0) g.met.T.Ord.total c.args.heap.now c.over.ensures.graph c.args.root c.over.result c.over.ensures.walk trie.1 trie.2

pub returns-clause-trees : goal.returns-clause-trees
returns-clause-trees g c = λ t is.
    let h = c.args.heap.now in
    let layer = trie-layer g.T.Ord.cmp (code_by g.T.Element.code_of c.requires.trie.0) (form_at h) LEVELS 0 c.args.root c.requires.trie.1 c.requires.trie.2.trie in
    subst (λ ls. AreTrees (form_at h) ls (trees_of (tree_entries t))) (sym c.over.ensures.walk)
    (walk-trees (form_at h) (live_count h) (λ next es rows. rows-live h c.over.ensures.graph es next rows) LEVELS c.args.root t layer.1 (depth_of h) (omega arith) is)
