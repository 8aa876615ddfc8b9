use Rattle.std.proofs.Common.{arith, ◌≡◌, IsSome, suc, ◌+◌, ◌-◌, ◌<◌, ◌^◌, ◌∷◌, [], ◌∙◌, sym, ap, subst}
use Rattle.elem_core.specs.Codes.{digit_at}
use Rattle.node_heap.specs.Heap.{form_at}
use Rattle.node_heap.proofs.BuildLemmas.{count-cons, count-one, Builds-as, Builds-then}
use Rattle.elem_core.specs.declared.codes.TheConstants.{CODE_BITS, LEVELS}
use Rattle.champ_chain.specs.Entry.{entry}
use Rattle.champ_chain.proofs.FrameLemmas.{forms-kept, key-kept}
use Rattle.champ_trie.specs.Trie.{IsTrie}
use Rattle.champ_trie.proofs.PartLemmas.{trie-kept}
use Rattle.champ_trie.proofs.WithLemmas.{same-more, chain_nodes-all, chain-trie, two-below, two-apart}
use Rattle.std.proofs.Common.{◌⊎◌, ℕ, inl, inr}
use Rattle.node_heap.specs.Links.{count, Reaches}
use Rattle.node_heap.specs.Forms.{links_of}
use Rattle.node_heap.specs.Heap.{row_at, links_at}
use Rattle.node_heap.proofs.Frames.{Extends-refl}
use Rattle.champ_chain.proofs.FrameLemmas.{links-form}
use Rattle.champ_chain.proofs.CopyLemmas.{key-live}
use Rattle.champ_chain.proofs.OldLemmas.{in-one, in-two, gained-live, old-owners, row-reaches}
use Rattle.champ_trie.proofs.edit.+node_of_two.Goals as goal

pub joined-requires-clause-spare : goal.joined-requires-clause-spare
joined-requires-clause-spare g t c =
    let deep : c.args.depth ≡ LEVELS = omega (arith, c.if-depth-gt-DEEPEST.true, c.requires.depth) in
    let low_first : c.args.first_code < 2 ^ CODE_BITS = omega arith in
    let low_second : c.args.second_code < 2 ^ CODE_BITS = omega arith in
    omega (arith, c.requires.spare, chain_nodes-all c.args.first_code c.args.second_code c.args.depth deep low_first low_second c.requires.codes, deep)

pub returns-then-depth-gt-DEEPEST-clause-builds : goal.returns-then-depth-gt-DEEPEST-clause-builds
returns-then-depth-gt-DEEPEST-clause-builds g t c =
    let deep : c.args.depth ≡ LEVELS = omega (arith, c.if-depth-gt-DEEPEST.true, c.requires.depth) in
    let low_first : c.args.first_code < 2 ^ CODE_BITS = omega arith in
    let low_second : c.args.second_code < 2 ^ CODE_BITS = omega arith in
    (2, omega (arith, chain_nodes-all c.args.first_code c.args.second_code c.args.depth deep low_first low_second c.requires.codes, deep), c.joined.ensures.builds)

pub returns-then-depth-gt-DEEPEST-clause-trie : goal.returns-then-depth-gt-DEEPEST-clause-trie
returns-then-depth-gt-DEEPEST-clause-trie g t c = λ code j k is_j is_k code_j code_k left levels.
    let none : left ≡ 0 = omega (arith, c.if-depth-gt-DEEPEST.true, levels) in
    chain-trie g.T.Ord.cmp code (form_at c.joined.new.heap) left c.args.depth c.joined.result (entry j c.args.first ∷ entry k c.args.second ∷ []) none (c.joined.ensures.joined j k is_j is_k)

pub node_of_two-node-requires : goal.node_of_two-node-requires
node_of_two-node-requires g t c κs within =
    let digits = sym c.digit-position.ensures.read ∙ c.if-position-other.true ∙ c.digit-other.ensures.read in (
      omega (arith, c.decreases, c.if-depth-gt-DEEPEST.false),
      (
        within,
        (
          omega (arith, c.if-depth-gt-DEEPEST.false),
          (
            c.requires.few,
            (c.requires.held, (c.requires.keys, (same-more c.args.first_code c.args.second_code c.args.depth c.requires.codes digits, omega (arith, c.requires.spare)))),
          ),
        ),
      ),
    )

pub returns-then-position-other-clause-builds : goal.returns-then-position-other-clause-builds
returns-then-position-other-clause-builds g t c =
    let below = c.node_of_two-node.ensures.builds in
    let made = Builds-as (c.node_of_two-node.result ∷ []) (c.make.result ∷ []) 0 1 c.make.ensures.builds (omega arith) (omega arith) (λ k. omega (arith, c.lone_row.ensures.links k)) (omega (arith, c.lone_row.ensures.number)) in
    (below.0 + 1, omega (arith, below.1), Builds-then below.2 made)

pub returns-then-position-other-clause-trie : goal.returns-then-position-other-clause-trie
returns-then-position-other-clause-trie g t c = λ code j k is_j is_k code_j code_k left levels.
    let rest = left - 1 in
    let more : left ≡ suc rest = omega (arith, levels, c.if-depth-gt-DEEPEST.false) in
    let both = entry j c.args.first ∷ entry k c.args.second ∷ [] in
    let first_digit = ap (λ n. digit_at n c.args.depth) (sym code_j) ∙ sym c.digit-position.ensures.read in
    let second_digit = ap (λ n. digit_at n c.args.depth) (sym code_k) ∙ sym c.digit-other.ensures.read ∙ sym c.if-position-other.true in
    let keeps = forms-kept c.node_of_two-node.new.heap c.make.new.heap c.make.ensures.builds.extends in
    let below = trie-kept g.T.Ord.cmp code (form_at c.node_of_two-node.new.heap) (form_at c.make.new.heap) keeps rest (c.args.depth + 1) c.node_of_two-node.result both
    (c.node_of_two-node.ensures.trie code j k is_j is_k code_j code_k rest (omega (arith, levels, more))) in
    subst (λ n. IsTrie g.T.Ord.cmp code (form_at c.make.new.heap) n c.args.depth c.make.result both) (sym more)
    (two-below g.T.Ord.cmp code (form_at c.make.new.heap) rest c.args.depth c.make.result c.lone_row.result.entries c.lone_row.result.nodes c.lone_row.result.links (entry j c.args.first) (entry k c.args.second) c.make.ensures.row
    c.digit-position.result c.node_of_two-node.result first_digit second_digit c.lone_row.ensures.here c.lone_row.ensures.others below)

pub returns-else-position-other-clause-builds : goal.returns-else-position-other-clause-builds
returns-else-position-other-clause-builds g t c = (
  1,
  omega (arith, c.if-depth-gt-DEEPEST.false),
  Builds-as (c.args.first ∷ c.args.second ∷ []) (c.make-else-position-other.result ∷ []) 0 1 c.make-else-position-other.ensures.builds (omega arith) (omega arith)
      (λ k. omega (arith, c.put.ensures.links k, c.lone_row-row.ensures.links k, count-cons k c.args.first (c.args.second ∷ []), count-one k c.args.first, count-one k c.args.second))
      (omega (arith, c.put.ensures.number, c.lone_row-row.ensures.number)),
)

pub returns-else-position-other-clause-trie : goal.returns-else-position-other-clause-trie
returns-else-position-other-clause-trie g t c = λ code j k is_j is_k code_j code_k left levels.
    let rest = left - 1 in
    let more : left ≡ suc rest = omega (arith, levels, c.if-depth-gt-DEEPEST.false) in
    let both = entry j c.args.first ∷ entry k c.args.second ∷ [] in
    let first_digit = ap (λ n. digit_at n c.args.depth) (sym code_j) ∙ sym c.digit-position.ensures.read in
    let second_digit = ap (λ n. digit_at n c.args.depth) (sym code_k) ∙ sym c.digit-other.ensures.read in
    let F = form_at c.args.heap.now in
    let G = form_at c.make-else-position-other.new.heap in
    let keeps = forms-kept c.args.heap.now c.make-else-position-other.new.heap c.make-else-position-other.ensures.builds.extends in
    let row = c.put.new.self in
    subst (λ n. IsTrie g.T.Ord.cmp code G n c.args.depth c.make-else-position-other.result both) (sym more)
    (two-apart g.T.Ord.cmp code G rest c.args.depth c.make-else-position-other.result row.entries row.nodes row.links (entry j c.args.first) (entry k c.args.second) c.make-else-position-other.ensures.row c.digit-position.result
    c.digit-other.result first_digit second_digit c.if-position-other.false (c.put.ensures.others c.digit-position.result c.digit-position.ensures.small c.if-position-other.false ∙ c.lone_row-row.ensures.here) c.put.ensures.here
    (λ q low not_first not_second. c.put.ensures.others q low not_second ∙ c.lone_row-row.ensures.others q low not_first) (key-kept F G keeps c.args.first j is_j) (key-kept F G keeps c.args.second k is_k))

pub returns-then-position-other-clause-owners : goal.returns-then-position-other-clause-owners
returns-then-position-other-clause-owners g t c = λ k live.
    old-owners c.node_of_two-node.new.heap c.make.new.heap c.make.result c.make.ensures.owners c.make.ensures.fresh k (c.node_of_two-node.ensures.builds.2.extends.live k live) ∙ c.node_of_two-node.ensures.owners k live

pub returns-then-position-other-clause-below : goal.returns-then-position-other-clause-below
returns-then-position-other-clause-below g t c =
    let old = c.args.heap.now in
    let mid = c.node_of_two-node.new.heap in
    let new = c.make.new.heap in
    let built = c.node_of_two-node.ensures.builds.2 in
    let links = c.lone_row.result.links in
    let lone : (k : ℕ) → 0 < count k links → k ≡ c.node_of_two-node.result = λ k some. in-one k c.node_of_two-node.result (omega (arith, some, c.lone_row.ensures.links k)) in
    row-reaches old mid new (λ m. Reaches (links_at old) c.args.first m ⊎ Reaches (links_at old) c.args.second m) c.make.result links built.extends c.make.ensures.builds.extends c.make.ensures.fresh
    (sym (links-form new c.make.result) ∙ ap links_of c.make.ensures.row.row)
    (λ k some. gained-live built c.requires.held k (omega (arith, some, c.lone_row.ensures.links k)))
    (λ k m some live down. c.node_of_two-node.ensures.below m live (subst (λ j. Reaches (links_at mid) j m) (lone k some) down))

pub returns-else-position-other-clause-owners : goal.returns-else-position-other-clause-owners
returns-else-position-other-clause-owners g t c = old-owners c.args.heap.now c.make-else-position-other.new.heap c.make-else-position-other.result c.make-else-position-other.ensures.owners c.make-else-position-other.ensures.fresh

pub returns-else-position-other-clause-below : goal.returns-else-position-other-clause-below
returns-else-position-other-clause-below g t c =
    let old = c.args.heap.now in
    let new = c.make-else-position-other.new.heap in
    let links = c.put.new.self.links in
    let both : (k : ℕ) → 0 < count k links → (k ≡ c.args.first) ⊎ (k ≡ c.args.second) = λ k some.
    in-two k c.args.first c.args.second (omega (arith, some, c.put.ensures.links k, c.lone_row-row.ensures.links k, count-cons k c.args.first (c.args.second ∷ []), count-one k c.args.first)) in
    let there : (k : ℕ) → (k ≡ c.args.first) ⊎ (k ≡ c.args.second) → IsSome (row_at old k) = λ k is. elim is as (λ _. IsSome (row_at old k)) [
      | inl at ↦ subst (λ j. IsSome (row_at old j)) (sym at) (key-live old c.args.first c.requires.keys.0 c.requires.keys.2)
      | inr at ↦ subst (λ j. IsSome (row_at old j)) (sym at) (key-live old c.args.second c.requires.keys.1 c.requires.keys.3)
    ] in
    row-reaches old old new (λ m. Reaches (links_at old) c.args.first m ⊎ Reaches (links_at old) c.args.second m) c.make-else-position-other.result links (Extends-refl old) c.make-else-position-other.ensures.builds.extends
    c.make-else-position-other.ensures.fresh (sym (links-form new c.make-else-position-other.result) ∙ ap links_of c.make-else-position-other.ensures.row.row) (λ k some. there k (both k some))
    (λ k m some live down. elim (both k some) as (λ _. Reaches (links_at old) c.args.first m ⊎ Reaches (links_at old) c.args.second m) [
      | inl at ↦ inl (subst (λ j. Reaches (links_at old) j m) at down)
      | inr at ↦ inr (subst (λ j. Reaches (links_at old) j m) at down)
    ])
