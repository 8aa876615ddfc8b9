use Rattle.std.proofs.Common.{◌≤◌, length, ltb, leb, take, drop, ap, sym, subst, ◌∙◌, false}
use Rattle.std.specs.Prelude.{◌==◌, count_ones, IsTrue, ◌↔◌}
use Rattle.std.specs.List.{list_all}
use Rattle.elem_core.specs.Naming.{IsName}
use Rattle.pool_text.specs.Pool.{forms_in, row_count}
use Rattle.pool_text.specs.declared.row.Row.TheVariants.{Cell, Leaf, Inner, Trie, Chain, Pair, State}
use Rattle.pool_check.specs.Facts.{facts_in, no_facts, facts_over_entries, common_facts}
use Rattle.pool_check.proofs.FactLemmas.{cell-facts, leaf-facts, pair-facts, state-facts}
use Rattle.pool_check.proofs.FactRows.{name-is, first-low, second-low, chain-some, read-at, inner-is, entries-fit, trie-is, chain-is}
use Rattle.pool_check.proofs.kinds.row_facts.Goals as goal

pub common-all-requires : goal.common-all-requires
common-all-requires c =
    let at = read-at c.args.pool.now c.requires.stand (length c.args.kept.now) c.requires.more c.as_slice.result.now c.as_slice.ensures c.index-as_slice-kept.result c.index-as_slice-kept.is (Leaf c.in-Leaf.links) c.in-Leaf.is in
    ap (λ ks. list_all (λ k. ltb k (length c.args.kept.now)) ks) c.as_slice-in-Leaf.ensures ∙ at.low

pub common-all-requires-in-Inner : goal.common-all-requires-in-Inner
common-all-requires-in-Inner c =
    let at = read-at c.args.pool.now c.requires.stand (length c.args.kept.now) c.requires.more c.as_slice.result.now c.as_slice.ensures c.index-as_slice-kept.result c.index-as_slice-kept.is (Inner c.in-Inner.field-0 c.in-Inner.links) c.in-Inner.is in
    ap (λ ks. list_all (λ k. ltb k (length c.args.kept.now)) ks) c.as_slice-in-Inner.ensures ∙ at.low

pub trie_facts-requires-clause-count : goal.trie_facts-requires-clause-count
trie_facts-requires-clause-count c =
    let at = read-at c.args.pool.now c.requires.stand (length c.args.kept.now) c.requires.more c.as_slice.result.now c.as_slice.ensures c.index-as_slice-kept.result c.index-as_slice-kept.is (Trie c.in-Trie.depth c.in-Trie.entries c.in-Trie.nodes c.in-Trie.links) c.in-Trie.is in
    subst (λ ks. count_ones c.in-Trie.entries ≤ length ks) (sym c.as_slice-in-Trie.ensures) (entries-fit c.args.pool.now c.requires.stand (length c.args.kept.now) at.more c.in-Trie.depth c.in-Trie.entries c.in-Trie.nodes c.in-Trie.links at.form at.ranged)

pub trie_facts-requires-clause-low : goal.trie_facts-requires-clause-low
trie_facts-requires-clause-low c =
    let at = read-at c.args.pool.now c.requires.stand (length c.args.kept.now) c.requires.more c.as_slice.result.now c.as_slice.ensures c.index-as_slice-kept.result c.index-as_slice-kept.is (Trie c.in-Trie.depth c.in-Trie.entries c.in-Trie.nodes c.in-Trie.links) c.in-Trie.is in
    ap (λ ks. list_all (λ k. ltb k (length c.args.kept.now)) ks) c.as_slice-in-Trie.ensures ∙ at.low

pub trie_facts-requires-in-Chain-clause-count : goal.trie_facts-requires-in-Chain-clause-count
trie_facts-requires-in-Chain-clause-count c =
    let at = read-at c.args.pool.now c.requires.stand (length c.args.kept.now) c.requires.more c.as_slice.result.now c.as_slice.ensures c.index-as_slice-kept.result c.index-as_slice-kept.is (Chain c.in-Chain.links) c.in-Chain.is in
    subst (λ ks. 1 ≤ length ks) (sym c.as_slice-in-Chain.ensures) (chain-some c.requires.stand.rules.deepest c.in-Chain.links at.ranged)

pub trie_facts-requires-in-Chain-clause-low : goal.trie_facts-requires-in-Chain-clause-low
trie_facts-requires-in-Chain-clause-low c =
    let at = read-at c.args.pool.now c.requires.stand (length c.args.kept.now) c.requires.more c.as_slice.result.now c.as_slice.ensures c.index-as_slice-kept.result c.index-as_slice-kept.is (Chain c.in-Chain.links) c.in-Chain.is in
    ap (λ ks. list_all (λ k. ltb k (length c.args.kept.now)) ks) c.as_slice-in-Chain.ensures ∙ at.low

pub facts_of-requires : goal.facts_of-requires
facts_of-requires c =
    let at = read-at c.args.pool.now c.requires.stand (length c.args.kept.now) c.requires.more c.as_slice.result.now c.as_slice.ensures c.index-as_slice-kept.result c.index-as_slice-kept.is (Pair c.in-Pair.key c.in-Pair.value) c.in-Pair.is in
    first-low c.in-Pair.key c.in-Pair.value (length c.args.kept.now) at.low

pub facts_of-requires-in-Pair : goal.facts_of-requires-in-Pair
facts_of-requires-in-Pair c =
    let at = read-at c.args.pool.now c.requires.stand (length c.args.kept.now) c.requires.more c.as_slice.result.now c.as_slice.ensures c.index-as_slice-kept.result c.index-as_slice-kept.is (Pair c.in-Pair.key c.in-Pair.value) c.in-Pair.is in
    second-low c.in-Pair.key c.in-Pair.value (length c.args.kept.now) at.low

pub facts_of-requires-in-State : goal.facts_of-requires-in-State
facts_of-requires-in-State c =
    let at = read-at c.args.pool.now c.requires.stand (length c.args.kept.now) c.requires.more c.as_slice.result.now c.as_slice.ensures c.index-as_slice-kept.result c.index-as_slice-kept.is (State c.in-State.buffers c.in-State.stars) c.in-State.is in
    first-low c.in-State.buffers c.in-State.stars (length c.args.kept.now) at.low

pub facts_of-requires-in-State-2 : goal.facts_of-requires-in-State-2
facts_of-requires-in-State-2 c =
    let at = read-at c.args.pool.now c.requires.stand (length c.args.kept.now) c.requires.more c.as_slice.result.now c.as_slice.ensures c.index-as_slice-kept.result c.index-as_slice-kept.is (State c.in-State.buffers c.in-State.stars) c.in-State.is in
    second-low c.in-State.buffers c.in-State.stars (length c.args.kept.now) at.low

pub returns-in-Cell : goal.returns-in-Cell
returns-in-Cell c =
    let at = read-at c.args.pool.now c.requires.stand (length c.args.kept.now) c.requires.more c.as_slice.result.now c.as_slice.ensures c.index-as_slice-kept.result c.index-as_slice-kept.is (Cell c.in-Cell.text) c.in-Cell.is in
    cell-facts (row_count c.args.pool.now) (forms_in c.args.pool.now) (length c.args.kept.now) c.in-Cell.text c.is_name.result at.form (name-is c.is_name.result c.in-Cell.text (subst (λ bytes. IsTrue c.is_name.result ↔ IsName bytes) c.as_str.ensures c.is_name.ensures))

pub returns-in-Leaf : goal.returns-in-Leaf
returns-in-Leaf c =
    let at = read-at c.args.pool.now c.requires.stand (length c.args.kept.now) c.requires.more c.as_slice.result.now c.as_slice.ensures c.index-as_slice-kept.result c.index-as_slice-kept.is (Leaf c.in-Leaf.links) c.in-Leaf.is in
    c.vector_facts.ensures ∙ leaf-facts (row_count c.args.pool.now) (forms_in c.args.pool.now) (length c.args.kept.now) c.in-Leaf.links c.common-all.result at.form
    (c.common-all.ensures (facts_in c.args.pool.now) c.requires.kept ∙ ap (common_facts (facts_in c.args.pool.now)) c.as_slice-in-Leaf.ensures)

pub returns-in-Inner : goal.returns-in-Inner
returns-in-Inner c =
    let at = read-at c.args.pool.now c.requires.stand (length c.args.kept.now) c.requires.more c.as_slice.result.now c.as_slice.ensures c.index-as_slice-kept.result c.index-as_slice-kept.is (Inner c.in-Inner.field-0 c.in-Inner.links) c.in-Inner.is in
    let all = c.common-all-in-Inner.result in
    c.vector_facts-in-Inner.ensures
    ∙ ap (λ ks. record no_facts { root = leb 2 (length ks); over_cells = all.over_cells; over_states = all.over_states }) c.as_slice-in-Inner-2.ensures
    ∙ inner-is c.args.pool.now c.requires.stand (length c.args.kept.now) at.more c.in-Inner.field-0 c.in-Inner.links all at.form at.ranged (c.common-all-in-Inner.ensures (facts_in c.args.pool.now) c.requires.kept ∙ ap (common_facts (facts_in c.args.pool.now)) c.as_slice-in-Inner.ensures)

pub returns-in-Trie : goal.returns-in-Trie
returns-in-Trie c =
    let at = read-at c.args.pool.now c.requires.stand (length c.args.kept.now) c.requires.more c.as_slice.result.now c.as_slice.ensures c.index-as_slice-kept.result c.index-as_slice-kept.is (Trie c.in-Trie.depth c.in-Trie.entries c.in-Trie.nodes c.in-Trie.links) c.in-Trie.is in
    let facts = facts_in c.args.pool.now in
    let count = count_ones c.in-Trie.entries in
    trie-is c.args.pool.now c.requires.stand (length c.args.kept.now) at.more c.in-Trie.depth c.in-Trie.entries c.in-Trie.nodes c.in-Trie.links at.form at.ranged c.trie_facts.result
    (c.trie_facts.ensures (facts_in c.args.pool.now) c.requires.kept ∙ ap (λ ks. facts_over_entries (c.in-Trie.depth == 0) (common_facts facts (take count ks)) (common_facts facts (drop count ks))) c.as_slice-in-Trie.ensures)

pub returns-in-Chain : goal.returns-in-Chain
returns-in-Chain c =
    let at = read-at c.args.pool.now c.requires.stand (length c.args.kept.now) c.requires.more c.as_slice.result.now c.as_slice.ensures c.index-as_slice-kept.result c.index-as_slice-kept.is (Chain c.in-Chain.links) c.in-Chain.is in
    let facts = facts_in c.args.pool.now in
    chain-is c.args.pool.now c.requires.stand (length c.args.kept.now) at.more c.in-Chain.links c.trie_facts-in-Chain.result at.form
    (c.trie_facts-in-Chain.ensures (facts_in c.args.pool.now) c.requires.kept ∙ ap (λ ks. facts_over_entries false (common_facts facts (take 1 ks)) (common_facts facts (drop 1 ks))) c.as_slice-in-Chain.ensures)

pub returns-in-Pair : goal.returns-in-Pair
returns-in-Pair c =
    let at = read-at c.args.pool.now c.requires.stand (length c.args.kept.now) c.requires.more c.as_slice.result.now c.as_slice.ensures c.index-as_slice-kept.result c.index-as_slice-kept.is (Pair c.in-Pair.key c.in-Pair.value) c.in-Pair.is in
    pair-facts (row_count c.args.pool.now) (forms_in c.args.pool.now) (length c.args.kept.now) c.in-Pair.key c.in-Pair.value c.facts_of.result c.facts_of-in-Pair.result c.pair_facts.result at.form
    (c.facts_of.ensures (facts_in c.args.pool.now) c.requires.kept) (c.facts_of-in-Pair.ensures (facts_in c.args.pool.now) c.requires.kept) c.pair_facts.ensures

pub returns-in-State : goal.returns-in-State
returns-in-State c =
    let at = read-at c.args.pool.now c.requires.stand (length c.args.kept.now) c.requires.more c.as_slice.result.now c.as_slice.ensures c.index-as_slice-kept.result c.index-as_slice-kept.is (State c.in-State.buffers c.in-State.stars) c.in-State.is in
    state-facts (row_count c.args.pool.now) (forms_in c.args.pool.now) (length c.args.kept.now) c.in-State.buffers c.in-State.stars c.facts_of-in-State.result c.facts_of-in-State-2.result c.is_state.result at.form
    (c.facts_of-in-State.ensures (facts_in c.args.pool.now) c.requires.kept) (c.facts_of-in-State-2.ensures (facts_in c.args.pool.now) c.requires.kept) c.is_state.ensures
