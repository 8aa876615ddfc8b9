use Rattle.std.proofs.Common.{◌∙◌, refl, sym, ap, length, arith, slice_index}
use Rattle.node_heap.specs.Nodes.{node_links}
use Rattle.node_heap.proofs.Weaving.{at-row, at-trie, becomes-row, becomes-trie, AreNodes-rows, AreNodes-tries}
use Rattle.node_heap.proofs.nodes.Nodes.replace_link.Goals as goal

pub replace_link-requires : goal.replace_link-requires
replace_link-requires c =
    let i = c.self.inside in
    let inside = rw (← c.self.view_is) at c.requires in
    omega (arith, inside, ap (λ o. length (node_links o)) (at-row i.rows.slots i.tries.slots c.args.index c.if-index-eq0.true))

pub invariant_of-self : goal.invariant_of-self
invariant_of-self c =
    let i = c.self.inside in
    let done = c.replace_link.ensures in
    AreNodes-rows i.rows _ i.tries _ _ _ _ _ c.self.invariant done.room (omega (arith, done.becomes.len)) refl

pub returns-then-index-eq0-clause-old : goal.returns-then-index-eq0-clause-old
returns-then-index-eq0-clause-old c =
    let i = c.self.inside in
    rw (← c.self.view_is) (c.replace_link.ensures.old ∙ sym (ap (λ o. slice_index (node_links o) c.args.position) (at-row i.rows.slots i.tries.slots c.args.index c.if-index-eq0.true)))

pub returns-then-index-eq0-clause-becomes : goal.returns-then-index-eq0-clause-becomes
returns-then-index-eq0-clause-becomes c =
    let i = c.self.inside in
    rw (← c.self.view_is) (becomes-row i.rows.slots _ i.tries.slots c.args.index c.if-index-eq0.true _ c.replace_link.ensures.becomes)

pub replace_link-requires-else-index-eq0 : goal.replace_link-requires-else-index-eq0
replace_link-requires-else-index-eq0 c =
    let i = c.self.inside in
    let inside = rw (← c.self.view_is) at c.requires in
    omega (arith, inside, ap (λ o. length (node_links o)) (at-trie i.rows.slots i.tries.slots c.args.index c.if-index-eq0.false))

pub invariant_of-self-else-index-eq0 : goal.invariant_of-self-else-index-eq0
invariant_of-self-else-index-eq0 c =
    let i = c.self.inside in
    let done = c.replace_link-else-index-eq0.ensures in
    AreNodes-tries i.rows i.tries _ _ _ _ _ _ c.self.invariant done.room (omega (arith, done.becomes.len)) refl

pub returns-else-index-eq0-clause-old : goal.returns-else-index-eq0-clause-old
returns-else-index-eq0-clause-old c =
    let i = c.self.inside in
    rw (← c.self.view_is) (c.replace_link-else-index-eq0.ensures.old ∙ sym (ap (λ o. slice_index (node_links o) c.args.position) (at-trie i.rows.slots i.tries.slots c.args.index c.if-index-eq0.false)))

pub returns-else-index-eq0-clause-becomes : goal.returns-else-index-eq0-clause-becomes
returns-else-index-eq0-clause-becomes c =
    let i = c.self.inside in
    rw (← c.self.view_is) (becomes-trie i.rows.slots i.tries.slots _ c.args.index c.if-index-eq0.false _ c.replace_link-else-index-eq0.ensures.becomes)
