use Rattle.std.proofs.Common.{refl, subst, arith, IsSome}
use Rattle.node_heap.proofs.Weaving.{at-row, at-trie, becomes-row, becomes-trie, AreNodes-rows, AreNodes-tries}
use Rattle.node_heap.proofs.nodes.Nodes.set_head.Goals as goal

pub set_head-requires : goal.set_head-requires
set_head-requires c = let i = c.self.inside in subst IsSome (at-row i.rows.slots i.tries.slots c.args.index c.if-index-eq0.true) (rw (← c.self.view_is) at c.requires)

pub invariant_of-self : goal.invariant_of-self
invariant_of-self c =
    let i = c.self.inside in
    let done = c.set_head.ensures in
    AreNodes-rows i.rows _ i.tries _ _ _ _ _ c.self.invariant done.room (omega (arith, done.becomes.len)) refl

pub returns-then-index-eq0-clause-becomes : goal.returns-then-index-eq0-clause-becomes
returns-then-index-eq0-clause-becomes c =
    let i = c.self.inside in
    rw (← c.self.view_is) (becomes-row i.rows.slots _ i.tries.slots c.args.index c.if-index-eq0.true _ c.set_head.ensures.becomes)

pub set_head-requires-else-index-eq0 : goal.set_head-requires-else-index-eq0
set_head-requires-else-index-eq0 c = let i = c.self.inside in subst IsSome (at-trie i.rows.slots i.tries.slots c.args.index c.if-index-eq0.false) (rw (← c.self.view_is) at c.requires)

pub invariant_of-self-else-index-eq0 : goal.invariant_of-self-else-index-eq0
invariant_of-self-else-index-eq0 c =
    let i = c.self.inside in
    let done = c.set_head-else-index-eq0.ensures in
    AreNodes-tries i.rows i.tries _ _ _ _ _ _ c.self.invariant done.room (omega (arith, done.becomes.len)) refl

pub returns-else-index-eq0-clause-becomes : goal.returns-else-index-eq0-clause-becomes
returns-else-index-eq0-clause-becomes c =
    let i = c.self.inside in
    rw (← c.self.view_is) (becomes-trie i.rows.slots i.tries.slots _ c.args.index c.if-index-eq0.false _ c.set_head-else-index-eq0.ensures.becomes)
