use Rattle.std.proofs.Common.{subst, arith, IsSome}
use Rattle.node_heap.proofs.Rooming.{some-counted}
use Rattle.node_heap.proofs.Weaving.{at-row, at-trie, len-kinds, frees-row, frees-trie, AreNodes-rows, AreNodes-tries}
use Rattle.node_heap.proofs.nodes.Nodes.free.Goals as goal

pub overflow_sub-self : goal.overflow_sub-self
overflow_sub-self c =
    let i = c.self.inside in
    omega (arith, some-counted _ c.args.index (rw (← c.self.view_is) at c.requires), len-kinds i.rows.slots i.tries.slots, c.self.invariant.both_kinds)

pub free-requires : goal.free-requires
free-requires c = let i = c.self.inside in subst IsSome (at-row i.rows.slots i.tries.slots c.args.index c.if-index-eq0.true) (rw (← c.self.view_is) at c.requires)

pub invariant_of-self : goal.invariant_of-self
invariant_of-self c =
    let i = c.self.inside in
    let done = c.free.ensures in
    AreNodes-rows i.rows _ i.tries _ _ _ _ _ c.self.invariant done.room
    (omega (arith, done.len, some-counted _ c.args.index (rw (← c.self.view_is) at c.requires), len-kinds i.rows.slots i.tries.slots, c.self.invariant.both_kinds))
    (omega (arith, some-counted _ c.args.index (rw (← c.self.view_is) at c.requires), len-kinds i.rows.slots i.tries.slots, c.self.invariant.both_kinds))

pub returns-then-index-eq0-clause-gone : goal.returns-then-index-eq0-clause-gone
returns-then-index-eq0-clause-gone c =
    let i = c.self.inside in
    let done = c.free.ensures in
    (frees-row i.rows.slots _ i.tries.slots c.args.index c.if-index-eq0.true (record { gone = done.gone; others = done.others; len = done.len })).gone

pub returns-then-index-eq0-clause-others : goal.returns-then-index-eq0-clause-others
returns-then-index-eq0-clause-others c =
    let i = c.self.inside in
    let done = c.free.ensures in
    rw (← c.self.view_is) (frees-row i.rows.slots _ i.tries.slots c.args.index c.if-index-eq0.true (record { gone = done.gone; others = done.others; len = done.len })).others

pub returns-then-index-eq0-clause-len : goal.returns-then-index-eq0-clause-len
returns-then-index-eq0-clause-len c =
    let i = c.self.inside in
    let done = c.free.ensures in
    rw (← c.self.view_is) (frees-row i.rows.slots _ i.tries.slots c.args.index c.if-index-eq0.true (record { gone = done.gone; others = done.others; len = done.len })).len

pub free-requires-else-index-eq0 : goal.free-requires-else-index-eq0
free-requires-else-index-eq0 c = let i = c.self.inside in subst IsSome (at-trie i.rows.slots i.tries.slots c.args.index c.if-index-eq0.false) (rw (← c.self.view_is) at c.requires)

pub invariant_of-self-else-index-eq0 : goal.invariant_of-self-else-index-eq0
invariant_of-self-else-index-eq0 c =
    let i = c.self.inside in
    let done = c.free-else-index-eq0.ensures in
    AreNodes-tries i.rows i.tries _ _ _ _ _ _ c.self.invariant done.room
    (omega (arith, done.len, some-counted _ c.args.index (rw (← c.self.view_is) at c.requires), len-kinds i.rows.slots i.tries.slots, c.self.invariant.both_kinds))
    (omega (arith, some-counted _ c.args.index (rw (← c.self.view_is) at c.requires), len-kinds i.rows.slots i.tries.slots, c.self.invariant.both_kinds))

pub returns-else-index-eq0-clause-gone : goal.returns-else-index-eq0-clause-gone
returns-else-index-eq0-clause-gone c =
    let i = c.self.inside in
    let done = c.free-else-index-eq0.ensures in
    (frees-trie i.rows.slots i.tries.slots _ c.args.index c.if-index-eq0.false (record { gone = done.gone; others = done.others; len = done.len })).gone

pub returns-else-index-eq0-clause-others : goal.returns-else-index-eq0-clause-others
returns-else-index-eq0-clause-others c =
    let i = c.self.inside in
    let done = c.free-else-index-eq0.ensures in
    rw (← c.self.view_is) (frees-trie i.rows.slots i.tries.slots _ c.args.index c.if-index-eq0.false (record { gone = done.gone; others = done.others; len = done.len })).others

pub returns-else-index-eq0-clause-len : goal.returns-else-index-eq0-clause-len
returns-else-index-eq0-clause-len c =
    let i = c.self.inside in
    let done = c.free-else-index-eq0.ensures in
    rw (← c.self.view_is) (frees-trie i.rows.slots i.tries.slots _ c.args.index c.if-index-eq0.false (record { gone = done.gone; others = done.others; len = done.len })).len
