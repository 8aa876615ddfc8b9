use Rattle.std.proofs.Common.{refl, ap, subst, length, arith, IsSome}
use Rattle.node_heap.specs.Nodes.{node_links}
use Rattle.node_heap.proofs.Weaving.{at-row, at-trie, becomes-row, becomes-trie, AreNodes-rows, AreNodes-tries}
use Rattle.node_heap.proofs.nodes.Nodes.insert_link.Goals as goal

pub insert_link-requires-clause-live : goal.insert_link-requires-clause-live
insert_link-requires-clause-live c = let i = c.self.inside in subst IsSome (at-row i.rows.slots i.tries.slots c.args.index c.if-index-eq0.true) (rw (← c.self.view_is) at c.requires.live)

pub insert_link-requires-clause-position : goal.insert_link-requires-clause-position
insert_link-requires-clause-position c =
    let i = c.self.inside in
    let inside = rw (← c.self.view_is) at c.requires.position in
    omega (arith, inside, ap (λ o. length (node_links o)) (at-row i.rows.slots i.tries.slots c.args.index c.if-index-eq0.true))

pub insert_link-requires-clause-room : goal.insert_link-requires-clause-room
insert_link-requires-clause-room c =
    let i = c.self.inside in
    let inside = rw (← c.self.view_is) at c.requires.room in
    omega (arith, inside, ap (λ o. length (node_links o)) (at-row i.rows.slots i.tries.slots c.args.index c.if-index-eq0.true))

pub invariant_of-self : goal.invariant_of-self
invariant_of-self c =
    let i = c.self.inside in
    let done = c.insert_link.ensures in
    AreNodes-rows i.rows _ i.tries _ _ _ _ _ c.self.invariant done.room (omega (arith, done.becomes.len)) refl

pub returns-then-index-eq0-clause-becomes : goal.returns-then-index-eq0-clause-becomes
returns-then-index-eq0-clause-becomes c =
    let i = c.self.inside in
    rw (← c.self.view_is) (becomes-row i.rows.slots _ i.tries.slots c.args.index c.if-index-eq0.true _ c.insert_link.ensures.becomes)

pub insert_link-requires-else-index-eq0-clause-live : goal.insert_link-requires-else-index-eq0-clause-live
insert_link-requires-else-index-eq0-clause-live c = let i = c.self.inside in subst IsSome (at-trie i.rows.slots i.tries.slots c.args.index c.if-index-eq0.false) (rw (← c.self.view_is) at c.requires.live)

pub insert_link-requires-else-index-eq0-clause-position : goal.insert_link-requires-else-index-eq0-clause-position
insert_link-requires-else-index-eq0-clause-position c =
    let i = c.self.inside in
    let inside = rw (← c.self.view_is) at c.requires.position in
    omega (arith, inside, ap (λ o. length (node_links o)) (at-trie i.rows.slots i.tries.slots c.args.index c.if-index-eq0.false))

pub insert_link-requires-else-index-eq0-clause-room : goal.insert_link-requires-else-index-eq0-clause-room
insert_link-requires-else-index-eq0-clause-room c =
    let i = c.self.inside in
    let inside = rw (← c.self.view_is) at c.requires.room in
    omega (arith, inside, ap (λ o. length (node_links o)) (at-trie i.rows.slots i.tries.slots c.args.index c.if-index-eq0.false))

pub invariant_of-self-else-index-eq0 : goal.invariant_of-self-else-index-eq0
invariant_of-self-else-index-eq0 c =
    let i = c.self.inside in
    let done = c.insert_link-else-index-eq0.ensures in
    AreNodes-tries i.rows i.tries _ _ _ _ _ _ c.self.invariant done.room (omega (arith, done.becomes.len)) refl

pub returns-else-index-eq0-clause-becomes : goal.returns-else-index-eq0-clause-becomes
returns-else-index-eq0-clause-becomes c =
    let i = c.self.inside in
    rw (← c.self.view_is) (becomes-trie i.rows.slots i.tries.slots _ c.args.index c.if-index-eq0.false _ c.insert_link-else-index-eq0.ensures.becomes)
