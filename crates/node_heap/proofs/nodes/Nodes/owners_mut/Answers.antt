use Rattle.std.proofs.Common.{◌/◌, ◌∙◌, refl, sym, ap, subst, arith, IsSome}
use Rattle.node_heap.specs.Nodes.{node_owners}
use Rattle.node_heap.proofs.Headed.{len-owned}
use Rattle.node_heap.proofs.Weaving.{at-row, at-trie, owned-row, owned-trie, AreNodes-rows, AreNodes-tries}
use Rattle.node_heap.proofs.nodes.Nodes.owners_mut.Goals as goal

pub owners_mut-requires : goal.owners_mut-requires
owners_mut-requires c = let i = c.self.inside in subst IsSome (at-row i.rows.slots i.tries.slots c.args.index c.if-index-eq0.true) (rw (← c.self.view_is) at c.requires)

pub invariant_of-self-lent : goal.invariant_of-self-lent
invariant_of-self-lent c w =
    let i = c.self.inside in
    AreNodes-rows i.rows _ i.tries _ _ _ _ _ c.self.invariant refl (omega (arith, len-owned i.rows.slots (c.args.index / 2) w (subst IsSome (at-row i.rows.slots i.tries.slots c.args.index c.if-index-eq0.true) (rw (← c.self.view_is) at c.requires)))) refl

pub returns-then-index-eq0 : goal.returns-then-index-eq0
returns-then-index-eq0 c =
    let i = c.self.inside in (
      (refl, λ w. rw (← c.self.view_is) (ap (λ xs. record { slots = xs; spares = i.spares }) (owned-row i.rows.slots i.tries.slots c.args.index w c.if-index-eq0.true (subst IsSome (at-row i.rows.slots i.tries.slots c.args.index c.if-index-eq0.true) (rw (← c.self.view_is) at c.requires))))),
      record { writes_back = tt; value = rw (← c.self.view_is) (c.owners_mut.ensures.value ∙ sym (ap node_owners (at-row i.rows.slots i.tries.slots c.args.index c.if-index-eq0.true))) },
    )

pub owners_mut-requires-else-index-eq0 : goal.owners_mut-requires-else-index-eq0
owners_mut-requires-else-index-eq0 c = let i = c.self.inside in subst IsSome (at-trie i.rows.slots i.tries.slots c.args.index c.if-index-eq0.false) (rw (← c.self.view_is) at c.requires)

pub invariant_of-self-lent-else-index-eq0 : goal.invariant_of-self-lent-else-index-eq0
invariant_of-self-lent-else-index-eq0 c w =
    let i = c.self.inside in
    AreNodes-tries i.rows i.tries _ _ _ _ _ _ c.self.invariant refl (omega (arith, len-owned i.tries.slots (c.args.index / 2) w (subst IsSome (at-trie i.rows.slots i.tries.slots c.args.index c.if-index-eq0.false) (rw (← c.self.view_is) at c.requires)))) refl

pub returns-else-index-eq0 : goal.returns-else-index-eq0
returns-else-index-eq0 c =
    let i = c.self.inside in (
      (refl, λ w. rw (← c.self.view_is) (ap (λ xs. record { slots = xs; spares = i.spares }) (owned-trie i.rows.slots i.tries.slots c.args.index w c.if-index-eq0.false (subst IsSome (at-trie i.rows.slots i.tries.slots c.args.index c.if-index-eq0.false) (rw (← c.self.view_is) at c.requires))))),
      record { writes_back = tt; value = rw (← c.self.view_is) (c.owners_mut-else-index-eq0.ensures.value ∙ sym (ap node_owners (at-trie i.rows.slots i.tries.slots c.args.index c.if-index-eq0.false))) },
    )
