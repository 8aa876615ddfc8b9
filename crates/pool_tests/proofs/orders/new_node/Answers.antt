use Rattle.pool_tests.proofs.orders.new_node.Goals as goal

pub returns-clause-others : goal.returns-clause-others
returns-clause-others g c = λ l there. c.node.ensures.extends.live l (c.hold-2.ensures.extends.live l (c.hold.ensures.extends.live l (c.reserve.ensures.extends.live l there)))
