use Rattle.map_tests.proofs.HeldLemmas.{first-is, first-held, are-edited}
use Rattle.map_tests.proofs.map_editing.MapEditing.own_value.Goals as goal

pub own-requires-clause-cells : goal.own-requires-clause-cells
own-requires-clause-cells g c = first-is g.T.Ord.cmp g.T.Element.code_of c.self.inside.heap c.self.inside.edit c.self.inside.maps.items c.self.invariant

pub own-requires-clause-held : goal.own-requires-clause-held
own-requires-clause-held g c = first-held g.T.Ord.cmp g.T.Element.code_of c.self.inside.heap c.self.inside.edit c.self.inside.maps.items c.self.invariant

pub invariant_of-self : goal.invariant_of-self
invariant_of-self g c = are-edited g.T.Ord.cmp g.T.Element.code_of c.self.inside.heap c.own.new.heap c.self.inside.edit c.own.new.edit c.self.inside.maps.items c.self.invariant c.own.ensures
