use Rattle.map_tests.proofs.HeldLemmas.{first-is, first-held, are-edited}
use Rattle.map_tests.proofs.map_editing.MapEditing.insert.Goals as goal

pub put-requires-clause-cells : goal.put-requires-clause-cells
put-requires-clause-cells g c = first-is g.T.Ord.cmp g.T.Element.code_of c.self.inside.heap c.self.inside.edit c.self.inside.maps.items c.self.invariant

pub put-requires-clause-held : goal.put-requires-clause-held
put-requires-clause-held g c = first-held g.T.Ord.cmp g.T.Element.code_of c.self.inside.heap c.self.inside.edit c.self.inside.maps.items c.self.invariant

pub invariant_of-self : goal.invariant_of-self
invariant_of-self g c = are-edited g.T.Ord.cmp g.T.Element.code_of c.self.inside.heap c.put.new.heap c.self.inside.edit c.put.new.edit c.self.inside.maps.items c.self.invariant c.put.ensures
