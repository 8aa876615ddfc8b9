use Rattle.map_tests.proofs.HeldLemmas.{first-is, first-held, are-edited}
use Rattle.map_tests.proofs.map_editing.MapEditing.remove.Goals as goal

pub cut-requires-clause-cells : goal.cut-requires-clause-cells
cut-requires-clause-cells g c = first-is g.T.Ord.cmp g.T.Element.code_of c.self.inside.heap c.self.inside.edit c.self.inside.maps.items c.self.invariant

pub cut-requires-clause-held : goal.cut-requires-clause-held
cut-requires-clause-held g c = first-held g.T.Ord.cmp g.T.Element.code_of c.self.inside.heap c.self.inside.edit c.self.inside.maps.items c.self.invariant

pub invariant_of-self : goal.invariant_of-self
invariant_of-self g c = are-edited g.T.Ord.cmp g.T.Element.code_of c.self.inside.heap c.cut.new.heap c.self.inside.edit c.cut.new.edit c.self.inside.maps.items c.self.invariant c.cut.ensures
