use Rattle.std.proofs.Common.{sym, subst}
use Rattle.map_tests.specs.Stands.{IsCellMap}
use Rattle.map_tests.proofs.HeldLemmas.{first-is}
use Rattle.map_tests.proofs.map_editing.MapEditing.is_same.Goals as goal

pub is_same-requires-clause-first : goal.is_same-requires-clause-first
is_same-requires-clause-first g c = subst (IsCellMap g.T.Ord.cmp g.T.Element.code_of c.self.inside.heap) (sym c.view-edited.ensures) (first-is g.T.Ord.cmp g.T.Element.code_of c.self.inside.heap c.self.inside.edit c.self.inside.maps.items c.self.invariant)
