use Rattle.std.proofs.Common.{ap, ◌∙◌}
use Rattle.champ_kinds.specs.Root.{Root}
use Rattle.champ_kinds.proofs.StayLemmas.{map-live}
use Rattle.map_tests.proofs.HeldLemmas.{first-is, are-kept}
use Rattle.map_tests.proofs.map_editing.MapEditing.keep.Goals as goal

pub hold-requires-clause-live : goal.hold-requires-clause-live
hold-requires-clause-live g c = map-live c.self.inside.heap c.self.inside.edit c.root.result (c.root.ensures ∙ ap (λ (r : Root). r.root) c.view-map.ensures) (first-is g.T.Ord.cmp g.T.Element.code_of c.self.inside.heap c.self.inside.edit c.self.inside.maps.items c.self.invariant).1.map

pub invariant_of-self : goal.invariant_of-self
invariant_of-self g c =
    are-kept g.T.Ord.cmp g.T.Element.code_of c.self.inside.heap c.hold.new.self c.self.inside.edit c.view-map.result c.self.inside.maps.items c.push.new.self.items c.view-map.ensures (rw c.expect.ensures at c.push.ensures.items) c.hold.ensures.extends
    (rw c.root.ensures at c.hold.ensures.holds) c.hold.ensures.count c.self.invariant
