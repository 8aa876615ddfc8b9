use Rattle.map_tests.proofs.HeldLemmas.{first-held, first-given, last-held, last-given}
use Rattle.map_tests.proofs.map_editing.MapEditing.close.Goals as goal

pub release-requires : goal.release-requires
release-requires g c = rw c.freeze.ensures (first-held g.T.Ord.cmp g.T.Element.code_of c.self.inside.heap c.self.inside.edit c.self.inside.maps.items c.self.invariant)

pub loop-map-init : goal.loop-map-init
loop-map-init g c = first-given g.T.Ord.cmp g.T.Element.code_of c.self.inside.heap c.release.new.heap c.self.inside.edit c.self.inside.maps.items c.self.invariant (rw c.freeze.ensures at c.release.ensures.releases.holds)

pub release-requires-in-Some : goal.release-requires-in-Some
release-requires-in-Some g c = rw c.root.ensures (last-held c.loop-map.heap c.loop-map.maps.items c.pop.new.self.items c.in-Some.map (rw c.in-Some.is at c.pop.ensures.items) c.loop-map.invariant)

pub loop-map-preserved : goal.loop-map-preserved
loop-map-preserved g c = last-given c.loop-map.heap c.release-in-Some.new.self c.loop-map.maps.items c.pop.new.self.items c.in-Some.map (rw c.in-Some.is at c.pop.ensures.items) c.loop-map.invariant (rw c.root.ensures at c.release-in-Some.ensures.releases.holds)
