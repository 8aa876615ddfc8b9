use Rattle.map_tests.proofs.HeldLemmas.{are-made}
use Rattle.map_tests.proofs.map_editing.MapEditing.pure_insert.Goals as goal

pub invariant_of-self : goal.invariant_of-self
invariant_of-self g c =
    let made = c.bound-made in
    are-made g.T.Ord.cmp g.T.Element.code_of c.self.inside.heap made.new.heap c.self.inside.edit c.self.inside.maps.items c.kept.new.things.items made.result c.kept.ensures.ok made.ensures.good made.ensures.others made.ensures.count made.ensures.holds c.kept.ensures.list c.self.invariant
