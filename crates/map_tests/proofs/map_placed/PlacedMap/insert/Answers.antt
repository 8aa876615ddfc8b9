use Rattle.champ_kinds.specs.Binding.{bind}
use Rattle.map_tests.proofs.PlacedLemmas.{placed-cell, placed-put, put-came, put-placed}
use Rattle.map_tests.proofs.map_placed.PlacedMap.insert.Goals as goal

pub insert_at-requires-clause-child : goal.insert_at-requires-clause-child
insert_at-requires-clause-child g c =
    let did = c.cell-value.ensures in
    let is = placed-cell g.T.Ord.cmp g.T.Element.code_of c.self.inside.heap c.reserve.new.self c.cell-value.new.self c.self.inside.parent c.self.inside.index c.self.inside.bits c.cell-value.result _ c.self.invariant c.reserve.ensures.rest c.reserve.ensures.extends c.reserve.ensures.owners did.adds did.owners did.extends did.count in
    is.inside

pub insert_at-requires-clause-apart : goal.insert_at-requires-clause-apart
insert_at-requires-clause-apart g c =
    let did = c.cell-value.ensures in
    let is = placed-cell g.T.Ord.cmp g.T.Element.code_of c.self.inside.heap c.reserve.new.self c.cell-value.new.self c.self.inside.parent c.self.inside.index c.self.inside.bits c.cell-value.result _ c.self.invariant c.reserve.ensures.rest c.reserve.ensures.extends c.reserve.ensures.owners did.adds did.owners did.extends did.count in
    is.apart

pub insert_at-requires-clause-contents : goal.insert_at-requires-clause-contents
insert_at-requires-clause-contents g c =
    let did = c.cell-value.ensures in
    let is = placed-cell g.T.Ord.cmp g.T.Element.code_of c.self.inside.heap c.reserve.new.self c.cell-value.new.self c.self.inside.parent c.self.inside.index c.self.inside.bits c.cell-value.result _ c.self.invariant c.reserve.ensures.rest c.reserve.ensures.extends c.reserve.ensures.owners did.adds did.owners did.extends did.count in
    is.good

pub came_back-requires : goal.came_back-requires
came_back-requires g c =
    let did = c.cell-value.ensures in
    let is = placed-cell g.T.Ord.cmp g.T.Element.code_of c.self.inside.heap c.reserve.new.self c.cell-value.new.self c.self.inside.parent c.self.inside.index c.self.inside.bits c.cell-value.result _ c.self.invariant c.reserve.ensures.rest c.reserve.ensures.extends c.reserve.ensures.owners did.adds did.owners did.extends did.count in
    let M = is.good in
    let puts = c.in-Ok.ensures.puts M.0 M.1 in
    let changes = c.in-Ok.ensures.changes M.0 M.1 in
    let put = placed-put g.T.Ord.cmp g.T.Element.code_of c.cell-value.new.self c.insert_at.new.heap c.self.inside.parent c.self.inside.index c.self.inside.bits c.cell-value.result c.in-Ok.given _ _ _ _ is (bind g.T.Ord.cmp M.0 c.args.key c.cell-value.result, puts.map) puts.edits changes in
    record { held = put-came g.T.Ord.cmp g.T.Element.code_of c.insert_at.new.heap c.self.inside.parent c.self.inside.index c.self.inside.bits c.in-Ok.given put }

pub invariant_of-self : goal.invariant_of-self
invariant_of-self g c =
    let did = c.cell-value.ensures in
    let is = placed-cell g.T.Ord.cmp g.T.Element.code_of c.self.inside.heap c.reserve.new.self c.cell-value.new.self c.self.inside.parent c.self.inside.index c.self.inside.bits c.cell-value.result _ c.self.invariant c.reserve.ensures.rest c.reserve.ensures.extends c.reserve.ensures.owners did.adds did.owners did.extends did.count in
    let M = is.good in
    let puts = c.in-Ok.ensures.puts M.0 M.1 in
    let changes = c.in-Ok.ensures.changes M.0 M.1 in
    let put = placed-put g.T.Ord.cmp g.T.Element.code_of c.cell-value.new.self c.insert_at.new.heap c.self.inside.parent c.self.inside.index c.self.inside.bits c.cell-value.result c.in-Ok.given _ _ _ _ is (bind g.T.Ord.cmp M.0 c.args.key c.cell-value.result, puts.map) puts.edits changes in
    put-placed g.T.Ord.cmp g.T.Element.code_of c.insert_at.new.heap c.came_back.new.heap c.self.inside.parent c.self.inside.index c.self.inside.bits c.in-Ok.given put changes.trades.graph c.came_back.ensures
