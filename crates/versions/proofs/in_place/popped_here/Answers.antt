use Rattle.std.proofs.Common.{◌+◌, ◌≤◌, arith}
use Rattle.node_heap.specs.declared.owner.Owner.TheVariants.{Hold as by_hold}
use Rattle.rrb_core.specs.Vector.{height_at}
use Rattle.edit_vec.specs.Edit.{PopsElement}
use Rattle.versions.proofs.EditLemmas.{pop-given, popped-here}
use Rattle.versions.proofs.in_place.popped_here.Goals as goal

pub release-requires : goal.release-requires
release-requires g c =
    pop-given c.args.heap.now c.pop_held-left.new.heap c.args.root c.pop_held-left.result.0 c.pop_held-left.result.1 c.requires.held (rw c.from_root.ensures at c.pop_held-left.ensures.pops)

pub returns-clause-edits : goal.returns-clause-edits
returns-clause-edits g c = λ xs is.
    rw c.into_root.ensures
    (popped-here c.args.heap.now c.pop_held-left.new.heap c.args.root c.pop_held-left.result.0 c.pop_held-left.result.1 c.requires.held (rw c.from_root.ensures at c.pop_held-left.ensures.pops)
    c.release.new.self xs c.rows_form_a_graph.ensures c.release.ensures.releases c.release.ensures.keeps is)

pub returns-clause-made : goal.returns-clause-made
returns-clause-made g c =
    let old = c.args.heap.now in
    let pops : PopsElement (by_hold c.args.root) old c.pop_held-left.new.heap c.pop_held-left.result.0 c.pop_held-left.result.1 = rw c.from_root.ensures at c.pop_held-left.ensures.pops in
    let few : c.pop_held-left.new.heap.made ≤ old.made + (0 + (height_at old c.args.root + 1)) = pops.edits.trades.made in
    let low : height_at old c.args.root ≤ 7 = c.requires.good.shape.low in
    let all : c.release.new.self.made ≤ old.made + 8 = omega (arith, few, low, c.release.ensures.releases.made) in
    all
