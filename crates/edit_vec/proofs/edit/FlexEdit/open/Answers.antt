use Rattle.std.proofs.Common.{refl, arith, ap, ◌∙◌}
use Rattle.node_heap.specs.Heap.{row_at}
use Rattle.node_heap.proofs.Frames.{Extends-trans}
use Rattle.rrb_core.proofs.BuildLemmas.{unchanged-good}
use Rattle.node_heap.proofs.OwnedRows.{Owns, owns, owned-hold, after-room}
use Rattle.edit_vec.proofs.TopLemmas.{good-node, vector-owned, edits-owned}
use Rattle.edit_vec.proofs.edit.FlexEdit.open.Given.{Over}
use Rattle.edit_vec.proofs.edit.FlexEdit.open.Goals as goal

pub own-root-requires-clause-node : goal.own-root-requires-clause-node
own-root-requires-clause-node g c = rw c.into_root.ensures (good-node (unchanged-good c.args.vector c.in-Ok.ensures.rest c.requires.good).0)

owned : (g : Over) (c : goal.After-own-root g) → Owns c.reserve.new.self c.own-root.new.self c.args.vector c.own-root.result
owned g c =
    let did = c.own-root.ensures in
    let room = c.in-Ok.ensures.rest in
    owns c.into_root.ensures room.graph (omega (arith, c.requires.held, room.holds c.args.vector)) did.same did.row did.sole did.fresh did.owners did.builds did.makes

pub returns-clause-items : goal.returns-clause-items
returns-clause-items g c = vector-owned (after-room c.in-Ok.ensures.rest (owned-hold (owned g c))) c.requires.good refl

pub returns-clause-edits : goal.returns-clause-edits
returns-clause-edits g c = edits-owned (after-room c.in-Ok.ensures.rest (owned-hold (owned g c))) c.requires.good refl c.own-root.ensures.builds.graph

pub returns-clause-extends : goal.returns-clause-extends
returns-clause-extends g c = Extends-trans c.in-Ok.ensures.extends c.own-root.ensures.builds.extends

pub returns-clause-row : goal.returns-clause-row
returns-clause-row g c = c.own-root.ensures.row ∙ ap (row_at c.reserve.new.self) c.into_root.ensures ∙ c.in-Ok.ensures.rest.rows c.args.vector
