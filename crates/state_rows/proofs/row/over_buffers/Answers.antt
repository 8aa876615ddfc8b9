use Rattle.std.proofs.Common.{[], ◌∷◌, arith}
use Rattle.node_heap.proofs.Frames.{Makes-trans}
use Rattle.node_heap.proofs.BuildLemmas.{Builds-hold, Answered-Builds, count-cons, count-one}
use Rattle.state_rows.proofs.Answering.{answered-over, one-held}
use Rattle.state_rows.proofs.Staying.{over-parts}
use Rattle.state_rows.proofs.row.over_buffers.Goals as goal

pub state_row-requires-clause-held : goal.state_row-requires-clause-held
state_row-requires-clause-held c = λ k.
    omega (arith, one-held c.args.heap.now c.args.stars c.requires.held k, c.hold.ensures.holds k, count-cons k c.args.buffers (c.args.stars ∷ []), count-one k c.args.stars)

pub state_row-requires-clause-spares : goal.state_row-requires-clause-spares
state_row-requires-clause-spares c = (omega arith, omega (arith, c.requires.spares.1, c.hold.ensures.makes.spare_nodes))

pub returns-clause-answered : goal.returns-clause-answered
returns-clause-answered c =
    let holding = Answered-Builds (Builds-hold c.hold.ensures.holds c.hold.ensures.makes c.hold.ensures.count c.hold.ensures.graph c.hold.ensures.extends) in
    answered-over c.args.stars c.args.buffers c.args.buffers c.args.stars holding c.state_row.ensures.answered (λ k. omega arith)

pub returns-clause-makes : goal.returns-clause-makes
returns-clause-makes c = Makes-trans c.hold.ensures.makes c.state_row.ensures.makes

pub returns-clause-state : goal.returns-clause-state
returns-clause-state c = over-parts c.hold.ensures.extends c.state_row.ensures.state
