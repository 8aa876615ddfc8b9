use Rattle.std.proofs.Common.{arith, refl, ◌∙◌, sym}
use Rattle.std.proofs.lemmas.List.{take_all}
use Rattle.node_heap.proofs.BuildLemmas.{Answered-Builds, Builds-Answered, Builds-MakesJust, Builds-more}
use Rattle.rrb_core.specs.Vector.{elements}
use Rattle.node_heap.proofs.RoomLemmas.{KeepsToNeed-Builds, Builds-KeepsToNeed}
use Rattle.rrb_core.proofs.BuildLemmas.{answered-same, unchanged-good, same-height, shares-just}
use Rattle.rrb_core.proofs.LevelLemmas.{takes-whole, takes-after}
use Rattle.rrb_core.proofs.EditLemmas.{root-after}
use Rattle.rrb_core.proofs.cut.take.Goals as goal

pub returns-then-count-len-clause-items : goal.returns-then-count-len-clause-items
returns-then-count-len-clause-items g c =
    rw c.share.ensures.same ((c.share.ensures.vectors c.args.vector c.requires.good).1 ∙ sym (take_all c.args.count (elements c.args.heap.now c.args.vector) (omega (arith, c.len.ensures.value, c.if-count-len.true))))

pub returns-then-count-len-clause-good : goal.returns-then-count-len-clause-good
returns-then-count-len-clause-good g c = rw c.share.ensures.same (c.share.ensures.vectors c.args.vector c.requires.good).0

pub returns-then-count-len-clause-low : goal.returns-then-count-len-clause-low
returns-then-count-len-clause-low g c = rw (c.share.ensures.same, same-height c.args.heap.now c.share.new.heap c.args.vector c.share.ensures.shares.rows) (omega arith)

pub returns-then-count-len-clause-rows : goal.returns-then-count-len-clause-rows
returns-then-count-len-clause-rows g c = rw c.share.ensures.same (takes-whole c.args.heap.now c.share.new.heap c.share.ensures.shares.rows c.args.vector c.args.count)

pub returns-then-count-len-clause-answered : goal.returns-then-count-len-clause-answered
returns-then-count-len-clause-answered g c = Answered-Builds (Builds-more 0 _ c.share.ensures.shares.builds (omega arith) (omega arith))

pub returns-then-count-len-clause-made : goal.returns-then-count-len-clause-made
returns-then-count-len-clause-made g c = shares-just c.len.ensures.graph c.share.ensures.shares

pub returns-then-count-len-clause-all : goal.returns-then-count-len-clause-all
returns-then-count-len-clause-all g c = λ _. (c.share.ensures.same, c.share.ensures.shares)

pub returns-in_err-reserve-clause-vectors : goal.returns-in_err-reserve-clause-vectors
returns-in_err-reserve-clause-vectors g c = λ l. unchanged-good l c.in_err-reserve.ensures.rest

pub returns-in_err-reserve-clause-all : goal.returns-in_err-reserve-clause-all
returns-in_err-reserve-clause-all g c = λ past. absurd (omega (arith, c.if-count-len.false, c.len.ensures.value, past))

pub front_root-root-requires-clause-root : goal.front_root-root-requires-clause-root
front_root-root-requires-clause-root g c = rw c.root.ensures (root-after c.in_ok-reserve.ensures.rest c.requires.good c.in_ok-reserve.ensures.spares c.requires.few)

pub front_root-root-requires-clause-inside : goal.front_root-root-requires-clause-inside
front_root-root-requires-clause-inside g c = rw (c.root.ensures, (unchanged-good c.args.vector c.in_ok-reserve.ensures.rest c.requires.good).1) (omega (arith, c.len.ensures.value, c.if-count-len.false))

pub returns-clause-items : goal.returns-clause-items
returns-clause-items g c = rw c.from_root.ensures (c.front_root-root.ensures.vector.1 ∙ rw (c.root.ensures, (unchanged-good c.args.vector c.in_ok-reserve.ensures.rest c.requires.good).1) refl)

pub returns-clause-good : goal.returns-clause-good
returns-clause-good g c = rw c.from_root.ensures c.front_root-root.ensures.vector.0

pub returns-clause-low : goal.returns-clause-low
returns-clause-low g c = rw (c.from_root.ensures, ← same-height c.args.heap.now c.reserve.new.self c.args.vector c.in_ok-reserve.ensures.rest.rows) (rw c.root.ensures at c.front_root-root.ensures.low)

pub returns-clause-rows : goal.returns-clause-rows
returns-clause-rows g c = rw c.from_root.ensures (takes-after c.args.heap.now c.reserve.new.self c.in_ok-reserve.ensures.rest.rows c.front_root-root.new.heap c.args.vector c.args.count c.front_root-root.result (rw c.root.ensures at c.front_root-root.ensures.rows))

pub returns-clause-answered : goal.returns-clause-answered
returns-clause-answered g c = rw c.from_root.ensures (Builds-Answered c.in_ok-reserve.ensures.rest c.front_root-root.ensures.builds)

pub returns-clause-made : goal.returns-clause-made
returns-clause-made g c = Builds-MakesJust c.in_ok-reserve.ensures.rest c.front_root-root.ensures.builds

pub returns-clause-all : goal.returns-clause-all
returns-clause-all g c = λ past. absurd (omega (arith, c.if-count-len.false, c.len.ensures.value, past))

pub returns-clause-vectors : goal.returns-clause-vectors
returns-clause-vectors g c = answered-same (Builds-Answered c.in_ok-reserve.ensures.rest c.front_root-root.ensures.builds)

pub returns-clause-spares : goal.returns-clause-spares
returns-clause-spares g c = Builds-KeepsToNeed c.in_ok-reserve.ensures.greater c.in_ok-reserve.ensures.rest c.front_root-root.ensures.builds

pub returns-then-count-len-clause-spares : goal.returns-then-count-len-clause-spares
returns-then-count-len-clause-spares g c = KeepsToNeed-Builds 0 8 c.share.ensures.shares.builds
