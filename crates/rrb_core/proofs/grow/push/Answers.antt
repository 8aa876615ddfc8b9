use Rattle.std.proofs.Common.{arith, ◌≢◌, ◌-◌, ◌^◌, length, refl, sym, ◌∙◌}
use Rattle.node_heap.proofs.BuildLemmas.{Builds-Answered, Builds-MakesJust}
use Rattle.node_heap.proofs.RoomLemmas.{Builds-KeepsToNeed}
use Rattle.rrb_core.specs.Vector.{elements}
use Rattle.rrb_core.proofs.BuildLemmas.{answered-same, unchanged-good, same-forms, same-height}
use Rattle.rrb_core.proofs.PushLemmas.{pushed-root-same, rises}
use Rattle.rrb_core.proofs.EditLemmas.{root-after}
use Rattle.rrb_core.proofs.grow.push.Goals as goal

pub returns-then-is_longest-clause-vectors : goal.returns-then-is_longest-clause-vectors
returns-then-is_longest-clause-vectors g c = λ l good. (good, refl)

pub returns-in_err-reserve-clause-vectors : goal.returns-in_err-reserve-clause-vectors
returns-in_err-reserve-clause-vectors g c = λ l. unchanged-good l c.in_err-reserve.ensures.rest

pub push_root-root-requires-clause-root : goal.push_root-root-requires-clause-root
push_root-root-requires-clause-root g c = rw c.root.ensures (root-after c.in_ok-reserve.ensures.rest c.requires.good c.in_ok-reserve.ensures.spares c.requires.few)

pub push_root-root-requires-clause-short : goal.push_root-root-requires-clause-short
push_root-root-requires-clause-short g c =
    let shorter : length (elements c.args.heap.now c.args.vector) ≢ 2 ^ 32 - 1 = λ longest. let yes = c.is_longest.ensures.1 longest in cc in
    rw (c.root.ensures, (unchanged-good c.args.vector c.in_ok-reserve.ensures.rest c.requires.good).1) (omega (arith, shorter, c.requires.good.shape.short))

pub returns-clause-items : goal.returns-clause-items
returns-clause-items g c = rw c.from_root.ensures (c.push_root-root.ensures.vector.1 ∙ rw (c.root.ensures, (unchanged-good c.args.vector c.in_ok-reserve.ensures.rest c.requires.good).1) refl)

pub returns-clause-good : goal.returns-clause-good
returns-clause-good g c = rw c.from_root.ensures c.push_root-root.ensures.vector.0

pub returns-clause-rule : goal.returns-clause-rule
returns-clause-rule g c = rw c.from_root.ensures (pushed-root-same (λ k. sym (same-forms c.args.heap.now c.reserve.new.self c.in_ok-reserve.ensures.rest.rows k)) (rw c.root.ensures at c.push_root-root.ensures.rule))

pub returns-clause-taller : goal.returns-clause-taller
returns-clause-taller g c = rw c.from_root.ensures (rises (pushed-root-same (λ k. sym (same-forms c.args.heap.now c.reserve.new.self c.in_ok-reserve.ensures.rest.rows k)) (rw c.root.ensures at c.push_root-root.ensures.rule)))

pub returns-clause-answered : goal.returns-clause-answered
returns-clause-answered g c = rw (c.from_root.ensures, ← same-height c.args.heap.now c.reserve.new.self c.args.vector c.in_ok-reserve.ensures.rest.rows) (Builds-Answered c.in_ok-reserve.ensures.rest (rw c.root.ensures at c.push_root-root.ensures.builds))

pub returns-clause-made : goal.returns-clause-made
returns-clause-made g c = Builds-MakesJust c.in_ok-reserve.ensures.rest c.push_root-root.ensures.builds

pub returns-clause-vectors : goal.returns-clause-vectors
returns-clause-vectors g c = answered-same (Builds-Answered c.in_ok-reserve.ensures.rest c.push_root-root.ensures.builds)

pub returns-clause-spares : goal.returns-clause-spares
returns-clause-spares g c = Builds-KeepsToNeed c.in_ok-reserve.ensures.greater c.in_ok-reserve.ensures.rest c.push_root-root.ensures.builds
