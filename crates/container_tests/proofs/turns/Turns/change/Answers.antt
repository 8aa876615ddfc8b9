use Rattle.std.proofs.Common.{◌≡◌, [], ◌∷◌, refl, ◌∙◌}
use Rattle.node_heap.specs.Calls.{Builds}
use Rattle.container_tests.proofs.TurnLemmas.{held-as, held-unchanged, held-built, held-with}
use Rattle.container_tests.proofs.turns.Turns.change.Goals as goal
use Rattle.container_tests.proofs.turns.Turns.change.Goals.{in-1, in-2, in_default}

pub returns-then-way-eq0 : goal.returns-then-way-eq0
returns-then-way-eq0 c =
    record { held = held-built c.with_removed-made.ensures.adds.builds c.push.ensures.items (held-unchanged c.in_ok-reserve.ensures.rest (held-as c.any-row.ensures.heap c.any-row.ensures.same c.requires.held)) }

pub returns : goal.returns
returns c =
    let builds : Builds c.hold.new.self c.match-way.self.heap (c.any-link.result ∷ []) (c.match-way.made ∷ []) 0 1 =
    elim c.match-way.branch as (λ _. Builds c.hold.new.self c.match-way.self.heap (c.any-link.result ∷ []) (c.match-way.made ∷ []) 0 1) [
      | in-1 w ↦ rw (w.self-is, w.made-is) w.with_inserted-made.ensures.adds.builds
      | in-2 w ↦ rw (w.self-is, w.made-is) w.with_replaced-made.ensures.adds.builds
      | in_default w ↦ rw (w.self-is, w.made-is) w.with_turned-made.ensures.adds.builds
    ]
    in
    let same : c.match-way.self.held ≡ c.any-link.new.self.held =
    elim c.match-way.branch as (λ _. c.match-way.self.held ≡ c.any-link.new.self.held) [ in-1 w ↦ rw w.self-is refl | in-2 w ↦ rw w.self-is refl | in_default w ↦ rw w.self-is refl ]
    in
    let before = held-unchanged c.in_ok-reserve.ensures.rest (held-as c.any-row.ensures.heap c.any-row.ensures.same c.requires.held) in
    record { held = held-with c.hold.ensures.holds c.hold.ensures.count builds c.push-2.ensures.items (held-as c.any-link.ensures.heap (same ∙ c.any-link.ensures.same) before) }
