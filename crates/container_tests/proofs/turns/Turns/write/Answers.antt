use Rattle.std.proofs.Common.{◌≡◌, List, ℕ, length, get_or, ap, subst, arith}
use Rattle.container_tests.proofs.TurnLemmas.{held-unchanged, held-traded, held-written, child-live}
use Rattle.container_tests.proofs.turns.Turns.write.Goals as goal
use Rattle.container_tests.proofs.turns.Turns.write.Goals.{then-len-gt0+else-is_some, else-len-gt0}

pub head-requires-then-len-gt0 : goal.head-requires-then-len-gt0
head-requires-then-len-gt0 c =
    child-live c.own-row.result c.links.result.now c.roll-index.result c.index-links-index.result c.own-row.ensures.builds.graph c.links.ensures.links
    (omega (arith, c.roll-index.ensures, ap length c.links.ensures.links, ap length c.links-len.ensures.links)) c.index-links-index.is

pub write_own-requires-clause-held : goal.write_own-requires-clause-held
write_own-requires-clause-held c =
    let read = subst (λ (ks : List ℕ). c.index-deref-at.result ≡ get_or ks c.roll-at.result c.index-deref-at.result) c.deref.ensures.0 c.index-deref-at.is in
    held-traded c.own_child-own.ensures.changes.trades
    (held-written c.roll-at.result c.own-row.ensures.builds (omega (arith, c.roll-at.ensures, c.len.ensures.value)) read c.deref_mut.ensures.value (held-unchanged c.in_ok-reserve.ensures.rest c.requires.held))

pub write_own-requires-2-clause-held : goal.write_own-requires-2-clause-held
write_own-requires-2-clause-held c =
    let read = subst (λ (ks : List ℕ). c.index-deref-at.result ≡ get_or ks c.roll-at.result c.index-deref-at.result) c.deref.ensures.0 c.index-deref-at.is in
    let are = held-written c.roll-at.result c.own-row.ensures.builds (omega (arith, c.roll-at.ensures, c.len.ensures.value)) read c.deref_mut.ensures.value (held-unchanged c.in_ok-reserve.ensures.rest c.requires.held) in
    elim c.if-len-gt0.branch [ then-len-gt0+else-is_some w ↦ rw w.self-is are | else-len-gt0 w ↦ rw w.self-is are ]
