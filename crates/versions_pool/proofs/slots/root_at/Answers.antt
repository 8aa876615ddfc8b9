use Rattle.std.proofs.Common.{sym, ◌∙◌, arith}
use Rattle.versions_pool.proofs.SlotLemmas.{at-other, at-other-next, at-same-next}
use Rattle.versions_pool.proofs.slots.root_at.Goals as goal

pub returns-then-branch-number-clause-root : goal.returns-then-branch-number-clause-root
returns-then-branch-number-clause-root c =
    let item = c.in_ok-get.ensures.lookup in
    sym (at-other c.args.names.now c.args.roots.now c.args.number c.args.next.now c.requires.many c.requires.at item.3.0 (λ same. c.if-branch-number.true (item.4 (omega arith) 0 ∙ same)))

pub returns-then-branch-number-clause-at : goal.returns-then-branch-number-clause-at
returns-then-branch-number-clause-at c =
    let item = c.in_ok-get.ensures.lookup in
    at-other-next c.args.names.now c.args.roots.now c.args.number c.args.next.now c.requires.many c.requires.at item.3.0 (λ same. c.if-branch-number.true (item.4 (omega arith) 0 ∙ same))

pub returns-clause-at : goal.returns-clause-at
returns-clause-at c =
    let item = c.in_ok-get.ensures.lookup in
    at-same-next c.args.names.now c.args.roots.now c.args.number c.args.next.now c.requires.many c.requires.at item.3.0 (sym (item.4 (omega arith) 0) ∙ c.if-branch-number.false)
