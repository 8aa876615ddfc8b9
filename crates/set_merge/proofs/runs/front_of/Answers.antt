use Rattle.std.proofs.Common.{◌≡◌, ◌∙◌, sym, ap, subst, ◌∷◌}
use Rattle.node_heap.specs.Heap.{form_at}
use Rattle.champ_chain.proofs.SpotLemmas.{first-row}
use Rattle.set_merge.specs.Walk.{IsRun}
use Rattle.set_merge.specs.Chains.{place_from, IsRest}
use Rattle.set_merge.proofs.RunLemmas.{front-row}
use Rattle.set_merge.proofs.runs.front_of.Goals as goal
use Rattle.set_merge.proofs.runs.front_of.Goals.{in-Some, in-None}

pub row_of-row-requires : goal.row_of-row-requires
row_of-row-requires g c =
    let rows = subst (λ p. IsRun (form_at c.args.heap.now) p (c.requires.0 ∷ c.requires.1)) c.in-Node.is c.requires.2 in
    let at = first-row (form_at c.args.heap.now) c.in-Node.link (c.requires.0 ∷ c.requires.1) rows in
    (at.first.link, at.next, at.row)

pub returns-after-row-clause-front : goal.returns-after-row-clause-front
returns-after-row-clause-front g c = λ e es run.
    let F = form_at c.args.heap.now in
    let front = front-row F c.in-Node.link c.row_of-row.result.entry c.row_of-row.result.next e es (subst (λ p. IsRun F p (e ∷ es)) c.in-Node.is run) c.row_of-row.ensures in
    let is : c.match-row.rest ≡ place_from c.row_of-row.result.next = elim c.match-row.branch [
      | in-Some w ↦ w.rest-is ∙ sym (ap place_from w.in-Some.is)
      | in-None w ↦ w.rest-is ∙ sym (ap place_from w.in-None.is)
    ] in
    (front.0, subst (λ p. IsRun F p es) (sym is) front.1)

pub returns-after-row-clause-next : goal.returns-after-row-clause-next
returns-after-row-clause-next g c =
    let F = form_at c.args.heap.now in
    let is : c.match-row.rest ≡ place_from c.row_of-row.result.next = elim c.match-row.branch [
      | in-Some w ↦ w.rest-is ∙ sym (ap place_from w.in-Some.is)
      | in-None w ↦ w.rest-is ∙ sym (ap place_from w.in-None.is)
    ] in
    subst (λ p. IsRest F p c.match-row.rest) (sym c.in-Node.is) (c.row_of-row.result.entry, c.row_of-row.result.next, c.row_of-row.ensures, is)
