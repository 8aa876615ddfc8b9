use Rattle.std.proofs.Common.{arith, ◌≡◌, ap, length, sym, ◌∙◌}
use Rattle.node_heap.specs.Heap.{form_at}
use Rattle.rrb_core.proofs.Stays.{links-form, well-live}
use Rattle.std.proofs.lemmas.Bool.Decides.{nat_tests}
use Rattle.edit_vec.proofs.PopPath.{single-links}
use Rattle.edit_vec.proofs.pop.is_single.Goals as goal

pub links-requires : goal.links-requires
links-requires g c = well-live c.args.heap.now c.args.height c.args.link c.requires.well

pub returns-else-links-eq1 : goal.returns-else-links-eq1
returns-else-links-eq1 g c =
    let other : length c.links.result.now ≡ 1 → ⊥ = c.if-links-eq1.false in
    (λ yes. absurd (other (grind (arith, nat_tests, yes))), λ one. absurd (other (ap length c.links.ensures.links ∙ sym (ap length (links-form c.args.heap.now c.args.link)) ∙ single-links (form_at c.args.heap.now) c.args.height c.args.link c.requires.well one)))
