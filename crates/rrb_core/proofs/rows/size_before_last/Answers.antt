use Rattle.std.proofs.Common.{arith, ◌≡◌, ◌^◌, ◌*◌, ◌-◌, length, ap, sym, ℕ, ◌∙◌}
use Rattle.std.proofs.lemmas.Bool.Decides.{nat_tests}
use Rattle.node_heap.specs.Heap.{links_at}
use Rattle.rrb_core.proofs.Lists.{empty-list}
use Rattle.rrb_core.proofs.Stays.{well-live}
use Rattle.rrb_core.proofs.RowLists.{sized}
use Rattle.rrb_core.proofs.rows.size_before_last.Goals as goal

pub links-links-requires : goal.links-links-requires
links-links-requires g c = well-live c.args.heap.now c.args.height c.args.link c.requires.well

pub sums_of-sums-requires : goal.sums_of-sums-requires
sums_of-sums-requires g c = well-live c.args.heap.now c.args.height c.args.link c.requires.well

pub overflow_sub-last : goal.overflow_sub-last
overflow_sub-last g c =
    let is = sized c.args.heap.now c.args.height c.args.link (omega (arith, c.if-height-eq0.false)) c.requires.well c.requires.sums in
    omega (arith, is.some, ap length c.links-links.ensures.links)

pub full_size-requires-clause-few : goal.full_size-requires-clause-few
full_size-requires-clause-few g c =
    let is = sized c.args.heap.now c.args.height c.args.link (omega (arith, c.if-height-eq0.false)) c.requires.well c.requires.sums in
    omega (arith, is.most, ap length c.links-links.ensures.links)

pub returns : goal.returns
returns g c =
    let is = sized c.args.heap.now c.args.height c.args.link (omega (arith, c.if-height-eq0.false)) c.requires.well c.requires.sums in
    let none : length c.sums_of-sums.result.now ≡ 0 = grind (arith, nat_tests, c.if-not-is_empty.ensures) in
    let before : c.full_size.result ≡ (length (links_at c.args.heap.now c.args.link) - 1) * 32 ^ c.args.height = c.full_size.ensures ∙ ap (λ (k : ℕ). (k - 1) * 32 ^ c.args.height) (ap length c.links-links.ensures.links) in
    let whole = is.by_last (sym c.sums_of-sums.ensures ∙ empty-list c.sums_of-sums.result.now none) in
    omega (arith, before, whole)
