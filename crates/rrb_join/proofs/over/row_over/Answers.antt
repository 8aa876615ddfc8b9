use Rattle.std.proofs.Common.{arith, ◌≡◌, ◌-◌, suc}
use Rattle.rrb_join.proofs.UnmadeLemmas.{leaf-items, inner-items, inner-links}
use Rattle.rrb_join.proofs.over.row_over.Goals as goal

pub returns-then-height-eq0-clause-row : goal.returns-then-height-eq0-clause-row
returns-then-height-eq0-clause-row g c =
    let none : c.args.height ≡ 0 = omega arith in
    rw (leaf-items c.args.heap.now c.args.height c.args.links.now none, none) c.leaf_over.ensures.row

pub inner_over-requires-clause-rows : goal.inner_over-requires-clause-rows
inner_over-requires-clause-rows g c = inner-links c.args.heap.now c.args.height c.args.links.now (omega arith) c.requires.rows.links

pub inner_over-requires-clause-short : goal.inner_over-requires-clause-short
inner_over-requires-clause-short g c = rw (← inner-items c.args.heap.now c.args.height c.args.links.now (omega arith)) c.requires.rows.short

pub returns-clause-row : goal.returns-clause-row
returns-clause-row g c =
    let up : suc (c.args.height - 1) ≡ c.args.height = omega arith in
    rw (inner-items c.args.heap.now c.args.height c.args.links.now (omega arith)) (rw up at c.inner_over.ensures.row)
