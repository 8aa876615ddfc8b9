use Rattle.std.proofs.Common.{arith, ◌≡◌, ◌-◌, ◌^◌, suc, length}
use Rattle.node_heap.specs.Heap.{form_at, links_at}
use Rattle.rrb_core.specs.Seq.{seq_at}
use Rattle.rrb_core.proofs.Lists.{child-short}
use Rattle.edit_vec.proofs.GrowLemmas.{last-but-one, keeps-full}
use Rattle.edit_vec.proofs.sums.sums_after.Goals as goal

pub size-before-requires-clause-short : goal.size-before-requires-clause-short
size-before-requires-clause-short g c =
    let h = c.args.heap.now in
    let before = last-but-one c.links-links.result.now (links_at h c.args.row) c.index-links-links.result c.index-links-links.is c.links-links.ensures.links c.requires.two in
    let less = child-short (seq_at (form_at h) c.args.below) (links_at h c.args.row) (length (links_at h c.args.row) - 2) (omega (arith, c.requires.two)) in
    rw before (omega (arith, less, c.requires.short))

pub returns-then-from-full_size : goal.returns-then-from-full_size
returns-then-from-full_size g c =
    let h = c.args.heap.now in
    let before = last-but-one c.links-links.result.now (links_at h c.args.row) c.index-links-links.result c.index-links-links.is c.links-links.ensures.links c.requires.two in
    let full : length (seq_at (form_at h) c.args.below c.index-links-links.result) ≡ 32 ^ suc c.args.below = grind arith in
    rw c.from_slice.ensures (keeps-full (form_at h) c.args.below (links_at h c.args.row) c.requires.two c.requires.regular (rw before at full))
