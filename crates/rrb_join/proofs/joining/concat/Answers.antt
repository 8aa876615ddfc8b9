use Rattle.std.proofs.Common.{arith, refl, sym, ◌∙◌}
use Rattle.node_heap.proofs.BuildLemmas.{Builds-more, Builds-Answered}
use Rattle.node_heap.proofs.RoomLemmas.{KeepsToNeed-Builds, Builds-KeepsToNeed}
use Rattle.rrb_core.proofs.BuildLemmas.{unchanged-good, answered-same}
use Rattle.rrb_join.proofs.AnswerLemmas.{unchanged-height, unchanged-links, rises-more}
use Rattle.rrb_core.proofs.LevelLemmas.{rows-of-same}
use Rattle.rrb_join.proofs.JoinLemmas.{no-items, joins-left-none, joins-right-none, joins-after, keeps-left-none, keeps-right-none, keeps-after}
use Rattle.rrb_join.proofs.UnmadeLemmas.{leaf-length}
use Rattle.rrb_core.specs.Vector.{height_at}
use Rattle.rrb_join.proofs.joining.concat.Goals as goal

pub returns-in_err-reserve-clause-vectors : goal.returns-in_err-reserve-clause-vectors
returns-in_err-reserve-clause-vectors g c = λ l. unchanged-good l c.in_err-reserve.ensures.rest

pub joined_root-requires-clause-left_good : goal.joined_root-requires-clause-left_good
joined_root-requires-clause-left_good g c = rw c.root.ensures (unchanged-good c.args.left c.in_ok-reserve.ensures.rest c.requires.left_good).0

pub joined_root-requires-clause-right_good : goal.joined_root-requires-clause-right_good
joined_root-requires-clause-right_good g c = rw c.root-2.ensures (unchanged-good c.args.right c.in_ok-reserve.ensures.rest c.requires.right_good).0

pub joined_root-requires-clause-short : goal.joined_root-requires-clause-short
joined_root-requires-clause-short g c =
    let left = unchanged-good c.args.left c.in_ok-reserve.ensures.rest c.requires.left_good in
    let right = unchanged-good c.args.right c.in_ok-reserve.ensures.rest c.requires.right_good in
    rw (c.root.ensures, c.root-2.ensures, left.1, right.1) (omega (arith, c.len-left_len.ensures.value, c.len-right_len.ensures.value, c.requires.left_good.shape.short))

pub returns-clause-items : goal.returns-clause-items
returns-clause-items g c =
    let left = unchanged-good c.args.left c.in_ok-reserve.ensures.rest c.requires.left_good in
    let right = unchanged-good c.args.right c.in_ok-reserve.ensures.rest c.requires.right_good in
    rw c.from_root.ensures (c.joined_root.ensures.items ∙ rw (c.root.ensures, c.root-2.ensures, left.1, right.1) refl)

pub returns-clause-answered : goal.returns-clause-answered
returns-clause-answered g c =
    let left = unchanged-height c.in_ok-reserve.ensures.rest c.args.left in
    let right = unchanged-height c.in_ok-reserve.ensures.rest c.args.right in
    let built = rw (c.root.ensures, c.root-2.ensures) at c.joined_root.ensures.builds in
    rw c.from_root.ensures (Builds-Answered c.in_ok-reserve.ensures.rest (Builds-more 0 _ built (omega arith) (omega (arith, left, right))))

pub returns-clause-vectors : goal.returns-clause-vectors
returns-clause-vectors g c = answered-same (Builds-Answered c.in_ok-reserve.ensures.rest c.joined_root.ensures.builds)

pub returns-clause-flat : goal.returns-clause-flat
returns-clause-flat g c = λ same few.
    let left = unchanged-height c.in_ok-reserve.ensures.rest c.args.left in
    let right = unchanged-height c.in_ok-reserve.ensures.rest c.args.right in
    let left_links = unchanged-links c.in_ok-reserve.ensures.rest c.args.left in
    let right_links = unchanged-links c.in_ok-reserve.ensures.rest c.args.right in
    let low = c.joined_root.ensures.flat (rw (c.root.ensures, c.root-2.ensures) (left ∙ same ∙ sym right)) (rw (c.root.ensures, c.root-2.ensures, left_links, right_links) few) in
    rw c.from_root.ensures (low ∙ rw c.root.ensures left)

pub returns-clause-low : goal.returns-clause-low
returns-clause-low g c =
    let left = unchanged-height c.in_ok-reserve.ensures.rest c.args.left in
    let right = unchanged-height c.in_ok-reserve.ensures.rest c.args.right in
    rw c.from_root.ensures (rises-more c.joined_root.ensures.low (rw (c.root.ensures, c.root-2.ensures) (omega (arith, left, right))))

pub returns-then-left_len-eq0-clause-seam : goal.returns-then-left_len-eq0-clause-seam
returns-then-left_len-eq0-clause-seam g c =
    let low = no-items c.args.heap.now c.args.left c.requires.left_good (omega (arith, c.len-left_len.ensures.value)) in
    rw c.share.ensures.same (joins-left-none c.args.heap.now c.share.new.heap c.args.left c.args.right low (λ m. rows-of-same c.args.heap.now c.share.new.heap c.share.ensures.shares.rows m c.args.right))

pub returns-then-right_len-eq0-clause-seam : goal.returns-then-right_len-eq0-clause-seam
returns-then-right_len-eq0-clause-seam g c =
    let low = no-items c.args.heap.now c.args.right c.requires.right_good (omega (arith, c.len-right_len.ensures.value)) in
    rw c.share-then-right_len-eq0.ensures.same (joins-right-none c.args.heap.now c.share-then-right_len-eq0.new.heap c.args.left c.args.right low (λ m. rows-of-same c.args.heap.now c.share-then-right_len-eq0.new.heap c.share-then-right_len-eq0.ensures.shares.rows m c.args.left))

pub returns-clause-seam : goal.returns-clause-seam
returns-clause-seam g c = rw c.from_root.ensures (joins-after c.args.heap.now c.reserve.new.self c.joined_root.new.heap c.args.left c.args.right c.joined_root.result c.in_ok-reserve.ensures.rest (rw (c.root.ensures, c.root-2.ensures) at c.joined_root.ensures.seam))

pub returns-then-left_len-eq0-clause-keeps : goal.returns-then-left_len-eq0-clause-keeps
returns-then-left_len-eq0-clause-keeps g c =
    let low = no-items c.args.heap.now c.args.left c.requires.left_good (omega (arith, c.len-left_len.ensures.value)) in
    let size = leaf-length c.args.heap.now (height_at c.args.heap.now c.args.left) c.args.left low c.requires.left_good.shape.well c.requires.left_good.sums in
    keeps-left-none c.args.heap.now c.share.new.heap c.args.left c.args.right c.share.result low (omega (arith, size, c.len-left_len.ensures.value))

pub returns-then-right_len-eq0-clause-keeps : goal.returns-then-right_len-eq0-clause-keeps
returns-then-right_len-eq0-clause-keeps g c =
    let low = no-items c.args.heap.now c.args.right c.requires.right_good (omega (arith, c.len-right_len.ensures.value)) in
    let size = leaf-length c.args.heap.now (height_at c.args.heap.now c.args.right) c.args.right low c.requires.right_good.shape.well c.requires.right_good.sums in
    keeps-right-none c.args.heap.now c.share-then-right_len-eq0.new.heap c.args.left c.args.right c.share-then-right_len-eq0.result c.requires.left_good low (omega (arith, size, c.len-right_len.ensures.value))

pub returns-clause-keeps : goal.returns-clause-keeps
returns-clause-keeps g c = rw c.from_root.ensures (keeps-after c.args.heap.now c.reserve.new.self c.joined_root.new.heap c.args.left c.args.right c.joined_root.result c.in_ok-reserve.ensures.rest (rw (c.root.ensures, c.root-2.ensures) at c.joined_root.ensures.keeps))

pub returns-then-left_len-eq0-clause-spares : goal.returns-then-left_len-eq0-clause-spares
returns-then-left_len-eq0-clause-spares g c = KeepsToNeed-Builds 0 17 c.share.ensures.shares.builds

pub returns-then-right_len-eq0-clause-spares : goal.returns-then-right_len-eq0-clause-spares
returns-then-right_len-eq0-clause-spares g c = KeepsToNeed-Builds 0 17 c.share-then-right_len-eq0.ensures.shares.builds

pub returns-clause-spares : goal.returns-clause-spares
returns-clause-spares g c = Builds-KeepsToNeed c.in_ok-reserve.ensures.greater c.in_ok-reserve.ensures.rest c.joined_root.ensures.builds
