use Rattle.std.proofs.Common.{rules, arith, ◌≡◌, ◌+◌, ◌-◌, ◌<◌, ◌≤◌, ◌*◌, ◌/◌, ◌^◌, suc, length, ap, ◌∙◌, sym, ℕ}
use Rattle.std.specs.List.{flat_map}
use Rattle.std.proofs.lemmas.Bool.Decides.{nat_tests}
use Rattle.node_heap.specs.Heap.{form_at, links_at}
use Rattle.rrb_core.specs.Seq.{seq_at}
use Rattle.rrb_core.specs.Vector.{AreSums, sums_at}
use Rattle.rrb_core.proofs.Lists.{start-le, last-sum, sum-before, in-child, before-le, empty-list}
use Rattle.rrb_core.proofs.Stays.{well-live}
use Rattle.rrb_core.proofs.RowLists.{over, IsStraight, kept-sums, most-each, straight}
use Rattle.rrb_core.proofs.GetLemmas.{place-is}
use Rattle.rrb_core.proofs.search.spot_of.Given.{Over}
use Rattle.rrb_core.proofs.search.spot_of.Goals as goal

pub sums_of-sums-requires : goal.sums_of-sums-requires
sums_of-sums-requires g c = well-live c.args.heap.now (suc c.args.below) c.args.link c.requires.well

-- a row without sums
line : (g : Over) (c : goal.Then-is_empty g) → IsStraight c.args.heap.now c.args.below c.args.link c.args.index
line g c =
    let none : length c.sums_of-sums.result.now ≡ 0 = grind (arith, nat_tests, c.if-is_empty.ensures) in
    straight (over c.args.heap.now c.args.below c.args.link c.requires.well c.requires.sums) c.args.index (sym c.sums_of-sums.ensures ∙ empty-list c.sums_of-sums.result.now none) c.requires.inside

at : (g : Over) (c : goal.Then-is_empty g) → c.from.result / 2 ^ (5 * (c.from-2.result + 1)) ≡ c.args.index / 32 ^ suc c.args.below
at g c = place-is c.from.result c.args.index c.args.below c.from-2.result c.from.ensures c.from-2.ensures

before : (g : Over) (c : goal.After-full_size g) → c.full_size.result ≡ c.args.index / 32 ^ suc c.args.below * 32 ^ suc c.args.below
before g c =
    let up : c.args.below + 1 ≡ suc c.args.below = omega arith in
    let is : c.full_size.result ≡ c.from.result / 2 ^ (5 * (c.from-2.result + 1)) * 32 ^ suc c.args.below = rw up at c.full_size.ensures in
    is ∙ ap (λ (k : ℕ). k * 32 ^ suc c.args.below) (at g c.before)

pub full_size-requires-clause-few : goal.full_size-requires-clause-few
full_size-requires-clause-few g c = rw (at g c) (omega (arith, (line g c).few))

pub overflow_cast-within : goal.overflow_cast-within
overflow_cast-within g c =
    let wide : c.args.index < 2 ^ 32 = c.ranges.index.fits in
    let fits : c.full_size.result < 2 ^ 32 = omega (arith, before g c, (line g c.before).low, wide) in
    search rules

pub overflow_sub-within : goal.overflow_sub-within
overflow_sub-within g c = omega (arith, before g c, (line g c.before).low)

pub returns-then-is_empty-clause-place : goal.returns-then-is_empty-clause-place
returns-then-is_empty-clause-place g c = rw (at g c.before) (line g c.before).place

pub returns-then-is_empty-clause-inside : goal.returns-then-is_empty-clause-inside
returns-then-is_empty-clause-inside g c = rw (at g c.before, before g c) (line g c.before).within

pub returns-then-is_empty-clause-before : goal.returns-then-is_empty-clause-before
returns-then-is_empty-clause-before g c = rw (at g c.before, before g c) (omega (arith, (line g c.before).before, (line g c.before).low))

-- a row that keeps sums
sums : (g : Over) (c : goal.Else-is_empty g) → AreSums (sums_at c.args.heap.now c.args.link) (seq_at (form_at c.args.heap.now) c.args.below) (links_at c.args.heap.now c.args.link)
sums g c =
    let some : 1 ≤ length c.sums_of-sums.result.now = grind (arith, nat_tests, c.if-is_empty.ensures) in
    kept-sums (over c.args.heap.now c.args.below c.args.link c.requires.well c.requires.sums) (rw c.sums_of-sums.ensures at some)

sums-still : (g : Over) (c : goal.After-sum_before g) → AreSums (sums_at c.args.heap.now c.args.link) (seq_at (form_at c.args.heap.now) c.args.below) (links_at c.args.heap.now c.args.link)
sums-still g c =
    let some : 1 ≤ length c.sums_of-sums.result.now = grind (arith, nat_tests, c.if-is_empty.ensures) in
    kept-sums (over c.args.heap.now c.args.below c.args.link c.requires.well c.requires.sums) (rw c.sums_of-sums.ensures at some)

pub place_of-place-requires-clause-before : goal.place_of-place-requires-clause-before
place_of-place-requires-clause-before g c = λ k b.
    let b' : k < c.args.index / 32 ^ suc c.args.below = rw (place-is c.from.result c.args.index c.args.below c.from-2.result c.from.ensures c.from-2.ensures) at b in
    rw c.sums_of-sums.ensures (start-le (sums_at c.args.heap.now c.args.link) (links_at c.args.heap.now c.args.link) (seq_at (form_at c.args.heap.now) c.args.below) (sums g c) (32 ^ suc c.args.below) c.args.index k (most-each (over c.args.heap.now c.args.below c.args.link c.requires.well c.requires.sums)) b')

pub place_of-place-requires-clause-passes : goal.place_of-place-requires-clause-passes
place_of-place-requires-clause-passes g c =
    let o = over c.args.heap.now c.args.below c.args.link c.requires.well c.requires.sums in
    let last = last-sum (sums_at c.args.heap.now c.args.link) (links_at c.args.heap.now c.args.link) (seq_at (form_at c.args.heap.now) c.args.below) (sums g c) o.some in
    let inside : c.args.index < length (flat_map (seq_at (form_at c.args.heap.now) c.args.below) (links_at c.args.heap.now c.args.link)) = rw (← o.items) c.requires.inside in
    rw c.sums_of-sums.ensures (length (sums_at c.args.heap.now c.args.link) - 1, omega (arith, last.0), omega (arith, last.1, inside))

pub returns-clause-place : goal.returns-clause-place
returns-clause-place g c =
    let sums' = sums-still g c in
    omega (arith, sums'.count, ap length c.sums_of-sums.ensures, c.place_of-place.ensures.within)

pub returns-clause-before : goal.returns-clause-before
returns-clause-before g c =
    let within = returns-clause-place g c in
    let is = sum-before (sums_at c.args.heap.now c.args.link) (links_at c.args.heap.now c.args.link) (seq_at (form_at c.args.heap.now) c.args.below) (sums-still g c) c.place_of-place.result c.sum_before.result within c.sum_before.ensures.first (rw (← c.sums_of-sums.ensures) c.sum_before.ensures.later) in
    let le = before-le (sums_at c.args.heap.now c.args.link) (links_at c.args.heap.now c.args.link) (seq_at (form_at c.args.heap.now) c.args.below) (sums-still g c) c.place_of-place.result c.args.index c.sum_before.result (rw (← c.sums_of-sums.ensures) c.place_of-place.ensures.before) c.sum_before.ensures.first (rw (← c.sums_of-sums.ensures) c.sum_before.ensures.later) in
    omega (arith, is, le)

pub returns-clause-inside : goal.returns-clause-inside
returns-clause-inside g c =
    let within = returns-clause-place g c in
    let is = sum-before (sums_at c.args.heap.now c.args.link) (links_at c.args.heap.now c.args.link) (seq_at (form_at c.args.heap.now) c.args.below) (sums-still g c) c.place_of-place.result c.sum_before.result within c.sum_before.ensures.first (rw (← c.sums_of-sums.ensures) c.sum_before.ensures.later) in
    let le = before-le (sums_at c.args.heap.now c.args.link) (links_at c.args.heap.now c.args.link) (seq_at (form_at c.args.heap.now) c.args.below) (sums-still g c) c.place_of-place.result c.args.index c.sum_before.result (rw (← c.sums_of-sums.ensures) c.place_of-place.ensures.before) c.sum_before.ensures.first (rw (← c.sums_of-sums.ensures) c.sum_before.ensures.later) in
    in-child (sums_at c.args.heap.now c.args.link) (links_at c.args.heap.now c.args.link) (seq_at (form_at c.args.heap.now) c.args.below) (sums-still g c) c.place_of-place.result c.args.index c.sum_before.result within is le (rw (← c.sums_of-sums.ensures) c.place_of-place.ensures.found)
