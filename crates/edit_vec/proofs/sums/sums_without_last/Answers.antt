use Rattle.std.proofs.Common.{arith, ◌≡◌, ◌+◌, ◌-◌, ◌*◌, ◌≤◌, ◌^◌, ℕ, List, length, ap, ◌∙◌, sym, suc, refl}
use Rattle.std.proofs.lemmas.Bool.Decides.{nat_tests}
use Rattle.std.proofs.lemmas.List.{length-take-le}
use Rattle.node_heap.specs.Heap.{form_at, links_at}
use Rattle.rrb_core.specs.Vector.{KeepsSums}
use Rattle.rrb_core.proofs.Lists.{empty-list}
use Rattle.rrb_core.proofs.Stays.{well-live}
use Rattle.rrb_core.proofs.RowLists.{over, keeps-some}
use Rattle.edit_vec.proofs.ShrinkLemmas.{regular-front, kept-front}
use Rattle.edit_vec.proofs.sums.sums_without_last.Goals.{then-last-eq0, else-last-eq0}
use Rattle.edit_vec.proofs.sums.sums_without_last.Goals as goal

pub sums_of-known-requires : goal.sums_of-known-requires
sums_of-known-requires g c = well-live c.args.heap.now (suc c.args.below) c.args.row c.requires.well

pub returns-then-is_empty : goal.returns-then-is_empty
returns-then-is_empty g c =
    let none : length c.sums_of-known.result.now ≡ 0 = grind (arith, nat_tests, c.if-is_empty.ensures) in
    let empty = empty-list c.sums_of-known.result.now none in
    let o = over c.args.heap.now c.args.below c.args.row c.requires.well c.requires.sums in
    rw c.from_slice.ensures (regular-front (length (links_at c.args.heap.now c.args.row) - 1) refl o.sums (sym c.sums_of-known.ensures ∙ empty))

pub overflow_sub-last : goal.overflow_sub-last
overflow_sub-last g c =
    let some : 1 ≤ length c.sums_of-known.result.now = grind (arith, nat_tests, c.if-is_empty.ensures) in
    let o = over c.args.heap.now c.args.below c.args.row c.requires.well c.requires.sums in
    let sums : KeepsSums (form_at c.args.heap.now) c.args.below (links_at c.args.heap.now c.args.row) c.sums_of-known.result.now = rw c.sums_of-known.ensures o.sums in
    omega (arith, (keeps-some sums some).count, c.requires.two)

pub full_size-requires-clause-few : goal.full_size-requires-clause-few
full_size-requires-clause-few g c =
    let some : 1 ≤ length c.sums_of-known.result.now = grind (arith, nat_tests, c.if-is_empty.ensures) in
    let o = over c.args.heap.now c.args.below c.args.row c.requires.well c.requires.sums in
    let sums : KeepsSums (form_at c.args.heap.now) c.args.below (links_at c.args.heap.now c.args.row) c.sums_of-known.result.now = rw c.sums_of-known.ensures o.sums in
    omega (arith, (keeps-some sums some).count, o.most)

pub from_slice-requires-2 : goal.from_slice-requires-2
from_slice-requires-2 g c =
    let some : 1 ≤ length c.sums_of-known.result.now = grind (arith, nat_tests, c.if-is_empty.ensures) in
    let o = over c.args.heap.now c.args.below c.args.row c.requires.well c.requires.sums in
    let sums : KeepsSums (form_at c.args.heap.now) c.args.below (links_at c.args.heap.now c.args.row) c.sums_of-known.result.now = rw c.sums_of-known.ensures o.sums in
    let count = (keeps-some sums some).count in
    omega (arith, count, o.most, c.requires.two, length-take-le (length c.sums_of-known.result.now - 2 + 1) c.sums_of-known.result.now (omega (arith, count, c.requires.two)))

pub returns-then-from-full_size : goal.returns-then-from-full_size
returns-then-from-full_size g c =
    let h = c.args.heap.now in
    let known : List ℕ = c.sums_of-known.result.now in
    let some : 1 ≤ length known = grind (arith, nat_tests, c.if-is_empty.ensures) in
    let o = over h c.args.below c.args.row c.requires.well c.requires.sums in
    let sums : KeepsSums (form_at h) c.args.below (links_at h c.args.row) known = rw c.sums_of-known.ensures o.sums in
    let up : c.args.below + 1 ≡ suc c.args.below = omega arith in
    let full : c.if-last-eq0.before ≡ (length known - 2) * 32 ^ suc c.args.below = sym c.from.ensures ∙ c.if-from-full_size.true ∙ c.full_size.ensures ∙ ap (λ (k : ℕ). (length known - 2) * 32 ^ k) up in
    elim c.if-last-eq0.branch [
      | then-last-eq0 w ↦ kept-front h c.args.below (links_at h c.args.row) known c.from_slice-then-from-full_size.result c.if-last-eq0.before (length known - 2) o.rows sums some c.requires.two refl
          (λ _. w.before-is) (λ lt. absurd (omega (arith, lt, w.if-last-eq0.true))) (λ _. c.from_slice-then-from-full_size.ensures) (λ other. absurd (other full))
      | else-last-eq0 w ↦ kept-front h c.args.below (links_at h c.args.row) known c.from_slice-then-from-full_size.result c.if-last-eq0.before (length known - 2) o.rows sums some c.requires.two refl
          (λ e. absurd (w.if-last-eq0.false e)) (λ _. w.before-is) (λ _. c.from_slice-then-from-full_size.ensures) (λ other. absurd (other full))
    ]

pub returns : goal.returns
returns g c =
    let h = c.args.heap.now in
    let known : List ℕ = c.sums_of-known.result.now in
    let some : 1 ≤ length known = grind (arith, nat_tests, c.if-is_empty.ensures) in
    let o = over h c.args.below c.args.row c.requires.well c.requires.sums in
    let sums : KeepsSums (form_at h) c.args.below (links_at h c.args.row) known = rw c.sums_of-known.ensures o.sums in
    let up : c.args.below + 1 ≡ suc c.args.below = omega arith in
    let never : c.if-last-eq0.before ≡ (length known - 2) * 32 ^ suc c.args.below → ⊥ = λ e. c.if-from-full_size.false (c.from.ensures ∙ e ∙ ap (λ (k : ℕ). (length known - 2) * 32 ^ k) (sym up) ∙ sym c.full_size.ensures) in
    elim c.if-last-eq0.branch [
      | then-last-eq0 w ↦ kept-front h c.args.below (links_at h c.args.row) known c.from_slice-2.result c.if-last-eq0.before (length known - 2) o.rows sums some c.requires.two refl
          (λ _. w.before-is) (λ lt. absurd (omega (arith, lt, w.if-last-eq0.true))) (λ e. absurd (never e)) (λ _. c.from_slice-2.ensures)
      | else-last-eq0 w ↦ kept-front h c.args.below (links_at h c.args.row) known c.from_slice-2.result c.if-last-eq0.before (length known - 2) o.rows sums some c.requires.two refl
          (λ e. absurd (w.if-last-eq0.false e)) (λ _. w.before-is) (λ e. absurd (never e)) (λ _. c.from_slice-2.ensures)
    ]
