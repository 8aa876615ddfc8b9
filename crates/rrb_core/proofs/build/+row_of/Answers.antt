use Rattle.std.proofs.Common.{rules, arith, ◌≡◌, ◌-◌, ◌+◌, ◌<◌, ◌*◌, ◌^◌, ℕ, suc, List, length, take, drop, min, length-drop}
use Rattle.std.proofs.lemmas.List.{length-take-le}
use Rattle.rrb_core.proofs.Lists.{pow-pos}
use Rattle.rrb_core.proofs.FilledLemmas.{IsNext, next-end, filled-leaf, filled-none, filled-more, filled-over, part-held}
use Rattle.rrb_core.proofs.build.+row_of.Goals as goal

pub returns-then-height-eq0 : goal.returns-then-height-eq0
returns-then-height-eq0 g t c = rw c.if-height-eq0.true (filled-leaf c.leaf_over.ensures.row c.leaf_over.ensures.builds)

pub loop-done-init : goal.loop-done-init
loop-done-init g t c = record { made = rw c.new-rows.ensures (filled-none c.args.heap.now c.args.links.now (c.args.height - 1) c.requires.graph); inside = omega arith }

-- the end of the next part, by the code
part : (size height full done end : ℕ) → (height ≡ 0 → ⊥) → full ≡ 1 * 32 ^ height → done < size → end ≡ min size (done + full) → IsNext size (32 ^ suc (height - 1)) done end
part size height full done end inner is lt at =
    let down : suc (height - 1) ≡ height = omega (arith, inner) in
    rw down (next-end size (32 ^ height) done end lt (pow-pos height) (omega (arith, at, is)))

-- its length
part-size : (xs : List ℕ) (full done end : ℕ) → IsNext (length xs) full done end → length (take (end - done) (drop done xs)) ≡ end - done
part-size xs full done end n = length-take-le (end - done) (drop done xs) (omega (arith, length-drop done xs, n.inside))

pub row_of-requires : goal.row_of-requires
row_of-requires g t c =
    let n = part (length c.args.links.now) c.args.height c.full_size-full.result c.loop-done.done c.min-end.result c.if-height-eq0.false c.full_size-full.ensures c.loop-done-test.true c.min-end.ensures in
    let size = part-size c.args.links.now _ _ _ n in
    let made = c.loop-done.invariant.made in
    let first = made.full (made.even c.loop-done-test.true) in λ κs outlives. (
      search rules,
      (
        search rules,
        (
          made.builds.graph,
          (
            part-held made c.requires.held c.min-end.result (omega (arith, n.more)),
            (
              λ inner. omega (arith, size, n.more),
              (
                omega (arith, size, n.few),
                (
                  omega (arith, size, n.inside, c.requires.short),
                  (
                    omega (arith, c.requires.low),
                    (
                      omega (arith, size, n.inside, n.more, first, made.builds.makes.spare_nodes, made.builds.makes.nodes, c.requires.spare, c.if-height-eq0.false),
                      omega (arith, made.builds.total, length-take-le c.loop-done.done c.args.links.now c.loop-done.invariant.inside, made.some, c.requires.few),
                    ),
                  ),
                ),
              ),
            ),
          ),
        ),
      ),
    )

pub loop-done-smaller : goal.loop-done-smaller
loop-done-smaller g t c =
    let n = part (length c.args.links.now) c.args.height c.full_size-full.result c.loop-done.done c.min-end.result c.if-height-eq0.false c.full_size-full.ensures c.loop-done-test.true c.min-end.ensures in
    omega (arith, n.more, n.inside)

pub loop-done-preserved : goal.loop-done-preserved
loop-done-preserved g t c =
    let n = part (length c.args.links.now) c.args.height c.full_size-full.result c.loop-done.done c.min-end.result c.if-height-eq0.false c.full_size-full.ensures c.loop-done-test.true c.min-end.ensures in
    let down : suc (c.args.height - 1) ≡ c.args.height = omega (arith, c.if-height-eq0.false) in
    record { made = rw c.push.ensures.items (filled-more c.loop-done.invariant.made c.loop-done-test.true n c.row_of.ensures (rw down c.requires.room)); inside = n.inside }

pub returns : goal.returns
returns g t c =
    let down : suc (c.args.height - 1) ≡ c.args.height = omega (arith, c.if-height-eq0.false) in
    rw down at (filled-over c.loop-done.invariant.made (omega (arith, c.loop-done.invariant.inside, c.loop-done-test.false)) (rw c.as_slice.ensures.value at c.inner_over.ensures.row) (rw c.as_slice.ensures.value at c.inner_over.ensures.builds))
