use Rattle.std.proofs.Common.{rules, arith, refl, ◌≡◌, ℕ, suc, ◌-◌, length, ap}
use Rattle.node_heap.specs.Heap.{links_at}
use Rattle.rrb_core.proofs.RowLists.{at-place, last-place}
use Rattle.rrb_join.specs.Unmade.{EndsIn, BeginsWith}
use Rattle.rrb_join.proofs.SeamLemmas.{last-edge, first-edge}
use Rattle.rrb_join.proofs.BesideLemmas.{own-stand, leaves-stand, inner-stand, stand-inner}
use Rattle.rrb_join.proofs.joining.+stand_beside.Given as given
use Rattle.rrb_join.proofs.joining.+stand_beside.Goals as goal
use Rattle.rrb_join.proofs.joining.+stand_beside.Goals.{then-front-via-then-front, then-front-via-else-front+then-front-back-le-ROW_LINKS}

pub returns-then-front : goal.returns-then-front
returns-then-front g t c = (
  λ e. absurd cc,
  λ stand.
      let own = own-stand c.args.height c.args.left c.args.right (stand c.args.height (omega arith)) in
      let left = ap length c.links-front.ensures.links in
      let right = ap length c.links-back.ensures.links in
      elim c.then-front.branch [ then-front-via-then-front w ↦ absurd (omega (arith, own.0, left, w.if-front.true)) | then-front-via-else-front+then-front-back-le-ROW_LINKS w ↦ absurd (omega (arith, own.1, left, right, w.if-front-back-le-ROW_LINKS.true)) ],
)

pub returns-then-height-eq0 : goal.returns-then-height-eq0
returns-then-height-eq0 g t c =
    let left = ap length c.links-front.ensures.links in
    let right = ap length c.links-back.ensures.links in
    (λ _. leaves-stand c.args.height c.args.left c.args.right (omega arith) (omega (arith, left, c.if-front.false)) (omega (arith, left, right, c.if-front-back-le-ROW_LINKS.false)), λ _. refl)

ends : (g : given.Over) (t : ℕ) (c : goal.After-index-back-0 g t) → EndsIn c.args.heap.now (c.args.height - 1) c.args.height c.args.left (length (links_at c.args.heap.now c.args.left) - 1) (c.args.height - 1) c.index-front-front.result
ends g t c =
    let last = last-place c.links-front.result.now (links_at c.args.heap.now c.args.left) c.index-front-front.result c.index-front-front.is c.links-front.ensures.links c.requires.left.some in
    last-edge c.args.heap.now (c.args.height - 1) c.args.height c.args.left (length (links_at c.args.heap.now c.args.left) - 1) c.index-front-front.result c.requires.left (omega arith) (omega (arith, c.requires.left.some)) last

begins : (g : given.Over) (t : ℕ) (c : goal.After-index-back-0 g t) → BeginsWith c.args.heap.now (c.args.height - 1) c.args.height c.args.right 1 (c.args.height - 1) c.index-back-0.result
begins g t c =
    let first = at-place c.links-back.result.now (links_at c.args.heap.now c.args.right) 0 c.index-back-0.result c.index-back-0.is c.links-back.ensures.links (omega (arith, c.requires.right.some)) in
    first-edge c.args.heap.now (c.args.height - 1) c.args.height c.args.right c.index-back-0.result c.requires.right (omega arith) first

pub stand_beside-requires : goal.stand_beside-requires
stand_beside-requires g t c = λ κs sub. (search rules, (search rules, ((ends g t c).row, (begins g t c).row)))

pub returns : goal.returns
returns g t c =
    let left = ap length c.links-front.ensures.links in
    let right = ap length c.links-back.ensures.links in
    let e = ends g t c.before in
    let b = begins g t c.before in
    let up : c.args.height ≡ suc (c.args.height - 1) = omega arith in (
      λ true.
          inner-stand c.args.height (c.args.height - 1) c.args.left (length (links_at c.args.heap.now c.args.left) - 1) c.index-front-front.result c.args.right c.index-back-0.result up e b (omega (arith, left, c.if-front.false)) (omega (arith, left, right, c.if-front-back-le-ROW_LINKS.false)) (c.stand_beside.ensures.0 true),
      λ stand. c.stand_beside.ensures.1 (stand-inner c.args.height (c.args.height - 1) c.args.left (length (links_at c.args.heap.now c.args.left) - 1) c.index-front-front.result c.args.right c.index-back-0.result up e b stand),
    )
