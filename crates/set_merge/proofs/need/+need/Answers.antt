use Rattle.std.proofs.Common.{arith, ◌≡◌, ℕ, suc, ◌+◌, ◌-◌, ◌∙◌, sym, ap, subst}
use Rattle.std.specs.Prelude.{nat_eq}
use Rattle.elem_core.specs.Codes.{digit_at}
use Rattle.elem_core.specs.declared.codes.TheConstants.{LEVELS}
use Rattle.node_heap.specs.Heap.{form_at, row_limit}
use Rattle.champ_chain.specs.Entry.{Entry}
use Rattle.champ_trie.specs.Trie.{IsTrie, part, code_by}
use Rattle.set_merge.specs.Side.{place_below}
use Rattle.set_merge.specs.Need.{sum_below, rows_need}
use Rattle.set_merge.specs.Walk.{position_need}
use Rattle.set_merge.proofs.MergeLemmas.{filter-short}
use Rattle.set_merge.proofs.WalkLemmas.{place-keyed, has-keyed, has-row, places-at, sum-none, sum-next, need-none, need-more}
use Rattle.set_merge.proofs.PositionLemmas.{side-low, need-on}
use Rattle.set_merge.proofs.NeedSteps.{run-of, sides-below, sides-as, need-settled, need-looked, rows-fit, need-there}
use Rattle.set_merge.proofs.need.+need.Goals as goal

pub needed_at-settled-requires-clause-first : goal.needed_at-settled-requires-clause-first
needed_at-settled-requires-clause-first g t c =
    let r = c.requires.places in
    let code = code_by g.T.Element.code_of c.args.bits in
    let F = form_at c.args.heap.now in
    place-keyed g.T.Ord.cmp code F (λ l P. IsTrie g.T.Ord.cmp code F r.0 (suc c.args.depth) l P) c.args.x.now r.1 r.3.first

pub needed_at-settled-requires-clause-second : goal.needed_at-settled-requires-clause-second
needed_at-settled-requires-clause-second g t c =
    let r = c.requires.places in
    let code = code_by g.T.Element.code_of c.args.bits in
    let F = form_at c.args.heap.now in
    place-keyed g.T.Ord.cmp code F (λ l P. IsTrie g.T.Ord.cmp code F r.0 (suc c.args.depth) l P) c.args.y.now r.2 r.3.second

pub needed_at-returns-in-Some : goal.needed_at-returns-in-Some
needed_at-returns-in-Some g t c = λ left levels.
    sym (need-settled g.T.Ord.cmp (code_by g.T.Element.code_of c.args.bits) (form_at c.args.heap.now) row_limit c.args.keeps left c.args.depth c.args.x.now c.args.y.now _ (sym c.in-Some.ensures))

pub needed_at-rows_needed-requires : goal.needed_at-rows_needed-requires
needed_at-rows_needed-requires g t c = λ κs sub.
    let r = c.requires.places in
    let code = code_by g.T.Element.code_of c.args.bits in (
      omega (arith, c.decreases, c.requires.deep),
      (sub, (c.requires.bits, (r.0, r.1, r.2, sides-below g.T.Ord.cmp code (form_at c.args.heap.now) r.0 c.args.depth (c.args.depth + 1) c.args.x.now c.args.y.now r.1 r.2 r.3 (omega arith), r.4, r.5))),
    )

pub needed_at-returns-in-None : goal.needed_at-returns-in-None
needed_at-returns-in-None g t c = λ left levels.
    let code = code_by g.T.Element.code_of c.args.bits in
    c.rows_needed.ensures.rows left (omega (arith, levels))
    ∙ sym (need-looked g.T.Ord.cmp code (form_at c.args.heap.now) row_limit c.args.keeps left c.args.depth (c.args.depth + 1) c.args.x.now c.args.y.now (omega arith) (sym c.in-None.ensures))

pub rows_needed-meeting_of-parts-requires-clause-first : goal.rows_needed-meeting_of-parts-requires-clause-first
rows_needed-meeting_of-parts-requires-clause-first g t c =
    let r = c.requires.sides in
    let code = code_by g.T.Element.code_of c.args.bits in
    let F = form_at c.args.heap.now in
    let none : r.0 ≡ 0 = omega (arith, r.3.levels, c.if-depth-gt-DEEPEST.true) in
    run-of g.T.Ord.cmp code F c.args.depth c.args.a.now r.1 (sides-as g.T.Ord.cmp code F r.0 0 c.args.depth c.args.a.now c.args.b.now r.1 r.2 none r.3).first

pub rows_needed-meeting_of-parts-requires-clause-second : goal.rows_needed-meeting_of-parts-requires-clause-second
rows_needed-meeting_of-parts-requires-clause-second g t c =
    let r = c.requires.sides in
    let code = code_by g.T.Element.code_of c.args.bits in
    let F = form_at c.args.heap.now in
    let none : r.0 ≡ 0 = omega (arith, r.3.levels, c.if-depth-gt-DEEPEST.true) in
    run-of g.T.Ord.cmp code F c.args.depth c.args.b.now r.2 (sides-as g.T.Ord.cmp code F r.0 0 c.args.depth c.args.a.now c.args.b.now r.1 r.2 none r.3).second

pub rows_needed-returns-then-depth-gt-DEEPEST-clause-rows : goal.rows_needed-returns-then-depth-gt-DEEPEST-clause-rows
rows_needed-returns-then-depth-gt-DEEPEST-clause-rows g t c = λ left levels.
    let code = code_by g.T.Element.code_of c.args.bits in
    let F = form_at c.args.heap.now in
    let none : left ≡ 0 = omega (arith, levels, c.if-depth-gt-DEEPEST.true) in
    let all = need-none g.T.Ord.cmp code row_limit F c.args.keeps c.args.depth c.args.a.now c.args.b.now in
    subst (λ n. c.meeting_of-parts.result.first + c.meeting_of-parts.result.second ≡ rows_need g.T.Ord.cmp code row_limit F c.args.keeps n c.args.depth c.args.a.now c.args.b.now) (sym none)
    (omega (arith, all, c.meeting_of-parts.ensures.first, c.meeting_of-parts.ensures.second))

pub rows_needed-of-first-requires-clause-place : goal.rows_needed-of-first-requires-clause-place
rows_needed-of-first-requires-clause-place g t c =
    let r = c.requires.sides in
    has-keyed g.T.Ord.cmp (code_by g.T.Element.code_of c.args.bits) (form_at c.args.heap.now) r.0 c.args.depth c.args.a.now r.1 r.3.first

pub rows_needed-of-second-requires-clause-place : goal.rows_needed-of-second-requires-clause-place
rows_needed-of-second-requires-clause-place g t c =
    let r = c.requires.sides in
    has-keyed g.T.Ord.cmp (code_by g.T.Element.code_of c.args.bits) (form_at c.args.heap.now) r.0 c.args.depth c.args.b.now r.2 r.3.second

pub rows_needed-of-first-requires-clause-row : goal.rows_needed-of-first-requires-clause-row
rows_needed-of-first-requires-clause-row g t c =
    let r = c.requires.sides in
    let code = code_by g.T.Element.code_of c.args.bits in
    let F = form_at c.args.heap.now in
    let more : r.0 ≡ suc (r.0 - 1) = omega (arith, r.3.levels, c.if-depth-gt-DEEPEST.false) in
    let sides = sides-as g.T.Ord.cmp code F r.0 (suc (r.0 - 1)) c.args.depth c.args.a.now c.args.b.now r.1 r.2 more r.3 in
    has-row g.T.Ord.cmp code F (r.0 - 1) c.args.depth c.args.a.now r.1 sides.first

pub rows_needed-of-second-requires-clause-row : goal.rows_needed-of-second-requires-clause-row
rows_needed-of-second-requires-clause-row g t c =
    let r = c.requires.sides in
    let code = code_by g.T.Element.code_of c.args.bits in
    let F = form_at c.args.heap.now in
    let more : r.0 ≡ suc (r.0 - 1) = omega (arith, r.3.levels, c.if-depth-gt-DEEPEST.false) in
    let sides = sides-as g.T.Ord.cmp code F r.0 (suc (r.0 - 1)) c.args.depth c.args.a.now c.args.b.now r.1 r.2 more r.3 in
    has-row g.T.Ord.cmp code F (r.0 - 1) c.args.depth c.args.b.now r.2 sides.second

pub rows_needed-loop-position-init : goal.rows_needed-loop-position-init
rows_needed-loop-position-init g t c = (
  c.first_from-position.ensures.from.1,
  λ left levels.
      let cmp = g.T.Ord.cmp in
      let code = code_by g.T.Element.code_of c.args.bits in
      let F = form_at c.args.heap.now in
      let on = need-on cmp code row_limit F c.args.keeps left c.args.depth c.args.a.now c.args.b.now c.of-first.result c.of-second.result c.positions.result c.positions-2.result c.of-first.ensures c.of-second.ensures c.positions.ensures c.positions-2.ensures
      0 c.first_from-position.result c.first_from-position.ensures.from.0 c.first_from-position.ensures.from.1 c.first_from-position.ensures.none in
      omega (arith, on, sum-none (position_need cmp code row_limit F c.args.keeps left c.args.depth c.args.a.now c.args.b.now)),
)

pub rows_needed-at-x-requires-clause-side : goal.rows_needed-at-x-requires-clause-side
rows_needed-at-x-requires-clause-side g t c =
    let code = code_by g.T.Element.code_of c.args.bits in
    (code, c.args.depth, c.args.a.now, c.of-first.ensures)

pub rows_needed-at-y-requires-clause-side : goal.rows_needed-at-y-requires-clause-side
rows_needed-at-y-requires-clause-side g t c =
    let code = code_by g.T.Element.code_of c.args.bits in
    (code, c.args.depth, c.args.b.now, c.of-second.ensures)

pub rows_needed-needed_at-rows-requires : goal.rows_needed-needed_at-rows-requires
rows_needed-needed_at-rows-requires g t c = λ κs sub.
    let r = c.requires.sides in
    let cmp = g.T.Ord.cmp in
    let code = code_by g.T.Element.code_of c.args.bits in
    let F = form_at c.args.heap.now in
    let d = c.args.depth in
    let p = c.loop-position.position in
    let more : r.0 ≡ suc (r.0 - 1) = omega (arith, r.3.levels, c.if-depth-gt-DEEPEST.false) in
    let sides = sides-as cmp code F r.0 (suc (r.0 - 1)) d c.args.a.now c.args.b.now r.1 r.2 more r.3 in
    let first : c.at-x.result ≡ place_below code F d c.args.a.now p = c.at-x.ensures.place code d c.args.a.now c.of-first.ensures in
    let second : c.at-y.result ≡ place_below code F d c.args.b.now p = c.at-y.ensures.place code d c.args.b.now c.of-second.ensures in (
      omega (arith, c.decreases),
      (
        sub,
        (
          c.requires.bits,
          (
            omega (arith, c.if-depth-gt-DEEPEST.false),
            (
              r.0 - 1,
              part cmp code d p r.1,
              part cmp code d p r.2,
              places-at cmp code F (r.0 - 1) d c.args.a.now c.args.b.now r.1 r.2 sides p c.loop-position-test.true c.at-x.result c.at-y.result first second,
              omega (arith, r.4, filter-short (λ (e : Entry g.row.T.Denot). nat_eq (digit_at (code e.key) d) p) r.1),
              omega (arith, r.5, filter-short (λ (e : Entry g.row.T.Denot). nat_eq (digit_at (code e.key) d) p) r.2),
            ),
          ),
        ),
      ),
    )

pub rows_needed-overflow_add-rows : goal.rows_needed-overflow_add-rows
rows_needed-overflow_add-rows g t c =
    let r = c.requires.sides in
    let cmp = g.T.Ord.cmp in
    let code = code_by g.T.Element.code_of c.args.bits in
    let F = form_at c.args.heap.now in
    let d = c.args.depth in
    let p = c.loop-position.position in
    let more : r.0 ≡ suc (r.0 - 1) = omega (arith, r.3.levels, c.if-depth-gt-DEEPEST.false) in
    let levels : d + suc (r.0 - 1) ≡ LEVELS = omega (arith, r.3.levels, more) in
    let sides = sides-as cmp code F r.0 (suc (r.0 - 1)) d c.args.a.now c.args.b.now r.1 r.2 more r.3 in
    let first : c.at-x.result ≡ place_below code F d c.args.a.now p = c.at-x.ensures.place code d c.args.a.now c.of-first.ensures in
    let second : c.at-y.result ≡ place_below code F d c.args.b.now p = c.at-y.ensures.place code d c.args.b.now c.of-second.ensures in
    omega (
      arith,
      c.loop-position.invariant.1 (r.0 - 1) levels,
      c.needed_at-rows.ensures (r.0 - 1) levels,
      need-there cmp code F row_limit c.args.keeps (r.0 - 1) d c.args.a.now c.args.b.now p c.at-x.result c.at-y.result first second,
      rows-fit cmp code F row_limit c.args.keeps (r.0 - 1) d c.args.a.now c.args.b.now r.1 r.2 sides p c.loop-position-test.true,
      r.4,
      r.5,
    )

pub rows_needed-loop-position-smaller : goal.rows_needed-loop-position-smaller
rows_needed-loop-position-smaller g t c = omega (arith, c.first_from-position-in-loop-position.ensures.from, c.loop-position-test.true)

pub rows_needed-loop-position-preserved : goal.rows_needed-loop-position-preserved
rows_needed-loop-position-preserved g t c = (
  c.first_from-position-in-loop-position.ensures.from.1,
  λ left levels.
      let cmp = g.T.Ord.cmp in
      let code = code_by g.T.Element.code_of c.args.bits in
      let F = form_at c.args.heap.now in
      let d = c.args.depth in
      let a = c.args.a.now in
      let b = c.args.b.now in
      let p = c.loop-position.position in
      let f : ℕ → ℕ = position_need cmp code row_limit F c.args.keeps left d a b in
      let step : sum_below (p + 1) f ≡ sum_below p f + f p = ap (λ i. sum_below i f) (let same : p + 1 ≡ suc p = omega arith in same) ∙ sum-next f p in
      let first : c.at-x.result ≡ place_below code F d a p = c.at-x.ensures.place code d a c.of-first.ensures in
      let second : c.at-y.result ≡ place_below code F d b p = c.at-y.ensures.place code d b c.of-second.ensures in
      let on = need-on cmp code row_limit F c.args.keeps left d a b c.of-first.result c.of-second.result c.positions.result c.positions-2.result c.of-first.ensures c.of-second.ensures c.positions.ensures c.positions-2.ensures
      (p + 1) c.first_from-position-in-loop-position.result c.first_from-position-in-loop-position.ensures.from.0 c.first_from-position-in-loop-position.ensures.from.1 c.first_from-position-in-loop-position.ensures.none in
      omega (arith, on, step, c.loop-position.invariant.1 left levels, c.needed_at-rows.ensures left levels, need-there cmp code F row_limit c.args.keeps left d a b p c.at-x.result c.at-y.result first second),
)

pub rows_needed-returns-clause-rows : goal.rows_needed-returns-clause-rows
rows_needed-returns-clause-rows g t c = λ left levels.
    let cmp = g.T.Ord.cmp in
    let code = code_by g.T.Element.code_of c.args.bits in
    let F = form_at c.args.heap.now in
    let n : ℕ = left - 1 in
    let more : left ≡ suc (left - 1) = omega (arith, levels, c.if-depth-gt-DEEPEST.false) in
    let all : c.loop-position.position ≡ 32 = omega (arith, c.loop-position-test.false, c.loop-position.invariant.0) in
    let rows = c.loop-position.invariant.1 (left - 1) (omega (arith, levels, more)) in
    let f : ℕ → ℕ = position_need cmp code row_limit F c.args.keeps (left - 1) c.args.depth c.args.a.now c.args.b.now in
    subst (λ i. c.loop-position.rows ≡ rows_need cmp code row_limit F c.args.keeps i c.args.depth c.args.a.now c.args.b.now) (sym more)
    (rows ∙ ap (λ i. 1 + sum_below i f) all ∙ sym (need-more cmp code row_limit F c.args.keeps (left - 1) c.args.depth c.args.a.now c.args.b.now))

pub rows_needed-positions-requires : goal.rows_needed-positions-requires
rows_needed-positions-requires g t c = side-low (code_by g.T.Element.code_of c.args.bits) (form_at c.args.heap.now) c.args.depth c.args.a.now c.of-first.result c.of-first.ensures

pub rows_needed-positions-requires-2 : goal.rows_needed-positions-requires-2
rows_needed-positions-requires-2 g t c = side-low (code_by g.T.Element.code_of c.args.bits) (form_at c.args.heap.now) c.args.depth c.args.b.now c.of-second.result c.of-second.ensures
