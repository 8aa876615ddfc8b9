use Rattle.std.proofs.Common.{arith, ◌≡◌, suc, ◌+◌, ◌-◌, ◌∙◌, sym, ap, subst}
use Rattle.elem_core.specs.Codes.{masked_code}
use Rattle.node_heap.specs.Heap.{form_at, row_limit}
use Rattle.node_heap.proofs.BuildLemmas.{Builds-spare_nodes}
use Rattle.champ_chain.proofs.FrameLemmas.{forms-kept}
use Rattle.champ_trie.specs.Trie.{part, code_by}
use Rattle.set_merge.specs.Side.{place_below}
use Rattle.set_merge.specs.Merge.{merged}
use Rattle.set_merge.specs.Spread.{Closed}
use Rattle.set_merge.specs.Walk.{IsSpread}
use Rattle.set_merge.proofs.MergeLemmas.{part-merged}
use Rattle.set_merge.proofs.WalkLemmas.{keyed-kept, has-keyed, has-row, has-row-kept, first-keyed, second-keyed, come-settled, come-chain, chain-sides, chain-need, below-sides, below-need, more-need, come-closed, closed-kept, spread-live, spread-held, spread-none, spread-step, places-at, need-left, side-first, side-second, at-first, at-second}
use Rattle.set_merge.proofs.PositionLemmas.{side-low, spread-on}
use Rattle.set_merge.proofs.walk.+walk.Goals as goal

pub merged_at-settled-requires-clause-first : goal.merged_at-settled-requires-clause-first
merged_at-settled-requires-clause-first g t c =
    let r = c.requires.places in
    first-keyed g.T.Ord.cmp (code_by g.T.Element.code_of c.args.bits) row_limit c.args.keeps r.0 c.args.heap.now (record { kept = r.4 }) r.1 c.args.depth c.args.x.now c.args.y.now r.2 r.3 r.5

pub merged_at-settled-requires-clause-second : goal.merged_at-settled-requires-clause-second
merged_at-settled-requires-clause-second g t c =
    let r = c.requires.places in
    second-keyed g.T.Ord.cmp (code_by g.T.Element.code_of c.args.bits) row_limit c.args.keeps r.0 c.args.heap.now (record { kept = r.4 }) r.1 c.args.depth c.args.x.now c.args.y.now r.2 r.3 r.5

pub merged_at-returns-in-Some : goal.merged_at-returns-in-Some
merged_at-returns-in-Some g t c = record {
  come = λ F left E D kept are.
      come-settled g.T.Ord.cmp (code_by g.T.Element.code_of c.args.bits) row_limit c.args.keeps F c.args.heap.now (record { kept = kept }) left c.args.depth c.args.x.now c.args.y.now E D are
      g.met.T.Ord.total c.requires.graph c.in-Some.place (sym c.in-Some.ensures);
}

pub merged_at-chains_merged-requires-clause-sides : goal.merged_at-chains_merged-requires-clause-sides
merged_at-chains_merged-requires-clause-sides g t c =
    let r = c.requires.places in
    let code = code_by g.T.Element.code_of c.args.bits in
    let deep = c.if-depth-eq-DEEPEST.true in
    let look = sym c.settled.ensures ∙ c.in_default.is in (
      r.0,
      code,
      r.2,
      r.3,
      r.4,
      chain-sides g.T.Ord.cmp code row_limit c.args.keeps r.0 c.args.heap.now (record { kept = r.4 }) r.1 c.args.depth c.args.x.now c.args.y.now r.2 r.3 r.5 deep,
      omega (arith, r.6, chain-need g.T.Ord.cmp code row_limit c.args.keeps r.0 c.args.heap.now (record { kept = r.4 }) r.1 c.args.depth c.args.x.now c.args.y.now r.2 r.3 r.5 deep look),
    )

pub merged_at-returns-then-depth-eq-DEEPEST : goal.merged_at-returns-then-depth-eq-DEEPEST
merged_at-returns-then-depth-eq-DEEPEST g t c = record {
  come = λ F left E D kept are.
      let code = code_by g.T.Element.code_of c.args.bits in
      let deep = c.if-depth-eq-DEEPEST.true in
      let look = sym c.settled.ensures ∙ c.in_default.is in
      let sides = chain-sides g.T.Ord.cmp code row_limit c.args.keeps F c.args.heap.now (record { kept = kept }) left c.args.depth c.args.x.now c.args.y.now E D are deep in
      come-chain g.T.Ord.cmp code row_limit c.args.keeps F c.args.heap.now (record { kept = kept }) left c.args.depth c.args.x.now c.args.y.now E D are
      c.chains_merged.new.heap c.chains_merged.result deep look (c.chains_merged.ensures.builds F code E D kept sides) (c.chains_merged.ensures.place F code E D kept sides);
}

pub merged_at-merged_below-requires : goal.merged_at-merged_below-requires
merged_at-merged_below-requires g t c = λ κs sub. (
  omega (arith, c.decreases, c.requires.deep, c.if-depth-eq-DEEPEST.false),
  (sub, (c.requires.bits, (omega (arith, c.requires.deep, c.if-depth-eq-DEEPEST.false), (c.requires.few, (c.requires.graph, (sym c.settled.ensures ∙ c.in_default.is, c.requires.places)))))),
)

pub merged_below-rows_merged-requires : goal.merged_below-rows_merged-requires
merged_below-rows_merged-requires g t c = λ κs sub.
    let r = c.requires.places in
    let code = code_by g.T.Element.code_of c.args.bits in
    let more : r.1 ≡ suc (r.1 - 1) = omega (arith, r.5.levels, c.requires.deep) in
    let sides = below-sides g.T.Ord.cmp code row_limit c.args.keeps r.0 c.args.heap.now (record { kept = r.4 }) r.1 c.args.depth c.args.x.now c.args.y.now r.2 r.3 r.5 (r.1 - 1) more (c.args.depth + 1) (omega arith) in
    let need = below-need g.T.Ord.cmp code row_limit c.args.keeps r.0 c.args.heap.now (record { kept = r.4 }) r.1 c.args.depth c.args.x.now c.args.y.now r.2 r.3 r.5 (r.1 - 1) more (c.args.depth + 1) (omega arith) c.requires.look in (
      omega (arith, c.decreases, c.requires.deep),
      (sub, (c.empty-below.ensures.blank, (c.requires.bits, (omega (arith, c.requires.deep), (omega (arith, c.requires.few), (c.requires.graph, (r.0, r.1 - 1, r.2, r.3, r.4, sides, omega (arith, need, r.6)))))))),
    )

pub merged_below-close-requires-clause-graph : goal.merged_below-close-requires-clause-graph
merged_below-close-requires-clause-graph g t c =
    let r = c.requires.places in
    let more : r.1 ≡ suc (r.1 - 1) = omega (arith, r.5.levels, c.requires.deep) in
    let sides = below-sides g.T.Ord.cmp (code_by g.T.Element.code_of c.args.bits) row_limit c.args.keeps r.0 c.args.heap.now (record { kept = r.4 }) r.1 c.args.depth c.args.x.now c.args.y.now r.2 r.3 r.5 (r.1 - 1) more (c.args.depth + 1) (omega arith) in
    (c.rows_merged.ensures.spread r.0 (r.1 - 1) r.2 r.3 r.4 sides).builds.graph

pub merged_below-close-requires-clause-live : goal.merged_below-close-requires-clause-live
merged_below-close-requires-clause-live g t c =
    let r = c.requires.places in
    let code = code_by g.T.Element.code_of c.args.bits in
    let more : r.1 ≡ suc (r.1 - 1) = omega (arith, r.5.levels, c.requires.deep) in
    let sides = below-sides g.T.Ord.cmp code row_limit c.args.keeps r.0 c.args.heap.now (record { kept = r.4 }) r.1 c.args.depth c.args.x.now c.args.y.now r.2 r.3 r.5 (r.1 - 1) more (c.args.depth + 1) (omega arith) in
    spread-live g.T.Ord.cmp code row_limit c.args.keeps r.0 c.args.heap.now c.rows_merged.new.heap (r.1 - 1) (c.args.depth + 1) c.args.x.now c.args.y.now (merged g.T.Ord.cmp c.args.keeps r.2 r.3) c.rows_merged.new.spread
    (c.rows_merged.ensures.spread r.0 (r.1 - 1) r.2 r.3 r.4 sides)

pub merged_below-close-requires-clause-held : goal.merged_below-close-requires-clause-held
merged_below-close-requires-clause-held g t c =
    let r = c.requires.places in
    let code = code_by g.T.Element.code_of c.args.bits in
    let more : r.1 ≡ suc (r.1 - 1) = omega (arith, r.5.levels, c.requires.deep) in
    let sides = below-sides g.T.Ord.cmp code row_limit c.args.keeps r.0 c.args.heap.now (record { kept = r.4 }) r.1 c.args.depth c.args.x.now c.args.y.now r.2 r.3 r.5 (r.1 - 1) more (c.args.depth + 1) (omega arith) in
    spread-held g.T.Ord.cmp code row_limit c.args.keeps r.0 c.args.heap.now c.rows_merged.new.heap (r.1 - 1) (c.args.depth + 1) c.args.x.now c.args.y.now (merged g.T.Ord.cmp c.args.keeps r.2 r.3) c.rows_merged.new.spread
    (c.rows_merged.ensures.spread r.0 (r.1 - 1) r.2 r.3 r.4 sides)

pub merged_below-close-requires-clause-sets : goal.merged_below-close-requires-clause-sets
merged_below-close-requires-clause-sets g t c =
    let r = c.requires.places in
    let more : r.1 ≡ suc (r.1 - 1) = omega (arith, r.5.levels, c.requires.deep) in
    let sides = below-sides g.T.Ord.cmp (code_by g.T.Element.code_of c.args.bits) row_limit c.args.keeps r.0 c.args.heap.now (record { kept = r.4 }) r.1 c.args.depth c.args.x.now c.args.y.now r.2 r.3 r.5 (r.1 - 1) more (c.args.depth + 1) (omega arith) in
    (c.rows_merged.ensures.spread r.0 (r.1 - 1) r.2 r.3 r.4 sides).sets

pub merged_below-close-requires-clause-few : goal.merged_below-close-requires-clause-few
merged_below-close-requires-clause-few g t c =
    let r = c.requires.places in
    let more : r.1 ≡ suc (r.1 - 1) = omega (arith, r.5.levels, c.requires.deep) in
    let sides = below-sides g.T.Ord.cmp (code_by g.T.Element.code_of c.args.bits) row_limit c.args.keeps r.0 c.args.heap.now (record { kept = r.4 }) r.1 c.args.depth c.args.x.now c.args.y.now r.2 r.3 r.5 (r.1 - 1) more (c.args.depth + 1) (omega arith) in
    let did = c.rows_merged.ensures.spread r.0 (r.1 - 1) r.2 r.3 r.4 sides in
    omega (arith, c.requires.few, did.builds.total, did.few, c.requires.deep)

pub merged_below-close-requires-clause-spare : goal.merged_below-close-requires-clause-spare
merged_below-close-requires-clause-spare g t c =
    let r = c.requires.places in
    let code = code_by g.T.Element.code_of c.args.bits in
    let more : r.1 ≡ suc (r.1 - 1) = omega (arith, r.5.levels, c.requires.deep) in
    let sides = below-sides g.T.Ord.cmp code row_limit c.args.keeps r.0 c.args.heap.now (record { kept = r.4 }) r.1 c.args.depth c.args.x.now c.args.y.now r.2 r.3 r.5 (r.1 - 1) more (c.args.depth + 1) (omega arith) in
    let did = c.rows_merged.ensures.spread r.0 (r.1 - 1) r.2 r.3 r.4 sides in
    omega (arith, r.6, Builds-spare_nodes did.builds, more-need g.T.Ord.cmp code row_limit c.args.keeps r.0 c.args.heap.now (record { kept = r.4 }) r.1 c.args.depth c.args.x.now c.args.y.now r.2 r.3 r.5 (r.1 - 1) more (c.args.depth + 1) (omega arith) c.requires.look)

pub merged_below-returns : goal.merged_below-returns
merged_below-returns g t c = record {
  come = λ F left E D kept are.
      let code = code_by g.T.Element.code_of c.args.bits in
      let n = left - 1 in
      let more : left ≡ suc (left - 1) = omega (arith, are.levels, c.requires.deep) in
      let down : c.args.depth + 1 ≡ suc c.args.depth = omega arith in
      let M = merged g.T.Ord.cmp c.args.keeps E D in
      let s = c.rows_merged.new.spread in
      let h = c.args.heap.now in
      let mid = c.rows_merged.new.heap in
      let new = c.close.new.heap in
      let sides = below-sides g.T.Ord.cmp code row_limit c.args.keeps F h (record { kept = kept }) left c.args.depth c.args.x.now c.args.y.now E D are (left - 1) more (c.args.depth + 1) down in
      let did = c.rows_merged.ensures.spread F (left - 1) E D kept sides in
      let closed = c.close.ensures.closed in
      let later = closed-kept mid new s (c.args.depth + 1) c.args.x.now c.args.y.now c.close.result did.news did.counted closed in
      come-closed g.T.Ord.cmp code row_limit c.args.keeps F h (record { kept = kept }) left c.args.depth c.args.x.now c.args.y.now E D are (left - 1) more mid new s
      (forms-kept h mid did.builds.extends) later
      (subst (λ d. IsSpread g.T.Ord.cmp code row_limit c.args.keeps F h mid (left - 1) d c.args.x.now c.args.y.now M s 32) down did)
      c.close.result c.requires.look (subst (λ d. Closed mid new s d c.args.x.now c.args.y.now c.close.result) down closed);
}

pub rows_merged-of-first-requires-clause-place : goal.rows_merged-of-first-requires-clause-place
rows_merged-of-first-requires-clause-place g t c =
    let r = c.requires.sides in
    let code = code_by g.T.Element.code_of c.args.bits in
    keyed-kept g.T.Ord.cmp code r.0 (form_at c.args.heap.now) (record { kept = r.4 }) c.args.a.now (has-keyed g.T.Ord.cmp code r.0 (suc r.1) c.args.depth c.args.a.now r.2 r.5.first)

pub rows_merged-of-second-requires-clause-place : goal.rows_merged-of-second-requires-clause-place
rows_merged-of-second-requires-clause-place g t c =
    let r = c.requires.sides in
    let code = code_by g.T.Element.code_of c.args.bits in
    keyed-kept g.T.Ord.cmp code r.0 (form_at c.args.heap.now) (record { kept = r.4 }) c.args.b.now (has-keyed g.T.Ord.cmp code r.0 (suc r.1) c.args.depth c.args.b.now r.3 r.5.second)

pub rows_merged-of-first-requires-clause-row : goal.rows_merged-of-first-requires-clause-row
rows_merged-of-first-requires-clause-row g t c =
    let r = c.requires.sides in
    let code = code_by g.T.Element.code_of c.args.bits in
    has-row-kept g.T.Ord.cmp code r.0 (form_at c.args.heap.now) (record { kept = r.4 }) c.args.depth c.args.a.now (has-row g.T.Ord.cmp code r.0 r.1 c.args.depth c.args.a.now r.2 r.5.first)

pub rows_merged-of-second-requires-clause-row : goal.rows_merged-of-second-requires-clause-row
rows_merged-of-second-requires-clause-row g t c =
    let r = c.requires.sides in
    let code = code_by g.T.Element.code_of c.args.bits in
    has-row-kept g.T.Ord.cmp code r.0 (form_at c.args.heap.now) (record { kept = r.4 }) c.args.depth c.args.b.now (has-row g.T.Ord.cmp code r.0 r.1 c.args.depth c.args.b.now r.3 r.5.second)

pub rows_merged-loop-position-init : goal.rows_merged-loop-position-init
rows_merged-loop-position-init g t c = (
  c.first_from-position.ensures.from.1,
  λ F left E D kept are.
      let cmp = g.T.Ord.cmp in
      let code = code_by g.T.Element.code_of c.args.bits in
      let h = c.args.heap.now in
      let none = spread-none cmp code row_limit c.args.keeps F h left c.args.depth c.args.a.now c.args.b.now (merged cmp c.args.keeps E D) c.args.spread.now
      c.requires.graph c.requires.blank in
      spread-on cmp g.met.T.Ord.total code (λ j k e. ap (λ n. masked_code n c.args.bits) (g.met.T.Element.equal_codes j k e)) row_limit c.args.keeps F h h left c.args.depth c.args.a.now c.args.b.now E D are c.args.spread.now
      (record { kept = kept }) (forms-kept h h none.builds.extends) c.of-first.result c.of-second.result c.positions.result c.positions-2.result c.of-first.ensures c.of-second.ensures c.positions.ensures c.positions-2.ensures
      0 c.first_from-position.result c.first_from-position.ensures.from.0 c.first_from-position.ensures.from.1 c.first_from-position.ensures.none none,
)

pub rows_merged-at-x-requires-clause-side : goal.rows_merged-at-x-requires-clause-side
rows_merged-at-x-requires-clause-side g t c =
    let r = c.requires.sides in
    let code = code_by g.T.Element.code_of c.args.bits in
    let now = c.loop-position.heap in
    let did = c.loop-position.invariant.1 r.0 r.1 r.2 r.3 r.4 r.5 in
    let side = side-first g.T.Ord.cmp code r.0 r.1 c.args.depth c.args.a.now c.args.b.now r.2 r.3 r.5 (form_at c.args.heap.now) (form_at now) (record { kept = r.4 }) (forms-kept c.args.heap.now now did.builds.extends) c.of-first.result c.of-first.ensures in
    (code, c.args.depth, c.args.a.now, side)

pub rows_merged-at-y-requires-clause-side : goal.rows_merged-at-y-requires-clause-side
rows_merged-at-y-requires-clause-side g t c =
    let r = c.requires.sides in
    let code = code_by g.T.Element.code_of c.args.bits in
    let now = c.loop-position.heap in
    let did = c.loop-position.invariant.1 r.0 r.1 r.2 r.3 r.4 r.5 in
    let side = side-second g.T.Ord.cmp code r.0 r.1 c.args.depth c.args.a.now c.args.b.now r.2 r.3 r.5 (form_at c.args.heap.now) (form_at now) (record { kept = r.4 }) (forms-kept c.args.heap.now now did.builds.extends) c.of-second.result c.of-second.ensures in
    (code, c.args.depth, c.args.b.now, side)

pub rows_merged-merged_at-merged-requires : goal.rows_merged-merged_at-merged-requires
rows_merged-merged_at-merged-requires g t c = λ κs sub.
    let cmp = g.T.Ord.cmp in
    let code = code_by g.T.Element.code_of c.args.bits in
    let r = c.requires.sides in
    let old = c.args.heap.now in
    let now = c.loop-position.heap in
    let d = c.args.depth in
    let p = c.loop-position.position in
    let did = c.loop-position.invariant.1 r.0 r.1 r.2 r.3 r.4 r.5 in
    let then = forms-kept old now did.builds.extends in
    let side = side-first cmp code r.0 r.1 d c.args.a.now c.args.b.now r.2 r.3 r.5 (form_at old) (form_at now) (record { kept = r.4 }) then c.of-first.result c.of-first.ensures in
    let other = side-second cmp code r.0 r.1 d c.args.a.now c.args.b.now r.2 r.3 r.5 (form_at old) (form_at now) (record { kept = r.4 }) then c.of-second.result c.of-second.ensures in
    let first : c.at-x.result ≡ place_below code r.0 d c.args.a.now p = c.at-x.ensures.place code d c.args.a.now side ∙ at-first cmp code r.0 r.1 d c.args.a.now c.args.b.now r.2 r.3 r.5 (form_at old) (form_at now) (record { kept = r.4 }) then p in
    let second : c.at-y.result ≡ place_below code r.0 d c.args.b.now p = c.at-y.ensures.place code d c.args.b.now other ∙ at-second cmp code r.0 r.1 d c.args.a.now c.args.b.now r.2 r.3 r.5 (form_at old) (form_at now) (record { kept = r.4 }) then p in
    let places = places-at cmp code r.0 r.1 d c.args.a.now c.args.b.now r.2 r.3 r.5 p c.loop-position-test.true c.at-x.result c.at-y.result first second in
    let need = need-left cmp code r.0 r.1 d c.args.a.now c.args.b.now r.2 r.3 r.5 row_limit c.args.keeps p old.spare_nodes now.spare_nodes c.at-x.result c.at-y.result c.loop-position-test.true first second r.6 (Builds-spare_nodes did.builds) in (
      omega (arith, c.decreases),
      (
        sub,
        (
          c.requires.bits,
          (
            c.requires.deep,
            (
              omega (arith, c.requires.few, did.builds.total, did.few, c.loop-position-test.true),
              (
                did.builds.graph,
                (r.0, r.1, part cmp code d p r.2, part cmp code d p r.3, (λ l f is. then.kept l f (r.4 l f is)), places, need),
              ),
            ),
          ),
        ),
      ),
    )

pub rows_merged-put-requires-clause-sets : goal.rows_merged-put-requires-clause-sets
rows_merged-put-requires-clause-sets g t c =
    let r = c.requires.sides in
    (c.loop-position.invariant.1 r.0 r.1 r.2 r.3 r.4 r.5).sets

pub rows_merged-put-requires-clause-free : goal.rows_merged-put-requires-clause-free
rows_merged-put-requires-clause-free g t c =
    let r = c.requires.sides in
    (c.loop-position.invariant.1 r.0 r.1 r.2 r.3 r.4 r.5).rest c.loop-position.position (omega arith) c.loop-position-test.true

pub rows_merged-put-requires-clause-room : goal.rows_merged-put-requires-clause-room
rows_merged-put-requires-clause-room g t c =
    let r = c.requires.sides in
    omega (arith, (c.loop-position.invariant.1 r.0 r.1 r.2 r.3 r.4 r.5).few, c.loop-position-test.true)

pub rows_merged-loop-position-smaller : goal.rows_merged-loop-position-smaller
rows_merged-loop-position-smaller g t c = omega (arith, c.first_from-position-in-loop-position.ensures.from, c.loop-position-test.true)

pub rows_merged-loop-position-preserved : goal.rows_merged-loop-position-preserved
rows_merged-loop-position-preserved g t c = (
  c.first_from-position-in-loop-position.ensures.from.1,
  λ F left E D kept are.
      let cmp = g.T.Ord.cmp in
      let code = code_by g.T.Element.code_of c.args.bits in
      let old = c.args.heap.now in
      let now = c.loop-position.heap in
      let new = c.merged_at-merged.new.heap in
      let d = c.args.depth in
      let a = c.args.a.now in
      let b = c.args.b.now in
      let p = c.loop-position.position in
      let low = c.loop-position-test.true in
      let did = c.loop-position.invariant.1 F left E D kept are in
      let then = forms-kept old now did.builds.extends in
      let side = side-first cmp code F left d a b E D are (form_at old) (form_at now) (record { kept = kept }) then c.of-first.result c.of-first.ensures in
      let other = side-second cmp code F left d a b E D are (form_at old) (form_at now) (record { kept = kept }) then c.of-second.result c.of-second.ensures in
      let first : c.at-x.result ≡ place_below code F d a p = c.at-x.ensures.place code d a side ∙ at-first cmp code F left d a b E D are (form_at old) (form_at now) (record { kept = kept }) then p in
      let second : c.at-y.result ≡ place_below code F d b p = c.at-y.ensures.place code d b other ∙ at-second cmp code F left d a b E D are (form_at old) (form_at now) (record { kept = kept }) then p in
      let places = places-at cmp code F left d a b E D are p low c.at-x.result c.at-y.result first second in
      let come = c.merged_at-merged.ensures.come F left (part cmp code d p E) (part cmp code d p D) (λ l f is. then.kept l f (kept l f is)) places in
      let more = spread-step cmp code row_limit c.args.keeps F old now new left d a b (merged cmp c.args.keeps E D) (merged cmp c.args.keeps (part cmp code d p E) (part cmp code d p D))
      c.loop-position.spread c.put.new.self p c.merged_at-merged.result low did c.at-x.result c.at-y.result first second come
      (part-merged cmp code (λ j k e. ap (λ n. masked_code n c.args.bits) (g.met.T.Element.equal_codes j k e)) c.args.keeps d p E D)
      (record { sets = c.put.ensures.sets; here = c.put.ensures.here; others = c.put.ensures.others; links = c.put.ensures.links; stood = c.put.ensures.stood; made = c.put.ensures.made; as_first = c.put.ensures.as_first; as_second = c.put.ensures.as_second }) in
      let later = forms-kept old new more.builds.extends in
      let side' = side-first cmp code F left d a b E D are (form_at old) (form_at new) (record { kept = kept }) later c.of-first.result c.of-first.ensures in
      let other' = side-second cmp code F left d a b E D are (form_at old) (form_at new) (record { kept = kept }) later c.of-second.result c.of-second.ensures in
      spread-on cmp g.met.T.Ord.total code (λ j k e. ap (λ n. masked_code n c.args.bits) (g.met.T.Element.equal_codes j k e)) row_limit c.args.keeps F old new left d a b E D are c.put.new.self
      (record { kept = kept }) later c.of-first.result c.of-second.result c.positions.result c.positions-2.result side' other' c.positions.ensures c.positions-2.ensures
      (p + 1) c.first_from-position-in-loop-position.result c.first_from-position-in-loop-position.ensures.from.0 c.first_from-position-in-loop-position.ensures.from.1 c.first_from-position-in-loop-position.ensures.none more,
)

pub rows_merged-returns : goal.rows_merged-returns
rows_merged-returns g t c = record {
  spread = λ F left E D kept are.
      let all : c.loop-position.position ≡ 32 = omega (arith, c.loop-position-test.false, c.loop-position.invariant.0) in
      subst (λ n. IsSpread g.T.Ord.cmp (code_by g.T.Element.code_of c.args.bits) row_limit c.args.keeps F c.args.heap.now c.loop-position.heap left c.args.depth c.args.a.now c.args.b.now (merged g.T.Ord.cmp c.args.keeps E D) c.loop-position.spread n) all
      (c.loop-position.invariant.1 F left E D kept are);
}

pub rows_merged-positions-requires : goal.rows_merged-positions-requires
rows_merged-positions-requires g t c = side-low (code_by g.T.Element.code_of c.args.bits) (form_at c.args.heap.now) c.args.depth c.args.a.now c.of-first.result c.of-first.ensures

pub rows_merged-positions-requires-2 : goal.rows_merged-positions-requires-2
rows_merged-positions-requires-2 g t c = side-low (code_by g.T.Element.code_of c.args.bits) (form_at c.args.heap.now) c.args.depth c.args.b.now c.of-second.result c.of-second.ensures
