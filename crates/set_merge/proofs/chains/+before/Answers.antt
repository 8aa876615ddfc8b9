use Rattle.std.proofs.Common.{arith, ◌+◌, ◌++◌, drop}
use Rattle.node_heap.specs.Heap.{form_at}
use Rattle.champ_chain.proofs.FrameLemmas.{forms-kept}
use Rattle.set_merge.proofs.ChainLemmas.{IsOver-then, over-held}
use Rattle.set_merge.proofs.FrontLemmas.{late-fronts, early-fronts, whole-before}
use Rattle.set_merge.proofs.chains.+before.Goals as goal

pub before-made-requires : goal.before-made-requires
before-made-requires g t c κs within =
    let r = c.requires.fronts in
    let F = form_at c.args.heap.now in
    let early = c.halves-early.result.0 in
    let late = c.halves-early.result.1 in
    let h = c.halves-early.ensures.halves r.0 r.1 r.3.fronts_of in (
      omega (arith, c.decreases, h.firsts, h.seconds, c.halves-early.ensures.some.0),
      (
        within,
        (
          c.requires.few,
          (
            c.requires.graph,
            (
              c.requires.held,
              (
                λ some. omega (arith, h.firsts, h.seconds, c.requires.spare (omega (arith, some, h.firsts, h.seconds))),
                (drop early.first r.0, drop early.second r.1, r.2, late-fronts g.T.Ord.cmp g.met.T.Ord.total F c.args.fronts.now early late c.args.after.now r.0 r.1 r.2 r.3 h),
              ),
            ),
          ),
        ),
      ),
    )

pub before-requires : goal.before-requires
before-requires g t c κs within =
    let r = c.requires.fronts in
    let F = form_at c.args.heap.now in
    let G = form_at c.before-made.new.heap in
    let early = c.halves-early.result.0 in
    let late = c.halves-early.result.1 in
    let h = c.halves-early.ensures.halves r.0 r.1 r.3.fronts_of in
    let over = c.before-made.ensures.over in
    let kept = forms-kept c.args.heap.now c.before-made.new.heap over.builds.extends in
    let b = c.before-made.ensures.run (drop early.first r.0) (drop early.second r.1) r.2 (late-fronts g.T.Ord.cmp g.met.T.Ord.total F c.args.fronts.now early late c.args.after.now r.0 r.1 r.2 r.3 h) in (
      omega (arith, c.decreases, h.firsts, h.seconds, c.halves-early.ensures.some.1),
      (
        within,
        (
          omega (arith, over.builds.total, c.requires.few),
          (
            over.builds.graph,
            (
              over-held c.args.heap.now c.before-made.new.heap c.args.after.now c.before-made.result (late.first + late.second) over c.requires.held,
              (
                λ some. omega (arith, h.firsts, h.seconds, c.requires.spare (omega (arith, some, h.firsts, h.seconds)), over.few, over.builds.makes.spare_nodes, over.builds.few_nodes),
                (r.0, r.1, b.kept ++ r.2, early-fronts g.T.Ord.cmp g.met.T.Ord.total F c.args.fronts.now early late c.args.after.now r.0 r.1 r.2 r.3 h G kept c.args.keeps c.before-made.result b),
              ),
            ),
          ),
        ),
      ),
    )

pub returns-clause-over : goal.returns-clause-over
returns-clause-over g t c =
    let r = c.requires.fronts in
    let early = c.halves-early.result.0 in
    let late = c.halves-early.result.1 in
    let h = c.halves-early.ensures.halves r.0 r.1 r.3.fronts_of in
    IsOver-then c.args.heap.now c.before-made.new.heap c.before-2.new.heap c.args.after.now c.before-made.result c.before-2.result (late.first + late.second) (early.first + early.second) (c.args.fronts.now.first + c.args.fronts.now.second)
    c.before-made.ensures.over c.before-2.ensures.over (omega (arith, h.firsts, h.seconds))

pub returns-clause-run : goal.returns-clause-run
returns-clause-run g t c = λ es ds ts f.
    let F = form_at c.args.heap.now in
    let G = form_at c.before-made.new.heap in
    let early = c.halves-early.result.0 in
    let late = c.halves-early.result.1 in
    let h = c.halves-early.ensures.halves es ds f.fronts_of in
    let kept = forms-kept c.args.heap.now c.before-made.new.heap c.before-made.ensures.over.builds.extends in
    let b = c.before-made.ensures.run (drop early.first es) (drop early.second ds) ts (late-fronts g.T.Ord.cmp g.met.T.Ord.total F c.args.fronts.now early late c.args.after.now es ds ts f h) in
    whole-before g.T.Ord.cmp g.met.T.Ord.total F c.args.fronts.now early late c.args.after.now es ds ts f h G kept c.args.keeps c.before-made.result b (form_at c.before-2.new.heap) c.before-2.result
    (c.before-2.ensures.run es ds (b.kept ++ ts) (early-fronts g.T.Ord.cmp g.met.T.Ord.total F c.args.fronts.now early late c.args.after.now es ds ts f h G kept c.args.keeps c.before-made.result b))
