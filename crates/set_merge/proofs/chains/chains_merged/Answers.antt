use Rattle.std.proofs.Common.{◌≡◌, ◌+◌, [], ◌++◌, arith, refl, cond, drop}
use Rattle.node_heap.specs.Heap.{form_at, row_limit}
use Rattle.elem_core.specs.declared.codes.TheConstants.{LEVELS}
use Rattle.set_merge.specs.Need.{chains_need}
use Rattle.set_merge.specs.Spread.{place_merged}
use Rattle.set_merge.proofs.ClosingLemmas.{side-run, run-in, same-need, first-fronts, kept-waits, over-need, place-set, whole-merge}
use Rattle.set_merge.proofs.chains.chains_merged.Goals as goal

pub meeting_of-parts-requires-clause-first : goal.meeting_of-parts-requires-clause-first
meeting_of-parts-requires-clause-first g c =
    let s = c.requires.sides in
    let h = run-in g.T.Ord.cmp s.0 (form_at c.args.heap.now) c.args.a.now s.2 s.4 (side-run g.T.Ord.cmp s.1 s.0 LEVELS c.args.a.now s.2 s.5.first) in
    (h.entries, h.run)

pub meeting_of-parts-requires-clause-second : goal.meeting_of-parts-requires-clause-second
meeting_of-parts-requires-clause-second g c =
    let s = c.requires.sides in
    let h = run-in g.T.Ord.cmp s.0 (form_at c.args.heap.now) c.args.b.now s.3 s.4 (side-run g.T.Ord.cmp s.1 s.0 LEVELS c.args.b.now s.3 s.5.second) in
    (h.entries, h.run)

pub before-run-requires-clause-spare : goal.before-run-requires-clause-spare
before-run-requires-clause-spare g c = λ some.
    let s = c.requires.sides in
    let F = s.0 in
    let G = form_at c.args.heap.now in
    let h = side-run g.T.Ord.cmp s.1 F LEVELS c.args.a.now s.2 s.5.first in
    let h' = side-run g.T.Ord.cmp s.1 F LEVELS c.args.b.now s.3 s.5.second in
    let need : chains_need row_limit F c.args.a.now c.args.b.now ≡ chains_need row_limit G c.args.a.now c.args.b.now = same-need F G s.4 row_limit c.args.a.now c.args.b.now h.entries h'.entries h.run.run h'.run.run in
    let waits = kept-waits c.args.keeps.both c.meeting_of-parts.result.shared c.kept_if-shared.result c.kept_if-shared.ensures (c.meeting_of-parts.ensures.rows some) in
    omega (arith, need, waits, c.meeting_of-parts.ensures.first, c.meeting_of-parts.ensures.second, s.6)

pub before-run-requires-clause-fronts : goal.before-run-requires-clause-fronts
before-run-requires-clause-fronts g c =
    let s = c.requires.sides in
    let G = form_at c.args.heap.now in
    let h = run-in g.T.Ord.cmp s.0 G c.args.a.now s.2 s.4 (side-run g.T.Ord.cmp s.1 s.0 LEVELS c.args.a.now s.2 s.5.first) in
    let h' = run-in g.T.Ord.cmp s.0 G c.args.b.now s.3 s.4 (side-run g.T.Ord.cmp s.1 s.0 LEVELS c.args.b.now s.3 s.5.second) in
    let parts = c.meeting_of-parts.result in
    let m = c.meeting_of-parts.ensures.meeting h.entries h'.entries h.run h'.run in (
      h.entries,
      h'.entries,
      cond c.args.keeps.both (drop parts.first h.entries) [],
      first-fronts g.T.Ord.cmp g.met.T.Ord.total c.args.keeps G c.args.a.now c.args.b.now parts.shared parts.first parts.second h.entries h'.entries h.run h'.run m.0 m.1 m.2 m.3 _ refl refl refl refl c.kept_if-shared.result c.kept_if-shared.ensures,
    )

pub closed-requires : goal.closed-requires
closed-requires g c =
    let s = c.requires.sides in
    let G = form_at c.args.heap.now in
    let h = run-in g.T.Ord.cmp s.0 G c.args.a.now s.2 s.4 (side-run g.T.Ord.cmp s.1 s.0 LEVELS c.args.a.now s.2 s.5.first) in
    let h' = run-in g.T.Ord.cmp s.0 G c.args.b.now s.3 s.4 (side-run g.T.Ord.cmp s.1 s.0 LEVELS c.args.b.now s.3 s.5.second) in
    let parts = c.meeting_of-parts.result in
    let m = c.meeting_of-parts.ensures.meeting h.entries h'.entries h.run h'.run in
    let ts = cond c.args.keeps.both (drop parts.first h.entries) [] in
    let b =
    c.before-run.ensures.run h.entries h'.entries ts
    (first-fronts g.T.Ord.cmp g.met.T.Ord.total c.args.keeps G c.args.a.now c.args.b.now parts.shared parts.first parts.second h.entries h'.entries h.run h'.run m.0 m.1 m.2 m.3 _ refl refl refl refl c.kept_if-shared.result c.kept_if-shared.ensures) in
    (b.kept ++ ts, b.is_run)

pub returns-clause-builds : goal.returns-clause-builds
returns-clause-builds g c = λ F code E D kept sides.
    let G = form_at c.args.heap.now in
    let h = side-run g.T.Ord.cmp code F LEVELS c.args.a.now E sides.first in
    let h' = side-run g.T.Ord.cmp code F LEVELS c.args.b.now D sides.second in
    let need : chains_need row_limit F c.args.a.now c.args.b.now ≡ chains_need row_limit G c.args.a.now c.args.b.now = same-need F G kept row_limit c.args.a.now c.args.b.now h.entries h'.entries h.run.run h'.run.run in
    let parts = c.meeting_of-parts.result in
    over-need c.args.heap.now c.before-run.new.heap c.kept_if-shared.result c.before-run.result c.closed.result (parts.first + parts.second) (chains_need row_limit F c.args.a.now c.args.b.now) c.before-run.ensures.over
    (λ some. kept-waits c.args.keeps.both parts.shared c.kept_if-shared.result c.kept_if-shared.ensures (c.meeting_of-parts.ensures.rows some))
    (omega (arith, need, c.meeting_of-parts.ensures.first, c.meeting_of-parts.ensures.second)) c.closed.ensures.links

pub returns-clause-place : goal.returns-clause-place
returns-clause-place g c = λ F code E D kept sides.
    let G = form_at c.args.heap.now in
    let h = run-in g.T.Ord.cmp F G c.args.a.now E kept (side-run g.T.Ord.cmp code F LEVELS c.args.a.now E sides.first) in
    let h' = run-in g.T.Ord.cmp F G c.args.b.now D kept (side-run g.T.Ord.cmp code F LEVELS c.args.b.now D sides.second) in
    let parts = c.meeting_of-parts.result in
    let m = c.meeting_of-parts.ensures.meeting h.entries h'.entries h.run h'.run in
    let ts = cond c.args.keeps.both (drop parts.first h.entries) [] in
    let b =
    c.before-run.ensures.run h.entries h'.entries ts
    (first-fronts g.T.Ord.cmp g.met.T.Ord.total c.args.keeps G c.args.a.now c.args.b.now parts.shared parts.first parts.second h.entries h'.entries h.run h'.run m.0 m.1 m.2 m.3 _ refl refl refl refl c.kept_if-shared.result c.kept_if-shared.ensures) in
    place-set g.T.Ord.cmp (form_at c.before-run.new.heap) (place_merged c.closed.result) (b.kept ++ ts) _ (c.closed.ensures.place (b.kept ++ ts) b.is_run)
    (whole-merge g.T.Ord.cmp g.met.T.Ord.total c.args.keeps parts.first parts.second h.entries h'.entries b.kept E D h.run.rising h'.run.rising m.3 b.same h.same h'.same) b.rising
