use Rattle.std.proofs.Common.{◌≡◌, ◌≢◌, ℕ, ◌∷◌, length, drop, refl, sym, arith, ap, Option, Some}
use Rattle.std.specs.Prelude.{◌↔◌, IsTrue, false, option_to_list}
use Rattle.std.proofs.lemmas.Bool.{eqb-true, eqb-false}
use Rattle.node_heap.specs.Forms.{node, chain}
use Rattle.node_heap.specs.Heap.{Heap, form_at}
use Rattle.node_heap.specs.Glass.{lent}
use Rattle.champ_chain.proofs.FrameLemmas.{rows-live}
use Rattle.champ_trie.specs.Walk.{depth_of}
use Rattle.same_value.specs.Congruent.{Congruent, IsChainFrom}
use Rattle.same_value.proofs.ChainRows.{Passed, passed-none, passed-more, once-more, apart-more, passed-spends}
use Rattle.same_value.proofs.ChainPairs.{left-row, right-row, same-links, good-left, good-right, entries-same, as-long, rest-congruent, more-congruent, last-congruent, rows-shorter}
use Rattle.same_value.proofs.chains.same_chains.Given as given
use Rattle.same_value.proofs.chains.same_chains.Goals as goal

-- where one chain goes on and the other ends, they aren't congruent
uneven : (g : given.Over) (how : g.row.C.Denot) (h : Heap g.row.T.Denot) {l m left right x y : ℕ} (next next' : Option ℕ) (first : IsChainFrom g.T.Ord.cmp (form_at h) (g.C.Compares.good how h) l) (second : IsChainFrom g.T.Ord.cmp (form_at h) (g.C.Compares.good how h) m)
    (p : Passed g.T.Ord.cmp g.met.T.Ord.total (form_at h) l m first.entries second.entries left right) → Congruent (form_at h) (g.C.Compares.same how h) l m ↔ Congruent (form_at h) (g.C.Compares.same how h) left right
    → form_at h left ≡ Some (node chain (x ∷ option_to_list next)) → form_at h right ≡ Some (node chain (y ∷ option_to_list next')) → length (option_to_list next) ≢ length (option_to_list next')
    → IsTrue false ↔ Congruent (form_at h) (g.C.Compares.same how h) l m
uneven g how h {l} {m} {left} {right} {x} {y} next next' first second p here row row' other = (
  λ no. absurd cc,
  λ congruent. absurd (other
      (as-long g.T.Ord.cmp g.met.T.Ord.total (form_at h) (g.C.Compares.same how h) (g.C.Compares.good how h) (g.met.C.Compares.itself how h) (g.met.C.ComparesEntries.keyed how h) (g.met.C.ComparesEntries.outermost how h) l m first second left right p x y next next' row row' (here.0 congruent))),
)

pub loop-left_row-init : goal.loop-left_row-init
loop-left_row-init g c = λ first second. (
  passed-none g.T.Ord.cmp g.met.T.Ord.total (form_at (lent c.args.glass.now)) c.args.left c.args.right first.entries second.entries first.rows second.rows,
  (λ congruent. congruent, λ congruent. congruent),
  λ counted. omega arith,
)

pub returns-then-eq-clause-congruent : goal.returns-then-eq-clause-congruent
returns-then-eq-clause-congruent g c =
    let h = lent c.args.glass.now in
    let now = c.loop-left_row.invariant c.requires.left c.requires.right in
    let same : c.loop-left_row.left_row ≡ c.loop-left_row.right_row = eqb-true _ _ (sym c.if-eq.ensures) in (
      λ yes. now.1.1 (same-links g.T.Ord.cmp g.met.T.Ord.total (form_at h) (g.C.Compares.same c.args.how.now h) (g.C.Compares.good c.args.how.now h) (g.met.C.Compares.itself c.args.how.now h) (g.met.C.ComparesEntries.keyed c.args.how.now h)
          (g.met.C.ComparesEntries.outermost c.args.how.now h) c.args.left c.args.right c.requires.left c.requires.right c.loop-left_row.left_row c.loop-left_row.right_row now.0 same),
      λ congruent. refl,
    )

pub returns-then-eq-clause-few : goal.returns-then-eq-clause-few
returns-then-eq-clause-few g c = λ counted.
    let now = c.loop-left_row.invariant c.requires.left c.requires.right in
    passed-spends now.0 _ _ _ _ (now.2 counted) (omega arith)

pub row_of-first-requires : goal.row_of-first-requires
row_of-first-requires g c =
    let h = lent c.args.glass.now in
    let now = c.loop-left_row.invariant c.requires.left c.requires.right in
    left-row g.T.Ord.cmp g.met.T.Ord.total (form_at h) (g.C.Compares.same c.args.how.now h) (g.C.Compares.good c.args.how.now h) (g.met.C.Compares.itself c.args.how.now h) (g.met.C.ComparesEntries.keyed c.args.how.now h)
    (g.met.C.ComparesEntries.outermost c.args.how.now h) c.args.left c.args.right c.requires.left c.requires.right c.loop-left_row.left_row c.loop-left_row.right_row now.0

pub row_of-second-requires : goal.row_of-second-requires
row_of-second-requires g c =
    let h = lent c.args.glass.now in
    let now = c.loop-left_row.invariant c.requires.left c.requires.right in
    right-row g.T.Ord.cmp g.met.T.Ord.total (form_at h) (g.C.Compares.same c.args.how.now h) (g.C.Compares.good c.args.how.now h) (g.met.C.Compares.itself c.args.how.now h) (g.met.C.ComparesEntries.keyed c.args.how.now h)
    (g.met.C.ComparesEntries.outermost c.args.how.now h) c.args.left c.args.right c.requires.left c.requires.right c.loop-left_row.left_row c.loop-left_row.right_row now.0

pub are_same-requires-clause-left : goal.are_same-requires-clause-left
are_same-requires-clause-left g c =
    let h = lent c.args.glass.now in
    let now = c.loop-left_row.invariant c.requires.left c.requires.right in
    good-left g.T.Ord.cmp g.met.T.Ord.total (form_at h) (g.C.Compares.same c.args.how.now h) (g.C.Compares.good c.args.how.now h) (g.met.C.Compares.itself c.args.how.now h) (g.met.C.ComparesEntries.keyed c.args.how.now h)
    (g.met.C.ComparesEntries.outermost c.args.how.now h) c.args.left c.args.right c.requires.left c.requires.right c.loop-left_row.left_row c.loop-left_row.right_row now.0 c.row_of-first.result.entry c.row_of-second.result.entry c.row_of-first.result.next c.row_of-second.result.next c.row_of-first.ensures.row c.row_of-second.ensures.row

pub are_same-requires-clause-right : goal.are_same-requires-clause-right
are_same-requires-clause-right g c =
    let h = lent c.args.glass.now in
    let now = c.loop-left_row.invariant c.requires.left c.requires.right in
    good-right g.T.Ord.cmp g.met.T.Ord.total (form_at h) (g.C.Compares.same c.args.how.now h) (g.C.Compares.good c.args.how.now h) (g.met.C.Compares.itself c.args.how.now h) (g.met.C.ComparesEntries.keyed c.args.how.now h)
    (g.met.C.ComparesEntries.outermost c.args.how.now h) c.args.left c.args.right c.requires.left c.requires.right c.loop-left_row.left_row c.loop-left_row.right_row now.0 c.row_of-first.result.entry c.row_of-second.result.entry c.row_of-first.result.next c.row_of-second.result.next c.row_of-first.ensures.row c.row_of-second.ensures.row

pub returns-then-not-are_same-clause-congruent : goal.returns-then-not-are_same-clause-congruent
returns-then-not-are_same-clause-congruent g c =
    let h = lent c.args.glass.now in
    let now = c.loop-left_row.invariant c.requires.left c.requires.right in (
      λ no. absurd cc,
      λ congruent. c.if-not-are_same.ensures.same.1 (entries-same g.T.Ord.cmp g.met.T.Ord.total (form_at h) (g.C.Compares.same c.args.how.now h) (g.C.Compares.good c.args.how.now h) (g.met.C.Compares.itself c.args.how.now h) (g.met.C.ComparesEntries.keyed c.args.how.now h)
          (g.met.C.ComparesEntries.outermost c.args.how.now h) c.args.left c.args.right c.requires.left c.requires.right c.loop-left_row.left_row c.loop-left_row.right_row now.0 c.row_of-first.result.entry c.row_of-second.result.entry c.row_of-first.result.next c.row_of-second.result.next c.row_of-first.ensures.row c.row_of-second.ensures.row (now.1.0 congruent)),
    )

pub returns-then-not-are_same-clause-few : goal.returns-then-not-are_same-clause-few
returns-then-not-are_same-clause-few g c = λ counted.
    let now = c.loop-left_row.invariant c.requires.left c.requires.right in
    passed-spends now.0 _ _ _ _ (now.2 counted) (omega (arith, c.row_of-first.ensures.step, c.row_of-second.ensures.step, c.are_same.ensures.few counted))

pub loop-left_row-smaller : goal.loop-left_row-smaller
loop-left_row-smaller g c =
    let h = lent c.args.glass.now in
    let now = c.loop-left_row.invariant c.requires.left c.requires.right in
    let few = rows-live h c.row_of-first.ensures.graph (drop now.0.passed c.requires.left.entries) (Some c.loop-left_row.left_row) now.0.left_rows in
    rows-shorter (form_at h) (depth_of h) c.loop-left_row.left_row c.row_of-first.result.entry c.in-Some-Some.next c.row_of-first.result.next (drop now.0.passed c.requires.left.entries) now.0.left_rows (omega (arith, few)) c.row_of-first.ensures.row c.in-Some-Some.is-0

pub loop-left_row-preserved : goal.loop-left_row-preserved
loop-left_row-preserved g c = λ first second.
    let h = lent c.args.glass.now in
    let now = c.loop-left_row.invariant first second in
    let other : c.loop-left_row.left_row ≢ c.loop-left_row.right_row = eqb-false _ _ (sym c.if-eq.ensures) in
    let same : g.C.Compares.same c.args.how.now h c.row_of-first.result.entry c.row_of-second.result.entry = c.if-not-are_same.ensures.same.0 refl in
    let more = passed-more g.T.Ord.cmp g.met.T.Ord.total (form_at h) c.args.left c.args.right first.entries second.entries first.rows second.rows first.rising second.rising c.loop-left_row.left_row c.loop-left_row.right_row now.0
    c.row_of-first.result.entry c.row_of-second.result.entry c.row_of-first.result.next c.row_of-second.result.next c.row_of-first.ensures.row c.row_of-second.ensures.row (λ j k. g.met.C.ComparesEntries.equal_keys c.args.how.now h c.row_of-first.result.entry c.row_of-second.result.entry j k same) other c.in-Some-Some.next c.in-Some-Some.other c.in-Some-Some.is-0 c.in-Some-Some.is-1 in (
      more.0,
      (
        λ congruent. rest-congruent g.T.Ord.cmp g.met.T.Ord.total (form_at h) (g.C.Compares.same c.args.how.now h) (g.C.Compares.good c.args.how.now h) (g.met.C.Compares.itself c.args.how.now h) (g.met.C.ComparesEntries.keyed c.args.how.now h)
            (g.met.C.ComparesEntries.outermost c.args.how.now h) c.args.left c.args.right first second c.loop-left_row.left_row c.loop-left_row.right_row now.0 c.row_of-first.result.entry c.row_of-second.result.entry c.row_of-first.result.next c.row_of-second.result.next c.row_of-first.ensures.row c.row_of-second.ensures.row c.in-Some-Some.next c.in-Some-Some.other c.in-Some-Some.is-0 c.in-Some-Some.is-1 (now.1.0 congruent),
        λ congruent. now.1.1 (more-congruent g.T.Ord.cmp g.met.T.Ord.total (form_at h) (g.C.Compares.same c.args.how.now h) (g.C.Compares.good c.args.how.now h) (g.met.C.Compares.itself c.args.how.now h) (g.met.C.ComparesEntries.keyed c.args.how.now h)
            (g.met.C.ComparesEntries.outermost c.args.how.now h) c.args.left c.args.right first second c.loop-left_row.left_row c.loop-left_row.right_row now.0 c.row_of-first.result.entry c.row_of-second.result.entry c.row_of-first.result.next c.row_of-second.result.next c.row_of-first.ensures.row c.row_of-second.ensures.row c.in-Some-Some.next c.in-Some-Some.other c.in-Some-Some.is-0 c.in-Some-Some.is-1 same congruent),
      ),
      λ counted. omega (arith, now.2 counted, ap length more.1, c.row_of-first.ensures.step, c.row_of-second.ensures.step, c.are_same.ensures.few counted),
    )

pub returns-in-None-None-clause-congruent : goal.returns-in-None-None-clause-congruent
returns-in-None-None-clause-congruent g c =
    let h = lent c.args.glass.now in
    let now = c.loop-left_row.invariant c.requires.left c.requires.right in
    let same : g.C.Compares.same c.args.how.now h c.row_of-first.result.entry c.row_of-second.result.entry = c.if-not-are_same.ensures.same.0 refl in (
      λ yes. now.1.1 (last-congruent g.T.Ord.cmp g.met.T.Ord.total (form_at h) (g.C.Compares.same c.args.how.now h) (g.C.Compares.good c.args.how.now h) (g.met.C.Compares.itself c.args.how.now h) (g.met.C.ComparesEntries.keyed c.args.how.now h)
          (g.met.C.ComparesEntries.outermost c.args.how.now h) c.args.left c.args.right c.requires.left c.requires.right c.loop-left_row.left_row c.loop-left_row.right_row now.0 c.row_of-first.result.entry c.row_of-second.result.entry c.row_of-first.result.next c.row_of-second.result.next c.row_of-first.ensures.row c.row_of-second.ensures.row c.in-None-None.is-0 c.in-None-None.is-1 same),
      λ congruent. refl,
    )

pub returns-in-None-None-clause-few : goal.returns-in-None-None-clause-few
returns-in-None-None-clause-few g c = λ counted.
    let h = lent c.args.glass.now in
    let now = c.loop-left_row.invariant c.requires.left c.requires.right in
    let other : c.loop-left_row.left_row ≢ c.loop-left_row.right_row = eqb-false _ _ (sym c.if-eq.ensures) in
    let same : g.C.Compares.same c.args.how.now h c.row_of-first.result.entry c.row_of-second.result.entry = c.if-not-are_same.ensures.same.0 refl in
    record {
      rows = c.loop-left_row.left_row ∷ now.0.rows;
      once = once-more g.T.Ord.cmp g.met.T.Ord.total (form_at h) c.args.left c.args.right c.requires.left.entries c.requires.right.entries c.requires.left.rows c.requires.right.rows c.requires.left.rising c.requires.right.rising c.loop-left_row.left_row
          c.loop-left_row.right_row now.0 c.row_of-first.result.entry c.row_of-second.result.entry c.row_of-first.result.next c.row_of-second.result.next c.row_of-first.ensures.row c.row_of-second.ensures.row (λ j k. g.met.C.ComparesEntries.equal_keys c.args.how.now h c.row_of-first.result.entry c.row_of-second.result.entry j k same) other;
      apart = apart-more g.T.Ord.cmp g.met.T.Ord.total (form_at h) c.args.left c.args.right c.requires.left.entries c.requires.right.entries c.requires.left.rows c.requires.right.rows c.requires.left.rising c.requires.right.rising c.loop-left_row.left_row
          c.loop-left_row.right_row now.0 c.row_of-first.result.entry c.row_of-second.result.entry c.row_of-first.result.next c.row_of-second.result.next c.row_of-first.ensures.row c.row_of-second.ensures.row (λ j k. g.met.C.ComparesEntries.equal_keys c.args.how.now h c.row_of-first.result.entry c.row_of-second.result.entry j k same) other;
      few = omega (arith, now.2 counted, c.row_of-first.ensures.step, c.row_of-second.ensures.step, c.are_same.ensures.few counted);
    }

pub returns-in_default-clause-congruent : goal.returns-in_default-clause-congruent
returns-in_default-clause-congruent g c =
    let now = c.loop-left_row.invariant c.requires.left c.requires.right in
    let size = λ (next : Option ℕ). length (option_to_list next) in
    uneven g c.args.how.now (lent c.args.glass.now) _ _ c.requires.left c.requires.right now.0 now.1 c.row_of-first.ensures.row c.row_of-second.ensures.row (λ same. omega (arith, same, ap size c.in_default.is-0, ap size c.in_default.is-1))

pub returns-in_default-clause-few : goal.returns-in_default-clause-few
returns-in_default-clause-few g c = λ counted.
    let now = c.loop-left_row.invariant c.requires.left c.requires.right in
    passed-spends now.0 _ _ _ _ (now.2 counted) (omega (arith, c.row_of-first.ensures.step, c.row_of-second.ensures.step, c.are_same.ensures.few counted))

pub returns-in_default-2-clause-congruent : goal.returns-in_default-2-clause-congruent
returns-in_default-2-clause-congruent g c =
    let now = c.loop-left_row.invariant c.requires.left c.requires.right in
    let size = λ (next : Option ℕ). length (option_to_list next) in
    uneven g c.args.how.now (lent c.args.glass.now) _ _ c.requires.left c.requires.right now.0 now.1 c.row_of-first.ensures.row c.row_of-second.ensures.row (λ same. omega (arith, same, ap size c.in_default.is-0, ap size c.in_default.is-1))

pub returns-in_default-2-clause-few : goal.returns-in_default-2-clause-few
returns-in_default-2-clause-few g c = λ counted.
    let now = c.loop-left_row.invariant c.requires.left c.requires.right in
    passed-spends now.0 _ _ _ _ (now.2 counted) (omega (arith, c.row_of-first.ensures.step, c.row_of-second.ensures.step, c.are_same.ensures.few counted))
