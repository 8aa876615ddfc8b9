use Rattle.std.proofs.Common.{◌≡◌, ◌∙◌, ◌-◌, ◌≤◌, ℕ, [], ◌∷◌, ◌++◌, get_or, refl, sym, subst, arith, length-append}
use Rattle.std.proofs.lemmas.Bool.{eqb-false}
use Rattle.std.proofs.lemmas.Bool.Decides.{nat_tests}
use Rattle.elem_core.specs.declared.codes.TheConstants.{DEEPEST}
use Rattle.node_heap.specs.Heap.{Heap, form_at}
use Rattle.node_heap.specs.Glass.{lent}
use Rattle.champ_chain.proofs.FrameLemmas.{form-live}
use Rattle.same_value.specs.Congruent.{Congruent, IsFrom}
use Rattle.same_value.proofs.TriePairs.{from-opened, from-chain, trie-itself}
use Rattle.same_value.proofs.ReadRows.{read-row}
use Rattle.same_value.proofs.TwoRows.{TwoRows, TwoRead, AtPlace, opened-row, positions-same, row-apart, row-spends, links-number, entries-taken, others-taken, entries-few, left-good, right-good, entries-same, rows-congruent, at-place, child-left, child-right, children-congruent, congruent-more, apart-below}
use Rattle.same_value.proofs.tries.+same_tries.Given as given
use Rattle.same_value.proofs.tries.+same_tries.Goals as goal
use Rattle.same_value.proofs.tries.+same_tries.Goals.{After-links-others, After-index-links-place}

-- the rows of tries that can be compared, above the chains
opened : (g : given.Over) (how : g.row.C.Denot) (h : Heap g.row.T.Denot) (depth left right : ℕ) (tries : (code : g.row.T.Denot → ℕ) × IsFrom g.T.Ord.cmp (form_at h) (g.C.Compares.good how h) code depth left × IsFrom g.T.Ord.cmp (form_at h) (g.C.Compares.good how h) code depth right)
    → depth ≤ DEEPEST → TwoRows g.T.Ord.cmp tries.0 (form_at h) (g.C.Compares.good how h) (g.C.Compares.same how h) (DEEPEST - depth) depth left right
opened g how h depth left right tries low = record {
  first = from-opened g.T.Ord.cmp tries.0 (form_at h) (g.C.Compares.good how h) depth left tries.1 low;
  second = from-opened g.T.Ord.cmp tries.0 (form_at h) (g.C.Compares.good how h) depth right tries.2 low;
  itself = g.met.C.Compares.itself how h;
  keyed = g.met.C.ComparesEntries.keyed how h;
  outermost = g.met.C.ComparesEntries.outermost how h;
}

-- with entries and nodes at the same positions, and their links
read : (g : given.Over) (t : ℕ) (c : After-links-others g t)
    → TwoRead g.T.Ord.cmp c.requires.tries.0 (form_at (lent c.args.glass.now)) (g.C.Compares.good c.args.how.now (lent c.args.glass.now)) (g.C.Compares.same c.args.how.now (lent c.args.glass.now)) (DEEPEST - c.args.depth) c.args.depth c.args.left c.args.right
    c.in-Some.entries c.links-links.result.now c.links-others.result.now
read g t c =
    let h = lent c.args.glass.now in
    let rows = opened g c.args.how.now h c.args.depth c.args.left c.args.right c.requires.tries c.if-depth-gt-DEEPEST.false in
    let first = rows.first.row in
    let second = rows.second.row in
    let same = c.in-Some.ensures.same c.args.depth first.entries first.nodes c.args.depth second.entries second.nodes first.links second.links first.row second.row in
    record {
      rows = rows;
      entries = same.0;
      nodes = same.1;
      number = same.2;
      links_read = read-row h c.args.left _ first.links c.links-links.result.now c.links-links.ensures.links first.row.row;
      others_read = read-row h c.args.right _ second.links c.links-others.result.now c.links-others.ensures.links second.row.row;
    }

-- and the children at a place of the loop
placed : (g : given.Over) (t : ℕ) (c : After-index-links-place g t) (y : ℕ) → y ≡ get_or c.links-others.result.now c.loop-place.place y
    → AtPlace g.T.Ord.cmp c.requires.tries.0 (form_at (lent c.args.glass.now)) (g.C.Compares.good c.args.how.now (lent c.args.glass.now)) (g.C.Compares.same c.args.how.now (lent c.args.glass.now)) (DEEPEST - c.args.depth) c.args.depth c.args.left c.args.right
    c.in-Some.entries c.links-links.result.now c.links-others.result.now c.loop-place.place c.index-links-place.result y
placed g t c y is = at-place (read g t (goal.at.After-index-links-place g t c).After-links-others) c.loop-place.place c.loop-place.invariant.1 c.loop-place-test.true c.index-links-place.is is

pub returns-then-eq-clause-congruent : goal.returns-then-eq-clause-congruent
returns-then-eq-clause-congruent g t c =
    let h = lent c.args.glass.now in
    let F = form_at h in
    let tries = c.requires.tries in
    let same : c.args.left ≡ c.args.right = grind (arith, nat_tests) in (
      λ yes. subst (Congruent F (g.C.Compares.same c.args.how.now h) c.args.left) same
          (trie-itself g.T.Ord.cmp g.met.T.Ord.total tries.0 F (g.C.Compares.same c.args.how.now h) (g.C.Compares.good c.args.how.now h) (g.met.C.Compares.itself c.args.how.now h) tries.1.left c.args.depth c.args.left tries.1.entries tries.1.trie tries.1.good),
      λ congruent. refl,
    )

pub returns-then-eq-clause-few : goal.returns-then-eq-clause-few
returns-then-eq-clause-few g t c = λ counted. record { rows = []; once = λ k. omega arith; apart = λ k some. absurd (omega (arith, some)); few = omega arith }

pub same_chains-requires-clause-left : goal.same_chains-requires-clause-left
same_chains-requires-clause-left g t c =
    let h = lent c.args.glass.now in
    let tries = c.requires.tries in
    from-chain g.T.Ord.cmp tries.0 (form_at h) (g.C.Compares.good c.args.how.now h) c.args.depth c.args.left tries.1 c.if-depth-gt-DEEPEST.true

pub same_chains-requires-clause-right : goal.same_chains-requires-clause-right
same_chains-requires-clause-right g t c =
    let h = lent c.args.glass.now in
    let tries = c.requires.tries in
    from-chain g.T.Ord.cmp tries.0 (form_at h) (g.C.Compares.good c.args.how.now h) c.args.depth c.args.right tries.2 c.if-depth-gt-DEEPEST.true

pub entries_of_both-requires-clause-left : goal.entries_of_both-requires-clause-left
entries_of_both-requires-clause-left g t c = opened-row (opened g c.args.how.now (lent c.args.glass.now) c.args.depth c.args.left c.args.right c.requires.tries c.if-depth-gt-DEEPEST.false).first

pub entries_of_both-requires-clause-right : goal.entries_of_both-requires-clause-right
entries_of_both-requires-clause-right g t c = opened-row (opened g c.args.how.now (lent c.args.glass.now) c.args.depth c.args.left c.args.right c.requires.tries c.if-depth-gt-DEEPEST.false).second

pub returns-in-None-clause-congruent : goal.returns-in-None-clause-congruent
returns-in-None-clause-congruent g t c =
    let rows = opened g c.args.how.now (lent c.args.glass.now) c.args.depth c.args.left c.args.right c.requires.tries c.if-depth-gt-DEEPEST.false in
    let first = rows.first.row in
    let second = rows.second.row in (
      λ no. absurd cc,
      λ congruent. absurd (c.in-None.ensures.same c.args.depth first.entries first.nodes c.args.depth second.entries second.nodes first.links second.links first.row second.row (positions-same rows congruent)),
    )

pub returns-in-None-clause-few : goal.returns-in-None-clause-few
returns-in-None-clause-few g t c = λ counted. row-spends (opened g c.args.how.now (lent c.args.glass.now) c.args.depth c.args.left c.args.right c.requires.tries c.if-depth-gt-DEEPEST.false) (eqb-false _ _ (sym c.if-eq.ensures)) _ _ _ (omega (arith, c.entries_of_both.ensures.steps))

pub links-links-requires : goal.links-links-requires
links-links-requires g t c = form-live (lent c.args.glass.now) c.args.left _ (opened g c.args.how.now (lent c.args.glass.now) c.args.depth c.args.left c.args.right c.requires.tries c.if-depth-gt-DEEPEST.false).first.row.row.row

pub links-others-requires : goal.links-others-requires
links-others-requires g t c = form-live (lent c.args.glass.now) c.args.right _ (opened g c.args.how.now (lent c.args.glass.now) c.args.depth c.args.left c.args.right c.requires.tries c.if-depth-gt-DEEPEST.false).second.row.row.row

pub slice_bounds-same_in_turn-end : goal.slice_bounds-same_in_turn-end
slice_bounds-same_in_turn-end g t c = entries-taken (read g t (goal.at.slice_bounds-same_in_turn-end g t c).After-links-others)

pub slice_bounds-same_in_turn-end-2 : goal.slice_bounds-same_in_turn-end-2
slice_bounds-same_in_turn-end-2 g t c = others-taken (read g t (goal.at.slice_bounds-same_in_turn-end-2 g t c).After-links-others)

pub same_in_turn-requires-clause-number : goal.same_in_turn-requires-clause-number
same_in_turn-requires-clause-number g t c =
    let both = read g t (goal.at.same_in_turn-requires-clause-number g t c).After-links-others in
    sym (entries-taken both) ∙ others-taken both

pub same_in_turn-requires-clause-left : goal.same_in_turn-requires-clause-left
same_in_turn-requires-clause-left g t c = left-good (read g t (goal.at.same_in_turn-requires-clause-left g t c).After-links-others)

pub same_in_turn-requires-clause-right : goal.same_in_turn-requires-clause-right
same_in_turn-requires-clause-right g t c = right-good (read g t (goal.at.same_in_turn-requires-clause-right g t c).After-links-others)

pub returns-then-not-same_in_turn-clause-congruent : goal.returns-then-not-same_in_turn-clause-congruent
returns-then-not-same_in_turn-clause-congruent g t c = (
  λ no. absurd cc,
  λ congruent. c.if-not-same_in_turn.ensures.same.1 (entries-same (read g t (goal.at.returns-then-not-same_in_turn-clause-congruent g t c).After-links-others) congruent),
)

pub returns-then-not-same_in_turn-clause-few : goal.returns-then-not-same_in_turn-clause-few
returns-then-not-same_in_turn-clause-few g t c = λ counted.
    let both = read g t (goal.at.returns-then-not-same_in_turn-clause-few g t c).After-links-others in
    row-spends both.rows (eqb-false _ _ (sym c.if-eq.ensures)) _ _ _ (omega (arith, c.entries_of_both.ensures.steps, c.links-links.ensures.step, c.links-others.ensures.step, c.same_in_turn.ensures.few counted, entries-taken both, entries-few both))

pub loop-place-init : goal.loop-place-init
loop-place-init g t c =
    let both = read g t (goal.at.loop-place-init g t c).After-links-others in (
      λ i from low. absurd (omega (arith, from, low)),
      omega arith,
      λ counted. (
        c.args.left ∷ [],
        row-apart both.rows (eqb-false _ _ (sym c.if-eq.ensures)) c.in-Some.entries c.in-Some.entries c.links-links.result.now,
        omega (arith, c.entries_of_both.ensures.steps, c.links-links.ensures.step, c.links-others.ensures.step, c.same_in_turn.ensures.few counted, entries-taken both, entries-few both),
      ),
    )

pub bounds-others-place : goal.bounds-others-place
bounds-others-place g t c = omega (arith, c.loop-place-test.true, links-number (read g t (goal.at.bounds-others-place g t c).After-links-others))

pub same_tries-requires : goal.same_tries-requires
same_tries-requires g t c κs within =
    let here = placed g t (goal.at.same_tries-requires g t c).After-index-links-place c.index-others-place.result c.index-others-place.is in (
      omega (arith, c.decreases, c.if-depth-gt-DEEPEST.false),
      (within.0, (within.1.0, (within.1.1, (c.requires.reads, (c.requires.tries.0, child-left here, child-right here))))),
    )

pub returns-then-not-same_tries-clause-congruent : goal.returns-then-not-same_tries-clause-congruent
returns-then-not-same_tries-clause-congruent g t c = (
  λ no. absurd cc,
  λ congruent. c.if-not-same_tries.ensures.congruent.1 (children-congruent (placed g t (goal.at.returns-then-not-same_tries-clause-congruent g t c).After-index-links-place c.index-others-place.result c.index-others-place.is) congruent),
)

pub returns-then-not-same_tries-clause-few : goal.returns-then-not-same_tries-clause-few
returns-then-not-same_tries-clause-few g t c = λ counted.
    let st = c.loop-place.invariant.2 counted in
    let more = apart-below (placed g t (goal.at.returns-then-not-same_tries-clause-few g t c).After-index-links-place c.index-others-place.result c.index-others-place.is) st.0 st.1 _ _ _ (c.if-not-same_tries.ensures.few counted) in
    record { rows = st.0 ++ more.0; once = more.1.once; apart = more.1.apart; few = omega (arith, st.2, more.2, length-append st.0 more.0, c.if-depth-gt-DEEPEST.false) }

pub loop-place-preserved : goal.loop-place-preserved
loop-place-preserved g t c =
    let here = placed g t (goal.at.loop-place-preserved g t c).After-index-links-place c.index-others-place.result c.index-others-place.is in (
      congruent-more here c.loop-place.invariant.0 (c.if-not-same_tries.ensures.congruent.0 refl),
      omega (arith, c.loop-place.invariant.1),
      λ counted.
          let st = c.loop-place.invariant.2 counted in
          let more = apart-below here st.0 st.1 _ _ _ (c.if-not-same_tries.ensures.few counted) in
          (st.0 ++ more.0, more.1, omega (arith, st.2, more.2, length-append st.0 more.0)),
    )

pub returns-clause-congruent : goal.returns-clause-congruent
returns-clause-congruent g t c = (
  λ yes. rows-congruent (read g t (goal.at.returns-clause-congruent g t c).After-links-others) (c.if-not-same_in_turn.ensures.same.0 refl) (λ i from below. c.loop-place.invariant.0 i from (omega (arith, below, c.loop-place-test.false))),
  λ congruent. refl,
)

pub returns-clause-few : goal.returns-clause-few
returns-clause-few g t c = λ counted.
    let st = c.loop-place.invariant.2 counted in
    record { rows = st.0; once = st.1.once; apart = st.1.apart; few = omega (arith, st.2) }
