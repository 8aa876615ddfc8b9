use Rattle.std.proofs.Common.{◌≡◌, ◌≢◌, ◌-◌, ◌<◌, ◌≤◌, ◌/◌, ◌∙◌, sym, ap, subst, ◌∷◌, ◌++◌, arith, refl, take, drop, length}
use Rattle.std.specs.List.{All}
use Rattle.std.specs.declared.cmp.Ordering.TheVariants.{Less}
use Rattle.std.proofs.lemmas.List.{take-append-drop}
use Rattle.std.proofs.lemmas.List.Elements.{All-take}
use Rattle.node_heap.specs.Heap.{form_at}
use Rattle.champ_chain.specs.Entry.{Entry}
use Rattle.champ_chain.specs.Chain.{IsRising}
use Rattle.champ_chain.proofs.RisingLemmas.{less_irrefl, rising-right}
use Rattle.set_merge.specs.Walk.{IsRun}
use Rattle.set_merge.proofs.CutLemmas.{not-less-rest, rising-below}
use Rattle.set_merge.proofs.RunLemmas.{split-at, front-key}
use Rattle.set_merge.proofs.chains.halves_by_first.Goals as goal

pub run_after-middle-requires : goal.run_after-middle-requires
run_after-middle-requires g c =
    let f = c.requires.fronts.2 in
    (c.requires.fronts.0, f.first.run, omega (arith, f.number))

pub front_of-entry-requires : goal.front_of-entry-requires
front_of-entry-requires g c =
    let es = c.requires.fronts.0 in
    let f = c.requires.fronts.2 in
    let half = c.args.fronts.now.first / 2 in
    let s = split-at half es (omega (arith, f.number, c.requires.more)) in
    (s.first, s.others, subst (IsRun (form_at c.args.heap.now) c.run_after-middle.result) s.here (c.run_after-middle.ensures es f.first.run (omega (arith, f.number))))

pub smaller_in-smaller-requires-clause-run : goal.smaller_in-smaller-requires-clause-run
smaller_in-smaller-requires-clause-run g c = (c.requires.fronts.1, c.requires.fronts.2.second, c.requires.fronts.2.other_number)

pub smaller_in-smaller-requires-clause-key : goal.smaller_in-smaller-requires-clause-key
smaller_in-smaller-requires-clause-key g c =
    let F = form_at c.args.heap.now in
    let es = c.requires.fronts.0 in
    let f = c.requires.fronts.2 in
    let half = c.args.fronts.now.first / 2 in
    let s = split-at half es (omega (arith, f.number, c.requires.more)) in
    let run = subst (IsRun F c.run_after-middle.result) s.here (c.run_after-middle.ensures es f.first.run (omega (arith, f.number))) in
    (s.first.key, front-key F c.run_after-middle.result s.first s.others c.front_of-entry.result.entry run (c.front_of-entry.ensures.front s.first s.others run).0)

pub run_after-rest-requires : goal.run_after-rest-requires
run_after-rest-requires g c =
    let f = c.requires.fronts.2 in
    (c.requires.fronts.1, f.second.run, omega (arith, f.other_number, c.smaller_in-smaller.ensures.few))

pub returns-clause-some : goal.returns-clause-some
returns-clause-some g c = (omega (arith, c.requires.more), omega (arith, c.requires.more))

pub returns-clause-halves : goal.returns-clause-halves
returns-clause-halves g c = λ es ds f.
    let F = form_at c.args.heap.now in
    let half = c.args.fronts.now.first / 2 in
    let less : half < length es = omega (arith, f.number, c.requires.more) in
    let le : half ≤ length es = omega (arith, less) in
    let s = split-at half es less in
    let middle = c.run_after-middle.ensures es f.first.run le in
    let run = subst (IsRun F c.run_after-middle.result) s.here middle in
    let key = front-key F c.run_after-middle.result s.first s.others c.front_of-entry.result.entry run (c.front_of-entry.ensures.front s.first s.others run).0 in
    let small = c.smaller_in-smaller.ensures.smaller ds s.first.key f.second key in
    let P = λ (e : Entry _). g.T.Ord.cmp e.key s.first.key ≢ Less in
    let whole : take half es ++ (s.first ∷ s.others) ≡ es = ap (λ xs. take half es ++ xs) (sym s.here) ∙ take-append-drop half es in
    let rising = subst (IsRising g.T.Ord.cmp) (sym whole) f.first.rising in
    record {
      a = refl;
      b = refl;
      firsts = omega arith;
      seconds = omega (arith, c.smaller_in-smaller.ensures.few);
      late_a = middle;
      late_b = c.run_after-rest.ensures ds f.second.run (omega (arith, f.other_number, c.smaller_in-smaller.ensures.few));
      key = s.first.key;
      below = rising-below g.T.Ord.cmp g.met.T.Ord.total (take half es) s.others s.first rising;
      other_below = small.0;
      from =
          All-take P (c.args.fronts.now.first - half) (drop half es)
          (subst (All P) (sym s.here)
          (not-less-rest g.T.Ord.cmp g.met.T.Ord.total s.first.key s.first s.others (λ same. less_irrefl g.T.Ord.cmp g.met.T.Ord.total s.first.key same)
          (rising-right g.T.Ord.cmp g.met.T.Ord.total (take half es) (s.first ∷ s.others) rising)));
      other_from = small.1;
    }
