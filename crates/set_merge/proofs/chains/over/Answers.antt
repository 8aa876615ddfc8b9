use Rattle.std.proofs.Common.{◌≡◌, ap, Some, [], ◌∷◌, arith}
use Rattle.node_heap.specs.Heap.{form_at}
use Rattle.node_heap.proofs.BuildLemmas.{Builds-hold, Builds-then}
use Rattle.node_heap.proofs.Frames.{Extends-trans}
use Rattle.champ_chain.specs.Entry.{entry}
use Rattle.champ_chain.proofs.FrameLemmas.{forms-kept, key-kept, rows-kept}
use Rattle.champ_chain.proofs.SpotLemmas.{rows-none}
use Rattle.champ_chain.proofs.CopyLemmas.{chain-form, rows-over, copy-one}
use Rattle.set_merge.proofs.ChainLemmas.{two-long}
use Rattle.set_merge.proofs.chains.over.Goals as goal

pub returns-in-None-clause-run : goal.returns-in-None-clause-run
returns-in-None-clause-run g c = λ key ts is run.
    let G = form_at c.rows_of.new.heap in
    let none : ts ≡ [] = rows-none G ts (c.in-None.ensures.rows ts run) in
    record {
      run = (key, ap (λ us. entry key c.args.entry ∷ us) none, key-kept (form_at c.args.heap.now) G (forms-kept c.args.heap.now c.rows_of.new.heap c.in-None.ensures.builds.extends) c.args.entry key is);
      long = tt;
    }

pub returns-in-Some-clause-over : goal.returns-in-Some-clause-over
returns-in-Some-clause-over g c =
    let held = Builds-hold c.hold.ensures.holds c.hold.ensures.makes c.hold.ensures.count c.hold.ensures.graph c.hold.ensures.extends in
    let made = copy-one c.rows_of.new.heap c.hold.new.self c.row_over.new.heap c.args.entry c.row_over.result (c.in-Some.tail ∷ []) held c.row_over.ensures.builds in
    record {
      rows = _;
      few = omega arith;
      none = λ e. absurd (omega (arith, e));
      builds = Builds-then c.in-Some.ensures.builds made;
    }

pub returns-in-Some-clause-run : goal.returns-in-Some-clause-run
returns-in-Some-clause-run g c = λ key ts is run.
    let G = form_at c.row_over.new.heap in
    let more = Extends-trans c.hold.ensures.extends c.row_over.ensures.builds.extends in
    let all = Extends-trans c.in-Some.ensures.builds.extends more in
    let rows = c.in-Some.ensures.rows ts run in
    record {
      run =
          rows-over G c.row_over.result (entry key c.args.entry) (Some c.in-Some.tail) ts (chain-form c.row_over.new.heap c.row_over.result (c.args.entry ∷ c.in-Some.tail ∷ []) c.row_over.ensures.row)
          (key-kept (form_at c.args.heap.now) G (forms-kept c.args.heap.now c.row_over.new.heap all) c.args.entry key is)
          (rows-kept (form_at c.rows_of.new.heap) G (forms-kept c.rows_of.new.heap c.row_over.new.heap more) (Some c.in-Some.tail) ts rows);
      long = two-long (form_at c.rows_of.new.heap) c.in-Some.tail (entry key c.args.entry) ts rows;
    }
