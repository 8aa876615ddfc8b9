use Rattle.std.proofs.Common.{◌≡◌, true, false, Option, List, length, ap, ◌∙◌, rules}
use Rattle.pool_text.specs.Rules.{present_rules}
use Rattle.pool_text.specs.Pool.{row_count}
use Rattle.pool_text.proofs.Refusals.{handed-on}
use Rattle.pool_check.specs.Damages.{open_damage}
use Rattle.pool_check.specs.declared.vectors.Shape.{Shape}
use Rattle.pool_check.specs.declared.kinds.RowFacts.{RowFacts}
use Rattle.pool_check.proofs.FactRows.{roots-low}
use Rattle.pool_check.proofs.Refused.{row-fails}
use Rattle.pool_check.proofs.TestedRows.{kinds-fail, undo-fails, kinds-pass}
use Rattle.pool_check.proofs.tested.make_tested.Goals as goal

pub returns-in_err-all-clause-damage : goal.returns-in_err-all-clause-damage
returns-in_err-all-clause-damage c =
    handed-on c.from_residual.result c.in_err-all.field-0.0 (open_damage present_rules c.args.pool) c.from_residual.ensures.1
    (λ not_memory. row-fails present_rules c.args.pool c.in_err-all.field-0.0 (c.in_err-all.ensures.damage not_memory))

pub are_roots-requires : goal.are_roots-requires
are_roots-requires c =
    let count : length c.as_slice.result.now ≡ row_count c.args.pool = ap (λ (xs : List RowFacts). length xs) c.as_slice.ensures.value ∙ c.in_ok-all.ensures.found.fact_count in
    roots-low c.args.pool c.in_ok-all.ensures.passed.lead_back (length c.as_slice.result.now) count c.as_slice-roots.result.now c.as_slice-roots.ensures

pub undo_length-requires : goal.undo_length-requires
undo_length-requires c =
    let count : length c.as_slice-2.result.now ≡ row_count c.args.pool = ap (λ (xs : List (Option Shape)). length xs) c.as_slice-2.ensures.value ∙ c.in_ok-all.ensures.found.shape_count in
    roots-low c.args.pool c.in_ok-all.ensures.passed.lead_back (length c.as_slice-2.result.now) count c.as_slice-roots.result.now c.as_slice-roots.ensures

pub returns-then-not-are_roots-clause-damage : goal.returns-then-not-are_roots-clause-damage
returns-then-not-are_roots-clause-damage c = λ _.
    let no : false ≡ c.are_roots.result = search rules in
    kinds-fail c.args.pool c.in_ok-all.all c.in_ok-all.ensures.passed c.in_ok-all.ensures.found c.requires.roots c.as_slice-roots.result.now c.as_slice-roots.ensures
    c.as_slice.result.now c.as_slice.ensures.value c.are_roots.result c.are_roots.ensures no

pub returns-then-pool-undo_length-clause-damage : goal.returns-then-pool-undo_length-clause-damage
returns-then-pool-undo_length-clause-damage c = λ _.
    let yes : true ≡ c.are_roots.result = search rules in
    undo-fails c.args.pool c.in_ok-all.all c.in_ok-all.ensures.passed c.in_ok-all.ensures.found c.requires.roots c.as_slice-roots.result.now c.as_slice-roots.ensures
    c.as_slice.result.now c.as_slice.ensures.value c.are_roots.result c.are_roots.ensures yes c.as_slice-2.result.now c.as_slice-2.ensures.value c.undo_length.result c.undo_length.ensures c.if-pool-undo_length.true

pub returns-clause-passed : goal.returns-clause-passed
returns-clause-passed c =
    let yes : true ≡ c.are_roots.result = search rules in
    kinds-pass c.args.pool c.in_ok-all.all c.in_ok-all.ensures.passed c.in_ok-all.ensures.found c.requires.roots c.as_slice-roots.result.now c.as_slice-roots.ensures
    c.as_slice.result.now c.as_slice.ensures.value c.are_roots.result c.are_roots.ensures yes c.as_slice-2.result.now c.as_slice-2.ensures.value c.undo_length.result c.undo_length.ensures c.if-pool-undo_length.false

pub invariant_of-result : goal.invariant_of-result
invariant_of-result c =
    let yes : true ≡ c.are_roots.result = search rules in
    record {
      bits = c.requires.bits;
      in_range = c.requires.rows;
      passes =
          kinds-pass c.args.pool c.in_ok-all.all c.in_ok-all.ensures.passed c.in_ok-all.ensures.found c.requires.roots c.as_slice-roots.result.now c.as_slice-roots.ensures
          c.as_slice.result.now c.as_slice.ensures.value c.are_roots.result c.are_roots.ensures yes c.as_slice-2.result.now c.as_slice-2.ensures.value c.undo_length.result c.undo_length.ensures c.if-pool-undo_length.false;
      known = c.in_ok-all.ensures.found;
    }
