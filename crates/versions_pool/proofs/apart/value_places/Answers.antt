use Rattle.std.proofs.Common.{◌≡◌, true, false, map, ap, sym, subst, ◌∙◌}
use Rattle.pool_text.specs.Rows.{row_form}
use Rattle.pool_text.specs.declared.pool.Pool.{Pool}
use Rattle.versions_pool.specs.Apart.{are_apart, AreLinkedInside, AreMarked}
use Rattle.versions_pool.proofs.ApartLemmas.{linked-inside}
use Rattle.versions_pool.proofs.apart.value_places.Goals as goal

pub value_marks-requires : goal.value_marks-requires
value_marks-requires g c = subst AreLinkedInside (sym c.as_slice-rows.ensures) (linked-inside c.pool-pool.result.now c.pool-pool.ensures.rows.passed.lead_back)

pub keys_are_unmarked-requires : goal.keys_are_unmarked-requires
keys_are_unmarked-requires g c = record {
  marked = subst (AreMarked (map row_form c.as_slice-rows.result.now)) (sym c.as_slice.ensures.value) c.in_ok-marks.ensures;
  inside = subst AreLinkedInside (sym c.as_slice-rows.ensures) (linked-inside c.pool-pool.result.now c.pool-pool.ensures.rows.passed.lead_back);
}

pub returns-then-keys_are_unmarked : goal.returns-then-keys_are_unmarked
returns-then-keys_are_unmarked g c =
    let rows_are : map row_form c.as_slice-rows.result.now ≡ c.args.checked.now.rows = c.as_slice-rows.ensures ∙ ap (λ (P : Pool). P.rows) c.pool-pool.ensures.same in
    record {
      apart = ap are_apart (sym rows_are) ∙ sym c.keys_are_unmarked.ensures ∙ c.if-keys_are_unmarked.true;
      marked = subst (λ rows. AreMarked rows c.in_ok-marks.marks.items) rows_are c.in_ok-marks.ensures;
      kind = tt;
      both = tt;
    }

pub returns-else-keys_are_unmarked-clause-both : goal.returns-else-keys_are_unmarked-clause-both
returns-else-keys_are_unmarked-clause-both g c =
    let rows_are : map row_form c.as_slice-rows.result.now ≡ c.args.checked.now.rows = c.as_slice-rows.ensures ∙ ap (λ (P : Pool). P.rows) c.pool-pool.ensures.same in
    λ _. ap are_apart (sym rows_are) ∙ sym c.keys_are_unmarked.ensures ∙ c.if-keys_are_unmarked.false
