use Rattle.std.proofs.Common.{◌≡◌, rules, ◌++◌, ◌∷◌, [], List, length, length-append, Some, None, sym, ap, subst, ◌∙◌, arith}
use Rattle.champ_trie.specs.Trie.{code_by}
use Rattle.pool_text.specs.Rules.{rules_named}
use Rattle.pool_check.specs.Keeping.{forms_at, canonical_kept, AreKept}
use Rattle.pool_check.specs.declared.trie_row.KeptRow.{KeptRow}
use Rattle.pool_check.proofs.RowsKept.{one-more, ranges-in, some-refused, all-kept, kept-in, kept-out}
use Rattle.pool_check.proofs.KeptRows.{rows-many}
use Rattle.pool_check.proofs.tries.kept_of.Goals as goal

pub loop-place-init : goal.loop-place-init
loop-place-init c = (sym (search rules), kept-in (rules_named c.args.rules) c.args.pool.now c.as_slice-rows.result.now c.as_slice-rows.ensures c.args.kept.items c.requires.first)

pub kept_row-requires-clause-bits : goal.kept_row-requires-clause-bits
kept_row-requires-clause-bits c = c.requires.bits

pub kept_row-requires-clause-place : goal.kept_row-requires-clause-place
kept_row-requires-clause-place c = omega (arith, ap length c.deref.ensures.value, c.loop-place.invariant.0, c.loop-place-test.true)

pub kept_row-requires-clause-rows : goal.kept_row-requires-clause-rows
kept_row-requires-clause-rows c = ranges-in (rules_named c.args.rules) c.args.pool.now c.as_slice-rows.result.now c.as_slice-rows.ensures c.requires.rows

pub kept_row-requires-clause-kept : goal.kept_row-requires-clause-kept
kept_row-requires-clause-kept c =
    let rows = c.as_slice-rows.result.now in
    subst (λ xs. AreKept (length rows) (forms_at rows) (code_by (rules_named c.args.rules).code_of c.args.pool.now.bits) (rules_named c.args.rules).deepest xs) (sym c.deref.ensures.value) c.loop-place.invariant.1

pub loop-place-preserved : goal.loop-place-preserved
loop-place-preserved c =
    let rows = c.as_slice-rows.result.now in
    let code = code_by (rules_named c.args.rules).code_of c.args.pool.now.bits in
    let deepest = (rules_named c.args.rules).deepest in
    let kept = c.loop-place.kept.items in
    let is : canonical_kept (length rows) (forms_at rows) code deepest (length kept) ≡ Some c.in-Some.row = ap (λ (xs : List KeptRow). canonical_kept (length rows) (forms_at rows) code deepest (length xs)) (sym c.deref.ensures.value) ∙ sym c.kept_row.ensures ∙ c.in-Some.is in
    let items : c.push.new.self.items ≡ kept ++ c.in-Some.row ∷ [] = c.in_ok-push-in-Some.ensures.items in (
      omega (arith, ap length items, length-append kept (c.in-Some.row ∷ []), c.loop-place.invariant.0),
      subst (λ xs. AreKept (length rows) (forms_at rows) code deepest xs) (sym items) (one-more (length rows) (forms_at rows) code deepest kept c.in-Some.row c.loop-place.invariant.1 (omega (arith, c.loop-place.invariant.0, c.loop-place-test.true)) is),
    )

pub returns-in-None-clause-stand : goal.returns-in-None-clause-stand
returns-in-None-clause-stand c =
    let rows = c.as_slice-rows.result.now in
    let code = code_by (rules_named c.args.rules).code_of c.args.pool.now.bits in
    let deepest = (rules_named c.args.rules).deepest in
    let kept = c.loop-place.kept.items in
    let is : canonical_kept (length rows) (forms_at rows) code deepest (length kept) ≡ None = ap (λ (xs : List KeptRow). canonical_kept (length rows) (forms_at rows) code deepest (length xs)) (sym c.deref.ensures.value) ∙ sym c.kept_row.ensures ∙ c.in-None.is in
    some-refused (rules_named c.args.rules) c.args.pool.now rows c.as_slice-rows.ensures (length kept) (omega (arith, c.loop-place.invariant.0, c.loop-place-test.true)) is

pub returns-clause-stand : goal.returns-clause-stand
returns-clause-stand c =
    let rows = c.as_slice-rows.result.now in
    all-kept (rules_named c.args.rules) c.args.pool.now rows c.as_slice-rows.ensures c.loop-place.kept.items c.loop-place.invariant.1 (omega (arith, c.loop-place.invariant.0))

pub returns-clause-kept : goal.returns-clause-kept
returns-clause-kept c = kept-out (rules_named c.args.rules) c.args.pool.now c.as_slice-rows.result.now c.as_slice-rows.ensures c.loop-place.kept.items c.loop-place.invariant.1

pub returns-clause-count : goal.returns-clause-count
returns-clause-count c =
    omega (arith, c.loop-place.invariant.0, c.loop-place.invariant.1.low, c.loop-place-test.false, rows-many c.args.pool.now c.as_slice-rows.result.now c.as_slice-rows.ensures)
