use Rattle.std.proofs.Common.{◌∙◌, List, [], ◌∷◌, None, Some, ap, sym}
use Rattle.std.specs.Prelude.{codes}
use Rattle.serde_json.specs.View.{view, members_view}
use Rattle.pool_text.specs.Rows.{Bytes}
use Rattle.pool_text.proofs.PartsRead.{then-more, no-answer}
use Rattle.pool_delta.proofs.PartRead.{by-values, found_values, by-format, no-format, other-format}
use Rattle.pool_delta.proofs.part.values_of.Goals as goal

-- the keys that come after one
abbrev after_version : List Bytes
after_version = []

abbrev after_rows : List Bytes
after_rows = codes "version" ∷ after_version

abbrev after_roots : List Bytes
after_roots = codes "rows" ∷ after_rows

abbrev after_history : List Bytes
after_history = codes "roots" ∷ after_roots

abbrev after_format : List Bytes
after_format = codes "history" ∷ after_history

abbrev after_bits : List Bytes
after_bits = codes "format" ∷ after_format

abbrev after_after : List Bytes
after_after = codes "bits" ∷ after_bits

pub returns-in_err-after : goal.returns-in_err-after
returns-in_err-after c =
    by-values (view c.args.value.now) (members_view c.in_ok-as_object.field-0.now.entries) (members_view c.iter-members.result) None c.in_ok-as_object.ensures (ap members_view c.iter-members.ensures.rest)
    (c.in_err-after.ensures after_after)
    ∙ no-answer _ _ c.from_residual-in_err-after.ensures

pub returns-in_err-bits : goal.returns-in_err-bits
returns-in_err-bits c =
    by-values (view c.args.value.now) (members_view c.in_ok-as_object.field-0.now.entries) (members_view c.iter-members.result) None c.in_ok-as_object.ensures (ap members_view c.iter-members.ensures.rest)
    (then-more (λ ds. view c.in_ok-after.after.now ∷ ds) _ _ _ (c.in_ok-after.ensures after_after)
    (c.in_err-bits.ensures after_bits))
    ∙ no-answer _ _ c.from_residual-in_err-bits.ensures

pub returns-in_err-format : goal.returns-in_err-format
returns-in_err-format c =
    by-values (view c.args.value.now) (members_view c.in_ok-as_object.field-0.now.entries) (members_view c.iter-members.result) None c.in_ok-as_object.ensures (ap members_view c.iter-members.ensures.rest)
    (then-more (λ ds. view c.in_ok-after.after.now ∷ ds) _ _ _ (c.in_ok-after.ensures after_after)
    (then-more (λ ds. view c.in_ok-bits.bits.now ∷ ds) _ _ _ (c.in_ok-bits.ensures after_bits)
    (c.in_err-format.ensures after_format)))
    ∙ no-answer _ _ c.from_residual-in_err-format.ensures

pub returns-in_err-history : goal.returns-in_err-history
returns-in_err-history c =
    by-values (view c.args.value.now) (members_view c.in_ok-as_object.field-0.now.entries) (members_view c.iter-members.result) None c.in_ok-as_object.ensures (ap members_view c.iter-members.ensures.rest)
    (then-more (λ ds. view c.in_ok-after.after.now ∷ ds) _ _ _ (c.in_ok-after.ensures after_after)
    (then-more (λ ds. view c.in_ok-bits.bits.now ∷ ds) _ _ _ (c.in_ok-bits.ensures after_bits)
    (then-more (λ ds. view c.in_ok-format.format.now ∷ ds) _ _ _ (c.in_ok-format.ensures after_format)
    (c.in_err-history.ensures after_history))))
    ∙ no-answer _ _ c.from_residual-in_err-history.ensures

pub returns-in_err-roots : goal.returns-in_err-roots
returns-in_err-roots c =
    by-values (view c.args.value.now) (members_view c.in_ok-as_object.field-0.now.entries) (members_view c.iter-members.result) None c.in_ok-as_object.ensures (ap members_view c.iter-members.ensures.rest)
    (then-more (λ ds. view c.in_ok-after.after.now ∷ ds) _ _ _ (c.in_ok-after.ensures after_after)
    (then-more (λ ds. view c.in_ok-bits.bits.now ∷ ds) _ _ _ (c.in_ok-bits.ensures after_bits)
    (then-more (λ ds. view c.in_ok-format.format.now ∷ ds) _ _ _ (c.in_ok-format.ensures after_format)
    (then-more (λ ds. view c.in_ok-history.history.now ∷ ds) _ _ _ (c.in_ok-history.ensures after_history)
    (c.in_err-roots.ensures after_roots)))))
    ∙ no-answer _ _ c.from_residual-in_err-roots.ensures

pub returns-in_err-rows : goal.returns-in_err-rows
returns-in_err-rows c =
    by-values (view c.args.value.now) (members_view c.in_ok-as_object.field-0.now.entries) (members_view c.iter-members.result) None c.in_ok-as_object.ensures (ap members_view c.iter-members.ensures.rest)
    (then-more (λ ds. view c.in_ok-after.after.now ∷ ds) _ _ _ (c.in_ok-after.ensures after_after)
    (then-more (λ ds. view c.in_ok-bits.bits.now ∷ ds) _ _ _ (c.in_ok-bits.ensures after_bits)
    (then-more (λ ds. view c.in_ok-format.format.now ∷ ds) _ _ _ (c.in_ok-format.ensures after_format)
    (then-more (λ ds. view c.in_ok-history.history.now ∷ ds) _ _ _ (c.in_ok-history.ensures after_history)
    (then-more (λ ds. view c.in_ok-roots.roots.now ∷ ds) _ _ _ (c.in_ok-roots.ensures after_roots)
    (c.in_err-rows.ensures after_rows))))))
    ∙ no-answer _ _ c.from_residual-in_err-rows.ensures

pub returns-in_err-version : goal.returns-in_err-version
returns-in_err-version c =
    by-values (view c.args.value.now) (members_view c.in_ok-as_object.field-0.now.entries) (members_view c.iter-members.result) None c.in_ok-as_object.ensures (ap members_view c.iter-members.ensures.rest)
    (then-more (λ ds. view c.in_ok-after.after.now ∷ ds) _ _ _ (c.in_ok-after.ensures after_after)
    (then-more (λ ds. view c.in_ok-bits.bits.now ∷ ds) _ _ _ (c.in_ok-bits.ensures after_bits)
    (then-more (λ ds. view c.in_ok-format.format.now ∷ ds) _ _ _ (c.in_ok-format.ensures after_format)
    (then-more (λ ds. view c.in_ok-history.history.now ∷ ds) _ _ _ (c.in_ok-history.ensures after_history)
    (then-more (λ ds. view c.in_ok-roots.roots.now ∷ ds) _ _ _ (c.in_ok-roots.ensures after_roots)
    (then-more (λ ds. view c.in_ok-rows.rows.now ∷ ds) _ _ _ (c.in_ok-rows.ensures after_rows)
    (c.in_err-version.ensures after_version)))))))
    ∙ no-answer _ _ c.from_residual-in_err-version.ensures

pub returns-then-not-is_over : goal.returns-then-not-is_over
returns-then-not-is_over c =
    by-values (view c.args.value.now) (members_view c.in_ok-as_object.field-0.now.entries) (members_view c.iter-members.result) None c.in_ok-as_object.ensures (ap members_view c.iter-members.ensures.rest)
    (then-more (λ ds. view c.in_ok-after.after.now ∷ ds) _ _ _ (c.in_ok-after.ensures after_after)
    (then-more (λ ds. view c.in_ok-bits.bits.now ∷ ds) _ _ _ (c.in_ok-bits.ensures after_bits)
    (then-more (λ ds. view c.in_ok-format.format.now ∷ ds) _ _ _ (c.in_ok-format.ensures after_format)
    (then-more (λ ds. view c.in_ok-history.history.now ∷ ds) _ _ _ (c.in_ok-history.ensures after_history)
    (then-more (λ ds. view c.in_ok-roots.roots.now ∷ ds) _ _ _ (c.in_ok-roots.ensures after_roots)
    (then-more (λ ds. view c.in_ok-rows.rows.now ∷ ds) _ _ _ (c.in_ok-rows.ensures after_rows)
    (then-more (λ ds. view c.in_ok-version.version.now ∷ ds) _ _ _ (c.in_ok-version.ensures after_version)
    c.if-not-is_over.ensures)))))))

pub returns-in_err-as_str : goal.returns-in_err-as_str
returns-in_err-as_str c =
    by-values (view c.args.value.now) (members_view c.in_ok-as_object.field-0.now.entries) (members_view c.iter-members.result) (Some (found_values (view c.in_ok-after.after.now) (view c.in_ok-bits.bits.now) (view c.in_ok-format.format.now) (view c.in_ok-history.history.now) (view c.in_ok-roots.roots.now) (view c.in_ok-rows.rows.now) (view c.in_ok-version.version.now))) c.in_ok-as_object.ensures (ap members_view c.iter-members.ensures.rest)
    (then-more (λ ds. view c.in_ok-after.after.now ∷ ds) _ _ _ (c.in_ok-after.ensures after_after)
    (then-more (λ ds. view c.in_ok-bits.bits.now ∷ ds) _ _ _ (c.in_ok-bits.ensures after_bits)
    (then-more (λ ds. view c.in_ok-format.format.now ∷ ds) _ _ _ (c.in_ok-format.ensures after_format)
    (then-more (λ ds. view c.in_ok-history.history.now ∷ ds) _ _ _ (c.in_ok-history.ensures after_history)
    (then-more (λ ds. view c.in_ok-roots.roots.now ∷ ds) _ _ _ (c.in_ok-roots.ensures after_roots)
    (then-more (λ ds. view c.in_ok-rows.rows.now ∷ ds) _ _ _ (c.in_ok-rows.ensures after_rows)
    (then-more (λ ds. view c.in_ok-version.version.now ∷ ds) _ _ _ (c.in_ok-version.ensures after_version)
    c.if-not-is_over.ensures)))))))
    ∙ no-format (view c.in_ok-after.after.now) (view c.in_ok-bits.bits.now) (view c.in_ok-format.format.now) (view c.in_ok-history.history.now) (view c.in_ok-roots.roots.now) (view c.in_ok-rows.rows.now) (view c.in_ok-version.version.now) c.in_err-as_str.ensures
    ∙ no-answer _ _ c.from_residual-in_err-as_str.ensures

pub returns-then-is_part : goal.returns-then-is_part
returns-then-is_part c =
    by-values (view c.args.value.now) (members_view c.in_ok-as_object.field-0.now.entries) (members_view c.iter-members.result) (Some (found_values (view c.in_ok-after.after.now) (view c.in_ok-bits.bits.now) (view c.in_ok-format.format.now) (view c.in_ok-history.history.now) (view c.in_ok-roots.roots.now) (view c.in_ok-rows.rows.now) (view c.in_ok-version.version.now))) c.in_ok-as_object.ensures (ap members_view c.iter-members.ensures.rest)
    (then-more (λ ds. view c.in_ok-after.after.now ∷ ds) _ _ _ (c.in_ok-after.ensures after_after)
    (then-more (λ ds. view c.in_ok-bits.bits.now ∷ ds) _ _ _ (c.in_ok-bits.ensures after_bits)
    (then-more (λ ds. view c.in_ok-format.format.now ∷ ds) _ _ _ (c.in_ok-format.ensures after_format)
    (then-more (λ ds. view c.in_ok-history.history.now ∷ ds) _ _ _ (c.in_ok-history.ensures after_history)
    (then-more (λ ds. view c.in_ok-roots.roots.now ∷ ds) _ _ _ (c.in_ok-roots.ensures after_roots)
    (then-more (λ ds. view c.in_ok-rows.rows.now ∷ ds) _ _ _ (c.in_ok-rows.ensures after_rows)
    (then-more (λ ds. view c.in_ok-version.version.now ∷ ds) _ _ _ (c.in_ok-version.ensures after_version)
    c.if-not-is_over.ensures)))))))
    ∙ by-format (view c.in_ok-after.after.now) (view c.in_ok-bits.bits.now) (view c.in_ok-format.format.now) (view c.in_ok-history.history.now) (view c.in_ok-roots.roots.now) (view c.in_ok-rows.rows.now) (view c.in_ok-version.version.now) c.in_ok-as_str.field-0.now c.in_ok-as_str.ensures (sym c.if-is_part.ensures)

pub returns-else-is_part : goal.returns-else-is_part
returns-else-is_part c =
    by-values (view c.args.value.now) (members_view c.in_ok-as_object.field-0.now.entries) (members_view c.iter-members.result) (Some (found_values (view c.in_ok-after.after.now) (view c.in_ok-bits.bits.now) (view c.in_ok-format.format.now) (view c.in_ok-history.history.now) (view c.in_ok-roots.roots.now) (view c.in_ok-rows.rows.now) (view c.in_ok-version.version.now))) c.in_ok-as_object.ensures (ap members_view c.iter-members.ensures.rest)
    (then-more (λ ds. view c.in_ok-after.after.now ∷ ds) _ _ _ (c.in_ok-after.ensures after_after)
    (then-more (λ ds. view c.in_ok-bits.bits.now ∷ ds) _ _ _ (c.in_ok-bits.ensures after_bits)
    (then-more (λ ds. view c.in_ok-format.format.now ∷ ds) _ _ _ (c.in_ok-format.ensures after_format)
    (then-more (λ ds. view c.in_ok-history.history.now ∷ ds) _ _ _ (c.in_ok-history.ensures after_history)
    (then-more (λ ds. view c.in_ok-roots.roots.now ∷ ds) _ _ _ (c.in_ok-roots.ensures after_roots)
    (then-more (λ ds. view c.in_ok-rows.rows.now ∷ ds) _ _ _ (c.in_ok-rows.ensures after_rows)
    (then-more (λ ds. view c.in_ok-version.version.now ∷ ds) _ _ _ (c.in_ok-version.ensures after_version)
    c.if-not-is_over.ensures)))))))
    ∙ other-format (view c.in_ok-after.after.now) (view c.in_ok-bits.bits.now) (view c.in_ok-format.format.now) (view c.in_ok-history.history.now) (view c.in_ok-roots.roots.now) (view c.in_ok-rows.rows.now) (view c.in_ok-version.version.now) c.in_ok-as_str.field-0.now c.in_ok-as_str.ensures (sym c.if-is_part.ensures)
