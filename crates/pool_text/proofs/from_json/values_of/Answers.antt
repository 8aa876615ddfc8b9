use Rattle.std.proofs.Common.{◌∙◌, List, [], ◌∷◌, None, Some, ap, sym}
use Rattle.std.specs.Prelude.{codes, option_map}
use Rattle.serde_json.specs.View.{view, members_view}
use Rattle.pool_text.specs.Rows.{Bytes}
use Rattle.pool_text.specs.Parsing.{with_history}
use Rattle.pool_text.proofs.PartsRead.{by-values, then-more, both-more, neither, no-answer, found_values, by-format, no-format, other-format}
use Rattle.pool_text.proofs.from_json.values_of.Goals as goal

-- the keys that come after one: of a document, and of an older one
abbrev after_rows : List Bytes
after_rows = codes "version" ∷ []

abbrev after_roots : List Bytes
after_roots = codes "rows" ∷ after_rows

abbrev older_after_format : List Bytes
older_after_format = codes "roots" ∷ after_roots

abbrev after_format : List Bytes
after_format = codes "history" ∷ older_after_format

abbrev older_after_bits : List Bytes
older_after_bits = codes "format" ∷ older_after_format

abbrev after_bits : List Bytes
after_bits = codes "format" ∷ after_format

pub returns-in_err-bits : goal.returns-in_err-bits
returns-in_err-bits c =
    by-values (view c.args.value.now) (members_view c.in_ok-as_object.field-0.now.entries) (members_view c.iter-members.result) None c.in_ok-as_object.ensures (ap members_view c.iter-members.ensures.rest)
    (neither _ _ (c.in_err-bits.ensures after_bits) (c.in_err-bits.ensures older_after_bits))
    ∙ no-answer _ _ c.from_residual-in_err-bits.ensures

pub returns-in_err-format : goal.returns-in_err-format
returns-in_err-format c =
    by-values (view c.args.value.now) (members_view c.in_ok-as_object.field-0.now.entries) (members_view c.iter-members.result) None c.in_ok-as_object.ensures (ap members_view c.iter-members.ensures.rest)
    (both-more (view c.in_ok-bits.bits.now) _ _ _ _ _ (c.in_ok-bits.ensures after_bits) (c.in_ok-bits.ensures older_after_bits)
    (neither _ _ (c.in_err-format.ensures after_format) (c.in_err-format.ensures older_after_format)))
    ∙ no-answer _ _ c.from_residual-in_err-format.ensures

pub returns-in_err-history : goal.returns-in_err-history
returns-in_err-history c =
    by-values (view c.args.value.now) (members_view c.in_ok-as_object.field-0.now.entries) (members_view c.iter-members.result) None c.in_ok-as_object.ensures (ap members_view c.iter-members.ensures.rest)
    (both-more (view c.in_ok-bits.bits.now) _ _ _ _ _ (c.in_ok-bits.ensures after_bits) (c.in_ok-bits.ensures older_after_bits)
    (both-more (view c.in_ok-format.format.now) _ _ _ _ _ (c.in_ok-format.ensures after_format) (c.in_ok-format.ensures older_after_format)
    (c.in_err-history.ensures after_roots)))
    ∙ no-answer _ _ c.from_residual-in_err-history.ensures

pub returns-in_err-rows : goal.returns-in_err-rows
returns-in_err-rows c =
    by-values (view c.args.value.now) (members_view c.in_ok-as_object.field-0.now.entries) (members_view c.iter-members.result) None c.in_ok-as_object.ensures (ap members_view c.iter-members.ensures.rest)
    (both-more (view c.in_ok-bits.bits.now) _ _ _ _ _ (c.in_ok-bits.ensures after_bits) (c.in_ok-bits.ensures older_after_bits)
    (both-more (view c.in_ok-format.format.now) _ _ _ _ _ (c.in_ok-format.ensures after_format) (c.in_ok-format.ensures older_after_format)
    (then-more (λ ds. with_history (option_map (λ h. view h.now) c.in_ok-history.history) (view c.in_ok-history.roots.now ∷ ds)) _ _ _ (c.in_ok-history.ensures after_roots)
    (c.in_err-rows.ensures after_rows))))
    ∙ no-answer _ _ c.from_residual-in_err-rows.ensures

pub returns-in_err-version : goal.returns-in_err-version
returns-in_err-version c =
    by-values (view c.args.value.now) (members_view c.in_ok-as_object.field-0.now.entries) (members_view c.iter-members.result) None c.in_ok-as_object.ensures (ap members_view c.iter-members.ensures.rest)
    (both-more (view c.in_ok-bits.bits.now) _ _ _ _ _ (c.in_ok-bits.ensures after_bits) (c.in_ok-bits.ensures older_after_bits)
    (both-more (view c.in_ok-format.format.now) _ _ _ _ _ (c.in_ok-format.ensures after_format) (c.in_ok-format.ensures older_after_format)
    (then-more (λ ds. with_history (option_map (λ h. view h.now) c.in_ok-history.history) (view c.in_ok-history.roots.now ∷ ds)) _ _ _ (c.in_ok-history.ensures after_roots)
    (then-more (λ ds. view c.in_ok-rows.rows.now ∷ ds) _ _ _ (c.in_ok-rows.ensures after_rows)
    (c.in_err-version.ensures [])))))
    ∙ no-answer _ _ c.from_residual-in_err-version.ensures

pub returns-then-not-is_over : goal.returns-then-not-is_over
returns-then-not-is_over c =
    by-values (view c.args.value.now) (members_view c.in_ok-as_object.field-0.now.entries) (members_view c.iter-members.result) None c.in_ok-as_object.ensures (ap members_view c.iter-members.ensures.rest)
    (both-more (view c.in_ok-bits.bits.now) _ _ _ _ _ (c.in_ok-bits.ensures after_bits) (c.in_ok-bits.ensures older_after_bits)
    (both-more (view c.in_ok-format.format.now) _ _ _ _ _ (c.in_ok-format.ensures after_format) (c.in_ok-format.ensures older_after_format)
    (then-more (λ ds. with_history (option_map (λ h. view h.now) c.in_ok-history.history) (view c.in_ok-history.roots.now ∷ ds)) _ _ _ (c.in_ok-history.ensures after_roots)
    (then-more (λ ds. view c.in_ok-rows.rows.now ∷ ds) _ _ _ (c.in_ok-rows.ensures after_rows)
    (then-more (λ ds. view c.in_ok-version.version.now ∷ ds) _ _ _ (c.in_ok-version.ensures [])
    (c.if-not-is_over.ensures))))))

pub returns-in_err-as_str : goal.returns-in_err-as_str
returns-in_err-as_str c =
    by-values (view c.args.value.now) (members_view c.in_ok-as_object.field-0.now.entries) (members_view c.iter-members.result) (Some (found_values (view c.in_ok-bits.bits.now) (view c.in_ok-format.format.now) (option_map (λ h. view h.now) c.in_ok-history.history) (view c.in_ok-history.roots.now) (view c.in_ok-rows.rows.now) (view c.in_ok-version.version.now))) c.in_ok-as_object.ensures (ap members_view c.iter-members.ensures.rest)
    (both-more (view c.in_ok-bits.bits.now) _ _ _ _ _ (c.in_ok-bits.ensures after_bits) (c.in_ok-bits.ensures older_after_bits)
    (both-more (view c.in_ok-format.format.now) _ _ _ _ _ (c.in_ok-format.ensures after_format) (c.in_ok-format.ensures older_after_format)
    (then-more (λ ds. with_history (option_map (λ h. view h.now) c.in_ok-history.history) (view c.in_ok-history.roots.now ∷ ds)) _ _ _ (c.in_ok-history.ensures after_roots)
    (then-more (λ ds. view c.in_ok-rows.rows.now ∷ ds) _ _ _ (c.in_ok-rows.ensures after_rows)
    (then-more (λ ds. view c.in_ok-version.version.now ∷ ds) _ _ _ (c.in_ok-version.ensures [])
    (c.if-not-is_over.ensures))))))
    ∙ no-format (view c.in_ok-bits.bits.now) (view c.in_ok-format.format.now) (option_map (λ h. view h.now) c.in_ok-history.history) (view c.in_ok-history.roots.now) (view c.in_ok-rows.rows.now) (view c.in_ok-version.version.now) c.in_err-as_str.ensures
    ∙ no-answer _ _ c.from_residual-in_err-as_str.ensures

pub returns-then-is_pool : goal.returns-then-is_pool
returns-then-is_pool c =
    by-values (view c.args.value.now) (members_view c.in_ok-as_object.field-0.now.entries) (members_view c.iter-members.result) (Some (found_values (view c.in_ok-bits.bits.now) (view c.in_ok-format.format.now) (option_map (λ h. view h.now) c.in_ok-history.history) (view c.in_ok-history.roots.now) (view c.in_ok-rows.rows.now) (view c.in_ok-version.version.now))) c.in_ok-as_object.ensures (ap members_view c.iter-members.ensures.rest)
    (both-more (view c.in_ok-bits.bits.now) _ _ _ _ _ (c.in_ok-bits.ensures after_bits) (c.in_ok-bits.ensures older_after_bits)
    (both-more (view c.in_ok-format.format.now) _ _ _ _ _ (c.in_ok-format.ensures after_format) (c.in_ok-format.ensures older_after_format)
    (then-more (λ ds. with_history (option_map (λ h. view h.now) c.in_ok-history.history) (view c.in_ok-history.roots.now ∷ ds)) _ _ _ (c.in_ok-history.ensures after_roots)
    (then-more (λ ds. view c.in_ok-rows.rows.now ∷ ds) _ _ _ (c.in_ok-rows.ensures after_rows)
    (then-more (λ ds. view c.in_ok-version.version.now ∷ ds) _ _ _ (c.in_ok-version.ensures [])
    (c.if-not-is_over.ensures))))))
    ∙ by-format (view c.in_ok-bits.bits.now) (view c.in_ok-format.format.now) (option_map (λ h. view h.now) c.in_ok-history.history) (view c.in_ok-history.roots.now) (view c.in_ok-rows.rows.now) (view c.in_ok-version.version.now) c.in_ok-as_str.field-0.now c.in_ok-as_str.ensures (sym c.if-is_pool.ensures)

pub returns-else-is_pool : goal.returns-else-is_pool
returns-else-is_pool c =
    by-values (view c.args.value.now) (members_view c.in_ok-as_object.field-0.now.entries) (members_view c.iter-members.result) (Some (found_values (view c.in_ok-bits.bits.now) (view c.in_ok-format.format.now) (option_map (λ h. view h.now) c.in_ok-history.history) (view c.in_ok-history.roots.now) (view c.in_ok-rows.rows.now) (view c.in_ok-version.version.now))) c.in_ok-as_object.ensures (ap members_view c.iter-members.ensures.rest)
    (both-more (view c.in_ok-bits.bits.now) _ _ _ _ _ (c.in_ok-bits.ensures after_bits) (c.in_ok-bits.ensures older_after_bits)
    (both-more (view c.in_ok-format.format.now) _ _ _ _ _ (c.in_ok-format.ensures after_format) (c.in_ok-format.ensures older_after_format)
    (then-more (λ ds. with_history (option_map (λ h. view h.now) c.in_ok-history.history) (view c.in_ok-history.roots.now ∷ ds)) _ _ _ (c.in_ok-history.ensures after_roots)
    (then-more (λ ds. view c.in_ok-rows.rows.now ∷ ds) _ _ _ (c.in_ok-rows.ensures after_rows)
    (then-more (λ ds. view c.in_ok-version.version.now ∷ ds) _ _ _ (c.in_ok-version.ensures [])
    (c.if-not-is_over.ensures))))))
    ∙ other-format (view c.in_ok-bits.bits.now) (view c.in_ok-format.format.now) (option_map (λ h. view h.now) c.in_ok-history.history) (view c.in_ok-history.roots.now) (view c.in_ok-rows.rows.now) (view c.in_ok-version.version.now) c.in_ok-as_str.field-0.now c.in_ok-as_str.ensures (sym c.if-is_pool.ensures)
