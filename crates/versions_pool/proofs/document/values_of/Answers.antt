use Rattle.std.proofs.Common.{◌∙◌, List, [], ◌∷◌, None, Some, ap, sym}
use Rattle.std.specs.Prelude.{codes}
use Rattle.serde_json.specs.View.{view, members_view}
use Rattle.pool_text.specs.Rows.{Bytes}
use Rattle.pool_text.proofs.PartsRead.{then-more, no-answer}
use Rattle.versions_pool.proofs.SavedRead.{by-values, found_values, by-format, no-format, other-format}
use Rattle.versions_pool.proofs.document.values_of.Goals as goal

-- the keys that come after one
abbrev after_version : List Bytes
after_version = []

abbrev after_rows : List Bytes
after_rows = codes "version" ∷ after_version

abbrev after_roots : List Bytes
after_roots = codes "rows" ∷ after_rows

abbrev after_names : List Bytes
after_names = codes "roots" ∷ after_roots

abbrev after_format : List Bytes
after_format = codes "names" ∷ after_names

pub returns-in_err-found : goal.returns-in_err-found
returns-in_err-found c =
    by-values c.args.format.now (view c.args.value.now) (members_view c.in_ok-as_object.field-0.now.entries) (members_view c.iter-members.result) None c.in_ok-as_object.ensures (ap members_view c.iter-members.ensures.rest)
    (c.in_err-found.ensures after_format)
    ∙ no-answer _ _ c.from_residual-in_err-found.ensures

pub returns-in_err-names : goal.returns-in_err-names
returns-in_err-names c =
    by-values c.args.format.now (view c.args.value.now) (members_view c.in_ok-as_object.field-0.now.entries) (members_view c.iter-members.result) None c.in_ok-as_object.ensures (ap members_view c.iter-members.ensures.rest)
    (then-more (λ ds. view c.in_ok-found.found.now ∷ ds) _ _ _ (c.in_ok-found.ensures after_format)
    (c.in_err-names.ensures after_names))
    ∙ no-answer _ _ c.from_residual-in_err-names.ensures

pub returns-in_err-roots : goal.returns-in_err-roots
returns-in_err-roots c =
    by-values c.args.format.now (view c.args.value.now) (members_view c.in_ok-as_object.field-0.now.entries) (members_view c.iter-members.result) None c.in_ok-as_object.ensures (ap members_view c.iter-members.ensures.rest)
    (then-more (λ ds. view c.in_ok-found.found.now ∷ ds) _ _ _ (c.in_ok-found.ensures after_format)
    (then-more (λ ds. view c.in_ok-names.names.now ∷ ds) _ _ _ (c.in_ok-names.ensures after_names)
    (c.in_err-roots.ensures after_roots)))
    ∙ no-answer _ _ c.from_residual-in_err-roots.ensures

pub returns-in_err-rows : goal.returns-in_err-rows
returns-in_err-rows c =
    by-values c.args.format.now (view c.args.value.now) (members_view c.in_ok-as_object.field-0.now.entries) (members_view c.iter-members.result) None c.in_ok-as_object.ensures (ap members_view c.iter-members.ensures.rest)
    (then-more (λ ds. view c.in_ok-found.found.now ∷ ds) _ _ _ (c.in_ok-found.ensures after_format)
    (then-more (λ ds. view c.in_ok-names.names.now ∷ ds) _ _ _ (c.in_ok-names.ensures after_names)
    (then-more (λ ds. view c.in_ok-roots.roots.now ∷ ds) _ _ _ (c.in_ok-roots.ensures after_roots)
    (c.in_err-rows.ensures after_rows))))
    ∙ no-answer _ _ c.from_residual-in_err-rows.ensures

pub returns-in_err-version : goal.returns-in_err-version
returns-in_err-version c =
    by-values c.args.format.now (view c.args.value.now) (members_view c.in_ok-as_object.field-0.now.entries) (members_view c.iter-members.result) None c.in_ok-as_object.ensures (ap members_view c.iter-members.ensures.rest)
    (then-more (λ ds. view c.in_ok-found.found.now ∷ ds) _ _ _ (c.in_ok-found.ensures after_format)
    (then-more (λ ds. view c.in_ok-names.names.now ∷ ds) _ _ _ (c.in_ok-names.ensures after_names)
    (then-more (λ ds. view c.in_ok-roots.roots.now ∷ ds) _ _ _ (c.in_ok-roots.ensures after_roots)
    (then-more (λ ds. view c.in_ok-rows.rows.now ∷ ds) _ _ _ (c.in_ok-rows.ensures after_rows)
    (c.in_err-version.ensures after_version)))))
    ∙ no-answer _ _ c.from_residual-in_err-version.ensures

pub returns-then-not-is_over : goal.returns-then-not-is_over
returns-then-not-is_over c =
    by-values c.args.format.now (view c.args.value.now) (members_view c.in_ok-as_object.field-0.now.entries) (members_view c.iter-members.result) None c.in_ok-as_object.ensures (ap members_view c.iter-members.ensures.rest)
    (then-more (λ ds. view c.in_ok-found.found.now ∷ ds) _ _ _ (c.in_ok-found.ensures after_format)
    (then-more (λ ds. view c.in_ok-names.names.now ∷ ds) _ _ _ (c.in_ok-names.ensures after_names)
    (then-more (λ ds. view c.in_ok-roots.roots.now ∷ ds) _ _ _ (c.in_ok-roots.ensures after_roots)
    (then-more (λ ds. view c.in_ok-rows.rows.now ∷ ds) _ _ _ (c.in_ok-rows.ensures after_rows)
    (then-more (λ ds. view c.in_ok-version.version.now ∷ ds) _ _ _ (c.in_ok-version.ensures after_version)
    c.if-not-is_over.ensures)))))

pub returns-in_err-as_str : goal.returns-in_err-as_str
returns-in_err-as_str c =
    by-values c.args.format.now (view c.args.value.now) (members_view c.in_ok-as_object.field-0.now.entries) (members_view c.iter-members.result) (Some (found_values c.args.format.now (view c.in_ok-found.found.now) (view c.in_ok-names.names.now) (view c.in_ok-roots.roots.now) (view c.in_ok-rows.rows.now) (view c.in_ok-version.version.now))) c.in_ok-as_object.ensures (ap members_view c.iter-members.ensures.rest)
    (then-more (λ ds. view c.in_ok-found.found.now ∷ ds) _ _ _ (c.in_ok-found.ensures after_format)
    (then-more (λ ds. view c.in_ok-names.names.now ∷ ds) _ _ _ (c.in_ok-names.ensures after_names)
    (then-more (λ ds. view c.in_ok-roots.roots.now ∷ ds) _ _ _ (c.in_ok-roots.ensures after_roots)
    (then-more (λ ds. view c.in_ok-rows.rows.now ∷ ds) _ _ _ (c.in_ok-rows.ensures after_rows)
    (then-more (λ ds. view c.in_ok-version.version.now ∷ ds) _ _ _ (c.in_ok-version.ensures after_version)
    c.if-not-is_over.ensures)))))
    ∙ no-format c.args.format.now (view c.in_ok-found.found.now) (view c.in_ok-names.names.now) (view c.in_ok-roots.roots.now) (view c.in_ok-rows.rows.now) (view c.in_ok-version.version.now) c.in_err-as_str.ensures
    ∙ no-answer _ _ c.from_residual-in_err-as_str.ensures

pub returns-then-is_same_text : goal.returns-then-is_same_text
returns-then-is_same_text c =
    by-values c.args.format.now (view c.args.value.now) (members_view c.in_ok-as_object.field-0.now.entries) (members_view c.iter-members.result) (Some (found_values c.args.format.now (view c.in_ok-found.found.now) (view c.in_ok-names.names.now) (view c.in_ok-roots.roots.now) (view c.in_ok-rows.rows.now) (view c.in_ok-version.version.now))) c.in_ok-as_object.ensures (ap members_view c.iter-members.ensures.rest)
    (then-more (λ ds. view c.in_ok-found.found.now ∷ ds) _ _ _ (c.in_ok-found.ensures after_format)
    (then-more (λ ds. view c.in_ok-names.names.now ∷ ds) _ _ _ (c.in_ok-names.ensures after_names)
    (then-more (λ ds. view c.in_ok-roots.roots.now ∷ ds) _ _ _ (c.in_ok-roots.ensures after_roots)
    (then-more (λ ds. view c.in_ok-rows.rows.now ∷ ds) _ _ _ (c.in_ok-rows.ensures after_rows)
    (then-more (λ ds. view c.in_ok-version.version.now ∷ ds) _ _ _ (c.in_ok-version.ensures after_version)
    c.if-not-is_over.ensures)))))
    ∙ by-format c.args.format.now (view c.in_ok-found.found.now) (view c.in_ok-names.names.now) (view c.in_ok-roots.roots.now) (view c.in_ok-rows.rows.now) (view c.in_ok-version.version.now) c.in_ok-as_str.field-0.now c.in_ok-as_str.ensures (sym c.if-is_same_text.ensures)

pub returns-else-is_same_text : goal.returns-else-is_same_text
returns-else-is_same_text c =
    by-values c.args.format.now (view c.args.value.now) (members_view c.in_ok-as_object.field-0.now.entries) (members_view c.iter-members.result) (Some (found_values c.args.format.now (view c.in_ok-found.found.now) (view c.in_ok-names.names.now) (view c.in_ok-roots.roots.now) (view c.in_ok-rows.rows.now) (view c.in_ok-version.version.now))) c.in_ok-as_object.ensures (ap members_view c.iter-members.ensures.rest)
    (then-more (λ ds. view c.in_ok-found.found.now ∷ ds) _ _ _ (c.in_ok-found.ensures after_format)
    (then-more (λ ds. view c.in_ok-names.names.now ∷ ds) _ _ _ (c.in_ok-names.ensures after_names)
    (then-more (λ ds. view c.in_ok-roots.roots.now ∷ ds) _ _ _ (c.in_ok-roots.ensures after_roots)
    (then-more (λ ds. view c.in_ok-rows.rows.now ∷ ds) _ _ _ (c.in_ok-rows.ensures after_rows)
    (then-more (λ ds. view c.in_ok-version.version.now ∷ ds) _ _ _ (c.in_ok-version.ensures after_version)
    c.if-not-is_over.ensures)))))
    ∙ other-format c.args.format.now (view c.in_ok-found.found.now) (view c.in_ok-names.names.now) (view c.in_ok-roots.roots.now) (view c.in_ok-rows.rows.now) (view c.in_ok-version.version.now) c.in_ok-as_str.field-0.now c.in_ok-as_str.ensures (sym c.if-is_same_text.ensures)
