use Rattle.std.proofs.Common.{◌≡◌, map, ap, ◌∙◌}
use Rattle.serde_json.specs.View.{view}
use Rattle.pool_text.specs.Document.{list, naturals, row_value}
use Rattle.pool_text.proofs.DocumentRows.{map-forms}
use Rattle.pool_text.proofs.DocumentText.{document-from}
use Rattle.pool_text.proofs.written.into_json.Goals as goal

pub returns : goal.returns
returns c =
    let rows : view c.in_ok-rows.rows ≡ list (map row_value c.args.pool.rows) = c.in_ok-rows.ensures ∙ ap list (map-forms c.into_vec.result.items ∙ ap (map row_value) c.into_vec.ensures) in
    let roots : view c.in_ok-roots.roots ≡ naturals c.args.pool.roots = c.in_ok-roots.ensures ∙ ap naturals c.as_slice.ensures in
    record { value = c.in_ok-document_value.ensures ∙ document-from c.args.pool (view c.in_ok-roots.roots) (view c.in_ok-rows.rows) roots rows }
