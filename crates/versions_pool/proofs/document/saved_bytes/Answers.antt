use Rattle.std.proofs.Common.{◌≡◌, ◌∙◌}
use Rattle.serde_json.specs.View.{view}
use Rattle.versions_pool.specs.Saved.{saved_document}
use Rattle.versions_pool.specs.Seen.{saved_seen}
use Rattle.versions_pool.proofs.SavedText.{saved-written, saved-reads, document-from}
use Rattle.versions_pool.proofs.document.saved_bytes.Goals as goal

pub returns-clause-value : goal.returns-clause-value
returns-clause-value c =
    let s = saved_seen c.args.saved.now in
    let document_is : view c.in_ok-value.value ≡ saved_document c.args.format.now s = c.in_ok-value.ensures
    ∙ document-from c.args.format.now s c.as_slice.result.now c.as_slice-2.result.now c.as_slice-3.result.now c.as_slice.ensures c.as_slice-2.ensures c.as_slice-3.ensures _ _ _ c.in_ok-numbers_value.ensures c.in_ok-numbers_value-2.ensures c.in_ok-rows_value.ensures in
    saved-written c.args.format.now s (view c.in_ok-value.value) c.in_ok-to_vec.field-0.items document_is c.in_ok-to_vec.ensures.text

pub returns-clause-reads : goal.returns-clause-reads
returns-clause-reads c =
    let s = saved_seen c.args.saved.now in
    let document_is : view c.in_ok-value.value ≡ saved_document c.args.format.now s = c.in_ok-value.ensures
    ∙ document-from c.args.format.now s c.as_slice.result.now c.as_slice-2.result.now c.as_slice-3.result.now c.as_slice.ensures c.as_slice-2.ensures c.as_slice-3.ensures _ _ _ c.in_ok-numbers_value.ensures c.in_ok-numbers_value-2.ensures c.in_ok-rows_value.ensures in
    saved-reads c.args.format.now s (view c.in_ok-value.value) c.in_ok-to_vec.field-0.items document_is c.in_ok-to_vec.ensures.utf8 c.in_ok-to_vec.ensures.reads_back
