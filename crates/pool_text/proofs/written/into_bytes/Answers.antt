use Rattle.serde_json.specs.View.{view}
use Rattle.pool_text.proofs.DocumentText.{document-written, document-read}
use Rattle.pool_text.proofs.written.into_bytes.Goals as goal

pub returns : goal.returns
returns c =
    let made = c.in_ok-into_json.field-0 in
    let bytes = c.in_ok-to_vec.field-0.items in
    record {
      value = document-written c.args.pool (view made) bytes c.in_ok-into_json.ensures.value c.in_ok-to_vec.ensures.text;
      reads = document-read c.args.pool (view made) bytes c.in_ok-into_json.ensures.value c.in_ok-to_vec.ensures.utf8 c.in_ok-to_vec.ensures.reads_back;
    }
