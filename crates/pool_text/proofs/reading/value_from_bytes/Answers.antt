use Rattle.std.proofs.Common.{◌≡◌, true, refl}
use Rattle.std.proofs.lemmas.Str.{IsUtf8-from_is_utf8, is_utf8-from_IsUtf8}
use Rattle.serde_json.specs.View.{view}
use Rattle.pool_text.proofs.PoolRead.{value-read, no-value}
use Rattle.pool_text.proofs.reading.value_from_bytes.Goals as goal

pub returns-in-Ok : goal.returns-in-Ok
returns-in-Ok c = value-read c.args.bytes.now (view c.in-Ok.value) (is_utf8-from_IsUtf8 c.args.bytes.now c.in-Ok.ensures.ok.0) c.in-Ok.ensures.ok.1

pub returns-in-Err-2 : goal.returns-in-Err-2
returns-in-Err-2 c not_memory = (
  refl,
  no-value c.args.bytes.now
      (λ utf8. c.in-Err.ensures.err (λ memory. let said : c.is_memory.result ≡ true = c.is_memory.ensures.1 memory in let denied = c.if-is_memory.false in cc) (IsUtf8-from_is_utf8 c.args.bytes.now utf8)),
)
