use Rattle.std.proofs.Common.{◌+◌, List, ℕ, length, ap, sym, ◌∙◌, arith}
use Rattle.std.specs.Prelude.{sum_by}
use Rattle.json.specs.Print.{escape_byte}
use Rattle.pool_text.specs.Length.{capped}
use Rattle.pool_text.proofs.Gathered.{take_all}
use Rattle.pool_text.proofs.TextLengths.{quoted-length}
use Rattle.pool_text.proofs.lengths.quoted_length.Goals as goal

pub returns : goal.returns
returns c =
    c.loop-byte.invariant
    ∙ ap (λ (xs : List ℕ). capped (2 + sum_by (λ b. length (escape_byte b)) xs)) (take_all c.args.text.now c.loop-byte.byte-index (omega (arith, ap length c.as_bytes-byte-items.ensures.value)))
    ∙ ap capped (sym (quoted-length c.args.text.now))
