use Rattle.std.proofs.Common.{◌≡◌, true, false, arith}
use Rattle.std.specs.Prelude.{nat_lt}
use Rattle.json.specs.Print.{escape_letter}
use Rattle.pool_text.proofs.TextLengths.{two-bytes, six-bytes, one-byte}
use Rattle.pool_text.proofs.lengths.escaped_length.Goals as goal

pub returns-then-has_letter : goal.returns-then-has_letter
returns-then-has_letter c = let h : nat_lt 0 (escape_letter c.args.byte) ≡ true = (let a = c.has_letter.ensures in let b = c.if-has_letter.true in cc) in two-bytes c.args.byte h

pub returns-then-byte-lt32 : goal.returns-then-byte-lt32
returns-then-byte-lt32 c = let h : nat_lt 0 (escape_letter c.args.byte) ≡ false = (let a = c.has_letter.ensures in let b = c.if-has_letter.false in cc) in six-bytes c.args.byte h (omega arith)

pub returns-else-byte-lt32 : goal.returns-else-byte-lt32
returns-else-byte-lt32 c = let h : nat_lt 0 (escape_letter c.args.byte) ≡ false = (let a = c.has_letter.ensures in let b = c.if-has_letter.false in cc) in one-byte c.args.byte h (omega arith)
