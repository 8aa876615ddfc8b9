use Rattle.std.proofs.Common.{◌≡◌, ◌≤◌, drop}
use Rattle.std.specs.Str.{all_ascii_digits}
use Rattle.std.specs.Str.Parse.{digits_value, digits_value_after}
use Rattle.shell_words.proofs.numbers.digits_read.Given as goal

-- the bytes so far are digits, and those that are left go on behind their number
abbrev pub invariant-loop-byte : goal.invariant-loop-byte
invariant-loop-byte l =
    record {
      digits : all_ascii_digits l.bytes ≡ all_ascii_digits (drop l.byte-index l.bytes);
      value : digits_value 10 l.bytes ≡ digits_value_after 10 l.number (drop l.byte-index l.bytes);
      small : l.number ≤ l.most;
    }
