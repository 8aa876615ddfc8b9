use Rattle.std.proofs.Common.{◌≡◌, take}
use Rattle.elem_core.specs.Codes.{old_text_code}
use Rattle.elem_core.proofs.codes.fnv32.Given as goal

abbrev pub invariant-loop-byte : goal.invariant-loop-byte
invariant-loop-byte l = l.code ≡ old_text_code (take l.byte-index l.bytes)
