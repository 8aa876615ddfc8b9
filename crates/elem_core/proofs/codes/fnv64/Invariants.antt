use Rattle.std.proofs.Common.{◌≡◌, take}
use Rattle.elem_core.specs.Codes.{text_code}
use Rattle.elem_core.proofs.codes.fnv64.Given as goal

abbrev pub invariant-loop-byte : goal.invariant-loop-byte
invariant-loop-byte l = l.code ≡ text_code (take l.byte-index l.bytes)
