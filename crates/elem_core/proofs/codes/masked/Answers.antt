use Rattle.std.proofs.Common.{arith, refl}
use Rattle.std.proofs.lemmas.Nat.{one_shl, and_mask}
use Rattle.elem_core.proofs.codes.masked.Goals as goal

pub returns-else-bits-eq-CODE_BITS-clause-kept : goal.returns-else-bits-eq-CODE_BITS-clause-kept
returns-else-bits-eq-CODE_BITS-clause-kept c =
    rw (one_shl c.args.bits 64 (omega arith), and_mask c.args.code c.args.bits) refl
