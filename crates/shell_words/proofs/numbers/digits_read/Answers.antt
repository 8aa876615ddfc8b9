use Rattle.std.proofs.Common.{◌∙◌, slice_index, refl, sym, arith}
use Rattle.shell_words.proofs.NumberLemmas.{digit-more, value-more, past-most, none-left, all-read}
use Rattle.shell_words.proofs.numbers.digits_read.Goals as goal

pub loop-byte-preserved : goal.loop-byte-preserved
loop-byte-preserved c =
    let bytes = c.args.bytes.now in
    let at = c.loop-byte.byte-index in
    let byte = slice_index bytes at in
    let read = c.in_ok-number.ensures.read in
    record {
      digits = c.loop-byte.invariant.digits ∙ digit-more bytes at byte (omega arith) refl read.0;
      value = c.loop-byte.invariant.value ∙ value-more bytes at byte c.loop-byte.number c.in_ok-number.number (omega arith) refl read.0 read.1;
      small = c.in_ok-number.ensures.bound;
    }

pub returns-in_err-number-clause-none : goal.returns-in_err-number-clause-none
returns-in_err-number-clause-none c =
    let bytes = c.args.bytes.now in
    let at = c.loop-byte.byte-index in
    rw c.from_residual.ensures (λ digits. past-most bytes at (slice_index bytes at) c.loop-byte.number c.args.most (omega arith) refl (sym c.loop-byte.invariant.digits ∙ digits) c.loop-byte.invariant.value c.in_err-number.ensures.none)

pub returns-clause-read : goal.returns-clause-read
returns-clause-read c =
    let left = none-left c.args.bytes.now c.loop-byte.byte-index (omega arith) in
    all-read c.args.bytes.now c.loop-byte.byte-index c.loop-byte.number left c.loop-byte.invariant.digits c.loop-byte.invariant.value
