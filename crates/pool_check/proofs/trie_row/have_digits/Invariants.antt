use Rattle.std.proofs.Common.{◌≡◌, ◌-◌, ◌≤◌, length, drop}
use Rattle.std.specs.Prelude.{nat_eq}
use Rattle.std.specs.List.{filter, range_with_len}
use lib.Pointwise.{pointwise}
use Rattle.elem_core.specs.Codes.{digit_at}
use Rattle.champ_trie.specs.Bits.{has}
use Rattle.pool_check.specs.Keeping.{digits_are}
use Rattle.pool_check.proofs.trie_row.have_digits.Given as goal

abbrev pub invariant-loop-position : goal.invariant-loop-position
invariant-loop-position l =
    (l.next ≤ length l.codes) × (digits_are l.depth l.set l.codes ≡ pointwise (λ p c. nat_eq (digit_at c l.depth) p) (filter (has l.set) (range_with_len l.position (32 - l.position))) (drop l.next l.codes))
