-- What slots end as, where their owners are lent.
use Rattle.std.specs.Prelude.{ℕ, Option}
use Rattle.std.specs.Mem.{FitsInMemory}
use Rattle.std.specs.Borrow.{Lends, Fml, RattleType, MutBor, usize}
use Rattle.node_heap.specs.Nodes.{NodeOf, owned_by}
use Rattle.node_heap.specs.Small.{CellOf, Lies, cell_owned_by}
use Rattle.node_heap.specs.contracts.slot_kinds.CellSlot as cell
use Rattle.node_heap.specs.contracts.slot_kinds.SmallSlot as small
use Rattle.node_heap.specs.contracts.slot_kinds.LargeSlot as large

abbrev pub LendsCellOwners : (T : RattleType) → MutBor (Option (CellOf T.Denot)) → MutBor ℕ → Fml
LendsCellOwners T slot r = Lends (cell.the_row T) usize slot r (λ n. cell_owned_by n slot.now)

abbrev pub LendsSmallOwners : (S N : RattleType) → MutBor (Option (NodeOf (Lies S.Denot))) → MutBor ℕ → Fml
LendsSmallOwners S N slot r = Lends (small.the_row S N) usize slot r (λ n. owned_by n slot.now)

abbrev pub LendsLargeOwners : (L : RattleType) → MutBor (Option (NodeOf L.Denot)) → MutBor ℕ → Fml
LendsLargeOwners L slot r = Lends (large.the_row L) usize slot r (λ n. owned_by n slot.now)

-- a small slot isn't too large for a pointer to tell its places apart
abbrev pub SmallSlotFits : (S N : RattleType) → Type 0
SmallSlotFits S N = FitsInMemory (small.the_row S N)
