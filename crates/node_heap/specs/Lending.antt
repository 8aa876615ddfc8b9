-- What a table ends as, where a part of it is lent.
use Rattle.std.specs.Prelude.{ℕ}
use Rattle.std.specs.Borrow.{Lends, Fml, RattleType, MutBor, usize}
use Rattle.node_heap.specs.Layout.{Table, reown}
use Rattle.node_heap.specs.contracts.table.Table.{the_row}

module _ (T : RattleType) (table : MutBor (Table T.Denot)) (place : ℕ) where
  -- the row at the place has as many owners as r says last
  abbrev pub LendsOwners : MutBor ℕ → Fml
  LendsOwners r = Lends (the_row T) usize table r (λ n. record table.now { slots = reown table.now.slots place n })
