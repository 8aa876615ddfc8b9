use Rattle.std.proofs.Common.{List, ap, subst, sym, arith}
use Rattle.node_heap.specs.Pairs.{common_at, IsSharing}
use Rattle.node_heap.specs.declared.pairs.Pair.{Pair}
use Rattle.node_heap.proofs.MoreOwners.{live-more, owners-more}
use Rattle.node_heap.proofs.pairs.Shared.owners.Goals as goal

pub owners-requires : goal.owners-requires
owners-requires g c =
    let live = rw (← c.self.view_is) at c.requires.live in
    live-more (common_at c.self.inside.table.slots c.self.inside.pairs.items) c.self.inside.table.slots c.args.place live

pub left_out-requires-clause-sharing : goal.left_out-requires-clause-sharing
left_out-requires-clause-sharing g c = subst (λ (ps : List Pair). IsSharing c.self.inside.table.slots ps) (sym c.as_slice.ensures.value) c.self.invariant

pub left_out-requires-clause-fits : goal.left_out-requires-clause-fits
left_out-requires-clause-fits g c =
    let live = rw (← c.self.view_is) at c.requires.live in
    let room = rw (← c.self.view_is) at c.requires.room in
    let C = common_at c.self.inside.table.slots c.self.inside.pairs.items in
    omega (
      arith,
      room,
      owners-more C c.self.inside.table.slots c.args.place (live-more C c.self.inside.table.slots c.args.place live),
      ap (λ (ps : List Pair). common_at c.self.inside.table.slots ps c.args.place) c.as_slice.ensures.value,
    )

pub overflow_add-result : goal.overflow_add-result
overflow_add-result g c =
    let live = rw (← c.self.view_is) at c.requires.live in
    let room = rw (← c.self.view_is) at c.requires.room in
    let C = common_at c.self.inside.table.slots c.self.inside.pairs.items in
    omega (
      arith,
      room,
      c.owners.ensures,
      c.left_out.ensures,
      owners-more C c.self.inside.table.slots c.args.place (live-more C c.self.inside.table.slots c.args.place live),
      ap (λ (ps : List Pair). common_at c.self.inside.table.slots ps c.args.place) c.as_slice.ensures.value,
    )

pub returns : goal.returns
returns g c =
    let live = rw (← c.self.view_is) at c.requires.live in
    let C = common_at c.self.inside.table.slots c.self.inside.pairs.items in
    rw (← c.self.view_is)
    (omega (
      arith,
      c.owners.ensures,
      c.left_out.ensures,
      owners-more C c.self.inside.table.slots c.args.place (live-more C c.self.inside.table.slots c.args.place live),
      ap (λ (ps : List Pair). common_at c.self.inside.table.slots ps c.args.place) c.as_slice.ensures.value,
    ))
