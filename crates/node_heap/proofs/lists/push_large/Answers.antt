use Rattle.std.proofs.Common.{arith, [], None}
use Rattle.std.proofs.lemmas.List.{set_at}
use Rattle.node_heap.proofs.lists.push_large.Goals as goal

pub index_mut-requires : goal.index_mut-requires
index_mut-requires g c = omega (arith, c.push_reserved.ensures.len, c.len-place.ensures)

pub returns-clause-items : goal.returns-clause-items
returns-clause-items g c =
    rw (c.fill.ensures, c.push_reserved.ensures.items, c.blank.ensures) (set_at c.args.large.now.items None [] _ c.len-place.result (omega (arith, c.len-place.ensures, c.args.large.now.ok.0)))
