use Rattle.std.proofs.Common.{ap, sym, arith, length}
use Rattle.node_heap.proofs.table.Table.put_copied.Goals as goal

pub replace-requires : goal.replace-requires
replace-requires g c = omega (arith, c.requires.index, ap length c.row_links-links.ensures)

pub returns-clause-puts : goal.returns-clause-puts
returns-clause-puts g c = rw (sym c.row_links-links.ensures, sym c.replace.ensures, sym c.as_slice.ensures.value) c.put_node.ensures.puts
