use Rattle.std.proofs.Common.{◌≡◌, sym, ap, ◌∙◌, arith, Some}
use Rattle.node_heap.specs.Links.{count}
use Rattle.node_heap.specs.Forms.{links_of, node}
use Rattle.node_heap.specs.Layout.{graph_of}
use Rattle.node_heap.proofs.Added.{counted-joined}
use Rattle.node_heap.proofs.Copied.{AddsOwners, counted-added, live-linked, joins-copied, copies-joined, nodes-copied, cells-copied}
use Rattle.node_heap.proofs.heap.copied.Goals as goal

pub add_owners-requires-clause-live : goal.add_owners-requires-clause-live
add_owners-requires-clause-live g c l has =
    live-linked c.args.table.now.slots c.requires.counted c.args.place l (omega (arith, has, ap (λ r. count l (links_of r)) c.copy_node-head.ensures, ap (count l) c.as_slice-links.ensures.value))

pub returns : goal.returns
returns g c =
    let slots = c.args.table.now.slots in
    let put = c.put_node.ensures in
    let same : Some (node c.copy_node-head.result c.as_slice-links.result.now) ≡ graph_of slots c.args.place = rw c.as_slice-links.ensures.value (sym c.copy_node-head.ensures) in
    let adds : AddsOwners slots c.add_owners.new.self.slots (links_of (graph_of slots c.args.place)) =
    record { owners = rw (← ap links_of same) c.add_owners.ensures.owners; rows = c.add_owners.ensures.rows } in
    let joins = joins-copied slots _ _ c.args.place _ _ c.requires.counted adds put.puts same in
    record {
      copies = copies-joined slots _ _ _ _ _ adds put.puts same;
      counted = counted-joined (counted-added slots _ _ adds c.requires.counted) joins;
      cells = cells-copied slots _ _ _ _ _ adds put.puts same c.requires.node;
      nodes = nodes-copied slots _ _ _ _ _ adds put.puts same c.requires.node;
      len = omega (arith, put.puts.len, c.add_owners.ensures.room.len);
      spare_cells = put.spare_cells ∙ c.add_owners.ensures.room.spare_cells;
      spare_nodes = omega (arith, put.spare_nodes, c.add_owners.ensures.room.spare_nodes);
    }
