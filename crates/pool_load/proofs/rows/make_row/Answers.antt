use Rattle.std.proofs.Common.{◌≡◌, length, Some, ap, sym, subst, ◌∙◌}
use Rattle.std.specs.Prelude.{slice_index}
use Rattle.node_heap.specs.Forms.{cell, links_of}
use Rattle.pool_text.specs.Rows.{row_form}
use Rattle.pool_text.specs.Pool.{relink}
use Rattle.pool_load.specs.Making.{ArePlacesBelow}
use Rattle.pool_load.proofs.Joined.{joined-cell}
use Rattle.pool_load.proofs.Places.{below-wider}
use Rattle.pool_load.proofs.Valued.{cell-valued, node-valued}
use Rattle.pool_load.proofs.rows.make_row.Goals as goal

pub inner_sums-sums-requires-clause-places : goal.inner_sums-sums-requires-clause-places
inner_sums-sums-requires-clause-places g c =
    let places = c.as_slice-in-Inner.result.now in
    let same : links_of (Some (row_form c.args.row)) ≡ places = ap (λ r. links_of (Some (row_form r))) c.in-Inner.is ∙ sym c.as_slice-in-Inner.ensures in
    below-wider (length c.args.links.now) (length c.args.lengths.now) places c.requires.known (subst (ArePlacesBelow (length c.args.links.now)) same c.requires.below)

pub returns-in-Cell-clause-made : goal.returns-in-Cell-clause-made
returns-in-Cell-clause-made g c = record {
  row = cell c.value.result;
  comes = joined-cell c.cell.ensures.adds c.cell.ensures.makes c.cell.ensures.count c.cell.ensures.graph c.cell.ensures.extends;
  stands = ap cell (c.value.ensures.kept ∙ c.into_text.ensures) ∙ sym (ap (λ r. relink (slice_index c.args.links.now) (row_form r)) c.in-Cell.is);
  sums = rw c.in-Cell.is tt;
}

pub returns-in-Cell-clause-valued : goal.returns-in-Cell-clause-valued
returns-in-Cell-clause-valued g c =
    let made : c.value.result ≡ g.C.CellValues.value_at c.args.values.now (length c.args.links.now) (g.C.CellValues.bytes_of c.value.result) =
    c.value.ensures.read ∙ ap (g.C.CellValues.value_at c.args.values.now (length c.args.links.now)) (sym c.value.ensures.kept) in
    cell-valued g.C.CellValues.bytes_of (g.C.CellValues.value_at c.args.values.now (length c.args.links.now)) c.cell.new.self c.cell.result c.value.result c.cell.ensures.adds.here made

pub returns-in-Leaf-clause-valued : goal.returns-in-Leaf-clause-valued
returns-in-Leaf-clause-valued g c = node-valued g.C.CellValues.bytes_of (g.C.CellValues.value_at c.args.values.now (length c.args.links.now)) c.make_node.ensures

pub returns-in-Inner-clause-valued : goal.returns-in-Inner-clause-valued
returns-in-Inner-clause-valued g c = node-valued g.C.CellValues.bytes_of (g.C.CellValues.value_at c.args.values.now (length c.args.links.now)) c.make_node-in-Inner.ensures

pub returns-in-Trie-clause-valued : goal.returns-in-Trie-clause-valued
returns-in-Trie-clause-valued g c = node-valued g.C.CellValues.bytes_of (g.C.CellValues.value_at c.args.values.now (length c.args.links.now)) c.make_node-in-Trie.ensures

pub returns-in-Chain-clause-valued : goal.returns-in-Chain-clause-valued
returns-in-Chain-clause-valued g c = node-valued g.C.CellValues.bytes_of (g.C.CellValues.value_at c.args.values.now (length c.args.links.now)) c.make_node-in-Chain.ensures

pub returns-in-Pair-clause-valued : goal.returns-in-Pair-clause-valued
returns-in-Pair-clause-valued g c = node-valued g.C.CellValues.bytes_of (g.C.CellValues.value_at c.args.values.now (length c.args.links.now)) c.make_node-in-Pair.ensures

pub returns-in-State-clause-valued : goal.returns-in-State-clause-valued
returns-in-State-clause-valued g c = node-valued g.C.CellValues.bytes_of (g.C.CellValues.value_at c.args.values.now (length c.args.links.now)) c.make_node-in-State.ensures
