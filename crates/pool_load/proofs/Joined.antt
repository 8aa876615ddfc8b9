-- A row that came, held once, beside all that was there.
use Rattle.std.proofs.Common.{◌≡◌, ℕ, ◌+◌, List, [], length, sym, ◌∙◌, arith}
use Rattle.node_heap.specs.Forms.{cell, node}
use Rattle.node_heap.specs.declared.row.Head.{Head}
use Rattle.node_heap.specs.Heap.{Heap, hold_count, IsGraph}
use Rattle.node_heap.specs.Calls.{SameRows, Adds, Makes, Extends, Builds}
use Rattle.node_heap.proofs.Frames.{Extends-trans}
use Rattle.pool_load.specs.Making.{ComesBeside}

module _ {T : Type 0} {old new : Heap T} {link : ℕ} where
  pub joined-cell : {x : T} → Adds old new link (cell x) → Makes old new 1 0 → hold_count new ≡ hold_count old + 1 → IsGraph new → Extends old new → ComesBeside old new link (cell x)
  joined-cell adds makes count graph more = record {
    fresh = adds.fresh;
    here = adds.here;
    others = adds.others;
    holds = λ k. omega (arith, adds.holds k);
    count = count;
    makes = makes;
    graph = graph;
    extends = more;
  }

  -- a node whose links were held for it first
  pub joined-node : {mid : Heap T} {head : Head} {links : List ℕ} → SameRows old mid → Builds old mid [] links 0 0 → Adds mid new link (node head links) → Makes mid new 0 1 → hold_count new + length links ≡ hold_count mid + 1 → IsGraph new → Extends mid new
      → ComesBeside old new link (node head links)
  joined-node same held adds makes count graph more = record {
    fresh = sym (same link) ∙ adds.fresh;
    here = adds.here;
    others = λ k other. adds.others k other ∙ same k;
    holds = λ k. omega (arith, adds.holds k, held.holds k);
    count = omega (arith, count, held.total);
    makes = record {
      spare_cells = omega (arith, held.makes.spare_cells, held.few_cells, makes.spare_cells);
      spare_nodes = omega (arith, held.makes.spare_nodes, held.few_nodes, makes.spare_nodes);
      cells = omega (arith, held.makes.cells, held.few_cells, makes.cells);
      nodes = omega (arith, held.makes.nodes, held.few_nodes, makes.nodes);
      live = omega (arith, held.makes.live, held.few_cells, held.few_nodes, makes.live);
      made = omega (arith, held.makes.made, held.few_cells, held.few_nodes, makes.made);
      no_fewer = omega (arith, held.makes.no_fewer, makes.no_fewer);
    };
    graph = graph;
    extends = Extends-trans held.extends more;
  }
