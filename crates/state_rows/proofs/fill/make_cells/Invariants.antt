use Rattle.std.proofs.Common.{◌≡◌, ◌≤◌, ℕ, [], length, vec_capacity}
use Rattle.node_heap.specs.Calls.{Builds}
use Rattle.state_rows.specs.InHeap.{AreTextsIn}
use Rattle.state_rows.proofs.fill.make_cells.Given as goal

abbrev pub invariant-loop-text : goal.invariant-loop-text
invariant-loop-text l =
    record {
      builds : Builds l.initial.heap l.heap [] l.links.items (length l.yielded) 0;
      count : length l.links.items ≡ length l.yielded;
      room : length l.fn.texts.items ≤ vec_capacity l.links;
      texts : (bits : ℕ) → AreTextsIn l.heap bits l.links.items l.yielded;
    }
