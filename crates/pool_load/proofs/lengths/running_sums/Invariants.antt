use Rattle.std.proofs.Common.{◌≡◌, ◌+◌, ◌<◌, ℕ, length, take, slice_index}
use Rattle.pool_load.specs.Rows.{sum_over}
use Rattle.pool_load.proofs.lengths.running_sums.Given as goal

abbrev pub invariant-loop-place : goal.invariant-loop-place
invariant-loop-place l =
    record {
      count : length l.sums.items ≡ l.place-index;
      total : l.total ≡ sum_over l.lengths (take l.place-index l.places);
      each : (i : ℕ) → i < l.place-index → slice_index l.sums.items i ≡ sum_over l.lengths (take (i + 1) l.places);
    }
