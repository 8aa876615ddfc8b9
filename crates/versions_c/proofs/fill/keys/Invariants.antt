use Rattle.std.proofs.Common.{◌≡◌, List, ◌++◌, length}
use Rattle.versions_c.specs.declared.value.Value.{Value}
use Rattle.versions_c.specs.Shown.{StandBefore}
use Rattle.versions_c.proofs.fill.keys.Given as goal

abbrev pub invariant-loop-key : goal.invariant-loop-key
invariant-loop-key l =
    record {
      stand : (xs : List Value) × (l.initial.key-iterator ≡ xs ++ l.key-iterator) × StandBefore xs l.at l.forms l.room;
      forms : length l.forms ≡ length l.initial.forms;
      room : length l.room ≡ length l.initial.room;
    }
