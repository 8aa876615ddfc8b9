use Rattle.std.proofs.Common.{◌≡◌, ℕ, ◌+◌, ◌-◌, ◌≤◌, List}
use Rattle.elem_core.specs.Shown.{name_bytes}
use Rattle.shell_io.specs.Fault.{Calls}
use Rattle.ewig_shell.specs.Step.{given, chain_names, most_stored}
use Rattle.ewig_shell.specs.Chaining.{IsReadAs, AreFetched}
use Rattle.ewig_shell.proofs.ChainLemmas.{total}
use Rattle.ewig_shell.proofs.chained.chain_of.Given as goal

-- the first files were taken, and read as a chain, and no call of the store failed
abbrev pub invariant-loop-number : goal.invariant-loop-number
invariant-loop-number g l = record {
  files : List (List ℕ);
  fetched : AreFetched (g.D.Store.held l.fn.store) (chain_names (name_bytes l.file) l.number) (given files);
  left : l.room + total files ≡ most_stored;
  read : IsReadAs l.bits files l.found;
  same : g.D.Store.held l.store ≡ g.D.Store.held l.fn.store;
  calls : Calls g.D.Store.faults g.D.Store.steady g.D.Store.faultless l.fn.store l.store ⊥;
  some : 1 ≤ l.number;
  few : l.number ≤ l.count;
}

abbrev pub decreases-loop-number : goal.decreases-loop-number
decreases-loop-number g l = l.count - l.number
