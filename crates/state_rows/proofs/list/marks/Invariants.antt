use Rattle.std.specs.List.{AllZip}
use Rattle.state_rows.specs.Listing.{shown_text, IsEntryAt}
use Rattle.state_rows.proofs.list.marks.Given as goal

abbrev pub invariant-loop-entry : goal.invariant-loop-entry
invariant-loop-entry l = AllZip (λ k name. IsEntryAt l.heap k (shown_text name)) l.yielded l.listed.items
