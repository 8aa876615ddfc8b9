use Rattle.std.specs.List.{AllZip}
use Rattle.state_rows.specs.Listing.{shown_size, IsSizeAt}
use Rattle.state_rows.proofs.list.names.Given as goal

abbrev pub invariant-loop-entry : goal.invariant-loop-entry
invariant-loop-entry l = AllZip (λ k size. IsSizeAt l.heap k (shown_size size)) l.yielded l.listed.items
