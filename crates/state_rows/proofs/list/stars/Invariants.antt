use Rattle.std.specs.List.{AllZip}
use Rattle.state_rows.specs.Listing.{shown_text, IsTextAt}
use Rattle.state_rows.proofs.list.stars.Given as goal

abbrev pub invariant-loop-cell : goal.invariant-loop-cell
invariant-loop-cell l = AllZip (λ k name. IsTextAt l.heap k (shown_text name)) l.yielded l.listed.items
