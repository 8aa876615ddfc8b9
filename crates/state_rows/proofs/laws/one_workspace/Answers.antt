use Rattle.std.proofs.Common.{sym, ◌∙◌}
use Rattle.rrb_core.specs.Seq.{IsWellShaped}
use Rattle.pool_text.specs.Pool.{forms_in}
use Rattle.state_rows.proofs.OneSpace.{one-space-by}
use Rattle.state_rows.proofs.laws.one_workspace.Goals as goal

pub returns : goal.returns
returns c rules P V W first second = one-space-by (forms_in P) (IsWellShaped (forms_in P)) P.bits rules P.roots V W (first.1 ∙ sym second.1) first.0 second.0
