use Rattle.std.proofs.Common.{sym, subst}
use Rattle.rrb_core.specs.Vector.{IsGoodVector}
use Rattle.pool_tests.proofs.roots.text_at.Goals as goal

pub get-requires : goal.get-requires
get-requires c = subst (IsGoodVector c.args.heap.now) (sym c.at.ensures) c.requires
