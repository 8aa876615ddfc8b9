use Rattle.std.proofs.Common.{◌≡◌, [], ◌∷◌}
use Rattle.node_heap.proofs.BuildLemmas.{Builds-hold, Builds-beside}
use Rattle.rrb_join.proofs.UnmadeLemmas.{two-pushed}
use Rattle.rrb_join.proofs.over.both_held.Given as given
use Rattle.rrb_join.proofs.over.both_held.Goals as goal

pushed : (g : given.Over) (c : goal.After-push-2 g) → c.push-2.new.self.items ≡ c.args.left ∷ c.args.right ∷ []
pushed g c = two-pushed c.new-both.result.items c.push.new.self.items c.push-2.new.self.items c.args.left c.args.right c.new-both.ensures c.push.ensures.items c.push-2.ensures.items

pub returns-clause-builds : goal.returns-clause-builds
returns-clause-builds g c =
    rw (pushed g c) (Builds-beside (Builds-hold c.hold.ensures.holds c.hold.ensures.makes c.hold.ensures.count c.hold.ensures.graph c.hold.ensures.extends) (Builds-hold c.hold-2.ensures.holds c.hold-2.ensures.makes c.hold-2.ensures.count c.hold-2.ensures.graph c.hold-2.ensures.extends))
