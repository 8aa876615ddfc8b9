use Rattle.std.proofs.Common.{arith, ℕ, ◌≡◌, ◌<◌, length, ap}
use Rattle.node_heap.specs.Heap.{form_at}
use Rattle.rrb_core.specs.Seq.{seq_at}
use Rattle.rrb_core.specs.Vector.{elements}
use Rattle.rrb_core.proofs.flex.FlexRef.is_past.Goals as goal

pub returns-then-from-size_before_last : goal.returns-then-from-size_before_last
returns-then-from-size_before_last g c =
    let tall : seq_at (form_at c.args.heap.now) c.height.result c.self.inside.root ≡ elements c.args.heap.now c.args.self.now = rw c.self.view_is (ap (λ (h : ℕ). seq_at (form_at c.args.heap.now) h c.args.self.now) c.height.ensures.value) in
    let inside : c.args.index < length (elements c.args.heap.now c.args.self.now) = omega (arith, ap length tall) in
    (λ yes. absurd cc, λ past. absurd (omega (arith, past, inside)))
