use Rattle.std.proofs.Common.{arith, ◌≡◌, ℕ, length, ap, ◌∙◌}
use Rattle.std.proofs.lemmas.Slice.{take-put_mid}
use Rattle.node_heap.proofs.entry.RowLinks.rewrite.Goals as goal

pub returns : goal.returns
returns c =
    let n : ℕ = length c.args.links.now in
    let size : length c.copy_from_slice.new.self ≡ n = ap length c.copy_from_slice.ensures.after in
    take-put_mid 0 n c.self.inside.items c.copy_from_slice.new.self n (omega (arith, size)) (omega arith) ∙ c.copy_from_slice.ensures.after
