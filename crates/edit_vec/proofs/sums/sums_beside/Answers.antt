use Rattle.std.proofs.Common.{rules, arith, ◌≡◌, ◌+◌, ◌-◌, ◌<◌, ◌≤◌, ◌^◌, ◌++◌, ℕ, List, ◌∷◌, [], length, get_or, take, ap, ◌∙◌}
use Rattle.std.proofs.lemmas.Bool.Decides.{nat_tests}
use Rattle.node_heap.specs.Heap.{form_at, links_at}
use Rattle.rrb_core.specs.Seq.{seq_at}
use Rattle.rrb_core.specs.Vector.{KeepsSums}
use Rattle.rrb_core.proofs.Stays.{links-form}
use Rattle.rrb_core.proofs.BuildLemmas.{on-ok}
use Rattle.edit_vec.proofs.GrowLemmas.{size-sums, sum-all, keeps-next}
use Rattle.edit_vec.proofs.sums.sums_beside.Goals as goal

pub overflow_add-known : goal.overflow_add-known
overflow_add-known g c =
    let h = c.args.heap.now in
    let some : 1 ≤ length c.sums_of-known.result.now = grind (arith, nat_tests, c.if-is_empty.ensures) in
    let one : length (seq_at (form_at h) c.args.below (get_or (links_at h c.args.row) (length (links_at h c.args.row) - 1) 0)) ≡ 1 = rw links-form at c.requires.one in
    let kept : KeepsSums (form_at h) c.args.below (take (length (links_at h c.args.row) - 1) (links_at h c.args.row)) c.sums_of-known.result.now = rw c.sums_of-known.ensures c.requires.kept in
    let fits : get_or c.sums_of-known.result.now (length c.sums_of-known.result.now - 1) 0 + 1 < 2 ^ 32 = omega (arith, sum-all (form_at h) c.args.below (links_at h c.args.row) c.requires.two c.sums_of-known.result.now kept some one, c.requires.short) in
    search rules

pub returns : goal.returns
returns g c =
    let h = c.args.heap.now in
    let some : 1 ≤ length c.sums_of-known.result.now = grind (arith, nat_tests, c.if-is_empty.ensures) in
    let one : length (seq_at (form_at h) c.args.below (get_or (links_at h c.args.row) (length (links_at h c.args.row) - 1) 0)) ≡ 1 = rw links-form at c.requires.one in
    let kept : KeepsSums (form_at h) c.args.below (take (length (links_at h c.args.row) - 1) (links_at h c.args.row)) c.sums_of-known.result.now = rw c.sums_of-known.ensures c.requires.kept in
    let size = size-sums (form_at h) c.args.below (links_at h c.args.row) c.requires.two c.sums_of-known.result.now kept some one in
    let none = ap length c.new-sums.ensures in
    let front : c.try_extend_from_slice.new.self.items ≡ c.sums_of-known.result.now = on-ok c.try_extend_from_slice.result (c.try_extend_from_slice.ensures.variant.1 (omega (arith, size, none, c.requires.few))) c.try_extend_from_slice.ensures.ok ∙ ap (λ (xs : List ℕ). xs ++ c.sums_of-known.result.now) c.new-sums.ensures in
    let all = c.from_slice.ensures ∙ c.as_slice.ensures.value ∙ c.push.ensures.items ∙ ap (λ (xs : List ℕ). xs ++ (get_or c.sums_of-known.result.now (length c.sums_of-known.result.now - 1) 0 + 1) ∷ []) front in
    rw all (keeps-next (form_at h) c.args.below (links_at h c.args.row) c.requires.two c.sums_of-known.result.now kept some one)
