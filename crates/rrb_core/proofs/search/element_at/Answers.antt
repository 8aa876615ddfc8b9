use Rattle.std.proofs.Common.{arith, ◌≡◌, ◌-◌, ◌≤◌, ℕ, List, suc, length, ap, ◌∙◌, sym}
use Rattle.std.specs.List.{slice_get}
use Rattle.std.proofs.lemmas.Option.{slice_get_past}
use Rattle.node_heap.specs.Heap.{form_at}
use Rattle.rrb_core.specs.Seq.{seq_at}
use Rattle.rrb_core.specs.Vector.{height_at}
use Rattle.rrb_core.proofs.FillRule.{seq-leaf}
use Rattle.rrb_core.proofs.Stays.{well-live, links-form}
use Rattle.rrb_core.proofs.GetLemmas.{get-copied}
use Rattle.rrb_core.proofs.search.element_at.Goals as goal

pub height_of-height-requires : goal.height_of-height-requires
height_of-height-requires g c = well-live c.args.heap.now (height_at c.args.heap.now c.args.root) c.args.root c.requires.shape.well

pub returns-in_default-clause-value : goal.returns-in_default-clause-value
returns-in_default-clause-value g c =
    let down : suc (c.loop-height.height - 1) ≡ c.loop-height.height = omega arith in
    let past : length (seq_at (form_at c.args.heap.now) c.loop-height.height c.loop-height.link) ≤ c.loop-height.within = rw down at c.in_default.ensures.past in
    sym (c.loop-height.invariant.same ∙ slice_get_past (seq_at (form_at c.args.heap.now) c.loop-height.height c.loop-height.link) c.loop-height.within past)

pub links-requires : goal.links-requires
links-requires g c = well-live c.args.heap.now c.loop-height.height c.loop-height.link c.loop-height.invariant.well

pub returns-clause-value : goal.returns-clause-value
returns-clause-value g c =
    let is : c.links.result.now ≡ seq_at (form_at c.args.heap.now) c.loop-height.height c.loop-height.link = c.links.ensures.links ∙ sym (links-form c.args.heap.now c.loop-height.link) ∙ sym (seq-leaf (form_at c.args.heap.now) c.loop-height.height c.loop-height.link c.loop-height-test.false) in
    let read : c.copied.result ≡ slice_get c.links.result.now c.loop-height.within = c.copied.ensures ∙ get-copied c.links.result.now c.loop-height.within c.get.result c.get.ensures.lookup in
    read ∙ ap (λ (xs : List ℕ). slice_get xs c.loop-height.within) is ∙ sym c.loop-height.invariant.same
