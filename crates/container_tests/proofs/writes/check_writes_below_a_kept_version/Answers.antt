use Rattle.std.proofs.Common.{◌≡◌, ◌+◌, ◌<◌, ℕ, ap, ◌∙◌, refl, sym, subst, arith, inl, inr}
use Rattle.std.specs.Prelude.{slice_index}
use Rattle.std.proofs.lemmas.Bool.{cases_eq}
use Rattle.node_heap.specs.Forms.{links_of}
use Rattle.node_heap.specs.Heap.{Heap, holds_at, one_at}
use Rattle.node_heap.specs.InPlace.{child_at}
use Rattle.node_heap.proofs.Counts.{test_same, test_other}
use Rattle.node_heap.proofs.Frames.{Extends-row}
use Rattle.container_tests.proofs.writes.check_writes_below_a_kept_version.Goals as goal

pub node-leaf-requires-clause-held : goal.node-leaf-requires-clause-held
node-leaf-requires-clause-held g c = λ l. omega (arith, c.cell-seven.ensures.adds.holds l)

pub node-pair-requires-clause-held : goal.node-pair-requires-clause-held
node-pair-requires-clause-held g c = λ l. omega (arith, c.cell-seven.ensures.adds.holds l, c.node-leaf.ensures.adds.holds l)

pub node-root-requires-clause-held : goal.node-root-requires-clause-held
node-root-requires-clause-held g c = λ l. omega (arith, c.cell-seven.ensures.adds.holds l, c.node-leaf.ensures.adds.holds l, c.node-pair.ensures.adds.holds l)

pub write_third-top-requires-clause-version : goal.write_third-top-requires-clause-version
write_third-top-requires-clause-version g c =
    let root = c.node-root.result in
    omega (arith, c.hold.ensures.holds root, c.node-root.ensures.adds.holds root, c.node-root.ensures.adds.apart, test_same root root refl)

pub write_third-top-requires-clause-top : goal.write_third-top-requires-clause-top
write_third-top-requires-clause-top g c = rw (c.hold.ensures.rows c.node-root.result, c.node-root.ensures.adds.here) (omega arith)

pub write_third-top-requires-clause-middle : goal.write_third-top-requires-clause-middle
write_third-top-requires-clause-middle g c =
    let root = c.node-root.result in
    let pair = c.node-pair.result in
    let at_pair : child_at c.hold.new.self root 0 ≡ pair = ap (λ r. slice_index (links_of r) 0) (c.hold.ensures.rows root ∙ c.node-root.ensures.adds.here) in
    let pair_row = c.hold.ensures.rows pair ∙ Extends-row c.node-root.ensures.extends pair (rw c.node-pair.ensures.adds.here refl) ∙ c.node-pair.ensures.adds.here in
    rw (at_pair, pair_row) (omega arith)

pub write_third-top-requires-clause-last : goal.write_third-top-requires-clause-last
write_third-top-requires-clause-last g c =
    let root = c.node-root.result in
    let pair = c.node-pair.result in
    let leaf = c.node-leaf.result in
    let at_pair : child_at c.hold.new.self root 0 ≡ pair = ap (λ r. slice_index (links_of r) 0) (c.hold.ensures.rows root ∙ c.node-root.ensures.adds.here) in
    let pair_row = c.hold.ensures.rows pair ∙ Extends-row c.node-root.ensures.extends pair (rw c.node-pair.ensures.adds.here refl) ∙ c.node-pair.ensures.adds.here in
    let at_leaf : child_at c.hold.new.self pair 0 ≡ leaf = ap (λ r. slice_index (links_of r) 0) pair_row in
    let leaf_in_pair = Extends-row c.node-pair.ensures.extends leaf (rw c.node-leaf.ensures.adds.here refl) ∙ c.node-leaf.ensures.adds.here in
    let leaf_row = c.hold.ensures.rows leaf ∙ Extends-row c.node-root.ensures.extends leaf (rw leaf_in_pair refl) ∙ leaf_in_pair in
    rw (at_pair, at_leaf, leaf_row) (omega arith)

-- the new root is held, also where it is the old one
new-held : {T : Type 0} (old new : Heap T) (root top other : ℕ) → ((k : ℕ) → holds_at new k + one_at root k ≡ holds_at old k + (one_at top k + one_at other k)) → 0 < holds_at new root → 0 < holds_at new top
new-held old new root top other holds held = elim (cases_eq top root) as (λ _. 0 < holds_at new top) [
  | inl same ↦ subst (λ l. 0 < holds_at new l) (sym same) held
  | inr unlike ↦ omega (arith, holds top, test_other top root unlike, test_same top top refl)
]

pub value_below-requires : goal.value_below-requires
value_below-requires g c =
    let root = c.node-root.result in
    c.live.ensures.graph.held root (omega (arith, c.write_third-top.ensures.holds root, c.hold.ensures.holds root, c.node-root.ensures.adds.holds root, c.node-root.ensures.adds.apart, test_same root root refl))

pub value_below-requires-2 : goal.value_below-requires-2
value_below-requires-2 g c =
    let root = c.node-root.result in
    let held : 0 < holds_at c.write_third-top.new.heap root = omega (arith, c.write_third-top.ensures.holds root, c.hold.ensures.holds root, c.node-root.ensures.adds.holds root, c.node-root.ensures.adds.apart, test_same root root refl) in
    c.live.ensures.graph.held c.write_third-top.result.0 (new-held c.hold.new.self c.write_third-top.new.heap root c.write_third-top.result.0 c.write_third-top.result.1 c.write_third-top.ensures.holds held)
