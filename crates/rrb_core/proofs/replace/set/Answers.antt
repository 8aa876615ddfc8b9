use Rattle.std.proofs.Common.{◌≡◌, ℕ, ◌<◌, ◌≤◌, refl, ◌∙◌, Bool, false, inl, inr}
use Rattle.std.specs.Prelude.{IsTrue, ◌↔◌}
use Rattle.std.proofs.lemmas.Bool.{cases_lt}
use Rattle.node_heap.proofs.BuildLemmas.{Builds-Answered, Builds-MakesJust}
use Rattle.node_heap.proofs.RoomLemmas.{Builds-KeepsToNeed}
use Rattle.rrb_core.proofs.BuildLemmas.{answered-same, unchanged-good, same-height}
use Rattle.rrb_core.proofs.EditLemmas.{root-after}
use Rattle.rrb_core.proofs.replace.set.Goals as goal

not-both : {b : Bool} → IsTrue b → b ≡ false → ⊥
not-both holds fails = absurd cc

-- an index that isn't past the end
within : {b : Bool} {index m : ℕ} → (IsTrue b ↔ (m ≤ index)) → b ≡ false → index < m
within {b} {index} {m} told fails = elim (cases_lt index m) as (λ _. index < m) [ inl low ↦ low | inr past ↦ absurd (not-both (told.1 past) fails) ]

pub returns-then-is_past-clause-vectors : goal.returns-then-is_past-clause-vectors
returns-then-is_past-clause-vectors g c = λ l good. (good, refl)

pub returns-in_err-reserve-clause-vectors : goal.returns-in_err-reserve-clause-vectors
returns-in_err-reserve-clause-vectors g c = λ l. unchanged-good l c.in_err-reserve.ensures.rest

pub set_root-root-requires-clause-root : goal.set_root-root-requires-clause-root
set_root-root-requires-clause-root g c = rw c.root.ensures (root-after c.in_ok-reserve.ensures.rest c.requires.good c.in_ok-reserve.ensures.spares c.requires.few)

pub set_root-root-requires-clause-inside : goal.set_root-root-requires-clause-inside
set_root-root-requires-clause-inside g c = rw (c.root.ensures, (unchanged-good c.args.vector c.in_ok-reserve.ensures.rest c.requires.good).1) (within c.is_past.ensures c.if-is_past.false)

pub returns-clause-items : goal.returns-clause-items
returns-clause-items g c = rw c.from_root.ensures (c.set_root-root.ensures.vector.1 ∙ rw (c.root.ensures, (unchanged-good c.args.vector c.in_ok-reserve.ensures.rest c.requires.good).1) refl)

pub returns-clause-good : goal.returns-clause-good
returns-clause-good g c = rw c.from_root.ensures c.set_root-root.ensures.vector.0

pub returns-clause-answered : goal.returns-clause-answered
returns-clause-answered g c = rw (c.from_root.ensures, ← same-height c.args.heap.now c.reserve.new.self c.args.vector c.in_ok-reserve.ensures.rest.rows) (Builds-Answered c.in_ok-reserve.ensures.rest (rw c.root.ensures at c.set_root-root.ensures.builds))

pub returns-clause-made : goal.returns-clause-made
returns-clause-made g c = Builds-MakesJust c.in_ok-reserve.ensures.rest c.set_root-root.ensures.builds

pub returns-clause-vectors : goal.returns-clause-vectors
returns-clause-vectors g c = answered-same (Builds-Answered c.in_ok-reserve.ensures.rest c.set_root-root.ensures.builds)

pub returns-clause-spares : goal.returns-clause-spares
returns-clause-spares g c = Builds-KeepsToNeed c.in_ok-reserve.ensures.greater c.in_ok-reserve.ensures.rest c.set_root-root.ensures.builds
