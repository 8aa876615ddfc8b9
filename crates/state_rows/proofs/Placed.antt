-- What a state stands for whose row was edited in place.
use Rattle.std.proofs.Common.{◌≡◌, ℕ, List, [], ◌∷◌, Option, Some, None, false, refl}
use Rattle.std.specs.FinMap as finite
use Rattle.std.specs.Ordering.{is_eq}
use Rattle.elem_core.specs.Naming.{IsName}
use Rattle.elem_core.specs.Codes.{text_code}
use Rattle.node_heap.specs.Forms.{node, state}
use Rattle.node_heap.specs.Heap.{Heap, form_at}
use Rattle.node_heap.specs.Calls.{KeepsBelow}
use Rattle.rrb_core.specs.Vector.{IsGoodVector}
use Rattle.champ_kinds.specs.Binding.{bind, value_with}
use Rattle.champ_kinds.specs.Kinds.{IsMapOf}
use Rattle.shell_terms.specs.Edit.{Bytes}
use Rattle.plain_space.specs.Workspace.{State, with_lines}
use Rattle.state_rows.specs.Reading.{StandsIfThere}
use Rattle.state_rows.specs.InHeap.{AreLinesIn, IsStateIn}
use Rattle.state_rows.proofs.Keys.{by_bytes}
use Rattle.state_rows.proofs.Contents.{named-placed}
use Rattle.state_rows.proofs.Renamed.{names-over}
use Rattle.state_rows.proofs.Staying.{states-stay, goes-on}

-- what stands at a name stands there still where all below its link stays
kept-there : (old new : Heap Bytes) (bits : ℕ) (found : Option ℕ) (there : Option (List Bytes)) → ((k : ℕ) → found ≡ Some k → KeepsBelow old new k) → StandsIfThere (AreLinesIn old bits) found there → StandsIfThere (AreLinesIn new bits) found there
kept-there old new bits None None keeps is = tt
kept-there old new bits None (Some xs) keeps is = absurd is
kept-there old new bits (Some k) None keeps is = absurd is
kept-there old new bits (Some k) (Some xs) keeps is = (states-stay old new bits k (keeps k refl)).lines xs is

-- the state row has another map, in which this vector stands at the name, and its stars and all other lines stay
pub state-placed : {old new : Heap Bytes} {bits l : ℕ} {s : State} (is : IsStateIn old bits l s) (row names v : ℕ) (key : Bytes) (xs : List Bytes) → IsName key → form_at new row ≡ Some (node state (names ∷ is.stars ∷ []))
    → IsMapOf by_bytes text_code new (record { root = names; bits = bits }) (bind by_bytes is.buffers_are.bindings key v) → AreLinesIn new bits v xs
    → ((name : Bytes) → is_eq (by_bytes name key) ≡ false → (k : ℕ) → value_with by_bytes name is.buffers_are.bindings ≡ Some k → KeepsBelow old new k) → KeepsBelow old new is.stars → IsStateIn new bits row (with_lines s key xs)
state-placed {old} {new} {bits} {s = s} is row names v key xs named here made lines others stars = record {
  buffers = names;
  stars = is.stars;
  row = here;
  buffers_are =
      named-placed old new (IsGoodVector new) (AreLinesIn new bits) is.buffers_are names v key xs named lines
      (λ name other. kept-there old new bits (value_with by_bytes name is.buffers_are.bindings) (finite.get s.buffers name) (others name other) (is.buffers_are.reads name))
      made;
  stars_are = names-over (λ k. k) (form_at old) (form_at new) (IsGoodVector old) (IsGoodVector new) bits is.stars s.stars (goes-on old new is.stars stars) is.stars_are;
}
