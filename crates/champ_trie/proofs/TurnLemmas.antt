-- What becomes of a row where another thing stands at a position.
use Rattle.std.proofs.Common.{◌≡◌, ◌≢◌, ℕ, zero, suc, ◌<◌, ◌≤◌, List, [], ◌∷◌, length, get_or, refl, ap, sym, subst, ◌∙◌, arith, Option, Some, None, IsSome, Bool, true, false, cond}
use Rattle.std.specs.Prelude.{option_map, IfSome}
use Rattle.std.specs.Int.{from_bool}
use Rattle.std.specs.List.{insert, remove}
use Rattle.std.proofs.lemmas.List.Edits.{length-insert, get_or-insert_at}
use Rattle.node_heap.specs.Forms.{Row, Kind, cell, node, form_of, is_node}

-- a bool as a number
pub as_number : (b : Bool) → from_bool b ≡ cond b 1 0
as_number true = refl
as_number false = refl

-- what an option has
pub if-known : {X : Type 0} (P : X → Type 0) {o : Option X} {x : X} → o ≡ Some x → IfSome o P → P x
if-known P is p = subst (λ o. IfSome o P) is p

-- the row of a form is a node
pub form-node : {T : Type 0} (r : Option (Row T)) (k : Kind) (ls : List ℕ) → option_map form_of r ≡ Some (node k ls) → is_node r ≡ 1
form-node None k ls is = absurd cc
form-node (Some (cell x)) k ls is = absurd cc
form-node (Some (node h l)) k ls is = refl

-- and is there
pub node-live : {T : Type 0} (r : Option (Row T)) → is_node r ≡ 1 → IsSome r
node-live None one = absurd (omega (arith, one))
node-live (Some r) one = refl

-- an only link that came
pub lone-came : (ys : List ℕ) (i x : ℕ) → i ≤ length ys → length (insert ys i x) ≡ 1 → x ≡ get_or (insert ys i x) 0 0
lone-came ys i x le one =
    let first : i ≡ 0 = omega (arith, le, one, length-insert ys i x le) in
    sym (get_or-insert_at ys i x 0 le) ∙ ap (λ j. get_or (insert ys i x) j 0) first

-- an only link that stays
pub lone-left : (xs : List ℕ) (i k : ℕ) → i < length xs → length (remove xs i) ≡ 1 → (i ≡ 0 → k ≡ 1) → (i ≢ 0 → k ≡ 0) → (k < length xs) × (get_or xs k 0 ≡ get_or (remove xs i) 0 0)
lone-left [] i k lt one first later = absurd (omega (arith, lt))
lone-left (x ∷ []) zero k lt one first later = absurd (omega (arith, one))
lone-left (x ∷ y ∷ xs) zero k lt one first later = let is = first refl in (omega (arith, is), ap (λ j. get_or (x ∷ y ∷ xs) j 0) is)
lone-left (x ∷ xs) (suc i) k lt one first later = let is = later (λ none. absurd (omega (arith, none))) in (omega (arith, is, lt), ap (λ j. get_or (x ∷ xs) j 0) is)
