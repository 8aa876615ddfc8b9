-- The laws of edits in place: what keeps the rows that aren't written keeps what is held beside, and the elements.
use Rattle.std.proofs.Common.{◌≡◌, ℕ, zero, suc, ◌-◌, List, [], ◌∷◌, length, take, refl, ap, ◌∙◌, arith}
use Rattle.std.specs.Prelude.{Bool, true, false, nat_lt, nat_le, ◌==◌, if◌then◌else◌}
use Rattle.node_heap.specs.Links.{count}
use Rattle.node_heap.specs.Forms.{links_in}
use Rattle.node_heap.specs.Heap.{Heap, form_at}
use Rattle.rrb_core.specs.Seq.{seq}
use Rattle.rrb_core.specs.Vector.{height_at}
use Rattle.edit_vec.specs.Path.{keep_or_stop, up_to_last, right_spine, push_path, pop_spine, pop_path, root_goes}
use Rattle.node_heap.specs.declared.owner.Owner.TheVariants.{Hold as by_hold}
use Rattle.node_heap.specs.Owner.{owned, written, WritesOnly, WritesOnlyLeft}
use Rattle.edit_vec.proofs.PathLemmas.{rows_below, rows-below, spine_below, spine-below}
use Rattle.node_heap.proofs.BesidePath.{others-beside, left-held}
use Rattle.edit_vec.proofs.KeptLemmas.{IsTall, down-rows, down-spine, down-take, others-elements, left-elements}
use Rattle.edit_vec.specs.Laws.{SetsKeep, PushesKeep, PopsKeep, PopsKeepHeld}

pub sets-keep : (T : Type 0) → SetsKeep T
sets-keep T = λ owner old new root index graph is good inside others.
    let l : ℕ = owned old owner in
    let n : ℕ = height_at old l in
    let tail : List ℕ = rows_below (form_at old) n l index in
    let all : WritesOnly owner old new root (l ∷ tail) = rw (rows-below (form_at old) n l index) at others in
    let down = down-rows old n l index good.shape.well inside in
    record {
      beside = others-beside (IsTall old) owner old new root tail graph is down all;
      below = others-elements owner old new root n tail graph is good.shape.well down all;
    }

-- what is kept of a list up to its last member that passes is its front
up-to-front : (fits : ℕ → Bool) (xs : List ℕ) → up_to_last fits xs ≡ take (length (up_to_last fits xs)) xs
up-to-front fits [] = refl
up-to-front fits (x ∷ xs) = front (fits x) (up_to_last fits xs) (up-to-front fits xs)
  where
    front : (b : Bool) (ys : List ℕ) → ys ≡ take (length ys) xs → keep_or_stop x b ys ≡ take (length (keep_or_stop x b ys)) (x ∷ xs)
    front true [] e = refl
    front false [] e = refl
    front b (y ∷ ys) e = ap (λ (zs : List ℕ). x ∷ zs) e

-- a front of a path is its first row with a front of the rest, or nothing
shorter : {T : Type 0} (h : Heap T) (l : ℕ) (tail : List ℕ) (j k : ℕ) → count j (written h (l ∷ take (k - 1) tail)) ≡ 0 → count j (written h (take k (l ∷ tail))) ≡ 0
shorter h l tail j zero off = refl
shorter h l tail j (suc k) off = let e : suc k - 1 ≡ k = omega arith in rw e at off

pub pushes-keep : (T : Type 0) → PushesKeep T
pushes-keep T = λ owner old new root graph is good others.
    let l : ℕ = owned old owner in
    let n : ℕ = height_at old l in
    let fits : ℕ → Bool = λ k. nat_lt (length (links_in (form_at old) k)) 32 in
    let tail : List ℕ = spine_below (form_at old) n l in
    let k : ℕ = length (push_path (form_at old) l) in
    let path : push_path (form_at old) l ≡ take k (l ∷ tail) = up-to-front fits (right_spine (form_at old) l) ∙ ap (take k) (spine-below (form_at old) n l) in
    let m : ℕ = k - 1 in
    let all : WritesOnly owner old new root (l ∷ take m tail) = λ j live off. others j live (rw path (shorter old l tail j k off)) in
    let down = down-take old l m tail (down-spine old n l good.shape.well) in
    record {
      beside = others-beside (IsTall old) owner old new root (take m tail) graph is down all;
      below = others-elements owner old new root n (take m tail) graph is good.shape.well down all;
    }

-- the path of a pop is a front of the right spine too
front-if : (b c : Bool) (x : ℕ) (up tail : List ℕ) → up ≡ take (length up) (x ∷ tail) → (k : ℕ) × ((if b then x ∷ [] else if c then [] else up) ≡ take k (x ∷ tail))
front-if true c x up tail e = (1, refl)
front-if false true x up tail e = (0, refl)
front-if false false x up tail e = (length up, e)

pop-front : {T : Type 0} (h : Heap T) (l : ℕ) → (k : ℕ) × (pop_path (form_at h) l ≡ take k (l ∷ spine_below (form_at h) (height_at h l) l))
pop-front h l =
    let fits : ℕ → Bool = λ k. nat_le 2 (length (links_in (form_at h) k)) in
    let up : pop_spine (form_at h) l ≡ take (length (pop_spine (form_at h) l)) (l ∷ spine_below (form_at h) (height_at h l) l) = up-to-front fits (right_spine (form_at h) l) ∙ ap (take (length (pop_spine (form_at h) l))) (spine-below (form_at h) (height_at h l) l) in
    front-if (length (seq (form_at h) l) == 1) (root_goes (form_at h) l) l (pop_spine (form_at h) l) (spine_below (form_at h) (height_at h l) l) up

pub pops-keep : (T : Type 0) → PopsKeep T
pops-keep T = λ owner old new root graph graph' is good others.
    let l : ℕ = owned old owner in
    let n : ℕ = height_at old l in
    let tail : List ℕ = spine_below (form_at old) n l in
    let path = pop-front old l in
    let m : ℕ = path.0 - 1 in
    let all : WritesOnlyLeft owner old new root (l ∷ take m tail) = λ j live there off. others j live there (rw path.1 (shorter old l tail j path.0 off)) in
    left-elements owner old new root n (take m tail) graph is good.shape.well (down-take old l m tail (down-spine old n l good.shape.well)) graph' all

pub pops-keep-held : (T : Type 0) → PopsKeepHeld T
pops-keep-held T = λ old new l root graph graph' is good others.
    let n : ℕ = height_at old l in
    let tail : List ℕ = spine_below (form_at old) n l in
    let path = pop-front old l in
    let m : ℕ = path.0 - 1 in
    let all : WritesOnlyLeft (by_hold l) old new root (l ∷ take m tail) = λ j live there off. others j live there (rw path.1 (shorter old l tail j path.0 off)) in
    left-held (IsTall old) old new l root (take m tail) graph graph' is (down-take old l m tail (down-spine old n l good.shape.well)) all
