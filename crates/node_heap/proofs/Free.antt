-- What becomes of the free slots.
use Rattle.std.proofs.Common.{◌≡◌, ◌≢◌, ℕ, zero, suc, ◌+◌, ◌<◌, ◌≤◌, List, [], ◌∷◌, ◌++◌, get_or, set, length, refl, sym, ap, ◌∙◌, arith, Option, Some, None, IsSome, cond, eqb, inl, inr}
use Rattle.std.proofs.lemmas.Bool.{cases_eq}
use Rattle.std.proofs.lemmas.List.{get_or-set_same, get_or-set_other, length-set, length-append}
use Rattle.std.proofs.lemmas.List.Sums.{sum_by-append, sum_by-set}
use Rattle.node_heap.specs.Links.{count}
use Rattle.node_heap.specs.Heap.{one_at}
use Rattle.node_heap.specs.Inside.{IsFree, FillsSlot}
use Rattle.node_heap.proofs.Counts.{count-cons, test_same, test_other}
use Rattle.node_heap.proofs.Stored.{one_if_some}
use Rattle.node_heap.proofs.Written.{count-written}
use Rattle.node_heap.proofs.Woven.{slot-inside}

count-last : (k place : ℕ) (rest : List ℕ) → count k (rest ++ place ∷ []) ≡ count k rest + one_at k place
count-last k place rest = omega (arith, sum_by-append (λ j. cond (eqb j k) 1 0) rest (place ∷ []), count-cons k place [])

length-last : (place : ℕ) (rest : List ℕ) → length (rest ++ place ∷ []) ≡ length rest + 1
length-last place rest = omega (arith, length-append rest (place ∷ []))

module _ {X : Type 0} where
  pub last-free : (slots : List (Option X)) (free rest : List ℕ) (place : ℕ) → free ≡ rest ++ place ∷ [] → IsFree slots free → 0 < count place free
  last-free slots free rest place is f = omega (arith, ap (count place) is, count-last place place rest, test_same place place refl)

  -- the last free slot is in use
  pub IsFree-pop : (slots : List (Option X)) (free rest : List ℕ) (place : ℕ) (x : X) → free ≡ rest ++ place ∷ [] → IsFree slots free → IsFree (set slots place (Some x)) rest
  IsFree-pop slots free rest place x is f =
      let counted = λ (k : ℕ). ap (count k) is ∙ count-last k place rest in
      let some = last-free slots free rest place is f in
      let none : count place rest ≡ 0 = omega (arith, counted place, test_same place place refl, f.once place) in
      let within = f.inside place some in
      let was = f.vacant place some in
      record {
        vacant = λ k held.
            let other : k ≢ place = λ same. absurd (omega (arith, ap (λ j. count j rest) same, none, held)) in
            get_or-set_other slots place k (Some x) None other ∙ f.vacant k (omega (arith, counted k, held));
        inside = λ k held. omega (arith, length-set slots place (Some x), f.inside k (omega (arith, counted k, held)));
        once = λ k. omega (arith, counted k, f.once k);
        all_slots = omega (arith, f.all_slots, ap length is, length-last place rest, length-set slots place (Some x), sum_by-set one_if_some slots place (Some x) None within, ap one_if_some was);
      }

  -- a slot in use is free
  pub IsFree-take : (slots : List (Option X)) (free : List ℕ) (place : ℕ) (x : X) → get_or slots place None ≡ Some x → IsFree slots free → IsFree (set slots place None) (free ++ place ∷ [])
  IsFree-take slots free place x is f =
      let counted = λ (k : ℕ). count-last k place free in
      let within = slot-inside slots place (rw is refl) in
      let none : count place free ≡ 0 = unlisted (count place free) refl in
      record {
        vacant = λ k held. elim (cases_eq k place) as (λ _. get_or (set slots place None) k None ≡ None) [
          | inl same ↦ ap (λ j. get_or (set slots place None) j None) same ∙ get_or-set_same slots place None None within
          | inr other ↦ get_or-set_other slots place k None None other ∙ f.vacant k (omega (arith, counted k, held, test_other place k (λ e. other (sym e))))
        ];
        inside = λ k held. elim (cases_eq k place) as (λ _. k < length (set slots place None)) [
          | inl same ↦ omega (arith, length-set slots place None, within, same)
          | inr other ↦ omega (arith, length-set slots place None, f.inside k (omega (arith, counted k, held, test_other place k (λ e. other (sym e)))))
        ];
        once = λ k. elim (cases_eq k place) as (λ _. count k (free ++ place ∷ []) ≤ 1) [
          | inl same ↦ omega (arith, counted k, ap (λ j. count j free) same, none, test_same place k (sym same))
          | inr other ↦ omega (arith, counted k, f.once k, test_other place k (λ e. other (sym e)))
        ];
        all_slots = omega (arith, f.all_slots, length-last place free, length-set slots place None, sum_by-set one_if_some slots place None None within, ap one_if_some is);
      }
    where
      unlisted : (n : ℕ) → count place free ≡ n → count place free ≡ 0
      unlisted zero e = e
      unlisted (suc n) e = let gone : Some x ≡ None = sym is ∙ f.vacant place (omega (arith, e)) in absurd cc

  -- a write in a slot that is in use
  pub IsFree-set : (xs : List (Option X)) (free : List ℕ) (i : ℕ) (x y : X) → get_or xs i None ≡ Some x → IsFree xs free → IsFree (set xs i (Some y)) free
  IsFree-set xs free i x y is f = record {
    vacant = λ k held. get_or-set_other xs i k (Some y) None (λ same. absurd (let gone = sym is ∙ sym (ap (λ j. get_or xs j None) same) ∙ f.vacant k held in cc)) ∙ f.vacant k held;
    inside = λ k held. omega (arith, length-set xs i (Some y), f.inside k held);
    once = f.once;
    all_slots = omega (arith, f.all_slots, count-written xs i x (Some y) is, length-set xs i (Some y));
  }

  -- the last free slot is filled
  pub fills-free : (slots : List (Option X)) (free rest : List ℕ) (place : ℕ) (x : X) → free ≡ rest ++ place ∷ [] → IsFree slots free → FillsSlot slots free (set slots place (Some x)) rest place x
  fills-free slots free rest place x is f =
      let some = last-free slots free rest place is f in
      let within = f.inside place some in
      record {
        was = f.vacant place some;
        now = get_or-set_same slots place (Some x) None within;
        others = λ k other. get_or-set_other slots place k (Some x) None other;
        listed = IsFree-pop slots free rest place x is f;
        one = omega (arith, ap length is, length-last place rest, length-set slots place (Some x));
        fewer = omega (arith, ap length is, length-last place rest);
        inside = omega (arith, within, length-set slots place (Some x));
      }

  pub no_value : {x : X} → Some x ≡ None → ⊥
  no_value e = absurd cc

  -- what there is where there is something
  pub value_in : (o : Option X) → IsSome o → (x : X) × (o ≡ Some x)
  value_in None some = absurd cc
  value_in (Some x) some = (x, refl)

  -- a read within the list is the same whatever the default
  pub get_or_default : (xs : List (Option X)) (k : ℕ) (d : Option X) → k < length xs → get_or xs k d ≡ get_or xs k None
  get_or_default [] k d h = absurd (omega (arith, h))
  get_or_default (x ∷ xs) zero d h = refl
  get_or_default (x ∷ xs) (suc k) d h = get_or_default xs k d (omega (arith, h))

  -- what a read within the list finds, whatever its default
  pub found : (xs : List (Option X)) (i : ℕ) (r d : Option X) → IsSome (get_or xs i None) → r ≡ get_or xs i d → get_or xs i None ≡ r
  found xs i r d live read = sym (read ∙ get_or_default xs i d (slot-inside xs i live))
