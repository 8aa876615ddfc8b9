-- Packed rows, and rows that an element was put into.
use Rattle.std.proofs.Common.{◌≡◌, ℕ, suc, zero, ◌-◌, ◌<◌, ◌≤◌, List, [], ◌∷◌, ◌++◌, length, take, get_or, refl, ap, sym, ◌∙◌, arith, ◌⊎◌, inl, inr}
use Rattle.std.specs.List.{All}
use Rattle.std.proofs.lemmas.List.{length-take-le, get_or-take, length_push, get_or_at}
use Rattle.std.proofs.lemmas.List.Elements.{All-from_get_or}
use Rattle.node_heap.specs.Forms.{Forms, links_in, links_of}
use Rattle.node_heap.specs.Heap.{Heap, form_at}
use Rattle.rrb_core.specs.Seq.{form_height, height_in, IsThick, IsWell}
use Rattle.rrb_core.specs.Push.{last_in, IsPacked, AddsLink, IsPushed, into_leaf, into_last, into_new, IsPushedRoot, into_root, over_root}
use Rattle.rrb_core.proofs.ClosedRows.{Stays}
use Rattle.rrb_core.proofs.Stays.{links-form, forms-stay, seq-stays}

-- what holds of all but the last, and of the last, holds of all
pub all-last : (P : ℕ → Type 0) (ks : List ℕ) → All P (take (length ks - 1) ks) → P (get_or ks (length ks - 1) 0) → All P ks
all-last P ks front last = All-from_get_or P ks 0 (λ i b. each i b)
  where
    each : (i : ℕ) → i < length ks → P (get_or ks i 0)
    each i b =
        let m : ℕ = length ks - 1 in
        let count : length (take m ks) ≡ m = length-take-le m ks (omega arith) in
        let before : i < m → P (get_or ks i 0) = λ lt. rw (get_or-take m ks i 0 lt) at (front i 0 (omega arith)) in
        let here : i ≡ m → P (get_or ks i 0) = λ e. rw e last in
        elim (cases i m) [ inl lt ↦ before lt | inr ge ↦ here (omega arith) ]
      where
        cases : (i n : ℕ) → (i < n) ⊎ (n ≤ i)
        cases i n = grind arith

module _ {K : Type 0} (F : Forms K) where
  pub packed-links : (n l : ℕ) → IsPacked F n l → length (links_in F l) ≡ 32
  unfolding IsPacked
  packed-links zero l f = f
  packed-links (suc n) l f = f.0

  pub packed-leaf : (l : ℕ) → length (links_in F l) ≡ 32 → IsPacked F 0 l
  unfolding IsPacked
  packed-leaf l f = f

  pub packed-inner : (n l : ℕ) → length (links_in F l) ≡ 32 → IsPacked F n (last_in F l) → IsPacked F (suc n) l
  unfolding IsPacked
  packed-inner n l f last = (f, last)

  pub packed-last : (n l : ℕ) → IsPacked F (suc n) l → IsPacked F n (last_in F l)
  unfolding IsPacked
  packed-last n l f = f.1

  -- a packed row is thick
  pub packed-thick : (n l : ℕ) → IsWell F n l → IsPacked F n l → IsThick F n l
  unfolding IsWell IsThick IsPacked
  packed-thick zero l w f = omega (arith, f)
  packed-thick (suc n) l w f =
      let inside : length (links_in F l) - 1 < length (links_in F l) = omega (arith, f.0) in
      let last : IsThick F n (last_in F l) = packed-thick n (last_in F l) (w.children (length (links_in F l) - 1) 0 inside) f.1 in
      (omega (arith, f.0), all-last (IsThick F n) (links_in F l) w.thick last)

module _ {K : Type 0} {F G : Forms K} {e : ℕ} where
  -- no row has fewer links then
  pub pushed-more : {n l m : ℕ} → IsPushed F G e n l m → length (links_in F l) ≤ length (links_in G m)
  pushed-more (into_leaf l m a) = rw a.links (omega (arith, length_push (links_in F l) e))
  pushed-more (into_last n l m k p links) = rw links (omega (arith, length_push (take (length (links_in F l) - 1) (links_in F l)) k, length-take-le (length (links_in F l) - 1) (links_in F l) (omega arith)))
  pushed-more (into_new n l m k f one a) = rw a.links (omega (arith, length_push (links_in F l) k))

  -- the row was not packed
  pub pushed-room : {n l m : ℕ} → IsPushed F G e n l m → IsPacked F n l → ⊥
  pushed-room (into_leaf l m a) f = omega (arith, a.room, packed-links F zero l f)
  pushed-room (into_last n l m k p links) f = pushed-room p (packed-last F n l f)
  pushed-room (into_new n l m k last one a) f = omega (arith, a.room, packed-links F (suc n) l f)

  -- the height rises just where the root was packed
  pub rises : {l m : ℕ} → IsPushedRoot F G e l m → (height_in G m ≡ suc (height_in F l) → IsPacked F (height_in F l) l) × (IsPacked F (height_in F l) l → height_in G m ≡ suc (height_in F l))
  rises (into_root same p) = (λ up. absurd (omega (arith, up, same)), λ f. absurd (pushed-room p f))
  rises (over_root k up f one links) = (λ _. f, λ _. up)

-- the same, where the first forms are others with the same rows
module _ {K : Type 0} {F F' : Forms K} (same : (k : ℕ) → F' k ≡ F k) where
  links-same : (l : ℕ) → links_in F' l ≡ links_in F l
  links-same l = ap links_of (same l)

  last-same : (l : ℕ) → last_in F' l ≡ last_in F l
  last-same l = ap (λ ks. get_or ks (length ks - 1) 0) (links-same l)

  pub packed-same : (n l : ℕ) → IsPacked F n l → IsPacked F' n l
  unfolding IsPacked
  packed-same zero l f = rw (links-same l) f
  packed-same (suc n) l f = (rw (links-same l) f.0, rw (last-same l) (packed-same n (last_in F l) f.1))

  adds-same : {G : Forms K} (l m k : ℕ) → AddsLink F G l m k → AddsLink F' G l m k
  adds-same l m k a = record { room = rw (links-same l) a.room; links = rw (links-same l) a.links }

  pub pushed-same : {G : Forms K} {e n l m : ℕ} → IsPushed F G e n l m → IsPushed F' G e n l m
  pushed-same {e = e} (into_leaf l m a) = into_leaf l m (adds-same l m e a)
  pushed-same {e = e} (into_last n l m k p links) = into_last n l m k (rw (last-same l) (pushed-same p)) (rw (links-same l) links)
  pushed-same {e = e} (into_new n l m k f one a) = into_new n l m k (rw (last-same l) (packed-same n (last_in F l) f)) one (adds-same l m k a)

  pub pushed-root-same : {G : Forms K} {e l m : ℕ} → IsPushedRoot F G e l m → IsPushedRoot F' G e l m
  pushed-root-same {l = l} (into_root up p) =
      let height : height_in F' l ≡ height_in F l = ap form_height (same l) in
      into_root (rw height up) (rw height (pushed-same p))
  pushed-root-same {l = l} (over_root k up f one links) =
      let height : height_in F' l ≡ height_in F l = ap form_height (same l) in
      over_root k (rw height up) (rw height (packed-same (height_in F l) l f)) (rw height one) links

all-end : (P : ℕ → Type 0) (front : List ℕ) (k : ℕ) → All P (front ++ k ∷ []) → P k
all-end P front k all = rw (get_or_at front k [] 0 (length front) refl) at (all (length front) 0 (omega (arith, length_push front k)))

-- the same, where the rows that came stay
module _ {T : Type 0} {P : ℕ → Type 0} {mid new : Heap T} (s : Stays P mid new) where
  -- the last link of a row that stays
  end-stays : (m k : ℕ) (front : List ℕ) → P m → links_in (form_at mid) m ≡ front ++ k ∷ [] → P k
  end-stays m k front here links = all-end P front k (rw (sym (links-form mid m) ∙ links) at (s.closed m here))

  pub pushed-stays : {F : Forms T} {e n l m : ℕ} → P m → IsPushed F (form_at mid) e n l m → IsPushed F (form_at new) e n l m
  pushed-stays here (into_leaf l m a) = into_leaf l m (record { room = a.room; links = forms-stay s m here ∙ a.links })
  pushed-stays {F = F} here (into_last n l m k p links) =
      into_last n l m k (pushed-stays (end-stays m k (take (length (links_in F l) - 1) (links_in F l)) here links) p) (forms-stay s m here ∙ links)
  pushed-stays {F = F} here (into_new n l m k f one a) =
      into_new n l m k f (seq-stays s n k (end-stays m k (links_in F l) here a.links) ∙ one) (record { room = a.room; links = forms-stay s m here ∙ a.links })
