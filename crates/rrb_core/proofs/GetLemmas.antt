-- What stands at an index among the elements below an inner row.
use Rattle.std.proofs.Common.{◌≡◌, ℕ, suc, zero, ◌-◌, ◌+◌, ◌*◌, ◌/◌, ◌<◌, ◌≤◌, ◌^◌, List, [], ◌∷◌, ◌++◌, length, take, drop, get_or, refl, ap, sym, ◌∙◌, arith, length-append, Bor, ◌⊎◌, inl, inr}
use Rattle.std.specs.Prelude.{Option, Some, None}
use Rattle.std.specs.List.{flat_map, slice_get}
use Rattle.std.specs.Slice.{IsItemAt}
use Rattle.std.specs.Option.{option_copied}
use Rattle.std.proofs.lemmas.Option.{slice_get_past, slice_get_read}
use Rattle.std.proofs.lemmas.Nat.{div-add-mod'}
use Rattle.node_heap.specs.Heap.{Heap, form_at, links_at}
use Rattle.rrb_core.specs.Seq.{seq_at}
use Rattle.rrb_core.specs.Vector.{sums_at}
use Rattle.rrb_core.proofs.Lists.{pow32, items-cut, regular-before}
use Rattle.rrb_core.proofs.RowLists.{IsOver, straight}

-- an index in the first of two lists
pub get-front : (xs ys : List ℕ) (i : ℕ) → i < length xs → slice_get (xs ++ ys) i ≡ slice_get xs i
get-front [] ys i lt = absurd (omega arith)
get-front (x ∷ xs) ys zero lt = refl
get-front (x ∷ xs) ys (suc i) lt = get-front xs ys i (omega arith)

-- an index in the second
pub get-behind : (xs ys : List ℕ) (i k : ℕ) → length xs + k ≡ i → slice_get (xs ++ ys) i ≡ slice_get ys k
get-behind [] ys i k e = let same : i ≡ k = omega arith in ap (slice_get ys) same
get-behind (x ∷ xs) ys zero k e = absurd (omega arith)
get-behind (x ∷ xs) ys (suc i) k e = get-behind xs ys i k (omega arith)

-- the link that a slice's `get` lends, copied
pub get-copied : (xs : List ℕ) (i : ℕ) (r : Option (Bor ℕ)) → IsItemAt xs i r → option_copied r ≡ slice_get xs i
get-copied xs i None item = sym (slice_get_past xs i item.3)
get-copied xs i (Some x) item = sym (slice_get_read xs (length xs) i x.now refl item.3.0 item.1)

-- an index among the elements of a child
pub items-get : (f : ℕ → List ℕ) (ks : List ℕ) (i within index : ℕ) → i < length ks → length (flat_map f (take i ks)) + within ≡ index → within < length (f (get_or ks i 0))
    → slice_get (flat_map f ks) index ≡ slice_get (f (get_or ks i 0)) within
items-get f ks i within index lt is small =
    let own : List ℕ = f (get_or ks i 0) in
    let rest : List ℕ = flat_map f (drop (i + 1) ks) in
    ap (λ (xs : List ℕ). slice_get xs index) (items-cut f ks i lt) ∙ get-behind (flat_map f (take i ks)) (own ++ rest) index within is ∙ get-front own rest within small

inside-or-past : (a b : ℕ) → (a < b) ⊎ (b ≤ a)
inside-or-past a b = grind arith

-- a shift gives the place where an index is if all children are full
pub place-is : (wide index below level : ℕ) → wide ≡ index → level ≡ below → wide / 2 ^ (5 * (level + 1)) ≡ index / 32 ^ suc below
place-is wide index below level e f =
    let p : 2 ^ (5 * (level + 1)) ≡ 32 ^ suc below = ap (λ (n : ℕ). 2 ^ (5 * n)) (omega (arith, f)) ∙ sym (pow32 (suc below)) in
    rw (p, e) refl

-- the elements before it
pub before-is : (wide index below level full : ℕ) → wide ≡ index → level ≡ below → full ≡ wide / 2 ^ (5 * (level + 1)) * 32 ^ (below + 1) → full ≡ index / 32 ^ suc below * 32 ^ suc below
before-is wide index below level full e f is =
    let up : below + 1 ≡ suc below = omega arith in
    let is' : full ≡ wide / 2 ^ (5 * (level + 1)) * 32 ^ suc below = rw up at is in
    is' ∙ ap (λ (k : ℕ). k * 32 ^ suc below) (place-is wide index below level e f)

pub before-low : (n index : ℕ) → index / 32 ^ suc n * 32 ^ suc n ≤ index
before-low n index = omega (arith, div-add-mod' index (32 ^ suc n))

-- a row without sums: an index is looked up in the child where it is if all are full
module _ {T : Type 0} {h : Heap T} {n l : ℕ} (o : IsOver h n l) (none : sums_at h l ≡ []) (index : ℕ) where
  pub straight-past : length (links_at h l) ≤ index / 32 ^ suc n → length (seq_at (form_at h) (suc n) l) ≤ index
  straight-past past = by (inside-or-past index (length (seq_at (form_at h) (suc n) l)))
    where
      by : ((index < length (seq_at (form_at h) (suc n) l)) ⊎ (length (seq_at (form_at h) (suc n) l) ≤ index)) → length (seq_at (form_at h) (suc n) l) ≤ index
      by (inl inside) = absurd (omega (arith, past, (straight o index none inside).place))
      by (inr le) = le

  pub straight-get : index / 32 ^ suc n < length (links_at h l)
      → slice_get (seq_at (form_at h) (suc n) l) index ≡ slice_get (seq_at (form_at h) n (get_or (links_at h l) (index / 32 ^ suc n) 0)) (index - index / 32 ^ suc n * 32 ^ suc n)
  straight-get place = by (inside-or-past index (length (seq_at (form_at h) (suc n) l)))
    where
      by : ((index < length (seq_at (form_at h) (suc n) l)) ⊎ (length (seq_at (form_at h) (suc n) l) ≤ index))
          → slice_get (seq_at (form_at h) (suc n) l) index ≡ slice_get (seq_at (form_at h) n (get_or (links_at h l) (index / 32 ^ suc n) 0)) (index - index / 32 ^ suc n * 32 ^ suc n)
      by (inl inside) =
          let s = straight o index none inside in
          let is : length (flat_map (seq_at (form_at h) n) (take (index / 32 ^ suc n) (links_at h l))) + (index - index / 32 ^ suc n * 32 ^ suc n) ≡ index = omega (arith, s.before, s.low) in
          ap (λ (xs : List ℕ). slice_get xs index) o.items ∙ items-get (seq_at (form_at h) n) (links_at h l) (index / 32 ^ suc n) (index - index / 32 ^ suc n * 32 ^ suc n) index place is s.within
      by (inr past) =
          let f : ℕ → List ℕ = seq_at (form_at h) n in
          let own : List ℕ = f (get_or (links_at h l) (index / 32 ^ suc n) 0) in
          let rest : List ℕ = flat_map f (drop (index / 32 ^ suc n + 1) (links_at h l)) in
          let front : List ℕ = flat_map f (take (index / 32 ^ suc n) (links_at h l)) in
          let before : length front ≡ index / 32 ^ suc n * 32 ^ suc n = regular-before f (32 ^ suc n) (links_at h l) (index / 32 ^ suc n) place (o.sums.none.0 none) in
          let cut : length (flat_map f (links_at h l)) ≡ length (front ++ (own ++ rest)) = ap length (items-cut f (links_at h l) (index / 32 ^ suc n) place) in
          let whole : length (seq_at (form_at h) (suc n) l) ≡ length (flat_map f (links_at h l)) = ap length o.items in
          let short : length own ≤ index - index / 32 ^ suc n * 32 ^ suc n = omega (arith, whole, cut, length-append front (own ++ rest), length-append own rest, before, past) in
          slice_get_past (seq_at (form_at h) (suc n) l) index past ∙ sym (slice_get_past own (index - index / 32 ^ suc n * 32 ^ suc n) short)
