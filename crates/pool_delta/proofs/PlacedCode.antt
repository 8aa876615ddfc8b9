-- The places so far and the table of free ones, as one row more is placed.
use Rattle.std.proofs.Common.{◌≡◌, ◌≢◌, ℕ, zero, suc, ◌+◌, ◌<◌, ◌≤◌, inl, inr, Bool, true, false, cond, eqb, List, [], ◌∷◌, ◌++◌, length, map, take, get_or, Some, None, refl, ap, sym, subst, ◌∙◌, arith, length-append}
use Rattle.std.specs.Prelude.{fold, reverse, slice_get, slice_index}
use Rattle.std.proofs.lemmas.Bool.{eq-eqb, ne_eqb, cases_lt}
use Rattle.std.proofs.lemmas.List.{map-append, length-map}
use Rattle.std.proofs.lemmas.List.Sums.{fold_more}
use Rattle.std.proofs.lemmas.Option.{slice_get_past}
use Rattle.node_heap.specs.Links.{count}
use Rattle.node_heap.specs.Forms.{Form, links_of}
use Rattle.node_heap.proofs.Counts.{test_same, count-cons}
use Rattle.pool_text.specs.Rows.{Bytes, row_form}
use Rattle.pool_text.specs.Pool.{relink}
use Rattle.pool_text.specs.declared.row.Row.{Row}
use Rattle.pool_check.specs.Rows.{rows_lead_back}
use Rattle.pool_check.proofs.TestLemmas.{lead-back-at}
use Rattle.pool_delta.specs.Delta.{Placing, no_rows, free_place, placed_row, placed}
use Rattle.pool_delta.specs.Free.{key_form, free_from, AreFree, Takes, Holds}
use Rattle.pool_delta.specs.declared.free.FreePlaces.{FreePlaces}
use Rattle.pool_delta.specs.declared.free.RowKey.{RowKey}
use Rattle.pool_delta.proofs.FreeStacks.{zero-of, first_or, free-first, free-row, none-taken}
use Rattle.pool_delta.proofs.FreeTable.{map-at}

-- ## How many places

-- each row has one
one-place : (R : List (Form Bytes)) (g : Placing) (r : Form Bytes) → length (placed R g r).places ≡ length g.places + 1
one-place R g r = by_test (eqb (free_place g.places row 0 R) (length R))
  where
    row : Form Bytes
    row = relink (slice_index g.places) r

    by_test : (b : Bool) → length (cond b (record { places = g.places ++ (length R + length g.own) ∷ []; own = g.own ++ row ∷ [] }) (record g { places = g.places ++ free_place g.places row 0 R ∷ [] })).places ≡ length g.places + 1
    by_test true = length-append g.places ((length R + length g.own) ∷ [])
    by_test false = length-append g.places (free_place g.places row 0 R ∷ [])

places-count : (R : List (Form Bytes)) (g : Placing) (rows : List (Form Bytes)) → length (fold (placed R) g rows).places ≡ length g.places + length rows
places-count R g [] = omega arith
places-count R g (r ∷ rows) = omega (arith, places-count R (placed R g r) rows, one-place R g r)

pub all-places : (R rows : List (Form Bytes)) → length (fold (placed R) no_rows rows).places ≡ length rows
all-places R rows = omega (arith, places-count R no_rows rows)

-- ## One row more

low-place : (taken : List ℕ) (row : Form Bytes) (R : List (Form Bytes)) (x : ℕ) → 0 < count x (free_from taken row 0 R) → x < length R
low-place taken row R x some =
    let found = free-row taken row 0 R x some in
    elim (cases_lt x (length R)) as (λ _. x < length R) [
      | inl low ↦ low
      | inr past ↦ (let none : None ≡ Some row = sym (slice_get_past R found.0 (omega (arith, past, found.1))) ∙ found.2 in absurd cc)
    ]

module _ (R : List (Form Bytes)) (g : Placing) (row : Form Bytes) (new : FreePlaces) where
  -- where a chain row is free
  pub placed-some : (p : ℕ) → Takes R g.places row new (Some p) → Holds R (placed_row R g row) (g.places ++ p ∷ []) g.own new
  placed-some p takes = subst (λ g'. Holds R g' (g.places ++ p ∷ []) g.own new) (sym with-place) (record { places_are = refl; own_are = refl; free_are = takes.1 })
    where
      stack : free_from g.places row 0 R ≡ p ∷ takes.0.0
      stack = takes.0.1

      low : p < length R
      low = low-place g.places row R p (omega (arith, ap (count p) stack, count-cons p p takes.0.0, test_same p p refl))

      first : free_place g.places row 0 R ≡ p
      first = free-first g.places row 0 R ∙ ap (first_or (0 + length R)) stack

      differ : (a b : ℕ) → a < b → a ≢ b
      differ a b less same = omega (arith, less, same)

      with-place : placed_row R g row ≡ record { places = g.places ++ p ∷ []; own = g.own }
      with-place =
          ap (λ q. cond (eqb q (length R)) (record { places = g.places ++ (length R + length g.own) ∷ []; own = g.own ++ row ∷ [] }) (record g { places = g.places ++ q ∷ [] })) first
          ∙ ap (λ b. cond b (record { places = g.places ++ (length R + length g.own) ∷ []; own = g.own ++ row ∷ [] }) (record g { places = g.places ++ p ∷ [] })) (ne_eqb p (length R) (differ p (length R) low))

  -- where none is
  pub placed-none : Takes R g.places row new None → Holds R (placed_row R g row) (g.places ++ (length R + length g.own) ∷ []) (g.own ++ row ∷ []) new
  placed-none takes =
      subst (λ g'. Holds R g' (g.places ++ (length R + length g.own) ∷ []) (g.own ++ row ∷ []) new) (sym with-row)
      (record { places_are = refl; own_are = refl; free_are = λ key. takes.1 key ∙ ap reverse (sym (none-taken g.places (length R + length g.own) (key_form key) 0 R (past key))) })
    where
      past : (key : RowKey) → count (length R + length g.own) (free_from g.places (key_form key) 0 R) ≡ 0
      past key = zero-of (count (length R + length g.own) (free_from g.places (key_form key) 0 R))
          (λ n many. absurd (omega (arith, low-place g.places (key_form key) R (length R + length g.own) (omega (arith, many)))))

      first : free_place g.places row 0 R ≡ length R
      first = free-first g.places row 0 R ∙ ap (first_or (0 + length R)) takes.0 ∙ omega arith

      with-row : placed_row R g row ≡ record { places = g.places ++ (length R + length g.own) ∷ []; own = g.own ++ row ∷ [] }
      with-row = ap (λ b. cond b (record { places = g.places ++ (length R + length g.own) ∷ []; own = g.own ++ row ∷ [] }) (record g { places = g.places ++ free_place g.places row 0 R ∷ [] })) (eq-eqb (free_place g.places row 0 R) (length R) first)

-- the same of the code's lists
module _ (chain : List Row) (row : Row) (key : RowKey) (is : key_form key ≡ row_form row) (places : List ℕ) (own : List Row) (free new : FreePlaces) (g : Placing)
    (holds : Holds (map row_form chain) g places (map row_form own) free)
  where
    pub next-some : (p : ℕ) → ((rs : List (Form Bytes)) (taken : List ℕ) → AreFree rs taken free → Takes rs taken (key_form key) new (Some p)) → (places' : List ℕ) → places' ≡ places ++ p ∷ []
        → Holds (map row_form chain) (placed_row (map row_form chain) g (row_form row)) places' (map row_form own) new
    next-some p takes places' more =
        let R : List (Form Bytes) = map row_form chain in
        let next : Holds R (placed_row R g (row_form row)) (g.places ++ p ∷ []) g.own new = placed-some R g (row_form row) new p
        (subst (λ f. Takes R g.places f new (Some p)) is (takes R g.places holds.free_are)) in
        record { places_are = more ∙ ap (λ ps. ps ++ p ∷ []) holds.places_are ∙ next.places_are; own_are = holds.own_are ∙ next.own_are; free_are = next.free_are }

    pub next-none : ((rs : List (Form Bytes)) (taken : List ℕ) → AreFree rs taken free → Takes rs taken (key_form key) new None) → (places' : List ℕ) (own' : List Row)
        → places' ≡ places ++ (length chain + length own) ∷ [] → own' ≡ own ++ row ∷ [] → Holds (map row_form chain) (placed_row (map row_form chain) g (row_form row)) places' (map row_form own') new
    next-none takes places' own' more more' =
        let R : List (Form Bytes) = map row_form chain in
        let next : Holds R (placed_row R g (row_form row)) (g.places ++ (length R + length g.own) ∷ []) (g.own ++ row_form row ∷ []) new = placed-none R g (row_form row) new
        (subst (λ f. Takes R g.places f new None) is (takes R g.places holds.free_are)) in
        let place : length chain + length own ≡ length R + length g.own = omega (arith, length-map chain row_form, length-map own row_form, ap length holds.own_are) in
        let places-are : places ++ (length chain + length own) ∷ [] ≡ g.places ++ (length R + length g.own) ∷ [] = ap (λ ps. ps ++ (length chain + length own) ∷ []) holds.places_are ∙ ap (λ n. g.places ++ n ∷ []) place in
        let own-are : map row_form own' ≡ g.own ++ row_form row ∷ [] = ap (map row_form) more' ∙ map-append row_form own (row ∷ []) ∙ ap (λ rs. rs ++ row_form row ∷ []) holds.own_are in
        record { places_are = more ∙ places-are ∙ next.places_are; own_are = own-are ∙ next.own_are; free_are = next.free_are }

-- ## The loop

-- the placing of the first rows
abbrev pub so_far : List Row → List Row → ℕ → Placing
so_far chain rows n = fold (placed (map row_form chain)) no_rows (take n (map row_form rows))

abbrev pub HoldsAt : List Row → List Row → ℕ → List ℕ → List Row → FreePlaces → Type 0
HoldsAt chain rows n places own free = Holds (map row_form chain) (so_far chain rows n) places (map row_form own) free

-- the placing of one row more
so-far-more : (chain rows : List Row) (i : ℕ) (d : Row) → i < length rows → so_far chain rows (i + 1) ≡ placed (map row_form chain) (so_far chain rows i) (row_form (get_or rows i d))
so-far-more chain rows i d low =
    fold_more (placed (map row_form chain)) no_rows (map row_form rows) i (row_form d) (omega (arith, low, length-map rows row_form))
    ∙ ap (placed (map row_form chain) (so_far chain rows i)) (got (map row_form rows) i (row_form d) (row_form (get_or rows i d)) (map-at row_form rows i d low))
  where
    got : (xs : List (Form Bytes)) (i : ℕ) (d x : Form Bytes) → slice_get xs i ≡ Some x → get_or xs i d ≡ x
    got [] i d x at = absurd cc
    got (y ∷ xs) zero d x at = cc
    got (y ∷ xs) (suc i) d x at = got xs i d x at

pub places-so-far : (chain rows : List Row) (i : ℕ) → i ≤ length rows → length (so_far chain rows i).places ≡ i
places-so-far chain rows i low = all-places (map row_form chain) (take i (map row_form rows)) ∙ length-take-of (map row_form rows) i (omega (arith, low, length-map rows row_form))
  where
    length-take-of : {X : Type 0} (xs : List X) (i : ℕ) → i ≤ length xs → length (take i xs) ≡ i
    length-take-of xs zero low = refl
    length-take-of [] (suc i) low = absurd (omega (arith, low))
    length-take-of (x ∷ xs) (suc i) low = omega (arith, length-take-of xs i (omega (arith, low)))

-- a row's links lead to rows that have places
pub links-low : (chain rows : List Row) (i : ℕ) (d : Row) → i < length rows → rows_lead_back 0 (map row_form rows) ≡ true → (places : List ℕ) (own : List Row) (free : FreePlaces) → HoldsAt chain rows i places own free
    → (row : Row) → row ≡ get_or rows i d → (k : ℕ) → 0 < count k (links_of (Some (row_form row))) → k < length places
links-low chain rows i d low back places own free holds row at k some =
    omega (
      arith,
      ap length holds.places_are,
      places-so-far chain rows i (omega (arith, low)),
      lead-back-at 0 (map row_form rows) back i k (omega (arith, some, ap (λ o. count k (links_of o)) (map-at row_form rows i d low ∙ ap (λ (r : Row). Some (row_form r)) (sym at)))),
    )

pub row-placed : (chain rows : List Row) (i : ℕ) (d : Row) → i < length rows → (places : List ℕ) (own : List Row) (free : FreePlaces) → HoldsAt chain rows i places own free
    → (old row : Row) → old ≡ get_or rows i d → row_form row ≡ relink (slice_index places) (row_form old) → (places' : List ℕ) (own' : List Row) (free' : FreePlaces)
    → Holds (map row_form chain) (placed_row (map row_form chain) (so_far chain rows i) (row_form row)) places' (map row_form own') free' → HoldsAt chain rows (i + 1) places' own' free'
row-placed chain rows i d low places own free holds old row at made places' own' free' next =
    subst (λ g'. Holds (map row_form chain) g' places' (map row_form own') free')
    (ap (placed_row (map row_form chain) (so_far chain rows i)) (made ∙ ap (λ ps. relink (slice_index ps) (row_form old)) holds.places_are ∙ ap (λ (r : Row). relink (slice_index (so_far chain rows i).places) (row_form r)) at)
    ∙ sym (so-far-more chain rows i d low)) next
