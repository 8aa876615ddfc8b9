-- Which rows of a path are alone, and which are written.
use Rattle.std.proofs.Common.{◌≡◌, ◌≢◌, ℕ, suc, zero, ◌+◌, ◌*◌, ◌-◌, ◌<◌, ◌≤◌, List, [], ◌∷◌, length, take, get_or, refl, ap, sym, subst, ◌∙◌, arith, Bool, true, false, inl, inr}
use Rattle.std.specs.Prelude.{◌↔◌, ◌==◌, slice_index, if◌then◌else◌}
use Rattle.std.proofs.lemmas.Bool.{cases_eq}
use Rattle.std.proofs.lemmas.Bool.Decides.{nat_tests}
use Rattle.node_heap.specs.Links.{count, HasLink, Reaches, here}
use Rattle.node_heap.specs.Heap.{Heap, links_at, owners_at, one_at, IsGraph}
use Rattle.node_heap.specs.Calls.{KeepsOwners}
use Rattle.node_heap.specs.InPlace.{other_at}
use Rattle.node_heap.specs.Owner.{alone, written, KeepsAlone}
use Rattle.node_heap.proofs.BuildLemmas.{count-one}
use Rattle.node_heap.proofs.Counts.{test_other}
use Rattle.node_heap.proofs.GraphLemmas.{IsGraph-acyclic, IsGraph-owned}

module _ {T : Type 0} where
  pub alone-yes : (h : Heap T) (x : ℕ) (xs : List ℕ) → owners_at h x ≡ 1 → alone h (x ∷ xs) ≡ 1 + alone h xs
  alone-yes h x xs one =
      let test : (owners_at h x == 1) ≡ true = grind (arith, nat_tests, one) in
      ap (λ (b : Bool). if b then 1 + alone h xs else 0) test

  pub alone-no : (h : Heap T) (x : ℕ) (xs : List ℕ) → owners_at h x ≢ 1 → alone h (x ∷ xs) ≡ 0
  alone-no h x xs other =
      let test : (owners_at h x == 1) ≡ false = grind (arith, nat_tests, other) in
      ap (λ (b : Bool). if b then 1 + alone h xs else 0) test

  pub alone-same : (g h : Heap T) (xs : List ℕ) → ((k : ℕ) → owners_at g k ≡ owners_at h k) → alone g xs ≡ alone h xs
  alone-same g h [] same = refl
  alone-same g h (x ∷ xs) same = ap (λ (k : ℕ). if k == 1 then 1 + alone g xs else 0) (same x) ∙ ap (λ (m : ℕ). if owners_at h x == 1 then 1 + m else 0) (alone-same g h xs same)

  pub KeepsAlone-none : (h : Heap T) → KeepsAlone h [] []
  KeepsAlone-none h = record { places = refl; same = λ j lt. absurd (omega (arith, lt)) }

  -- each row had as many owners before
  pub KeepsAlone-owners : {old mid : Heap T} {path path' : List ℕ} → KeepsOwners old mid → KeepsAlone mid path path' → KeepsAlone old path path'
  KeepsAlone-owners {old} {mid} {path} owners keep = record {
    places = keep.places;
    same = λ j lt.
        let was = keep.same j lt in
        let rows = alone-same mid old path owners in
        (λ e. omega (arith, was.0 e, rows), λ low. was.1 (omega (arith, low, rows)));
  }

  -- a row with one owner before a path
  pub KeepsAlone-cons : (h : Heap T) (x : ℕ) (path path' : List ℕ) → owners_at h x ≡ 1 → KeepsAlone h path path' → KeepsAlone h (x ∷ path) (x ∷ path')
  KeepsAlone-cons h x path path' one keep = record { places = ap suc keep.places; same = each }
    where
      each : (j : ℕ) → j < length (x ∷ path) → (slice_index (x ∷ path') j ≡ slice_index (x ∷ path) j) ↔ (j < alone h (x ∷ path))
      each zero lt = (λ _. omega (arith, alone-yes h x path one), λ _. refl)
      each (suc j) lt =
          let was = keep.same j (omega (arith, lt)) in
          (λ e. omega (arith, alone-yes h x path one, was.0 e), λ low. was.1 (omega (arith, alone-yes h x path one, low)))

  -- a row with one owner before a path is written
  pub written-cons : (h : Heap T) (x : ℕ) (path : List ℕ) → owners_at h x ≡ 1 → written h (x ∷ path) ≡ x ∷ written h path
  written-cons h x path one =
      let size : alone h (x ∷ path) ≡ suc (alone h path) = omega (arith, alone-yes h x path one) in
      ap (λ (k : ℕ). take k (x ∷ path)) size

  -- the first row of a path is made one's own, and the next one, if any, is a link of it
  module _ (old mid : Heap T) (x c : ℕ) (rest : List ℕ) (same : (c ≡ x) ↔ (owners_at old x ≡ 1)) (sole : owners_at mid c ≡ 1)
      (owners : (k : ℕ) → owners_at mid k + one_at x k ≡ owners_at old k + (one_at c k + other_at x c * count k (links_at old x)))
      (graph : IsGraph old) (next : 1 ≤ length rest → HasLink (links_at old) x (get_or rest 0 0)) where
    -- the row itself keeps all owners
    all-same : c ≡ x → (k : ℕ) → owners_at mid k ≡ owners_at old k
    all-same is k =
        let none : other_at x c ≡ 0 = grind (arith, nat_tests, is) in
        omega (arith, owners k, ap (λ (j : ℕ). one_at j k) is, ap (λ (m : ℕ). m * count k (links_at old x)) none)

    -- below a copy no row is alone
    none-alone : c ≢ x → alone mid rest ≡ 0
    none-alone off = lone rest next
      where
        lone : (xs : List ℕ) → (1 ≤ length xs → HasLink (links_at old) x (get_or xs 0 0)) → alone mid xs ≡ 0
        lone [] next = refl
        lone (k ∷ ks) next =
            let has = next (omega arith) in
            let owned = IsGraph-owned old graph k (graph.closed x k has) in
            let below : k ≢ x = λ same. IsGraph-acyclic old graph x k has (subst (Reaches (links_at old) k) same (here k)) in
            let whole : other_at x c ≡ 1 = grind (arith, nat_tests, off) in
            let more = owners k in
            let apart : one_at x k ≡ 0 = test_other k x below in
            alone-no mid k ks (λ one. omega (arith, one, more, apart, ap (λ (m : ℕ). m * count k (links_at old x)) whole, has, owned))

    -- such a path has one alone row more where that was copied, since none below it was
    pub alone-own : alone mid (c ∷ rest) ≡ alone old (x ∷ rest) + other_at x c
    alone-own = elim (cases_eq c x) as (λ _. alone mid (c ∷ rest) ≡ alone old (x ∷ rest) + other_at x c) [
      | inl is ↦
          let none : other_at x c ≡ 0 = grind (arith, nat_tests, is) in
          omega (arith, none, alone-same mid old (c ∷ rest) (all-same is) ∙ ap (λ (j : ℕ). alone old (j ∷ rest)) is)
      | inr off ↦
          let one : other_at x c ≡ 1 = grind (arith, nat_tests, off) in
          omega (arith, one, alone-yes mid c rest sole, none-alone off, alone-no old x rest (λ e. off (same.1 e)))
    ]

    pub KeepsAlone-own : (path' : List ℕ) → KeepsAlone mid (c ∷ rest) path' → KeepsAlone old (x ∷ rest) path'
    KeepsAlone-own path' keep = elim (cases_eq (owners_at old x) 1) as (λ _. KeepsAlone old (x ∷ rest) path') [
      | inl one ↦ itself (same.1 one)
      | inr other ↦ copied other
    ]
      where
        itself : c ≡ x → KeepsAlone old (x ∷ rest) path'
        itself is =
            let rows : alone mid (c ∷ rest) ≡ alone old (x ∷ rest) = alone-same mid old (c ∷ rest) (all-same is) ∙ ap (λ (j : ℕ). alone old (j ∷ rest)) is in
            record {
              places = keep.places;
              same = λ j lt.
                  let was = keep.same j lt in
                  let at = ap (λ (i : ℕ). slice_index (i ∷ rest) j) is in
                  (λ e. omega (arith, was.0 (e ∙ sym at), rows), λ low. was.1 (omega (arith, low, rows)) ∙ at);
            }

        copied : owners_at old x ≢ 1 → KeepsAlone old (x ∷ rest) path'
        copied other = record { places = keep.places; same = each }
          where
            off : c ≢ x
            off e = other (same.0 e)

            none : alone old (x ∷ rest) ≡ 0
            none = alone-no old x rest other

            first : alone mid (c ∷ rest) ≡ 1
            first = omega (arith, alone-yes mid c rest sole, none-alone off)

            each : (j : ℕ) → j < length (x ∷ rest) → (slice_index path' j ≡ slice_index (x ∷ rest) j) ↔ (j < alone old (x ∷ rest))
            each zero lt =
                let was = keep.same 0 (omega arith) in
                (λ e. absurd (off (sym (was.1 (omega (arith, first))) ∙ e)), λ low. absurd (omega (arith, low, none)))
            each (suc j) lt =
                let was = keep.same (suc j) lt in
                (λ e. absurd (omega (arith, was.0 e, first)), λ low. absurd (omega (arith, low, none)))

    -- what isn't written then wasn't before, but for a copy
    pub written-own : (m : ℕ) → (c ≢ x → m ≢ c) → count m (written old (x ∷ rest)) ≡ 0 → count m (written mid (c ∷ rest)) ≡ 0
    written-own m apart off = elim (cases_eq c x) as (λ _. count m (written mid (c ∷ rest)) ≡ 0) [
      | inl is ↦
          let rows : written mid (c ∷ rest) ≡ written old (x ∷ rest) = ap (λ (k : ℕ). take k (c ∷ rest)) (alone-same mid old (c ∷ rest) (all-same is)) ∙ ap (λ (j : ℕ). written old (j ∷ rest)) is in
          ap (count m) rows ∙ off
      | inr other ↦
          let rows : written mid (c ∷ rest) ≡ c ∷ [] = written-cons mid c rest sole ∙ ap (λ (k : ℕ). c ∷ take k rest) (none-alone other) in
          ap (count m) rows ∙ omega (arith, count-one m c, test_other m c (apart other))
    ]

  -- a copy of a path's first row costs what makes up for the rows below it, which aren't alone then
  pub alone-copied : (old mid : Heap T) (x c : ℕ) (rest : List ℕ) → (c ≡ x) ↔ (owners_at old x ≡ 1) → owners_at mid c ≡ 1
      → ((k : ℕ) → owners_at mid k + one_at x k ≡ owners_at old k + (one_at c k + other_at x c * count k (links_at old x)))
      → other_at x c + (length (c ∷ rest) - alone mid (c ∷ rest)) ≤ length (x ∷ rest) - alone old (x ∷ rest)
  alone-copied old mid x c rest same sole owners = elim (cases_eq c x) as (λ _. other_at x c + (length (c ∷ rest) - alone mid (c ∷ rest)) ≤ length (x ∷ rest) - alone old (x ∷ rest)) [
    | inl is ↦
        let none : other_at x c ≡ 0 = grind (arith, nat_tests, is) in
        let all : (k : ℕ) → owners_at mid k ≡ owners_at old k = λ k. omega (arith, owners k, ap (λ (j : ℕ). one_at j k) is, ap (λ (m : ℕ). m * count k (links_at old x)) none) in
        let rows : alone mid (c ∷ rest) ≡ alone old (x ∷ rest) = alone-same mid old (c ∷ rest) all ∙ ap (λ (j : ℕ). alone old (j ∷ rest)) is in
        omega (arith, none, rows)
    | inr off ↦
        let one : other_at x c ≡ 1 = grind (arith, nat_tests, off) in
        omega (arith, one, alone-yes mid c rest sole, alone-no old x rest (λ e. off (same.1 e)))
  ]

  -- a body that always copies, and one that writes a shared row, don't keep what is alone
  pub alone-stays : (h : Heap T) (x : ℕ) (path path' : List ℕ) → owners_at h x ≡ 1 → KeepsAlone h (x ∷ path) path' → slice_index path' 0 ≡ x
  alone-stays h x path path' one keep = (keep.same 0 (omega arith)).1 (omega (arith, alone-yes h x path one))

  pub shared-goes : (h : Heap T) (x : ℕ) (path path' : List ℕ) → owners_at h x ≢ 1 → KeepsAlone h (x ∷ path) path' → slice_index path' 0 ≢ x
  shared-goes h x path path' other keep same = absurd (omega (arith, (keep.same 0 (omega arith)).0 same, alone-no h x path other))
