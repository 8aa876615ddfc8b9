-- Equal lists: cells go together as their values do.
use Rattle.std.proofs.Common.{◌≡◌, ℕ, zero, suc, ◌<◌, List, [], ◌∷◌, length, map, get_or, drop, Option, Some, None, refl, ap, sym, ◌∙◌, subst, arith}
use Rattle.std.specs.Prelude.{option_map}
use Rattle.std.specs.List.{AllZip}
use Rattle.std.specs.declared.cmp.Ordering.{Ordering}
use Rattle.std.specs.declared.cmp.Ordering.TheVariants.{Equal}
use Rattle.node_heap.specs.Forms.{Row, cell, node, form_of, value_of}
use Rattle.node_heap.specs.Heap.{Heap, row_at, form_at}
use Rattle.rrb_core.specs.Vector.{elements}
use Rattle.same_value.specs.Cells.{IsCellLink, IsSameCell, IsLines, IsSameLines}
use Rattle.versions.specs.Rooted.{value_at, IsListOf}

-- both are there, and the order calls them equal
abbrev AreTied : {T : Type 0} → (T → T → Ordering) → Option T → Option T → Type 0
AreTied cmp None o = ⊥
AreTied cmp (Some x) None = ⊥
AreTied cmp (Some x) (Some y) = cmp x y ≡ Equal

module _ {T : Type 0} where
  form-value : (r : Option (Row T)) → value_of (option_map form_of r) ≡ value_of r
  form-value None = refl
  form-value (Some (cell x)) = refl
  form-value (Some (node head links)) = refl

  cell-form : (r : Option (Row T)) (x : T) → value_of r ≡ Some x → option_map form_of r ≡ Some (cell x)
  cell-form None x is = absurd (let e = is in cc)
  cell-form (Some (cell y)) x is = ap (option_map cell) is
  cell-form (Some (node head links)) x is = absurd (let e = is in cc)

  -- each link of a list names a cell
  cells-there : (h : Heap T) (zs : List ℕ) (xs : List T) → map (value_at h) zs ≡ map Some xs → (k d : ℕ) → k < length zs → IsCellLink (form_at h) (get_or zs k d)
  cells-there h [] xs is k d low = absurd (omega (arith, low))
  cells-there h (z ∷ zs) [] is k d low = absurd (let e = is in cc)
  cells-there h (z ∷ zs) (x ∷ xs) is zero d low = (x, cell-form (row_at h z) x (ap (λ os. get_or os 0 None) is))
  cells-there h (z ∷ zs) (x ∷ xs) is (suc k) d low = cells-there h zs xs (ap (drop 1) is) k d (omega (arith, low))

  pub list-lines : (h : Heap T) (l : ℕ) (xs : List T) → IsListOf h l xs → IsLines h l
  list-lines h l xs is = record { good = is.good; cells = cells-there h (elements h l) xs is.cells }

  module _ (cmp : T → T → Ordering) (h : Heap T) where
    tied-cells : (l m : ℕ) → IsSameCell cmp (form_at h) l m → AreTied cmp (value_at h l) (value_at h m)
    tied-cells l m same =
        let first : value_at h l ≡ Some same.first = sym (form-value (row_at h l)) ∙ ap value_of same.here in
        let second : value_at h m ≡ Some same.second = sym (form-value (row_at h m)) ∙ ap value_of same.there in
        subst (λ o. AreTied cmp o (value_at h m)) (sym first) (subst (AreTied cmp (Some same.first)) (sym second) same.equal)

    cells-tied : (l m : ℕ) (o p : Option T) → value_at h l ≡ o → value_at h m ≡ p → AreTied cmp o p → IsSameCell cmp (form_at h) l m
    cells-tied l m None p here there tied = absurd tied
    cells-tied l m (Some x) None here there tied = absurd tied
    cells-tied l m (Some x) (Some y) here there tied = record { first = x; second = y; here = cell-form (row_at h l) x here; there = cell-form (row_at h m) y there; equal = tied }

    zip-values : (zs ws : List ℕ) → AllZip (IsSameCell cmp (form_at h)) zs ws → AllZip (AreTied cmp) (map (value_at h) zs) (map (value_at h) ws)
    zip-values [] [] zip = tt
    zip-values [] (w ∷ ws) zip = absurd zip
    zip-values (z ∷ zs) [] zip = absurd zip
    zip-values (z ∷ zs) (w ∷ ws) zip = (tied-cells z w zip.0, zip-values zs ws zip.1)

    zip-cells : (zs ws : List ℕ) → AllZip (AreTied cmp) (map (value_at h) zs) (map (value_at h) ws) → AllZip (IsSameCell cmp (form_at h)) zs ws
    zip-cells [] [] zip = tt
    zip-cells [] (w ∷ ws) zip = absurd zip
    zip-cells (z ∷ zs) [] zip = absurd zip
    zip-cells (z ∷ zs) (w ∷ ws) zip = (cells-tied z w (value_at h z) (value_at h w) refl refl zip.0, zip-cells zs ws zip.1)

    zip-bare : (xs ys : List T) → AllZip (AreTied cmp) (map Some xs) (map Some ys) → AllZip (λ x y. cmp x y ≡ Equal) xs ys
    zip-bare [] [] zip = tt
    zip-bare [] (y ∷ ys) zip = absurd zip
    zip-bare (x ∷ xs) [] zip = absurd zip
    zip-bare (x ∷ xs) (y ∷ ys) zip = (zip.0, zip-bare xs ys zip.1)

    zip-some : (xs ys : List T) → AllZip (λ x y. cmp x y ≡ Equal) xs ys → AllZip (AreTied cmp) (map Some xs) (map Some ys)
    zip-some [] [] zip = tt
    zip-some [] (y ∷ ys) zip = absurd zip
    zip-some (x ∷ xs) [] zip = absurd zip
    zip-some (x ∷ xs) (y ∷ ys) zip = (zip.0, zip-some xs ys zip.1)

    -- two vectors of cells are the same lines where their lists are equal
    module _ (l m : ℕ) (xs ys : List T) (is : IsListOf h l xs) (are : IsListOf h m ys) where
      pub lines-lists : IsSameLines cmp h l m → AllZip (λ x y. cmp x y ≡ Equal) xs ys
      lines-lists zip = zip-bare xs ys (subst (λ os. AllZip (AreTied cmp) os (map Some ys)) is.cells (subst (AllZip (AreTied cmp) (map (value_at h) (elements h l))) are.cells (zip-values (elements h l) (elements h m) zip)))

      pub lists-lines : AllZip (λ x y. cmp x y ≡ Equal) xs ys → IsSameLines cmp h l m
      lists-lines zip = zip-cells (elements h l) (elements h m) (subst (λ os. AllZip (AreTied cmp) os (map (value_at h) (elements h m))) (sym is.cells) (subst (AllZip (AreTied cmp) (map Some xs)) (sym are.cells) (zip-some xs ys zip)))
