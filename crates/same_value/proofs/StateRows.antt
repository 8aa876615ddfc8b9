-- The rows of states, and what their roots tell.
use Rattle.std.proofs.Common.{◌≡◌, ℕ, List, [], ◌∷◌, length, get_or, refl, ap, ◌∙◌, arith}
use Rattle.std.specs.Prelude.{◌↔◌}
use Rattle.std.specs.Cmp.{IsTotalOrder}
use Rattle.std.specs.declared.cmp.Ordering.{Ordering}
use Rattle.std.specs.declared.cmp.Ordering.TheVariants.{Equal}
use Rattle.node_heap.specs.Forms.{state, links_of}
use Rattle.node_heap.specs.Heap.{Heap, row_at, form_at}
use Rattle.champ_kinds.specs.Binding.{Binding}
use Rattle.champ_kinds.specs.Root.{Root}
use Rattle.same_value.specs.Congruent.{Congruent, IsFrom}
use Rattle.same_value.specs.Cells.{IsCellLink, IsSameCell, IsLines, IsSameLines}
use Rattle.same_value.specs.CompareLaws.{cell-itself, lines-itself, state-itself}
use Rattle.same_value.specs.Contents.{AreSameMaps, AreSameSets, IsMapWith, IsStateLink, IsValueOf, IsSameValue}
use Rattle.same_value.specs.Entries.{IsPairOf, IsSamePair}
use Rattle.same_value.specs.declared.values.Values.{Values}
use Rattle.same_value.specs.declared.values.Values.TheVariants.{Cells, Lines, States}
use Rattle.same_value.proofs.Roots.{set-tries, set-congruent, map-tries, map-congruent}
use Rattle.same_value.proofs.ReadRows.{read-row, read-at}

module _ {T : Type 0} (cmp : T → T → Ordering) (code : T → ℕ) (h : Heap T) (bits a : ℕ) (links : List ℕ) (is : links ≡ links_of (row_at h a)) (st : IsStateLink cmp code h bits a) where
  read : links ≡ st.map_root ∷ st.set_root ∷ []
  read = read-row h a state (st.map_root ∷ st.set_root ∷ []) links is st.row

  pub map-read : (x : ℕ) → x ≡ get_or links 0 x → x ≡ st.map_root
  map-read x at = read-at links 0 x (omega (arith, ap length read)) at ∙ ap (λ xs. get_or xs 0 0) read

  pub set-read : (x : ℕ) → x ≡ get_or links 1 x → x ≡ st.set_root
  set-read x at = read-at links 1 x (omega (arith, ap length read)) at ∙ ap (λ xs. get_or xs 1 0) read

module _ {T : Type 0} (cmp : T → T → Ordering) (o : IsTotalOrder cmp) (code : T → ℕ) (equal_codes : (j k : T) → cmp j k ≡ Equal → code j ≡ code k) (h : Heap T) where
  module _ (bits a b : ℕ) (links others : List ℕ) (is : links ≡ links_of (row_at h a)) (is' : others ≡ links_of (row_at h b)) (first : IsStateLink cmp code h bits a) (second : IsStateLink cmp code h bits b) where
    module _ (x y : ℕ) (at : x ≡ get_or links 0 x) (at' : y ≡ get_or others 0 y) where
      pub state-map-tries : (by : T → ℕ) × IsFrom cmp (form_at h) (λ l. IsPairOf (form_at h) (IsLines h) l) by 0 x × IsFrom cmp (form_at h) (λ l. IsPairOf (form_at h) (IsLines h) l) by 0 y
      state-map-tries =
          map-tries cmp o code equal_codes h (record { root = first.map_root; bits = bits }) (record { root = second.map_root; bits = bits }) refl x y (map-read cmp code h bits a links is first x at) (map-read cmp code h bits b others is' second y at') (IsLines h)
          (IsSameLines cmp h) (lines-itself cmp o h) first.bindings second.bindings first.map second.map

      pub state-map-congruent : Congruent (form_at h) (λ l m. IsSamePair (form_at h) cmp (IsSameLines cmp h) l m) x y ↔ AreSameMaps cmp (IsSameLines cmp h) first.bindings second.bindings
      state-map-congruent =
          map-congruent cmp o code equal_codes h (record { root = first.map_root; bits = bits }) (record { root = second.map_root; bits = bits }) refl x y (map-read cmp code h bits a links is first x at) (map-read cmp code h bits b others is' second y at') (IsLines h)
          (IsSameLines cmp h) (lines-itself cmp o h) first.bindings second.bindings first.map second.map

    module _ (x y : ℕ) (at : x ≡ get_or links 1 x) (at' : y ≡ get_or others 1 y) where
      pub state-set-tries : (by : T → ℕ) × IsFrom cmp (form_at h) (IsCellLink (form_at h)) by 0 x × IsFrom cmp (form_at h) (IsCellLink (form_at h)) by 0 y
      state-set-tries =
          set-tries cmp o code equal_codes h (record { root = first.set_root; bits = bits }) (record { root = second.set_root; bits = bits }) refl x y (set-read cmp code h bits a links is first x at) (set-read cmp code h bits b others is' second y at') first.entries
          second.entries first.set second.set

      pub state-set-congruent : Congruent (form_at h) (λ l m. IsSameCell cmp (form_at h) l m) x y ↔ AreSameSets cmp first.entries second.entries
      state-set-congruent =
          set-congruent cmp o code equal_codes h (record { root = first.set_root; bits = bits }) (record { root = second.set_root; bits = bits }) refl x y (set-read cmp code h bits a links is first x at) (set-read cmp code h bits b others is' second y at') first.entries
          second.entries first.set second.set

  -- every value is the same as itself
  pub value-itself : (values : Values) (bits v : ℕ) → IsValueOf cmp code h values bits v → IsSameValue cmp code h values bits v v
  value-itself Cells bits v is = cell-itself cmp o (form_at h) v is
  value-itself Lines bits v is = lines-itself cmp o h v is
  value-itself States bits v is = state-itself cmp o code h bits v is

  -- maps whose values are of this sort, and the sort and the bits as they are known where their tries are compared
  module _ (a b : Root) (bits : a.bits ≡ b.bits) (l m : ℕ) (at : l ≡ a.root) (at' : m ≡ b.root) (values sort : Values) (is : values ≡ sort) (width : ℕ) (wide : width ≡ a.bits)
      (M N : List (Binding T)) (first : IsMapWith cmp code h (IsValueOf cmp code h values a.bits) a M) (second : IsMapWith cmp code h (IsValueOf cmp code h values a.bits) b N) where
    pub value-tries : (by : T → ℕ) × IsFrom cmp (form_at h) (λ x. IsPairOf (form_at h) (IsValueOf cmp code h sort width) x) by 0 l × IsFrom cmp (form_at h) (λ x. IsPairOf (form_at h) (IsValueOf cmp code h sort width) x) by 0 m
    value-tries =
        rw (← is, wide)
        (map-tries cmp o code equal_codes h a b bits l m at at' (IsValueOf cmp code h values a.bits) (IsSameValue cmp code h values a.bits) (value-itself values a.bits) M N first second)

    -- what tells whether the tries are congruent tells whether the maps are the same
    pub value-same : (A : Type 0) → A ↔ Congruent (form_at h) (λ x y. IsSamePair (form_at h) cmp (IsSameValue cmp code h sort width) x y) l m → A ↔ AreSameMaps cmp (IsSameValue cmp code h values a.bits) M N
    value-same A told =
        let both : Congruent (form_at h) (λ x y. IsSamePair (form_at h) cmp (IsSameValue cmp code h sort width) x y) l m ↔ AreSameMaps cmp (IsSameValue cmp code h values a.bits) M N =
        rw (← is, wide)
        (map-congruent cmp o code equal_codes h a b bits l m at at' (IsValueOf cmp code h values a.bits) (IsSameValue cmp code h values a.bits) (value-itself values a.bits) M N first second) in
        (λ yes. both.0 (told.0 yes), λ maps. told.1 (both.1 maps))
