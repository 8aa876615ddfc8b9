-- The roots of sets and maps, as tries that are compared.
use Rattle.std.proofs.Common.{◌≡◌, ℕ, List, get_or, refl, ap, sym, subst}
use Rattle.std.specs.Prelude.{◌↔◌}
use Rattle.std.specs.Cmp.{IsTotalOrder}
use Rattle.std.specs.declared.cmp.Ordering.{Ordering}
use Rattle.std.specs.declared.cmp.Ordering.TheVariants.{Equal}
use Rattle.elem_core.specs.Codes.{masked_code}
use Rattle.elem_core.specs.declared.codes.TheConstants.{DEEPEST, LEVELS}
use Rattle.node_heap.specs.Heap.{Heap, form_at}
use Rattle.champ_chain.specs.Entry.{Entry}
use Rattle.champ_trie.specs.Trie.{IsTrie, code_by}
use Rattle.champ_kinds.specs.Root.{Root}
use Rattle.champ_kinds.specs.Binding.{Binding}
use Rattle.champ_kinds.specs.Kinds.{HasEntries, IsSetOf}
use Rattle.same_value.specs.Congruent.{Congruent, IsFrom}
use Rattle.same_value.specs.Cells.{IsCellLink, IsSameCell}
use Rattle.same_value.specs.CompareLaws.{cell-itself, cell-keyed, cell-keys, cell-outermost, pair-itself, pair-keyed, pair-keys, pair-outermost}
use Rattle.same_value.specs.Contents.{AreSameSets, AreSameMaps, IsMapWith}
use Rattle.same_value.specs.Entries.{IsPairOf, IsSamePair}
use Rattle.same_value.proofs.Contents.{congruent-contents, contents-congruent}
use Rattle.same_value.proofs.MapContents.{set-keys, key-sets, pairs-good, map-bindings, bindings-map}

module _ {T : Type 0} (cmp : T → T → Ordering) (o : IsTotalOrder cmp) (code : T → ℕ) (equal_codes : (j k : T) → cmp j k ≡ Equal → code j ≡ code k) (h : Heap T) where
  -- codes by so many bits
  by_bits : (bits : ℕ) (j k : T) → cmp j k ≡ Equal → code_by code bits j ≡ code_by code bits k
  by_bits bits j k same = ap (λ n. masked_code n bits) (equal_codes j k same)

  -- a root's trie, by the bits of another root
  root-trie : (r : Root) (bits l : ℕ) (E : List (Entry T)) → bits ≡ r.bits → l ≡ r.root → HasEntries cmp code h r E → IsTrie cmp (code_by code bits) (form_at h) LEVELS 0 l E
  root-trie r bits l E same at is =
      subst (λ b. IsTrie cmp (code_by code b) (form_at h) LEVELS 0 l E) (sym same) (subst (λ k. IsTrie cmp (code_by code r.bits) (form_at h) LEVELS 0 k E) (sym at) is.trie.trie)

  module _ (r s : Root) (bits : r.bits ≡ s.bits) (l m : ℕ) (at : l ≡ r.root) (at' : m ≡ s.root) where
    pub set-tries : (E D : List (Entry T)) → IsSetOf cmp code h r E → IsSetOf cmp code h s D → (by : T → ℕ) × IsFrom cmp (form_at h) (IsCellLink (form_at h)) by 0 l × IsFrom cmp (form_at h) (IsCellLink (form_at h)) by 0 m
    set-tries E D first second = (
      code_by code r.bits,
      record { left = LEVELS; entries = E; levels = refl; trie = root-trie r r.bits l E refl at first.rooted; good = λ k d low. ((get_or E k d).key, first.cells k d low) },
      record { left = LEVELS; entries = D; levels = refl; trie = root-trie s r.bits m D bits at' second.rooted; good = λ k d low. ((get_or D k d).key, second.cells k d low) },
    )

    pub set-congruent : (E D : List (Entry T)) → IsSetOf cmp code h r E → IsSetOf cmp code h s D → Congruent (form_at h) (λ x y. IsSameCell cmp (form_at h) x y) l m ↔ AreSameSets cmp E D
    set-congruent E D first second =
        let F = form_at h in
        let by = code_by code r.bits in
        let trie = root-trie r r.bits l E refl at first.rooted in
        let trie' = root-trie s r.bits m D bits at' second.rooted in (
          λ congruent. set-keys cmp F E D first.cells second.cells
              (congruent-contents cmp o by (by_bits r.bits) F (IsCellLink F) (IsSameCell cmp F) (cell-itself cmp o F) (cell-keyed cmp F) (cell-keys cmp F) (cell-outermost cmp F) DEEPEST 0 l m E D trie trie' (λ k d low. ((get_or E k d).key, first.cells k d low)) congruent),
          λ same. contents-congruent cmp o by (by_bits r.bits) F (IsCellLink F) (IsSameCell cmp F) (cell-itself cmp o F) (cell-keyed cmp F) (cell-keys cmp F) (cell-outermost cmp F) DEEPEST 0 l m E D trie trie' (key-sets cmp F E D first.cells second.cells same),
        )

    module _ (IsValue : ℕ → Type 0) (IsSame : ℕ → ℕ → Type 0) (itself : (v : ℕ) → IsValue v → IsSame v v) (M N : List (Binding T)) (first : IsMapWith cmp code h IsValue r M) (second : IsMapWith cmp code h IsValue s N) where
      pub map-tries : (by : T → ℕ) × IsFrom cmp (form_at h) (λ x. IsPairOf (form_at h) IsValue x) by 0 l × IsFrom cmp (form_at h) (λ x. IsPairOf (form_at h) IsValue x) by 0 m
      map-tries =
          let F = form_at h in (
            code_by code r.bits,
            record { left = LEVELS; entries = first.map.entries; levels = refl; trie = root-trie r r.bits l first.map.entries refl at first.map.rooted; good = pairs-good cmp F IsValue IsSame first.map.entries M first.map.pairs first.values },
            record { left = LEVELS; entries = second.map.entries; levels = refl; trie = root-trie s r.bits m second.map.entries bits at' second.map.rooted; good = pairs-good cmp F IsValue IsSame second.map.entries N second.map.pairs second.values },
          )

      pub map-congruent : Congruent (form_at h) (λ x y. IsSamePair (form_at h) cmp IsSame x y) l m ↔ AreSameMaps cmp IsSame M N
      map-congruent =
          let F = form_at h in
          let by = code_by code r.bits in
          let E = first.map.entries in
          let D = second.map.entries in
          let trie = root-trie r r.bits l E refl at first.map.rooted in
          let trie' = root-trie s r.bits m D bits at' second.map.rooted in
          let good = pairs-good cmp F IsValue IsSame E M first.map.pairs first.values in (
            λ congruent. map-bindings cmp F IsValue IsSame E D M N first.map.pairs second.map.pairs
                (congruent-contents cmp o by (by_bits r.bits) F (IsPairOf F IsValue) (IsSamePair F cmp IsSame) (pair-itself cmp o F IsValue IsSame itself) (pair-keyed cmp F IsSame) (pair-keys cmp F IsSame) (pair-outermost cmp F IsValue IsSame) DEEPEST 0 l m E D trie trie' good congruent),
            λ same. contents-congruent cmp o by (by_bits r.bits) F (IsPairOf F IsValue) (IsSamePair F cmp IsSame) (pair-itself cmp o F IsValue IsSame itself) (pair-keyed cmp F IsSame) (pair-keys cmp F IsSame) (pair-outermost cmp F IsValue IsSame) DEEPEST 0 l m E D
                trie trie' (bindings-map cmp F IsValue IsSame E D M N first.map.pairs second.map.pairs same),
          )
