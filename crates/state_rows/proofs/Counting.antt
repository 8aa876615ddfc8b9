-- The number of a state's buffers and of their lines, along a walk over them.
use Rattle.std.proofs.Common.{◌≡◌, ℕ, ◌+◌, ◌*◌, ◌^◌, ◌<◌, ◌≤◌, List, [], ◌∷◌, ◌++◌, Some, option_map, map, length, refl, sym, subst, ◌∙◌, arith}
use Rattle.std.specs.List.{AllZip, sum_by}
use Rattle.std.specs.FinMap as finite
use Rattle.std.proofs.lemmas.List.{map-id, length-append}
use Rattle.std.proofs.lemmas.List.Sums.{sum_by-cons, sum_by-append}
use Rattle.std.proofs.lemmas.List.Sorted.{length_permutation, sum_by-IsPermutation}
use Rattle.node_heap.specs.Heap.{Heap, form_at}
use Rattle.rrb_core.specs.Vector.{IsGoodVector}
use Rattle.champ_chain.specs.Entry.{SameSet}
use Rattle.shell_terms.specs.Edit.{Bytes}
use Rattle.plain_space.specs.Workspace.{Named}
use Rattle.state_rows.specs.InHeap.{AreLinesIn, AreBuffersIn}
use Rattle.state_rows.specs.Listing.{IsSizeAt}
use Rattle.state_rows.proofs.Contents.{keys-apart, keys-there}
use Rattle.state_rows.proofs.Zips.{zip-push}
use Rattle.state_rows.proofs.Keys.{with_values}
use Rattle.state_rows.proofs.Listed.{permuted, names-listed, all-listed, entry-names, size-values, listing-turned}

-- the number of lines of all of these buffers
abbrev pub line_count : List (Bytes × ℕ) → ℕ
line_count sizes = sum_by (λ size. size.1) sizes

module _ (h : Heap Bytes) where
  -- the links are so many entries of buffers, with so many lines together
  pub record AreTotals (links : List ℕ) (buffers lines : ℕ) : Type 0 where
    pub sizes : List (Bytes × ℕ)
    pub each : AllZip (IsSizeAt h) links sizes
    pub number : buffers ≡ length sizes
    pub sum : lines ≡ line_count sizes
    pub few : lines ≤ 2 ^ 32 * buffers

  pub totals-none : AreTotals [] 0 0
  totals-none = record { sizes = []; each = tt; number = refl; sum = refl; few = omega arith }

  pub totals-more : (links : List ℕ) (buffers lines : ℕ) (link : ℕ) (size : Bytes × ℕ) → AreTotals links buffers lines → IsSizeAt h link size → size.1 < 2 ^ 32
      → AreTotals (links ++ link ∷ []) (buffers + 1) (lines + size.1)
  totals-more links buffers lines link size are at small = record {
    sizes = are.sizes ++ size ∷ [];
    each = zip-push (IsSizeAt h) links are.sizes link size are.each at;
    number = omega (arith, are.number, length-append are.sizes (size ∷ []));
    sum = omega (arith, are.sum, sum_by-append (λ (s : Bytes × ℕ). s.1) are.sizes (size ∷ []), sum_by-cons (λ (s : Bytes × ℕ). s.1) size []);
    few = omega (arith, are.few, small);
  }

  -- the totals of all entries of a map of buffers are those of its sizes
  pub totals-all : (bits l : ℕ) (m : Named (List Bytes)) (is : AreBuffersIn h bits l m) (links : List ℕ) (buffers lines : ℕ) → SameSet links (map (λ e. e.link) is.entries) → AreTotals links buffers lines
      → (buffers ≡ length (with_values length (finite.entries m))) × (lines ≡ line_count (with_values length (finite.entries m)))
  totals-all bits l m is links buffers lines same are =
      let E = is.entries in
      let names = names-listed (IsSizeAt h) (λ size. size.0) E links are.sizes (λ i d low size at. entry-names h (IsGoodVector h) bits (AreLinesIn h bits) l m is i d low size.0 at.entry) same are.each in
      let values = all-listed (IsSizeAt h) (λ size. option_map length (finite.get m size.0) ≡ Some size.1) E links are.sizes (size-values h bits l m is) same are.each in
      let turned = listing-turned (λ size. size.0) (λ size. size.1) m length (map (λ e. e.key) E) are.sizes names
      (keys-apart (form_at h) (IsGoodVector h) bits (AreLinesIn h bits) l m is) (keys-there (form_at h) (IsGoodVector h) bits (AreLinesIn h bits) l m is) values in
      let moved = permuted are.sizes (with_values length (finite.entries m)) (subst (λ (xs : List (Bytes × ℕ)). SameSet xs (with_values length (finite.entries m))) (map-id are.sizes) turned) in
      (are.number ∙ sym (length_permutation are.sizes _ moved), are.sum ∙ sym (sum_by-IsPermutation (λ size. size.1) are.sizes _ moved))
