-- Laws of each way to compare entries. They stand here since the members of the ways' impls cite them.
use Rattle.std.proofs.Common.{◌≡◌, ℕ, List, [], ◌∷◌, refl, ap, sym, subst, ◌∙◌, Some, IsSome}
use Rattle.std.specs.List.{All, AllZip}
use Rattle.std.proofs.lemmas.List.Elements.{All-head, All-tail}
use Rattle.std.specs.Cmp.{IsTotalOrder, tied_itself}
use Rattle.std.specs.declared.cmp.Ordering.{Ordering}
use Rattle.std.specs.declared.cmp.Ordering.TheVariants.{Equal}
use Rattle.node_heap.specs.Forms.{Forms, Kind, cell, node, pair, value_of}
use Rattle.node_heap.specs.Heap.{Heap, form_at}
use Rattle.champ_chain.specs.Entry.{key_at, key_of}
use Rattle.champ_chain.proofs.SetLemmas.{same-refl}
use Rattle.champ_kinds.specs.Laws.{GoOneToOne}
use Rattle.rrb_core.specs.Vector.{elements}
use Rattle.same_value.specs.Cells.{IsCellLink, IsSameCell, IsLines, IsSameLines}
use Rattle.same_value.specs.Entries.{IsPairOf, IsSamePair}
use Rattle.same_value.specs.Contents.{IsStateLink, IsSameState, IsSameBinding}

some-same : {X : Type 0} (x y : X) → Some x ≡ Some y → x ≡ y
some-same x y e = cc

module _ {K : Type 0} (cmp : K → K → Ordering) where
  pub cell-itself : (o : IsTotalOrder cmp) (F : Forms K) (l : ℕ) → IsCellLink F l → IsSameCell cmp F l l
  cell-itself o F l is = record { first = is.0; second = is.0; here = is.1; there = is.1; equal = tied_itself o is.0 }

  pub cell-keyed : (F : Forms K) (l m : ℕ) → IsSameCell cmp F l m → IsSome (key_at F l)
  cell-keyed F l m same = subst IsSome (sym (ap (key_of F) same.here)) refl

  pub cell-keys : (F : Forms K) (l m : ℕ) (j k : K) → IsSameCell cmp F l m → key_at F l ≡ Some j → key_at F m ≡ Some k → cmp j k ≡ Equal
  cell-keys F l m j k same here there =
      let a : same.first ≡ j = some-same _ _ (sym (ap (key_of F) same.here) ∙ here) in
      let b : same.second ≡ k = some-same _ _ (sym (ap (key_of F) same.there) ∙ there) in
      subst (λ i. cmp i k ≡ Equal) a (subst (λ i. cmp same.first i ≡ Equal) b same.equal)

  pub cell-outermost : (F : Forms K) (l k m : ℕ) (kind : Kind) (ks : List ℕ) → IsCellLink F l → F l ≡ Some (node kind (k ∷ ks)) → ¬ IsSameCell cmp F k m
  cell-outermost F l k m kind ks is row same = (let bad : Some (cell is.0) ≡ Some (node kind (k ∷ ks)) = sym is.1 ∙ row in cc)

  module _ (o : IsTotalOrder cmp) (F : Forms K) (IsValue : ℕ → Type 0) (IsSame : ℕ → ℕ → Type 0) where
    pub pair-itself : ((l : ℕ) → IsValue l → IsSame l l) → (l : ℕ) → IsPairOf F IsValue l → IsSamePair F cmp IsSame l l
    pair-itself itself l is = record {
      value = is.value;
      other_value = is.value;
      keys = record { key_cell = is.key_cell; row = is.row; other_key_cell = is.key_cell; other_row = is.row; keys = cell-itself o F is.key_cell (is.key, is.cell) };
      values = itself is.value is.good;
    }

  module _ (F : Forms K) where
    first-key : (l k v : ℕ) (x : K) → F l ≡ Some (node pair (k ∷ v ∷ [])) → F k ≡ Some (cell x) → key_at F l ≡ Some x
    first-key l k v x row is = ap (key_of F) row ∙ ap value_of is

    module _ (IsSame : ℕ → ℕ → Type 0) where
      pub pair-keyed : (l m : ℕ) → IsSamePair F cmp IsSame l m → IsSome (key_at F l)
      pair-keyed l m same = subst IsSome (sym (first-key l same.keys.key_cell same.value same.keys.keys.first same.keys.row same.keys.keys.here)) refl

      pub pair-keys : (l m : ℕ) (j k : K) → IsSamePair F cmp IsSame l m → key_at F l ≡ Some j → key_at F m ≡ Some k → cmp j k ≡ Equal
      pair-keys l m j k same here there =
          let keys = same.keys in
          let a : keys.keys.first ≡ j = some-same _ _ (sym (first-key l keys.key_cell same.value keys.keys.first keys.row keys.keys.here) ∙ here) in
          let b : keys.keys.second ≡ k = some-same _ _ (sym (first-key m keys.other_key_cell same.other_value keys.keys.second keys.other_row keys.keys.there) ∙ there) in
          subst (λ i. cmp i k ≡ Equal) a (subst (λ i. cmp keys.keys.first i ≡ Equal) b keys.keys.equal)

  pub pair-outermost : (F : Forms K) (IsValue : ℕ → Type 0) (IsSame : ℕ → ℕ → Type 0) (l k m : ℕ) (kind : Kind) (ks : List ℕ) → IsPairOf F IsValue l → F l ≡ Some (node kind (k ∷ ks)) → ¬ IsSamePair F cmp IsSame k m
  pair-outermost F IsValue IsSame l k m kind ks is row same =
      let rows : Some (node pair (is.key_cell ∷ is.value ∷ [])) ≡ Some (node kind (k ∷ ks)) = sym is.row ∙ row in
      let at : is.key_cell ≡ k = cc in
      let bad : Some (cell is.key) ≡ Some (node pair (same.keys.key_cell ∷ same.value ∷ [])) = sym is.cell ∙ ap F at ∙ same.keys.row in
      cc

module _ {X : Type 0} (R : X → X → Type 0) where
  pub all-itself : (P : X → Type 0) → ((x : X) → P x → R x x) → (xs : List X) → All P xs → AllZip R xs xs
  all-itself P each [] all = tt
  all-itself P each (x ∷ xs) all = (each x (All-head P x xs all), all-itself P each xs (All-tail P x xs all))

  pub go-itself : (P : X → Type 0) → ((x : X) → P x → R x x) → (xs : List X) → All P xs → GoOneToOne R xs xs
  go-itself P each xs all = (xs, same-refl xs, all-itself P each xs all)

module _ {T : Type 0} (cmp : T → T → Ordering) (o : IsTotalOrder cmp) where
  pub lines-itself : (h : Heap T) (l : ℕ) → IsLines h l → IsSameLines cmp h l l
  lines-itself h l is = all-itself (IsSameCell cmp (form_at h)) (IsCellLink (form_at h)) (cell-itself cmp o (form_at h)) (elements h l) is.cells

  pub state-itself : (code : T → ℕ) (h : Heap T) (bits l : ℕ) → IsStateLink cmp code h bits l → IsSameState cmp code h bits l l
  state-itself code h bits l is = record {
    first = is;
    second = is;
    maps = go-itself (IsSameBinding cmp (IsSameLines cmp h)) (λ b. IsLines h b.value) (λ b lines. (tied_itself o b.key, lines-itself h b.value lines)) is.bindings is.map.values;
    sets = go-itself (λ e d. cmp e.key d.key ≡ Equal) (λ e. Unit {0}) (λ e any. tied_itself o e.key) is.entries (λ k d low. tt);
  }
