-- The texts of the cells that are a vector's elements.
use Rattle.std.proofs.Common.{◌≡◌, refl, sym, ◌∙◌, ap, subst, ℕ, zero, suc, ◌-◌, List, [], ◌∷◌, map, take, drop, arith, Option, Some, None, IsSome, option_map, unwrap_or, slice_get, slice_range, IsSomeAnd, MatchOption}
use Rattle.std.specs.List.{All, AllZip}
use Rattle.std.proofs.lemmas.List.{take-map, drop-map}
use Rattle.std.proofs.lemmas.List.Elements.{All-take, All-drop}
use Rattle.std.proofs.lemmas.Slice.Zip.{AllZip-left}
use Rattle.node_heap.specs.Forms.{Form, Forms, Row, cell, node, form_of, value_of}
use Rattle.node_heap.specs.Heap.{Heap, row_at, form_at}
use Rattle.rrb_core.specs.Vector.{IsGoodVector, elements}
use Rattle.shell_terms.specs.Edit.{Bytes}
use Rattle.state_rows.specs.Reading.{IsText}
use Rattle.state_rows.specs.InHeap.{AreLinesIn}
use Rattle.space_state.specs.Texts.{text_at, NamesCell}

module _ (F : Forms Bytes) (V : ℕ → Type 0) (bits : ℕ) where
  text-is : (l : ℕ) (text : Bytes) → IsText F V bits l text → text_at F l ≡ text
  text-is l text is = ap (λ (r : Option (Form Bytes)). unwrap_or (value_of r) []) is.row

  text-there : (l : ℕ) (text : Bytes) → IsText F V bits l text → NamesCell F l
  text-there l text is = subst (λ (r : Option (Form Bytes)). IsSome (value_of r)) (sym is.row) refl

  pub texts-are : (ks : List ℕ) (texts : List Bytes) → AllZip (IsText F V bits) ks texts → map (text_at F) ks ≡ texts
  texts-are [] [] zip = refl
  texts-are [] (t ∷ ts) zip = absurd zip
  texts-are (k ∷ ks) [] zip = absurd zip
  texts-are (k ∷ ks) (t ∷ ts) zip = ap (λ x. x ∷ map (text_at F) ks) (text-is k t zip.0) ∙ ap (λ xs. t ∷ xs) (texts-are ks ts zip.1)

  pub texts-there : (ks : List ℕ) (texts : List Bytes) → AllZip (IsText F V bits) ks texts → All (NamesCell F) ks
  texts-there [] texts zip k d short = absurd (omega arith)
  texts-there (j ∷ ks) [] zip k d short = absurd zip
  texts-there (j ∷ ks) (t ∷ ts) zip zero d short = text-there j t zip.0
  texts-there (j ∷ ks) (t ∷ ts) zip (suc k) d short = texts-there ks ts zip.1 k d (omega arith)

  -- the texts of a part
  pub part-are : (ks : List ℕ) (texts : List Bytes) (from to : ℕ) → AllZip (IsText F V bits) ks texts → map (text_at F) (take (to - from) (drop from ks)) ≡ slice_range texts from to
  part-are ks texts from to zip = sym (take-map (text_at F) (to - from) (drop from ks)) ∙ ap (take (to - from)) (sym (drop-map (text_at F) from ks)) ∙ ap (λ xs. take (to - from) (drop from xs)) (texts-are ks texts zip)

  pub part-there : (ks : List ℕ) (texts : List Bytes) (from to : ℕ) → AllZip (IsText F V bits) ks texts → All (NamesCell F) (take (to - from) (drop from ks))
  part-there ks texts from to zip = All-take (NamesCell F) (to - from) (drop from ks) (All-drop (NamesCell F) from ks (texts-there ks texts zip))

-- a row whose form is a cell of the text has it as its value
found-text : (o : Option Bytes) (row : Option (Row Bytes)) (text : Bytes) → IsSomeAnd o (λ t. option_map form_of row ≡ Some (cell t)) → value_of row ≡ Some text → o ≡ Some text
found-text None row text is told = absurd is
found-text (Some t) None text is told = absurd (let h = is in cc)
found-text (Some t) (Some (cell x)) text is told = let e : x ≡ t = cc in cc
found-text (Some t) (Some (node head links)) text is told = absurd (let h = is in cc)

-- what follows of a value follows where it is there
pub some-and : {X : Type 0} (P Q : X → Type 0) (o : Option X) → ((x : X) → P x → Q x) → IsSomeAnd o P → IsSomeAnd o Q
some-and P Q None follows is = absurd is
some-and P Q (Some x) follows is = follows x is

-- the text of the cell at an index of a vector of lines
pub line-found : (h : Heap Bytes) (bits l : ℕ) (texts : List Bytes) (index : ℕ) (found : ℕ) (text : Bytes) → AreLinesIn h bits l texts → slice_get (elements h l) index ≡ Some found → value_of (row_at h found) ≡ Some text
    → slice_get texts index ≡ Some text
line-found h bits l texts index found text are there told =
    let both : MatchOption (slice_get (elements h l) index) (Unit {0}) (λ k. IsSomeAnd (slice_get texts index) (IsText (form_at h) (IsGoodVector h) bits k)) =
    AllZip-left (IsText (form_at h) (IsGoodVector h) bits) (elements h l) texts are.values index in
    let at : IsSomeAnd (slice_get texts index) (IsText (form_at h) (IsGoodVector h) bits found) =
    subst (λ (o : Option ℕ). MatchOption o (Unit {0}) (λ k. IsSomeAnd (slice_get texts index) (IsText (form_at h) (IsGoodVector h) bits k))) there both in
    found-text (slice_get texts index) (row_at h found) text (some-and (IsText (form_at h) (IsGoodVector h) bits found) (λ t. option_map form_of (row_at h found) ≡ Some (cell t)) (slice_get texts index) (λ t is. is.row) at) told

-- the element at an index of a vector of lines is a cell
row-there : (o : Option Bytes) (row : Option (Row Bytes)) → IsSomeAnd o (λ t. option_map form_of row ≡ Some (cell t)) → IsSome (value_of row)
row-there None row is = absurd is
row-there (Some t) None is = absurd (let h = is in cc)
row-there (Some t) (Some (cell x)) is = refl
row-there (Some t) (Some (node head links)) is = absurd (let h = is in cc)

pub line-there : (h : Heap Bytes) (bits l : ℕ) (texts : List Bytes) (index : ℕ) (found : ℕ) → AreLinesIn h bits l texts → slice_get (elements h l) index ≡ Some found → IsSome (value_of (row_at h found))
line-there h bits l texts index found are there =
    let both : MatchOption (slice_get (elements h l) index) (Unit {0}) (λ k. IsSomeAnd (slice_get texts index) (IsText (form_at h) (IsGoodVector h) bits k)) =
    AllZip-left (IsText (form_at h) (IsGoodVector h) bits) (elements h l) texts are.values index in
    let at : IsSomeAnd (slice_get texts index) (IsText (form_at h) (IsGoodVector h) bits found) =
    subst (λ (o : Option ℕ). MatchOption o (Unit {0}) (λ k. IsSomeAnd (slice_get texts index) (IsText (form_at h) (IsGoodVector h) bits k))) there both in
    row-there (slice_get texts index) (row_at h found) (some-and (IsText (form_at h) (IsGoodVector h) bits found) (λ t. option_map form_of (row_at h found) ≡ Some (cell t)) (slice_get texts index) (λ t is. is.row) at)

-- what is there, where something is there
pub some-there : {X : Type 0} (P : X → Type 0) (o : Option X) → IsSomeAnd o P → (x : X) × P x
some-there P None is = absurd is
some-there P (Some x) is = (x, is)

-- nothing is no cell's value
pub none-there : (o : Option Bytes) → None ≡ o → IsSome o → ⊥
none-there None e is = absurd (let h = is in cc)
none-there (Some t) e is = absurd (let h = e in cc)
