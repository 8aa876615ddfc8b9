-- The line cells of a valid pool are the lines of the states of its workspace.
use Rattle.std.proofs.Common.{◌≡◌, ℕ, zero, suc, ◌<◌, refl, sym, subst, arith, false, List, [], ◌∷◌, Option, Some, None}
use Rattle.std.specs.Prelude.{slice_get}
use Rattle.std.specs.List.{All, AllZip}
use Rattle.std.specs.Ordering.{nat_cmp}
use Rattle.std.specs.Cmp.Lexicographic.{slice_cmp}
use Rattle.node_heap.specs.Links.{count}
use Rattle.node_heap.specs.Forms.{Form, Forms, cell, node, links_of, links_in}
use Rattle.rrb_core.specs.Seq.{height_in, seq_at, seq, IsWell, IsWellShaped}
use Rattle.champ_kinds.specs.Binding.{value_with}
use Rattle.pool_order.proofs.Places.{flat_map-found}
use Rattle.pool_text.specs.Rows.{Bytes}
use Rattle.pool_text.specs.Rules.{Rules}
use Rattle.pool_text.specs.Pool.{forms_in}
use Rattle.pool_text.proofs.Placed.{item_in, get-some}
use Rattle.pool_text.specs.declared.pool.Pool.{Pool}
use Rattle.pool_check.proofs.VectorReadings.{all-at}
use Rattle.plain_space.specs.Workspace.{State, Workspace}
use Rattle.plain_space.specs.Lines.{IsStateOf, is_current, is_version, is_undone, is_redone, IsLineIn}
use Rattle.state_rows.specs.Reading.{StandsIfThere, IsText, AreLines, IsStateBy}
use Rattle.state_rows.specs.Standing.{StandForBy, StandsForBy}
use Rattle.pool_map.specs.Lines.{is_cell, line_texts}
use Rattle.pool_map.proofs.MappedRows.{IsElement, listed-says}

-- what goes with something of the second list
zip-got : {X : Type 0} (R : ℕ → X → Type 0) (ks : List ℕ) (xs : List X) → AllZip R ks xs → (i : ℕ) (x : X) → slice_get xs i ≡ Some x → (k : ℕ) × (slice_get ks i ≡ Some k) × R k x
zip-got R [] [] zip i x is = absurd cc
zip-got R [] (y ∷ ys) zip i x is = absurd zip
zip-got R (k ∷ ks) [] zip i x is = absurd zip
zip-got R (k ∷ ks) (y ∷ ys) zip zero x is = let both : Some y ≡ Some x = is in let same : y ≡ x = cc in (k, refl, subst (R k) same zip.0)
zip-got R (k ∷ ks) (y ∷ ys) zip (suc i) x is = zip-got R ks ys zip.1 i x is

-- what stands for what is there
there-got : {X : Type 0} (R : ℕ → X → Type 0) (o : Option ℕ) (x : X) → StandsIfThere R o (Some x) → (k : ℕ) × (o ≡ Some k) × R k x
there-got R None x stands = absurd stands
there-got R (Some k) x stands = (k, refl, stands)

-- an element of a vector stands in a leaf
seq-element : (F : Forms Bytes) (n l k : ℕ) → IsWell F n l → 0 < count k (seq_at F n l) → IsElement F k
unfolding IsWell seq_at
seq-element F zero l k well some = record { leaf_at = l; links = links_in F l; row = well.kind; has = some }
seq-element F (suc n) l k well some = let from = flat_map-found (seq_at F n) (links_in F l) k some in seq-element F n from.0 k (all-at (IsWell F n) (links_in F l) well.children from.0 from.1) from.2

got-counted : (xs : List ℕ) (i k : ℕ) → slice_get xs i ≡ Some k → 0 < count k xs
got-counted xs i k is = let at = get-some xs i k (sym is) in item_in xs i k at.0 (sym at.1)

-- what has a link is no cell
pub linked-no-cell : (r : Option (Form Bytes)) (k : ℕ) → 0 < count k (links_of r) → is_cell r ≡ false
linked-no-cell None k has = refl
linked-no-cell (Some (cell text)) k has = absurd (omega (arith, has))
linked-no-cell (Some (node kind links)) k has = refl

-- a line cell with this text
record IsListed (P : Pool) (text : Bytes) : Type 0 where
  pub place : ℕ
  pub row : forms_in P place ≡ Some (cell text)
  pub element : IsElement (forms_in P) place

module _ (P : Pool) where
  abbrev F : Forms Bytes
  F = forms_in P

  module _ (rules : Rules) (W : Workspace) (stands : StandsForBy rules P W) where
    abbrev V : ℕ → Type 0
    V = IsWellShaped F

    state-row : (roots : List ℕ) → StandForBy rules F V P.bits roots W → (now : State) → IsStateOf W now → (l : ℕ) × IsStateBy rules F V P.bits l now
    state-row [] is now of = absurd is
    state-row (c ∷ []) is now of = absurd is
    state-row (c ∷ v ∷ []) is now of = absurd is
    state-row (c ∷ v ∷ u ∷ []) is now of = absurd is
    state-row (c ∷ v ∷ u ∷ r ∷ base) is now (is_current same) = (c, subst (IsStateBy rules F V P.bits c) (sym same) is.0)
    state-row (c ∷ v ∷ u ∷ r ∷ base) is now (is_version name found) =
        let there = there-got (IsStateBy rules F V P.bits) (value_with (slice_cmp nat_cmp) name is.1.bindings) now (subst (StandsIfThere (IsStateBy rules F V P.bits) (value_with (slice_cmp nat_cmp) name is.1.bindings)) found (is.1.reads name)) in
        (there.0, there.2)
    state-row (c ∷ v ∷ u ∷ r ∷ base) is now (is_undone i found) = let got = zip-got (IsStateBy rules F V P.bits) (seq F u) W.undo is.2.values i now found in (got.0, got.2)
    state-row (c ∷ v ∷ u ∷ r ∷ base) is now (is_redone i found) = let got = zip-got (IsStateBy rules F V P.bits) (seq F r) W.redo is.3.values i now found in (got.0, got.2)

    -- a line of a state is the text of a line cell
    line-is-listed : (text : Bytes) → IsLineIn W text → IsListed P text
    line-is-listed text is =
        let row = state-row P.roots stands.0 is.now is.state in
        let buffers = row.1.buffers_are in
        let there = there-got (AreLines F V P.bits) (value_with (slice_cmp nat_cmp) is.line.name buffers.bindings) is.line.lines (subst (StandsIfThere (AreLines F V P.bits) (value_with (slice_cmp nat_cmp) is.line.name buffers.bindings)) is.line.buffer (buffers.reads is.line.name)) in
        let vector = there.2 in
        let got = zip-got (IsText F V P.bits) (seq F there.0) is.line.lines vector.values is.line.index text is.line.line in
        record { place = got.0; row = got.2.row; element = seq-element F (height_in F there.0) there.0 got.0 vector.vector.well (got-counted (seq F there.0) is.line.index got.0 got.1) }

    pub lines-pass : (Says : Bytes → Type 0) → All Says (line_texts P) → (text : Bytes) → IsLineIn W text → Says text
    lines-pass Says all text is = let at = line-is-listed text is in listed-says (λ t. t) P Says all at.place text at.row at.element
