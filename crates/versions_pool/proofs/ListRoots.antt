-- Roots of vectors of cells: what they reach is known, and they are of their kind.
use Rattle.std.proofs.Common.{◌≡◌, ℕ, zero, suc, ◌<◌, ◌≤◌, Bool, true, List, [], ◌∷◌, Some, option_map, length, refl, ap, subst, ◌∙◌, arith}
use Rattle.std.specs.Prelude.{replicate}
use Rattle.std.specs.List.{list_all}
use Rattle.std.proofs.lemmas.Bool.{and_from}
use Rattle.std.proofs.lemmas.List.Sums.{list_all-from_AllPass}
use Rattle.elem_core.specs.Cell.{IsCell}
use Rattle.node_heap.specs.Links.{count, Reaches}
use Rattle.node_heap.specs.Forms.{Forms, cell, links_in}
use Rattle.node_heap.proofs.Counts.{test_same, count-cons}
use Rattle.rrb_core.specs.Seq.{height_in, seq_at, seq, IsWell, IsWellShaped}
use Rattle.rrb_core.proofs.LinkCounts.{all-counted}
use Rattle.pool_order.proofs.Places.{flat_map-has}
use Rattle.pool_text.specs.Rows.{Bytes}
use Rattle.pool_text.specs.Pool.{forms_in, row_count, relink}
use Rattle.pool_text.specs.Renaming.{IsRenamed}
use Rattle.pool_text.specs.declared.pool.Pool.{Pool}
use Rattle.pool_text.proofs.Renamed.{map-found}
use Rattle.pool_check.specs.Kinds.{is_vector_root, is_cell_of, elements_pass, is_lines_vector}
use Rattle.pool_check.specs.Kinds.{is_of, are_of}
use Rattle.pool_check.specs.Roots.{roots_are_of}
use Rattle.pool_check.specs.declared.root.RootKind.{RootKind}
use Rattle.pool_check.proofs.VectorReadings.{all-at, vector-reads-the-same}
use Rattle.state_rows.proofs.CoverRows.{IsKnown, cell-known, vector-known}
use Rattle.state_rows.proofs.PassesLists.{most-test}

-- roots of which each is of the kind are of so many of it
all-of : (n : ℕ) (F : Forms Bytes) (kind : RootKind) (roots : List ℕ) → ((r : ℕ) → 0 < count r roots → is_of n F kind r ≡ true) → are_of n F (replicate (length roots) kind) roots ≡ true
all-of n F kind [] each = refl
all-of n F kind (r ∷ roots) each =
    and_from (is_of n F kind r) (are_of n F (replicate (length roots) kind) roots) (each r (omega (arith, count-cons r r roots, test_same r r refl)))
    (all-of n F kind roots (λ k some. each k (omega (arith, count-cons k r roots, some))))

pub kinds-are : (kind : RootKind) (P : Pool) → ((r : ℕ) → 0 < count r P.roots → is_of (row_count P) (forms_in P) kind r ≡ true) → roots_are_of (replicate (length P.roots) kind) P ≡ true
unfolding roots_are_of
kinds-are kind P each = all-of (row_count P) (forms_in P) kind P.roots each

module _ (F : Forms Bytes) where
  -- a cell whose text is one
  pub record IsLineCell (l : ℕ) : Type 0 where
    pub text : Bytes
    pub row : F l ≡ Some (cell text)
    pub line : IsCell text

  -- the root of a vector of cells
  pub record IsListRoot (l : ℕ) : Type 0 where
    pub shaped : IsWellShaped F l
    pub cells : (k : ℕ) → 0 < count k (seq F l) → IsLineCell k

  pub list-known : (code : Bytes → ℕ) (deepest l m : ℕ) → IsListRoot l → Reaches (links_in F) l m → IsKnown F code deepest m
  list-known code deepest l m is way =
      (vector-known F code deepest (height_in F l) l is.shaped.low is.shaped.well is.shaped.short (λ k some. let c = is.cells k some in cell-known F code deepest k c.text c.row c.line)).1 m way

  vector-root-is : (height l : ℕ) → height_in F l ≡ height → IsWell F height l → (1 ≤ height → 2 ≤ length (links_in F l)) → is_vector_root (F l) ≡ true
  unfolding IsWell
  vector-root-is zero l high well two = ap is_vector_root well.kind
  vector-root-is (suc height) l high well two = ap is_vector_root well.kind ∙ most-test 2 (length (links_in F l)) (two (omega arith))

  counted-pass : (test : ℕ → Bool) (ks : List ℕ) → ((k : ℕ) → 0 < count k ks → test k ≡ true) → list_all test ks ≡ true
  counted-pass test ks each = list_all-from_AllPass test ks (all-counted (λ k. test k ≡ true) ks each)

  elements-pass : (test : ℕ → Bool) (height l : ℕ) → ((k : ℕ) → 0 < count k (seq_at F height l) → test k ≡ true) → elements_pass F test height l ≡ true
  unfolding elements_pass seq_at
  elements-pass test zero l each = counted-pass test (links_in F l) each
  elements-pass test (suc height) l each =
      counted-pass (elements_pass F test height) (links_in F l) (λ k has. elements-pass test height k (λ j some. each j (flat_map-has (seq_at F height) (links_in F l) k j has some)))

  pub lines-is : (n l : ℕ) → IsListRoot l → is_lines_vector n F l ≡ true
  lines-is n l is =
      and_from (is_vector_root (F l)) (elements_pass F (λ k. is_cell_of (λ _. true) (F k)) (height_in F l) l) (vector-root-is (height_in F l) l refl is.shaped.well is.shaped.two)
      (elements-pass (λ k. is_cell_of (λ _. true) (F k)) (height_in F l) l (λ k some. ap (is_cell_of (λ _. true)) (is.cells k some).row))

module _ (f : ℕ → ℕ) (G H : Forms Bytes) (r : ℕ) (image : IsRenamed f G H r) where
  line-moved : (k : ℕ) → Reaches (links_in G) r k → IsLineCell G k → IsLineCell H (f k)
  line-moved k down is = record { text = is.text; row = image k down ∙ ap (option_map (relink f)) is.row; line = is.line }

  -- a vector of cells under other links is one
  pub list-moved : IsListRoot G r → IsListRoot H (f r)
  list-moved is = record {
    shaped = (vector-reads-the-same f G H ℕ r image).shaped is.shaped;
    cells = λ k among.
        let found = map-found f (seq G r) k (omega (arith, among, ap (count k) (vector-reads-the-same f G H ℕ r image).elements)) in
        subst (IsLineCell H) found.2 (line-moved found.0 (all-at (λ j. Reaches (links_in G) r j) (seq G r) (vector-reads-the-same f G H ℕ r image).reached found.0 found.1) (is.cells found.0 found.1));
  }
