-- How long undo is, where the roots are of their kinds.
use Rattle.std.proofs.Common.{◌≡◌, ℕ, ◌<◌, ◌≤◌, true, false, ◌&&◌, leb, Option, List, [], ◌∷◌, refl, ap, sym, ◌∙◌}
use Rattle.std.proofs.lemmas.Bool.{lt-leb, le-leb}
use Rattle.node_heap.specs.Forms.{Forms}
use Rattle.rrb_core.specs.Seq.{height_in}
use Rattle.pool_text.specs.Rows.{Bytes}
use Rattle.pool_text.specs.Pool.{forms_in, row_count}
use Rattle.pool_text.specs.declared.pool.Pool.{Pool}
use Rattle.pool_check.specs.Vectors.{length_at}
use Rattle.pool_check.specs.Shapes.{AreShapes}
use Rattle.pool_check.specs.declared.vectors.Shape.{Shape}
use Rattle.pool_check.specs.Kinds.{is_vector_root, elements_pass, is_state, is_versions_map, is_history, roots_are_of_kind, undo_is_within, undo_fits}
use Rattle.pool_check.proofs.RootLemmas.{root_by_root, roots-passed}
use Rattle.pool_check.proofs.TestLemmas.{and-first, and-second, not-both}

module _ (n : ℕ) (F : Forms Bytes) where
  history-root : (l : ℕ) → is_history n F l ≡ true → is_vector_root (F l) ≡ true
  history-root l h = and-first (is_vector_root (F l)) (elements_pass F (is_state n F) (height_in F l) l) h

  four-histories : (c v u r : ℕ) → (is_state n F c && is_versions_map n F v && is_history n F u && is_history n F r) ≡ true → is_vector_root (F u) ≡ true
  four-histories c v u r h =
      history-root u (and-second (is_state n F c && is_versions_map n F v) (is_history n F u) (and-first (is_state n F c && is_versions_map n F v && is_history n F u) (is_history n F r) h))

  -- whether undo is within a bound, by a length that is that of the third root where this is a vector root
  within-by-length : (found most : ℕ) (roots : List ℕ) → ((c v u : ℕ) (rest : List ℕ) → roots ≡ c ∷ v ∷ u ∷ rest → is_vector_root (F u) ≡ true → found ≡ length_at F (height_in F u) u)
      → root_by_root n F roots ≡ true → leb found most ≡ undo_is_within F most roots
  within-by-length found most [] long are = absurd (not-both are)
  within-by-length found most (c ∷ []) long are = absurd (not-both are)
  within-by-length found most (c ∷ v ∷ []) long are = absurd (not-both are)
  within-by-length found most (c ∷ v ∷ u ∷ []) long are = absurd (not-both are)
  within-by-length found most (c ∷ v ∷ u ∷ r ∷ []) long are = ap (λ m. leb m most) (long c v u (r ∷ []) refl (four-histories c v u r are))
  within-by-length found most (c ∷ v ∷ u ∷ r ∷ b ∷ []) long are =
      ap (λ m. leb m most) (long c v u (r ∷ b ∷ []) refl (four-histories c v u r (and-first (is_state n F c && is_versions_map n F v && is_history n F u && is_history n F r) (is_state n F b) are)))
  within-by-length found most (c ∷ v ∷ u ∷ r ∷ b ∷ x ∷ rest) long are = absurd (not-both are)

-- whether undo fits, by the length that the shapes of the rows give of it
module _ (P : Pool) (shapes : List (Option Shape)) (are : AreShapes (forms_in P) shapes) (roots : List ℕ) (same : roots ≡ P.roots) (undo : ℕ)
    (long : (F : Forms Bytes) (c v u : ℕ) (rest : List ℕ) → AreShapes F shapes → roots ≡ c ∷ v ∷ u ∷ rest → is_vector_root (F u) ≡ true → undo ≡ length_at F (height_in F u) u)
    (kinds : roots_are_of_kind P ≡ true) where
  fits-by-length : leb undo P.history ≡ undo_fits P
  unfolding roots_are_of_kind undo_fits
  fits-by-length = within-by-length (row_count P) (forms_in P) undo P.history P.roots (λ c v u rest first root. long (forms_in P) c v u rest are (same ∙ first) root) (roots-passed (row_count P) (forms_in P) P.roots kinds)

  pub not-fits : P.history < undo → undo_fits P ≡ false
  not-fits more = sym fits-by-length ∙ lt-leb undo P.history more

  pub fits : undo ≤ P.history → undo_fits P ≡ true
  fits within = sym fits-by-length ∙ le-leb undo P.history within
