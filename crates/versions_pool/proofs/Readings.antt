-- The lists of a heap's vectors are read of a pool that lists their rows.
use Rattle.std.proofs.Common.{◌≡◌, ℕ, ◌<◌, List, [], ◌∷◌, map, Option, Some, None, option_map, refl, ap, sym, ◌∙◌, arith}
use Rattle.std.specs.List.{All, filter_map, cons_option}
use Rattle.std.specs.declared.cmp.Ordering.{Ordering}
use Rattle.std.proofs.lemmas.List.Elements.{All-weaker, All-head, All-tail}
use Rattle.node_heap.specs.Links.{count, Reaches, here}
use Rattle.node_heap.specs.Forms.{Row, Form, cell, node, value_of, form_of, links_in}
use Rattle.node_heap.specs.Heap.{Heap, row_at, form_at}
use Rattle.node_heap.proofs.Counts.{test_same, count-cons}
use Rattle.rrb_core.specs.Seq.{seq}
use Rattle.rrb_core.specs.Vector.{elements}
use Rattle.pool_text.specs.Rows.{Bytes}
use Rattle.pool_text.specs.Pool.{forms_in, place_in, relink, text_form, text_forms}
use Rattle.pool_text.specs.Renaming.{IsPoolOf}
use Rattle.pool_text.specs.declared.pool.Pool.{Pool}
use Rattle.pool_check.proofs.VectorReadings.{vector-reads-the-same}
use Rattle.pool_load.proofs.VectorTexts.{elements-over}
use Rattle.pool_load.proofs.TrieTexts.{form-links, form-height}
use Rattle.pool_load.specs.Kinds.{IsCellLink, IsLines}
use Rattle.versions.specs.Rooted.{value_at, list_at, IsListOf}
use Rattle.versions_pool.specs.Lists.{list_in}

-- what is found by one test is what the test says of each
found-mapped : {X Y : Type 0} (f : X → Option Y) (xs : List X) → filter_map f xs ≡ filter_map (λ o. o) (map f xs)
found-mapped f [] = refl
found-mapped f (x ∷ xs) = ap (cons_option (f x)) (found-mapped f xs)

pub found-same : {X Z Y : Type 0} (f : X → Option Y) (g : Z → Option Y) (xs : List X) (zs : List Z) → map f xs ≡ map g zs → filter_map f xs ≡ filter_map g zs
found-same f g xs zs same = found-mapped f xs ∙ ap (filter_map (λ o. o)) same ∙ sym (found-mapped g zs)

value-relinked : (f : ℕ → ℕ) (r : Option (Form Bytes)) → value_of (option_map (relink f) r) ≡ value_of r
value-relinked f None = refl
value-relinked f (Some (cell x)) = refl
value-relinked f (Some (node kind links)) = refl

pub map-each : {Y : Type 0} (f g : ℕ → Y) (ks : List ℕ) → ((k : ℕ) → 0 < count k ks → f k ≡ g k) → map f ks ≡ map g ks
map-each f g [] each = refl
map-each f g (k ∷ ks) each =
    ap (λ y. y ∷ map f ks) (each k (omega (arith, count-cons k k ks, test_same k k refl)))
    ∙ ap (λ ys. g k ∷ ys) (map-each f g ks (λ j some. each j (omega (arith, count-cons j k ks, some))))

pub map-both : {Y : Type 0} (g : ℕ → Y) (f : ℕ → ℕ) (ks : List ℕ) → map g (map f ks) ≡ map (λ k. g (f k)) ks
map-both g f [] = refl
map-both g f (k ∷ ks) = ap (λ ys. g (f k) ∷ ys) (map-both g f ks)

module _ {T : Type 0} (text : T → Bytes) (of_bytes : Bytes → T) (back : (x : T) → of_bytes (text x) ≡ x) (h : Heap T) where
  -- the text of a cell reads as its value
  value-read : (r : Option (Row T)) → option_map of_bytes (value_of (option_map (text_form text) r)) ≡ value_of r
  value-read None = refl
  value-read (Some (cell x)) = ap (λ (y : T). Some y) (back x)
  value-read (Some (node head links)) = refl

  module _ (roots ks : List ℕ) (P : Pool) (listed : IsPoolOf (text_forms text h) roots ks P) where
    module _ (r : ℕ) (root : 0 < count r roots) where
      abbrev was : ℕ → Option T
      was k = option_map of_bytes (value_of (text_forms text h k))

      abbrev now : ℕ → Option T
      now p = option_map of_bytes (value_of (forms_in P p))

      pub list-same : list_in of_bytes P (place_in ks r) ≡ list_at h r
      list-same =
          let reads = vector-reads-the-same (place_in ks) (text_forms text h) (forms_in P) (Option T) r (listed.renamed r r root (here r)) in
          let each : All (λ k. now (place_in ks k) ≡ was k) (seq (text_forms text h) r) =
          All-weaker (λ k. Reaches (links_in (text_forms text h)) r k) (λ k. now (place_in ks k) ≡ was k)
          (λ k down. ap (λ o. option_map of_bytes (value_of o)) (listed.renamed r r root (here r) k down) ∙ ap (option_map of_bytes) (value-relinked (place_in ks) (text_forms text h k)))
          (seq (text_forms text h) r) reads.reached in
          found-same now was (seq (forms_in P) (place_in ks r)) (seq (text_forms text h) r) (reads.readings was now each)
          ∙ ap (filter_map was) (sym (elements-over (text_forms text h) (form_at h) (λ k. form-links text (row_at h k)) r (form-height text (row_at h r))))
          ∙ found-same was (value_at h) (elements h r) (elements h r) (map-each was (value_at h) (elements h r) (λ k some. value-read (row_at h k)))

    -- so are those of all roots
    pub lists-same : map (list_in of_bytes P) P.roots ≡ map (list_at h) roots
    lists-same = ap (map (list_in of_bytes P)) listed.tops ∙ map-both (list_in of_bytes P) (place_in ks) roots ∙ map-each (λ r. list_in of_bytes P (place_in ks r)) (list_at h) roots (λ r some. list-same r some)

module _ {T : Type 0} where
  form-value : (r : Option (Row T)) (x : T) → option_map form_of r ≡ Some (cell x) → value_of r ≡ Some x
  form-value None x is = absurd cc
  form-value (Some (cell y)) x is = let same : y ≡ x = cc in ap (λ z. Some z) same
  form-value (Some (node head links)) x is = absurd cc

  -- links of cells are those of values
  cells-are : (cmp : T → T → Ordering) (code : T → ℕ) (bits : ℕ) (h : Heap T) (ks : List ℕ) → All (IsCellLink cmp code bits h) ks → map (value_at h) ks ≡ map Some (filter_map (value_at h) ks)
  cells-are cmp code bits h [] all = refl
  cells-are cmp code bits h (k ∷ ks) all =
      let x = All-head (IsCellLink cmp code bits h) k ks all in
      let first : value_at h k ≡ Some x.0 = form-value (row_at h k) x.0 x.1 in
      ap (λ o. o ∷ map (value_at h) ks) first
      ∙ ap (λ os. Some x.0 ∷ os) (cells-are cmp code bits h ks (All-tail (IsCellLink cmp code bits h) k ks all))
      ∙ ap (λ o. map Some (cons_option o (filter_map (value_at h) ks))) (sym first)

  pub lines-are : (cmp : T → T → Ordering) (code : T → ℕ) (bits : ℕ) (h : Heap T) (l : ℕ) → IsLines cmp code bits h l → IsListOf h l (list_at h l)
  lines-are cmp code bits h l is = record { good = is.good; cells = cells-are cmp code bits h (elements h l) is.elements }
