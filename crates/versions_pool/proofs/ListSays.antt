-- What is written of a store of lists says its lists.
use Rattle.std.proofs.Common.{◌≡◌, ℕ, ◌<◌, List, [], ◌∷◌, map, Option, Some, None, option_map, refl, ap, sym, subst, ◌∙◌, arith, inl, inr}
use Rattle.std.specs.Prelude.{IsSome}
use Rattle.std.proofs.lemmas.Bool.{cases_eq}
use Rattle.elem_core.specs.Codes.{text_code}
use Rattle.elem_core.specs.declared.codes.TheConstants.{CODE_BITS, DEEPEST}
use Rattle.node_heap.specs.Links.{count, Reaches, here}
use Rattle.node_heap.specs.Forms.{Row, Forms, cell, node, value_of, links_in}
use Rattle.node_heap.specs.Heap.{Heap, row_at, form_at, links_at, IsGraph}
use Rattle.node_heap.proofs.Counts.{test_other, count-cons}
use Rattle.node_heap.proofs.Reach.{Reaches-by}
use Rattle.rrb_core.specs.Seq.{seq, IsWellShaped}
use Rattle.rrb_core.specs.Vector.{elements}
use Rattle.champ_trie.specs.Trie.{code_by}
use Rattle.pool_text.specs.Rows.{Bytes}
use Rattle.pool_text.specs.Pool.{forms_in, row_count, place_in, relink, text_form, text_forms}
use Rattle.pool_text.specs.Renaming.{PoolsAreRenamed}
use Rattle.pool_text.specs.declared.pool.Pool.{Pool}
use Rattle.pool_text.proofs.Gathered.{links-of-text}
use Rattle.pool_text.proofs.PoolRows.{order-of-pool}
use Rattle.pool_text.proofs.Renamed.{map-found}
use Rattle.pool_check.specs.Passing.{PoolsPassAsMade}
use Rattle.pool_check.specs.declared.root.RootKind.TheVariants.{Lines}
use Rattle.pool_check.proofs.VectorReadings.{all-at, vector-reads-the-same}
use Rattle.pool_load.proofs.VectorTexts.{elements-over, shaped-over}
use Rattle.pool_load.proofs.TrieTexts.{form-links, form-height}
use Rattle.state_rows.proofs.CoverRows.{IsKnown}
use Rattle.versions.specs.Roots.{values_in, HasRoots}
use Rattle.versions.specs.Rooted.{value_at, list_at, IsListOf}
use Rattle.versions.proofs.ListLemmas.{list-kind}
use Rattle.versions_pool.specs.Saved.{Saved}
use Rattle.versions_pool.specs.Stores.{Says}
use Rattle.versions_pool.specs.Loading.{roots_in, AreCells, CanBeSaved, IsSavedOf}
use Rattle.versions_pool.specs.Lists.{list_in}
use Rattle.versions_pool.proofs.TrieTexted.{text-node}
use Rattle.versions_pool.proofs.KnownRows.{known-fits, fits-text}
use Rattle.versions_pool.proofs.ListRoots.{IsLineCell, IsListRoot, kinds-are, list-moved, list-known, lines-is}
use Rattle.versions_pool.proofs.Passes.{all-in-range, all-passed}
use Rattle.versions_pool.proofs.Readings.{lists-same}
use Rattle.versions_pool.proofs.SaysLemmas.{root-from, rooted, saved_pool, saved_order, saved-bits, saved-listed, saved-passes, listed-as, saved-says}

-- what is read of each is there
each-some : {X : Type 0} (f : ℕ → Option X) (ks : List ℕ) (xs : List X) → map f ks ≡ map Some xs → (k : ℕ) → 0 < count k ks → (x : X) × (f k ≡ Some x)
each-some f [] xs is k some = absurd (omega (arith, some))
each-some f (j ∷ ks) [] is k some = absurd (let e : f j ∷ map f ks ≡ [] = is in cc)
each-some {X} f (j ∷ ks) (x ∷ xs) is k some =
    let both : f j ∷ map f ks ≡ Some x ∷ map Some xs = is in
    let first : f j ≡ Some x = cc in
    let rest : map f ks ≡ map Some xs = cc in
    elim (cases_eq j k) as (λ _. (y : X) × (f k ≡ Some y)) [
      | inl same ↦ (x, ap f (sym same) ∙ first)
      | inr other ↦ each-some f ks xs rest k (omega (arith, some, count-cons k j ks, test_other j k other))
    ]

module _ {T : Type 0} where
  cell-of : (r : Option (Row T)) (x : T) → value_of r ≡ Some x → r ≡ Some (cell x)
  cell-of None x is = absurd (let e : None ≡ Some x = is in cc)
  cell-of (Some (cell y)) x is = let e : Some y ≡ Some x = is in let same : y ≡ x = cc in ap (λ z. Some (cell z)) same
  cell-of (Some (node head links)) x is = absurd (let e : None ≡ Some x = is in cc)

module _ {T : Type 0} (text : T → Bytes) (h : Heap T) (slots : List (Option ℕ)) (has : HasRoots IsListOf list_at h slots) (graph : IsGraph h) where
  abbrev G : Forms Bytes
  G = text_forms text h

  root-is : (r : ℕ) → 0 < count r (roots_in slots) → IsListOf h r (list_at h r)
  root-is r root = let at = root-from slots 0 r root in has.stands at.0 r at.1

  pub root-live : (r : ℕ) → 0 < count r (roots_in slots) → IsSome (row_at h r)
  root-live r root = list-kind.live h r (list_at h r) (root-is r root)

  elements-are : (r : ℕ) → elements h r ≡ seq G r
  elements-are r = elements-over G (form_at h) (λ k. form-links text (row_at h k)) r (form-height text (row_at h r))

  shaped : (r : ℕ) → 0 < count r (roots_in slots) → IsWellShaped G r
  shaped r root =
      shaped-over (form_at h) G (λ k. sym (form-links text (row_at h k))) (λ k kind ks. text-node text (row_at h k) kind ks) r (sym (form-height text (row_at h r))) (root-is r root).good.shape

  module _ (cells : AreCells text h slots) where
    -- what a vector has is listed
    listed-cell : (r k : ℕ) → 0 < count r (roots_in slots) → Reaches (links_in G) r k → (x : T) → row_at h k ≡ Some (cell x) → IsLineCell G k
    listed-cell r k root down x row = record {
      text = text x;
      row = ap (option_map (text_form text)) row;
      line = cells k x (listed-as text h slots graph root-live k ((order-of-pool _ G (roots_in slots) (rooted text h slots graph root-live)).all r k root down)) row;
    }

    list-root : (r : ℕ) → 0 < count r (roots_in slots) → IsListRoot G r
    list-root r root = record {
      shaped = shaped r root;
      cells = λ k some.
          let value = each-some (value_at h) (elements h r) (list_at h r) (root-is r root).cells k (omega (arith, some, ap (count k) (elements-are r))) in
          listed-cell r k root (all-at (λ j. Reaches (links_in G) r j) (seq G r) (vector-reads-the-same (λ j. j) G (λ j. option_map (relink (λ i. i)) (G j)) ℕ r (λ m down. refl)).reached k some) value.0 (cell-of (row_at h k) value.0 value.1);
    }

  pub lists-can : CanBeSaved text h slots
  lists-can = record {
    live = root-live;
    fits = λ cells r l root way.
        fits-text text (row_at h l)
        ∙ known-fits G (code_by text_code CODE_BITS) DEEPEST l (list-known G (code_by text_code CODE_BITS) DEEPEST r l (list-root cells r root) (Reaches-by (links_at h) (links_in G) (λ k. links-of-text text (row_at h k)) r l way));
  }

  module _ (renames : PoolsAreRenamed) (passes : PoolsPassAsMade) (s : Saved) (is : IsSavedOf text h slots s) (of_bytes : Bytes → T) (back : (x : T) → of_bytes (text x) ≡ x) where
    abbrev P : Pool
    P = saved_pool text h slots graph root-live

    abbrev f : ℕ → ℕ
    f = place_in (saved_order text h slots graph root-live)

    placed-root : (p : ℕ) → 0 < count p P.roots → IsListRoot (forms_in P) p
    placed-root p some =
        let listed = saved-listed text h slots graph root-live renames in
        let found = map-found f (roots_in slots) p (omega (arith, some, ap (count p) listed.tops)) in
        subst (IsListRoot (forms_in P)) found.2 (list-moved f G (forms_in P) found.0 (listed.renamed found.0 found.0 found.1 (here found.0)) (list-root is.cells found.0 found.1))

    pub lists-say : Says (list_in of_bytes) Lines (values_in list_at h slots) s
    lists-say =
        let made = saved-passes text h slots graph root-live passes in
        let known : (r l : ℕ) → 0 < count r P.roots → Reaches (links_in (forms_in P)) r l → IsKnown (forms_in P) (code_by text_code CODE_BITS) DEEPEST l = λ r l root way. list-known (forms_in P) (code_by text_code CODE_BITS) DEEPEST r l (placed-root r root) way in
        saved-says text h slots graph root-live list_at (list_in of_bytes) Lines has.holds.few renames s is
        (all-in-range P made.lead_back made.in_order (saved-bits text h slots graph root-live) known)
        (all-passed P made.lead_back made.in_order (saved-bits text h slots graph root-live) known _ (kinds-are Lines P (λ r root. lines-is (forms_in P) (row_count P) r (placed-root r root))))
        (lists-same text of_bytes back h (roots_in slots) (saved_order text h slots graph root-live) P (saved-listed text h slots graph root-live renames))
