-- The document of what a pool has more, from its parts, and the text that is written of it.
use Rattle.std.proofs.Common.{◌≡◌, ◌≤◌, ◌<◌, ℕ, true, false, ◌||◌, cond, List, None, Some, map, length, ap, sym, subst, ◌∙◌, arith}
use Rattle.std.specs.Prelude.{codes, fold, slice_index, nat_lt}
use Rattle.std.specs.Str.{IsUtf8}
use Rattle.std.proofs.lemmas.Str.{is_utf8-from_IsUtf8}
use Rattle.std.proofs.lemmas.List.{length-map}
use Rattle.node_heap.specs.Links.{count}
use Rattle.node_heap.specs.Forms.{Form}
use Rattle.serde_json.specs.Data.{Data, string, object, member, no_members, depth}
use Rattle.serde_json.specs.Read.{read, max_depth}
use Rattle.serde_json.specs.Written.{has_float, items_have_float, compact_text}
use Rattle.serde_json.specs.View.{items_of}
use Rattle.pool_text.specs.Rows.{Bytes, row_form}
use Rattle.pool_text.specs.Pool.{row_count}
use Rattle.pool_text.specs.Document.{list, natural, naturals, row_value, value_in}
use Rattle.pool_text.specs.declared.pool.Pool.{Pool}
use Rattle.pool_text.specs.declared.row.Row.{Row}
use Rattle.pool_text.specs.declared.rules.TheConstants.{PRESENT_VERSION}
use Rattle.pool_text.proofs.DocumentRows.{map-forms, naturals-no-float, rows-no-float, naturals-depth, rows-depth}
use Rattle.pool_check.specs.Rows.{rows_lead_back, links_lead_back}
use Rattle.pool_check.specs.Damages.{IsValid}
use Rattle.pool_check.proofs.TestLemmas.{and-first, roots-low}
use Rattle.std.specs.List.{list_all}
use Rattle.pool_delta.specs.Parts.{Part, part_document, part_text}
use Rattle.pool_delta.specs.Delta.{Placing, no_rows, placed, placing, delta}
use Rattle.pool_delta.proofs.PlacedCode.{all-places}

-- ## The text of a part

module _ (p : Part) (d : Data) (bytes : Bytes) (same : d ≡ part_document p) where
  no-float : has_float (part_document p) ≡ false
  unfolding part_document
  no-float = ap (λ b. b || (items_have_float (items_of (map row_value p.rows)) || false)) (naturals-no-float p.roots) ∙ ap (λ b. b || false) (rows-no-float p.rows)

  shallow : depth (part_document p) ≤ max_depth
  unfolding part_document
  shallow = omega (arith, naturals-depth p.roots, rows-depth p.rows)

  pub part-written : (has_float d ≡ false → bytes ≡ compact_text d) → bytes ≡ part_text p
  part-written written = written (ap has_float same ∙ no-float) ∙ ap compact_text same

  pub part-reads : IsUtf8 bytes → (depth d ≤ max_depth → read bytes ≡ Some d) → value_in bytes ≡ Some (part_document p)
  part-reads utf8 reads =
      ap (λ t. cond t (read bytes) None) (is_utf8-from_IsUtf8 bytes utf8)
      ∙ reads (subst (λ e. depth e ≤ max_depth) (sym same) shallow) ∙ ap Some same

-- ## The part

-- the document of these values
abbrev pub document_with : ℕ → ℕ → ℕ → Data → Data → Data
document_with after bits history roots rows =
    object (member (codes "after") (natural after) (member (codes "bits") (natural bits) (member (codes "format") (string (codes "ewig-part"))
    (member (codes "history") (natural history) (member (codes "roots") roots (member (codes "rows") rows
    (member (codes "version") (natural PRESENT_VERSION) no_members)))))))

module _ (C P : Pool) (chain rows own : List Row) (places : List ℕ) (chain_is : map row_form chain ≡ C.rows) (rows_is : map row_form rows ≡ P.rows)
    (places_is : places ≡ (fold (placed (map row_form chain)) no_rows (map row_form rows)).places)
  where
    same-placing : fold (placed (map row_form chain)) no_rows (map row_form rows) ≡ placing C P
    unfolding placing
    same-placing = ap (λ cs. fold (placed cs) no_rows (map row_form rows)) chain_is ∙ ap (fold (placed C.rows) no_rows) rows_is

    pub places-many : length places ≡ row_count P
    places-many = ap length places_is ∙ all-places (map row_form chain) (map row_form rows) ∙ ap length rows_is

    pub roots-inside : IsValid P → (roots : List ℕ) → roots ≡ P.roots → (k : ℕ) → 0 < count k roots → k < length places
    roots-inside valid roots same k some = omega (arith, places-many, roots-low P valid.lead_back k (omega (arith, some, ap (count k) same)))

    pub delta-from : map row_form own ≡ (fold (placed (map row_form chain)) no_rows (map row_form rows)).own → (ks roots : List ℕ) → roots ≡ P.roots → ks ≡ map (slice_index places) roots
        → (n bits history : ℕ) (d e : Data) → n ≡ length chain → bits ≡ P.bits → history ≡ P.history → d ≡ naturals ks → e ≡ list (map (λ row. row_value (row_form row)) own)
        → document_with n bits history d e ≡ part_document (delta C P)
    unfolding part_document delta
    delta-from own_is ks roots roots_is ks_is n bits history d e n_is bits_is history_is d_is e_is =
        let g : Placing = placing C P in
        let roots-are : d ≡ naturals (map (slice_index g.places) P.roots) = d_is ∙ ap naturals (ks_is ∙ ap (λ ps. map (slice_index ps) roots) (places_is ∙ ap (λ (h : Placing). h.places) same-placing) ∙ ap (map (slice_index g.places)) roots_is) in
        let rows-are : e ≡ list (map row_value g.own) = e_is ∙ ap list (map-forms own ∙ ap (map row_value) (own_is ∙ ap (λ (h : Placing). h.own) same-placing)) in
        let after-is : n ≡ row_count C = n_is ∙ sym (length-map chain row_form) ∙ ap length chain_is in
        ap (λ k. document_with k bits history d e) after-is ∙ ap (λ k. document_with (row_count C) k history d e) bits_is
        ∙ ap (λ k. document_with (row_count C) P.bits k d e) history_is ∙ ap (λ f. document_with (row_count C) P.bits P.history f e) roots-are
        ∙ ap (document_with (row_count C) P.bits P.history (naturals (map (slice_index g.places) P.roots))) rows-are

-- the rows of a valid pool lead back
rows-back : (P : Pool) → links_lead_back P ≡ true → rows_lead_back 0 P.rows ≡ true
unfolding links_lead_back
rows-back P back = and-first (rows_lead_back 0 P.rows) (list_all (λ j. nat_lt j (row_count P)) P.roots) back

pub valid-back : (P : Pool) → IsValid P → (rows : List (Form Bytes)) → rows ≡ P.rows → rows_lead_back 0 rows ≡ true
valid-back P valid rows same = ap (rows_lead_back 0) same ∙ rows-back P valid.lead_back
