use Rattle.std.proofs.Common.{◌≡◌, ℕ, ◌<◌, Some, List, [], ◌∷◌, map, length, get_or, option_map, slice_get, rules, refl, ap, sym, subst, ◌∙◌, arith}
use Rattle.std.specs.List.{filter_map}
use Rattle.std.specs.Prelude.{slice_index}
use Rattle.std.proofs.lemmas.List.{map-append}
use Rattle.std.proofs.lemmas.Option.{slice_get_read}
use Rattle.node_heap.specs.Links.{count}
use Rattle.node_heap.specs.Forms.{Form}
use Rattle.pool_order.proofs.Walked.{count-get_or, get_or-default}
use Rattle.pool_text.specs.Rows.{Bytes, row_form}
use Rattle.pool_text.specs.Pool.{place_in, relink, settings_by}
use Rattle.pool_text.proofs.Gathered.{rows-next, take_all}
use Rattle.pool_text.proofs.FormRows.{count-same, form-read}
use Rattle.pool_text.proofs.ListPlaces.{row-low, link-low, root-low, relinked-at-places, roots-at-places}
use Rattle.pool_text.proofs.ListWalk.{pool-of-list}
use Rattle.pool_text.proofs.from_rows.pool_of_rows.Goals as goal

-- what stands in the list is listed
in-list : (xs ks : List ℕ) (i : ℕ) → xs ≡ ks → i < length xs → 0 < count (get_or xs i 0) ks
in-list xs ks i same inside = subst (λ (js : List ℕ). 0 < count (get_or xs i 0) js) same (count-get_or xs i inside)

at-index : (xs : List ℕ) (i : ℕ) → i < length xs → Some (get_or xs i 0) ≡ slice_get xs i
at-index xs i inside = sym (slice_get_read xs (length xs) i (get_or xs i 0) refl inside (get_or-default xs i 0 (get_or xs i 0) inside))

pub bounds-items-row : goal.bounds-items-row
bounds-items-row c =
    let some = in-list c.as_slice-row-items.result.now c.in_ok-listed.listed.rows.items c.loop-row.row-index c.as_slice-row-items.ensures.value (omega arith) in
    omega (arith, row-low c.args.rows.now c.requires.linked c.args.roots.now c.requires.roots c.in_ok-listed.listed c.in_ok-listed.ensures.rows c.in_ok-listed.ensures.places _ some, count-same c.args.rows.now c.as_slice-items.result.now c.as_slice-items.ensures)

pub offset_bounds-items-row : goal.offset_bounds-items-row
offset_bounds-items-row c =
    let some = in-list c.as_slice-row-items.result.now c.in_ok-listed.listed.rows.items c.loop-row.row-index c.as_slice-row-items.ensures.value (omega arith) in
    let inside : get_or c.as_slice-row-items.result.now c.loop-row.row-index 0 < length c.as_slice-items.result.now =
    omega (arith, row-low c.args.rows.now c.requires.linked c.args.roots.now c.requires.roots c.in_ok-listed.listed c.in_ok-listed.ensures.rows c.in_ok-listed.ensures.places _ some, count-same c.args.rows.now c.as_slice-items.result.now c.as_slice-items.ensures) in
    search rules

pub relinked-requires : goal.relinked-requires
relinked-requires c =
    let some = in-list c.as_slice-row-items.result.now c.in_ok-listed.listed.rows.items c.loop-row.row-index c.as_slice-row-items.ensures.value (omega arith) in
    let low = row-low c.args.rows.now c.requires.linked c.args.roots.now c.requires.roots c.in_ok-listed.listed c.in_ok-listed.ensures.rows c.in_ok-listed.ensures.places _ some in
    let is = form-read c.args.rows.now c.as_slice-items.result.now c.as_slice-items.ensures _ c.index-items-row.result low c.index-items-row.is in
    record {
      low = λ k link. omega (
        arith,
        ap length c.as_slice-places.ensures.value,
        link-low c.args.rows.now c.requires.linked c.args.roots.now c.requires.roots c.in_ok-listed.listed c.in_ok-listed.ensures.rows c.in_ok-listed.ensures.places _ (row_form c.index-items-row.result) some is k link,
      );
    }

pub loop-row-preserved : goal.loop-row-preserved
loop-row-preserved c =
    let ks : List ℕ = c.as_slice-row-items.result.now in
    let row : ℕ = get_or ks c.loop-row.row-index 0 in
    let inside : c.loop-row.row-index < length ks = omega arith in
    let some = in-list ks c.in_ok-listed.listed.rows.items c.loop-row.row-index c.as_slice-row-items.ensures.value inside in
    let low = row-low c.args.rows.now c.requires.linked c.args.roots.now c.requires.roots c.in_ok-listed.listed c.in_ok-listed.ensures.rows c.in_ok-listed.ensures.places row some in
    let is = form-read c.args.rows.now c.as_slice-items.result.now c.as_slice-items.ensures row c.index-items-row.result low c.index-items-row.is in
    let made : row_form c.in_ok-relinked.field-0 ≡ relink (place_in ks) (row_form c.index-items-row.result) =
    c.in_ok-relinked.ensures ∙ ap (λ (ps : List ℕ). relink (slice_index ps) (row_form c.index-items-row.result)) c.as_slice-places.ensures.value
    ∙ relinked-at-places c.args.rows.now c.requires.linked c.args.roots.now c.requires.roots c.in_ok-listed.listed c.in_ok-listed.ensures.rows c.in_ok-listed.ensures.places row (row_form c.index-items-row.result) some is
    ∙ ap (λ (js : List ℕ). relink (place_in js) (row_form c.index-items-row.result)) (sym c.as_slice-row-items.ensures.value) in
    rows-next (λ k. option_map (relink (place_in ks)) (slice_get c.args.rows.now k)) ks c.loop-row.row-index row _ _ (row_form c.in_ok-relinked.field-0) c.loop-row.invariant
    (at-index ks c.loop-row.row-index inside) (ap (option_map (relink (place_in ks))) is ∙ ap (λ (r : Form Bytes). Some r) (sym made))
    (ap (map row_form) c.in_ok-push.ensures.items ∙ map-append row_form c.loop-row.made.items (c.in_ok-relinked.field-0 ∷ []))

pub at_places-requires : goal.at_places-requires
at_places-requires c = record {
  low = λ k root. omega (
    arith,
    ap length c.as_slice-places.ensures.value,
    root-low c.args.rows.now c.requires.linked c.args.roots.now c.requires.roots c.in_ok-listed.listed c.in_ok-listed.ensures.rows c.in_ok-listed.ensures.places k root,
  );
}

pub returns : goal.returns
returns c = record {
  value =
      let ks : List ℕ = c.as_slice-row-items.result.now in
      pool-of-list c.args.rows.now c.requires.linked c.args.roots.now (settings_by c.args.bits c.args.history) ks c.from_vec.result c.in_ok-at_places.field-0 (c.as_slice-row-items.ensures.value ∙ c.in_ok-listed.ensures.rows)
      (c.from_vec.ensures ∙ c.loop-row.invariant
      ∙ ap (filter_map (λ k. option_map (relink (place_in ks)) (slice_get c.args.rows.now k))) (take_all ks c.loop-row.row-index (omega arith)))
      (c.in_ok-at_places.ensures ∙ ap (λ (ps : List ℕ). map (slice_index ps) c.args.roots.now) c.as_slice-places.ensures.value
      ∙ roots-at-places c.args.rows.now c.requires.linked c.args.roots.now c.requires.roots c.in_ok-listed.listed c.in_ok-listed.ensures.rows c.in_ok-listed.ensures.places
      ∙ ap (λ (js : List ℕ). map (place_in js) c.args.roots.now) (sym c.as_slice-row-items.ensures.value));
}
