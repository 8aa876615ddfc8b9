use Rattle.std.proofs.Common.{ℕ, ◌<◌, List, [], ◌∷◌, map, option_map, ap, sym, subst, ◌∙◌, arith}
use Rattle.std.specs.List.{filter_map}
use Rattle.std.proofs.lemmas.List.{map-append}
use Rattle.node_heap.specs.Links.{count}
use Rattle.pool_text.specs.Rows.{row_form}
use Rattle.pool_text.specs.Pool.{place_in, relink, settings_by, text_forms}
use Rattle.pool_text.proofs.Placed.{item_in, get-some, get-none}
use Rattle.pool_text.proofs.Gathered.{listed-fits, listed-links, listed-roots, pool-is, rows-next, take_all}
use Rattle.pool_text.proofs.from_heap.pool_by_texts.Goals as goal

pub row_of-requires-clause-fits : goal.row_of-requires-clause-fits
row_of-requires-clause-fits g c =
    let at = get-some c.args.order.now c.loop-place.place c.in-Some.link (sym c.in-Some.is ∙ c.at.ensures) in
    let some : 0 < count c.in-Some.link c.args.order.now = item_in c.args.order.now c.loop-place.place c.in-Some.link at.0 (sym at.1) in
    listed-fits c.args.heap.now c.args.roots.now c.rows_form_a_graph.ensures c.requires.fits c.in-Some.link (subst (λ (ks : List ℕ). 0 < count c.in-Some.link ks) c.requires.order some)

pub row_of-requires-clause-listed : goal.row_of-requires-clause-listed
row_of-requires-clause-listed g c =
    let at = get-some c.args.order.now c.loop-place.place c.in-Some.link (sym c.in-Some.is ∙ c.at.ensures) in
    let some : 0 < count c.in-Some.link c.args.order.now = item_in c.args.order.now c.loop-place.place c.in-Some.link at.0 (sym at.1) in
    λ k has. subst (λ (ks : List ℕ). 0 < count k ks) (sym c.requires.order)
    (listed-links c.args.heap.now c.args.roots.now c.rows_form_a_graph.ensures c.requires.fits c.in-Some.link k (subst (λ (ks : List ℕ). 0 < count c.in-Some.link ks) c.requires.order some) has)

pub unreachable-requires : goal.unreachable-requires
unreachable-requires g c = let past = get-none c.args.order.now c.loop-place.place (sym c.in-None.is ∙ c.at.ensures) in omega arith

pub loop-place-preserved : goal.loop-place-preserved
loop-place-preserved g c =
    rows-next (λ k. option_map (relink (place_in c.args.order.now)) (text_forms g.C.CellTexts.bytes_of c.args.heap.now k)) c.args.order.now c.loop-place.place c.in-Some.link _ _ (row_form c.in_ok-row_of-in-Some.field-0)
    c.loop-place.invariant (sym c.in-Some.is ∙ c.at.ensures) c.in_ok-row_of-in-Some.ensures (ap (map row_form) c.in_ok-push-in-Some.ensures.items ∙ map-append row_form c.loop-place.rows.items (c.in_ok-row_of-in-Some.field-0 ∷ []))

pub places_of-requires : goal.places_of-requires
places_of-requires g c = record {
  listed = λ k root. subst (λ (ks : List ℕ). 0 < count k ks) (sym c.requires.order) (listed-roots c.args.heap.now c.args.roots.now c.rows_form_a_graph.ensures c.requires.fits k root);
}

pub returns : goal.returns
returns g c = record {
  value =
      pool-is g.C.CellTexts.bytes_of c.args.heap.now c.args.roots.now (settings_by c.args.bits c.args.history) c.args.order.now c.from_vec.result c.in_ok-places_of.field-0 c.requires.order
      (c.from_vec.ensures ∙ c.loop-place.invariant ∙ ap (filter_map (λ k. option_map (relink (place_in c.args.order.now)) (text_forms g.C.CellTexts.bytes_of c.args.heap.now k))) (take_all c.args.order.now c.loop-place.place (omega arith)))
      c.in_ok-places_of.ensures;
}
