use Rattle.std.proofs.Common.{◌≡◌, ℕ, List, map, length, refl, ap, ◌∙◌, arith}
use Rattle.std.specs.Prelude.{slice_index}
use Rattle.serde_json.specs.View.{view}
use Rattle.pool_text.specs.Rows.{row_form}
use Rattle.pool_text.specs.Document.{list, row_value}
use Rattle.pool_text.specs.declared.pool.Pool.{Pool}
use Rattle.pool_text.specs.declared.row.Row.{Row}
use Rattle.pool_delta.specs.Parts.{part_document}
use Rattle.pool_delta.specs.Delta.{delta}
use Rattle.pool_delta.proofs.DeltaText.{part-written, part-reads, roots-inside, delta-from, valid-back}
use Rattle.pool_delta.proofs.delta.delta_bytes.Goals as goal

pub placed-requires : goal.placed-requires
placed-requires c = record { back = valid-back c.args.pool.now c.requires.valid _ c.as_slice.ensures }

pub at_places-requires : goal.at_places-requires
at_places-requires c = record {
  low = λ k some. omega (
    arith,
    ap length c.as_slice-2.ensures.value,
    roots-inside c.args.chain.now c.args.pool.now c.rows-rows.result.now c.as_slice.result.now c.in_ok-places.own.items c.in_ok-places.places.items c.rows-rows.ensures.rows c.as_slice.ensures c.in_ok-places.ensures.places
        c.requires.valid c.as_slice-3.result.now c.as_slice-3.ensures k some,
  );
}

-- the value that is written
document-is : (c : goal.After-drop-places-2) → view c.in_ok-value.value ≡ part_document (delta c.args.chain.now c.args.pool.now)
document-is c =
    let C : Pool = c.args.chain.now in
    let P : Pool = c.args.pool.now in
    let roots-are : c.as_slice-4.result.now ≡ map (slice_index c.in_ok-places.places.items) c.as_slice-3.result.now =
    c.as_slice-4.ensures ∙ c.in_ok-roots.ensures ∙ ap (λ (ps : List ℕ). map (slice_index ps) c.as_slice-3.result.now) c.as_slice-2.ensures.value in
    c.in_ok-value.ensures
    ∙ delta-from C P c.rows-rows.result.now c.as_slice.result.now c.in_ok-places.own.items c.in_ok-places.places.items c.rows-rows.ensures.rows c.as_slice.ensures c.in_ok-places.ensures.places c.in_ok-places.ensures.own
    c.as_slice-4.result.now c.as_slice-3.result.now c.as_slice-3.ensures roots-are
    _ _ _ _ _ refl refl refl c.in_ok-numbers_value.ensures (c.in_ok-rows_value.ensures ∙ ap (λ (rs : List Row). list (map (λ row. row_value (row_form row)) rs)) c.as_slice-5.ensures.value)

pub returns-clause-value : goal.returns-clause-value
returns-clause-value c = part-written (delta c.args.chain.now c.args.pool.now) (view c.in_ok-value.value) c.in_ok-to_vec.field-0.items (document-is c) c.in_ok-to_vec.ensures.text

pub returns-clause-reads : goal.returns-clause-reads
returns-clause-reads c = part-reads (delta c.args.chain.now c.args.pool.now) (view c.in_ok-value.value) c.in_ok-to_vec.field-0.items (document-is c) c.in_ok-to_vec.ensures.utf8 c.in_ok-to_vec.ensures.reads_back
