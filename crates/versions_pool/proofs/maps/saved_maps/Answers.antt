use Rattle.std.proofs.Common.{◌≡◌}
use Rattle.std.specs.Prelude.{true}
use Rattle.std.proofs.lemmas.Result.{IfOk-weaker}
use Rattle.pool_check.specs.declared.root.RootKind.TheVariants.{CellMap}
use Rattle.versions.specs.Roots.{values_in}
use Rattle.versions.specs.Bound.{map_at}
use Rattle.versions_pool.specs.Seen.{saved_seen}
use Rattle.versions_pool.specs.Stores.{Says}
use Rattle.versions_pool.specs.Loading.{IsSavedOf}
use Rattle.versions_pool.specs.Apart.{piece_text, are_apart}
use Rattle.versions_pool.specs.Maps.{map_in}
use Rattle.versions_pool.proofs.MapSays.{maps-can, maps-say, maps-apart}
use Rattle.versions_pool.proofs.maps.saved_maps.Goals as goal

pub saved_roots-requires : goal.saved_roots-requires
saved_roots-requires g c =
    maps-can g.K.Stored.bytes_of g.V.Stored.bytes_of g.K.Ord.cmp g.V.Ord.cmp g.K.Element.code_of g.met.K.Stored.text_order g.met.K.Stored.text_codes g.met.K.Ord.total g.met.V.Ord.total c.args.heap.now c.args.slots.now.slots c.requires c.rows_form_a_graph.ensures

pub returns-clause-says : goal.returns-clause-says
returns-clause-says g c =
    IfOk-weaker c.saved_roots.result (λ s. IsSavedOf (piece_text g.K.Stored.bytes_of g.V.Stored.bytes_of) c.args.heap.now c.args.slots.now.slots (saved_seen s))
    (λ s. Says (map_in g.K.Ord.cmp g.K.Stored.of_bytes g.V.Stored.of_bytes) CellMap (values_in (map_at g.K.Ord.cmp) c.args.heap.now c.args.slots.now.slots) (saved_seen s))
    (λ s is. maps-say g.K.Stored.bytes_of g.V.Stored.bytes_of g.K.Ord.cmp g.V.Ord.cmp g.K.Element.code_of g.met.K.Stored.text_order g.met.K.Stored.text_codes g.met.K.Ord.total g.met.V.Ord.total c.args.heap.now c.args.slots.now.slots c.requires c.rows_form_a_graph.ensures
    c.pools_are_renamed.ensures c.pools_pass_as_made.ensures (saved_seen s) is g.K.Stored.of_bytes g.V.Stored.of_bytes g.met.K.Stored.reads_back g.met.V.Stored.reads_back) c.saved_roots.ensures

pub returns-clause-apart : goal.returns-clause-apart
returns-clause-apart g c =
    IfOk-weaker c.saved_roots.result (λ s. IsSavedOf (piece_text g.K.Stored.bytes_of g.V.Stored.bytes_of) c.args.heap.now c.args.slots.now.slots (saved_seen s)) (λ s. are_apart s.rows ≡ true)
    (λ s is. maps-apart g.K.Stored.bytes_of g.V.Stored.bytes_of g.K.Ord.cmp g.V.Ord.cmp g.K.Element.code_of g.met.K.Stored.text_order g.met.K.Stored.text_codes g.met.K.Ord.total g.met.V.Ord.total c.args.heap.now c.args.slots.now.slots c.requires c.rows_form_a_graph.ensures
    c.pools_are_renamed.ensures c.pools_pass_as_made.ensures (saved_seen s) is) c.saved_roots.ensures
