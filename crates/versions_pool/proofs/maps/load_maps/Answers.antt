use Rattle.std.proofs.Common.{◌≡◌, ◌≢◌, ℕ, List, Some, ap, sym, ◌∙◌}
use Rattle.pool_order.specs.Order.{order_of}
use Rattle.pool_text.specs.declared.pool.Pool.{Pool}
use Rattle.pool_text.specs.declared.damage.Damage.TheVariants.{Memory}
use Rattle.pool_text.proofs.Refusals.{handed-on}
use Rattle.pool_check.specs.declared.root.RootKind.TheVariants.{CellMap}
use Rattle.pool_load.proofs.LoadedRoots.{listed}
use Rattle.versions.specs.Bound.{map_at, IsKeyMap}
use Rattle.versions_pool.specs.Apart.{piece_text}
use Rattle.versions_pool.specs.Maps.{maps_format, map_in, maps_damage, maps_in}
use Rattle.versions_pool.proofs.StoresRead.{said-read, none-handed-on}
use Rattle.versions_pool.proofs.MapsRead.{first-damage, last-damage, no-damage, no-maps, maps-are}
use Rattle.versions_pool.proofs.LoadLemmas.{loaded-has, loaded-values, each-at}
use Rattle.versions_pool.proofs.MapLoads.{loaded-maps}
use Rattle.versions_pool.proofs.MapReadings.{maps-same}
use Rattle.versions_pool.proofs.maps.load_maps.Given.{Over}
use Rattle.versions_pool.proofs.maps.load_maps.Goals as goal
use Rattle.versions_pool.proofs.maps.load_maps.Goals.{In_err-values}

pub returns-in_err-names-clause-damage : goal.returns-in_err-names-clause-damage
returns-in_err-names-clause-damage g c =
    handed-on c.from_residual.result c.in_err-names.field-0.0 (maps_damage c.args.bytes.now) c.from_residual.ensures.1 (λ not_memory. first-damage c.args.bytes.now c.in_err-names.field-0.0 (c.in_err-names.ensures.damage not_memory))

pub returns-in_err-names-clause-none : goal.returns-in_err-names-clause-none
returns-in_err-names-clause-none g c =
    none-handed-on c.from_residual.result c.in_err-names.field-0.0 (maps_in g.K.Ord.cmp g.K.Stored.of_bytes g.V.Stored.of_bytes c.args.bytes.now) c.from_residual.ensures.1
    (λ not_memory. no-maps c.args.bytes.now g.K.Ord.cmp g.K.Stored.of_bytes g.V.Stored.of_bytes c.in_err-names.field-0.0 (first-damage c.args.bytes.now c.in_err-names.field-0.0 (c.in_err-names.ensures.damage not_memory)))

-- a cell that is a key and a value
both : (g : Over) (c : In_err-values g) → c.in_err-values.field-0.0 ≢ Memory → maps_damage c.args.bytes.now ≡ Some c.in_err-values.field-0.0
both g c not_memory =
    let said = c.in_ok-names.ensures.said in
    let P : Pool = c.in_ok-names.checked in
    last-damage c.args.bytes.now (record { names = c.in_ok-names.names; roots = P.roots; rows = P.rows }) said.whole said.said (c.in_err-values.ensures.both not_memory) ∙ ap Some (sym (c.in_err-values.ensures.kind not_memory))

pub returns-in_err-values-clause-damage : goal.returns-in_err-values-clause-damage
returns-in_err-values-clause-damage g c = handed-on c.from_residual-in_err-values.result c.in_err-values.field-0.0 (maps_damage c.args.bytes.now) c.from_residual-in_err-values.ensures.1 (both g (goal.at.returns-in_err-values-clause-damage g c).In_err-values)

pub returns-in_err-values-clause-none : goal.returns-in_err-values-clause-none
returns-in_err-values-clause-none g c =
    none-handed-on c.from_residual-in_err-values.result c.in_err-values.field-0.0 (maps_in g.K.Ord.cmp g.K.Stored.of_bytes g.V.Stored.of_bytes c.args.bytes.now) c.from_residual-in_err-values.ensures.1
    (λ not_memory. no-maps c.args.bytes.now g.K.Ord.cmp g.K.Stored.of_bytes g.V.Stored.of_bytes c.in_err-values.field-0.0 (both g (goal.at.returns-in_err-values-clause-none g c).In_err-values not_memory))

pub loaded_roots-requires : goal.loaded_roots-requires
loaded_roots-requires g c = c.in_ok-names.ensures.said.names_are

pub of_parts-requires : goal.of_parts-requires
of_parts-requires g c =
    loaded-has (piece_text g.K.Stored.bytes_of g.V.Stored.bytes_of) (IsKeyMap g.K.Ord.cmp g.V.Ord.cmp g.K.Element.code_of) (map_at g.K.Ord.cmp) c.in_ok-names.names c.in_ok-names.checked c.in_ok-heap.heap c.in_ok-heap.slots.slots c.in_ok-heap.ensures.loaded
    (λ i low. loaded-maps g.K.Stored.bytes_of g.V.Stored.bytes_of g.K.Ord.cmp g.V.Ord.cmp g.K.Element.code_of g.met.K.Stored.text_order g.met.K.Stored.text_codes g.met.K.Ord.total g.met.V.Ord.total g.K.Stored.of_bytes g.V.Stored.of_bytes
    c.in_ok-values.values.marks.items c.in_ok-names.names c.in_ok-names.checked c.in_ok-heap.heap c.in_ok-heap.slots.slots c.in_ok-heap.ensures maps_format c.args.bytes.now c.in_ok-names.ensures.said c.in_ok-values.ensures.apart c.in_ok-values.ensures.marked i low)

pub returns-clause-whole : goal.returns-clause-whole
returns-clause-whole g c =
    let said = c.in_ok-names.ensures.said in
    let P : Pool = c.in_ok-names.checked in
    no-damage c.args.bytes.now (record { names = c.in_ok-names.names; roots = P.roots; rows = P.rows }) said.whole said.said c.in_ok-values.ensures.apart

pub returns-clause-maps : goal.returns-clause-maps
returns-clause-maps g c =
    let h = c.in_ok-heap.heap in
    let P : Pool = c.in_ok-names.checked in
    let said = c.in_ok-names.ensures.said in
    let loaded = c.in_ok-heap.ensures.loaded in
    let roots : List ℕ = loaded.roots in
    let text = piece_text g.K.Stored.bytes_of g.V.Stored.bytes_of in
    let read = map_in g.K.Ord.cmp g.K.Stored.of_bytes g.V.Stored.of_bytes in
    maps-are c.args.bytes.now g.K.Ord.cmp g.K.Stored.of_bytes g.V.Stored.of_bytes _ (no-damage c.args.bytes.now (record { names = c.in_ok-names.names; roots = P.roots; rows = P.rows }) said.whole said.said c.in_ok-values.ensures.apart)
    (said-read maps_format CellMap c.args.bytes.now read c.in_ok-names.names P said
    ∙ ap (λ m. Some m) (sym (c.of_parts.ensures ∙ loaded-values text (IsKeyMap g.K.Ord.cmp g.V.Ord.cmp g.K.Element.code_of) (map_at g.K.Ord.cmp) c.in_ok-names.names P h c.in_ok-heap.slots.slots loaded read
    (maps-same g.K.Stored.bytes_of g.V.Stored.bytes_of g.K.Ord.cmp g.V.Ord.cmp g.K.Element.code_of g.met.K.Stored.text_order g.met.K.Stored.text_codes h g.met.K.Ord.total g.met.V.Ord.total g.K.Stored.of_bytes g.V.Stored.of_bytes g.met.K.Stored.reads_back g.met.V.Stored.reads_back
    roots (order_of h roots) P (listed text h roots P loaded.rows) loaded.rows.checked.rows.passed.lead_back
    (each-at (λ l. IsKeyMap g.K.Ord.cmp g.V.Ord.cmp g.K.Element.code_of h l (map_at g.K.Ord.cmp h l)) roots
    (λ i low. loaded-maps g.K.Stored.bytes_of g.V.Stored.bytes_of g.K.Ord.cmp g.V.Ord.cmp g.K.Element.code_of g.met.K.Stored.text_order g.met.K.Stored.text_codes g.met.K.Ord.total g.met.V.Ord.total g.K.Stored.of_bytes g.V.Stored.of_bytes
    c.in_ok-values.values.marks.items c.in_ok-names.names P h c.in_ok-heap.slots.slots c.in_ok-heap.ensures maps_format c.args.bytes.now said c.in_ok-values.ensures.apart c.in_ok-values.ensures.marked i low))))))
