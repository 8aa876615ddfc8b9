use Rattle.std.proofs.Common.{ℕ, List, Some, ap, sym, ◌∙◌}
use Rattle.pool_order.specs.Order.{order_of}
use Rattle.pool_text.specs.declared.pool.Pool.{Pool}
use Rattle.pool_text.proofs.Refusals.{handed-on}
use Rattle.pool_check.specs.declared.root.RootKind.TheVariants.{Cells}
use Rattle.versions.specs.Keyed.{keys_at, IsKeySet}
use Rattle.versions_pool.specs.Sets.{sets_format, set_in, sets_damage, sets_in}
use Rattle.versions_pool.proofs.StoresRead.{none-read, said-read, none-handed-on}
use Rattle.versions_pool.proofs.LoadLemmas.{of-kind, loaded-has, loaded-values, each-at}
use Rattle.versions_pool.proofs.SetReadings.{sets-same, keyed-root}
use Rattle.versions_pool.proofs.sets.load_sets.Goals as goal

pub returns-in_err-names-clause-damage : goal.returns-in_err-names-clause-damage
returns-in_err-names-clause-damage g c = handed-on c.from_residual.result c.in_err-names.field-0.0 (sets_damage c.args.bytes.now) c.from_residual.ensures.1 c.in_err-names.ensures.damage

pub returns-in_err-names-clause-none : goal.returns-in_err-names-clause-none
returns-in_err-names-clause-none g c =
    none-handed-on c.from_residual.result c.in_err-names.field-0.0 (sets_in g.K.Ord.cmp g.K.Stored.of_bytes c.args.bytes.now) c.from_residual.ensures.1
    (λ not_memory. none-read sets_format Cells c.args.bytes.now (set_in g.K.Ord.cmp g.K.Stored.of_bytes) c.in_err-names.field-0.0 (c.in_err-names.ensures.damage not_memory))

pub loaded_roots-requires : goal.loaded_roots-requires
loaded_roots-requires g c = c.in_ok-names.ensures.said.names_are

pub of_parts-requires : goal.of_parts-requires
of_parts-requires g c =
    loaded-has g.K.Stored.bytes_of (IsKeySet g.K.Ord.cmp g.K.Element.code_of) (keys_at g.K.Ord.cmp) c.in_ok-names.names c.in_ok-names.checked c.in_ok-heap.heap c.in_ok-heap.slots.slots c.in_ok-heap.ensures.loaded
    (λ i low. let is = of-kind g.K.Stored.bytes_of (IsKeySet g.K.Ord.cmp g.K.Element.code_of) (keys_at g.K.Ord.cmp) c.in_ok-names.names c.in_ok-names.checked c.in_ok-heap.heap c.in_ok-heap.slots.slots c.in_ok-heap.ensures.loaded sets_format Cells c.args.bytes.now g.K.Ord.cmp g.K.Element.code_of c.loaded_roots_are_of_kinds.ensures c.in_ok-names.ensures.said i low in keyed-root g.K.Stored.bytes_of g.K.Ord.cmp g.K.Element.code_of g.met.K.Stored.text_order g.met.K.Stored.text_codes c.in_ok-heap.heap g.met.K.Ord.total _ c.in_ok-names.checked.bits is.0 (ap (λ (P : Pool). P.bits) c.in_ok-names.ensures.said.pool) is.1)

pub returns-clause-sets : goal.returns-clause-sets
returns-clause-sets g c =
    let h = c.in_ok-heap.heap in
    let P : Pool = c.in_ok-names.checked in
    let loaded = c.in_ok-heap.ensures.loaded in
    let roots : List ℕ = loaded.roots in
    let listed = (c.loaded_rows_are_listed.ensures h roots P loaded.rows).rows in
    said-read sets_format Cells c.args.bytes.now (set_in g.K.Ord.cmp g.K.Stored.of_bytes) c.in_ok-names.names P c.in_ok-names.ensures.said
    ∙ ap (λ m. Some m) (sym (c.of_parts.ensures ∙ loaded-values g.K.Stored.bytes_of (IsKeySet g.K.Ord.cmp g.K.Element.code_of) (keys_at g.K.Ord.cmp) c.in_ok-names.names c.in_ok-names.checked c.in_ok-heap.heap c.in_ok-heap.slots.slots c.in_ok-heap.ensures.loaded (set_in g.K.Ord.cmp g.K.Stored.of_bytes)
    (sets-same g.K.Stored.bytes_of g.K.Ord.cmp g.K.Element.code_of g.met.K.Stored.text_order g.met.K.Stored.text_codes h g.met.K.Ord.total g.K.Stored.of_bytes g.met.K.Stored.reads_back roots (order_of h roots) P listed loaded.rows.checked.rows.passed.lead_back
    (each-at (λ l. IsKeySet g.K.Ord.cmp g.K.Element.code_of h l (keys_at g.K.Ord.cmp h l)) roots (λ i low. let is = of-kind g.K.Stored.bytes_of (IsKeySet g.K.Ord.cmp g.K.Element.code_of) (keys_at g.K.Ord.cmp) c.in_ok-names.names c.in_ok-names.checked c.in_ok-heap.heap c.in_ok-heap.slots.slots c.in_ok-heap.ensures.loaded sets_format Cells c.args.bytes.now g.K.Ord.cmp g.K.Element.code_of c.loaded_roots_are_of_kinds.ensures c.in_ok-names.ensures.said i low in keyed-root g.K.Stored.bytes_of g.K.Ord.cmp g.K.Element.code_of g.met.K.Stored.text_order g.met.K.Stored.text_codes c.in_ok-heap.heap g.met.K.Ord.total _ c.in_ok-names.checked.bits is.0 (ap (λ (P : Pool). P.bits) c.in_ok-names.ensures.said.pool) is.1)))))

pub returns-clause-whole : goal.returns-clause-whole
returns-clause-whole g c = c.in_ok-names.ensures.said.whole
