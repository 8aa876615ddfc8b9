use Rattle.std.proofs.Common.{ℕ, List, Some, ap, sym, ◌∙◌}
use Rattle.pool_order.specs.Order.{order_of}
use Rattle.pool_text.specs.declared.pool.Pool.{Pool}
use Rattle.pool_text.proofs.Refusals.{handed-on}
use Rattle.pool_check.specs.declared.root.RootKind.TheVariants.{Lines}
use Rattle.versions.specs.Rooted.{list_at, IsListOf}
use Rattle.versions_pool.specs.Lists.{lists_format, list_in, lists_damage, lists_in}
use Rattle.versions_pool.proofs.StoresRead.{none-read, said-read, none-handed-on}
use Rattle.versions_pool.proofs.LoadLemmas.{of-kind, loaded-has, loaded-values}
use Rattle.versions_pool.proofs.Readings.{lists-same, lines-are}
use Rattle.versions_pool.proofs.lists.load_lists.Goals as goal

pub returns-in_err-names-clause-damage : goal.returns-in_err-names-clause-damage
returns-in_err-names-clause-damage g c = handed-on c.from_residual.result c.in_err-names.field-0.0 (lists_damage c.args.bytes.now) c.from_residual.ensures.1 c.in_err-names.ensures.damage

pub returns-in_err-names-clause-none : goal.returns-in_err-names-clause-none
returns-in_err-names-clause-none g c =
    none-handed-on c.from_residual.result c.in_err-names.field-0.0 (lists_in g.T.Stored.of_bytes c.args.bytes.now) c.from_residual.ensures.1
    (λ not_memory. none-read lists_format Lines c.args.bytes.now (list_in g.T.Stored.of_bytes) c.in_err-names.field-0.0 (c.in_err-names.ensures.damage not_memory))

pub loaded_roots-requires : goal.loaded_roots-requires
loaded_roots-requires g c = c.in_ok-names.ensures.said.names_are

pub of_parts-requires : goal.of_parts-requires
of_parts-requires g c =
    loaded-has g.T.Stored.bytes_of IsListOf list_at c.in_ok-names.names c.in_ok-names.checked c.in_ok-heap.heap c.in_ok-heap.slots.slots c.in_ok-heap.ensures.loaded
    (λ i low. lines-are g.T.Ord.cmp g.T.Element.code_of c.in_ok-names.checked.bits c.in_ok-heap.heap _ (of-kind g.T.Stored.bytes_of IsListOf list_at c.in_ok-names.names c.in_ok-names.checked c.in_ok-heap.heap c.in_ok-heap.slots.slots c.in_ok-heap.ensures.loaded lists_format Lines c.args.bytes.now g.T.Ord.cmp g.T.Element.code_of c.loaded_roots_are_of_kinds.ensures c.in_ok-names.ensures.said i low))

pub returns-clause-lists : goal.returns-clause-lists
returns-clause-lists g c =
    let h = c.in_ok-heap.heap in
    let P : Pool = c.in_ok-names.checked in
    let loaded = c.in_ok-heap.ensures.loaded in
    let roots : List ℕ = loaded.roots in
    let listed = (c.loaded_rows_are_listed.ensures h roots P loaded.rows).rows in
    said-read lists_format Lines c.args.bytes.now (list_in g.T.Stored.of_bytes) c.in_ok-names.names P c.in_ok-names.ensures.said
    ∙ ap (λ m. Some m) (sym (c.of_parts.ensures ∙ loaded-values g.T.Stored.bytes_of IsListOf list_at c.in_ok-names.names c.in_ok-names.checked c.in_ok-heap.heap c.in_ok-heap.slots.slots c.in_ok-heap.ensures.loaded (list_in g.T.Stored.of_bytes)
    (lists-same g.T.Stored.bytes_of g.T.Stored.of_bytes g.met.T.Stored.reads_back h roots (order_of h roots) P listed)))

pub returns-clause-whole : goal.returns-clause-whole
returns-clause-whole g c = c.in_ok-names.ensures.said.whole
