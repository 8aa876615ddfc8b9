use Rattle.std.proofs.lemmas.Result.{IfOk-weaker}
use Rattle.pool_check.specs.declared.root.RootKind.TheVariants.{Lines}
use Rattle.versions.specs.Roots.{values_in}
use Rattle.versions.specs.Rooted.{list_at}
use Rattle.versions_pool.specs.Seen.{saved_seen}
use Rattle.versions_pool.specs.Stores.{Says}
use Rattle.versions_pool.specs.Loading.{IsSavedOf}
use Rattle.versions_pool.specs.Lists.{list_in}
use Rattle.versions_pool.proofs.ListSays.{lists-can, lists-say}
use Rattle.versions_pool.proofs.lists.saved_lists.Goals as goal

pub saved_roots-requires : goal.saved_roots-requires
saved_roots-requires g c = lists-can g.T.Stored.bytes_of c.args.heap.now c.args.slots.now.slots c.requires c.rows_form_a_graph.ensures

pub returns : goal.returns
returns g c =
    IfOk-weaker c.saved_roots.result (λ s. IsSavedOf g.T.Stored.bytes_of c.args.heap.now c.args.slots.now.slots (saved_seen s)) (λ s. Says (list_in g.T.Stored.of_bytes) Lines (values_in list_at c.args.heap.now c.args.slots.now.slots) (saved_seen s))
    (λ s is. lists-say g.T.Stored.bytes_of c.args.heap.now c.args.slots.now.slots c.requires c.rows_form_a_graph.ensures c.pools_are_renamed.ensures c.pools_pass_as_made.ensures (saved_seen s) is g.T.Stored.of_bytes g.met.T.Stored.reads_back) c.saved_roots.ensures
