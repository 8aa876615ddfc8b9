use Rattle.std.proofs.lemmas.Result.{IfOk-weaker}
use Rattle.pool_check.specs.declared.root.RootKind.TheVariants.{Cells}
use Rattle.versions.specs.Roots.{values_in}
use Rattle.versions.specs.Keyed.{keys_at}
use Rattle.versions_pool.specs.Seen.{saved_seen}
use Rattle.versions_pool.specs.Stores.{Says}
use Rattle.versions_pool.specs.Loading.{IsSavedOf}
use Rattle.versions_pool.specs.Sets.{set_in}
use Rattle.versions_pool.proofs.SetSays.{sets-can, sets-say}
use Rattle.versions_pool.proofs.sets.saved_sets.Goals as goal

pub saved_roots-requires : goal.saved_roots-requires
saved_roots-requires g c = sets-can g.K.Stored.bytes_of g.K.Ord.cmp g.K.Element.code_of g.met.K.Stored.text_order g.met.K.Stored.text_codes g.met.K.Ord.total c.args.heap.now c.args.slots.now.slots c.requires c.rows_form_a_graph.ensures

pub returns : goal.returns
returns g c =
    IfOk-weaker c.saved_roots.result (λ s. IsSavedOf g.K.Stored.bytes_of c.args.heap.now c.args.slots.now.slots (saved_seen s)) (λ s. Says (set_in g.K.Ord.cmp g.K.Stored.of_bytes) Cells (values_in (keys_at g.K.Ord.cmp) c.args.heap.now c.args.slots.now.slots) (saved_seen s))
    (λ s is. sets-say g.K.Stored.bytes_of g.K.Ord.cmp g.K.Element.code_of g.met.K.Stored.text_order g.met.K.Stored.text_codes g.met.K.Ord.total c.args.heap.now c.args.slots.now.slots c.requires c.rows_form_a_graph.ensures
    c.pools_are_renamed.ensures c.pools_pass_as_made.ensures (saved_seen s) is g.K.Stored.of_bytes g.met.K.Stored.reads_back) c.saved_roots.ensures
