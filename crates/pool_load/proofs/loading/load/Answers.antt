use Rattle.std.proofs.Common.{◌≡◌, length, subst, ◌∙◌, arith}
use Rattle.std.specs.Result.{IfOk, OnOk}
use Rattle.std.proofs.lemmas.Result.{IfOk-weaker}
use Rattle.node_heap.specs.Calls.{KeepsToNeed}
use Rattle.pool_text.specs.declared.pool.Pool.{Pool}
use Rattle.pool_load.specs.Loads.{Loads, AreLoaded, AreRowsLoaded, cells_of, nodes_of}
use Rattle.pool_load.proofs.LoadedRoots.{all-of-loaded}
use Rattle.pool_load.proofs.loading.load.Goals as goal

pub load_roots-requires-clause-few_roots : goal.load_roots-requires-clause-few_roots
load_roots-requires-clause-few_roots g c = omega (arith, c.into_roots.ensures.checked.roots)

pub returns-clause-loads : goal.returns-clause-loads
returns-clause-loads g c = subst (λ (P : Pool). IfOk c.load_roots.result (λ roots. Loads c.args.heap.now c.load_roots.new.heap roots.items P)) c.into_roots.ensures.same c.load_roots.ensures.loads

pub returns-clause-loaded : goal.returns-clause-loaded
returns-clause-loaded g c =
    subst (λ (P : Pool). IfOk c.load_roots.result (λ roots. AreLoaded g.T.Stored.bytes_of c.load_roots.new.heap roots.items P)) c.into_roots.ensures.same
    (IfOk-weaker c.load_roots.result (λ roots. AreRowsLoaded g.T.Stored.bytes_of c.load_roots.new.heap roots.items c.into_roots.result) (λ roots. AreLoaded g.T.Stored.bytes_of c.load_roots.new.heap roots.items c.into_roots.result)
    (λ roots loaded. all-of-loaded g.T.Stored.bytes_of c.load_roots.new.heap roots.items c.into_roots.result c.into_roots.ensures.checked loaded) c.load_roots.ensures.loaded)

pub returns-clause-roots : goal.returns-clause-roots
returns-clause-roots g c =
    IfOk-weaker c.load_roots.result (λ roots. length roots.items ≡ length c.into_roots.result.roots) (λ roots. length roots.items ≡ 4) (λ roots many. many ∙ c.into_roots.ensures.checked.roots) c.load_roots.ensures.roots

pub returns-clause-spares : goal.returns-clause-spares
returns-clause-spares g c =
    subst (λ (P : Pool). OnOk c.load_roots.result (KeepsToNeed c.args.heap.now c.load_roots.new.heap (cells_of P.rows) (nodes_of P.rows))) c.into_roots.ensures.same c.load_roots.ensures.spares
