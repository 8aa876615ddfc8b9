use Rattle.std.proofs.Common.{◌≡◌, [], ◌∷◌, refl, sym, ap, ◌∙◌, arith}
use Rattle.pool_text.specs.declared.pool.Pool.{Pool}
use Rattle.space_state.specs.declared.roots.Batch.TheVariants.{Closed}
use Rattle.space_state.specs.declared.roots.Roots.{Roots}
use Rattle.space_state.specs.View.{TakesRows}
use Rattle.state_rows.proofs.Room.{room-then}
use Rattle.space_state.proofs.Keeping.{few-holds, heap-is}
use Rattle.space_state.proofs.Steps.{closed-batch}
use Rattle.space_state.proofs.Taking.{four, taking-batch, taking-memory, taking-done, pool-loaded, keeps-loaded}
use Rattle.space_state.proofs.roots.RootedHeap.take_pool.Goals as goal

-- the bound is the pool's history
told : {now P : Pool} → now ≡ P → now.history ≡ P.history
told same = ap (λ (Q : Pool). Q.history) same

pub load-requires : goal.load-requires
load-requires c = record { few = few-holds c.requires.keeps.1 (omega arith) }

pub returns-then-in_batch : goal.returns-then-in_batch
returns-then-in_batch c = λ W K. taking-batch W (TakesRows c.args.checked c.args.self.now c.args.self.now) (c.args.self.now ≡ c.args.self.now) _ (sym (c.in_batch.ensures [] W K) ∙ c.if-in_batch.true) refl refl

pub returns-in_err-links : goal.returns-in_err-links
returns-in_err-links c = λ W K.
    let new = record c.args.self.now { heap = c.load.new.heap } in
    taking-memory W (TakesRows c.args.checked c.args.self.now new) (new ≡ c.args.self.now) c.from_residual.result (sym (c.in_batch.ensures [] W K) ∙ c.if-in_batch.false) c.from_residual.ensures.1 (heap-is c.in_err-links.ensures.refused)

pub turn_roots-requires-clause-closed : goal.turn_roots-requires-clause-closed
turn_roots-requires-clause-closed c = closed-batch c.requires.keeps.1 (sym (c.in_batch.ensures [] c.requires.keeps.0 c.requires.keeps.1) ∙ c.if-in_batch.false)

pub turn_roots-requires-clause-kept : goal.turn_roots-requires-clause-kept
turn_roots-requires-clause-kept c =
    let roots : Roots = record { current = c.index.result.now; versions = c.index-2.result.now; undo = c.index-3.result.now; redo = c.index-4.result.now; batch = Closed } in
    let links = c.in_ok-links.links.items in
    let same : links ≡ c.index.result.now ∷ c.index-2.result.now ∷ c.index-3.result.now ∷ c.index-4.result.now ∷ [] =
    four links _ _ _ _ c.in_ok-links.ensures.roots c.index.ensures c.index-2.ensures c.index-3.ensures c.index-4.ensures in
    keeps-loaded c.args.self.now c.requires.keeps.0 c.requires.keeps.1 c.load.new.heap c.args.checked roots c.pool.result.now.history links c.in_ok-links.ensures.loads same c.requires.bits (told c.pool.ensures.same) c.in_ok-links.ensures.loaded

pub returns : goal.returns
returns c = λ W K.
    let roots : Roots = record { current = c.index.result.now; versions = c.index-2.result.now; undo = c.index-3.result.now; redo = c.index-4.result.now; batch = Closed } in
    let links = c.in_ok-links.links.items in
    let same : links ≡ c.index.result.now ∷ c.index-2.result.now ∷ c.index-3.result.now ∷ c.index-4.result.now ∷ [] =
    four links _ _ _ _ c.in_ok-links.ensures.roots c.index.ensures c.index-2.ensures c.index-3.ensures c.index-4.ensures in
    let loads = c.in_ok-links.ensures.loads in
    let kept = keeps-loaded c.args.self.now W K c.load.new.heap c.args.checked roots c.pool.result.now.history links loads same c.requires.bits (told c.pool.ensures.same) c.in_ok-links.ensures.loaded in
    taking-done W (TakesRows c.args.checked c.args.self.now c.turn_roots.new.self) (c.turn_roots.new.self ≡ c.args.self.now) _ (sym (c.in_batch.ensures [] W K) ∙ c.if-in_batch.false) refl (record {
      after = kept.0;
      keeps = c.turn_roots.ensures.kept kept.0 kept.1;
      pool = c.turn_roots.ensures.pool ∙ pool-loaded c.args.self.now W K c.load.new.heap c.args.checked roots c.pool.result.now.history links loads same c.requires.bits (told c.pool.ensures.same) c.in_ok-links.ensures.loaded;
      made = c.turn_roots.ensures.made ∙ loads.made;
      room = room-then c.in_ok-links.ensures.spares c.turn_roots.ensures.spares;
    })
