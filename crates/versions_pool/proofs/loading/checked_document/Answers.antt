use Rattle.std.proofs.Common.{◌≡◌, length, refl, sym, subst, ◌∙◌}
use Rattle.std.specs.Prelude.{replicate, true}
use Rattle.pool_text.specs.declared.pool.Pool.{Pool}
use Rattle.pool_text.proofs.Refusals.{handed-on}
use Rattle.pool_check.specs.Roots.{roots_are_of}
use Rattle.versions_pool.specs.Seen.{saved_seen}
use Rattle.versions_pool.specs.Stores.{pool_with, store_damage}
use Rattle.versions_pool.specs.Loading.{AreSaid}
use Rattle.versions_pool.proofs.StoresRead.{bytes-damaged, by-rows}
use Rattle.versions_pool.proofs.loading.checked_document.Goals as goal

pub returns-in_err-saved-clause-damage : goal.returns-in_err-saved-clause-damage
returns-in_err-saved-clause-damage g c =
    handed-on c.from_residual.result c.in_err-saved.field-0.0 (store_damage c.args.format.now c.args.kind c.args.bytes.now) c.from_residual.ensures.1
    (λ not_memory. bytes-damaged c.args.format.now c.args.kind c.args.bytes.now c.in_err-saved.field-0.0 (c.in_err-saved.ensures.damage not_memory))

pub returns-in_err-checked-clause-damage : goal.returns-in_err-checked-clause-damage
returns-in_err-checked-clause-damage g c =
    handed-on c.from_residual-in_err-checked.result c.in_err-checked.field-0.0 (store_damage c.args.format.now c.args.kind c.args.bytes.now) c.from_residual-in_err-checked.ensures.1
    (λ not_memory. by-rows c.args.format.now c.args.kind c.args.bytes.now (saved_seen c.in_ok-saved.saved) c.in_ok-saved.ensures.whole c.in_ok-saved.ensures.saved ∙ c.in_err-checked.ensures.damage not_memory)

pub returns-clause-said : goal.returns-clause-said
returns-clause-said g c =
    let saved = c.in_ok-saved.saved in
    let is = c.in_ok-saved.ensures in
    let has : AreSaid c.args.format.now c.args.kind c.args.bytes.now saved.names (pool_with saved.rows saved.roots) = record {
      said = is.saved;
      pool = refl;
      names_are = record { rise = is.rise; many = is.many; few = is.few };
      kinds = subst (λ (P : Pool). roots_are_of (replicate (length saved.roots) c.args.kind) P ≡ true) c.in_ok-checked.ensures.same c.in_ok-checked.ensures.kinds;
      whole = by-rows c.args.format.now c.args.kind c.args.bytes.now (saved_seen saved) is.whole is.saved ∙ c.in_ok-checked.ensures.undamaged;
    } in
    subst (AreSaid c.args.format.now c.args.kind c.args.bytes.now saved.names) (sym c.in_ok-checked.ensures.same) has
