use Rattle.std.proofs.Common.{◌≡◌, ◌≢◌, Some, None, ap, sym, ◌∙◌}
use Rattle.std.specs.Prelude.{unwrap_or}
use Rattle.std.proofs.lemmas.Result.{IfOk-weaker, IfErr-weaker}
use Rattle.pool_text.specs.declared.damage.Damage.TheVariants.{Memory}
use Rattle.versions_pool.specs.Maps.{maps_in}
use Rattle.versions_pool.proofs.StoresRead.{only-memory}
use Rattle.versions_pool.proofs.maps.maps_after_save.Goals as goal

pub returns-clause-loaded : goal.returns-clause-loaded
returns-clause-loaded g c =
    IfOk-weaker c.load_maps.result (λ loaded. maps_in g.K.Ord.cmp g.K.Stored.of_bytes g.V.Stored.of_bytes c.as_slice.result.now ≡ Some loaded) (λ loaded. loaded ≡ c.args.maps.now)
    (λ loaded is. ap (λ o. unwrap_or o loaded) (sym is ∙ ap (maps_in g.K.Ord.cmp g.K.Stored.of_bytes g.V.Stored.of_bytes) c.as_slice.ensures.value ∙ c.in_ok-bytes.ensures.saved)) c.load_maps.ensures.maps

pub returns-clause-memory : goal.returns-clause-memory
returns-clause-memory g c =
    IfErr-weaker c.load_maps.result (λ d. d ≢ Memory → maps_in g.K.Ord.cmp g.K.Stored.of_bytes g.V.Stored.of_bytes c.as_slice.result.now ≡ None) (λ d. d ≡ Memory)
    (λ d none. only-memory d (λ other. let e : Some c.args.maps.now ≡ None = sym (ap (maps_in g.K.Ord.cmp g.K.Stored.of_bytes g.V.Stored.of_bytes) c.as_slice.ensures.value ∙ c.in_ok-bytes.ensures.saved) ∙ none other in cc)) c.load_maps.ensures.none
