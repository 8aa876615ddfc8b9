use Rattle.std.proofs.Common.{◌≡◌, Some, subst}
use Rattle.std.proofs.lemmas.Result.{IfOk-weaker}
use Rattle.pool_text.specs.Document.{value_in}
use Rattle.pool_check.specs.declared.root.RootKind.TheVariants.{CellMap}
use Rattle.versions_pool.specs.Saved.{saved_document, saved_text}
use Rattle.versions_pool.specs.Seen.{saved_seen}
use Rattle.versions_pool.specs.Stores.{Says}
use Rattle.versions_pool.specs.Maps.{maps_format, map_in, maps_in, IsMapsDocument}
use Rattle.versions_pool.proofs.MapsRead.{maps-read}
use Rattle.versions_pool.proofs.maps.save_maps.Goals as goal

pub saved_maps-requires : goal.saved_maps-requires
saved_maps-requires g c = c.parts.ensures.stands

pub returns-clause-saved : goal.returns-clause-saved
returns-clause-saved g c =
    let s = saved_seen c.in_ok-saved.saved in
    let said = subst (λ m. Says (map_in g.K.Ord.cmp g.K.Stored.of_bytes g.V.Stored.of_bytes) CellMap m s) c.parts.ensures.same c.in_ok-saved.ensures.says in
    IfOk-weaker c.saved_bytes.result (λ b. value_in b.items ≡ Some (saved_document maps_format s)) (λ b. maps_in g.K.Ord.cmp g.K.Stored.of_bytes g.V.Stored.of_bytes b.items ≡ Some c.args.maps.now)
    (λ b reads. maps-read b.items g.K.Ord.cmp g.K.Stored.of_bytes g.V.Stored.of_bytes c.args.maps.now s said c.in_ok-saved.ensures.apart reads) c.saved_bytes.ensures.reads

pub returns-clause-text : goal.returns-clause-text
returns-clause-text g c =
    let s = saved_seen c.in_ok-saved.saved in
    let said = subst (λ m. Says (map_in g.K.Ord.cmp g.K.Stored.of_bytes g.V.Stored.of_bytes) CellMap m s) c.parts.ensures.same c.in_ok-saved.ensures.says in
    IfOk-weaker c.saved_bytes.result (λ b. b.items ≡ saved_text maps_format s) (λ b. IsMapsDocument g.K.Ord.cmp g.K.Stored.of_bytes g.V.Stored.of_bytes c.args.maps.now b.items)
    (λ b text. record { document = record { saved = s; text = text; says = said }; apart = c.in_ok-saved.ensures.apart }) c.saved_bytes.ensures.value
