use Rattle.std.proofs.Common.{Some, refl, sym, ap, ◌∙◌}
use Rattle.versions_c.specs.Crossing.{put_or}
use Rattle.total_versions.specs.Calls.{Counts}
use Rattle.versions_c.specs.Stores.{OnMaps, Of}
use Rattle.versions_c.proofs.CallLemmas.{calls-none, calls-at, same-maps}
use Rattle.versions_c.proofs.maps.naipselu_maps_len.Goals as goal

pub returns-in_default : goal.returns-in_default
returns-in_default c = calls-none put_or c.args.len.now (OnMaps (Of (Counts c.args.version))) c.in_default.ensures.taken c.in_default.ensures.left c.code.ensures refl

pub returns : goal.returns
returns c = calls-at put_or c.args.len.now (λ v. OnMaps (Of (Counts v))) c.from_number.ensures _ _ c.len-answer.result (c.in-Some.ensures.taken ∙ ap Some (sym c.deref.ensures)) c.put.ensures c.written.ensures.code c.written.ensures.put (same-maps (Of (Counts c.from_number.result)) c.deref.ensures (refl, c.len-answer.ensures))
