use Rattle.std.proofs.Common.{Some, refl, sym, ap, ◌∙◌, subst}
use Rattle.versions_c.specs.Crossing.{put_or}
use Rattle.total_versions.specs.Calls.{IntersectsMaps}
use Rattle.versions_c.specs.Stores.{OnMaps}
use Rattle.versions_c.proofs.CallLemmas.{calls-none, calls-at}
use Rattle.versions_c.specs.contracts.value.ValueOrd.TheImpl as order
use Rattle.versions_c.proofs.maps.naipselu_maps_both.Goals as goal

pub returns-in_default : goal.returns-in_default
returns-in_default c = calls-none put_or c.args.made.now (OnMaps (IntersectsMaps (order.ghosts).cmp c.args.first c.args.second)) c.in_default.ensures.taken c.in_default.ensures.left c.code.ensures refl

pub returns : goal.returns
returns c = calls-at put_or c.args.made.now (λ v. OnMaps (IntersectsMaps (order.ghosts).cmp v c.args.second)) c.from_number.ensures _ _ c.both-answer.result (c.in-Some.ensures.taken ∙ ap Some (sym c.deref_mut.ensures.value)) c.put.ensures c.written.ensures.code c.written.ensures.put (refl, subst (λ w. IntersectsMaps (order.ghosts).cmp c.from_number.result w c.deref_mut.result.now.maps c.both-answer.new.maps c.both-answer.result) c.from_number-2.ensures c.both-answer.ensures)
