use Rattle.std.proofs.Common.{Some, refl, sym, ap, ◌∙◌, subst}
use Rattle.versions.specs.Sorted.{IsEqualEntry}
use Rattle.versions_c.specs.Crossing.{put_or}
use Rattle.total_versions.specs.Calls.{Compares}
use Rattle.versions_c.specs.Stores.{OnMaps, Of}
use Rattle.versions_c.proofs.CallLemmas.{calls-none, calls-at, same-maps}
use Rattle.versions_c.specs.contracts.value.ValueOrd.TheImpl as order
use Rattle.versions_c.proofs.maps.naipselu_maps_same.Goals as goal

pub returns-in_default : goal.returns-in_default
returns-in_default c = calls-none put_or c.args.same.now (OnMaps (Of (Compares (IsEqualEntry (order.ghosts).cmp (order.ghosts).cmp) c.args.left c.args.right))) c.in_default.ensures.taken c.in_default.ensures.left c.code.ensures refl

pub returns : goal.returns
returns c = calls-at put_or c.args.same.now (λ v. OnMaps (Of (Compares (IsEqualEntry (order.ghosts).cmp (order.ghosts).cmp) v c.args.right))) c.from_number.ensures _ _ c.same-answer.result (c.in-Some.ensures.taken ∙ ap Some (sym c.deref.ensures)) c.put.ensures c.written.ensures.code c.written.ensures.put (same-maps (Of (Compares (IsEqualEntry (order.ghosts).cmp (order.ghosts).cmp) c.from_number.result c.args.right)) c.deref.ensures (refl, subst (λ w. Compares (IsEqualEntry (order.ghosts).cmp (order.ghosts).cmp) c.from_number.result w c.deref.result.now.maps c.same-answer.result) c.from_number-2.ensures c.same-answer.ensures))
