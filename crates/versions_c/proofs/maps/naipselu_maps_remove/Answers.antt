use Rattle.std.proofs.Common.{refl}
use Rattle.versions_c.specs.Crossing.{put_or}
use Rattle.total_versions.specs.Calls.{RemovesEntry}
use Rattle.versions_c.specs.Stores.{OnMaps, Seeks}
use Rattle.versions_c.proofs.CallLemmas.{calls-none, calls-some, boxed, joined, seeks-ok, seeks-err}
use Rattle.versions_c.specs.contracts.value.ValueOrd.TheImpl as order
use Rattle.versions_c.proofs.maps.naipselu_maps_remove.Goals.{in-Ok, in-Err}
use Rattle.versions_c.proofs.maps.naipselu_maps_remove.Goals as goal

pub returns-in_default : goal.returns-in_default
returns-in_default c = calls-none put_or c.args.made.now (OnMaps (Seeks c.args.form c.args.text.now (RemovesEntry (order.ghosts).cmp c.args.version))) c.in_default.ensures.taken c.in_default.ensures.left c.code.ensures refl

pub returns : goal.returns
returns c = calls-some put_or c.args.made.now (OnMaps (Seeks c.args.form c.args.text.now (RemovesEntry (order.ghosts).cmp c.args.version))) c.in-Some.store.value c.match-of.store.value c.match-of.answer c.in-Some.ensures.taken c.put.ensures c.written.ensures.code c.written.ensures.put (elim c.match-of.branch [
  | in-Ok w ↦ joined (λ v. OnMaps (Seeks c.args.form c.args.text.now (RemovesEntry (order.ghosts).cmp v))) w.from_number.ensures w.deref_mut.ensures.value (boxed w.store-is) w.answer-is (refl, seeks-ok c.args.form c.args.text.now (RemovesEntry (order.ghosts).cmp w.from_number.result) w.in-Ok.ensures w.remove-answer.ensures)
  | in-Err w ↦ joined (λ v. OnMaps (Seeks c.args.form c.args.text.now (RemovesEntry (order.ghosts).cmp v))) refl refl (boxed w.store-is) w.answer-is (refl, seeks-err c.args.form c.args.text.now (RemovesEntry (order.ghosts).cmp c.args.version) w.in-Err.ensures refl)
])
