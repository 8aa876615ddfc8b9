use Rattle.std.proofs.Common.{refl}
use Rattle.versions_c.specs.Crossing.{put_or}
use Rattle.total_versions.specs.Calls.{Puts}
use Rattle.versions_c.specs.Stores.{OnMaps, Takes}
use Rattle.versions_c.proofs.CallLemmas.{calls-none, calls-some, boxed, joined, takes-both, takes-neither}
use Rattle.versions_c.specs.contracts.value.ValueOrd.TheImpl as order
use Rattle.versions_c.proofs.maps.naipselu_maps_insert.Goals.{in-Ok, in-Err}
use Rattle.versions_c.proofs.maps.naipselu_maps_insert.Goals as goal

pub returns-in_default : goal.returns-in_default
returns-in_default c = calls-none put_or c.args.made.now (OnMaps (Takes c.args.form c.args.text.now (λ key. Takes c.args.value_form c.args.value_text.now (Puts (order.ghosts).cmp c.args.version key)))) c.in_default.ensures.taken c.in_default.ensures.left c.code.ensures refl

pub returns : goal.returns
returns c = calls-some put_or c.args.made.now (OnMaps (Takes c.args.form c.args.text.now (λ key. Takes c.args.value_form c.args.value_text.now (Puts (order.ghosts).cmp c.args.version key)))) c.in-Some.store.value c.match-taken_pair.store.value c.match-taken_pair.answer c.in-Some.ensures.taken c.put.ensures c.written.ensures.code c.written.ensures.put (elim c.match-taken_pair.branch [
  | in-Ok w ↦ joined (λ v. OnMaps (Takes c.args.form c.args.text.now (λ key. Takes c.args.value_form c.args.value_text.now (Puts (order.ghosts).cmp v key)))) w.from_number.ensures w.deref_mut.ensures.value (boxed w.store-is) w.answer-is (refl, takes-both c.args.form c.args.text.now c.args.value_form c.args.value_text.now (Puts (order.ghosts).cmp w.from_number.result) w.in-Ok.ensures w.insert-answer.ensures)
  | in-Err w ↦ joined (λ v. OnMaps (Takes c.args.form c.args.text.now (λ key. Takes c.args.value_form c.args.value_text.now (Puts (order.ghosts).cmp v key)))) refl refl (boxed w.store-is) w.answer-is (refl, takes-neither c.args.form c.args.text.now c.args.value_form c.args.value_text.now (Puts (order.ghosts).cmp c.args.version) _ w.in-Err.ensures refl)
])
