use Rattle.std.proofs.Common.{refl, ap}
use Rattle.total_versions.specs.Answers.{lent}
use Rattle.versions_c.specs.Crossing.{shown_or}
use Rattle.total_versions.specs.Calls.{Finds}
use Rattle.versions_c.specs.Stores.{OnMaps, Of, Seeks}
use Rattle.versions_c.proofs.CallLemmas.{calls-none, calls-some, joined, seeks-ok, seeks-err, same-maps}
use Rattle.versions_c.specs.contracts.value.ValueOrd.TheImpl as order
use Rattle.versions_c.proofs.maps.naipselu_maps_get.Goals.{in-Ok, in-Err}
use Rattle.versions_c.proofs.maps.naipselu_maps_get.Goals as goal

pub returns-in_default : goal.returns-in_default
returns-in_default c = calls-none shown_or (c.args.shown_form.now, c.args.room.now) (OnMaps (Seeks c.args.form c.args.text.now (λ key. Of (Finds (order.ghosts).cmp c.args.version key)))) c.in_default.ensures.taken c.in_default.ensures.left c.code.ensures refl

pub returns : goal.returns
returns c = calls-some shown_or (c.args.shown_form.now, c.args.room.now) (OnMaps (Seeks c.args.form c.args.text.now (λ key. Of (Finds (order.ghosts).cmp c.args.version key)))) c.in-Some.store.value c.in-Some.store.value (lent c.match-of.answer) c.in-Some.ensures.taken c.put.ensures c.shown-code.ensures.code c.shown-code.ensures.put (elim c.match-of.branch [
  | in-Ok w ↦ joined (λ v. OnMaps (Seeks c.args.form c.args.text.now (λ key. Of (Finds (order.ghosts).cmp v key)))) w.from_number.ensures w.deref.ensures refl (ap lent w.answer-is) (same-maps (Seeks c.args.form c.args.text.now (λ key. Of (Finds (order.ghosts).cmp w.from_number.result key))) w.deref.ensures (seeks-ok c.args.form c.args.text.now (λ key. Of (Finds (order.ghosts).cmp w.from_number.result key)) w.in-Ok.ensures (refl, w.get-answer.ensures)))
  | in-Err w ↦ joined (λ v. OnMaps (Seeks c.args.form c.args.text.now (λ key. Of (Finds (order.ghosts).cmp v key)))) refl refl refl (ap lent w.answer-is) (refl, seeks-err c.args.form c.args.text.now (λ key. Of (Finds (order.ghosts).cmp c.args.version key)) w.in-Err.ensures refl)
])
