use Rattle.std.proofs.Common.{refl}
use Rattle.versions_c.specs.Crossing.{put_or}
use Rattle.total_versions.specs.Calls.{RemovesKeyHere}
use Rattle.versions_c.specs.Stores.{OnSets, Seeks}
use Rattle.versions_c.proofs.CallLemmas.{calls-none, calls-some, boxed, joined, seeks-ok, seeks-err}
use Rattle.versions_c.specs.contracts.value.ValueOrd.TheImpl as order
use Rattle.versions_c.proofs.sets.naipselu_sets_remove_here.Goals.{in-Ok, in-Err}
use Rattle.versions_c.proofs.sets.naipselu_sets_remove_here.Goals as goal

pub returns-in_default : goal.returns-in_default
returns-in_default c = calls-none put_or c.args.edited.now (OnSets (Seeks c.args.form c.args.text.now (RemovesKeyHere (order.ghosts).cmp c.args.version))) c.in_default.ensures.taken c.in_default.ensures.left c.code.ensures refl

pub returns : goal.returns
returns c = calls-some put_or c.args.edited.now (OnSets (Seeks c.args.form c.args.text.now (RemovesKeyHere (order.ghosts).cmp c.args.version))) c.in-Some.store.value c.match-of.store.value c.match-of.answer c.in-Some.ensures.taken c.put.ensures c.written.ensures.code c.written.ensures.put (elim c.match-of.branch [
  | in-Ok w ↦ joined (λ v. OnSets (Seeks c.args.form c.args.text.now (RemovesKeyHere (order.ghosts).cmp v))) w.from_number.ensures w.deref_mut.ensures.value (boxed w.store-is) w.answer-is (refl, seeks-ok c.args.form c.args.text.now (RemovesKeyHere (order.ghosts).cmp w.from_number.result) w.in-Ok.ensures w.remove_here-answer.ensures)
  | in-Err w ↦ joined (λ v. OnSets (Seeks c.args.form c.args.text.now (RemovesKeyHere (order.ghosts).cmp v))) refl refl (boxed w.store-is) w.answer-is (refl, seeks-err c.args.form c.args.text.now (RemovesKeyHere (order.ghosts).cmp c.args.version) w.in-Err.ensures refl)
])
