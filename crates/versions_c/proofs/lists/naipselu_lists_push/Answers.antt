use Rattle.std.proofs.Common.{refl}
use Rattle.versions_c.specs.Crossing.{put_or}
use Rattle.total_versions.specs.Calls.{Pushes}
use Rattle.versions_c.specs.Stores.{OnLists, Takes}
use Rattle.versions_c.proofs.CallLemmas.{calls-none, calls-some, boxed, joined, takes-ok, takes-err}
use Rattle.versions_c.proofs.lists.naipselu_lists_push.Goals.{in-Ok, in-Err}
use Rattle.versions_c.proofs.lists.naipselu_lists_push.Goals as goal

pub returns-in_default : goal.returns-in_default
returns-in_default c = calls-none put_or c.args.made.now (OnLists (Takes c.args.form c.args.text.now (Pushes c.args.version))) c.in_default.ensures.taken c.in_default.ensures.left c.code.ensures refl

pub returns : goal.returns
returns c = calls-some put_or c.args.made.now (OnLists (Takes c.args.form c.args.text.now (Pushes c.args.version))) c.in-Some.store.value c.match-taken.store.value c.match-taken.answer c.in-Some.ensures.taken c.put.ensures c.written.ensures.code c.written.ensures.put (elim c.match-taken.branch [
  | in-Ok w ↦ joined (λ v. OnLists (Takes c.args.form c.args.text.now (Pushes v))) w.from_number.ensures w.deref_mut.ensures.value (boxed w.store-is) w.answer-is (refl, takes-ok c.args.form c.args.text.now (Pushes w.from_number.result) w.in-Ok.ensures w.push-answer.ensures)
  | in-Err w ↦ joined (λ v. OnLists (Takes c.args.form c.args.text.now (Pushes v))) refl refl (boxed w.store-is) w.answer-is (refl, takes-err c.args.form c.args.text.now (Pushes c.args.version) _ w.in-Err.ensures refl)
])
