use Rattle.std.proofs.Common.{refl}
use Rattle.versions_c.specs.Crossing.{put_or}
use Rattle.total_versions.specs.Calls.{HasKey}
use Rattle.versions_c.specs.Stores.{OnSets, Of, Seeks}
use Rattle.versions_c.proofs.CallLemmas.{calls-none, calls-some, joined, seeks-ok, seeks-err, same-sets}
use Rattle.versions_c.specs.contracts.value.ValueOrd.TheImpl as order
use Rattle.versions_c.proofs.sets.naipselu_sets_contains.Goals.{in-Ok, in-Err}
use Rattle.versions_c.proofs.sets.naipselu_sets_contains.Goals as goal

pub returns-in_default : goal.returns-in_default
returns-in_default c = calls-none put_or c.args.has.now (OnSets (Seeks c.args.form c.args.text.now (λ key. Of (HasKey (order.ghosts).cmp c.args.version key)))) c.in_default.ensures.taken c.in_default.ensures.left c.code.ensures refl

pub returns : goal.returns
returns c = calls-some put_or c.args.has.now (OnSets (Seeks c.args.form c.args.text.now (λ key. Of (HasKey (order.ghosts).cmp c.args.version key)))) c.in-Some.store.value c.in-Some.store.value c.match-of.answer c.in-Some.ensures.taken c.put.ensures c.written.ensures.code c.written.ensures.put (elim c.match-of.branch [
  | in-Ok w ↦ joined (λ v. OnSets (Seeks c.args.form c.args.text.now (λ key. Of (HasKey (order.ghosts).cmp v key)))) w.from_number.ensures w.deref.ensures refl w.answer-is (same-sets (Seeks c.args.form c.args.text.now (λ key. Of (HasKey (order.ghosts).cmp w.from_number.result key))) w.deref.ensures (seeks-ok c.args.form c.args.text.now (λ key. Of (HasKey (order.ghosts).cmp w.from_number.result key)) w.in-Ok.ensures (refl, w.contains-answer.ensures)))
  | in-Err w ↦ joined (λ v. OnSets (Seeks c.args.form c.args.text.now (λ key. Of (HasKey (order.ghosts).cmp v key)))) refl refl refl w.answer-is (refl, seeks-err c.args.form c.args.text.now (λ key. Of (HasKey (order.ghosts).cmp c.args.version key)) w.in-Err.ensures refl)
])
