use Rattle.std.proofs.Common.{Some, refl, sym, ap, ◌∙◌}
use Rattle.versions_c.specs.Crossing.{put_or}
use Rattle.total_versions.specs.Calls.{MakesEmpty}
use Rattle.versions_c.specs.Stores.{OnSets}
use Rattle.versions_c.proofs.CallLemmas.{calls-none, calls-some}
use Rattle.versions_c.proofs.sets.naipselu_sets_empty.Goals as goal

pub returns-in_default : goal.returns-in_default
returns-in_default c = calls-none put_or c.args.made.now (OnSets MakesEmpty) c.in_default.ensures.taken c.in_default.ensures.left c.code.ensures refl

pub returns : goal.returns
returns c = calls-some put_or c.args.made.now (OnSets MakesEmpty) _ _ c.empty-answer.result (c.in-Some.ensures.taken ∙ ap Some (sym c.deref_mut.ensures.value)) c.put.ensures c.written.ensures.code c.written.ensures.put (refl, c.empty-answer.ensures)
