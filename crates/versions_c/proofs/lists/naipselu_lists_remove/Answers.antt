use Rattle.std.proofs.Common.{Some, refl, sym, ap, ◌∙◌}
use Rattle.versions_c.specs.Crossing.{put_or}
use Rattle.total_versions.specs.Calls.{Removes}
use Rattle.versions_c.specs.Stores.{OnLists}
use Rattle.versions_c.proofs.CallLemmas.{calls-none, calls-at}
use Rattle.versions_c.proofs.lists.naipselu_lists_remove.Goals as goal

pub returns-in_default : goal.returns-in_default
returns-in_default c = calls-none put_or c.args.made.now (OnLists (Removes c.args.version c.args.index)) c.in_default.ensures.taken c.in_default.ensures.left c.code.ensures refl

pub returns : goal.returns
returns c = calls-at put_or c.args.made.now (λ v. OnLists (Removes v c.args.index)) c.from_number.ensures _ _ c.remove-answer.result (c.in-Some.ensures.taken ∙ ap Some (sym c.deref_mut.ensures.value)) c.put.ensures c.written.ensures.code c.written.ensures.put (refl, c.remove-answer.ensures)
