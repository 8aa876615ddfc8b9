use Rattle.std.proofs.Common.{Some, refl, sym, ap, ◌∙◌}
use Rattle.versions_c.specs.Crossing.{put_or}
use Rattle.total_versions.specs.Calls.{PopsHere}
use Rattle.versions_c.specs.Stores.{OnLists}
use Rattle.versions_c.proofs.CallLemmas.{calls-none, calls-at}
use Rattle.versions_c.proofs.lists.naipselu_lists_pop_here.Goals as goal

pub returns-in_default : goal.returns-in_default
returns-in_default c = calls-none put_or c.args.edited.now (OnLists (PopsHere c.args.version)) c.in_default.ensures.taken c.in_default.ensures.left c.code.ensures refl

pub returns : goal.returns
returns c = calls-at put_or c.args.edited.now (λ v. OnLists (PopsHere v)) c.from_number.ensures _ _ c.pop_here-answer.result (c.in-Some.ensures.taken ∙ ap Some (sym c.deref_mut.ensures.value)) c.put.ensures c.written.ensures.code c.written.ensures.put (refl, c.pop_here-answer.ensures)
