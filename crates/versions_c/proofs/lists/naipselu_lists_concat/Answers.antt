use Rattle.std.proofs.Common.{Some, refl, sym, ap, ◌∙◌, subst}
use Rattle.versions_c.specs.Crossing.{put_or}
use Rattle.total_versions.specs.Calls.{Concats}
use Rattle.versions_c.specs.Stores.{OnLists}
use Rattle.versions_c.proofs.CallLemmas.{calls-none, calls-at}
use Rattle.versions_c.proofs.lists.naipselu_lists_concat.Goals as goal

pub returns-in_default : goal.returns-in_default
returns-in_default c = calls-none put_or c.args.made.now (OnLists (Concats c.args.left c.args.right)) c.in_default.ensures.taken c.in_default.ensures.left c.code.ensures refl

pub returns : goal.returns
returns c = calls-at put_or c.args.made.now (λ v. OnLists (Concats v c.args.right)) c.from_number.ensures _ _ c.concat-answer.result (c.in-Some.ensures.taken ∙ ap Some (sym c.deref_mut.ensures.value)) c.put.ensures c.written.ensures.code c.written.ensures.put (refl, subst (λ w. Concats c.from_number.result w c.deref_mut.result.now.lists c.concat-answer.new.lists c.concat-answer.result) c.from_number-2.ensures c.concat-answer.ensures)
