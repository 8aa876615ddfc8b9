use Rattle.std.proofs.Common.{Some, refl, sym, ap, ◌∙◌}
use Rattle.total_versions.specs.Answers.{lent}
use Rattle.versions_c.specs.Crossing.{shown_or}
use Rattle.total_versions.specs.Calls.{Reads}
use Rattle.versions_c.specs.Stores.{OnLists, Of}
use Rattle.versions_c.proofs.CallLemmas.{calls-none, calls-at, same-lists}
use Rattle.versions_c.proofs.lists.naipselu_lists_get.Goals as goal

pub returns-in_default : goal.returns-in_default
returns-in_default c = calls-none shown_or (c.args.shown_form.now, c.args.room.now) (OnLists (Of (Reads c.args.version c.args.index))) c.in_default.ensures.taken c.in_default.ensures.left c.code.ensures refl

pub returns : goal.returns
returns c = calls-at shown_or (c.args.shown_form.now, c.args.room.now) (λ v. OnLists (Of (Reads v c.args.index))) c.from_number.ensures _ _ (lent c.get-answer.result) (c.in-Some.ensures.taken ∙ ap Some (sym c.deref.ensures)) c.put.ensures c.shown-code.ensures.code c.shown-code.ensures.put (same-lists (Of (Reads c.from_number.result c.args.index)) c.deref.ensures (refl, c.get-answer.ensures))
