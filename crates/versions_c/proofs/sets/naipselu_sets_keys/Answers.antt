use Rattle.std.proofs.Common.{Some, length, refl, sym, ap, ◌∙◌, subst}
use Rattle.versions.specs.Sorted.{keys_of}
use Rattle.versions_c.specs.Crossing.{put_or}
use Rattle.versions_c.specs.Shown.{FillsKeys}
use Rattle.versions_c.specs.Shown.{KeysShown}
use Rattle.versions_c.specs.Stores.{OnSets, Of}
use Rattle.versions_c.proofs.CallLemmas.{calls-none, calls-at, same-sets, answered}
use Rattle.versions_c.proofs.sets.naipselu_sets_keys.Goals as goal

pub returns-in_default-clause-call : goal.returns-in_default-clause-call
returns-in_default-clause-call c = calls-none put_or c.args.count.now (OnSets (Of (FillsKeys c.args.version (length c.args.forms.now) (length c.args.room.now)))) c.in_default.ensures.taken c.in_default.ensures.left c.code.ensures refl

pub returns-in_default-clause-shown : goal.returns-in_default-clause-shown
returns-in_default-clause-shown c = λ done. absurd (let bad = sym c.code.ensures ∙ done in cc)

pub returns-clause-call : goal.returns-clause-call
returns-clause-call c = calls-at put_or c.args.count.now (λ v. OnSets (Of (FillsKeys v (length c.args.forms.now) (length c.args.room.now)))) c.from_number.ensures _ _ c.keys-answer.result (c.in-Some.ensures.taken ∙ ap Some (sym c.deref.ensures)) c.put.ensures c.written.ensures.code c.written.ensures.put (same-sets (Of (FillsKeys c.from_number.result (length c.args.forms.now) (length c.args.room.now))) c.deref.ensures (refl, c.keys-answer.ensures.answers))

pub returns-clause-shown : goal.returns-clause-shown
returns-clause-shown c = λ done.
    (c.deref.result.now, (c.in-Some.ensures.taken ∙ ap Some (sym c.deref.ensures)), subst (λ v. KeysShown (keys_of c.deref.result.now.sets v) c.keys-answer.new.forms c.keys-answer.new.room) c.from_number.ensures (answered c.keys-answer.result (sym c.written.ensures.code ∙ done) c.keys-answer.ensures.shown))
