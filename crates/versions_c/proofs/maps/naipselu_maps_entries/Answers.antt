use Rattle.std.proofs.Common.{Some, length, refl, sym, ap, ◌∙◌, subst}
use Rattle.versions.specs.Sorted.{entries_of}
use Rattle.versions_c.specs.Crossing.{put_or}
use Rattle.versions_c.specs.Shown.{FillsEntries}
use Rattle.versions_c.specs.Shown.{EntriesShown}
use Rattle.versions_c.specs.Stores.{OnMaps, Of}
use Rattle.versions_c.proofs.CallLemmas.{calls-none, calls-at, same-maps, answered}
use Rattle.versions_c.proofs.maps.naipselu_maps_entries.Goals as goal

pub returns-in_default-clause-call : goal.returns-in_default-clause-call
returns-in_default-clause-call c = calls-none put_or c.args.count.now (OnMaps (Of (FillsEntries c.args.version (length c.args.forms.now) (length c.args.room.now)))) c.in_default.ensures.taken c.in_default.ensures.left c.code.ensures refl

pub returns-in_default-clause-shown : goal.returns-in_default-clause-shown
returns-in_default-clause-shown c = λ done. absurd (let bad = sym c.code.ensures ∙ done in cc)

pub returns-clause-call : goal.returns-clause-call
returns-clause-call c = calls-at put_or c.args.count.now (λ v. OnMaps (Of (FillsEntries v (length c.args.forms.now) (length c.args.room.now)))) c.from_number.ensures _ _ c.entries-answer.result (c.in-Some.ensures.taken ∙ ap Some (sym c.deref.ensures)) c.put.ensures c.written.ensures.code c.written.ensures.put (same-maps (Of (FillsEntries c.from_number.result (length c.args.forms.now) (length c.args.room.now))) c.deref.ensures (refl, c.entries-answer.ensures.answers))

pub returns-clause-shown : goal.returns-clause-shown
returns-clause-shown c = λ done.
    (c.deref.result.now, (c.in-Some.ensures.taken ∙ ap Some (sym c.deref.ensures)), subst (λ v. EntriesShown (entries_of c.deref.result.now.maps v) c.entries-answer.new.forms c.entries-answer.new.room) c.from_number.ensures (answered c.entries-answer.result (sym c.written.ensures.code ∙ done) c.entries-answer.ensures.shown))
