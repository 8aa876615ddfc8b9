use Rattle.std.proofs.Common.{[], ◌∷◌, ◌++◌, length, refl, sym, subst, ◌∙◌}
use Rattle.std.specs.Map.Iter.{deref_pair}
use Rattle.std.proofs.lemmas.Map.Iter.{rest_more, rest_all}
use Rattle.versions.specs.Sorted.{entries_of}
use Rattle.versions_c.specs.declared.value.Value.{Value}
use Rattle.versions_c.specs.Shown.{flat, StandBefore, HasTooLittle}
use Rattle.total_versions.proofs.AnswerLemmas.{not-yes}
use Rattle.versions_c.proofs.FillLemmas.{at-begin, enough, flat-push, none-on, one-on, same-flat, too-little-at, too-little-entries, too-little-flat, too-little-flat-back, too-little-more}
use Rattle.versions_c.proofs.fill.entries.Goals as goal

pub returns-then-not-holds-clause-answers : goal.returns-then-not-holds-clause-answers
returns-then-not-holds-clause-answers c = (λ held. not-yes (c.holds.ensures.1 held) c.if-not-holds.true, tt)

pub loop-key-init : goal.loop-key-init
loop-key-init c = record { stand = ([], refl, at-begin c.args.forms.now c.args.room.now); forms = refl; room = refl }

pub pour-requires : goal.pour-requires
pour-requires c = (flat c.loop-key.invariant.stand.0, c.loop-key.invariant.stand.2)

pub pour-requires-in-loop-key : goal.pour-requires-in-loop-key
pour-requires-in-loop-key c =
    let xs = flat c.loop-key.invariant.stand.0 in
    (xs ++ c.in-Some.key.now ∷ [], c.in-Some-pour.ensures.shown xs c.loop-key.invariant.stand.2)

pub returns-in_default-clause-answers : goal.returns-in_default-clause-answers
returns-in_default-clause-answers c =
    let all = c.iter-key-items.result in
    let es = c.loop-key.invariant.stand.0 in
    let e : Value × Value = (c.in-Some.key.now, c.in-Some.value.now) in
    let is = one-on all es c.loop-key.key-iterator c.next.new.self e (sym c.into_iter-key-iterator.ensures.into_iter_gives ∙ c.loop-key.invariant.stand.1) (rest_more deref_pair _ _ _ _ c.in-Some.is c.next.ensures.steps) in
    let few = c.in_default.ensures.shown (flat es) c.loop-key.invariant.stand.2 in
    let more = subst (λ ys. HasTooLittle ys (length c.loop-key.forms) (length c.loop-key.room)) (sym (flat-push es e)) (too-little-more (flat es ++ e.0 ∷ []) e.1 (length c.loop-key.forms) (length c.loop-key.room) few) in (
      c.holds.ensures.0 c.if-not-holds.false,
      too-little-flat all (entries_of c.args.maps.now c.args.version) _ _ c.iter-key-items.ensures (too-little-at (flat all) _ _ _ _ c.loop-key.invariant.forms c.loop-key.invariant.room (too-little-entries (es ++ e ∷ []) c.next.new.self all _ _ is more)),
      tt,
    )

pub returns-in_default-pour-clause-answers : goal.returns-in_default-pour-clause-answers
returns-in_default-pour-clause-answers c =
    let all = c.iter-key-items.result in
    let es = c.loop-key.invariant.stand.0 in
    let e : Value × Value = (c.in-Some.key.now, c.in-Some.value.now) in
    let is = one-on all es c.loop-key.key-iterator c.next.new.self e (sym c.into_iter-key-iterator.ensures.into_iter_gives ∙ c.loop-key.invariant.stand.1) (rest_more deref_pair _ _ _ _ c.in-Some.is c.next.ensures.steps) in
    let few = c.in_default-pour.ensures.shown (flat es ++ e.0 ∷ []) (c.in-Some-pour.ensures.shown (flat es) c.loop-key.invariant.stand.2) in
    let more = subst (λ ys. HasTooLittle ys (length c.pour.new.forms) (length c.pour.new.room)) (sym (flat-push es e)) few in (
      c.holds.ensures.0 c.if-not-holds.false,
      too-little-flat all (entries_of c.args.maps.now c.args.version) _ _ c.iter-key-items.ensures (too-little-at (flat all) _ _ _ _ (c.pour.ensures.forms ∙ c.loop-key.invariant.forms) (c.pour.ensures.room ∙ c.loop-key.invariant.room) (too-little-entries (es ++ e ∷ []) c.next.new.self all _ _ is more)),
      tt,
    )

pub loop-key-preserved : goal.loop-key-preserved
loop-key-preserved c =
    let es = c.loop-key.invariant.stand.0 in
    let e : Value × Value = (c.in-Some.key.now, c.in-Some.value.now) in
    let shown = c.in-Some-pour-2.ensures.shown (flat es ++ e.0 ∷ []) (c.in-Some-pour.ensures.shown (flat es) c.loop-key.invariant.stand.2) in
    record {
      stand = (
        es ++ e ∷ [],
        one-on _ es c.loop-key.key-iterator c.next.new.self e c.loop-key.invariant.stand.1 (rest_more deref_pair _ _ _ _ c.in-Some.is c.next.ensures.steps),
        subst (λ ys. StandBefore ys c.in-Some-pour-2.next c.pour-in-loop-key.new.forms c.pour-in-loop-key.new.room) (sym (flat-push es e)) shown,
      );
      forms = c.pour-in-loop-key.ensures.forms ∙ c.pour.ensures.forms ∙ c.loop-key.invariant.forms;
      room = c.pour-in-loop-key.ensures.room ∙ c.pour.ensures.room ∙ c.loop-key.invariant.room;
    }

-- all entries are shown
all-stand : (c : goal.After-drop-iterator-inside-2) → StandBefore (flat c.iter-key-items.result) c.loop-key.at c.loop-key.forms c.loop-key.room
all-stand c =
    let all = c.iter-key-items.result in
    let is = none-on all c.loop-key.invariant.stand.0 c.loop-key.key-iterator (sym c.into_iter-key-iterator.ensures.into_iter_gives ∙ c.loop-key.invariant.stand.1) (rest_all deref_pair _ _ _ c.in-None.is c.next.ensures.steps) in
    subst (λ es. StandBefore (flat es) c.loop-key.at c.loop-key.forms c.loop-key.room) is c.loop-key.invariant.stand.2

pub returns-clause-answers : goal.returns-clause-answers
returns-clause-answers c =
    let all = c.iter-key-items.result in
    let entries = entries_of c.args.maps.now c.args.version in
    let same = c.iter-key-items.ensures in
    let stand = all-stand c in (
      c.holds.ensures.0 c.if-not-holds.false,
      (λ few. enough (flat all) c.loop-key.at c.loop-key.forms c.loop-key.room stand (too-little-at (flat all) _ _ _ _ (sym c.loop-key.invariant.forms) (sym c.loop-key.invariant.room) (too-little-flat-back all entries _ _ same few))),
      stand.count ∙ same-flat all entries same,
    )

pub returns-clause-shown : goal.returns-clause-shown
returns-clause-shown c = (c.iter-key-items.result, c.iter-key-items.ensures, (all-stand c).shown)
