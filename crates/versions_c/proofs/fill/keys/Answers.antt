use Rattle.std.proofs.Common.{[], ◌∷◌, ◌++◌, refl, sym, subst, ◌∙◌}
use Rattle.std.specs.Map.Iter.{deref}
use Rattle.std.proofs.lemmas.Map.Iter.{rest_more, rest_all}
use Rattle.versions.specs.Sorted.{keys_of}
use Rattle.versions_c.specs.Shown.{size, StandBefore}
use Rattle.total_versions.proofs.AnswerLemmas.{not-yes}
use Rattle.versions_c.proofs.FillLemmas.{at-begin, enough, none-on, one-on, same-many, too-little-at, too-little-back, too-little-front, too-little-same}
use Rattle.versions_c.proofs.fill.keys.Goals as goal

pub returns-then-not-holds-clause-answers : goal.returns-then-not-holds-clause-answers
returns-then-not-holds-clause-answers c = (λ held. not-yes (c.holds.ensures.1 held) c.if-not-holds.true, tt)

pub loop-key-init : goal.loop-key-init
loop-key-init c = record { stand = ([], refl, at-begin c.args.forms.now c.args.room.now); forms = refl; room = refl }

pub pour-requires : goal.pour-requires
pour-requires c = (c.loop-key.invariant.stand.0, c.loop-key.invariant.stand.2)

pub returns-in_default-clause-answers : goal.returns-in_default-clause-answers
returns-in_default-clause-answers c =
    let xs = c.loop-key.invariant.stand.0 in
    let key = c.in-Some.key.now in
    let all = c.iter-key-items.result in
    let is = one-on all xs c.loop-key.key-iterator c.next.new.self key (sym c.into_iter-key-iterator.ensures.into_iter_gives ∙ c.loop-key.invariant.stand.1) (rest_more deref _ _ _ _ c.in-Some.is c.next.ensures.steps) in
    let few = c.in_default.ensures.shown xs c.loop-key.invariant.stand.2 in (
      c.holds.ensures.0 c.if-not-holds.false,
      too-little-same all (keys_of c.args.sets.now c.args.version) _ _ c.iter-key-items.ensures (too-little-at all _ _ _ _ c.loop-key.invariant.forms c.loop-key.invariant.room (too-little-front (xs ++ key ∷ []) c.next.new.self all _ _ is few)),
      tt,
    )

pub loop-key-preserved : goal.loop-key-preserved
loop-key-preserved c =
    let xs = c.loop-key.invariant.stand.0 in
    let key = c.in-Some.key.now in
    record {
      stand = (
        xs ++ key ∷ [],
        one-on _ xs c.loop-key.key-iterator c.next.new.self key c.loop-key.invariant.stand.1 (rest_more deref _ _ _ _ c.in-Some.is c.next.ensures.steps),
        c.in-Some-pour.ensures.shown xs c.loop-key.invariant.stand.2,
      );
      forms = c.pour.ensures.forms ∙ c.loop-key.invariant.forms;
      room = c.pour.ensures.room ∙ c.loop-key.invariant.room;
    }

-- all keys are shown
all-stand : (c : goal.After-drop-key-iterator-inside-2) → StandBefore c.iter-key-items.result c.loop-key.at c.loop-key.forms c.loop-key.room
all-stand c =
    let all = c.iter-key-items.result in
    let is = none-on all c.loop-key.invariant.stand.0 c.loop-key.key-iterator (sym c.into_iter-key-iterator.ensures.into_iter_gives ∙ c.loop-key.invariant.stand.1) (rest_all deref _ _ _ c.in-None.is c.next.ensures.steps) in
    subst (λ ys. StandBefore ys c.loop-key.at c.loop-key.forms c.loop-key.room) is c.loop-key.invariant.stand.2

pub returns-clause-answers : goal.returns-clause-answers
returns-clause-answers c =
    let all = c.iter-key-items.result in
    let keys = keys_of c.args.sets.now c.args.version in
    let same = c.iter-key-items.ensures in
    let stand = all-stand c in (
      c.holds.ensures.0 c.if-not-holds.false,
      (λ few. enough all c.loop-key.at c.loop-key.forms c.loop-key.room stand (too-little-at all _ _ _ _ (sym c.loop-key.invariant.forms) (sym c.loop-key.invariant.room) (too-little-back all keys _ _ same few))),
      stand.count ∙ same-many size all keys same,
    )

pub returns-clause-shown : goal.returns-clause-shown
returns-clause-shown c = (c.iter-key-items.result, c.iter-key-items.ensures, (all-stand c).shown)
