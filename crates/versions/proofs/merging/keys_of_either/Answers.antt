use Rattle.std.proofs.Common.{ap, ◌∙◌}
use Rattle.champ_kinds.proofs.StayLemmas.{set-seen}
use Rattle.versions.specs.Keyed.{by_root, keys_at, IsKeySet}
use Rattle.versions.proofs.KeyedLemmas.{set-kind, answered-makes}
use Rattle.versions.proofs.MergeLemmas.{set-union}
use Rattle.versions.proofs.EqualLemmas.{apart-seen}
use Rattle.versions.proofs.merging.keys_of_either.Goals as goal

pub returns-clause-made : goal.returns-clause-made
returns-clause-made g c = λ ks js is are.
    let o = g.met.K.Ord.total in
    let made = c.in_ok-set.ensures in
    let seen = set-seen {r = by_root c.args.first} c.at-first.ensures is.set in
    let also = set-seen {r = by_root c.args.second} c.at-second.ensures are.set in
    rw c.into_root.ensures
    (answered-makes (IsKeySet g.K.Ord.cmp g.K.Element.code_of) (keys_at g.K.Ord.cmp) (set-kind g.K.Ord.cmp o g.K.Element.code_of) c.args.heap.now c.set_union.new.heap c.in_ok-set.set.root _ _ _ (made.answered)
    (set-union g.K.Ord.cmp o g.K.Element.code_of c.args.heap.now c.set_union.new.heap c.args.first c.args.second c.in_ok-set.set ks js is are (made.bits ∙ ap (λ r. r.bits) c.at-first.ensures) (made.contents is.entries are.entries seen also)))

pub returns-clause-apart : goal.returns-clause-apart
returns-clause-apart g c = λ rows others left right. c.in_ok-set.ensures.apart rows others (apart-seen c.args.heap.now rows c.at-first.ensures c.at-second.ensures left) (apart-seen c.args.heap.now others c.at-second.ensures c.at-first.ensures right)
