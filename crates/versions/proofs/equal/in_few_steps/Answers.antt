use Rattle.std.proofs.Common.{sym, subst}
use Rattle.node_heap.specs.Heap.{form_at}
use Rattle.champ_kinds.specs.Kinds.{IsSetOf}
use Rattle.champ_kinds.proofs.StayLemmas.{set-seen}
use Rattle.same_value.specs.Apart.{HasApart}
use Rattle.versions.specs.Keyed.{by_root}
use Rattle.versions.proofs.EqualLemmas.{apart-seen, keys-sets, sets-keys}
use Rattle.versions.proofs.equal.in_few_steps.Goals as goal

pub equal_set-requires-clause-first : goal.equal_set-requires-clause-first
equal_set-requires-clause-first g c =
    let is = c.requires.left.1 in
    (is.entries, subst (λ h. IsSetOf g.K.Ord.cmp g.K.Element.code_of h c.at-left.result is.entries) (sym c.new.ensures) (set-seen {r = by_root c.args.left} c.at-left.ensures is.set))

pub equal_set-requires-clause-second : goal.equal_set-requires-clause-second
equal_set-requires-clause-second g c =
    let is = c.requires.right.1 in
    (is.entries, subst (λ h. IsSetOf g.K.Ord.cmp g.K.Element.code_of h c.at-right.result is.entries) (sym c.new.ensures) (set-seen {r = by_root c.args.right} c.at-right.ensures is.set))

pub returns-clause-equal : goal.returns-clause-equal
returns-clause-equal g c = λ ks js is are.
    let o = g.met.K.Ord.total in
    let first = subst (λ h. IsSetOf g.K.Ord.cmp g.K.Element.code_of h c.at-left.result is.entries) (sym c.new.ensures) (set-seen {r = by_root c.args.left} c.at-left.ensures is.set) in
    let second = subst (λ h. IsSetOf g.K.Ord.cmp g.K.Element.code_of h c.at-right.result are.entries) (sym c.new.ensures) (set-seen {r = by_root c.args.right} c.at-right.ensures are.set) in
    let told = c.equal_set.ensures.equal is.entries are.entries first second in (
      λ yes. sets-keys g.K.Ord.cmp o g.K.Element.code_of c.args.heap.now c.args.left c.args.right ks js is are (told.0 yes),
      λ zip. told.1 (keys-sets g.K.Ord.cmp o g.K.Element.code_of c.args.heap.now c.args.left c.args.right ks js is are zip),
    )

pub returns-clause-few : goal.returns-clause-few
returns-clause-few g c = λ rows apart. c.equal_set.ensures.few rows (subst (λ h. HasApart (form_at h) c.at-left.result.root c.at-right.result.root rows) (sym c.new.ensures) (apart-seen c.args.heap.now rows c.at-left.ensures c.at-right.ensures apart))
