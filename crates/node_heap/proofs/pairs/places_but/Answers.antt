use mir.Val.{bool_byte}
use Rattle.std.proofs.Common.{◌≡◌, ◌<◌, ◌∙◌, length, Bool, true, false, cond, eqb, refl, ap, arith}
use Rattle.node_heap.specs.Links.{count, without}
use Rattle.node_heap.specs.Heap.{one_at}
use Rattle.node_heap.proofs.PairLemmas.{some-if, count-removed}
use Rattle.node_heap.proofs.pairs.places_but.Goals as goal

-- a truth as a number
byte-one : (b : Bool) → bool_byte b ≡ cond b 1 0
byte-one true = refl
byte-one false = refl

-- the link at the index is one of those, or none
pub overflow_sub-result : goal.overflow_sub-result
overflow_sub-result c =
    let one : c.from.result ≡ one_at c.own.inside.place c.args.place = c.from.ensures ∙ byte-one (eqb c.own.inside.place c.args.place) in
    let inside = some-if (λ i. i < length c.args.links.now) c.args.out c.requires c.in-Some.index c.in-Some.is in
    omega (arith, one, c.places_of-places.ensures, count-removed c.args.place c.args.links.now c.in-Some.index c.index-links-index.result c.own.inside.place inside c.own.view_is c.index-links-index.is)

pub returns-in-Some : goal.returns-in-Some
returns-in-Some c =
    let one : c.from.result ≡ one_at c.own.inside.place c.args.place = c.from.ensures ∙ byte-one (eqb c.own.inside.place c.args.place) in
    let inside = some-if (λ i. i < length c.args.links.now) c.args.out c.requires c.in-Some.index c.in-Some.is in
    omega (
      arith,
      one,
      c.places_of-places.ensures,
      count-removed c.args.place c.args.links.now c.in-Some.index c.index-links-index.result c.own.inside.place inside c.own.view_is c.index-links-index.is,
      ap (λ o. count c.args.place (without o c.args.links.now)) c.in-Some.is,
    )
