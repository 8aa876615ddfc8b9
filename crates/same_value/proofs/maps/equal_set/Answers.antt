use Rattle.std.proofs.Common.{refl}
use Rattle.node_heap.specs.Heap.{form_at}
use Rattle.node_heap.specs.Glass.{lent}
use Rattle.same_value.proofs.MapContents.{few-steps}
use Rattle.same_value.proofs.Roots.{set-tries, set-congruent}
use Rattle.same_value.proofs.maps.equal_set.Goals as goal

pub same_tries-requires-clause-tries : goal.same_tries-requires-clause-tries
same_tries-requires-clause-tries g c =
    set-tries g.T.Ord.cmp g.met.T.Ord.total g.T.Element.code_of g.met.T.Element.equal_codes (lent c.args.glass) c.args.a c.args.b c.requires.bits c.root.result c.root-2.result c.root.ensures c.root-2.ensures c.requires.first.0 c.requires.second.0 c.requires.first.1
    c.requires.second.1

pub returns-clause-equal : goal.returns-clause-equal
returns-clause-equal g c = λ E D first second.
    let both = set-congruent g.T.Ord.cmp g.met.T.Ord.total g.T.Element.code_of g.met.T.Element.equal_codes (lent c.args.glass) c.args.a c.args.b c.requires.bits c.root.result c.root-2.result c.root.ensures c.root-2.ensures E D first second in
    (λ yes. both.0 (c.same_tries.ensures.congruent.0 yes), λ same. c.same_tries.ensures.congruent.1 (both.1 same))

pub returns-clause-few : goal.returns-clause-few
returns-clause-few g c = few-steps (form_at (lent c.args.glass)) c.same_tries.result c.root.ensures c.root-2.ensures refl (c.same_tries.ensures.few tt)
