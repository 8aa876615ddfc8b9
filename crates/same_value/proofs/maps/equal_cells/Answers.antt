use Rattle.std.proofs.Common.{refl}
use Rattle.node_heap.specs.Heap.{form_at}
use Rattle.node_heap.specs.Glass.{lent}
use Rattle.same_value.specs.Cells.{IsCellLink, IsSameCell}
use Rattle.same_value.specs.CompareLaws.{cell-itself}
use Rattle.same_value.proofs.MapContents.{few-steps}
use Rattle.same_value.proofs.Roots.{map-tries, map-congruent}
use Rattle.same_value.proofs.maps.equal_cells.Goals as goal

pub same_tries-requires-clause-tries : goal.same_tries-requires-clause-tries
same_tries-requires-clause-tries g c =
    map-tries g.T.Ord.cmp g.met.T.Ord.total g.T.Element.code_of g.met.T.Element.equal_codes (lent c.args.glass) c.args.a c.args.b c.requires.bits c.root.result c.root-2.result c.root.ensures c.root-2.ensures
    (IsCellLink (form_at (lent c.args.glass))) (IsSameCell g.T.Ord.cmp (form_at (lent c.args.glass))) (cell-itself g.T.Ord.cmp g.met.T.Ord.total (form_at (lent c.args.glass))) c.requires.first.0 c.requires.second.0 c.requires.first.1 c.requires.second.1

pub returns-clause-equal : goal.returns-clause-equal
returns-clause-equal g c = λ M N first second.
    let both = map-congruent g.T.Ord.cmp g.met.T.Ord.total g.T.Element.code_of g.met.T.Element.equal_codes (lent c.args.glass) c.args.a c.args.b c.requires.bits c.root.result c.root-2.result c.root.ensures c.root-2.ensures
    (IsCellLink (form_at (lent c.args.glass))) (IsSameCell g.T.Ord.cmp (form_at (lent c.args.glass))) (cell-itself g.T.Ord.cmp g.met.T.Ord.total (form_at (lent c.args.glass))) M N first second in
    (λ yes. both.0 (c.same_tries.ensures.congruent.0 yes), λ same. c.same_tries.ensures.congruent.1 (both.1 same))

pub returns-clause-few : goal.returns-clause-few
returns-clause-few g c = few-steps (form_at (lent c.args.glass)) c.same_tries.result c.root.ensures c.root-2.ensures refl (c.same_tries.ensures.few tt)
