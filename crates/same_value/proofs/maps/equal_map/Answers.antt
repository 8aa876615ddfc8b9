use Rattle.std.proofs.Common.{refl}
use Rattle.same_value.specs.declared.values.Values.TheVariants.{Cells, Lines, States}
use Rattle.same_value.proofs.StateRows.{value-tries, value-same}
use Rattle.same_value.proofs.maps.equal_map.Goals as goal

pub same_roots-requires-clause-tries : goal.same_roots-requires-clause-tries
same_roots-requires-clause-tries g c =
    value-tries g.T.Ord.cmp g.met.T.Ord.total g.T.Element.code_of g.met.T.Element.equal_codes c.args.heap.now c.args.a c.args.b c.requires.bits c.root-left.result c.root-right.result c.root-left.ensures c.root-right.ensures
    c.args.values Cells c.in-Cells.is c.args.a.bits refl c.requires.first.0 c.requires.second.0 c.requires.first.1 c.requires.second.1

pub returns-in-Cells : goal.returns-in-Cells
returns-in-Cells g c = record {
  equal = λ M N first second. value-same g.T.Ord.cmp g.met.T.Ord.total g.T.Element.code_of g.met.T.Element.equal_codes c.args.heap.now c.args.a c.args.b c.requires.bits c.root-left.result c.root-right.result c.root-left.ensures c.root-right.ensures
      c.args.values Cells c.in-Cells.is c.args.a.bits refl M N first second _ c.same_roots.ensures.congruent;
}

pub same_roots-requires-in-Lines-clause-tries : goal.same_roots-requires-in-Lines-clause-tries
same_roots-requires-in-Lines-clause-tries g c =
    value-tries g.T.Ord.cmp g.met.T.Ord.total g.T.Element.code_of g.met.T.Element.equal_codes c.args.heap.now c.args.a c.args.b c.requires.bits c.root-left.result c.root-right.result c.root-left.ensures c.root-right.ensures
    c.args.values Lines c.in-Lines.is c.args.a.bits refl c.requires.first.0 c.requires.second.0 c.requires.first.1 c.requires.second.1

pub returns-in-Lines : goal.returns-in-Lines
returns-in-Lines g c = record {
  equal = λ M N first second. value-same g.T.Ord.cmp g.met.T.Ord.total g.T.Element.code_of g.met.T.Element.equal_codes c.args.heap.now c.args.a c.args.b c.requires.bits c.root-left.result c.root-right.result c.root-left.ensures c.root-right.ensures
      c.args.values Lines c.in-Lines.is c.args.a.bits refl M N first second _ c.same_roots-in-Lines.ensures.congruent;
}

pub same_roots-requires-in-States-clause-tries : goal.same_roots-requires-in-States-clause-tries
same_roots-requires-in-States-clause-tries g c =
    value-tries g.T.Ord.cmp g.met.T.Ord.total g.T.Element.code_of g.met.T.Element.equal_codes c.args.heap.now c.args.a c.args.b c.requires.bits c.root-left.result c.root-right.result c.root-left.ensures c.root-right.ensures
    c.args.values States c.in-States.is c.bits-bits.result c.bits-bits.ensures c.requires.first.0 c.requires.second.0 c.requires.first.1 c.requires.second.1

pub returns-in-States : goal.returns-in-States
returns-in-States g c = record {
  equal = λ M N first second. value-same g.T.Ord.cmp g.met.T.Ord.total g.T.Element.code_of g.met.T.Element.equal_codes c.args.heap.now c.args.a c.args.b c.requires.bits c.root-left.result c.root-right.result c.root-left.ensures c.root-right.ensures
      c.args.values States c.in-States.is c.bits-bits.result c.bits-bits.ensures M N first second _ c.same_roots-in-States.ensures.congruent;
}
