use Rattle.std.proofs.Common.{◌∙◌, ap, subst, sym, map, arith}
use Rattle.std.specs.List.{All}
use Rattle.node_heap.specs.Heap.{form_at}
use Rattle.rrb_core.specs.Vector.{IsGoodVector, elements}
use Rattle.space_state.specs.Texts.{text_at, NamesCell}
use Rattle.space_state.proofs.Keeping.{lines-length}
use Rattle.space_state.proofs.Texts.{part-are, part-there}
use Rattle.space_state.proofs.lines.SpaceLines.new.Goals as goal

pub lines-requires-clause-within : goal.lines-requires-clause-within
lines-requires-clause-within c = omega (arith, lines-length c.requires.lines.2, c.requires.lines.4)

pub invariant_of-result : goal.invariant_of-result
invariant_of-result c =
    subst (All (NamesCell (form_at c.args.heap.now))) (sym c.lines.ensures)
    (part-there (form_at c.args.heap.now) (IsGoodVector c.args.heap.now) c.requires.lines.0 (elements c.args.heap.now c.args.lines) c.requires.lines.1 c.args.from c.args.to c.requires.lines.2.values)

pub returns : goal.returns
returns c = λ bits texts are.
    ap (map (text_at (form_at c.args.heap.now))) c.lines.ensures
    ∙ part-are (form_at c.args.heap.now) (IsGoodVector c.args.heap.now) bits (elements c.args.heap.now c.args.lines) texts c.args.from c.args.to are.values
