use Rattle.std.proofs.Common.{arith, sym}
use Rattle.std.proofs.lemmas.Bool.{eqb-false}
use Rattle.elem_core.specs.declared.codes.TheConstants.{LEVELS}
use Rattle.champ_trie.specs.Trie.{code_by}
use Rattle.set_merge.proofs.RootLemmas.{root-sides, first-fits, second-fits, need-entries, need-apart}
use Rattle.set_merge.proofs.roots.need.Goals as goal

pub rows_needed-requires-clause-sides : goal.rows_needed-requires-clause-sides
rows_needed-requires-clause-sides g c =
    let cmp = g.T.Ord.cmp in
    let code = code_by g.T.Element.code_of c.args.roots.now.bits in
    let one = c.requires.first in
    let two = c.requires.second in
    let h = c.args.heap.now in
    let a = c.args.roots.now.a in
    let b = c.args.roots.now.b in (
      LEVELS,
      one.0,
      two.0,
      root-sides cmp code g.met.T.Ord.total c.args.keeps h a b one.0 two.0 one.1 two.1,
      first-fits cmp code g.met.T.Ord.total c.args.keeps h a b one.0 two.0 one.1 two.1 c.rows_form_a_graph.ensures,
      second-fits cmp code g.met.T.Ord.total c.args.keeps h a b one.0 two.0 one.1 two.1 c.rows_form_a_graph.ensures,
    )

pub returns-clause-apart : goal.returns-clause-apart
returns-clause-apart g c = λ rows others has back.
    let cmp = g.T.Ord.cmp in
    let code = code_by g.T.Element.code_of c.args.roots.now.bits in
    let one = c.requires.first in
    let two = c.requires.second in
    let a = c.args.roots.now.a in
    let b = c.args.roots.now.b in
    omega (
      arith,
      c.rows_needed.ensures.rows LEVELS (omega arith),
      need-apart cmp code g.met.T.Ord.total c.args.keeps c.args.heap.now a b one.0 two.0 one.1 two.1 c.rows_form_a_graph.ensures (eqb-false a b (sym c.if-eq.ensures)) rows others has back,
    )

pub returns-clause-entries : goal.returns-clause-entries
returns-clause-entries g c = λ E D first second.
    omega (
      arith,
      c.rows_needed.ensures.rows LEVELS (omega arith),
      need-entries g.T.Ord.cmp (code_by g.T.Element.code_of c.args.roots.now.bits) g.met.T.Ord.total c.args.keeps c.args.heap.now c.args.roots.now.a c.args.roots.now.b E D first second,
    )

pub returns-clause-few : goal.returns-clause-few
returns-clause-few g c =
    let cmp = g.T.Ord.cmp in
    let code = code_by g.T.Element.code_of c.args.roots.now.bits in
    let one = c.requires.first in
    let two = c.requires.second in
    let h = c.args.heap.now in
    let a = c.args.roots.now.a in
    let b = c.args.roots.now.b in
    omega (
      arith,
      c.rows_needed.ensures.rows LEVELS (omega arith),
      need-entries cmp code g.met.T.Ord.total c.args.keeps h a b one.0 two.0 one.1 two.1,
      first-fits cmp code g.met.T.Ord.total c.args.keeps h a b one.0 two.0 one.1 two.1 c.rows_form_a_graph.ensures,
      second-fits cmp code g.met.T.Ord.total c.args.keeps h a b one.0 two.0 one.1 two.1 c.rows_form_a_graph.ensures,
    )
