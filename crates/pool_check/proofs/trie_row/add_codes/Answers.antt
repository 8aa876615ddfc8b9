use Rattle.std.proofs.Common.{ℕ, ◌<◌, ◌++◌, List, length, get_or, Some, refl, sym, ap, ◌∙◌, arith, lit<}
use Rattle.std.specs.Prelude.{option_map}
use Rattle.std.proofs.lemmas.List.{take_all}
use Rattle.pool_check.specs.Keeping.{code_at, codes_by}
use Rattle.pool_check.proofs.TestLemmas.{not-both}
use Rattle.pool_check.proofs.DigitSteps.{codes-more, codes-none}
use Rattle.pool_check.proofs.trie_row.add_codes.Goals as goal

pub push-requires : goal.push-requires
push-requires c =
    let low : length c.loop-link.codes.items < 32 = omega (arith, c.loop-link.invariant.0, c.loop-link-test.true, c.requires.room) in
    (lit< tt, low)

pub returns-in-None : goal.returns-in-None
returns-in-None c = record {
  long = λ e. absurd (not-both e);
  codes = λ n F code are.
      codes-none (code_at n F code c.args.deepest c.args.part c.args.depth) c.args.links.now c.args.codes.now.items c.loop-link.link-index (get_or c.args.links.now c.loop-link.link-index 0) c.loop-link-test.true refl (sym (c.code_of.ensures n F code are) ∙ c.in-None.is);
}

pub loop-link-preserved : goal.loop-link-preserved
loop-link-preserved c = (
  omega (arith, c.loop-link.invariant.0, c.push.ensures.len),
  λ n F code are.
      codes-more (code_at n F code c.args.deepest c.args.part c.args.depth) c.args.links.now c.args.codes.now.items c.loop-link.codes.items c.loop-link.link-index (get_or c.args.links.now c.loop-link.link-index 0) c.in-Some.code c.loop-link-test.true refl
      (c.loop-link.invariant.1 n F code are) (sym (c.code_of.ensures n F code are) ∙ c.in-Some.is)
      ∙ ap Some (sym c.push.ensures.items),
)

pub returns : goal.returns
returns c = record {
  long = λ _. omega (arith, c.loop-link.invariant.0);
  codes = λ n F code are.
      ap (λ (ks : List ℕ). option_map (λ cs. c.args.codes.now.items ++ cs) (codes_by (code_at n F code c.args.deepest c.args.part c.args.depth) ks)) (sym (take_all c.loop-link.link-index c.args.links.now (omega arith))) ∙ c.loop-link.invariant.1 n F code are;
}
