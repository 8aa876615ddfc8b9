use Rattle.std.proofs.Common.{◌∙◌, sym}
use Rattle.shell_options.proofs.OptionsLemmas.{any_here}
use Rattle.shell_options.proofs.has_hyphens.Goals as goal

pub returns-then-is_hyphens-clause-any : goal.returns-then-is_hyphens-clause-any
returns-then-is_hyphens-clause-any c =
    any_here c.args.words.now c.loop-word.word-index c.word-item.result c.loop-word-test.true c.word-item.is (sym c.if-is_hyphens.true ∙ c.is_hyphens.ensures.bare)
    ∙ c.loop-word.invariant.0
