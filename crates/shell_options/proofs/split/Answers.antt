use Rattle.std.proofs.Common.{rules, ◌≡◌, ◌∙◌, ap, ap₂, true}
use Rattle.clap.specs.Walk.{rule_of}
use Rattle.clap.specs.Words.{App, app_of, with_rule}
use Rattle.shell_options.specs.Options.{the_bits, the_document, the_seed, the_count}
use Rattle.shell_options.specs.Split.{app, bare_app, option_rule}
use Rattle.shell_options.proofs.OptionsLemmas.{splits_from}
use Rattle.shell_options.proofs.split.Goals as goal

pub returns : goal.returns
unfolding app
returns c =
    let bits_is : rule_of c.long.result ≡ option_rule the_bits = search rules in
    let document_is : rule_of c.long-2.result ≡ option_rule the_document = search rules in
    let seed_is : rule_of c.long-3.result ≡ option_rule the_seed = search rules in
    let count_is : rule_of c.long-4.result ≡ option_rule the_count = search rules in
    let bare_is : app_of c.disable_help_flag.result ≡ bare_app =
    rw (c.disable_help_flag.ensures, c.no_binary_name.ensures) (ap (λ (a : App). record a { top = record a.top { no_binary_name = true; disable_help_flag = true } }) c.new.ensures.app) in
    let app_is : app_of c.in_ok-program.program ≡ app = c.in_ok-program.ensures.shape (search rules)
    ∙ ap₂ with_rule (c.in_ok-arg-3.ensures.shape (search rules)
    ∙ ap₂ with_rule (c.in_ok-arg-2.ensures.shape (search rules)
    ∙ ap₂ with_rule (c.in_ok-arg.ensures.shape (search rules) ∙ ap₂ with_rule bare_is bits_is) document_is) seed_is) count_is in
    splits_from _ _ _ app_is c.try_get_matches_from.ensures.kinds c.try_get_matches_from.ensures.matches
