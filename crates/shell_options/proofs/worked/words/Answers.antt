use Rattle.std.proofs.Common.{refl}
use Rattle.elem_core.specs.Naming.{is_name}
use Rattle.shell_words.specs.Number.{is_number, number_to}
use Rattle.shell_options.specs.Options.{key_named, option_of, given_by, options_of, options_given, options}
use Rattle.shell_options.proofs.worked.words.Goals as goal

pub returns : goal.returns
unfolding key_named option_of given_by is_number number_to options_of options_given options is_name
returns c = record { hyphens = refl; others = refl; further = refl; nothing = refl; twice = refl; apart = refl }
