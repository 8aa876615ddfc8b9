-- Lines as long as they may be, beside the first that are too long.
use Rattle.std.specs.Prelude.{◌≡◌, List, ◌++◌, codes, replicate, Ok, Err}
use Rattle.shell_terms.specs.Edit.{new}
use Rattle.shell_terms.specs.Command.{edit}
use Rattle.shell_words.specs.Grammar.{meaning}
use Rattle.shell_words.specs.declared.BadLine.TheVariants as refused

-- A name has at most 64 bytes. The number of the byte `a` is 97.
pub record WorkedNames : Type 0 where
  pub longest : meaning (codes "new " ++ replicate 64 97) ≡ Ok (edit (new (replicate 64 97)))
  pub longer : meaning (codes "new " ++ replicate 65 97) ≡ Err refused.Name
