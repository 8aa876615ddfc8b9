use Rattle.std.proofs.Common.{sym}
use Rattle.shell_words.proofs.CommandLemmas.{meaning-bytes}
use Rattle.shell_words.proofs.read_line.Goals as goal

pub returns-in-Err : goal.returns-in-Err
returns-in-Err c = sym (meaning-bytes c.args.line.now c.in-Err.ensures.cases.0)
