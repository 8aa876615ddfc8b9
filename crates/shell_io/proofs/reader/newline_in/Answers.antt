use Rattle.shell_io.proofs.NewlineLemmas.{newline_is}
use Rattle.shell_io.proofs.reader.newline_in.Goals as goal

pub returns : goal.returns
returns c = newline_is c.args.bytes.now c.memchr.result c.memchr.ensures
