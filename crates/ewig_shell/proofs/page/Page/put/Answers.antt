use Rattle.ewig_shell.proofs.SendingLemmas.{Sends-as, Puts-fails, Puts-through}
use Rattle.ewig_shell.proofs.page.Page.put.Goals as goal

pub returns-in_err-flush : goal.returns-in_err-flush
returns-in_err-flush g c = Puts-fails c.from_residual.ensures.0 c.in_err-flush.ensures.sends

pub returns : goal.returns
returns g c =
    Puts-through c.write_all.result c.in_ok-flush.ensures.sends c.in_ok-flush.ensures.empty
    (Sends-as c.as_bytes.ensures.value c.write_all.ensures)
