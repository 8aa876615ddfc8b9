use Rattle.ewig_shell.proofs.EndLemmas.{RunsAs-own, RunsAs-input, Words-end}
use Rattle.ewig_shell.proofs.run.run_upto.Goals as goal

pub returns-in-Err : goal.returns-in-Err
returns-in-Err g c = Words-end c.in-Err.fault _ _ _ c.in-Err.ensures.reads c.status_of_words.ensures c.unbegun.ensures

pub returns-in-Some : goal.returns-in-Some
returns-in-Some g c = RunsAs-own c.run_own.result c.in-Ok.ensures.reads c.in-Some.is c.run_own.ensures

pub returns : goal.returns
returns g c = RunsAs-input c.run_input.result c.in-Ok.ensures.reads c.in-None.is c.run_input.ensures
