use Rattle.std.proofs.Common.{◌∙◌, sym, Ok}
use Rattle.shell_io.proofs.FaultLemmas.{Calls-as}
use Rattle.ewig_shell.proofs.ChainLemmas.{fetched-as, not-taken-as, fails-as}
use Rattle.ewig_shell.proofs.chained.taken_file.Goals as goal

pub returns-in_err-fetch-clause-fault : goal.returns-in_err-fetch-clause-fault
returns-in_err-fetch-clause-fault g c = not-taken-as (g.D.Store.held c.args.store.now) c.args.name.now c.args.room c.fetch.result _ c.fetch.new.into.items c.from_residual.result c.in_err-fetch.was c.from_residual.ensures.1 c.fetch.ensures.told

pub returns-in_err-fetch-clause-calls : goal.returns-in_err-fetch-clause-calls
returns-in_err-fetch-clause-calls g c =
    let both = fails-as c.fetch.result _ c.from_residual.result c.in_err-fetch.was c.from_residual.ensures.1 in
    Calls-as c.fetch.ensures.calls both.0 both.1

pub returns-clause-taken : goal.returns-clause-taken
returns-clause-taken g c = fetched-as (g.D.Store.held c.args.store.now) c.args.name.now c.args.room c.fetch.result (Ok tt) c.fetch.new.into.items c.in_ok-fetch.was c.fetch.ensures.told

pub returns-clause-calls : goal.returns-clause-calls
returns-clause-calls g c = Calls-as c.fetch.ensures.calls (λ failed. let both = sym c.in_ok-fetch.was ∙ failed in cc) (λ failed. cc)
