use Rattle.std.proofs.Common.{◌∙◌, sym, Ok}
use Rattle.elem_core.specs.Shown.{name_bytes}
use Rattle.ewig_shell.proofs.StepLemmas.{fault-is}
use Rattle.ewig_shell.proofs.LoadLemmas.{read-takes, Takes-given, Takes-fault, fetched_by}
use Rattle.ewig_shell.proofs.load.read.Goals as goal

pub returns-in_err-fetch : goal.returns-in_err-fetch
returns-in_err-fetch g c =
    Takes-fault (name_bytes c.args.file) c.as_str.result.now c.fetch.result _ c.from_residual.result c.fetch.new.into.items (read-takes c.stands.ensures.0 (name_bytes c.args.buffer) _ c.stands.ensures.1)
    c.fetch.ensures.same c.fetch.ensures.calls c.as_str.ensures.shown c.fetch.ensures.told c.in_err-fetch.was (fault-is c.from_residual.result _ c.from_residual.ensures.1)

pub returns : goal.returns
returns g c =
    Takes-given (read-takes c.stands.ensures.0 (name_bytes c.args.buffer) (name_bytes c.args.file) c.stands.ensures.1) c.fetch.ensures.same c.fetch.ensures.calls
    c.fetch.new.into.items c.fill.result (λ failed. let both = sym c.in_ok-fetch.was ∙ failed in cc) c.in_ok-fetch.ensures.within
    (fetched_by _ c.as_str.result.now (name_bytes c.args.file) c.fetch.result (Ok tt) c.fetch.new.into.items c.as_str.ensures.shown c.in_ok-fetch.was c.fetch.ensures.told)
    (c.fill.ensures c.stands.ensures.0 c.stands.ensures.1)
