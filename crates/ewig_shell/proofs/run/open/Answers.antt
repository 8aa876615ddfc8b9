use Rattle.std.proofs.Common.{◌≡◌, ◌++◌, sym, subst, codes, rules, List, ℕ, Bor}
use Rattle.std.specs.declared.option.Option.{Option}
use Rattle.std.specs.Option.{option_copied}
use Rattle.ewig_shell.specs.Going.{Opens}
use Rattle.ewig_shell.proofs.RunLemmas.{OpensFile-by}
use Rattle.ewig_shell.proofs.run.open.Goals as goal

pub returns : goal.returns
returns g c =
    let line : c.as_slice.result.now ≡ codes "load " ++ c.in-Some.file.now = search rules in
    subst (λ (o : Option (Bor (List ℕ))). Opens (option_copied o) g.K.Sink c.args.sink.now c.execute.new.sink g.D.Store c.args.store.now c.execute.new.store c.args.session.now.space c.execute.new.self.space c.status_after.result) (sym c.in-Some.is)
    (OpensFile-by _ c.in-Some.file.now c.execute.result line c.status_after.ensures c.execute.ensures.replies c.execute.ensures.bits c.execute.ensures.quits)
