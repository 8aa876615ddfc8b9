use Rattle.ewig_shell.proofs.CommandLemmas.{others-made}
use Rattle.ewig_shell.proofs.work.carried_out.Goals as goal

pub unreachable-requires : goal.unreachable-requires
unreachable-requires c =
    let d = c.in_default in
    others-made c.args.command d.not-Edit d.not-Mark d.not-Undo d.not-Redo c.requires
