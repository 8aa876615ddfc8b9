use Rattle.ewig_shell.proofs.ChainTripLemmas.{part-then-chain, part-then-part}
use Rattle.ewig_shell.proofs.laws.part_then_chain.Goals as goal

pub returns : goal.returns
returns c = record { chain = part-then-chain; part = part-then-part }
