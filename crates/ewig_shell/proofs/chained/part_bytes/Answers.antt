use Rattle.ewig_shell.proofs.PartLemmas.{part-documents}
use Rattle.ewig_shell.proofs.chained.part_bytes.Goals as goal

pub returns-clause-document : goal.returns-clause-document
returns-clause-document c =
    part-documents c.delta_bytes.result c.args.chain.now c.args.space.now.pool c.in_ok-pool.pool c.in_ok-pool.ensures.value c.delta_stands.ensures c.deltas_are_undamaged.ensures c.requires.is_chain
    (record { valid = c.in_ok-pool.ensures.valid; bits = c.requires.bits; roots = c.requires.roots; history = c.in_ok-pool.ensures.history }) c.delta_bytes.ensures.reads
