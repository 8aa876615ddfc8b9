use Rattle.pool_text.specs.Rules.{present_rules}
use Rattle.pool_map.proofs.Spaced.{dedent-keeps}
use Rattle.pool_map.proofs.spaces.dedented.Goals as goal

pub unreachable-requires : goal.unreachable-requires
unreachable-requires c = c.in-Err-Long.ensures.long c.in-Err-Long.field-0-is (dedent-keeps present_rules c.args.pool.now c.new.result.spaces c.requires)
