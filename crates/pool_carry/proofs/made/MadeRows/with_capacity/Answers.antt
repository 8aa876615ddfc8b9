use Rattle.std.proofs.Common.{ap, map}
use Rattle.std.specs.Map.{lookup}
use Rattle.pool_text.specs.Rows.{row_form}
use Rattle.pool_carry.specs.contracts.made.MadeRowPartialEq.TheImpl as same
use Rattle.pool_carry.proofs.Rows.{kept-none}
use Rattle.pool_carry.proofs.made.MadeRows.with_capacity.Goals as goal

pub returns-clause-made : goal.returns-clause-made
returns-clause-made c = kept-none (map row_form c.in_ok-with_capacity.field-0.items) _ (ap (map row_form) c.in_ok-with_capacity.ensures.items) (λ row. ap (lookup ((same.ghosts).eq row)) c.new.ensures.empty)
