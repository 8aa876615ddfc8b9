-- What small pools are carried to.
use Rattle.std.specs.Prelude.{◌≡◌, None}
use Rattle.pool_text.specs.Documents.{old_start_pool, old_two_cells, old_sub_node}
use Rattle.pool_text.specs.Rules.{first_rules, present_rules}
use Rattle.pool_check.specs.Documents.{old_chained}
use Rattle.pool_check.specs.Damages.{damage_by}
use Rattle.pool_carry.specs.Computed.{carried}
use Rattle.pool_carry.specs.Documents.{carried_start, carried_two_cells, carried_sub_node, carried_chained, seven_bits, carried_seven_bits, no_bits, carried_no_bits, equal_tries, carried_equal_tries}

-- by today's rules pools are carried to these
pub record CarriedPools : Type 0 where
  pub is_start_pool : carried present_rules 64 old_start_pool ≡ carried_start
  pub is_two_cells : carried present_rules 64 old_two_cells ≡ carried_two_cells
  pub is_sub_node : carried present_rules 64 old_sub_node ≡ carried_sub_node
  pub is_chained : carried present_rules 5 old_chained ≡ carried_chained
  pub is_seven_bits : carried present_rules 7 seven_bits ≡ carried_seven_bits
  pub is_no_bits : carried present_rules 0 no_bits ≡ carried_no_bits
  pub is_equal_tries : carried present_rules 64 equal_tries ≡ carried_equal_tries

-- which pass every test by them
pub record CarriedPoolsPass : Type 0 where
  pub is_start_pool : damage_by present_rules carried_start ≡ None
  pub is_two_cells : damage_by present_rules carried_two_cells ≡ None
  pub is_sub_node : damage_by present_rules carried_sub_node ≡ None
  pub is_chained : damage_by present_rules carried_chained ≡ None
  pub is_seven_bits : damage_by present_rules carried_seven_bits ≡ None
  pub is_no_bits : damage_by present_rules carried_no_bits ≡ None
  pub is_equal_tries : damage_by present_rules carried_equal_tries ≡ None

-- as the others did by the first rules
pub record OldPoolsPass : Type 0 where
  pub is_seven_bits : damage_by first_rules seven_bits ≡ None
  pub is_no_bits : damage_by first_rules no_bits ≡ None
  pub is_equal_tries : damage_by first_rules equal_tries ≡ None
