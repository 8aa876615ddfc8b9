use Rattle.plain_space.specs.Workspace.{start}
use Rattle.space_state.proofs.Front.{pool-valid, pool-is}
use Rattle.space_state.proofs.NewPool.{new-shown}
use Rattle.space_state.proofs.space.Space.new.Goals as goal

pub returns-clause-start : goal.returns-clause-start
returns-clause-start c = new-shown c.in_ok-rows.rows c.args.bits c.in_ok-rows.ensures.keeps c.in_ok-rows.ensures.bits c.in_ok-rows.ensures.rows c.in_ok-rows.ensures.made c.in_ok-rows.ensures.room

pub returns-clause-stands : goal.returns-clause-stands
returns-clause-stands c = pool-is c.in_ok-rows.rows start c.in_ok-rows.ensures.keeps

pub returns-clause-valid : goal.returns-clause-valid
returns-clause-valid c = pool-valid c.in_ok-rows.rows start c.in_ok-rows.ensures.keeps
