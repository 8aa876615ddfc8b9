use Rattle.std.proofs.Common.{rules, ◌≡◌, ◌∙◌, sym, ap, subst, [], None}
use Rattle.pool_delta.specs.Free.{key_form, stacked, stack_of, Takes}
use Rattle.pool_delta.specs.declared.free.FreePlaces.{FreePlaces}
use Rattle.pool_delta.specs.contracts.free.RowKeyPartialEq.TheImpl as same
use Rattle.pool_delta.proofs.FreeTable.{stacked-cond, after-take, after-none}
use Rattle.pool_delta.proofs.free.FreePlaces.take.Goals as goal

pub returns-in-Some : goal.returns-in-Some
returns-in-Some c rows taken are =
    let old : FreePlaces = c.args.self.now in
    let new : FreePlaces = record { stacks = c.get_mut.follows.lender c.pop.new.self } in
    let top : stack_of old c.args.key.now ≡ c.in-Some.stack.now.items = ap stacked (sym c.in-Some.ensures.value) in
    let updates = (c.get_mut.follows.holds c.pop.new.self).3 (search rules) in
    after-take rows taken c.args.key.now old new c.pop.new.self.items _ _ c.pop.result are (top ∙ c.pop.ensures.items) c.pop.new.self.ok.0 c.pop.ensures.cases
    (λ q. ap stacked (updates.0 q) ∙ stacked-cond ((same.ghosts).eq c.args.key.now q) c.pop.new.self _)

pub returns-in-None : goal.returns-in-None
returns-in-None c rows taken are =
    let old : FreePlaces = c.args.self.now in
    let top : stack_of old c.args.key.now ≡ [] = ap stacked (sym c.in-None.ensures.value) in
    let same-map = c.get_mut.follows.holds-at-none in
    subst (λ m. Takes rows taken (key_form c.args.key.now) (record { stacks = m }) None) (sym same-map) (after-none rows taken c.args.key.now old are top)
