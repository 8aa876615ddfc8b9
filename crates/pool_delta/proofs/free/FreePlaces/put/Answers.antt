use Rattle.std.proofs.Common.{rules, ◌≡◌, ◌∙◌, sym, ap, cond, [], ◌∷◌, ◌++◌}
use Rattle.std.specs.HashMap.{get}
use Rattle.pool_delta.specs.Free.{stacked, stack_of}
use Rattle.pool_delta.specs.declared.free.FreePlaces.{FreePlaces}
use Rattle.pool_delta.specs.contracts.free.RowKeyPartialEq.TheImpl as same
use Rattle.pool_delta.proofs.FreeTable.{stacked-cond, after-put}
use Rattle.pool_delta.proofs.free.FreePlaces.put.Goals as goal

pub returns-in-Some : goal.returns-in-Some
returns-in-Some c =
    let old : FreePlaces = c.args.self.now in
    let new : FreePlaces = record { stacks = c.get_mut.follows.lender c.push.new.self } in
    let top : stack_of old c.args.key ≡ c.in-Some.stack.now.items = ap stacked (sym c.in-Some.ensures.value) in
    let updates = (c.get_mut.follows.holds c.push.new.self).3 (search rules) in
    after-put c.args.key c.args.place old new
    (λ q. ap stacked (updates.0 q) ∙ stacked-cond ((same.ghosts).eq c.args.key q) c.push.new.self _
    ∙ ap (λ xs. cond ((same.ghosts).eq c.args.key q) xs (stack_of old q)) (c.in_ok-push.ensures.items ∙ ap (λ xs. xs ++ c.args.place ∷ []) (sym top)))

pub returns : goal.returns
returns c =
    let old : FreePlaces = c.args.self.now in
    let new : FreePlaces = record { stacks = c.insert.new.self } in
    let top : stack_of old c.args.key ≡ [] = ap stacked (sym c.in_default.ensures.value) in
    after-put c.args.key c.args.place old new
    (λ q. ap stacked (c.in_ok-insert.ensures.updates.0 q) ∙ stacked-cond ((same.ghosts).eq c.args.key q) c.push-2.new.self _
    ∙ ap (λ m. cond ((same.ghosts).eq c.args.key q) c.push-2.new.self.items (stacked (get (same.ghosts).eq m q))) c.get_mut.follows.holds-at-none
    ∙ ap (λ xs. cond ((same.ghosts).eq c.args.key q) xs (stack_of old q)) (c.in_ok-push-2.ensures.items ∙ ap (λ xs. xs ++ c.args.place ∷ []) (c.in_ok-stack.ensures.items ∙ sym top)))
