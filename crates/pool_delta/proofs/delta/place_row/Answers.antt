use Rattle.std.proofs.Common.{◌∙◌, ◌+◌, length, [], ◌∷◌, ◌++◌, ap}
use Rattle.pool_delta.proofs.PlacedCode.{next-some, next-none}
use Rattle.pool_delta.proofs.delta.place_row.Goals as goal

pub returns-in-Some : goal.returns-in-Some
returns-in-Some c g holds = next-some c.args.chain.now c.args.row c.in_ok-key_of.field-0 c.in_ok-key_of.ensures c.args.places.now.items c.args.own.now.items c.args.free.now c.take.new.self g holds c.in-Some.place c.in-Some.ensures c.push.new.self.items c.in_ok-push.ensures.items

pub returns : goal.returns
returns c g holds =
    next-none c.args.chain.now c.args.row c.in_ok-key_of.field-0 c.in_ok-key_of.ensures c.args.places.now.items c.args.own.now.items c.args.free.now c.take.new.self g holds c.in_default.ensures c.push-2.new.self.items c.push-3.new.self.items
    (c.in_ok-push-2.ensures.items ∙ ap (λ n. c.args.places.now.items ++ (length c.args.chain.now + n) ∷ []) (c.len.ensures ∙ c.args.own.now.ok.0))
    c.in_ok-push-3.ensures.items
