use Rattle.std.proofs.Common.{ℕ, ◌<◌, List, map, length, refl, sym, arith, inl, inr}
use Rattle.std.specs.Prelude.{◌⊎◌}
use Rattle.std.proofs.lemmas.List.{length-map}
use Rattle.serde_json.specs.View.{view}
use Rattle.pool_text.specs.Document.{number_in, all_of}
use Rattle.pool_text.specs.Parsing.{numbers_between}
use Rattle.pool_text.proofs.NumbersRead.{numbers-out, numbers-in}
use Rattle.pool_text.proofs.Refusals.{reads-same}
use Rattle.pool_text.proofs.numbers.numbers_of.Goals as goal

pub returns-then-items-least : goal.returns-then-items-least
returns-then-items-least c not_memory =
    let items = c.in-Some.items.now in
    let out : (length items < c.args.least) ⊎ (c.args.most < length items) = elim c.then-items-least.either [ inl few ↦ inl few | inr many ↦ inr many.1 ] in
    (refl, numbers-out c.args.least c.args.most (view c.args.value.now) (map view items) (sym c.in-Some.ensures) (length items) (length-map items view) out)

pub returns : goal.returns
returns c =
    let items = c.in-Some.items.now in
    reads-same (λ (ns : List ℕ). ns) c.args.damage (all_of number_in (map view items)) (numbers_between c.args.least c.args.most (view c.args.value.now)) c.each_number.result
    (numbers-in c.args.least c.args.most (view c.args.value.now) (map view items) (sym c.in-Some.ensures) (length items) (length-map items view) (omega arith) (omega arith))
    c.each_number.ensures
