use Rattle.std.proofs.Common.{◌∙◌, ℕ, List, map, Some, ap, sym, refl, arith}
use Rattle.serde_json.specs.View.{view}
use Rattle.serde_json.specs.declared.value.Value.{Value}
use Rattle.pool_text.specs.Document.{number_in, all_of}
use Rattle.pool_text.proofs.Gathered.{take_all}
use Rattle.pool_text.proofs.EachRead.{all_of-fails, all_of-more}
use Rattle.pool_text.proofs.numbers.each_number.Goals as goal

pub returns-in-None : goal.returns-in-None
returns-in-None c not_memory = (refl, all_of-fails number_in view c.args.items.now c.loop-item.item-index c.item-item.result (omega arith) c.item-item.is (sym c.in-None.ensures))

pub loop-item-preserved : goal.loop-item-preserved
loop-item-preserved c =
    all_of-more number_in view c.args.items.now c.loop-item.item-index c.item-item.result c.loop-item.places.items c.in-Some.place (omega arith) c.item-item.is c.loop-item.invariant (sym c.in-Some.ensures)
    ∙ ap (λ (ns : List ℕ). Some ns) (sym c.in_ok-push-in-Some.ensures.items)

pub returns : goal.returns
returns c =
    ap (λ (vs : List Value). all_of number_in (map view vs)) (sym (take_all c.args.items.now c.loop-item.item-index (omega arith)))
    ∙ c.loop-item.invariant ∙ ap (λ (ns : List ℕ). Some ns) (sym c.from_vec.ensures)
