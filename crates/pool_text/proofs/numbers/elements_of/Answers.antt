use Rattle.std.proofs.Common.{Some, List, map, ap, ◌∙◌}
use Rattle.serde_json.specs.View.{view}
use Rattle.serde_json.specs.declared.value.Value.{Value}
use Rattle.pool_text.proofs.NumbersRead.{elements-are}
use Rattle.pool_text.proofs.numbers.elements_of.Goals as goal

pub returns-in-Some : goal.returns-in-Some
returns-in-Some c = ap (λ (vs : List Value). Some (map view vs)) c.as_slice.ensures.value ∙ elements-are (view c.args.value.now) c.in-Some.items.now.items c.in-Some.ensures
