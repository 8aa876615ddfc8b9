use Rattle.std.proofs.Common.{◌≡◌, map, take, ◌∷◌}
use Rattle.serde_json.specs.Data.{string}
use Rattle.serde_json.specs.View.{view}
use Rattle.pool_text.specs.Document.{natural}
use Rattle.pool_text.proofs.written.node_value.Given as goal

abbrev pub invariant-loop-number : goal.invariant-loop-number
invariant-loop-number l = map view l.parts.items ≡ string l.fn.letter ∷ map natural (take l.number-index l.numbers)
