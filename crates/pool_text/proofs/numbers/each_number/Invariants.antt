use Rattle.std.proofs.Common.{◌≡◌, map, take, Some}
use Rattle.serde_json.specs.View.{view}
use Rattle.pool_text.specs.Document.{number_in, all_of}
use Rattle.pool_text.proofs.numbers.each_number.Given as goal

abbrev pub invariant-loop-item : goal.invariant-loop-item
invariant-loop-item l = all_of number_in (map view (take l.item-index l.items)) ≡ Some l.places.items
