use Rattle.std.proofs.Common.{◌≡◌, length, take}
use Rattle.std.specs.List.{flat_map}
use Rattle.pool_order.specs.Order.{firsts, places}
use Rattle.pool_order.specs.Laws.{IsReady}
use Rattle.pool_text.specs.Pool.{links_from}
use Rattle.pool_text.specs.Listed.{HasPlaces}
use Rattle.pool_text.proofs.from_rows.list_rows.Given as goal

abbrev pub invariant-loop-root : goal.invariant-loop-root
invariant-loop-root l = (l.listed.rows.items ≡ firsts (flat_map (places (length l.rows) (links_from l.rows)) (take l.root-index l.roots))) × IsReady (links_from l.rows) l.listed.rows.items × HasPlaces (length l.rows) l.listed
