use Rattle.std.proofs.Common.{ap, arith}
use Rattle.node_heap.specs.Links.{count}
use Rattle.champ_trie.specs.Trie.{links_at_place}
use Rattle.set_merge.proofs.spread.Spread.put.Goals as goal

pub returns-in-Old-clause-links : goal.returns-in-Old-clause-links
returns-in-Old-clause-links c = λ l. omega (arith, c.put.ensures.links l, ap (λ q. count l (links_at_place q)) c.place-place.ensures)

pub returns-in-New-clause-links : goal.returns-in-New-clause-links
returns-in-New-clause-links c = λ l. omega (arith, c.put.ensures.links l, ap (λ q. count l (links_at_place q)) c.place-place.ensures)
