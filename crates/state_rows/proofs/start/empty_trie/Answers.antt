use Rattle.std.proofs.Common.{ap, option_map}
use Rattle.node_heap.specs.Forms.{form_of}
use Rattle.node_heap.specs.Heap.{form_at}
use Rattle.node_heap.proofs.BuildLemmas.{Builds-node, Answered-Builds}
use Rattle.state_rows.proofs.Empty.{trie-empty}
use Rattle.state_rows.proofs.start.empty_trie.Goals as goal

pub returns-clause-answered : goal.returns-clause-answered
returns-clause-answered c = Answered-Builds (Builds-node c.node.ensures.adds c.node.ensures.makes c.node.ensures.count c.node.ensures.graph c.node.ensures.extends)

pub returns-clause-trie : goal.returns-clause-trie
returns-clause-trie c = λ bits. trie-empty (form_at c.node.new.self) c.node.result (ap (option_map form_of) c.node.ensures.adds.here) bits
