use Rattle.node_heap.proofs.GraphLemmas.{IsGraph-acyclic, IsGraph-owned, IsGraph-kinds}
use Rattle.node_heap.proofs.laws.rows_are_owned.Goals as goal

pub returns-clause-acyclic : goal.returns-clause-acyclic
returns-clause-acyclic g c = IsGraph-acyclic c.args.heap.now c.rows_form_a_graph.ensures

pub returns-clause-owned : goal.returns-clause-owned
returns-clause-owned g c = IsGraph-owned c.args.heap.now c.rows_form_a_graph.ensures

pub returns-clause-kinds : goal.returns-clause-kinds
returns-clause-kinds g c = IsGraph-kinds c.args.heap.now
