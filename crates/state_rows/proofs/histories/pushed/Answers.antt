use Rattle.std.proofs.Common.{arith}
use Rattle.node_heap.proofs.OwnerLemmas.{KeepsHeld-EditsBy}
use Rattle.edit_vec.proofs.LawLemmas.{pushes-keep}
use Rattle.state_rows.proofs.Edited.{pushed-history, vector-many}
use Rattle.state_rows.proofs.histories.pushed.Goals as goal

pub push_held-requires : goal.push_held-requires
push_held-requires c =
    let history = c.requires.history in
    record {
      good = history.2.vector;
      held = c.requires.held;
      few = c.requires.few;
      short = omega (arith, vector-many history.2, history.3);
      spare = c.requires.spares;
    }

pub returns-clause-keeps : goal.returns-clause-keeps
returns-clause-keeps c = KeepsHeld-EditsBy c.push_held.ensures.pushes.edits

pub returns-clause-history : goal.returns-clause-history
returns-clause-history c = λ bits ss s is at. pushed-history (pushes-keep _) c.rows_form_a_graph.ensures c.requires.held c.push_held.ensures.pushes is at
