use Rattle.std.proofs.Common.{arith}
use Rattle.node_heap.proofs.OwnerLemmas.{KeepsHeld-EditsBy}
use Rattle.edit_vec.proofs.LawLemmas.{pops-keep}
use Rattle.state_rows.proofs.Edited.{popped-history, popped-last, vector-many}
use Rattle.state_rows.proofs.histories.popped.Goals as goal

pub pop_held-requires : goal.pop_held-requires
pop_held-requires c =
    let history = c.requires.history in
    record {
      good = history.2.vector;
      held = c.requires.held;
      few = c.requires.few;
      some = omega (arith, vector-many history.2, history.3);
      spare = c.requires.spares;
    }

pub returns-clause-keeps : goal.returns-clause-keeps
returns-clause-keeps c = KeepsHeld-EditsBy c.pop_held.ensures.pops.edits

pub returns-clause-history : goal.returns-clause-history
returns-clause-history c = λ bits ss is. popped-history (pops-keep _) c.rows_form_a_graph.ensures c.requires.held c.pop_held.ensures.pops is

pub returns-clause-last : goal.returns-clause-last
returns-clause-last c = λ bits ss is.
    let history = c.requires.history in
    popped-last (pops-keep _) c.rows_form_a_graph.ensures c.requires.held c.pop_held.ensures.pops (omega (arith, vector-many is, vector-many history.2, history.3)) is

pub returns-clause-alone : goal.returns-clause-alone
returns-clause-alone c = λ one. c.pop_held.ensures.pops.made
