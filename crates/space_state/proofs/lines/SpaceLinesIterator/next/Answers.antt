use Rattle.std.proofs.Common.{◌≡◌, ℕ, suc, ◌∷◌, List, rules, subst, arith}
use Rattle.std.specs.List.{All}
use Rattle.node_heap.specs.Heap.{form_at}
use Rattle.space_state.specs.Texts.{NamesCell}
use Rattle.space_state.proofs.lines.SpaceLinesIterator.next.Goals as goal

-- what holds of all elements holds of all but the first
all-rest : (P : ℕ → Type 0) (k : ℕ) (ks : List ℕ) → All P (k ∷ ks) → All P ks
all-rest P k ks all i d short = all (suc i) d (omega arith)

pub invariant_of-self-2 : goal.invariant_of-self-2
invariant_of-self-2 c =
    let e : c.self.inside.links ≡ c.in_ok-link.link ∷ c.next.new.self = search rules in
    all-rest (NamesCell (form_at c.self.inside.heap.now)) c.in_ok-link.link c.next.new.self (subst (All (NamesCell (form_at c.self.inside.heap.now))) e c.self.invariant)
