use Rattle.std.proofs.Common.{◌≡◌, ℕ, ◌++◌, map}
use Rattle.slab.specs.Slab.{entries}
use Rattle.versions_pool.proofs.slots.names_of.Given as goal

abbrev pub invariant-loop-name : goal.invariant-loop-name
invariant-loop-name l =
    (goal.iterator-loop-name).can_next l.name-iterator ×
    (goal.iterator-loop-name).is_finite l.name-iterator ×
    (map (λ (e : ℕ × ℕ). e.0) (entries l.slots) ≡ l.names.items ++ map (λ (e : ℕ × ℕ). e.0) l.name-iterator)
