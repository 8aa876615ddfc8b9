use Rattle.std.proofs.Common.{◌≡◌, ℕ, ◌++◌, map}
use Rattle.slab.specs.Slab.{entries}
use Rattle.versions_pool.proofs.slots.roots_of.Given as goal

abbrev pub invariant-loop-root : goal.invariant-loop-root
invariant-loop-root l =
    (goal.iterator-loop-root).can_next l.root-iterator ×
    (goal.iterator-loop-root).is_finite l.root-iterator ×
    (map (λ (e : ℕ × ℕ). e.1) (entries l.slots) ≡ l.roots.items ++ map (λ (e : ℕ × ℕ). e.1) l.root-iterator)
