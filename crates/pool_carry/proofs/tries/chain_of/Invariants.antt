use Rattle.std.proofs.Common.{◌<◌, ◌++◌, List, map, length}
use Rattle.std.specs.Prelude.{slice_get, IfSome}
use Rattle.std.specs.Ordering.{nat_cmp}
use Rattle.std.specs.Cmp.Lexicographic.{slice_cmp}
use Rattle.champ_chain.specs.Entry.{SameSet}
use Rattle.champ_chain.specs.Chain.{AreChainRows, IsRising}
use Rattle.pool_carry.specs.Making.{seen, forms_made, AreMade, IsBegun}
use Rattle.pool_carry.specs.declared.entries.Entry.{Entry as CodedEntry}
use Rattle.pool_carry.proofs.tries.chain_of.Given as goal

abbrev pub invariant-loop-entry : goal.invariant-loop-entry
invariant-loop-entry l =
    AreMade l.made × IsBegun (forms_made l.fn.made) (forms_made l.made) × IfSome l.rest (λ place. place < length (forms_made l.made))
    × ((done : List CodedEntry) × SameSet (map seen (l.left.items ++ done)) (map seen l.entries) × IsRising (slice_cmp nat_cmp) (map seen (l.left.items ++ done)) × AreChainRows (slice_get (forms_made l.made)) l.rest (map seen done))

abbrev pub decreases-loop-entry : goal.decreases-loop-entry
decreases-loop-entry l = length l.left.items
