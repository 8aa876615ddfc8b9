use Rattle.std.proofs.Common.{◌≡◌, ℕ, suc, ◌+◌, ◌-◌, map, length}
use Rattle.std.specs.Prelude.{slice_get}
use Rattle.pool_text.specs.Rows.{Bytes}
use Rattle.pool_carry.specs.Making.{seen, forms_made, AreMade, IsBegun, AreCodedEntries}
use Rattle.pool_carry.proofs.Filled.{IsFilled}
use Rattle.pool_carry.proofs.tries.+trie_of.Given as goal

abbrev pub decreases-trie_of : goal.decreases-trie_of
decreases-trie_of l = l.deepest + 1 - l.depth

abbrev pub invariant-loop-position : goal.invariant-loop-position
invariant-loop-position l = record {
  made : AreMade l.made;
  more : IsBegun (forms_made l.fn.made) (forms_made l.made);
  filled : (code : Bytes → ℕ) (left : ℕ) → AreCodedEntries code (forms_made l.fn.made) l.entries → l.depth + suc left ≡ l.deepest + 1
      → IsFilled code left l.depth (map seen l.entries) (slice_get (forms_made l.made)) (length (forms_made l.made)) l.position l.row.entries l.row.nodes l.row.links.items;
}
