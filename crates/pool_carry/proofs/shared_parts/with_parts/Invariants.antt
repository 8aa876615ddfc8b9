use Rattle.std.proofs.Common.{◌≡◌, ℕ, List, ◌++◌, Some, take}
use Rattle.std.specs.Prelude.{slice_get}
use Rattle.std.specs.List.{flat_map}
use Rattle.node_heap.specs.Forms.{Form}
use Rattle.champ_chain.specs.Entry.{Entry}
use Rattle.champ_trie.specs.Trie.{AreSets}
use Rattle.pool_text.specs.Rows.{Bytes}
use Rattle.pool_carry.specs.Making.{IsPart, IsRowOver}
use Rattle.pool_carry.specs.declared.shared_parts.Part.{Part}
use Rattle.pool_carry.proofs.shared_parts.with_parts.Given as goal

abbrev pub invariant-loop-place : goal.invariant-loop-place
invariant-loop-place l = record {
  sets : AreSets l.whole.entries l.whole.nodes l.whole.links.items;
  over : (code : Bytes → ℕ) (deepest : ℕ) (rows : List (Form Bytes)) (E : List (Entry Bytes)) (entries_at : ℕ → List (Entry Bytes)) → IsRowOver code deepest rows E l.fn.row
      → ((k : ℕ) (it : Part) → slice_get l.parts k ≡ Some (Some it) → IsPart code deepest rows (entries_at k) it) → IsRowOver code deepest rows (E ++ flat_map entries_at (take l.place-index l.below)) l.whole;
}
