use Rattle.std.proofs.Common.{ℕ, List, map, take}
use Rattle.node_heap.specs.Forms.{Form}
use Rattle.champ_trie.specs.Trie.{AreSets}
use Rattle.pool_text.specs.Rows.{Bytes}
use Rattle.pool_carry.specs.Making.{seen, AreCodedEntries, IsRowOver}
use Rattle.pool_carry.proofs.shared_parts.row_of_entries.Given as goal

abbrev pub invariant-loop-entry : goal.invariant-loop-entry
invariant-loop-entry l = record {
  sets : AreSets l.row.entries l.row.nodes l.row.links.items;
  over : (code : Bytes → ℕ) (deepest : ℕ) (rows : List (Form Bytes)) → AreCodedEntries code rows l.entries → IsRowOver code deepest rows (map seen (take l.entry-index l.entries)) l.row;
}
