use Rattle.std.proofs.Common.{◌∙◌, sym, ap}
use Rattle.std.specs.Prelude.{option_map}
use Rattle.node_heap.specs.Forms.{form_of}
use Rattle.node_heap.proofs.Slots.{row_at-slots}
use Rattle.node_heap.proofs.Stored.{trie-headed}
use Rattle.node_heap.proofs.heap.Heap.trie.Goals as goal

pub trie-requires : goal.trie-requires
trie-requires g c =
    let form = rw (← c.self.view_is, ← c.link.view_is) at c.requires.3.1 in
    let row = row_at-slots c.self.inside.table.slots c.link.inside.place in
    (c.requires.3.0, c.requires.0, c.requires.1, trie-headed _ _ _ _ _ (sym (ap (option_map form_of) row) ∙ form))
