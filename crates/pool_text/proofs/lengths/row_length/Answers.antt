use Rattle.std.proofs.Common.{◌+◌, length, [], ◌∷◌, ap, sym, ◌∙◌, refl, codes}
use Rattle.serde_json.specs.Data.{string}
use Rattle.serde_json.specs.Written.{compact_text}
use Rattle.pool_text.specs.Rows.{row_form}
use Rattle.pool_text.specs.Document.{row_value}
use Rattle.pool_text.specs.Length.{capped}
use Rattle.pool_text.proofs.TextLengths.{capped-more, cell-row-length, node-says, three-l, three-i, three-m, three-k, three-p, three-s}
use Rattle.pool_text.proofs.lengths.row_length.Goals as goal

pub returns-in-Cell : goal.returns-in-Cell
returns-in-Cell c =
    c.saturating_add.ensures ∙ capped-more (length (compact_text (string c.as_str.result.now))) 6 c.quoted_length.result c.quoted_length.ensures
    ∙ ap capped (ap (λ t. length (compact_text (string t)) + 6) c.as_str.ensures ∙ sym (cell-row-length c.in-Cell.text) ∙ ap (λ r. length (compact_text (row_value (row_form r)))) (sym c.in-Cell.is))

pub returns-in-Leaf : goal.returns-in-Leaf
returns-in-Leaf c = node-says _ [] c.in-Leaf.links _ (codes "l") _ c.node_length.ensures c.as_slice.ensures (ap (λ r. row_value (row_form r)) c.in-Leaf.is) three-l

pub returns-in-Inner : goal.returns-in-Inner
returns-in-Inner c = node-says _ (c.in-Inner.height ∷ []) c.in-Inner.links _ (codes "i") _ c.node_length-in-Inner.ensures c.as_slice-in-Inner.ensures (ap (λ r. row_value (row_form r)) c.in-Inner.is) three-i

pub returns-in-Trie : goal.returns-in-Trie
returns-in-Trie c = node-says _ (c.in-Trie.depth ∷ c.in-Trie.entries ∷ c.in-Trie.nodes ∷ []) c.in-Trie.links _ (codes "m") _ c.node_length-in-Trie.ensures c.as_slice-in-Trie.ensures (ap (λ r. row_value (row_form r)) c.in-Trie.is) three-m

pub returns-in-Chain : goal.returns-in-Chain
returns-in-Chain c = node-says _ [] c.in-Chain.links _ (codes "k") _ c.node_length-in-Chain.ensures c.as_slice-in-Chain.ensures (ap (λ r. row_value (row_form r)) c.in-Chain.is) three-k

pub returns-in-Pair : goal.returns-in-Pair
returns-in-Pair c = node-says _ [] (c.in-Pair.key ∷ c.in-Pair.value ∷ []) _ (codes "p") _ c.node_length-in-Pair.ensures refl (ap (λ r. row_value (row_form r)) c.in-Pair.is) three-p

pub returns-in-State : goal.returns-in-State
returns-in-State c = node-says _ [] (c.in-State.buffers ∷ c.in-State.stars ∷ []) _ (codes "s") _ c.node_length-in-State.ensures refl (ap (λ r. row_value (row_form r)) c.in-State.is) three-s
