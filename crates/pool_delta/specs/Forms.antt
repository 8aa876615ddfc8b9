-- Whether two rows are one: of one form, with the same links.
use Rattle.std.specs.Prelude.{Bool, true, false, ◌&&◌, ◌==◌}
use Rattle.std.specs.Str.{bytes_eq}
use Rattle.node_heap.specs.Forms.{Form, Kind, cell, node, leaf, inner, trie, chain, pair, state}
use Rattle.pool_text.specs.Rows.{Bytes}

abbrev pub same_kind : Kind → Kind → Bool
same_kind leaf leaf = true
same_kind (inner h) (inner i) = h == i
same_kind (trie d e n) (trie d' e' n') = (d == d') && (e == e') && (n == n')
same_kind chain chain = true
same_kind pair pair = true
same_kind state state = true
same_kind _ _ = false

-- whether the two rows have one form and the same links
abbrev pub same_form : Form Bytes → Form Bytes → Bool
same_form (cell x) (cell y) = bytes_eq x y
same_form (node k links) (node k' links') = same_kind k k' && bytes_eq links links'
same_form _ _ = false
