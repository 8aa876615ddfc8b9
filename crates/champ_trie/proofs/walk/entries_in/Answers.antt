use Rattle.std.proofs.Common.{ap, sym, ◌∙◌, Some}
use Rattle.std.specs.Prelude.{option_map}
use Rattle.node_heap.specs.Heap.{form_at}
use Rattle.node_heap.specs.Reads.{kind_said}
use Rattle.champ_trie.proofs.WalkLemmas.{kind-trie}
use Rattle.champ_trie.proofs.walk.entries_in.Goals as goal

pub returns-in-Some-Trie : goal.returns-in-Some-Trie
returns-in-Some-Trie g c =
    kind-trie (form_at c.args.heap.now c.args.row) c.in-Some-Trie.field-0-0 c.in-Some-Trie.entries c.in-Some-Trie.field-0-2
    (sym c.kind.ensures ∙ ap (option_map kind_said) c.in-Some-Trie.is ∙ ap (λ k. Some (kind_said k)) c.in-Some-Trie.field-0-is) c.requires
