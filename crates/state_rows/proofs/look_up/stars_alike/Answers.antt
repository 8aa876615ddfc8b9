use Rattle.std.proofs.Common.{sym, subst, ◌∙◌}
use Rattle.std.specs.Ordering.{nat_cmp}
use Rattle.std.specs.Cmp.Lexicographic.{slice_cmp}
use Rattle.elem_core.specs.Codes.{text_code}
use Rattle.elem_core.specs.Shown.{name_bytes}
use Rattle.node_heap.specs.Heap.{form_at}
use Rattle.rrb_core.specs.Vector.{IsGoodVector}
use Rattle.champ_trie.specs.Trie.{IsTrieOf}
use Rattle.state_rows.proofs.Contents.{names-alike}
use Rattle.state_rows.proofs.look_up.stars_alike.Goals as goal

pub alike-requires-clause-trie : goal.alike-requires-clause-trie
alike-requires-clause-trie c =
    let is = c.requires.state.1 in
    (is.stars_are.entries, subst (λ l. IsTrieOf (slice_cmp nat_cmp) text_code c.args.bits c.args.heap.now l is.stars_are.entries) (sym (c.root.ensures ∙ c.stars_of.ensures.root c.requires.state.0 is)) is.stars_are.trie.trie)

pub returns-clause-number : goal.returns-clause-number
returns-clause-number c = λ s is.
    c.alike.ensures.number is.stars_are.entries
    (subst (λ l. IsTrieOf (slice_cmp nat_cmp) text_code c.args.bits c.args.heap.now l is.stars_are.entries) (sym (c.root.ensures ∙ c.stars_of.ensures.root s is)) is.stars_are.trie.trie)
    ∙ names-alike (form_at c.args.heap.now) (IsGoodVector c.args.heap.now) c.args.bits is.stars s.stars is.stars_are (name_bytes c.args.name)
