use Rattle.std.proofs.Common.{sym, subst, ◌∙◌}
use Rattle.std.specs.Ordering.{nat_cmp}
use Rattle.std.specs.Cmp.Lexicographic.{slice_cmp}
use Rattle.elem_core.specs.Codes.{text_code}
use Rattle.elem_core.specs.Shown.{name_bytes}
use Rattle.node_heap.specs.Heap.{form_at}
use Rattle.rrb_core.specs.Vector.{IsGoodVector}
use Rattle.champ_trie.specs.Trie.{IsTrieOf}
use Rattle.plain_space.specs.Workspace.{State}
use Rattle.state_rows.specs.InHeap.{AreLinesIn, IsStateIn}
use Rattle.state_rows.proofs.Contents.{named-alike}
use Rattle.state_rows.proofs.look_up.find_buffer.Goals as goal
use Rattle.state_rows.proofs.look_up.find_buffer.Goals.{After-look_up-found}

pub look_up-found-requires-clause-trie : goal.look_up-found-requires-clause-trie
look_up-found-requires-clause-trie c =
    let is = c.requires.state.1 in
    (is.buffers_are.entries, subst (λ l. IsTrieOf (slice_cmp nat_cmp) text_code c.args.bits c.args.heap.now l is.buffers_are.entries) (sym (c.root.ensures ∙ c.buffers_of.ensures.root c.requires.state.0 is)) is.buffers_are.trie.trie)

-- the trie of the state's names, where the look-up begins
names : (c : After-look_up-found) (s : State) (is : IsStateIn c.args.heap.now c.args.bits c.args.state s) → IsTrieOf (slice_cmp nat_cmp) text_code c.args.bits c.args.heap.now c.root.result is.buffers_are.entries
names c s is = subst (λ l. IsTrieOf (slice_cmp nat_cmp) text_code c.args.bits c.args.heap.now l is.buffers_are.entries) (sym (c.root.ensures ∙ c.buffers_of.ensures.root s is)) is.buffers_are.trie.trie

pub lines_in-lines-requires : goal.lines_in-lines-requires
lines_in-lines-requires c =
    let is = c.requires.state.1 in
    (c.requires.state.0, is, c.look_up-found.ensures.entry is.buffers_are.entries (names (goal.at.lines_in-lines-requires c).After-look_up-found c.requires.state.0 is))

pub returns-clause-lines : goal.returns-clause-lines
returns-clause-lines c = λ s is.
    c.lines_in-lines.ensures s is (c.look_up-found.ensures.entry is.buffers_are.entries (names (goal.at.returns-clause-lines c).After-look_up-found s is))

pub returns-clause-alike : goal.returns-clause-alike
returns-clause-alike c = λ s is.
    c.look_up-found.ensures.alike is.buffers_are.entries (names (goal.at.returns-clause-alike c).After-look_up-found s is)
    ∙ named-alike (form_at c.args.heap.now) (IsGoodVector c.args.heap.now) c.args.bits (AreLinesIn c.args.heap.now c.args.bits) is.buffers s.buffers is.buffers_are (name_bytes c.args.name)
