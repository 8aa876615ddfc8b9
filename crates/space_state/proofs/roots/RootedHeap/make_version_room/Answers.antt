use Rattle.std.proofs.Common.{◌≡◌, ℕ, ◌+◌, ◌≤◌, [], ◌∙◌, sym, subst}
use Rattle.std.specs.Prelude.{IfOk}
use Rattle.elem_core.specs.Shown.{name_bytes}
use Rattle.node_heap.specs.Heap.{HasSpares, form_at}
use Rattle.rrb_core.specs.Vector.{IsGoodVector}
use Rattle.plain_space.specs.Workspace.{Workspace}
use Rattle.plain_space.specs.Cost.{alike_versions}
use Rattle.state_rows.specs.InHeap.{IsStateIn}
use Rattle.state_rows.proofs.Contents.{named-alike}
use Rattle.space_state.specs.declared.room.TheConstants.{EDIT_NODES}
use Rattle.space_state.specs.Roots.{Keeps}
use Rattle.space_state.proofs.Keeping.{heap-refused, versions-stand}
use Rattle.node_heap.specs.Calls.{KeepsToNeed}
use Rattle.space_state.proofs.Hoarding.{room-reserves}
use Rattle.space_state.proofs.roots.RootedHeap.make_version_room.Goals as goal
use Rattle.space_state.proofs.roots.RootedHeap.make_version_room.Goals.{After-alike-more}

pub alike-more-requires-clause-trie : goal.alike-more-requires-clause-trie
alike-more-requires-clause-trie c = let is = versions-stand c.requires.1 in (is.entries, is.trie.trie)

-- the number that was found is that of the names that are alike
many : (c : After-alike-more) (W : Workspace) → Keeps c.args.self.now [] W → c.alike-more.result ≡ alike_versions c.args.self.now.bits W (name_bytes c.args.name)
many c W K =
    let h = c.args.self.now in
    let is = versions-stand K in
    c.alike-more.ensures.number is.entries is.trie.trie ∙ named-alike (form_at h.heap) (IsGoodVector h.heap) h.bits (IsStateIn h.heap h.bits) h.roots.versions W.versions is (name_bytes c.args.name)

pub returns-clause-room : goal.returns-clause-room
returns-clause-room c = λ W K.
    subst (λ (n : ℕ). IfOk c.reserve.result (λ _. HasSpares c.reserve.new.self 2 (EDIT_NODES + n))) (many (goal.at.returns-clause-room c).After-alike-more W K) c.reserve.ensures.spares

pub returns-clause-ample : goal.returns-clause-ample
returns-clause-ample c = λ W K spares.
    c.reserve.ensures.ample spares.0 (subst (λ (n : ℕ). EDIT_NODES + n ≤ c.args.self.now.heap.spare_nodes) (sym (many (goal.at.returns-clause-ample c).After-alike-more W K)) spares.1)

pub returns-clause-refused : goal.returns-clause-refused
returns-clause-refused c = heap-refused c.args.self.now c.reserve.new.self c.reserve.result c.reserve.ensures.refused

pub returns-clause-spares : goal.returns-clause-spares
returns-clause-spares c = λ W K.
    subst (λ (n : ℕ). IfOk c.reserve.result (λ _. KeepsToNeed c.args.self.now.heap c.reserve.new.self 2 (EDIT_NODES + n))) (many (goal.at.returns-clause-spares c).After-alike-more W K)
    (room-reserves _ _ c.reserve.result c.reserve.ensures.greater c.reserve.ensures.rest)
