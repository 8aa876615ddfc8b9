use Rattle.std.proofs.Common.{◌≡◌, ◌+◌, List, [], ◌∷◌, Some, None, sym, subst, ◌∙◌, arith}
use Rattle.elem_core.specs.Naming.{IsName}
use Rattle.elem_core.specs.Shown.{name_bytes}
use Rattle.shell_terms.specs.Edit.{Bytes}
use Rattle.plain_space.specs.Workspace.{Workspace, lines_of}
use Rattle.plain_space.specs.Cost.{alike_buffers}
use Rattle.space_state.specs.declared.room.TheConstants.{WRITTEN_NODES}
use Rattle.space_state.specs.BatchEdits.{new_key}
use Rattle.space_state.proofs.Keeping.{holds-few, current-holds, current-stands, fewer-holds}
use Rattle.space_state.proofs.Placing.{key-none, key-some, lines-placed}
use Rattle.space_state.proofs.roots.RootedHeap.place_lines.Goals as goal
use Rattle.space_state.proofs.roots.RootedHeap.place_lines.Goals.{In_default, In-Some}

-- ## The buffer is there

there : (c : In_default) (W : Workspace) → c.args.key ≡ new_key (lines_of W.current (name_bytes c.args.name)) (name_bytes c.args.name) → (xs : List Bytes) × (lines_of W.current (name_bytes c.args.name) ≡ Some xs)
there c W key = key-none (lines_of W.current (name_bytes c.args.name)) (name_bytes c.args.name) (sym c.in_default.is ∙ key)

pub lines_put-state-requires-clause-few : goal.lines_put-state-requires-clause-few
lines_put-state-requires-clause-few c = omega (arith, holds-few c.requires.3, c.requires.4)

pub lines_put-state-requires-clause-bits : goal.lines_put-state-requires-clause-bits
lines_put-state-requires-clause-bits c = c.requires.3.bits

pub lines_put-state-requires-clause-held : goal.lines_put-state-requires-clause-held
lines_put-state-requires-clause-held c = λ k. fewer-holds k (c.args.self.now.roots.current ∷ c.args.lines ∷ []) c.requires.0 (current-holds c.requires.3 k)

pub lines_put-state-requires-clause-lines : goal.lines_put-state-requires-clause-lines
lines_put-state-requires-clause-lines c = (c.requires.2, c.requires.5)

pub lines_put-state-requires-clause-state : goal.lines_put-state-requires-clause-state
lines_put-state-requires-clause-state c =
    let there = there (goal.at.lines_put-state-requires-clause-state c).In_default c.requires.1 c.requires.6 in
    (c.requires.1.current, there.0, current-stands c.requires.3, there.1, (omega arith, omega (arith, c.requires.7.1)))

pub returns-in_default-clause-turns : goal.returns-in_default-clause-turns
returns-in_default-clause-turns c = λ b W xs K are key.
    let there = there (goal.at.returns-in_default-clause-turns c).In_default W key in
    let did = c.lines_put-state.ensures in
    let is = current-stands K in
    lines-placed 1 (WRITTEN_NODES + alike_buffers c.args.self.now.bits W.current (name_bytes c.args.name)) K did.keeps (did.trades W.current there.0 is there.1) (did.state W.current there.0 xs is there.1 are) (omega arith) (omega arith)

-- ## A buffer is made

made : (c : In-Some) (W : Workspace) → c.args.key ≡ new_key (lines_of W.current (name_bytes c.args.name)) (name_bytes c.args.name) → (lines_of W.current (name_bytes c.args.name) ≡ None) × (c.in-Some.key ≡ name_bytes c.args.name)
made c W key = key-some (lines_of W.current (name_bytes c.args.name)) (name_bytes c.args.name) (sym c.in-Some.is ∙ key)

pub buffer_made-state-requires-clause-few : goal.buffer_made-state-requires-clause-few
buffer_made-state-requires-clause-few c = omega (arith, holds-few c.requires.3, c.requires.4)

pub buffer_made-state-requires-clause-bits : goal.buffer_made-state-requires-clause-bits
buffer_made-state-requires-clause-bits c = c.requires.3.bits

pub buffer_made-state-requires-clause-held : goal.buffer_made-state-requires-clause-held
buffer_made-state-requires-clause-held c = λ k. fewer-holds k (c.args.self.now.roots.current ∷ c.args.lines ∷ []) c.requires.0 (current-holds c.requires.3 k)

pub buffer_made-state-requires-clause-name : goal.buffer_made-state-requires-clause-name
buffer_made-state-requires-clause-name c =
    subst (λ (k : Bytes). IsName k) (sym (made (goal.at.buffer_made-state-requires-clause-name c).In-Some c.requires.1 c.requires.6).1) c.args.name.named

pub buffer_made-state-requires-clause-lines : goal.buffer_made-state-requires-clause-lines
buffer_made-state-requires-clause-lines c = (c.requires.2, c.requires.5)

pub buffer_made-state-requires-clause-state : goal.buffer_made-state-requires-clause-state
buffer_made-state-requires-clause-state c =
    let made = made (goal.at.buffer_made-state-requires-clause-state c).In-Some c.requires.1 c.requires.6 in
    rw made.1 (c.requires.1.current, current-stands c.requires.3, made.0, c.requires.7)

pub returns-clause-turns : goal.returns-clause-turns
returns-clause-turns c = λ b W xs K are key.
    let made = made (goal.at.returns-clause-turns c).In-Some W key in
    let did = rw made.1 at c.buffer_made-state.ensures in
    let is = current-stands K in
    lines-placed 1 (WRITTEN_NODES + alike_buffers c.args.self.now.bits W.current (name_bytes c.args.name)) K did.keeps (did.trades W.current is) (did.state W.current xs is are) (omega arith) (omega arith)

pub returns-in_default-clause-spares : goal.returns-in_default-clause-spares
returns-in_default-clause-spares c = c.lines_put-state.ensures.spares

pub returns-clause-spares : goal.returns-clause-spares
returns-clause-spares c = c.buffer_made-state.ensures.spares
