use Rattle.elem_core.specs.Shown.{name_bytes}
use Rattle.plain_space.specs.Workspace.{version_of}
use Rattle.state_rows.specs.InHeap.{IsStateIn}
use Rattle.space_state.proofs.There.{stands-there}
use Rattle.space_state.proofs.Texts.{some-there}
use Rattle.space_state.proofs.roots.RootedHeap.eqv.Goals as goal

pub same_states-requires-clause-one : goal.same_states-requires-clause-one
same_states-requires-clause-one c =
    let W = c.requires.0 in
    let h = c.args.self.now in
    some-there (IsStateIn h.heap h.bits c.in-Some-Some.one) (version_of W (name_bytes c.args.version)) (stands-there (IsStateIn h.heap h.bits) c.version.result (version_of W (name_bytes c.args.version)) c.in-Some-Some.one c.in-Some-Some.is-0 (c.version.ensures W c.requires.1))

pub same_states-requires-clause-other : goal.same_states-requires-clause-other
same_states-requires-clause-other c =
    let W = c.requires.0 in
    let h = c.args.self.now in
    some-there (IsStateIn h.heap h.bits c.in-Some-Some.two) (version_of W (name_bytes c.args.other)) (stands-there (IsStateIn h.heap h.bits) c.version-2.result (version_of W (name_bytes c.args.other)) c.in-Some-Some.two c.in-Some-Some.is-1 (c.version-2.ensures W c.requires.1))
