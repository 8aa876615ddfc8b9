use Rattle.std.proofs.Common.{ℕ, Option, sym, subst}
use Rattle.elem_core.specs.Shown.{name_bytes}
use Rattle.rrb_core.specs.Vector.{IsGoodVector}
use Rattle.plain_space.specs.Workspace.{version_of}
use Rattle.state_rows.specs.Reading.{StandsIfThere}
use Rattle.state_rows.specs.InHeap.{IsStateIn}
use Rattle.state_rows.proofs.Contents.{as-map}
use Rattle.space_state.proofs.Keeping.{versions-stand}
use Rattle.space_state.proofs.roots.RootedHeap.version.Goals as goal

pub get-requires : goal.get-requires
get-requires c =
    let h = c.args.self.now in
    let is = versions-stand c.requires.1 in
    (is.bindings, rw c.versions.ensures (as-map h.heap (IsGoodVector h.heap) h.bits (IsStateIn h.heap h.bits) h.roots.versions c.requires.0.versions c.requires.1.bits is))

pub returns : goal.returns
returns c = λ W K.
    let h = c.args.self.now in
    let is = versions-stand K in
    subst (λ (o : Option ℕ). StandsIfThere (IsStateIn h.heap h.bits) o (version_of W (name_bytes c.args.name)))
    (sym (c.get.ensures.value is.bindings (rw c.versions.ensures (as-map h.heap (IsGoodVector h.heap) h.bits (IsStateIn h.heap h.bits) h.roots.versions W.versions K.bits is))))
    (is.reads (name_bytes c.args.name))
