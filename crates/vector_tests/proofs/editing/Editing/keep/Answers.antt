use Rattle.std.proofs.Common.{◌∙◌}
use Rattle.vector_tests.proofs.EditingLemmas.{keep-editing}
use Rattle.vector_tests.proofs.editing.Editing.keep.Goals as goal

pub invariant_of-self : goal.invariant_of-self
invariant_of-self g c =
    let root = c.share-shared.ensures.same ∙ c.view.ensures in
    let shares = rw root at c.share-shared.ensures.shares in
    let releases = rw c.replace.ensures.value at c.release.ensures.releases in
    let keeps = rw c.replace.ensures.value at c.release.ensures.keeps in
    rw (c.replace.ensures.after ∙ root) (keep-editing c.self.inside.heap c.share-shared.new.heap c.release.new.heap c.self.inside.vector c.self.inside.kept c.self.inside.cells.items c.self.invariant shares (λ l good. (c.share-shared.ensures.vectors l good).0) releases keeps)
