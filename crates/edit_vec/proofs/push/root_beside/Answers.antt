use Rattle.std.proofs.Common.{◌∙◌}
use Rattle.edit_vec.proofs.OverTop.{over-new, low-root, rows-both, short-both, held-both, tall-over, vector-over, builds-over}
use Rattle.edit_vec.proofs.push.root_beside.Goals as goal

pub inner_over-requires-clause-rows : goal.inner_over-requires-clause-rows
inner_over-requires-clause-rows g c = rows-both c.requires.root c.requires.held c.requires.height c.requires.packed c.spine-child.ensures.made

pub inner_over-requires-clause-low : goal.inner_over-requires-clause-low
inner_over-requires-clause-low g c = low-root c.requires.root c.requires.held c.requires.height c.requires.packed c.spine-child.ensures.made

pub inner_over-requires-clause-short : goal.inner_over-requires-clause-short
inner_over-requires-clause-short g c = short-both c.requires.root c.requires.held c.requires.height c.requires.packed c.spine-child.ensures.made

pub inner_over-requires-clause-held : goal.inner_over-requires-clause-held
inner_over-requires-clause-held g c = held-both c.requires.root c.requires.held c.requires.height c.requires.packed c.spine-child.ensures.made

pub returns-clause-vector : goal.returns-clause-vector
returns-clause-vector g c = vector-over c.requires.root c.requires.held c.requires.height c.requires.packed c.spine-child.ensures.made c.inner_over.ensures.row c.inner_over.ensures.links c.inner_over.ensures.builds

pub returns-clause-owners : goal.returns-clause-owners
returns-clause-owners g c = λ k live. c.inner_over.ensures.owners k (c.spine-child.ensures.made.builds.extends.live k live) ∙ c.spine-child.ensures.owners k live

pub returns-clause-builds : goal.returns-clause-builds
returns-clause-builds g c = builds-over c.requires.root c.requires.held c.requires.height c.requires.packed c.spine-child.ensures.made c.inner_over.ensures.row c.inner_over.ensures.links c.inner_over.ensures.builds

pub returns-clause-tall : goal.returns-clause-tall
returns-clause-tall g c = tall-over c.requires.root c.requires.held c.requires.height c.requires.packed c.spine-child.ensures.made c.inner_over.ensures.row c.inner_over.ensures.links c.inner_over.ensures.builds

pub returns-clause-over : goal.returns-clause-over
returns-clause-over g c = over-new c.requires.root c.requires.held c.requires.height c.requires.packed c.spine-child.ensures.made c.inner_over.ensures.row c.inner_over.ensures.links c.inner_over.ensures.builds
