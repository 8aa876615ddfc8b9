use Rattle.std.proofs.Common.{arith, ◌+◌}
use Rattle.std.proofs.lemmas.List.{length_push}
use Rattle.node_heap.proofs.BuildLemmas.{Builds-hold, Builds-then, Builds-more}
use Rattle.rrb_core.specs.Vector.{height_at, elements}
use Rattle.rrb_core.proofs.Stays.{well-live}
use Rattle.rrb_core.proofs.BuildLemmas.{builds-held}
use Rattle.rrb_core.proofs.EditLemmas.{root-pair, pair-vector, pair-rule}
use Rattle.rrb_core.proofs.grow.root_beside.Goals as goal

pub spine-child-requires-clause-low : goal.spine-child-requires-clause-low
spine-child-requires-clause-low g c = omega (arith, c.requires.height, c.requires.root.good.shape.low)

pub spine-child-requires-clause-spare : goal.spine-child-requires-clause-spare
spine-child-requires-clause-spare g c = omega (arith, c.requires.height, c.requires.root.good.shape.low, c.requires.root.spare)

pub hold-requires-clause-live : goal.hold-requires-clause-live
hold-requires-clause-live g c = c.spine-child.ensures.made.builds.extends.live c.args.root (well-live c.args.heap.now (height_at c.args.heap.now c.args.root) c.args.root c.requires.root.good.shape.well)

pub hold-requires-clause-few : goal.hold-requires-clause-few
hold-requires-clause-few g c = omega (arith, c.spine-child.ensures.made.builds.total, c.requires.root.holds)

pub inner_over-requires-clause-rows : goal.inner_over-requires-clause-rows
inner_over-requires-clause-rows g c =
    let pair = root-pair c.requires.root.graph c.requires.root.good c.requires.height c.requires.packed c.requires.short c.spine-child.ensures.made (Builds-hold c.hold.ensures.holds c.hold.ensures.makes c.hold.ensures.count c.hold.ensures.graph c.hold.ensures.extends) in
    pair.rows

pub inner_over-requires-clause-low : goal.inner_over-requires-clause-low
inner_over-requires-clause-low g c =
    let pair = root-pair c.requires.root.graph c.requires.root.good c.requires.height c.requires.packed c.requires.short c.spine-child.ensures.made (Builds-hold c.hold.ensures.holds c.hold.ensures.makes c.hold.ensures.count c.hold.ensures.graph c.hold.ensures.extends) in
    pair.low

pub inner_over-requires-clause-short : goal.inner_over-requires-clause-short
inner_over-requires-clause-short g c =
    let pair = root-pair c.requires.root.graph c.requires.root.good c.requires.height c.requires.packed c.requires.short c.spine-child.ensures.made (Builds-hold c.hold.ensures.holds c.hold.ensures.makes c.hold.ensures.count c.hold.ensures.graph c.hold.ensures.extends) in
    rw pair.items (omega (arith, length_push (elements c.args.heap.now c.args.root) c.args.element, c.requires.short))

pub inner_over-requires-clause-held : goal.inner_over-requires-clause-held
inner_over-requires-clause-held g c =
    let pair = root-pair c.requires.root.graph c.requires.root.good c.requires.height c.requires.packed c.requires.short c.spine-child.ensures.made (Builds-hold c.hold.ensures.holds c.hold.ensures.makes c.hold.ensures.count c.hold.ensures.graph c.hold.ensures.extends) in
    builds-held c.args.element c.requires.held pair.builds

pub inner_over-requires-clause-spare : goal.inner_over-requires-clause-spare
inner_over-requires-clause-spare g c =
    let pair = root-pair c.requires.root.graph c.requires.root.good c.requires.height c.requires.packed c.requires.short c.spine-child.ensures.made (Builds-hold c.hold.ensures.holds c.hold.ensures.makes c.hold.ensures.count c.hold.ensures.graph c.hold.ensures.extends) in
    omega (arith, pair.builds.makes.spare_nodes, pair.builds.few_nodes, pair.low, c.requires.root.spare)

pub inner_over-requires-clause-holds : goal.inner_over-requires-clause-holds
inner_over-requires-clause-holds g c =
    let pair = root-pair c.requires.root.graph c.requires.root.good c.requires.height c.requires.packed c.requires.short c.spine-child.ensures.made (Builds-hold c.hold.ensures.holds c.hold.ensures.makes c.hold.ensures.count c.hold.ensures.graph c.hold.ensures.extends) in
    omega (arith, pair.builds.total, c.requires.root.holds)

pub returns-clause-vector : goal.returns-clause-vector
returns-clause-vector g c = pair-vector c.requires.root.graph c.requires.root.good c.requires.height c.requires.packed c.requires.short c.spine-child.ensures.made (Builds-hold c.hold.ensures.holds c.hold.ensures.makes c.hold.ensures.count c.hold.ensures.graph c.hold.ensures.extends) c.inner_over.ensures.row c.inner_over.ensures.links

pub returns-clause-rule : goal.returns-clause-rule
returns-clause-rule g c = pair-rule c.requires.root.graph c.requires.root.good c.requires.height c.requires.packed c.requires.short c.spine-child.ensures.made (Builds-hold c.hold.ensures.holds c.hold.ensures.makes c.hold.ensures.count c.hold.ensures.graph c.hold.ensures.extends) c.inner_over.ensures.row c.inner_over.ensures.links c.inner_over.ensures.builds.extends

pub returns-clause-builds : goal.returns-clause-builds
returns-clause-builds g c =
    let pair = root-pair c.requires.root.graph c.requires.root.good c.requires.height c.requires.packed c.requires.short c.spine-child.ensures.made (Builds-hold c.hold.ensures.holds c.hold.ensures.makes c.hold.ensures.count c.hold.ensures.graph c.hold.ensures.extends) in
    Builds-more 0 (c.args.height + 2) (Builds-then pair.builds c.inner_over.ensures.builds) (omega arith) (omega arith)
