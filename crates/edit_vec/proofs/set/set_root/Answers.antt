use Rattle.std.proofs.Common.{◌≡◌, [], ◌∷◌, ap, ◌∙◌, subst, sym, arith}
use Rattle.node_heap.specs.Owner.{owned}
use Rattle.node_heap.specs.Root.{IsApart}
use Rattle.node_heap.proofs.CallerLemmas.{Gains-trans, is-owned, makes-gained, only-one}
use Rattle.rrb_core.specs.Vector.{height_at}
use Rattle.rrb_core.proofs.CallerLemmas.{well-live}
use Rattle.edit_vec.proofs.TopLemmas.{good-node, can-write, row-owned}
use Rattle.edit_vec.proofs.SetTop.{sets-element}
use Rattle.edit_vec.proofs.set.set_root.Given.{Over}
use Rattle.edit_vec.proofs.set.set_root.Goals as goal
use Rattle.edit_vec.proofs.set.set_root.Goals.{After-height_of-height}

height : (g : Over) (c : After-height_of-height g) → c.height_of-height.result ≡ height_at c.args.heap.now (owned c.args.heap.now c.args.owner.now)
height g c = c.height_of-height.ensures ∙ ap (height_at c.args.heap.now) c.root_of-root.ensures

pub height_of-height-requires : goal.height_of-height-requires
height_of-height-requires g c =
    let root = owned c.args.heap.now c.args.owner.now in
    rw c.root_of-root.ensures (well-live c.args.heap.now (height_at c.args.heap.now root) root c.requires.good.shape.well)

pub own_root-own-requires-clause-node : goal.own_root-own-requires-clause-node
own_root-own-requires-clause-node g c = good-node c.requires.good

pub own_root-own-requires-clause-spare : goal.own_root-own-requires-clause-spare
own_root-own-requires-clause-spare g c = omega (arith, c.requires.spare.1)

pub set_in-given-requires-clause-row : goal.set_in-given-requires-clause-row
set_in-given-requires-clause-row g c =
    let owns = c.own_root-own.ensures.owns in
    let beside = owns.beside c.args.element c.requires.held c.requires.apart in
    let tall = height g (goal.at.set_in-given-requires-clause-row g c).After-height_of-height in
    can-write (is-owned owns) c.requires.good tall owns.graph (omega (arith, c.requires.spare.1, c.own_root-own.ensures.spares.1)) beside.0 beside.1

pub set_in-given-requires-clause-inside : goal.set_in-given-requires-clause-inside
set_in-given-requires-clause-inside g c =
    let tall = height g (goal.at.set_in-given-requires-clause-inside g c).After-height_of-height in
    rw (row-owned (is-owned c.own_root-own.ensures.owns) c.requires.good tall).items c.requires.inside

pub returns-clause-sets : goal.returns-clause-sets
returns-clause-sets g c =
    let tall = height g (goal.at.returns-clause-sets g c).After-height_of-height in
    let set = c.set_in-given.ensures in
    sets-element (is-owned c.own_root-own.ensures.owns) c.requires.good tall c.requires.inside set (makes-gained (Gains-trans c.own_root-own.ensures.gains set.gains))

pub returns-clause-up : goal.returns-clause-up
returns-clause-up g c =
    let owns = c.own_root-own.ensures.owns in
    let apart = (owns.beside c.args.element c.requires.held c.requires.apart).2 in
    let tall = height g (goal.at.returns-clause-up g c).After-height_of-height in
    owns.up c.set_in-given.new.heap (c.args.element ∷ []) (c.set_in-given.result ∷ []) 0 _ _ (omega (arith, tall)) c.set_in-given.ensures.changes (λ l some. subst (IsApart c.own_root-own.new.heap c.args.owner.now) (sym (only-one l c.args.element some)) apart)

pub returns-clause-gains : goal.returns-clause-gains
returns-clause-gains g c = Gains-trans c.own_root-own.ensures.gains c.set_in-given.ensures.gains
