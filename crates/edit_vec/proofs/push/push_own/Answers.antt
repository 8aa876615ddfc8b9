use Rattle.std.proofs.Common.{[], ◌∷◌, subst, sym, arith}
use Rattle.node_heap.specs.Root.{IsApart}
use Rattle.node_heap.proofs.CallerLemmas.{Gains-trans, is-owned, makes-gained, only-one}
use Rattle.edit_vec.proofs.TopLemmas.{good-node, can-write}
use Rattle.edit_vec.proofs.PushTop.{room-owned, short-owned, pushes-element}
use Rattle.edit_vec.proofs.push.push_own.Goals as goal

pub own_root-own-requires-clause-node : goal.own_root-own-requires-clause-node
own_root-own-requires-clause-node g c = good-node c.requires.root.good

pub own_root-own-requires-clause-spare : goal.own_root-own-requires-clause-spare
own_root-own-requires-clause-spare g c = omega (arith, c.requires.root.spare)

pub push_in-requires-clause-row : goal.push_in-requires-clause-row
push_in-requires-clause-row g c =
    let owns = c.own_root-own.ensures.owns in
    let beside = owns.beside c.args.element c.requires.held c.requires.apart in
    can-write (is-owned owns) c.requires.root.good c.requires.height owns.graph (omega (arith, c.requires.root.spare, c.own_root-own.ensures.spares.1)) beside.0 beside.1

pub push_in-requires-clause-short : goal.push_in-requires-clause-short
push_in-requires-clause-short g c = short-owned c.args.lowest (is-owned c.own_root-own.ensures.owns) c.requires.root.good c.requires.height c.requires.room c.requires.root.short

pub push_in-requires-clause-few : goal.push_in-requires-clause-few
push_in-requires-clause-few g c = omega (arith, c.requires.root.few, c.own_root-own.ensures.owns.total)

pub push_in-requires-clause-room : goal.push_in-requires-clause-room
push_in-requires-clause-room g c = room-owned c.args.lowest (is-owned c.own_root-own.ensures.owns) c.requires.root.good c.requires.height c.requires.room

pub returns : goal.returns
returns g c =
    let owns = c.own_root-own.ensures.owns in
    let push = c.push_in.ensures in
    let gains = Gains-trans c.own_root-own.ensures.gains push.gains in
    let apart = (owns.beside c.args.element c.requires.held c.requires.apart).2 in
    record {
      pushes = pushes-element c.args.lowest (is-owned owns) c.requires.root.good c.requires.height c.requires.room c.requires.root.short push (makes-gained gains);
      up = owns.up c.push_in.new.heap (c.args.element ∷ []) [] 0 _ _ (omega (arith, c.requires.height)) push.changes (λ l some. subst (IsApart c.own_root-own.new.heap c.args.owner.now) (sym (only-one l c.args.element some)) apart);
      gains = gains;
    }
