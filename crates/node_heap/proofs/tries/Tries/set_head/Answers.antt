use Rattle.std.proofs.Common.{◌/◌, ◌∙◌, set, refl, ap, arith, lit<}
use Rattle.std.specs.Prelude.{option_map}
use Rattle.std.proofs.lemmas.List.{get_or-set_same, get_or-set_other, length-set}
use Rattle.node_heap.specs.Nodes.{NodeOf}
use Rattle.node_heap.specs.Tries.{head_beside}
use Rattle.node_heap.specs.declared.row.Head.TheVariants.{Leaf}
use Rattle.node_heap.specs.declared.sets.Sets.{Sets}
use Rattle.node_heap.proofs.Free.{value_in}
use Rattle.node_heap.proofs.Telling.{Beside, beside-twig, beside-fork, live-told, becomes-told, said-head, AreTries-written}
use Rattle.node_heap.proofs.tries.Tries.set_head.Goals as goal

pub set_head-requires : goal.set_head-requires
set_head-requires c = (
  lit< tt,
  (lit< tt, (omega arith, (live-told (head_beside c.self.inside.twig_heads.items c.self.inside.fork_heads.items) c.self.inside.rooms.slots c.args.index (rw (← c.self.view_is) at c.requires), λ s is. cc))),
)

pub index_mut-requires : goal.index_mut-requires
index_mut-requires c =
    omega (arith, c.self.invariant.fork_inside c.args.index c.if-index-ne0.true (live-told (head_beside c.self.inside.twig_heads.items c.self.inside.fork_heads.items) c.self.inside.rooms.slots c.args.index (rw (← c.self.view_is) at c.requires)), c.self.inside.fork_heads.ok.0)

fork : (c : goal.After-self-1) → Beside c.self.inside.twig_heads.items c.self.inside.fork_heads.items c.self.inside.twig_heads.items (set c.self.inside.fork_heads.items (c.args.index / 2) c.args.head) c.args.index c.args.head
fork c =
    let inside = c.self.invariant.fork_inside c.args.index c.if-index-ne0.true (live-told (head_beside c.self.inside.twig_heads.items c.self.inside.fork_heads.items) c.self.inside.rooms.slots c.args.index (rw (← c.self.view_is) at c.requires)) in
    beside-fork c.self.inside.twig_heads.items c.self.inside.fork_heads.items c.args.index c.args.head _ c.if-index-ne0.true (get_or-set_same c.self.inside.fork_heads.items (c.args.index / 2) c.args.head Leaf inside) (λ k other. get_or-set_other c.self.inside.fork_heads.items (c.args.index / 2) k c.args.head Leaf other)
    (omega (arith, length-set c.self.inside.fork_heads.items (c.args.index / 2) c.args.head)) (omega (arith, inside, length-set c.self.inside.fork_heads.items (c.args.index / 2) c.args.head))

pub invariant_of-self : goal.invariant_of-self
invariant_of-self c =
    let done = c.set_head.ensures in
    let n = value_in _ (live-told (head_beside c.self.inside.twig_heads.items c.self.inside.fork_heads.items) c.self.inside.rooms.slots c.args.index (rw (← c.self.view_is) at c.requires)) in
    AreTries-written c.self.invariant c.set_head.new.self _ _ _ _ c.args.index c.args.head refl refl done.becomes.others
    (λ m is. said-head _ _ _ (done.becomes.here ∙ ap (option_map (λ (n : NodeOf Sets). record { owners = n.owners; head = c.sets_of-sets.result; links = n.links })) n.1) is ∙ c.sets_of-sets.ensures) done.room (fork c)
    c.self.invariant.twig_short (omega (arith, c.self.invariant.fork_short, length-set c.self.inside.fork_heads.items (c.args.index / 2) c.args.head))

pub returns-then-index-ne0-clause-becomes : goal.returns-then-index-ne0-clause-becomes
returns-then-index-ne0-clause-becomes c =
    let b = c.set_head.ensures.becomes in
    let n = value_in _ (live-told (head_beside c.self.inside.twig_heads.items c.self.inside.fork_heads.items) c.self.inside.rooms.slots c.args.index (rw (← c.self.view_is) at c.requires)) in
    rw (← c.self.view_is) (becomes-told (head_beside c.self.inside.twig_heads.items c.self.inside.fork_heads.items) (head_beside c.self.inside.twig_heads.items (set c.self.inside.fork_heads.items (c.args.index / 2) c.args.head)) c.self.inside.rooms.slots c.set_head.new.self.slots c.args.index (fork c).others b.others _ _ n.0 n.1 b (rw (fork c).here refl))

pub index_mut-requires-2 : goal.index_mut-requires-2
index_mut-requires-2 c =
    omega (arith, c.self.invariant.twig_inside c.args.index c.if-index-ne0.false (live-told (head_beside c.self.inside.twig_heads.items c.self.inside.fork_heads.items) c.self.inside.rooms.slots c.args.index (rw (← c.self.view_is) at c.requires)), c.self.inside.twig_heads.ok.0)

twig : (c : goal.After-self-2-1) → Beside c.self.inside.twig_heads.items c.self.inside.fork_heads.items (set c.self.inside.twig_heads.items (c.args.index / 2) c.args.head) c.self.inside.fork_heads.items c.args.index c.args.head
twig c =
    let inside = c.self.invariant.twig_inside c.args.index c.if-index-ne0.false (live-told (head_beside c.self.inside.twig_heads.items c.self.inside.fork_heads.items) c.self.inside.rooms.slots c.args.index (rw (← c.self.view_is) at c.requires)) in
    beside-twig c.self.inside.twig_heads.items c.self.inside.fork_heads.items c.args.index c.args.head _ c.if-index-ne0.false (get_or-set_same c.self.inside.twig_heads.items (c.args.index / 2) c.args.head Leaf inside) (λ k other. get_or-set_other c.self.inside.twig_heads.items (c.args.index / 2) k c.args.head Leaf other)
    (omega (arith, length-set c.self.inside.twig_heads.items (c.args.index / 2) c.args.head)) (omega (arith, inside, length-set c.self.inside.twig_heads.items (c.args.index / 2) c.args.head))

pub invariant_of-self-2 : goal.invariant_of-self-2
invariant_of-self-2 c =
    let done = c.set_head.ensures in
    let n = value_in _ (live-told (head_beside c.self.inside.twig_heads.items c.self.inside.fork_heads.items) c.self.inside.rooms.slots c.args.index (rw (← c.self.view_is) at c.requires)) in
    AreTries-written c.self.invariant c.set_head.new.self _ _ _ _ c.args.index c.args.head refl refl done.becomes.others
    (λ m is. said-head _ _ _ (done.becomes.here ∙ ap (option_map (λ (n : NodeOf Sets). record { owners = n.owners; head = c.sets_of-sets.result; links = n.links })) n.1) is ∙ c.sets_of-sets.ensures) done.room (twig c)
    (omega (arith, c.self.invariant.twig_short, length-set c.self.inside.twig_heads.items (c.args.index / 2) c.args.head)) c.self.invariant.fork_short

pub returns-clause-becomes : goal.returns-clause-becomes
returns-clause-becomes c =
    let b = c.set_head.ensures.becomes in
    let n = value_in _ (live-told (head_beside c.self.inside.twig_heads.items c.self.inside.fork_heads.items) c.self.inside.rooms.slots c.args.index (rw (← c.self.view_is) at c.requires)) in
    rw (← c.self.view_is) (becomes-told (head_beside c.self.inside.twig_heads.items c.self.inside.fork_heads.items) (head_beside (set c.self.inside.twig_heads.items (c.args.index / 2) c.args.head) c.self.inside.fork_heads.items) c.self.inside.rooms.slots c.set_head.new.self.slots c.args.index (twig c).others b.others _ _ n.0 n.1 b (rw (twig c).here refl))
