use Rattle.std.proofs.Common.{◌∙◌, refl, arith, lit<}
use Rattle.node_heap.specs.Tries.{head_beside, with_heads}
use Rattle.node_heap.proofs.Rooming.{Puts}
use Rattle.node_heap.proofs.Telling.{Beside, beside-twig, beside-fork, len-told, puts-told, said-head, AreTries-written}
use Rattle.node_heap.proofs.tries.Tries.put.Goals as goal

pub put-index-requires : goal.put-index-requires
put-index-requires c =
    let below = rw (← c.self.view_is) at c.requires.room in (
      lit< tt,
      (lit< tt, (omega (arith, below, len-told (head_beside c.self.inside.twig_heads.items c.self.inside.fork_heads.items) c.self.inside.rooms.slots), (c.requires.short, (c.twig_sets.ensures.few, (c.twig_sets.ensures.same, omega arith))))),
    )

-- the head beside the new node
fork : (c : goal.After-write_head) → Beside c.self.inside.twig_heads.items c.self.inside.fork_heads.items c.self.inside.twig_heads.items c.write_head.new.heads.items c.put-index.result c.args.head
fork c =
    let done = c.write_head.ensures in
    beside-fork c.self.inside.twig_heads.items c.self.inside.fork_heads.items c.put-index.result c.args.head _ c.if-index-ne0.true done.here done.others (omega (arith, done.grows, c.self.inside.fork_heads.ok.0, c.write_head.new.heads.ok.0)) (omega (arith, done.inside, c.write_head.new.heads.ok.0))

pub write_head-requires : goal.write_head-requires
write_head-requires c =
    omega (arith, c.put-index.ensures.low, c.self.invariant.fork_room, c.if-index-ne0.true)

pub invariant_of-self : goal.invariant_of-self
invariant_of-self c =
    let put = c.put-index.ensures in
    AreTries-written c.self.invariant c.put-index.new.self _ _ _ _ c.put-index.result c.args.head refl c.write_head.ensures.capacity put.others
    (λ n is. said-head _ _ _ put.now is ∙ c.sets_of-sets.ensures) put.room (fork c) c.self.invariant.twig_short
    (omega (arith, c.write_head.ensures.short c.self.inside.rooms.room (omega (arith, c.self.invariant.fork_short, c.self.inside.fork_heads.ok.0)) (omega (arith, put.low)), c.write_head.new.heads.ok.0))

fork-put : (c : goal.After-write_head) → Puts (with_heads (head_beside c.self.inside.twig_heads.items c.self.inside.fork_heads.items) 0 c.self.inside.rooms.slots) (with_heads (head_beside c.self.inside.twig_heads.items c.write_head.new.heads.items) 0 c.put-index.new.self.slots) c.put-index.result (record { owners = 1; head = head_beside c.self.inside.twig_heads.items c.write_head.new.heads.items c.put-index.result; links = c.args.links.now })
fork-put c =
    let put = c.put-index.ensures in
    puts-told (head_beside c.self.inside.twig_heads.items c.self.inside.fork_heads.items) (head_beside c.self.inside.twig_heads.items c.write_head.new.heads.items) c.self.inside.rooms.slots c.put-index.new.self.slots c.put-index.result (fork c).others put.others _ put.was put.now put.len

pub returns-then-index-ne0-clause-was : goal.returns-then-index-ne0-clause-was
returns-then-index-ne0-clause-was c = rw (← c.self.view_is) (fork-put c).was

pub returns-then-index-ne0-clause-now : goal.returns-then-index-ne0-clause-now
returns-then-index-ne0-clause-now c = rw (fork c).here at (fork-put c).now

pub returns-then-index-ne0-clause-others : goal.returns-then-index-ne0-clause-others
returns-then-index-ne0-clause-others c = rw (← c.self.view_is) (fork-put c).others

pub returns-then-index-ne0-clause-len : goal.returns-then-index-ne0-clause-len
returns-then-index-ne0-clause-len c = rw (← c.self.view_is) (fork-put c).len

-- the head beside the new node
twig : (c : goal.After-write_head-2) → Beside c.self.inside.twig_heads.items c.self.inside.fork_heads.items c.write_head-2.new.heads.items c.self.inside.fork_heads.items c.put-index.result c.args.head
twig c =
    let done = c.write_head-2.ensures in
    beside-twig c.self.inside.twig_heads.items c.self.inside.fork_heads.items c.put-index.result c.args.head _ c.if-index-ne0.false done.here done.others (omega (arith, done.grows, c.self.inside.twig_heads.ok.0, c.write_head-2.new.heads.ok.0)) (omega (arith, done.inside, c.write_head-2.new.heads.ok.0))

pub write_head-requires-2 : goal.write_head-requires-2
write_head-requires-2 c =
    omega (arith, c.put-index.ensures.low, c.self.invariant.twig_room, c.if-index-ne0.false)

pub invariant_of-self-2 : goal.invariant_of-self-2
invariant_of-self-2 c =
    let put = c.put-index.ensures in
    AreTries-written c.self.invariant c.put-index.new.self _ _ _ _ c.put-index.result c.args.head c.write_head-2.ensures.capacity refl put.others
    (λ n is. said-head _ _ _ put.now is ∙ c.sets_of-sets.ensures) put.room (twig c)
    (omega (arith, c.write_head-2.ensures.short c.self.inside.rooms.room (omega (arith, c.self.invariant.twig_short, c.self.inside.twig_heads.ok.0)) (omega (arith, put.low)), c.write_head-2.new.heads.ok.0))
    c.self.invariant.fork_short

twig-put : (c : goal.After-write_head-2) → Puts (with_heads (head_beside c.self.inside.twig_heads.items c.self.inside.fork_heads.items) 0 c.self.inside.rooms.slots) (with_heads (head_beside c.write_head-2.new.heads.items c.self.inside.fork_heads.items) 0 c.put-index.new.self.slots) c.put-index.result (record { owners = 1; head = head_beside c.write_head-2.new.heads.items c.self.inside.fork_heads.items c.put-index.result; links = c.args.links.now })
twig-put c =
    let put = c.put-index.ensures in
    puts-told (head_beside c.self.inside.twig_heads.items c.self.inside.fork_heads.items) (head_beside c.write_head-2.new.heads.items c.self.inside.fork_heads.items) c.self.inside.rooms.slots c.put-index.new.self.slots c.put-index.result (twig c).others put.others _ put.was put.now put.len

pub returns-clause-was : goal.returns-clause-was
returns-clause-was c = rw (← c.self.view_is) (twig-put c).was

pub returns-clause-now : goal.returns-clause-now
returns-clause-now c = rw (twig c).here at (twig-put c).now

pub returns-clause-others : goal.returns-clause-others
returns-clause-others c = rw (← c.self.view_is) (twig-put c).others

pub returns-clause-len : goal.returns-clause-len
returns-clause-len c = rw (← c.self.view_is) (twig-put c).len
