use Rattle.std.proofs.Common.{◌/◌, ◌∙◌, sym, ap, arith, Some}
use Rattle.node_heap.specs.Tries.{head_beside}
use Rattle.node_heap.specs.declared.row.Head.TheVariants.{Leaf}
use Rattle.node_heap.proofs.Telling.{live-told, head-told, beside-even, beside-odd, read-inside}
use Rattle.node_heap.proofs.tries.Tries.head.Goals as goal

pub index-requires : goal.index-requires
index-requires c =
    let i = c.self.inside in
    let live = live-told (head_beside c.self.inside.twig_heads.items c.self.inside.fork_heads.items) i.rooms.slots c.args.index (rw (← c.self.view_is) at c.requires) in
    omega (arith, c.self.invariant.fork_inside c.args.index c.if-index-ne0.true live, i.fork_heads.ok.0)

pub returns-then-index-ne0 : goal.returns-then-index-ne0
returns-then-index-ne0 c =
    let i = c.self.inside in
    let live = live-told (head_beside c.self.inside.twig_heads.items c.self.inside.fork_heads.items) i.rooms.slots c.args.index (rw (← c.self.view_is) at c.requires) in
    let inside = c.self.invariant.fork_inside c.args.index c.if-index-ne0.true live in
    rw (← c.self.view_is) (head-told (head_beside c.self.inside.twig_heads.items c.self.inside.fork_heads.items) i.rooms.slots c.args.index live ∙ ap Some (beside-odd c.self.inside.twig_heads.items c.self.inside.fork_heads.items c.args.index c.if-index-ne0.true ∙ read-inside i.fork_heads.items (c.args.index / 2) Leaf _ inside ∙ sym c.index.ensures))

pub index-requires-2 : goal.index-requires-2
index-requires-2 c =
    let i = c.self.inside in
    let live = live-told (head_beside c.self.inside.twig_heads.items c.self.inside.fork_heads.items) i.rooms.slots c.args.index (rw (← c.self.view_is) at c.requires) in
    omega (arith, c.self.invariant.twig_inside c.args.index c.if-index-ne0.false live, i.twig_heads.ok.0)

pub returns : goal.returns
returns c =
    let i = c.self.inside in
    let live = live-told (head_beside c.self.inside.twig_heads.items c.self.inside.fork_heads.items) i.rooms.slots c.args.index (rw (← c.self.view_is) at c.requires) in
    let inside = c.self.invariant.twig_inside c.args.index c.if-index-ne0.false live in
    rw (← c.self.view_is) (head-told (head_beside c.self.inside.twig_heads.items c.self.inside.fork_heads.items) i.rooms.slots c.args.index live ∙ ap Some (beside-even c.self.inside.twig_heads.items c.self.inside.fork_heads.items c.args.index c.if-index-ne0.false ∙ read-inside i.twig_heads.items (c.args.index / 2) Leaf _ inside ∙ sym c.index-2.ensures))
