use Rattle.std.proofs.Common.{map, refl, sym, ap, ◌∙◌, arith}
use Rattle.std.specs.Prelude.{slice_set}
use Rattle.node_heap.specs.Nodes.{node_at, node_links}
use Rattle.node_heap.specs.Tags.{place_in, full_node}
use Rattle.node_heap.proofs.Rooming.{Puts}
use Rattle.node_heap.proofs.Headed.{plain-by, plain-place, headed-same, puts-headed, links-headed, len-headed, IsHeaded-kept}
use Rattle.node_heap.proofs.rows.Rows.put_beside.Goals as goal

plain : (c : goal.After-put_beside) → Puts (map (full_node c.self.inside.heads.items) c.self.inside.rooms.slots) (map (full_node c.self.inside.heads.items) c.put_beside.new.self.slots) c.put_beside.result (record { owners = 1; head = c.args.head; links = slice_set (node_links (node_at c.self.inside.rooms.slots c.args.from)) c.args.position c.args.link })
plain c =
    let heads = c.self.inside.heads.items in
    let rooms = c.self.inside.rooms in
    let put = c.put_beside.ensures in
    puts-headed heads heads rooms.slots c.put_beside.new.self.slots c.put_beside.result (headed-same heads rooms.slots c.put_beside.new.self.slots c.put_beside.result put.others) _ _ put.was put.now
    (rw (plain-by heads c.in-Some.tag c.args.head (c.tag_of.ensures c.in-Some.tag c.in-Some.is)) refl) put.len

pub invariant_of-self : goal.invariant_of-self
invariant_of-self c =
    let put = c.put_beside.ensures in
    let below = rw (← c.self.view_is) at c.requires.room in
    let place = plain-place c.in-Some.tag c.args.head (c.tag_of.ensures c.in-Some.tag c.in-Some.is) in
    IsHeaded-kept _ _ _ _ _ c.self.invariant c.put_beside.new.self c.put_beside.result put.others (ap place_in put.now ∙ place ∙ ap place_in (sym put.was)) (omega (arith, put.len, below, len-headed c.self.inside.heads.items c.self.inside.rooms.slots)) put.room

pub returns-in-Some-clause-was : goal.returns-in-Some-clause-was
returns-in-Some-clause-was c = rw (← c.self.view_is) (plain c).was

pub returns-in-Some-clause-now : goal.returns-in-Some-clause-now
returns-in-Some-clause-now c = rw (links-headed c.self.inside.heads.items c.self.inside.rooms c.self.view_is c.args.from) (plain c).now

pub returns-in-Some-clause-others : goal.returns-in-Some-clause-others
returns-in-Some-clause-others c = rw (← c.self.view_is) (plain c).others
