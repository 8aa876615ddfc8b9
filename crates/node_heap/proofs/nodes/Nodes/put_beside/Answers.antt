use Rattle.std.proofs.Common.{◌≡◌, ◌*◌, ◌/◌, ◌%◌, ℕ, ap, subst, arith, length}
use Rattle.std.specs.Prelude.{slice_set}
use Rattle.node_heap.specs.Nodes.{Node, node_at, node_links}
use Rattle.node_heap.specs.Inside.{woven}
use Rattle.node_heap.proofs.Rooming.{Puts}
use Rattle.node_heap.proofs.Weaving.{at-row, puts-row, twice-even, twice-half, AreNodes-rows}
use Rattle.node_heap.proofs.nodes.Nodes.put_beside.Goals as goal

even-row : (k : ℕ) → k % 4 ≡ 2 → k % 2 ≡ 0
even-row k is = omega (arith, is)

pub put_beside-requires-clause-room : goal.put_beside-requires-clause-room
put_beside-requires-clause-room c =
    let inv = c.self.invariant in
    let spare = rw (← c.self.view_is) at c.requires.spare in
    omega (arith, inv.within, inv.both_kinds, inv.of_rows, inv.of_tries, spare)

pub put_beside-requires-clause-large : goal.put_beside-requires-clause-large
put_beside-requires-clause-large c = omega (arith, c.requires.large)

pub put_beside-requires-clause-position : goal.put_beside-requires-clause-position
put_beside-requires-clause-position c =
    let i = c.self.inside in
    let position = rw (← c.self.view_is) at c.requires.position in
    omega (arith, position, ap (λ o. length (node_links o)) (at-row i.rows.slots i.tries.slots c.args.from (even-row _ c.requires.large)))

pub invariant_of-self : goal.invariant_of-self
invariant_of-self c =
    let i = c.self.inside in
    let done = c.put_beside.ensures in
    let spare = rw (← c.self.view_is) at c.requires.spare in
    AreNodes-rows i.rows _ i.tries _ _ _ _ _ c.self.invariant done.room (omega (arith, done.len)) (omega (arith, spare))

-- the node that is made
abbrev made : (c : goal.After-put_beside) → Node
made c = record { owners = 1; head = c.args.head; links = slice_set (node_links (node_at (woven c.self.inside.rows.slots c.self.inside.tries.slots) c.args.from)) c.args.position c.args.link }

puts : (c : goal.After-put_beside) → Puts (woven c.self.inside.rows.slots c.self.inside.tries.slots) (woven c.put_beside.new.self.slots c.self.inside.tries.slots) (2 * c.put_beside.result) (made c)
puts c =
    let i = c.self.inside in
    let done = c.put_beside.ensures in
    rw (at-row i.rows.slots i.tries.slots c.args.from (even-row _ c.requires.large))
    (puts-row i.rows.slots _ i.tries.slots (2 * c.put_beside.result) (twice-even c.put_beside.result) _ (subst (λ k. Puts i.rows.slots c.put_beside.new.self.slots k (record { owners = 1; head = c.args.head; links = slice_set (node_links (node_at i.rows.slots (c.args.from / 2))) c.args.position c.args.link })) (twice-half c.put_beside.result) (record { was = done.was; now = done.now; others = done.others; len = done.len })))

pub returns-clause-was : goal.returns-clause-was
returns-clause-was c = rw (← c.self.view_is) (puts c).was

pub returns-clause-now : goal.returns-clause-now
returns-clause-now c = rw (← c.self.view_is) (puts c).now

pub returns-clause-others : goal.returns-clause-others
returns-clause-others c = rw (← c.self.view_is) (puts c).others

pub returns-clause-len : goal.returns-clause-len
returns-clause-len c = rw (← c.self.view_is) (puts c).len
