use Rattle.std.proofs.Common.{◌*◌, ◌+◌, subst, arith}
use Rattle.node_heap.proofs.Rooming.{Puts}
use Rattle.node_heap.proofs.Weaving.{puts-row, puts-trie, twice-even, twice-half, next-odd, next-half, AreNodes-rows, AreNodes-tries}
use Rattle.node_heap.proofs.nodes.Nodes.put.Goals as goal

pub put-requires-clause-room : goal.put-requires-clause-room
put-requires-clause-room c =
    let inv = c.self.invariant in
    let spare = rw (← c.self.view_is) at c.requires.spare in
    omega (arith, inv.within, inv.both_kinds, inv.of_rows, inv.of_tries, spare)

pub invariant_of-self : goal.invariant_of-self
invariant_of-self c =
    let i = c.self.inside in
    let done = c.put.ensures in
    let spare = rw (← c.self.view_is) at c.requires.spare in
    AreNodes-tries i.rows i.tries _ _ _ _ _ _ c.self.invariant done.room (omega (arith, done.len)) (omega (arith, spare))

pub returns-in-Trie-clause-was : goal.returns-in-Trie-clause-was
returns-in-Trie-clause-was c =
    let i = c.self.inside in
    let done = c.put.ensures in
    rw (← c.self.view_is) (puts-trie i.rows.slots i.tries.slots _ (2 * c.put.result + 1) (next-odd c.put.result) (record { owners = 1; head = c.args.head; links = c.args.links.now }) (subst (λ k. Puts i.tries.slots c.put.new.self.slots k (record { owners = 1; head = c.args.head; links = c.args.links.now })) (next-half c.put.result) (record { was = done.was; now = done.now; others = done.others; len = done.len }))).was

pub returns-in-Trie-clause-now : goal.returns-in-Trie-clause-now
returns-in-Trie-clause-now c =
    let i = c.self.inside in
    let done = c.put.ensures in
    (puts-trie i.rows.slots i.tries.slots _ (2 * c.put.result + 1) (next-odd c.put.result) (record { owners = 1; head = c.args.head; links = c.args.links.now }) (subst (λ k. Puts i.tries.slots c.put.new.self.slots k (record { owners = 1; head = c.args.head; links = c.args.links.now })) (next-half c.put.result) (record { was = done.was; now = done.now; others = done.others; len = done.len }))).now

pub returns-in-Trie-clause-others : goal.returns-in-Trie-clause-others
returns-in-Trie-clause-others c =
    let i = c.self.inside in
    let done = c.put.ensures in
    rw (← c.self.view_is) (puts-trie i.rows.slots i.tries.slots _ (2 * c.put.result + 1) (next-odd c.put.result) (record { owners = 1; head = c.args.head; links = c.args.links.now }) (subst (λ k. Puts i.tries.slots c.put.new.self.slots k (record { owners = 1; head = c.args.head; links = c.args.links.now })) (next-half c.put.result) (record { was = done.was; now = done.now; others = done.others; len = done.len }))).others

pub returns-in-Trie-clause-len : goal.returns-in-Trie-clause-len
returns-in-Trie-clause-len c =
    let i = c.self.inside in
    let done = c.put.ensures in
    rw (← c.self.view_is) (puts-trie i.rows.slots i.tries.slots _ (2 * c.put.result + 1) (next-odd c.put.result) (record { owners = 1; head = c.args.head; links = c.args.links.now }) (subst (λ k. Puts i.tries.slots c.put.new.self.slots k (record { owners = 1; head = c.args.head; links = c.args.links.now })) (next-half c.put.result) (record { was = done.was; now = done.now; others = done.others; len = done.len }))).len

pub put-requires-in_default-clause-room : goal.put-requires-in_default-clause-room
put-requires-in_default-clause-room c =
    let inv = c.self.invariant in
    let spare = rw (← c.self.view_is) at c.requires.spare in
    omega (arith, inv.within, inv.both_kinds, inv.of_rows, inv.of_tries, spare)

pub invariant_of-self-in_default : goal.invariant_of-self-in_default
invariant_of-self-in_default c =
    let i = c.self.inside in
    let done = c.put-in_default.ensures in
    let spare = rw (← c.self.view_is) at c.requires.spare in
    AreNodes-rows i.rows _ i.tries _ _ _ _ _ c.self.invariant done.room (omega (arith, done.len)) (omega (arith, spare))

pub returns-in_default-clause-was : goal.returns-in_default-clause-was
returns-in_default-clause-was c =
    let i = c.self.inside in
    let done = c.put-in_default.ensures in
    rw (← c.self.view_is) (puts-row i.rows.slots _ i.tries.slots (2 * c.put-in_default.result) (twice-even c.put-in_default.result) (record { owners = 1; head = c.args.head; links = c.args.links.now }) (subst (λ k. Puts i.rows.slots c.put-in_default.new.self.slots k (record { owners = 1; head = c.args.head; links = c.args.links.now })) (twice-half c.put-in_default.result) (record { was = done.was; now = done.now; others = done.others; len = done.len }))).was

pub returns-in_default-clause-now : goal.returns-in_default-clause-now
returns-in_default-clause-now c =
    let i = c.self.inside in
    let done = c.put-in_default.ensures in
    (puts-row i.rows.slots _ i.tries.slots (2 * c.put-in_default.result) (twice-even c.put-in_default.result) (record { owners = 1; head = c.args.head; links = c.args.links.now }) (subst (λ k. Puts i.rows.slots c.put-in_default.new.self.slots k (record { owners = 1; head = c.args.head; links = c.args.links.now })) (twice-half c.put-in_default.result) (record { was = done.was; now = done.now; others = done.others; len = done.len }))).now

pub returns-in_default-clause-others : goal.returns-in_default-clause-others
returns-in_default-clause-others c =
    let i = c.self.inside in
    let done = c.put-in_default.ensures in
    rw (← c.self.view_is) (puts-row i.rows.slots _ i.tries.slots (2 * c.put-in_default.result) (twice-even c.put-in_default.result) (record { owners = 1; head = c.args.head; links = c.args.links.now }) (subst (λ k. Puts i.rows.slots c.put-in_default.new.self.slots k (record { owners = 1; head = c.args.head; links = c.args.links.now })) (twice-half c.put-in_default.result) (record { was = done.was; now = done.now; others = done.others; len = done.len }))).others

pub returns-in_default-clause-len : goal.returns-in_default-clause-len
returns-in_default-clause-len c =
    let i = c.self.inside in
    let done = c.put-in_default.ensures in
    rw (← c.self.view_is) (puts-row i.rows.slots _ i.tries.slots (2 * c.put-in_default.result) (twice-even c.put-in_default.result) (record { owners = 1; head = c.args.head; links = c.args.links.now }) (subst (λ k. Puts i.rows.slots c.put-in_default.new.self.slots k (record { owners = 1; head = c.args.head; links = c.args.links.now })) (twice-half c.put-in_default.result) (record { was = done.was; now = done.now; others = done.others; len = done.len }))).len
