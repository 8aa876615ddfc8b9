use Rattle.std.proofs.Common.{◌≡◌, ℕ, ◌<◌, ◌-◌, List, ◌++◌, length, take, drop, ap, subst, arith}
use Rattle.node_heap.specs.Links.{count}
use Rattle.node_heap.specs.Heap.{links_at}
use Rattle.container_tests.proofs.TurnLemmas.{appended, part-behind, held-all}
use Rattle.container_tests.proofs.turns.Turns.hold_links_of.Goals as goal

all : (c : goal.After-hold_all-arg-2-1) → c.try_extend_from_slice.new.self.items ≡ c.args.self.now.held.items ++ links_at c.args.self.now.heap c.args.row
all c =
    appended c.try_extend_from_slice.result c.try_extend_from_slice.new.self.items c.args.self.now.held.items c.links.result.now (links_at c.args.self.now.heap c.args.row)
    (c.try_extend_from_slice.ensures.variant.1 (omega (arith, c.requires.room, ap length c.links.ensures.links))) c.try_extend_from_slice.ensures.ok c.links.ensures.links

part : (c : goal.After-hold_all-arg-2-1) → take (length c.as_slice.result.now - c.len-before.result) (drop c.len-before.result c.as_slice.result.now) ≡ links_at c.args.self.now.heap c.args.row
part c =
    part-behind c.try_extend_from_slice.new.self.items c.args.self.now.held.items (links_at c.args.self.now.heap c.args.row) c.as_slice.result.now c.len-before.result c.as_slice.ensures.value (all c) c.len-before.ensures.value

pub hold_all-requires-clause-live : goal.hold_all-requires-clause-live
hold_all-requires-clause-live c = λ l some. c.requires.held.graph.closed c.args.row l (subst (λ (ks : List ℕ). 0 < count l ks) (part c) some)

pub hold_all-requires-clause-few : goal.hold_all-requires-clause-few
hold_all-requires-clause-few c = omega (arith, c.requires.held.total, c.requires.room, ap length (part c))

pub returns : goal.returns
returns c =
    let same = part c.before in
    record { held = held-all (links_at c.args.self.now.heap c.args.row) c.hold_all.ensures.graph (λ k. omega (arith, c.hold_all.ensures.holds k, ap (count k) same)) (omega (arith, c.hold_all.ensures.count, ap length same)) (all c.before) c.requires.held }
