use Rattle.std.proofs.Common.{arith, ◌≡◌, ℕ, ◌+◌, ◌-◌, ◌≤◌, List, ◌++◌, length, take, drop, ap, length-append, length-drop}
use Rattle.std.proofs.lemmas.List.{length-take-le}
use Rattle.node_heap.specs.Links.{count}
use Rattle.node_heap.specs.Heap.{links_at}
use Rattle.node_heap.proofs.BuildLemmas.{count-append, Builds-made}
use Rattle.rrb_core.proofs.Lists.{written-behind}
use Rattle.rrb_core.proofs.LinkCounts.{count-part}
use Rattle.rrb_core.proofs.rows.write_part.Goals as goal

-- a part has so many links
part-size : (ls ks : List ℕ) (from to : ℕ) → ls ≡ ks → from ≤ to → to ≤ length ks → length (take (to - from) (drop from ls)) ≡ to - from
part-size ls ks from to same order within = rw same (length-take-le (to - from) (drop from ks) (omega (arith, length-drop from ks, order, within)))

-- what was written is that part of the row
written : (ks ls old new : List ℕ) (from to start stop : ℕ) → ls ≡ ks → take stop new ≡ take start old ++ take (to - from) (drop from ls) → stop ≡ start + length (take (to - from) (drop from ls)) → start ≤ length old → take (stop - start) (drop start new) ≡ take (to - from) (drop from ks)
written ks ls old new from to start stop same is at within = rw (← same) (written-behind old new (take (to - from) (drop from ls)) start stop is within at)

pub write_links-end-requires : goal.write_links-end-requires
write_links-end-requires g c = omega (arith, part-size c.links.result.now (links_at c.args.heap.now c.args.link) c.args.from c.args.to c.links.ensures.links c.requires.order c.requires.within, c.requires.room)

pub hold_all-requires-clause-live : goal.hold_all-requires-clause-live
hold_all-requires-clause-live g c = λ l some.
    let ks : List ℕ = links_at c.args.heap.now c.args.link in
    let same = written ks c.links.result.now c.args.room.now c.write_links-end.new.room c.args.from c.args.to c.args.count c.write_links-end.result c.links.ensures.links c.write_links-end.ensures.links c.write_links-end.ensures.many (omega (arith, c.requires.room)) in
    c.requires.graph.closed c.args.link l (omega (arith, some, ap (count l) same, count-part l c.args.from (c.args.to - c.args.from) ks))

pub hold_all-requires-clause-few : goal.hold_all-requires-clause-few
hold_all-requires-clause-few g c =
    let ks : List ℕ = links_at c.args.heap.now c.args.link in
    let same = written ks c.links.result.now c.args.room.now c.write_links-end.new.room c.args.from c.args.to c.args.count c.write_links-end.result c.links.ensures.links c.write_links-end.ensures.links c.write_links-end.ensures.many (omega (arith, c.requires.room)) in
    omega (arith, ap length same, ap length c.links.ensures.links, part-size c.links.result.now ks c.args.from c.args.to c.links.ensures.links c.requires.order c.requires.within, length-take-le (c.args.to - c.args.from) (drop c.args.from ks) (omega (arith, length-drop c.args.from ks, c.requires.order, c.requires.within)), c.requires.holds)

pub returns-clause-many : goal.returns-clause-many
returns-clause-many g c = omega (arith, c.write_links-end.ensures.many, part-size c.links.result.now (links_at c.args.heap.now c.args.link) c.args.from c.args.to c.links.ensures.links c.requires.order c.requires.within)

pub returns-clause-links : goal.returns-clause-links
returns-clause-links g c = rw (← c.links.ensures.links) c.write_links-end.ensures.links

pub returns-clause-builds : goal.returns-clause-builds
returns-clause-builds g c =
    let ks : List ℕ = links_at c.args.heap.now c.args.link in
    let part : List ℕ = take (c.args.to - c.args.from) (drop c.args.from ks) in
    let all : take c.write_links-end.result c.write_links-end.new.room ≡ take c.args.count c.args.room.now ++ part = rw (← c.links.ensures.links) c.write_links-end.ensures.links in
    let same = written ks c.links.result.now c.args.room.now c.write_links-end.new.room c.args.from c.args.to c.args.count c.write_links-end.result c.links.ensures.links c.write_links-end.ensures.links c.write_links-end.ensures.many (omega (arith, c.requires.room)) in
    Builds-made c.hold_all.ensures.extends c.hold_all.ensures.graph (λ k. omega (arith, c.hold_all.ensures.holds k, ap (count k) same, ap (count k) all, count-append k (take c.args.count c.args.room.now) part))
    (omega (arith, c.hold_all.ensures.count, ap length same, ap length all, length-append (take c.args.count c.args.room.now) part)) c.hold_all.ensures.makes
