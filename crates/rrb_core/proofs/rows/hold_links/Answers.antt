use Rattle.std.proofs.Common.{arith, ◌≡◌, ℕ, ◌-◌, List, ◌++◌, length, take, drop, ap, ◌∙◌, length-append}
use Rattle.std.proofs.lemmas.List.{length-take, take_rest}
use Rattle.std.proofs.Math.Seq.{drop-append_seam}
use Rattle.node_heap.specs.Links.{count}
use Rattle.node_heap.specs.Heap.{links_at}
use Rattle.node_heap.proofs.BuildLemmas.{count-append, Builds-made}
use Rattle.rrb_core.proofs.BuildLemmas.{on-ok}
use Rattle.rrb_core.proofs.LinkCounts.{count-part}
use Rattle.rrb_core.proofs.rows.hold_links.Given.{Over}
use Rattle.rrb_core.proofs.rows.hold_links.Goals as goal

-- what was appended, as the part behind the old length
behind : (items old part ls : List ℕ) (start : ℕ) → ls ≡ items → items ≡ old ++ part → start ≡ length old → take (length ls - start) (drop start ls) ≡ part
behind items old part ls start same all at = take_rest ls start ∙ rw (same, all, at) (drop-append_seam old part)

appended : (g : Over) (c : goal.After-hold_all-arg-2-1 g) → c.try_extend_from_slice.new.self.items ≡ c.args.all.now.items ++ take (c.args.to - c.args.from) (drop c.args.from (links_at c.args.heap.now c.args.link))
appended g c =
    rw (← c.links.ensures.links) (on-ok c.try_extend_from_slice.result (c.try_extend_from_slice.ensures.variant.1 (omega (arith, c.requires.room, length-take (c.args.to - c.args.from) (drop c.args.from c.links.result.now)))) c.try_extend_from_slice.ensures.ok)

held : (g : Over) (c : goal.After-hold_all-arg-2-1 g) → take (length c.as_slice.result.now - c.len-before.result) (drop c.len-before.result c.as_slice.result.now) ≡ take (c.args.to - c.args.from) (drop c.args.from (links_at c.args.heap.now c.args.link))
held g c =
    behind c.try_extend_from_slice.new.self.items c.args.all.now.items (take (c.args.to - c.args.from) (drop c.args.from (links_at c.args.heap.now c.args.link))) c.as_slice.result.now c.len-before.result c.as_slice.ensures.value (appended g c) c.len-before.ensures.value

pub hold_all-requires-clause-live : goal.hold_all-requires-clause-live
hold_all-requires-clause-live g c = λ l some.
    c.requires.graph.closed c.args.link l (omega (arith, some, ap (count l) (held g c), count-part l c.args.from (c.args.to - c.args.from) (links_at c.args.heap.now c.args.link)))

pub returns-clause-builds : goal.returns-clause-builds
returns-clause-builds g c =
    let part : List ℕ = take (c.args.to - c.args.from) (drop c.args.from (links_at c.args.heap.now c.args.link)) in
    let all = appended g c.before in
    let same = held g c.before in
    Builds-made c.hold_all.ensures.extends c.hold_all.ensures.graph (λ k. omega (arith, c.hold_all.ensures.holds k, ap (count k) same, ap (count k) all, count-append k c.args.all.now.items part))
    (omega (arith, c.hold_all.ensures.count, ap length same, ap length all, length-append c.args.all.now.items part)) c.hold_all.ensures.makes
