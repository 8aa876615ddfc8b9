use Rattle.std.proofs.Common.{arith, ◌≡◌, ◌-◌, ℕ, List, [], ◌∷◌, length, take, refl, ap}
use Rattle.std.proofs.lemmas.List.{length-take-le}
use Rattle.node_heap.specs.Heap.{links_at}
use Rattle.node_heap.specs.Calls.{Builds}
use Rattle.node_heap.proofs.BuildLemmas.{Builds-then}
use Rattle.rrb_core.proofs.Lists.{gathered-items}
use Rattle.rrb_core.proofs.Stays.{live-stays, links-stay}
use Rattle.rrb_core.proofs.BuildLemmas.{builds-before}
use Rattle.rrb_core.proofs.rows.write_links_with.Goals as goal

pub write_part-requires-clause-within : goal.write_part-requires-clause-within
write_part-requires-clause-within g c =
    rw (links-stay (live-stays c.requires.graph c.write_part-front.ensures.builds.extends) c.args.link c.requires.live) (omega (arith, ap length c.links-stop.ensures.links))

pub write_part-requires-clause-holds : goal.write_part-requires-clause-holds
write_part-requires-clause-holds g c =
    let ks : List ℕ = links_at c.args.heap.now c.args.link in
    let all : c.args.keep - 0 ≡ c.args.keep = omega arith in
    let front : take c.write_part-front.result c.write_part-front.new.room ≡ take c.args.keep ks = rw all at c.write_part-front.ensures.links in
    omega (arith, c.write_part-front.ensures.builds.total, ap length front, length-take-le c.args.keep ks c.requires.keep, c.requires.few, c.requires.holds, ap length c.links-stop.ensures.links)

pub returns-clause-links : goal.returns-clause-links
returns-clause-links g c =
    let ks : List ℕ = links_at c.args.heap.now c.args.link in
    let same = links-stay (live-stays c.requires.graph c.write_part-front.ensures.builds.extends) c.args.link c.requires.live in
    gathered-items ks ks (links_at c.write_part-front.new.heap c.args.link) [] (take c.write_part-front.result c.write_part-front.new.room) (take c.write_links-middle_end.result c.write_links-middle_end.new.room) (take c.write_part.result c.write_part.new.room) (c.args.middle ∷ []) c.args.keep c.args.skip (length c.links-stop.result.now)
    refl c.write_part-front.ensures.links c.write_links-middle_end.ensures.links c.write_part.ensures.links same (ap length c.links-stop.ensures.links)

pub returns-clause-builds : goal.returns-clause-builds
returns-clause-builds g c =
    let first : Builds c.args.heap.now c.write_part-front.new.heap [] (take c.write_part-front.result c.write_part-front.new.room) 0 0 = c.write_part-front.ensures.builds in
    Builds-then (builds-before (c.args.middle ∷ []) first) (rw c.write_links-middle_end.ensures.links at c.write_part.ensures.builds)
