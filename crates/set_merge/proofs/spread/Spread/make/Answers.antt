use Rattle.std.proofs.Common.{◌∷◌, [], ◌++◌, ap, arith, length, length-append}
use Rattle.node_heap.specs.Links.{count}
use Rattle.node_heap.proofs.BuildLemmas.{Builds-made, Builds-both, count-append}
use Rattle.set_merge.proofs.CountLemmas.{same-counts-length}
use Rattle.set_merge.proofs.spread.Spread.make.Goals as goal

pub make-requires-clause-held : goal.make-requires-clause-held
make-requires-clause-held g c = λ k. omega (arith, c.requires.held k, c.hold_all.ensures.holds k, ap (count k) c.as_slice.ensures.value)

pub returns-clause-builds : goal.returns-clause-builds
returns-clause-builds g c = λ news counted.
    let stood = c.args.self.now.stood in
    let links = c.args.self.now.row.links in
    let held = Builds-made {spent = []} {gained = stood} c.hold_all.ensures.extends c.hold_all.ensures.graph
    (λ k. omega (arith, c.hold_all.ensures.holds k, ap (count k) c.as_slice.ensures.value)) (omega (arith, c.hold_all.ensures.count, ap length c.as_slice.ensures.value)) c.hold_all.ensures.makes in
    let long = same-counts-length (stood ++ news) links (λ k. omega (arith, count-append k stood news, counted k)) in
    Builds-both news (c.make.result ∷ []) held c.make.ensures.builds (λ k. omega (arith, counted k)) (omega (arith, long, length-append stood news))
