use Rattle.std.proofs.Common.{◌≡◌, ◌+◌, [], ◌∷◌, ap, arith}
use Rattle.node_heap.specs.Links.{count}
use Rattle.champ_chain.proofs.CallerLemmas.{held-one}
use Rattle.map_tests.proofs.tries.row_at_three.Goals as goal

pub put-requires-clause-free : goal.put-requires-clause-free
put-requires-clause-free c = c.empty-row.ensures.places 3

pub make-requires-clause-held : goal.make-requires-clause-held
make-requires-clause-held c = λ k.
    let links : count k c.put.new.self.links ≡ count k c.empty-row.result.links + count k (c.args.entry ∷ []) = c.put.ensures.links k in
    omega (arith, links, ap (count k) c.empty-row.ensures.none, held-one c.args.heap.now c.args.entry k c.requires.held)
