use Rattle.std.proofs.Common.{arith, ◌∷◌, [], refl}
use Rattle.champ_chain.proofs.CopyLemmas.{two-rows}
use Rattle.node_heap.proofs.BuildLemmas.{Builds-both, count-cons}
use Rattle.std.proofs.Common.{◌∙◌}
use Rattle.champ_chain.proofs.CopyLemmas.{key-live}
use Rattle.champ_chain.proofs.OldLemmas.{old-owners, two-reach}
use Rattle.champ_chain.proofs.rows.in_order.Goals as goal

pub row_over-last-requires-clause-held : goal.row_over-last-requires-clause-held
row_over-last-requires-clause-held g c = λ l. omega (arith, c.requires.held l, count-cons l c.args.first (c.args.second ∷ []))

pub row_over-requires-clause-held : goal.row_over-requires-clause-held
row_over-requires-clause-held g c = λ l.
    omega (arith, c.requires.held l, c.row_over-last.ensures.builds.holds l, count-cons l c.args.first (c.args.second ∷ []), count-cons l c.args.first (c.row_over-last.result ∷ []))

pub returns-clause-builds : goal.returns-clause-builds
returns-clause-builds g c =
    Builds-both (c.args.first ∷ c.args.second ∷ []) (c.row_over.result ∷ []) c.row_over-last.ensures.builds c.row_over.ensures.builds
    (λ k. omega (arith, count-cons k c.args.first (c.args.second ∷ []), count-cons k c.args.first (c.row_over-last.result ∷ []))) refl

pub returns-clause-rows : goal.returns-clause-rows
returns-clause-rows g c = λ j k first second.
    two-rows c.args.heap.now c.row_over-last.new.heap c.row_over.new.heap c.args.first c.args.second c.row_over-last.result c.row_over.result j k
    c.row_over-last.ensures.builds.extends c.row_over.ensures.builds.extends first second c.row_over-last.ensures.row c.row_over.ensures.row

pub returns-clause-owners : goal.returns-clause-owners
returns-clause-owners g c = λ k live.
    old-owners c.row_over-last.new.heap c.row_over.new.heap c.row_over.result c.row_over.ensures.owners c.row_over.ensures.fresh k (c.row_over-last.ensures.builds.extends.live k live)
    ∙ old-owners c.args.heap.now c.row_over-last.new.heap c.row_over-last.result c.row_over-last.ensures.owners c.row_over-last.ensures.fresh k live

pub returns-clause-below : goal.returns-clause-below
returns-clause-below g c = λ j k first second.
    two-reach c.args.heap.now c.row_over-last.new.heap c.row_over.new.heap c.args.first c.args.second c.row_over-last.result c.row_over.result
    c.row_over-last.ensures.builds.extends c.row_over.ensures.builds.extends c.row_over-last.ensures.fresh c.row_over.ensures.fresh c.row_over-last.ensures.row c.row_over.ensures.row
    (key-live c.args.heap.now c.args.first j first) (key-live c.args.heap.now c.args.second k second)
