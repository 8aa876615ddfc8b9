use Rattle.std.proofs.Common.{◌≡◌, ◌<◌, List, length, get_or, ap, subst, ◌∙◌}
use Rattle.node_heap.specs.Links.{count}
use Rattle.node_heap.specs.Pairs.{paired, no_pair, IsOf}
use Rattle.node_heap.specs.declared.pairs.Pair.{Pair}
use Rattle.node_heap.proofs.PairLemmas.{off-of}
use Rattle.node_heap.proofs.pairs.part_row.Goals as goal

pub returns-in-Some-clause-apart : goal.returns-in-Some-clause-apart
returns-in-Some-clause-apart g c =
    let inside = subst (λ (ps : List Pair). c.in-Some.index < length ps) c.as_slice.ensures.value c.in-Some.ensures.there in
    let found = subst (λ (ps : List Pair). IsOf c.args.place (get_or ps c.in-Some.index no_pair)) c.as_slice.ensures.value c.in-Some.ensures.found in
    ap (λ (ps : List Pair). count c.args.place (paired ps)) c.part.ensures.pairs ∙ off-of c.args.table.now.slots c.args.pairs.now.items c.in-Some.index c.args.place inside c.requires.sharing found

pub returns-in_default-clause-apart : goal.returns-in_default-clause-apart
returns-in_default-clause-apart g c = subst (λ (ps : List Pair). count c.args.place (paired ps) ≡ 0) c.as_slice.ensures.value c.in_default.ensures.none
