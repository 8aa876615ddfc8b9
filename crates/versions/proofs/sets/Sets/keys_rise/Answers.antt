use Rattle.std.proofs.Common.{[]}
use Rattle.std.specs.List.Sorted.{IsStrictlySortedBy}
use Rattle.versions.specs.Keyed.{keys_at}
use Rattle.versions.proofs.SortLemmas.{sorted-rise}
use Rattle.versions.proofs.KeyedLemmas.{keys-at-rise}
use Rattle.versions.proofs.StoreLemmas.{each-version}
use Rattle.versions.proofs.sets.Sets.keys_rise.Goals as goal

pub returns : goal.returns
returns g c =
    let heap = c.self.inside.heap in
    let o = g.met.K.Ord.total in
    each-version (keys_at g.K.Ord.cmp) heap c.self.inside.roots.slots c.args.self.now c.self.view_is (IsStrictlySortedBy g.K.Ord.cmp) (sorted-rise g.K.Ord.cmp o []) (keys-at-rise g.K.Ord.cmp o g.K.Element.code_of heap)
