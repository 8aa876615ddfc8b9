use Rattle.versions.specs.Sorted.{entries_of}
use Rattle.versions.specs.Bound.{map_at, IsKeyMap}
use Rattle.versions.proofs.CallLemmas.{on-err}
use Rattle.versions.proofs.BoundLemmas.{map-kind}
use Rattle.versions.proofs.MadeLemmas.{held-at, still-seen}
use Rattle.versions.proofs.StoreLemmas.{merged-version, refused-seen, refused-stands, room-stands, room-value}
use Rattle.versions.proofs.maps.Maps.less.Goals as goal

pub root_of-first-requires : goal.root_of-first-requires
root_of-first-requires g c = held-at (map_at g.K.Ord.cmp) c.self.inside.heap c.self.inside.roots.slots c.args.first c.args.self.now c.self.view_is c.requires.first

pub root_of-second-requires : goal.root_of-second-requires
root_of-second-requires g c = held-at (map_at g.K.Ord.cmp) c.self.inside.heap c.self.inside.roots.slots c.args.second c.args.self.now c.self.view_is c.requires.second

pub invariant_of-self : goal.invariant_of-self
invariant_of-self g c = room-stands (map-kind g.K.Ord.cmp g.V.Ord.cmp g.met.K.Ord.total g.met.V.Ord.total g.K.Element.code_of) c.self.invariant c.self.view_is c.reserve.ensures.keeps

pub returns-in_err-reserve-clause-refused : goal.returns-in_err-reserve-clause-refused
returns-in_err-reserve-clause-refused g c = on-err _ _ (still-seen (IsKeyMap g.K.Ord.cmp g.V.Ord.cmp g.K.Element.code_of) (map_at g.K.Ord.cmp) (map-kind g.K.Ord.cmp g.V.Ord.cmp g.met.K.Ord.total g.met.V.Ord.total g.K.Element.code_of) c.self.invariant c.self.view_is c.reserve.ensures.keeps)

pub entries_of_first-requires-clause-first : goal.entries_of_first-requires-clause-first
entries_of_first-requires-clause-first g c = (entries_of c.args.self.now c.args.first, room-value (map-kind g.K.Ord.cmp g.V.Ord.cmp g.met.K.Ord.total g.met.V.Ord.total g.K.Element.code_of) c.self.invariant c.self.view_is c.reserve.ensures.keeps c.args.first c.root_of-first.result c.root_of-first.ensures)

pub entries_of_first-requires-clause-second : goal.entries_of_first-requires-clause-second
entries_of_first-requires-clause-second g c = (entries_of c.args.self.now c.args.second, room-value (map-kind g.K.Ord.cmp g.V.Ord.cmp g.met.K.Ord.total g.met.V.Ord.total g.K.Element.code_of) c.self.invariant c.self.view_is c.reserve.ensures.keeps c.args.second c.root_of-second.result c.root_of-second.ensures)

pub invariant_of-self-in_err-root : goal.invariant_of-self-in_err-root
invariant_of-self-in_err-root g c = refused-stands (map-kind g.K.Ord.cmp g.V.Ord.cmp g.met.K.Ord.total g.met.V.Ord.total g.K.Element.code_of) c.self.invariant c.self.view_is c.reserve.ensures.keeps c.in_err-root.ensures.refused

pub returns-in_err-root-clause-refused : goal.returns-in_err-root-clause-refused
returns-in_err-root-clause-refused g c = on-err _ _ (refused-seen (map-kind g.K.Ord.cmp g.V.Ord.cmp g.met.K.Ord.total g.met.V.Ord.total g.K.Element.code_of) c.self.invariant c.self.view_is c.reserve.ensures.keeps c.in_err-root.ensures.refused)

pub invariant_of-self-2 : goal.invariant_of-self-2
invariant_of-self-2 g c =
    (merged-version (map-kind g.K.Ord.cmp g.V.Ord.cmp g.met.K.Ord.total g.met.V.Ord.total g.K.Element.code_of) c.self.invariant c.self.view_is c.reserve.ensures.keeps c.args.first c.args.second c.root_of-first.ensures c.root_of-second.ensures c.in_ok-root.ensures.made c.keep.ensures).stands

pub returns-clause-fresh : goal.returns-clause-fresh
returns-clause-fresh g c =
    (merged-version (map-kind g.K.Ord.cmp g.V.Ord.cmp g.met.K.Ord.total g.met.V.Ord.total g.K.Element.code_of) c.self.invariant c.self.view_is c.reserve.ensures.keeps c.args.first c.args.second c.root_of-first.ensures c.root_of-second.ensures c.in_ok-root.ensures.made c.keep.ensures).fresh

pub returns-clause-made : goal.returns-clause-made
returns-clause-made g c =
    (merged-version (map-kind g.K.Ord.cmp g.V.Ord.cmp g.met.K.Ord.total g.met.V.Ord.total g.K.Element.code_of) c.self.invariant c.self.view_is c.reserve.ensures.keeps c.args.first c.args.second c.root_of-first.ensures c.root_of-second.ensures c.in_ok-root.ensures.made c.keep.ensures).made
