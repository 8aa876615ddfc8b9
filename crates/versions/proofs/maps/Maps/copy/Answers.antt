use Rattle.versions.specs.Sorted.{entries_of}
use Rattle.versions.specs.Bound.{map_at, IsKeyMap}
use Rattle.versions.proofs.CallLemmas.{on-err}
use Rattle.versions.proofs.BoundLemmas.{map-kind}
use Rattle.versions.proofs.MadeLemmas.{held-at, still-seen, adds-version}
use Rattle.versions.proofs.StoreLemmas.{room-stands, room-value}
use Rattle.versions.proofs.maps.Maps.copy.Goals as goal

pub root_of-root-requires : goal.root_of-root-requires
root_of-root-requires g c = held-at (map_at g.K.Ord.cmp) c.self.inside.heap c.self.inside.roots.slots c.args.version c.args.self.now c.self.view_is c.requires

pub invariant_of-self : goal.invariant_of-self
invariant_of-self g c = room-stands (map-kind g.K.Ord.cmp g.V.Ord.cmp g.met.K.Ord.total g.met.V.Ord.total g.K.Element.code_of) c.self.invariant c.self.view_is c.reserve.ensures.keeps

pub returns-in_err-reserve-clause-refused : goal.returns-in_err-reserve-clause-refused
returns-in_err-reserve-clause-refused g c = on-err c.from_residual.result _ (still-seen (IsKeyMap g.K.Ord.cmp g.V.Ord.cmp g.K.Element.code_of) (map_at g.K.Ord.cmp) (map-kind g.K.Ord.cmp g.V.Ord.cmp g.met.K.Ord.total g.met.V.Ord.total g.K.Element.code_of) c.self.invariant c.self.view_is c.reserve.ensures.keeps)

pub same_entries-root-requires-clause-map : goal.same_entries-root-requires-clause-map
same_entries-root-requires-clause-map g c = (entries_of c.args.self.now c.args.version, room-value (map-kind g.K.Ord.cmp g.V.Ord.cmp g.met.K.Ord.total g.met.V.Ord.total g.K.Element.code_of) c.self.invariant c.self.view_is c.reserve.ensures.keeps c.args.version c.root_of-root.result c.root_of-root.ensures)

pub invariant_of-self-2 : goal.invariant_of-self-2
invariant_of-self-2 g c =
    let kept = room-value (map-kind g.K.Ord.cmp g.V.Ord.cmp g.met.K.Ord.total g.met.V.Ord.total g.K.Element.code_of) c.self.invariant c.self.view_is c.reserve.ensures.keeps c.args.version c.root_of-root.result c.root_of-root.ensures in
    let added = adds-version (IsKeyMap g.K.Ord.cmp g.V.Ord.cmp g.K.Element.code_of) (map_at g.K.Ord.cmp) (map-kind g.K.Ord.cmp g.V.Ord.cmp g.met.K.Ord.total g.met.V.Ord.total g.K.Element.code_of) c.self.invariant c.self.view_is c.reserve.ensures.keeps (c.same_entries-root.ensures.makes (entries_of c.args.self.now c.args.version) kept) c.keep.ensures in
    added.stands

pub returns-clause-fresh : goal.returns-clause-fresh
returns-clause-fresh g c =
    let kept = room-value (map-kind g.K.Ord.cmp g.V.Ord.cmp g.met.K.Ord.total g.met.V.Ord.total g.K.Element.code_of) c.self.invariant c.self.view_is c.reserve.ensures.keeps c.args.version c.root_of-root.result c.root_of-root.ensures in
    let added = adds-version (IsKeyMap g.K.Ord.cmp g.V.Ord.cmp g.K.Element.code_of) (map_at g.K.Ord.cmp) (map-kind g.K.Ord.cmp g.V.Ord.cmp g.met.K.Ord.total g.met.V.Ord.total g.K.Element.code_of) c.self.invariant c.self.view_is c.reserve.ensures.keeps (c.same_entries-root.ensures.makes (entries_of c.args.self.now c.args.version) kept) c.keep.ensures in
    added.fresh

pub returns-clause-made : goal.returns-clause-made
returns-clause-made g c =
    let kept = room-value (map-kind g.K.Ord.cmp g.V.Ord.cmp g.met.K.Ord.total g.met.V.Ord.total g.K.Element.code_of) c.self.invariant c.self.view_is c.reserve.ensures.keeps c.args.version c.root_of-root.result c.root_of-root.ensures in
    let added = adds-version (IsKeyMap g.K.Ord.cmp g.V.Ord.cmp g.K.Element.code_of) (map_at g.K.Ord.cmp) (map-kind g.K.Ord.cmp g.V.Ord.cmp g.met.K.Ord.total g.met.V.Ord.total g.K.Element.code_of) c.self.invariant c.self.view_is c.reserve.ensures.keeps (c.same_entries-root.ensures.makes (entries_of c.args.self.now c.args.version) kept) c.keep.ensures in
    added.made
