use Rattle.versions.specs.Bound.{map_at, IsKeyMap}
use Rattle.versions.proofs.CallLemmas.{on-err}
use Rattle.versions.proofs.BoundLemmas.{map-kind}
use Rattle.versions.proofs.MadeLemmas.{still-seen, adds-version}
use Rattle.versions.proofs.StoreLemmas.{room-stands}
use Rattle.versions.proofs.maps.Maps.empty.Goals as goal

pub invariant_of-self : goal.invariant_of-self
invariant_of-self g c = room-stands (map-kind g.K.Ord.cmp g.V.Ord.cmp g.met.K.Ord.total g.met.V.Ord.total g.K.Element.code_of) c.self.invariant c.self.view_is c.reserve.ensures.keeps

pub returns-in_err-reserve-clause-refused : goal.returns-in_err-reserve-clause-refused
returns-in_err-reserve-clause-refused g c = on-err c.from_residual.result _ (still-seen (IsKeyMap g.K.Ord.cmp g.V.Ord.cmp g.K.Element.code_of) (map_at g.K.Ord.cmp) (map-kind g.K.Ord.cmp g.V.Ord.cmp g.met.K.Ord.total g.met.V.Ord.total g.K.Element.code_of) c.self.invariant c.self.view_is c.reserve.ensures.keeps)

pub invariant_of-self-2 : goal.invariant_of-self-2
invariant_of-self-2 g c =
    let added = adds-version (IsKeyMap g.K.Ord.cmp g.V.Ord.cmp g.K.Element.code_of) (map_at g.K.Ord.cmp) (map-kind g.K.Ord.cmp g.V.Ord.cmp g.met.K.Ord.total g.met.V.Ord.total g.K.Element.code_of) c.self.invariant c.self.view_is c.reserve.ensures.keeps (c.no_entries-root.ensures) c.keep.ensures in
    added.stands

pub returns-clause-fresh : goal.returns-clause-fresh
returns-clause-fresh g c =
    let added = adds-version (IsKeyMap g.K.Ord.cmp g.V.Ord.cmp g.K.Element.code_of) (map_at g.K.Ord.cmp) (map-kind g.K.Ord.cmp g.V.Ord.cmp g.met.K.Ord.total g.met.V.Ord.total g.K.Element.code_of) c.self.invariant c.self.view_is c.reserve.ensures.keeps (c.no_entries-root.ensures) c.keep.ensures in
    added.fresh

pub returns-clause-made : goal.returns-clause-made
returns-clause-made g c =
    let added = adds-version (IsKeyMap g.K.Ord.cmp g.V.Ord.cmp g.K.Element.code_of) (map_at g.K.Ord.cmp) (map-kind g.K.Ord.cmp g.V.Ord.cmp g.met.K.Ord.total g.met.V.Ord.total g.K.Element.code_of) c.self.invariant c.self.view_is c.reserve.ensures.keeps (c.no_entries-root.ensures) c.keep.ensures in
    added.made
