use Rattle.versions.specs.Keyed.{keys_at, IsKeySet}
use Rattle.versions.proofs.CallLemmas.{on-err}
use Rattle.versions.proofs.KeyedLemmas.{set-kind}
use Rattle.versions.proofs.MadeLemmas.{still-seen, adds-version}
use Rattle.versions.proofs.StoreLemmas.{room-stands}
use Rattle.versions.proofs.sets.Sets.empty.Goals as goal

pub invariant_of-self : goal.invariant_of-self
invariant_of-self g c = room-stands (set-kind g.K.Ord.cmp g.met.K.Ord.total g.K.Element.code_of) c.self.invariant c.self.view_is c.reserve.ensures.keeps

pub returns-in_err-reserve-clause-refused : goal.returns-in_err-reserve-clause-refused
returns-in_err-reserve-clause-refused g c = on-err c.from_residual.result _ (still-seen (IsKeySet g.K.Ord.cmp g.K.Element.code_of) (keys_at g.K.Ord.cmp) (set-kind g.K.Ord.cmp g.met.K.Ord.total g.K.Element.code_of) c.self.invariant c.self.view_is c.reserve.ensures.keeps)

pub invariant_of-self-2 : goal.invariant_of-self-2
invariant_of-self-2 g c =
    let added = adds-version (IsKeySet g.K.Ord.cmp g.K.Element.code_of) (keys_at g.K.Ord.cmp) (set-kind g.K.Ord.cmp g.met.K.Ord.total g.K.Element.code_of) c.self.invariant c.self.view_is c.reserve.ensures.keeps (c.no_keys-root.ensures) c.keep.ensures in
    added.stands

pub returns-clause-fresh : goal.returns-clause-fresh
returns-clause-fresh g c =
    let added = adds-version (IsKeySet g.K.Ord.cmp g.K.Element.code_of) (keys_at g.K.Ord.cmp) (set-kind g.K.Ord.cmp g.met.K.Ord.total g.K.Element.code_of) c.self.invariant c.self.view_is c.reserve.ensures.keeps (c.no_keys-root.ensures) c.keep.ensures in
    added.fresh

pub returns-clause-made : goal.returns-clause-made
returns-clause-made g c =
    let added = adds-version (IsKeySet g.K.Ord.cmp g.K.Element.code_of) (keys_at g.K.Ord.cmp) (set-kind g.K.Ord.cmp g.met.K.Ord.total g.K.Element.code_of) c.self.invariant c.self.view_is c.reserve.ensures.keeps (c.no_keys-root.ensures) c.keep.ensures in
    added.made
