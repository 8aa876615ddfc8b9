use Rattle.versions.specs.Sorted.{keys_of}
use Rattle.versions.specs.Keyed.{keys_at, IsKeySet}
use Rattle.versions.proofs.CallLemmas.{on-err}
use Rattle.versions.proofs.KeyedLemmas.{set-kind}
use Rattle.versions.proofs.MadeLemmas.{held-at, still-seen, adds-version}
use Rattle.versions.proofs.StoreLemmas.{room-stands, room-value}
use Rattle.versions.proofs.sets.Sets.copy.Goals as goal

pub root_of-root-requires : goal.root_of-root-requires
root_of-root-requires g c = held-at (keys_at g.K.Ord.cmp) c.self.inside.heap c.self.inside.roots.slots c.args.version c.args.self.now c.self.view_is c.requires

pub invariant_of-self : goal.invariant_of-self
invariant_of-self g c = room-stands (set-kind g.K.Ord.cmp g.met.K.Ord.total g.K.Element.code_of) c.self.invariant c.self.view_is c.reserve.ensures.keeps

pub returns-in_err-reserve-clause-refused : goal.returns-in_err-reserve-clause-refused
returns-in_err-reserve-clause-refused g c = on-err c.from_residual.result _ (still-seen (IsKeySet g.K.Ord.cmp g.K.Element.code_of) (keys_at g.K.Ord.cmp) (set-kind g.K.Ord.cmp g.met.K.Ord.total g.K.Element.code_of) c.self.invariant c.self.view_is c.reserve.ensures.keeps)

pub same_keys-root-requires-clause-set : goal.same_keys-root-requires-clause-set
same_keys-root-requires-clause-set g c = (keys_of c.args.self.now c.args.version, room-value (set-kind g.K.Ord.cmp g.met.K.Ord.total g.K.Element.code_of) c.self.invariant c.self.view_is c.reserve.ensures.keeps c.args.version c.root_of-root.result c.root_of-root.ensures)

pub invariant_of-self-2 : goal.invariant_of-self-2
invariant_of-self-2 g c =
    let kept = room-value (set-kind g.K.Ord.cmp g.met.K.Ord.total g.K.Element.code_of) c.self.invariant c.self.view_is c.reserve.ensures.keeps c.args.version c.root_of-root.result c.root_of-root.ensures in
    let added = adds-version (IsKeySet g.K.Ord.cmp g.K.Element.code_of) (keys_at g.K.Ord.cmp) (set-kind g.K.Ord.cmp g.met.K.Ord.total g.K.Element.code_of) c.self.invariant c.self.view_is c.reserve.ensures.keeps (c.same_keys-root.ensures.makes (keys_of c.args.self.now c.args.version) kept) c.keep.ensures in
    added.stands

pub returns-clause-fresh : goal.returns-clause-fresh
returns-clause-fresh g c =
    let kept = room-value (set-kind g.K.Ord.cmp g.met.K.Ord.total g.K.Element.code_of) c.self.invariant c.self.view_is c.reserve.ensures.keeps c.args.version c.root_of-root.result c.root_of-root.ensures in
    let added = adds-version (IsKeySet g.K.Ord.cmp g.K.Element.code_of) (keys_at g.K.Ord.cmp) (set-kind g.K.Ord.cmp g.met.K.Ord.total g.K.Element.code_of) c.self.invariant c.self.view_is c.reserve.ensures.keeps (c.same_keys-root.ensures.makes (keys_of c.args.self.now c.args.version) kept) c.keep.ensures in
    added.fresh

pub returns-clause-made : goal.returns-clause-made
returns-clause-made g c =
    let kept = room-value (set-kind g.K.Ord.cmp g.met.K.Ord.total g.K.Element.code_of) c.self.invariant c.self.view_is c.reserve.ensures.keeps c.args.version c.root_of-root.result c.root_of-root.ensures in
    let added = adds-version (IsKeySet g.K.Ord.cmp g.K.Element.code_of) (keys_at g.K.Ord.cmp) (set-kind g.K.Ord.cmp g.met.K.Ord.total g.K.Element.code_of) c.self.invariant c.self.view_is c.reserve.ensures.keeps (c.same_keys-root.ensures.makes (keys_of c.args.self.now c.args.version) kept) c.keep.ensures in
    added.made
