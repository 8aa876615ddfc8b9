use Rattle.std.proofs.Common.{sym, ◌∙◌}
use Rattle.versions.specs.Sorted.{keys_of}
use Rattle.versions.specs.Roots.{HasRoom}
use Rattle.versions.specs.Keyed.{keys_at, IsKeySet}
use Rattle.versions.proofs.CallLemmas.{on-ok}
use Rattle.versions.proofs.KeyedLemmas.{set-kind}
use Rattle.versions.proofs.MadeLemmas.{held-at, still-seen, adds-version}
use Rattle.versions.proofs.StoreLemmas.{refused-seen, refused-stands, room-stands, room-value}
use Rattle.versions.proofs.sets.Sets.insert.Goals as goal

pub root_of-root-requires : goal.root_of-root-requires
root_of-root-requires g c = held-at (keys_at g.K.Ord.cmp) c.self.inside.heap c.self.inside.roots.slots c.args.version c.args.self.now c.self.view_is c.requires

pub invariant_of-self : goal.invariant_of-self
invariant_of-self g c = room-stands (set-kind g.K.Ord.cmp g.met.K.Ord.total g.K.Element.code_of) c.self.invariant c.self.view_is c.reserve.ensures.keeps

pub returns-then-is_err-clause-refused : goal.returns-then-is_err-clause-refused
returns-then-is_err-clause-refused g c = still-seen (IsKeySet g.K.Ord.cmp g.K.Element.code_of) (keys_at g.K.Ord.cmp) (set-kind g.K.Ord.cmp g.met.K.Ord.total g.K.Element.code_of) c.self.invariant c.self.view_is c.reserve.ensures.keeps

pub with_key-requires-clause-set : goal.with_key-requires-clause-set
with_key-requires-clause-set g c = (keys_of c.args.self.now c.args.version, room-value (set-kind g.K.Ord.cmp g.met.K.Ord.total g.K.Element.code_of) c.self.invariant c.self.view_is c.reserve.ensures.keeps c.args.version c.root_of-root.result c.root_of-root.ensures)

pub with_key-requires-clause-few : goal.with_key-requires-clause-few
with_key-requires-clause-few g c = on-ok c.reserve.result _ (sym c.is_err.ensures.value ∙ c.if-is_err.false) c.reserve.ensures.few

pub keep-requires-clause-room : goal.keep-requires-clause-room
keep-requires-clause-room g c =
    let room : HasRoom c.reserve.new.heap c.reserve.new.roots 0 0 = on-ok c.reserve.result _ (sym c.is_err.ensures.value ∙ c.if-is_err.false) c.reserve.ensures.room in
    room.root

pub keep-requires-clause-few : goal.keep-requires-clause-few
keep-requires-clause-few g c =
    let room : HasRoom c.reserve.new.heap c.reserve.new.roots 0 0 = on-ok c.reserve.result _ (sym c.is_err.ensures.value ∙ c.if-is_err.false) c.reserve.ensures.room in
    room.number

pub invariant_of-self-in-Ok : goal.invariant_of-self-in-Ok
invariant_of-self-in-Ok g c =
    let kept = room-value (set-kind g.K.Ord.cmp g.met.K.Ord.total g.K.Element.code_of) c.self.invariant c.self.view_is c.reserve.ensures.keeps c.args.version c.root_of-root.result c.root_of-root.ensures in
    let added = adds-version (IsKeySet g.K.Ord.cmp g.K.Element.code_of) (keys_at g.K.Ord.cmp) (set-kind g.K.Ord.cmp g.met.K.Ord.total g.K.Element.code_of) c.self.invariant c.self.view_is c.reserve.ensures.keeps (c.in-Ok.ensures.made (keys_of c.args.self.now c.args.version) kept) c.keep.ensures in
    added.stands

pub returns-in-Ok-clause-fresh : goal.returns-in-Ok-clause-fresh
returns-in-Ok-clause-fresh g c =
    let kept = room-value (set-kind g.K.Ord.cmp g.met.K.Ord.total g.K.Element.code_of) c.self.invariant c.self.view_is c.reserve.ensures.keeps c.args.version c.root_of-root.result c.root_of-root.ensures in
    let added = adds-version (IsKeySet g.K.Ord.cmp g.K.Element.code_of) (keys_at g.K.Ord.cmp) (set-kind g.K.Ord.cmp g.met.K.Ord.total g.K.Element.code_of) c.self.invariant c.self.view_is c.reserve.ensures.keeps (c.in-Ok.ensures.made (keys_of c.args.self.now c.args.version) kept) c.keep.ensures in
    added.fresh

pub returns-in-Ok-clause-made : goal.returns-in-Ok-clause-made
returns-in-Ok-clause-made g c =
    let kept = room-value (set-kind g.K.Ord.cmp g.met.K.Ord.total g.K.Element.code_of) c.self.invariant c.self.view_is c.reserve.ensures.keeps c.args.version c.root_of-root.result c.root_of-root.ensures in
    let added = adds-version (IsKeySet g.K.Ord.cmp g.K.Element.code_of) (keys_at g.K.Ord.cmp) (set-kind g.K.Ord.cmp g.met.K.Ord.total g.K.Element.code_of) c.self.invariant c.self.view_is c.reserve.ensures.keeps (c.in-Ok.ensures.made (keys_of c.args.self.now c.args.version) kept) c.keep.ensures in
    added.made

pub invariant_of-self-in-Err : goal.invariant_of-self-in-Err
invariant_of-self-in-Err g c = refused-stands (set-kind g.K.Ord.cmp g.met.K.Ord.total g.K.Element.code_of) c.self.invariant c.self.view_is c.reserve.ensures.keeps c.in-Err.ensures.refused

pub returns-in-Err-clause-refused : goal.returns-in-Err-clause-refused
returns-in-Err-clause-refused g c = refused-seen (set-kind g.K.Ord.cmp g.met.K.Ord.total g.K.Element.code_of) c.self.invariant c.self.view_is c.reserve.ensures.keeps c.in-Err.ensures.refused
