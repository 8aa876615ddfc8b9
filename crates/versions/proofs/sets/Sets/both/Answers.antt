use Rattle.versions.specs.Sorted.{keys_of}
use Rattle.versions.specs.Keyed.{keys_at, IsKeySet}
use Rattle.versions.proofs.CallLemmas.{on-err}
use Rattle.versions.proofs.KeyedLemmas.{set-kind}
use Rattle.versions.proofs.MadeLemmas.{held-at, still-seen}
use Rattle.versions.proofs.StoreLemmas.{merged-version, refused-seen, refused-stands, room-stands, room-value}
use Rattle.versions.proofs.sets.Sets.both.Goals as goal

pub root_of-first-requires : goal.root_of-first-requires
root_of-first-requires g c = held-at (keys_at g.K.Ord.cmp) c.self.inside.heap c.self.inside.roots.slots c.args.first c.args.self.now c.self.view_is c.requires.first

pub root_of-second-requires : goal.root_of-second-requires
root_of-second-requires g c = held-at (keys_at g.K.Ord.cmp) c.self.inside.heap c.self.inside.roots.slots c.args.second c.args.self.now c.self.view_is c.requires.second

pub invariant_of-self : goal.invariant_of-self
invariant_of-self g c = room-stands (set-kind g.K.Ord.cmp g.met.K.Ord.total g.K.Element.code_of) c.self.invariant c.self.view_is c.reserve.ensures.keeps

pub returns-in_err-reserve-clause-refused : goal.returns-in_err-reserve-clause-refused
returns-in_err-reserve-clause-refused g c = on-err _ _ (still-seen (IsKeySet g.K.Ord.cmp g.K.Element.code_of) (keys_at g.K.Ord.cmp) (set-kind g.K.Ord.cmp g.met.K.Ord.total g.K.Element.code_of) c.self.invariant c.self.view_is c.reserve.ensures.keeps)

pub keys_of_both-requires-clause-first : goal.keys_of_both-requires-clause-first
keys_of_both-requires-clause-first g c = (keys_of c.args.self.now c.args.first, room-value (set-kind g.K.Ord.cmp g.met.K.Ord.total g.K.Element.code_of) c.self.invariant c.self.view_is c.reserve.ensures.keeps c.args.first c.root_of-first.result c.root_of-first.ensures)

pub keys_of_both-requires-clause-second : goal.keys_of_both-requires-clause-second
keys_of_both-requires-clause-second g c = (keys_of c.args.self.now c.args.second, room-value (set-kind g.K.Ord.cmp g.met.K.Ord.total g.K.Element.code_of) c.self.invariant c.self.view_is c.reserve.ensures.keeps c.args.second c.root_of-second.result c.root_of-second.ensures)

pub invariant_of-self-in_err-root : goal.invariant_of-self-in_err-root
invariant_of-self-in_err-root g c = refused-stands (set-kind g.K.Ord.cmp g.met.K.Ord.total g.K.Element.code_of) c.self.invariant c.self.view_is c.reserve.ensures.keeps c.in_err-root.ensures.refused

pub returns-in_err-root-clause-refused : goal.returns-in_err-root-clause-refused
returns-in_err-root-clause-refused g c = on-err _ _ (refused-seen (set-kind g.K.Ord.cmp g.met.K.Ord.total g.K.Element.code_of) c.self.invariant c.self.view_is c.reserve.ensures.keeps c.in_err-root.ensures.refused)

pub invariant_of-self-2 : goal.invariant_of-self-2
invariant_of-self-2 g c =
    (merged-version (set-kind g.K.Ord.cmp g.met.K.Ord.total g.K.Element.code_of) c.self.invariant c.self.view_is c.reserve.ensures.keeps c.args.first c.args.second c.root_of-first.ensures c.root_of-second.ensures c.in_ok-root.ensures.made c.keep.ensures).stands

pub returns-clause-fresh : goal.returns-clause-fresh
returns-clause-fresh g c =
    (merged-version (set-kind g.K.Ord.cmp g.met.K.Ord.total g.K.Element.code_of) c.self.invariant c.self.view_is c.reserve.ensures.keeps c.args.first c.args.second c.root_of-first.ensures c.root_of-second.ensures c.in_ok-root.ensures.made c.keep.ensures).fresh

pub returns-clause-made : goal.returns-clause-made
returns-clause-made g c =
    (merged-version (set-kind g.K.Ord.cmp g.met.K.Ord.total g.K.Element.code_of) c.self.invariant c.self.view_is c.reserve.ensures.keeps c.args.first c.args.second c.root_of-first.ensures c.root_of-second.ensures c.in_ok-root.ensures.made c.keep.ensures).made
