use Rattle.versions.specs.Keyed.{by_root}
use Rattle.champ_kinds.proofs.StayLemmas.{set-seen}
use Rattle.versions.proofs.KeyedLemmas.{set-read, set-some}
use Rattle.versions.proofs.keys.Keys.new.Goals as goal

pub members-requires : goal.members-requires
members-requires g c = (c.requires.1.entries, set-seen {r = by_root c.args.root} c.at.ensures c.requires.1.set)

pub invariant_of-result : goal.invariant_of-result
invariant_of-result g c =
    let is = c.requires.1 in
    set-some g.K.Ord.cmp g.met.K.Ord.total g.K.Element.code_of c.args.heap.now c.args.root c.requires.0 is c.members.result (c.members.ensures.cells is.entries (set-seen {r = by_root c.args.root} c.at.ensures is.set))

pub returns : goal.returns
returns g c = λ ks is.
    set-read g.K.Ord.cmp g.met.K.Ord.total g.K.Element.code_of c.args.heap.now c.args.root ks is c.members.result (c.members.ensures.cells is.entries (set-seen {r = by_root c.args.root} c.at.ensures is.set))
