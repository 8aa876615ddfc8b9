use Rattle.std.proofs.Common.{length, ap, sym, ◌∙◌}
use Rattle.champ_kinds.proofs.StayLemmas.{set-seen}
use Rattle.versions.specs.Keyed.{by_root}
use Rattle.versions.proofs.CallLemmas.{no-elements}
use Rattle.versions.proofs.KeyedLemmas.{set-count, none-first}
use Rattle.versions.proofs.keyed.has_no_key.Goals as goal

pub returns : goal.returns
returns g c = λ ks is.
    let number = c.members-members.ensures.number is.entries (set-seen {r = by_root c.args.root} c.at.ensures is.set) ∙ set-count g.K.Ord.cmp g.met.K.Ord.total g.K.Element.code_of c.args.heap.now c.args.root ks is in
    let first = none-first c.members-members.result c.next.new.self c.next.result c.is_none.result c.next.ensures.steps c.is_none.ensures in
    (λ none. no-elements ks (sym number ∙ ap length (first.0 none)), λ none. first.1 (no-elements c.members-members.result (number ∙ ap length none)))
