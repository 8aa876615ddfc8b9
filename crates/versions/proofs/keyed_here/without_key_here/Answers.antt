use Rattle.std.proofs.Common.{Ok, ap, ◌∙◌, arith}
use Rattle.node_heap.specs.Heap.{holds_at}
use Rattle.champ_kinds.specs.Root.{Root}
use Rattle.champ_kinds.proofs.StayLemmas.{set-seen}
use Rattle.versions.proofs.KeyHereLemmas.{few-cut, key-cut}
use Rattle.versions.proofs.keyed_here.without_key_here.Goals as goal

pub remove-requires-clause-held : goal.remove-requires-clause-held
remove-requires-clause-held g c = omega (arith, c.requires.held, ap (λ (r : Root). holds_at c.args.heap.now r.root) (c.open-edit.ensures ∙ c.from_root.ensures))

pub remove-requires-clause-contents : goal.remove-requires-clause-contents
remove-requires-clause-contents g c = let is = c.requires.set.1 in (is.entries, set-seen (c.open-edit.ensures ∙ c.from_root.ensures) is.set)

pub returns-in-Ok-clause-edits : goal.returns-in-Ok-clause-edits
returns-in-Ok-clause-edits g c = λ ks is.
    let at = c.open-edit.ensures ∙ c.from_root.ensures in
    let here = set-seen at is.set in
    rw c.into_root.ensures (rw c.freeze.ensures
    (key-cut g.met.K.Ord.total g.K.Element.code_of (g.P.Probe.stands_for c.args.key.now) c.requires.held is at c.in-Ok.field-0 (λ yes. c.remove.ensures.cuts is.entries here (c.in-Ok.is ∙ ap Ok yes)) (λ no. (c.remove.ensures.absent is.entries here).0 (c.in-Ok.is ∙ ap Ok no)) (λ no. c.remove.ensures.nothing (c.in-Ok.is ∙ ap Ok no))))

pub returns-in-Ok-clause-made : goal.returns-in-Ok-clause-made
returns-in-Ok-clause-made g c = λ ks is.
    let at = c.open-edit.ensures ∙ c.from_root.ensures in
    few-cut g.met.K.Ord.total g.K.Element.code_of (g.P.Probe.stands_for c.args.key.now) c.requires.held is at c.in-Ok.field-0 (λ yes. c.remove.ensures.cuts is.entries (set-seen at is.set) (c.in-Ok.is ∙ ap Ok yes)) (λ no. c.remove.ensures.nothing (c.in-Ok.is ∙ ap Ok no))
