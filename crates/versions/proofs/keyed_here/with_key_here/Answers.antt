use Rattle.std.proofs.Common.{Ok, ap, ◌∙◌, arith}
use Rattle.node_heap.specs.Heap.{holds_at}
use Rattle.champ_kinds.specs.Root.{Root}
use Rattle.champ_kinds.proofs.StayLemmas.{set-seen}
use Rattle.versions.proofs.KeyHereLemmas.{few-added, key-added}
use Rattle.versions.proofs.keyed_here.with_key_here.Goals as goal

pub insert-requires-clause-held : goal.insert-requires-clause-held
insert-requires-clause-held g c = omega (arith, c.requires.held, ap (λ (r : Root). holds_at c.args.heap.now r.root) (c.open-edit.ensures ∙ c.from_root.ensures))

pub insert-requires-clause-few : goal.insert-requires-clause-few
insert-requires-clause-few g c = omega (arith, c.requires.few)

pub insert-requires-clause-contents : goal.insert-requires-clause-contents
insert-requires-clause-contents g c = let is = c.requires.set.1 in (is.entries, set-seen (c.open-edit.ensures ∙ c.from_root.ensures) is.set)

pub returns-in-Ok-clause-edits : goal.returns-in-Ok-clause-edits
returns-in-Ok-clause-edits g c = λ ks is.
    let at = c.open-edit.ensures ∙ c.from_root.ensures in
    let here = set-seen at is.set in
    rw c.into_root.ensures (rw c.freeze.ensures
    (key-added g.met.K.Ord.total g.K.Element.code_of c.args.key c.requires.held is at c.in-Ok.field-0 (λ yes. c.insert.ensures.adds is.entries here (c.in-Ok.is ∙ ap Ok yes)) (λ no. (c.insert.ensures.there is.entries here).0 (c.in-Ok.is ∙ ap Ok no)) (λ no. c.insert.ensures.nothing (c.in-Ok.is ∙ ap Ok no))))

pub returns-in-Ok-clause-made : goal.returns-in-Ok-clause-made
returns-in-Ok-clause-made g c = λ ks is.
    let at = c.open-edit.ensures ∙ c.from_root.ensures in
    few-added g.met.K.Ord.total g.K.Element.code_of c.args.key c.requires.held is at c.in-Ok.field-0 (λ yes. c.insert.ensures.adds is.entries (set-seen at is.set) (c.in-Ok.is ∙ ap Ok yes)) (λ no. c.insert.ensures.nothing (c.in-Ok.is ∙ ap Ok no))
