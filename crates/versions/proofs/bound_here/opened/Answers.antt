use Rattle.std.proofs.Common.{[], ap, subst, ◌∙◌}
use Rattle.node_heap.specs.declared.owner.Owner.TheVariants.{Hold as by_hold}
use Rattle.node_heap.specs.Owner.{EditsBy}
use Rattle.champ_kinds.specs.Root.{Root}
use Rattle.champ_kinds.proofs.StayLemmas.{map-seen}
use Rattle.versions.specs.Keyed.{by_root}
use Rattle.versions.proofs.bound_here.opened.Goals as goal

pub open-requires-clause-contents : goal.open-requires-clause-contents
open-requires-clause-contents g c = (c.requires.map.0, map-seen {r = by_root c.args.root} c.from_root.ensures c.requires.map.1)

pub returns-clause-bits : goal.returns-clause-bits
returns-clause-bits g c = c.in-Ok.ensures.bits ∙ ap (λ r. r.bits) c.from_root.ensures

pub returns-clause-edits : goal.returns-clause-edits
returns-clause-edits g c = subst (λ (r : Root). EditsBy (by_hold r.root) c.args.heap.now c.open.new.heap c.in-Ok.edit.root [] [] 0 1) c.from_root.ensures c.in-Ok.ensures.edits

pub returns-clause-map : goal.returns-clause-map
returns-clause-map g c = λ M is. c.in-Ok.ensures.contents M (map-seen {r = by_root c.args.root} c.from_root.ensures is)
