use Rattle.std.proofs.Common.{ap, subst, sym, ◌∙◌}
use Rattle.std.specs.List.{All}
use Rattle.std.specs.Prelude.{IsSome, filter_map}
use Rattle.rrb_core.specs.Vector.{elements}
use Rattle.versions.specs.Rooted.{value_at}
use Rattle.versions.proofs.ListLemmas.{list-read, all-values, part-whole}
use Rattle.versions.proofs.items.Items.new.Goals as goal

pub len-requires : goal.len-requires
len-requires g c = c.requires.1.good

pub lines-requires-clause-good : goal.lines-requires-clause-good
lines-requires-clause-good g c = c.requires.1.good

pub invariant_of-result : goal.invariant_of-result
invariant_of-result g c =
    let h = c.args.heap.now in
    let zs = elements h c.args.vector in
    subst (All (λ l. IsSome (value_at h l))) (sym (c.lines.ensures ∙ part-whole zs c.len.result c.len.ensures.value)) (all-values h c.args.vector c.requires.0 c.requires.1)

pub returns : goal.returns
returns g c = λ xs is.
    let h = c.args.heap.now in
    let zs = elements h c.args.vector in
    ap (filter_map (value_at h)) (c.lines.ensures ∙ part-whole zs c.len.result c.len.ensures.value) ∙ list-read h c.args.vector xs is
