use Rattle.std.proofs.Common.{◌∙◌}
use Rattle.node_heap.proofs.BuildLemmas.{Builds-then}
use Rattle.rrb_core.proofs.BuildLemmas.{builds-held}
use Rattle.rrb_core.proofs.EditLemmas.{gathered-rows, gathered-same}
use Rattle.rrb_core.proofs.rows.read_with.Goals as goal

pub inner_over-requires-clause-rows : goal.inner_over-requires-clause-rows
inner_over-requires-clause-rows g c = gathered-rows c.requires c.write_links_with-count.ensures.builds.extends c.write_links_with-count.ensures.links

pub inner_over-requires-clause-short : goal.inner_over-requires-clause-short
inner_over-requires-clause-short g c = rw (gathered-same c.requires c.write_links_with-count.ensures.builds.extends c.write_links_with-count.ensures.links) c.requires.short

pub inner_over-requires-clause-held : goal.inner_over-requires-clause-held
inner_over-requires-clause-held g c = builds-held c.args.child c.requires.held c.write_links_with-count.ensures.builds

pub returns : goal.returns
returns g c =
    record {
      row = rw (gathered-same c.requires c.write_links_with-count.ensures.builds.extends c.write_links_with-count.ensures.links) at c.inner_over.ensures.row;
      links = c.inner_over.ensures.links ∙ c.write_links_with-count.ensures.links;
      builds = Builds-then c.write_links_with-count.ensures.builds c.inner_over.ensures.builds;
    }
