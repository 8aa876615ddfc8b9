use Rattle.std.proofs.Common.{ap, ◌∙◌, Some}
use Rattle.node_heap.specs.Forms.{node}
use Rattle.node_heap.proofs.CallerLemmas.{Builds-then, Builds-node}
use Rattle.rrb_core.proofs.BuildLemmas.{builds-held}
use Rattle.rrb_core.proofs.rows.mixed_with.Goals as goal

pub node-requires-clause-held : goal.node-requires-clause-held
node-requires-clause-held g c = builds-held c.args.middle c.requires.held c.write_links_with-count.ensures.builds

pub returns-clause-row : goal.returns-clause-row
returns-clause-row g c = c.node.ensures.adds.here ∙ ap (λ xs. Some (node c.args.head xs)) c.write_links_with-count.ensures.links

pub returns-clause-builds : goal.returns-clause-builds
returns-clause-builds g c =
    let made = c.node.ensures in
    Builds-then c.write_links_with-count.ensures.builds (Builds-node made.adds made.makes made.count made.graph made.extends)
