use Rattle.std.proofs.Common.{◌∙◌, ap, sym}
use Rattle.node_heap.specs.Links.{without, with_link}
use Rattle.node_heap.proofs.Pairing.{room-for}
use Rattle.node_heap.proofs.pairs.put_moved.Goals as goal

pub row_links-links-requires : goal.row_links-links-requires
row_links-links-requires g c = c.requires.live

pub take_out-requires : goal.take_out-requires
take_out-requires g c = rw (c.row_links-links.ensures) c.requires.out

pub put_in-requires-clause-index : goal.put_in-requires-clause-index
put_in-requires-clause-index g c = rw (c.take_out.ensures, c.row_links-links.ensures) c.requires.into

pub put_in-requires-clause-room : goal.put_in-requires-clause-room
put_in-requires-clause-room g c = rw (c.take_out.ensures, c.row_links-links.ensures) (room-for c.args.out c.args.into.now _ c.requires.into c.requires.short)

pub returns-clause-puts : goal.returns-clause-puts
returns-clause-puts g c =
    rw (sym (c.as_slice.ensures.value ∙ c.put_in.ensures ∙ ap (with_link c.args.into.now) (c.take_out.ensures ∙ ap (without c.args.out) c.row_links-links.ensures))) c.put_node.ensures.puts
