use Rattle.std.proofs.Common.{◌<◌, length, arith}
use Rattle.pool_text.proofs.Placed.{item_in}
use Rattle.pool_text.proofs.from_heap.places_of.Goals as goal

pub place_of-requires : goal.place_of-requires
place_of-requires c =
    let low : c.loop-link.link-index < length c.args.links.now = omega arith in
    record { listed = c.requires.listed c.link-item.result (item_in c.args.links.now c.loop-link.link-index c.link-item.result low c.link-item.is) }
