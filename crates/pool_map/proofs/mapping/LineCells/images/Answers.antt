use Rattle.std.proofs.Common.{◌<◌, length, arith}
use Rattle.pool_map.specs.Mapped.{image_among}
use Rattle.pool_map.proofs.CodeLists.{map-more}
use Rattle.pool_map.proofs.mapping.LineCells.images.Goals as goal

pub loop-element-preserved : goal.loop-element-preserved
loop-element-preserved c =
    let low : c.loop-element.element-index < length c.args.elements.now = omega arith in
    map-more (image_among c.args.count c.args.self.now) c.args.elements.now c.loop-element.element-index 0 c.loop-element.images.items _ c.image.result low c.loop-element.invariant c.image.ensures c.in_ok-push.ensures.items
