use Rattle.std.proofs.Common.{◌≡◌, ◌∙◌, ◌+◌, sym, take}
use Rattle.std.proofs.lemmas.List.{length-set}
use Rattle.std.proofs.lemmas.Option.{slice_get_read}
use Rattle.pool_carry.specs.Making.{with_digit}
use Rattle.pool_carry.proofs.Parts.{holds-at, holds-set, part-same, part-other}
use Rattle.pool_carry.proofs.tries.parts_of.Goals as goal

pub loop-entry-preserved : goal.loop-entry-preserved
loop-entry-preserved c =
    let es = c.args.entries.now in
    let i = c.loop-entry.entry-index in
    let k = c.digit-position.result in
    let parts = c.loop-entry.parts.items in
    let at = slice_get_read parts 32 k c.index_mut.result.now (sym c.loop-entry.invariant.0) c.digit-position.ensures.small c.index_mut.ensures.value in
    let before = holds-at parts (λ p part. part.items ≡ with_digit c.args.depth p (take i es)) c.loop-entry.invariant.1 k c.index_mut.result.now at in (
      length-set parts k c.push.new.self ∙ c.loop-entry.invariant.0,
      holds-set parts (λ p part. part.items ≡ with_digit c.args.depth p (take i es)) (λ p part. part.items ≡ with_digit c.args.depth p (take (i + 1) es)) k c.index_mut.result.now c.push.new.self at
          (part-same c.args.depth es i c.loop-entry-test.true _ k c.index_mut.result.now.items c.push.new.self.items c.digit-position.ensures.read before c.in_ok-push.ensures.items)
          (λ p part apart is. is ∙ sym (part-other c.args.depth es i c.loop-entry-test.true _ k p c.digit-position.ensures.read apart)) c.loop-entry.invariant.1,
    )
