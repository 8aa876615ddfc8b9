use Rattle.std.proofs.Common.{◌≡◌, ◌++◌, ℕ, Some, append-nil, arith, get_or, refl, subst, sym}
use Rattle.std.specs.Prelude.{slice_get}
use Rattle.std.specs.List.{flat_map}
use Rattle.std.proofs.lemmas.List.{take_all}
use Rattle.pool_carry.specs.Making.{IsRowOver}
use Rattle.pool_carry.proofs.Joined.{part-at, row-with-part}
use Rattle.pool_carry.proofs.RowsOver.{free-empty}
use Rattle.pool_carry.proofs.shared_parts.with_parts.Goals as goal

pub loop-place-init : goal.loop-place-init
loop-place-init c = record {
  sets = c.requires.sets;
  over = λ code deepest rows E entries_at over parts. subst (λ D. IsRowOver code deepest rows D c.args.row) (sym (append-nil E)) over;
}

pub is_free-requires : goal.is_free-requires
is_free-requires c =
    let k : ℕ = get_or c.args.below.now c.loop-place.place-index 0 in
    c.requires.small k c.in-Some.part (part-at c.args.parts.now k _ c.in-Some.part (c.requires.low c.loop-place.place-index 0 c.loop-place-test.true) c.in-Some.is)

pub put_node-requires-clause-position : goal.put_node-requires-clause-position
put_node-requires-clause-position c =
    let k : ℕ = get_or c.args.below.now c.loop-place.place-index 0 in
    c.requires.small k c.in-Some.part (part-at c.args.parts.now k _ c.in-Some.part (c.requires.low c.loop-place.place-index 0 c.loop-place-test.true) c.in-Some.is)

pub loop-place-preserved : goal.loop-place-preserved
loop-place-preserved c =
    let row = c.loop-place.whole in
    let it = c.in-Some.part in
    let put = c.in_ok-put_node-in-Some.ensures in
    let k : ℕ = get_or c.args.below.now c.loop-place.place-index 0 in
    let at : slice_get c.args.parts.now k ≡ Some (Some it) = part-at c.args.parts.now k _ it (c.requires.low c.loop-place.place-index 0 c.loop-place-test.true) c.in-Some.is in
    record {
      sets = put.sets;
      over = λ code deepest rows E entries_at over parts.
          row-with-part code deepest rows row c.put_node.new.self it.digit (c.requires.small k it at) (free-empty row.entries row.nodes row.links.items it.digit (sym c.if-not-is_free.ensures)) put.sets put.others E entries_at c.args.below.now
          c.loop-place.place-index it c.loop-place-test.true (parts k it at) refl put.here put.links (c.loop-place.invariant.over code deepest rows E entries_at over parts);
    }

pub returns : goal.returns
returns c = record {
  row = λ code deepest rows E entries_at over parts.
      subst (λ ks. IsRowOver code deepest rows (E ++ flat_map entries_at ks) c.loop-place.whole) (take_all c.loop-place.place-index c.args.below.now (omega arith)) (c.loop-place.invariant.over code deepest rows E entries_at over parts);
}
