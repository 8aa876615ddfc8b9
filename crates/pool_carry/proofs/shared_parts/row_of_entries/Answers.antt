use Rattle.std.proofs.Common.{arith, map, subst, sym}
use Rattle.std.proofs.lemmas.List.{take_all}
use Rattle.pool_carry.specs.Making.{seen, IsRowOver}
use Rattle.pool_carry.proofs.Joined.{row-with-entry}
use Rattle.pool_carry.proofs.RowsOver.{free-empty, row-none}
use Rattle.pool_carry.proofs.shared_parts.row_of_entries.Goals as goal

pub loop-entry-init : goal.loop-entry-init
loop-entry-init c = record {
  sets = c.empty-row.ensures.sets;
  over = λ code deepest rows named. row-none code deepest rows c.empty-row.result c.empty-row.ensures.sets c.empty-row.ensures.none c.empty-row.ensures.places;
}

pub loop-entry-preserved : goal.loop-entry-preserved
loop-entry-preserved c =
    let row = c.loop-entry.row in
    let p = c.digit-position.result in
    let put = c.in_ok-put_entry.ensures in
    record {
      sets = put.sets;
      over = λ code deepest rows named.
          row-with-entry code deepest rows row c.put_entry.new.self p c.digit-position.ensures.small (free-empty row.entries row.nodes row.links.items p (sym c.if-not-is_free.ensures)) put.sets put.others c.args.entries.now c.loop-entry.entry-index _
          c.loop-entry-test.true named c.digit-position.ensures.read put.here put.links (c.loop-entry.invariant.over code deepest rows named);
    }

pub returns-clause-row : goal.returns-clause-row
returns-clause-row c = λ code deepest rows named.
    subst (λ es. IsRowOver code deepest rows (map seen es) c.loop-entry.row) (take_all c.loop-entry.entry-index c.args.entries.now (omega arith)) (c.loop-entry.invariant.over code deepest rows named)
