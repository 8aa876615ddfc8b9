use Rattle.std.proofs.Common.{arith}
use Rattle.pool_text.proofs.FormRows.{count-same}
use Rattle.pool_map.proofs.FewCells.{few-cells}
use Rattle.pool_map.proofs.mapping.few_line_cells.Goals as goal

pub returns : goal.returns
returns c =
    let rows = c.as_slice-rows.result.now in
    let P = c.args.pool.now in
    let fits = c.as_slice-rows.type_inv in
    omega (arith, few-cells P, count-same P.rows rows c.as_slice-rows.ensures, fits.1)
