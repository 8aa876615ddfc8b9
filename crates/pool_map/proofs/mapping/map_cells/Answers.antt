use Rattle.std.proofs.Common.{◌≡◌, ◌<◌, ℕ, true, List, length, ap, sym, subst, ◌∙◌, arith}
use Rattle.std.specs.Prelude.{slice_get}
use Rattle.std.specs.List.{list_all}
use Rattle.node_heap.specs.Links.{count}
use Rattle.node_heap.specs.Forms.{Form}
use Rattle.pool_order.specs.Laws.{AreLinkedBelow}
use Rattle.pool_text.specs.Rows.{Bytes, is_in_range}
use Rattle.pool_text.specs.Pool.{links_from, settings_by, pool}
use Rattle.pool_text.specs.declared.pool.Pool.{Pool}
use Rattle.pool_check.proofs.TestLemmas.{leads-down, roots-low}
use Rattle.pool_map.specs.Mapped.{mapped_rows as rows_of, mapped}
use Rattle.pool_map.proofs.CodeLists.{links-low}
use Rattle.pool_map.proofs.MappedRows.{rows-many, rows-linked}
use Rattle.pool_map.proofs.MappedRange.{mapped-range}
use Rattle.pool_map.proofs.mapping.map_cells.Goals as goal

pub mapped_rows-requires-clause-low : goal.mapped_rows-requires-clause-low
mapped_rows-requires-clause-low g c = links-low c.args.pool.now c.requires.links

pub pool_of_rows-requires-clause-linked : goal.pool_of_rows-requires-clause-linked
pool_of_rows-requires-clause-linked g c =
    let P = c.args.pool.now in
    subst (λ (rs : List (Form Bytes)). AreLinkedBelow (length rs) (links_from rs)) (sym c.in_ok-rows.ensures.rows) (rows-linked (g.C.Change.image c.args.change.now) P (leads-down P c.requires.links))

pub pool_of_rows-requires-clause-roots : goal.pool_of_rows-requires-clause-roots
pool_of_rows-requires-clause-roots g c = λ r some.
    let P = c.args.pool.now in
    omega (arith, roots-low P c.requires.links r (subst (λ (ks : List ℕ). 0 < count r ks) c.as_slice.ensures some), ap (λ (rs : List (Form Bytes)). length rs) c.in_ok-rows.ensures.rows, rows-many (g.C.Change.image c.args.change.now) P)

pub returns-clause-mapped : goal.returns-clause-mapped
unfolding mapped
returns-clause-mapped g c =
    let P = c.args.pool.now in
    c.in_ok-pool_of_rows.ensures.value
    ∙ ap (λ (rs : List (Form Bytes)). pool (length rs) (slice_get rs) c.as_slice.result.now (settings_by P.bits P.history)) c.in_ok-rows.ensures.rows
    ∙ ap (λ (ks : List ℕ). pool (length (rows_of P (g.C.Change.image c.args.change.now))) (slice_get (rows_of P (g.C.Change.image c.args.change.now))) ks (settings_by P.bits P.history)) c.as_slice.ensures

pub returns-clause-version : goal.returns-clause-version
unfolding pool
returns-clause-version g c = ap (λ (Q : Pool). Q.version) c.in_ok-pool_of_rows.ensures.value

pub returns-clause-bits : goal.returns-clause-bits
unfolding pool
returns-clause-bits g c = ap (λ (Q : Pool). Q.bits) c.in_ok-pool_of_rows.ensures.value

pub returns-clause-range : goal.returns-clause-range
returns-clause-range g c passed =
    subst (λ (Q : Pool). list_all is_in_range Q.rows ≡ true) (sym (returns-clause-mapped g c)) (mapped-range (g.C.Change.image c.args.change.now) c.args.pool.now c.requires.links passed)
