use Rattle.std.proofs.Common.{◌≡◌, map, map-id, ap, sym, ◌∙◌}
use Rattle.std.proofs.lemmas.Iterator.Adapters.{YieldsList-from_vec}
use Rattle.std.proofs.lemmas.Iterator.Consumers.{YieldsList-end}
use Rattle.pool_text.specs.Rows.{row_form}
use Rattle.pool_text.specs.Document.{list, row_value}
use Rattle.pool_text.specs.declared.row.Row.{Row}
use Rattle.pool_text.proofs.written.rows_into_value.Goals as goal

pub returns : goal.returns
returns c =
    let rows = c.args.rows.items in
    let gives = c.into_iter-row-iterator.ensures.into_iter_gives in
    let done = YieldsList-end (YieldsList-from_vec rows gives.0 (gives.1 ∙ c.args.rows.ok.0)) c.loop-row.yielded c.loop-row.row-iterator c.loop-row.yielded_by c.next.result c.next.new.self c.in-None.is c.next.ensures.steps in
    let all : c.loop-row.yielded ≡ rows = sym (map-id c.loop-row.yielded) ∙ done.0 in
    c.from.ensures ∙ ap list (c.loop-row.invariant ∙ ap (map (λ (row : Row). row_value (row_form row))) all)
