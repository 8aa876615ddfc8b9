use Rattle.std.proofs.Common.{◌≡◌, Some, true, false, map, take, ap, sym, ◌∙◌, arith}
use Rattle.std.specs.Prelude.{not, slice_get}
use Rattle.std.specs.List.{filter_map, list_all}
use Rattle.std.proofs.lemmas.List.{take_all}
use Rattle.pool_text.specs.Rows.{row_form}
use Rattle.pool_load.proofs.Steps.{get-map}
use Rattle.versions_pool.specs.Apart.{key_link, is_value_in}
use Rattle.versions_pool.proofs.ApartLemmas.{free-other, free-pair, both-found, key-inside, forms-more}
use Rattle.versions_pool.proofs.apart.keys_are_unmarked.Goals as goal
use Rattle.versions_pool.proofs.apart.keys_are_unmarked.Goals.{in-Some+else-is_marked, in_default}

pub returns-then-is_marked : goal.returns-then-is_marked
returns-then-is_marked c =
    let rows = map row_form c.args.rows.now in
    let p = c.loop-row.row-index in
    let form = row_form c.row-item.result in
    let at : slice_get rows p ≡ Some form = get-map row_form c.args.rows.now p c.row-item.result c.loop-row-test.true c.row-item.is in
    let link : key_link form ≡ Some c.in-Some.key = sym c.key_place.ensures ∙ c.in-Some.is in
    let mark : is_value_in rows c.in-Some.key ≡ true = sym (c.requires.marked.each c.in-Some.key (key-inside rows c.requires.inside p c.in-Some.key form at link)) ∙ sym c.is_marked.ensures ∙ c.if-is_marked.true in
    sym (both-found rows p c.in-Some.key form at link mark)

pub loop-row-preserved : goal.loop-row-preserved
loop-row-preserved c =
    let rows = map row_form c.args.rows.now in
    let p = c.loop-row.row-index in
    let form = row_form c.row-item.result in
    let before = map row_form (take p c.args.rows.now) in
    let at : slice_get rows p ≡ Some form = get-map row_form c.args.rows.now p c.row-item.result c.loop-row-test.true c.row-item.is in
    ap (λ fs. list_all (λ k. not (is_value_in rows k)) (filter_map key_link fs)) (forms-more c.args.rows.now p c.row-item.result c.loop-row-test.true c.row-item.is)
    ∙ elim c.match-key_place.branch [
      | in-Some+else-is_marked w ↦
          let link : key_link form ≡ Some w.in-Some.key = sym c.key_place.ensures ∙ w.in-Some.is in
          let free : is_value_in rows w.in-Some.key ≡ false = sym (c.requires.marked.each w.in-Some.key (key-inside rows c.requires.inside p w.in-Some.key form at link)) ∙ sym w.is_marked.ensures ∙ w.if-is_marked.false in
          free-pair rows before form w.in-Some.key c.loop-row.invariant link free
      | in_default w ↦ free-other rows before form c.loop-row.invariant (sym c.key_place.ensures ∙ w.in_default.is)
    ]

pub returns : goal.returns
returns c =
    let rows = map row_form c.args.rows.now in
    sym (ap (λ rs. list_all (λ k. not (is_value_in rows k)) (filter_map key_link (map row_form rs))) (sym (take_all c.loop-row.row-index c.args.rows.now (omega arith))) ∙ c.loop-row.invariant)
