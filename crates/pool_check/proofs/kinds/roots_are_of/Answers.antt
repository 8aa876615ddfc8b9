use Rattle.std.proofs.Common.{◌≡◌, List, length, ap, sym, subst, ◌∙◌, arith}
use Rattle.pool_text.specs.Pool.{forms_in, row_count}
use Rattle.pool_check.specs.Roots.{are_of, roots_are_of}
use Rattle.pool_check.specs.declared.kinds.RowFacts.{RowFacts}
use Rattle.pool_check.specs.Facts.{AreFacts, facts_in}
use Rattle.pool_check.proofs.FactRows.{roots-low}
use Rattle.pool_check.proofs.RowsStay.{no-facts}
use Rattle.pool_check.proofs.kinds.roots_are_of.Goals as goal

pub facts_of_rows-requires-clause-first : goal.facts_of_rows-requires-clause-first
facts_of_rows-requires-clause-first c = no-facts c.args.pool.now c.in_ok-none.none.items c.in_ok-none.ensures.items

pub facts_of_rows-requires-clause-few : goal.facts_of_rows-requires-clause-few
facts_of_rows-requires-clause-few c = omega (arith, ap (λ (xs : List RowFacts). length xs) c.in_ok-none.ensures.items)

pub are_roots-requires : goal.are_roots-requires
are_roots-requires c =
    let length_is : length c.as_slice-2.result.now ≡ row_count c.args.pool.now = ap (λ (xs : List RowFacts). length xs) c.as_slice-2.ensures.value ∙ c.in_ok-facts.ensures.count in
    roots-low c.args.pool.now c.requires.stand.lead_back (length c.as_slice-2.result.now) length_is c.as_slice-3.result.now c.as_slice-3.ensures

pub returns : goal.returns
unfolding roots_are_of
returns c =
    let P = c.args.pool.now in
    let facts : AreFacts (facts_in P) c.as_slice-2.result.now = subst (λ xs. AreFacts (facts_in P) xs) (sym c.as_slice-2.ensures.value) c.in_ok-facts.ensures.facts in
    c.are_roots.ensures (row_count P) (forms_in P) facts ∙ ap (are_of (row_count P) (forms_in P) c.args.kinds.now) c.as_slice-3.ensures
