use Rattle.std.proofs.Common.{◌≡◌, true, false, sym, subst, rules}
use Rattle.champ_trie.specs.Trie.{code_by}
use Rattle.pool_text.specs.Rules.{Rules, present_rules, rules_named}
use Rattle.pool_text.specs.Pool.{forms_in, row_count}
use Rattle.pool_check.specs.Rows.{rows_in_range_by}
use Rattle.pool_check.specs.Tries.{tries_stand_by}
use Rattle.pool_check.specs.Keeping.{AreKept}
use Rattle.pool_check.proofs.Refused.{in-range, fails-link, fails-text, fails-vector, fails-trie}
use Rattle.pool_check.proofs.TestedRows.{links-before, lines-before, shapes-before, few-before, kept-before, facts-before}
use Rattle.pool_check.proofs.tested.found_more.Goals as goal

pub links_lead_back-requires : goal.links_lead_back-requires
links_lead_back-requires c = links-before c.args.pool.now c.args.found c.requires.follows c.len-from.result (search rules)

pub texts_are_lines-requires : goal.texts_are_lines-requires
texts_are_lines-requires c = lines-before c.args.pool.now c.args.found c.requires.follows c.len-from.result (search rules)

pub returns-then-not-links_lead_back-clause-damage : goal.returns-then-not-links_lead_back-clause-damage
returns-then-not-links_lead_back-clause-damage c = λ _. fails-link present_rules c.args.pool.now (search rules)

pub returns-then-not-texts_are_lines-clause-damage : goal.returns-then-not-texts_are_lines-clause-damage
returns-then-not-texts_are_lines-clause-damage c = λ _. fails-text present_rules c.args.pool.now (search rules) (search rules)

pub shapes_of-requires-clause-first : goal.shapes_of-requires-clause-first
shapes_of-requires-clause-first c = shapes-before c.args.pool.now c.args.found c.requires.follows

pub shapes_of-requires-clause-rows : goal.shapes_of-requires-clause-rows
shapes_of-requires-clause-rows c = (present_rules, in-range present_rules c.args.pool.now c.requires.rows)

pub returns-in_default-clause-damage : goal.returns-in_default-clause-damage
returns-in_default-clause-damage c = λ _. fails-vector present_rules c.args.pool.now (search rules) (search rules) (search rules)

pub kept_of-requires-clause-first : goal.kept_of-requires-clause-first
kept_of-requires-clause-first c =
    let P = c.args.pool.now in
    subst (λ (r : Rules). AreKept (row_count P) (forms_in P) (code_by r.code_of P.bits) r.deepest c.args.found.kept.items) (sym c.present.ensures) (kept-before P c.args.found c.requires.follows (search rules))

pub kept_of-requires-clause-rows : goal.kept_of-requires-clause-rows
kept_of-requires-clause-rows c = subst (λ (r : Rules). rows_in_range_by r c.args.pool.now ≡ true) (sym c.present.ensures) (in-range present_rules c.args.pool.now c.requires.rows)

pub returns-in_default-2-clause-damage : goal.returns-in_default-2-clause-damage
returns-in_default-2-clause-damage c = λ _.
    let P = c.args.pool.now in
    let fails : tries_stand_by (rules_named c.present.result) P ≡ false = search rules in
    fails-trie present_rules P (search rules) (search rules) (search rules) (subst (λ (r : Rules). tries_stand_by r P ≡ false) c.present.ensures fails)

pub facts_of_rows-requires-clause-stand : goal.facts_of_rows-requires-clause-stand
facts_of_rows-requires-clause-stand c =
    let P = c.args.pool.now in
    let stand : tries_stand_by (rules_named c.present.result) P ≡ true = search rules in
    record {
      rules = present_rules;
      in_range = in-range present_rules P c.requires.rows;
      lead_back = search rules;
      vectors = search rules;
      tries = subst (λ (r : Rules). tries_stand_by r P ≡ true) c.present.ensures stand;
    }

pub facts_of_rows-requires-clause-first : goal.facts_of_rows-requires-clause-first
facts_of_rows-requires-clause-first c = facts-before c.args.pool.now c.args.found c.requires.follows (search rules)

pub facts_of_rows-requires-clause-few : goal.facts_of_rows-requires-clause-few
facts_of_rows-requires-clause-few c = few-before c.args.pool.now c.args.found c.requires.follows

pub returns-clause-passed : goal.returns-clause-passed
returns-clause-passed c =
    let P = c.args.pool.now in
    let stand : tries_stand_by (rules_named c.present.result) P ≡ true = search rules in
    record { lead_back = search rules; lines = search rules; vectors = search rules; tries = subst (λ (r : Rules). tries_stand_by r P ≡ true) c.present.ensures stand }

pub returns-clause-found : goal.returns-clause-found
returns-clause-found c =
    let P = c.args.pool.now in
    let kept : AreKept (row_count P) (forms_in P) (code_by (rules_named c.present.result).code_of P.bits) (rules_named c.present.result).deepest c.in-Some-2.kept.items = search rules in
    record {
      shapes = search rules;
      shape_count = search rules;
      kept = subst (λ (r : Rules). AreKept (row_count P) (forms_in P) (code_by r.code_of P.bits) r.deepest c.in-Some-2.kept.items) c.present.ensures kept;
      kept_count = search rules;
      facts = c.in_ok-facts.ensures.facts;
      fact_count = c.in_ok-facts.ensures.count;
    }
