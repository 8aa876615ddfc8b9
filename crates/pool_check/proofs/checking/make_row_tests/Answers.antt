use Rattle.std.proofs.Common.{rules}
use Rattle.pool_text.specs.Rules.{rules_named}
use Rattle.champ_trie.specs.Trie.{code_by}
use Rattle.pool_text.specs.Pool.{forms_in, row_count}
use Rattle.pool_check.proofs.TestLemmas.{leads-down}
use Rattle.pool_check.proofs.RowsKept.{none-kept}
use Rattle.pool_check.proofs.RowsStay.{no-shapes}
use Rattle.pool_check.proofs.Refused.{fails-link, fails-text, fails-vector, fails-trie}
use Rattle.pool_check.proofs.checking.make_row_tests.Goals as goal

pub returns-then-not-links_lead_back-clause-damage : goal.returns-then-not-links_lead_back-clause-damage
returns-then-not-links_lead_back-clause-damage c = λ _. fails-link (rules_named c.args.rules) c.args.pool.now (search rules)

pub returns-then-not-texts_are_lines-clause-damage : goal.returns-then-not-texts_are_lines-clause-damage
returns-then-not-texts_are_lines-clause-damage c = λ _. fails-text (rules_named c.args.rules) c.args.pool.now (search rules) (search rules)

pub shapes_of-requires-clause-first : goal.shapes_of-requires-clause-first
shapes_of-requires-clause-first c = no-shapes c.args.pool.now c.in_ok-none.none.items c.in_ok-none.ensures.items

pub shapes_of-requires-clause-rows : goal.shapes_of-requires-clause-rows
shapes_of-requires-clause-rows c = (rules_named c.args.rules, c.requires.rows)

pub returns-in_default-clause-damage : goal.returns-in_default-clause-damage
returns-in_default-clause-damage c = λ _. fails-vector (rules_named c.args.rules) c.args.pool.now (search rules) (search rules) (search rules)

pub kept_of-requires-clause-first : goal.kept_of-requires-clause-first
kept_of-requires-clause-first c =
    let P = c.args.pool.now in
    let r = rules_named c.args.rules in
    none-kept (row_count P) (forms_in P) (code_by r.code_of P.bits) r.deepest (leads-down P (search rules)) c.in_ok-none_kept.none_kept.items c.in_ok-none_kept.ensures.items

pub returns-then-is_none-clause-damage : goal.returns-then-is_none-clause-damage
returns-then-is_none-clause-damage c = λ _. fails-trie (rules_named c.args.rules) c.args.pool.now (search rules) (search rules) (search rules) (search rules)
