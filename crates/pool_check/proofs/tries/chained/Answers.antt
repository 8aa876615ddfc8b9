use Rattle.std.proofs.Common.{◌≡◌, sym, ◌∙◌}
use Rattle.std.specs.Prelude.{None}
use Rattle.std.proofs.lemmas.Bool.{eq-eqb, ne_eqb}
use Rattle.pool_check.specs.Keeping.{forms_at, canonical_kept}
use Rattle.pool_check.proofs.KeptLemmas.{kept-at}
use Rattle.pool_check.proofs.ChainRowLemmas.{entry-cell, chain-cell, entry-refused, next-refused, pair-kept, order-refused, codes-refused}
use Rattle.pool_check.proofs.RowsKept.{named-low}
use Rattle.pool_check.proofs.tries.chained.Goals as goal
use Rattle.pool_check.proofs.tries.chained.Goals.{else-code-next_code-via-then-code-next_code+else-is_text_before, else-code-next_code-via-else-code-next_code}

pub returns-in_default : goal.returns-in_default
returns-in_default c n code deepest l are low is =
    let F = forms_at c.args.rows.now in
    entry-refused n F code deepest c.args.kept.now are l low c.args.entry c.args.next is (λ place b h. c.in_default.not-Entry place b (kept-at n F code deepest c.args.kept.now are _ c.args.entry c.requires.entry ∙ h))

pub returns-in_default-kept : goal.returns-in_default-kept
returns-in_default-kept c n code deepest l are low is =
    let F = forms_at c.args.rows.now in
    next-refused n F code deepest c.args.kept.now are l low c.args.entry c.args.next is c.requires.next (λ place b two h. c.in_default-kept.not-Chain place b two (kept-at n F code deepest c.args.kept.now are _ c.args.next c.requires.next ∙ h))

pub is_text_before-requires-clause-first : goal.is_text_before-requires-clause-first
is_text_before-requires-clause-first c =
    let F = forms_at c.args.rows.now in
    let known = c.requires.kept in
    let there = entry-cell known.0 F known.1 known.2 c.args.entry c.in-Entry.cell c.in-Entry.code (sym (kept-at known.0 F known.1 known.2 c.args.kept.now known.3 _ c.args.entry c.requires.entry) ∙ c.in-Entry.is) in
    named-low c.args.rows.now c.in-Entry.cell there.0 there.1

pub is_text_before-requires-clause-second : goal.is_text_before-requires-clause-second
is_text_before-requires-clause-second c =
    let F = forms_at c.args.rows.now in
    let known = c.requires.kept in
    let there = chain-cell known.0 F known.1 known.2 c.args.next c.in-Chain.next_cell c.in-Chain.next_code c.in-Chain.two (sym (kept-at known.0 F known.1 known.2 c.args.kept.now known.3 _ c.args.next c.requires.next) ∙ c.in-Chain.is) in
    named-low c.args.rows.now c.in-Chain.next_cell there.0 there.1

pub returns-then-is_text_before : goal.returns-then-is_text_before
returns-then-is_text_before c n code deepest l are low is =
    let F = forms_at c.args.rows.now in
    pair-kept n F code deepest c.args.kept.now are l low c.args.entry c.args.next is c.in-Entry.cell c.in-Entry.code c.in-Chain.next_cell c.in-Chain.next_code c.in-Chain.two c.requires.next
    (sym (kept-at n F code deepest c.args.kept.now are _ c.args.entry c.requires.entry) ∙ c.in-Entry.is) (sym (kept-at n F code deepest c.args.kept.now are _ c.args.next c.requires.next) ∙ c.in-Chain.is)
    (sym c.is_text_before.ensures ∙ c.if-is_text_before.true) (eq-eqb c.in-Entry.code c.in-Chain.next_code c.if-code-next_code.true)

pub returns-else-code-next_code : goal.returns-else-code-next_code
returns-else-code-next_code c n code deepest l are low is =
    let F = forms_at c.args.rows.now in
    let entry_kept = sym (kept-at n F code deepest c.args.kept.now are _ c.args.entry c.requires.entry) ∙ c.in-Entry.is in
    let next_kept = sym (kept-at n F code deepest c.args.kept.now are _ c.args.next c.requires.next) ∙ c.in-Chain.is in
    elim c.else-code-next_code.branch as (λ _. None ≡ canonical_kept n F code deepest l) [
      | else-code-next_code-via-then-code-next_code+else-is_text_before w ↦
          order-refused n F code deepest c.args.kept.now are l low c.args.entry c.args.next is c.in-Entry.cell c.in-Entry.code c.in-Chain.next_cell c.in-Chain.next_code c.in-Chain.two c.requires.next entry_kept next_kept (sym w.is_text_before.ensures ∙ w.if-is_text_before.false)
      | else-code-next_code-via-else-code-next_code w ↦
          codes-refused n F code deepest c.args.kept.now are l low c.args.entry c.args.next is c.in-Entry.cell c.in-Entry.code c.in-Chain.next_cell c.in-Chain.next_code c.in-Chain.two c.requires.next entry_kept next_kept (ne_eqb c.in-Entry.code c.in-Chain.next_code w.if-code-next_code.false)
    ]
