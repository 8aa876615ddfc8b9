use Rattle.std.proofs.Common.{List, ℕ, get_or, Option, Some, ap, sym, ◌∙◌}
use Rattle.node_heap.specs.Forms.{Form, node, chain}
use Rattle.pool_text.specs.Rows.{Bytes}
use Rattle.pool_check.specs.Keeping.{forms_at}
use Rattle.pool_check.proofs.KeptLemmas.{kept-at}
use Rattle.pool_check.proofs.ChainRowLemmas.{one-kept, one-refused, none-refused, many-refused}
use Rattle.pool_check.proofs.RowsKept.{low-at, one-link, two-links}
use Rattle.pool_check.proofs.tries.chain_row.Goals as goal

abbrev of_links : List ℕ → Option (Form Bytes)
of_links ks = Some (node chain ks)

pub returns-in-Entry : goal.returns-in-Entry
returns-in-Entry c n code deepest l are low is =
    let F = forms_at c.args.rows.now in
    let links = c.args.links.now in
    one-kept n F code deepest c.args.kept.now are l low (get_or links 0 0) (is ∙ ap of_links (one-link links c.in-len1.len_at_least c.in-len1.len_below)) c.in-Entry.cell c.in-Entry.code
    (sym (kept-at n F code deepest c.args.kept.now are _ (get_or links 0 0) (low-at _ links 0 c.requires.below c.in-len1.len_at_least)) ∙ c.in-Entry.is)

pub returns-in_default-kept : goal.returns-in_default-kept
returns-in_default-kept c n code deepest l are low is =
    let F = forms_at c.args.rows.now in
    let links = c.args.links.now in
    one-refused n F code deepest c.args.kept.now are l low (get_or links 0 0) (is ∙ ap of_links (one-link links c.in-len1.len_at_least c.in-len1.len_below))
    (λ place b h. c.in_default-kept.not-Entry place b (kept-at n F code deepest c.args.kept.now are _ (get_or links 0 0) (low-at _ links 0 c.requires.below c.in-len1.len_at_least) ∙ h))

pub returns-in-len2 : goal.returns-in-len2
returns-in-len2 c n code deepest l are low is =
    let links = c.args.links.now in
    c.chained.ensures n code deepest l are low (is ∙ ap of_links (two-links links c.in-len2.len_at_least c.in-len2.len_below))

pub returns-in_default : goal.returns-in_default
returns-in_default c n code deepest l are low is = none-refused n (forms_at c.args.rows.now) code deepest c.args.kept.now are l low c.args.links.now is c.in_default.len_below

pub returns-in_default-2 : goal.returns-in_default-2
returns-in_default-2 c n code deepest l are low is = many-refused n (forms_at c.args.rows.now) code deepest c.args.kept.now are l low c.args.links.now is c.in_default.len_at_least
