use Rattle.std.proofs.Common.{◌∙◌, sym, ap}
use Rattle.pool_check.specs.Keeping.{code_at}
use Rattle.pool_check.proofs.KeptLemmas.{entry-code-at, node-code-at}
use Rattle.pool_check.proofs.trie_row.code_of.Goals as goal

pub returns-in-Entries : goal.returns-in-Entries
returns-in-Entries c n F code are =
    c.entry_code.ensures ∙ entry-code-at n F code c.args.deepest c.args.kept.now are _ c.args.depth c.args.link c.requires.below ∙ sym (ap (λ part. code_at n F code c.args.deepest part c.args.depth c.args.link) c.in-Entries.is)

pub returns-in-Nodes : goal.returns-in-Nodes
returns-in-Nodes c n F code are =
    c.node_code.ensures ∙ node-code-at n F code c.args.deepest c.args.kept.now are _ c.args.depth c.args.link c.requires.below ∙ sym (ap (λ part. code_at n F code c.args.deepest part c.args.depth c.args.link) c.in-Nodes.is)
