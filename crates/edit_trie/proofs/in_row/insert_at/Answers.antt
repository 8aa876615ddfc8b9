use Rattle.std.proofs.Common.{sym, subst}
use Rattle.node_heap.specs.declared.owner.Owner.TheVariants.{Child as by_place}
use Rattle.champ_chain.proofs.CallerLemmas.{held-one, not-ok}
use Rattle.champ_kinds.specs.Edit.{PutsPair}
use Rattle.edit_trie.specs.Edit.{by_bits, PutsValue}
use Rattle.edit_trie.proofs.in_row.insert_at.Goals as goal

pub insert_by-requires-clause-owner : goal.insert_by-requires-clause-owner
insert_by-requires-clause-owner g c = (c.requires.child, c.requires.sole)

pub insert_by-requires-clause-apart : goal.insert_by-requires-clause-apart
insert_by-requires-clause-apart g c = c.requires.apart

pub insert_by-requires-clause-contents : goal.insert_by-requires-clause-contents
insert_by-requires-clause-contents g c = c.requires.contents

pub insert_by-requires-clause-held : goal.insert_by-requires-clause-held
insert_by-requires-clause-held g c = λ k. held-one c.args.heap.now c.args.value k c.requires.held

pub returns-in-Ok-clause-puts : goal.returns-in-Ok-clause-puts
returns-in-Ok-clause-puts g c = λ M is.
    subst (λ l. PutsValue g.T.Ord.cmp g.T.Element.code_of (by_place c.args.parent c.args.child) c.args.bits c.args.heap.now c.insert_by.new.heap l M c.args.key c.args.value c.in-Ok.given) (sym (c.in-Ok.ensures.up M is).1) (c.in-Ok.ensures.puts M is)

pub returns-in-Ok-clause-entries : goal.returns-in-Ok-clause-entries
returns-in-Ok-clause-entries g c = λ E mine.
    let up = c.in-Ok.ensures.up c.requires.contents.0 c.requires.contents.1 in
    subst (λ l. PutsPair g.T.Ord.cmp g.T.Element.code_of c.args.heap.now c.insert_by.new.heap (by_bits c.args.bits l) E c.args.key c.args.value) (sym up.1) (c.in-Ok.ensures.entries E mine)

pub returns-in-Ok-clause-changes : goal.returns-in-Ok-clause-changes
returns-in-Ok-clause-changes g c = λ M is. (c.in-Ok.ensures.up M is).0

pub returns-in-Err-clause-ample : goal.returns-in-Err-clause-ample
returns-in-Err-clause-ample g c = λ M is spares. absurd (not-ok c.insert_by.result _ c.in-Err.is (c.insert_by.ensures.ample M is spares))

pub returns-in-Err-clause-refused : goal.returns-in-Err-clause-refused
returns-in-Err-clause-refused g c = c.in-Err.ensures.refused

pub returns-in-Ok-clause-value : goal.returns-in-Ok-clause-value
returns-in-Ok-clause-value g c = c.in-Ok.ensures.value

pub returns-in-Ok-clause-spares : goal.returns-in-Ok-clause-spares
returns-in-Ok-clause-spares g c = λ M is. c.in-Ok.ensures.spares M is
