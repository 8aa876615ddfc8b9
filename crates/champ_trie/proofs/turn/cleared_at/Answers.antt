use Rattle.std.proofs.Common.{◌<◌, ◌∙◌, sym, subst, length}
use Rattle.std.specs.List.{remove}
use Rattle.champ_trie.specs.Edit.{ChangesAt}
use Rattle.champ_trie.specs.declared.place.Place.TheVariants.{Empty}
use Rattle.champ_trie.proofs.BitLemmas.{no-bit}
use Rattle.champ_trie.proofs.PlaceLemmas.{entry-in, node-in, clear-entry, clear-node, clear-none}
use Rattle.champ_trie.proofs.turn.cleared_at.Goals as goal

pub returns-then-contains-clause-free : goal.returns-then-contains-clause-free
returns-then-contains-clause-free c =
    let here = sym c.contains.ensures ∙ c.if-contains.true in
    (no-bit c.cleared.result c.args.position c.cleared.ensures.was, c.requires.sets.1.apart c.args.position c.requires.position here)

pub returns-then-contains-clause-out : goal.returns-then-contains-clause-out
returns-then-contains-clause-out c = λ links sets.
    let here = sym c.contains.ensures ∙ c.if-contains.true in
    subst (λ i. i < length links) (sym c.rank_of.ensures) (entry-in c.args.entries c.args.nodes links c.args.position c.requires.position sets here)

pub returns-then-contains-clause-changes : goal.returns-then-contains-clause-changes
returns-then-contains-clause-changes c = λ links sets.
    let here = sym c.contains.ensures ∙ c.if-contains.true in
    subst (λ i. ChangesAt c.args.entries c.args.nodes links c.cleared.result c.args.nodes (remove links i) c.args.position Empty) (sym c.rank_of.ensures)
    (clear-entry c.args.entries c.args.nodes links c.args.position c.requires.position sets c.cleared.result c.cleared.type_inv here c.cleared.ensures)

pub returns-then-contains-2-clause-free : goal.returns-then-contains-2-clause-free
returns-then-contains-2-clause-free c = (sym c.contains.ensures ∙ c.if-contains.false, no-bit c.cleared-then-contains-2.result c.args.position c.cleared-then-contains-2.ensures.was)

pub returns-then-contains-2-clause-out : goal.returns-then-contains-2-clause-out
returns-then-contains-2-clause-out c = λ links sets.
    let here = sym c.contains-2.ensures ∙ c.if-contains-2.true in
    subst (λ i. i < length links) (sym c.node_index.ensures) (node-in c.args.entries c.args.nodes links c.args.position c.requires.position sets here)

pub returns-then-contains-2-clause-changes : goal.returns-then-contains-2-clause-changes
returns-then-contains-2-clause-changes c = λ links sets.
    let none = sym c.contains.ensures ∙ c.if-contains.false in
    let here = sym c.contains-2.ensures ∙ c.if-contains-2.true in
    subst (λ i. ChangesAt c.args.entries c.args.nodes links c.args.entries c.cleared-then-contains-2.result (remove links i) c.args.position Empty) (sym c.node_index.ensures)
    (clear-node c.args.entries c.args.nodes links c.args.position c.requires.position sets c.cleared-then-contains-2.result c.cleared-then-contains-2.type_inv none here c.cleared-then-contains-2.ensures)

pub returns-clause-free : goal.returns-clause-free
returns-clause-free c = (sym c.contains.ensures ∙ c.if-contains.false, sym c.contains-2.ensures ∙ c.if-contains-2.false)

pub returns-clause-changes : goal.returns-clause-changes
returns-clause-changes c = λ links sets. clear-none c.args.entries c.args.nodes links c.args.position c.requires.position sets (sym c.contains.ensures ∙ c.if-contains.false) (sym c.contains-2.ensures ∙ c.if-contains-2.false)
