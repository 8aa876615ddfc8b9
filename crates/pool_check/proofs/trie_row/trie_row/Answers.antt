use Rattle.std.proofs.Common.{◌≡◌, ◌<◌, ◌^◌, ℕ, Some, length, ap, sym, ◌∙◌, arith}
use Rattle.node_heap.specs.Forms.{Forms, node, trie}
use Rattle.champ_trie.proofs.BitLemmas.{count-rank}
use Rattle.pool_text.specs.Rows.{Bytes}
use Rattle.pool_check.specs.Keeping.{codes_stand, kept_node, AreKept}
use Rattle.pool_check.proofs.TrieRowLemmas.{IsTrieRow, shared-refused, short-refused, codes-refused, stand-refused, few-refused, row-kept}
use Rattle.pool_check.proofs.trie_row.trie_row.Goals as goal
use Rattle.pool_check.proofs.trie_row.trie_row.Goals.{Start}

-- the row that is tested
tested : {n : ℕ} {F : Forms Bytes} {code : Bytes → ℕ} {l : ℕ} (c : Start) → AreKept n F code c.args.deepest c.args.kept.now → l < n → F l ≡ Some (node (trie c.args.depth c.args.entries c.args.nodes) c.args.links.now)
    → IsTrieRow n F code c.args.deepest c.args.kept.now c.args.depth c.args.entries c.args.nodes l c.args.links.now
tested c are low is = record { are = are; low = low; is = is; below = c.requires.below; small = omega arith }

pub returns-then-entries-nodes-ne0 : goal.returns-then-entries-nodes-ne0
returns-then-entries-nodes-ne0 c n F code l are low is =
    shared-refused (tested (goal.at.returns-then-entries-nodes-ne0 c).Start are low is) c.if-entries-nodes-ne0.true

pub returns-then-links-own : goal.returns-then-links-own
returns-then-links-own c n F code l are low is =
    short-refused (tested (goal.at.returns-then-links-own c).Start are low is) c.if-links-own.true

pub returns-in_err-codes : goal.returns-in_err-codes
returns-in_err-codes c n F code l are low is =
    c.from_residual.ensures
    ∙ codes-refused (tested (goal.at.returns-in_err-codes c).Start are low is) (sym (c.in_err-codes.ensures.codes n F code are))

pub codes_are_of-requires-clause-own : goal.codes_are_of-requires-clause-own
codes_are_of-requires-clause-own c =
    let small : c.args.entries < 2 ^ 32 = omega arith in
    omega (arith, count-rank c.args.entries small, ap length c.as_slice.ensures.value, c.in_ok-codes.ensures.long, c.if-links-own.false)

pub returns-then-not-codes_are_of : goal.returns-then-not-codes_are_of
returns-then-not-codes_are_of c n F code l are low is =
    stand-refused (tested (goal.at.returns-then-not-codes_are_of c).Start are low is) (sym (c.in_ok-codes.ensures.codes n F code are)) c.if-links-own.false c.if-entries-nodes-ne0.false
    (ap (codes_stand c.args.depth c.args.entries c.args.nodes) (sym c.as_slice.ensures.value) ∙ sym c.codes_are_of.ensures ∙ c.if-not-codes_are_of.true)

pub returns-then-not-are_enough : goal.returns-then-not-are_enough
returns-then-not-are_enough c n F code l are low is =
    few-refused (tested (goal.at.returns-then-not-are_enough c).Start are low is) (sym (c.in_ok-codes.ensures.codes n F code are)) c.if-links-own.false c.if-entries-nodes-ne0.false
    (sym c.are_enough.ensures ∙ c.if-not-are_enough.true)

pub returns : goal.returns
returns c n F code l are low is =
    ap Some (c.kept_node.ensures ∙ ap (kept_node c.args.depth) c.as_slice-2.ensures.value)
    ∙ row-kept (tested (goal.at.returns c).Start are low is) (sym (c.in_ok-codes.ensures.codes n F code are)) c.if-links-own.false c.if-entries-nodes-ne0.false
    (ap (codes_stand c.args.depth c.args.entries c.args.nodes) (sym c.as_slice.ensures.value) ∙ sym c.codes_are_of.ensures ∙ c.if-not-codes_are_of.false)
    (sym c.are_enough.ensures ∙ c.if-not-are_enough.false)
