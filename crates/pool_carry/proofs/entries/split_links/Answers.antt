use Rattle.std.proofs.Common.{◌∙◌, ◌≤◌, ap, sym, subst, arith, take, drop, length, List, ℕ, Some}
use Rattle.node_heap.specs.Forms.{links_of}
use Rattle.champ_trie.specs.Bits.{rank}
use Rattle.champ_trie.specs.Walk.{entry_count, own_entries, rows_below}
use Rattle.champ_trie.proofs.BitLemmas.{count-rank}
use Rattle.pool_text.specs.Rows.{row_form}
use Rattle.pool_text.specs.declared.row.Row.{Row}
use Rattle.pool_carry.proofs.EntryRows.{trie-or-chain}
use Rattle.pool_carry.proofs.entries.split_links.Goals as goal

pub split_at-requires : goal.split_at-requires
split_at-requires c =
    let few : rank c.in-Trie.entries 32 ≤ length c.in-Trie.links = subst (λ (r : Row). entry_count (Some (row_form r)) ≤ length (links_of (Some (row_form r)))) c.in-Trie.is c.requires.count in
    omega (arith, few, count-rank c.in-Trie.entries (omega arith), ap length c.as_slice.ensures)

pub returns-in-Trie-clause-own : goal.returns-in-Trie-clause-own
returns-in-Trie-clause-own c =
    c.split_at.ensures.front
    ∙ ap (λ n. take n c.as_slice.result.now) (count-rank c.in-Trie.entries (omega arith))
    ∙ ap (take (rank c.in-Trie.entries 32)) c.as_slice.ensures
    ∙ ap (λ (r : Row). own_entries (Some (row_form r))) (sym c.in-Trie.is)

pub returns-in-Trie-clause-below : goal.returns-in-Trie-clause-below
returns-in-Trie-clause-below c =
    c.split_at.ensures.back
    ∙ ap (λ n. drop n c.as_slice.result.now) (count-rank c.in-Trie.entries (omega arith))
    ∙ ap (drop (rank c.in-Trie.entries 32)) c.as_slice.ensures
    ∙ ap (λ (r : Row). rows_below (Some (row_form r))) (sym c.in-Trie.is)

pub split_at-requires-in-Chain : goal.split_at-requires-in-Chain
split_at-requires-in-Chain c =
    subst (λ (ks : List ℕ). 1 ≤ length ks) (sym c.as_slice-in-Chain.ensures) (subst (λ (r : Row). entry_count (Some (row_form r)) ≤ length (links_of (Some (row_form r)))) c.in-Chain.is c.requires.count)

pub returns-in-Chain-clause-own : goal.returns-in-Chain-clause-own
returns-in-Chain-clause-own c = c.split_at-in-Chain.ensures.front ∙ ap (take 1) c.as_slice-in-Chain.ensures ∙ ap (λ (r : Row). own_entries (Some (row_form r))) (sym c.in-Chain.is)

pub returns-in-Chain-clause-below : goal.returns-in-Chain-clause-below
returns-in-Chain-clause-below c = c.split_at-in-Chain.ensures.back ∙ ap (drop 1) c.as_slice-in-Chain.ensures ∙ ap (λ (r : Row). rows_below (Some (row_form r))) (sym c.in-Chain.is)

pub unreachable-requires : goal.unreachable-requires
unreachable-requires c = trie-or-chain c.args.row.now c.requires.trie c.in_default.not-Trie c.in_default.not-Chain
