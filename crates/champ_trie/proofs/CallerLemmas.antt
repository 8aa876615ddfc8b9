-- What a caller cites of tries.

-- what stays where rows are added, where all below a root is the same, and where only rows of vectors change
pub use Rattle.champ_trie.proofs.StayLemmas.{all-parts, all-same, at-link, canon-around, canon-extended, canon-live, canon-reach, canon-stays, forms-below, has-first, has-next, key-stays, node-link, rows-stay, trie-reach, trie-stays}
pub use Rattle.champ_trie.proofs.PartLemmas.{place-kept, row-kept, trie-kept, row-beside, trie-beside, canon-beside}
pub use Rattle.champ_trie.proofs.LeftLemmas.{KeepsTries-Extends, KeepsTries-same}
pub use Rattle.champ_trie.proofs.ShareLemmas.{row-at}
pub use Rattle.champ_trie.proofs.BesideLemmas.{shares-before, shares-itself}
-- sets of positions, and a row changed at one of them
pub use Rattle.champ_trie.proofs.BitLemmas.{bit-has, bit-no, count-rank, has-bit, has-none, rank-le, rank-lt, rank-mono, rank-none, rank-onto}
pub use Rattle.champ_trie.proofs.PlaceLemmas.{Changes, clear-entry, clear-node, entry-in, node-alone, node-in, place-empty, place-entry, place-free, place-node, put-entry, put-node, room, sets-short}
pub use Rattle.champ_trie.proofs.HoldLemmas.{count-at, read-place, read-sets, row-same}
pub use Rattle.champ_trie.proofs.RowLemmas.{place-linked, row-less, row-with, same-place-of, trie-moved}
-- the entries with a digit, when one is put in or taken out
pub use Rattle.champ_trie.proofs.PartLemmas.{below-part, count-filter, filter-turned, filter-within, others-distinct, others-elsewhere, part-alike, part-distinct, part-link, part-others, row-trie, stands-at}
pub use Rattle.champ_trie.proofs.WithLemmas.{IsAlone, alone, below-chain, below-more, chain-trie, eq-apart, part-elsewhere, part-here, put-apart, put-distinct, put-two}
pub use Rattle.champ_trie.proofs.LeftLemmas.{IsDeeper, canon-below, chain-place, deepest-alike, lone-gone, lone-place, more-left, node-chain, node-deeper, part-whole}
-- what stands where a code leads, and what a look-up finds there
pub use Rattle.champ_trie.proofs.ReachLemmas.{agreeing-none, alike-all, alike-none, alike-one, canon-empty, find-kept, link-empty, link-one, link-there, next-place, row-there, trie-chain}
-- the walk, the rows below a row, and the one set of a trie
pub use Rattle.champ_trie.proofs.WalkLemmas.{canon-fit, rows-all, trie-entries, trie-walk}
pub use Rattle.champ_trie.proofs.BelowLemmas.{ChildAt, Stands, Under, among-passes, at-counted, chain-reach, child-at, child-link, child-stands, counted-at, link-child, once-fits, one-counted, one-digit, rows-reached, reached-rows, row_after, stands-deeper, stands-reach, stands-under, trie-opened, trie-stands, trie-under, under-entry, under-trans}
pub use Rattle.champ_trie.proofs.GatherLemmas.{entries-gather, entry_links, gather, gather-same, node_links, nodes-gather, parts-whole, same-both, same-is, same-map, same-swap}
pub use Rattle.champ_trie.proofs.CanonLemmas.{AreMatched, Match, follows-trees, has-one-set, names-keys, same-lift, same-sets, takes-any-order, trees-inside, trees-none, tries-match}
pub use Rattle.champ_trie.proofs.SimilarLemmas.{similar-entries-tell}
pub use Rattle.champ_trie.proofs.TreeLemmas.{in-order}
