-- What a caller cites of entries and chains.

-- sets of entries, in any order
pub use Rattle.champ_chain.proofs.SetLemmas.{Among, count-cons, same-among, same-count, same-filter, same-find, same-length, same-middle, same-one, same-refl, same-sym}
-- keys in order
pub use Rattle.champ_chain.proofs.RisingLemmas.{above-drop, above-less, above-same, below-push, cases_Ordering, find-none, greater_flip, less_flip, less_irrefl, rising-distinct, rising-left, rising-once, rising-right, rising-unique, same-distinct}
-- what stays where rows are added, or where only rows of vectors change
pub use Rattle.champ_chain.proofs.FrameLemmas.{KeepsForms, KeepsOthers, is_of_vector, others-kept, forms-kept, forms-same, form-live, links-form, rows-live, key-kept, rows-kept, key-beside, rows-beside, chain-beside}
-- a key's place in a chain
pub use Rattle.champ_chain.proofs.SpotLemmas.{FirstRow, first-row, row-entry, row-next, rows-none, same-key, same-order}
pub use Rattle.champ_chain.proofs.PartsLemmas.{before-le, chain-with, find-chain, find-parts, found-chain, others-parts, rising-without, take-before}
-- rows over rows
pub use Rattle.champ_chain.proofs.CopyLemmas.{chain-form, chain-live, copy-one, drop-next, held-one, key-live, more-rows, one_at-other, one_at-same, rows-empty, rows-over, take-front, take-halves}
pub use Rattle.champ_chain.proofs.RowLemmas.{below-same, rows-only}
pub use Rattle.champ_chain.proofs.OldLemmas.{gained-live, in-one, in-two, old-owners, row-reaches}
pub use Rattle.champ_chain.proofs.WithLemmas.{cell-key, err-not-ok, key-some, not-ok}
