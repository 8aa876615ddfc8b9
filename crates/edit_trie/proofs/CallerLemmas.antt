-- What a caller's proofs cite: each lemma speaks of the words of the contracts alone.

-- what an edit keeps, by the rows that it writes
pub use Rattle.edit_trie.proofs.LawLemmas.{edits-keep-values, cuts-keep-values, cuts-keep-held}
-- a later change at a key's own pair
pub use Rattle.edit_trie.proofs.LawLemmas.{pair-changes-bind, pair-changes-keep-values}
-- the entry of a key, and its binding
pub use Rattle.edit_trie.proofs.MapLemmas.{found-link, zip-found}
