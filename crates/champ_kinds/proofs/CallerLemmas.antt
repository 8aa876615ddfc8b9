-- What a caller cites of maps and sets.

-- what stays where rows stay
pub use Rattle.champ_kinds.proofs.StayLemmas.{container-stays, containers-extended, containers-unchanged, entries-extended, entries-seen, map-live, map-reaches, map-seen, maps-kept, maps-stay, set-live, set-reaches, set-seen, sets-kept, sets-stay}
-- a map of cells, and what it says after an edit
pub use Rattle.champ_kinds.proofs.SaysLemmas.{nothing-below, rooted-same, says-below, says-left, says-none, says-opened, says-put, says-seen, says-still, there}
pub use Rattle.champ_kinds.proofs.FindLemmas.{bound-here, bound-other, unbound-here, unbound-other, value-all}
-- the one map of a root, in any order
pub use Rattle.champ_kinds.proofs.LawLemmas.{map-any_order, root-one_map, root-one_set}
-- the entries of a map, beside its bindings
pub use Rattle.champ_kinds.proofs.PairLemmas.{IsFound, absent-map, absent-pairs, absent-trie, alike-pairs, found-pairs, link-none, others-none, others-pairs, others-same}
pub use Rattle.champ_kinds.proofs.PairRows.{links-read, pair-live}
pub use Rattle.champ_kinds.proofs.ZipLemmas.{all-turned, one-to-one-turned, zip-all, zip-as, zip-flip, zip-follows, zip-length, zip-unique}
pub use Rattle.champ_kinds.proofs.EditLemmas.{at-ok, cells-kept, if-some, not-err, pairs-kept}
