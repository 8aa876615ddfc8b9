-- What a caller's proofs cite: each lemma speaks of the words of the contracts alone.

-- counts of links
pub use Rattle.node_heap.proofs.Counts.{count-cons, one_at-flip, test_same, test_other, le-sum_by, sum_by-same, sum_by-fewer, get_or-map_default}
pub use Rattle.node_heap.proofs.BuildLemmas.{count-cons as count-link, count-one, count-append}
pub use Rattle.node_heap.proofs.Edited.{count-at}
pub use Rattle.node_heap.proofs.Rewritten.{held-one}
pub use Rattle.node_heap.proofs.OwnerLemmas.{count-two, found-at, left-at, insert-removed}
-- what a link reaches, and around which rows
pub use Rattle.node_heap.proofs.Reach.{Reaches-then, Reaches-trans, Reaches-by, Reaches-same, Reaches-within, SameBelow-link, HasLink-same}
pub use Rattle.node_heap.proofs.Ways.{Reaches-last, Reaches-avoids, Reaches-around, ReachesAround-then, ReachesAround-trans, ReachesAround-same, IsSolePath-Reaches, around-path}
-- what a link unfolds to
pub use Rattle.node_heap.proofs.Trees.{IsTree-unique, SameBelow-links, links_of-form, map-same}
-- what every heap keeps: no cycles, an owner of each row, and a row at each link
pub use Rattle.node_heap.proofs.GraphLemmas.{IsGraph-acyclic, IsGraph-kinds, IsGraph-owned, linked-places}
pub use Rattle.node_heap.proofs.Frames.{Reaches-live}
pub use Rattle.node_heap.proofs.Edited.{linked_live, linked-node, above_live, IsOwners-heap}
-- steps that only add rows, one after the other
pub use Rattle.node_heap.proofs.Frames.{Extends-refl, Extends-trans, Extends-row, Extends-rows, Extends-form, Extends-kept, Extends-Unchanged}
pub use Rattle.node_heap.proofs.Frames.{Makes-trans, Unchanged-refl, Answered-Unchanged, IsTree-Adds, IsTree-Extends, apart-held}
pub use Rattle.node_heap.proofs.BuildLemmas.{Makes-refl, Builds-refl, Builds-cell, Builds-node, Builds-hold, Builds-then, Builds-both, Builds-beside, Builds-more, Builds-as, Builds-held}
pub use Rattle.node_heap.proofs.BuildLemmas.{Builds-made, Builds-MakesJust, Builds-spare_cells, Builds-spare_nodes, Builds-Answered, Answered-Builds}
pub use Rattle.node_heap.proofs.RoomLemmas.{KeepsToNeed-refl, KeepsToNeed-more, KeepsToNeed-then, KeepsToNeed-reserved, KeepsToNeed-Builds, KeepsToNeed-Releases, Builds-KeepsToNeed}
-- a row that is made of another, which is a node where it has a link
pub use Rattle.node_heap.proofs.Changed.{node-long}
-- steps that free rows
pub use Rattle.node_heap.proofs.Frames.{KeepsBelow-trans, KeepsBelow-Releases, KeepsHeld-trans, KeepsHeld-then, KeepsHeld-Extends, KeepsHeld-Releases, IsTree-KeepsHeld}
pub use Rattle.node_heap.proofs.Frames.{Balances-trans, Balances-Makes, Balances-Releases}
-- changes at a row with one owner
pub use Rattle.node_heap.proofs.Edited.{Changes-then, Changes-both, Changes-more, Changes-path, Changes-follow, Changes-beside, Trades-Builds, Trades-both, Trades-more}
pub use Rattle.node_heap.proofs.Edited.{KeepsBelow-apart, KeepsBelow-sibling, KeepsPaths-owned, KeepsPaths-ways, OwnsDown-child, Reaches-back}
pub use Rattle.node_heap.proofs.EditLaws.{Changes-Builds, Changes-Releases, Changes-Unchanged, Changes-hold, KeepsHeld-own, Gains-trans, Gains-Builds, Gains-Changes, MakesJust-Gains}
pub use Rattle.node_heap.proofs.EditLaws.{leaf-one, new-reach, owned-live, paths-off, roots-off}
pub use Rattle.node_heap.proofs.Owners.{KeepsOwners-Unchanged}
-- edits by an owner: a hold, or a place of a row with one owner
pub use Rattle.node_heap.proofs.OwnerLemmas.{EditsBy-hold, EditsBy-place, EditsBy-more, EditsBy-Unchanged, KeepsHeld-EditsBy, held-root, rows-placed, relinked-is}
pub use Rattle.node_heap.proofs.OwnedRows.{IsOwned, Owns, owns, owned-hold, owned-same, graph-before, after-room, held-mid, apart-mid, makes-came, to-need}
pub use Rattle.node_heap.proofs.OwnedChild.{OwnsChild, apart-child, child-linked, gains-child, own-apart, own-below, own-beneath, own-child-there, own-down, own-held, own-linked, only-one, own-there, owned-child, owns-child, parent-same, sole-before}
pub use Rattle.node_heap.proofs.RootLemmas.{apart-room, can-room, handed, held-room, is-owned, makes-gained, needs-gained, root-held, root-placed, root-room, up-room}
pub use Rattle.node_heap.proofs.BesideOwner.{beside-in, held-is, off-root, same-below}
-- paths of which some rows are alone
pub use Rattle.node_heap.proofs.AloneLemmas.{alone-yes, alone-no, alone-same, alone-own, alone-copied, written-cons, written-own}
pub use Rattle.node_heap.proofs.AloneLemmas.{KeepsAlone-none, KeepsAlone-cons, KeepsAlone-own, KeepsAlone-owners}
pub use Rattle.node_heap.proofs.BesidePath.{IsDown, down-end, down-then, off-written, written-above, off-first, off-path, others-beside, others-below, left-below, left-held}
