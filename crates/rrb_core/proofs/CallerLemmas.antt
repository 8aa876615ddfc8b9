-- What a caller's proof cites of vectors, in one place.
-- vectors that stay, and what is reached from them
pub use Rattle.rrb_core.proofs.ClosedRows.{Stays}
pub use Rattle.rrb_core.proofs.Stays.{live-stays, live-stays-by, below-stays, vector-stays, good-stays, extended-same, extended-good}
pub use Rattle.rrb_core.proofs.BuildLemmas.{unchanged-good, answered-same}
pub use Rattle.rrb_core.proofs.ElementLemmas.{seq-reached, elements-reached, elements-stay, vectors-of-vectors-stay, same-vectors-follow}
-- rows that stay, by parts
pub use Rattle.rrb_core.proofs.Stays.{form-stays, links-stay, forms-stay, seq-stays, items-stay, thick-stays, all-thick-stay, well-stays, keeps-stay, sums-stay, rows-stay, row-stays}
pub use Rattle.rrb_core.proofs.SameRows.{thick-same, row-same}
-- what is live, and the links of a row by its form
pub use Rattle.rrb_core.proofs.Stays.{links-form, form-live, well-live, seq-live}
-- holds and counts of links
pub use Rattle.rrb_core.proofs.LinkCounts.{one-same, count-split, count-part, count-at, all-counted, one-held}
pub use Rattle.rrb_core.proofs.BuildLemmas.{on-ok, builds-held, gained-held, same-height}
-- the fill rule
pub use Rattle.rrb_core.proofs.FillRule.{seq-le, seq-leaf, height-is, well-most, well-pos, links-some, thick-links, thick-low}
pub use Rattle.rrb_core.proofs.RowSizes.{not-empty-count, not-empty-before, rows-not-empty, items-of-rows, items-before, first-fewer, each-named}
-- inner rows by their children, and rows one after the other
pub use Rattle.rrb_core.proofs.RowLists.{IsOver, over, IsChild, child-at, at-place, last-place, keeps, keeps-some, good-row, root-row}
pub use Rattle.rrb_core.proofs.RowLists.{no-rows, one-row, one-items, rows-append, rows-take, rows-drop, rows-around, rows-live, take-thick, leaf-thick, inner-thick}
-- rows of each height
pub use Rattle.rrb_core.proofs.LevelLemmas.{rows-own, rows-inner, rows-past, rows-few, rows-kept, all-kept, rows-of-same, front-of-height, takes-whole, takes-after}
-- packed rows, and an edit's last element
pub use Rattle.rrb_core.proofs.PushLemmas.{packed-leaf, packed-thick, pushed-root-same, all-last}
pub use Rattle.rrb_core.proofs.EditLemmas.{IsSpot, leaf-items, pushed-last}
-- lists of links, cut at a place, and running sums
pub use Rattle.rrb_core.proofs.Lists.{empty-list, one-list, take-past, front-last, child-short, flat_map-same, set-parts}
pub use Rattle.rrb_core.proofs.Lists.{items-cut, items-around, items-front, items-drop, items-set, last-sum, each-push, regular-of, regular-before}
