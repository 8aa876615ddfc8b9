-- An element of a whole vector was set.
use Rattle.node_heap.proofs.AloneLemmas.{alone-own}
use Rattle.std.proofs.Common.{◌≡◌, ℕ, ◌+◌, ◌<◌, ◌≤◌, List, [], ◌∷◌, length, get_or, set, ap, ◌∙◌, arith, length-set}
use Rattle.std.specs.Prelude.{option_map}
use Rattle.node_heap.specs.Links.{HasLink, here}
use Rattle.node_heap.specs.Forms.{form_of}
use Rattle.node_heap.specs.Heap.{Heap, form_at, links_at, live_count}
use Rattle.node_heap.specs.InPlace.{other_at}
use Rattle.node_heap.specs.declared.owner.Owner.{Owner}
use Rattle.node_heap.specs.Owner.{owned, alone, KeepsAlone, WritesOnly}
use Rattle.node_heap.proofs.OwnerLemmas.{EditsBy-more}
use Rattle.rrb_core.specs.Seq.{seq_at}
use Rattle.rrb_core.specs.Vector.{elements, height_at, IsGoodVector}
use Rattle.rrb_core.specs.Build.{IsRowOf}
use Rattle.rrb_core.proofs.FillRule.{height-is}
use Rattle.rrb_core.proofs.RowLists.{good-row}
use Rattle.edit_vec.specs.Path.{rows_over, set_path}
use Rattle.node_heap.specs.Calls.{MakesWhatCame}
use Rattle.edit_vec.specs.Edit.{SetsElement}
use Rattle.edit_vec.specs.Steps.{SetsIn}
use Rattle.edit_vec.proofs.PathLemmas.{rows_below, rows-below, below-linked, below-same, below-stays}
use Rattle.node_heap.proofs.OwnedRows.{IsOwned}
use Rattle.edit_vec.proofs.TopLemmas.{stays-owned, row-is, row-owned, wide-owned, path-owned, others-owned}

module _ {T : Type 0} {owner : Owner} {old mid new : Heap T} {r n index e given : ℕ} (o : IsOwned owner old mid r) (good : IsGoodVector old (owned old owner)) (height : n ≡ height_at old (owned old owner)) (inside : index < length (elements old (owned old owner))) (sub : SetsIn mid new n r index e given) where
  abbrev root : ℕ
  root = owned old owner

  inside-at : index < length (seq_at (form_at old) n root)
  inside-at = rw height inside

  abbrev tail : List ℕ
  tail = rows_below (form_at old) n root index

  next : 1 ≤ length tail → HasLink (links_at old) root (get_or tail 0 0)
  next some = below-linked old n root index inside-at some

  tail-moved : rows_below (form_at mid) n r index ≡ tail
  tail-moved = below-same (form_at mid) n r root index (ap (option_map form_of) (row-is o good height)) ∙ below-stays (stays-owned o good height) n root index (here root) inside-at

  row-set : IsRowOf new n r (set (elements old root) index e)
  row-set = rw (row-owned o good height).items at sub.row

  path-set : KeepsAlone old (set_path (form_at old) root index) (set_path (form_at new) r index)
  path-set =
      let was : KeepsAlone mid (r ∷ tail) (rows_over (form_at new) n r index) = rw (rows-below (form_at mid) n r index, tail-moved) at sub.path in
      let made : height_at new r ≡ n = height-is (form_at new) n r sub.row.well in
      rw (made, ← height, rows-below (form_at old) n root index) (path-owned o good height tail next (rows_over (form_at new) n r index) was)

  gains-set : live_count new + alone old (set_path (form_at old) root index) ≡ live_count old + length (set_path (form_at old) root index)
  gains-set =
      let below : live_count new + alone mid (r ∷ tail) ≡ live_count mid + length (r ∷ tail) = rw (rows-below (form_at mid) n r index, tail-moved) at sub.came in
      let own : alone mid (r ∷ tail) ≡ alone old (root ∷ tail) + other_at root r = alone-own old mid root r tail o.same o.sole o.owners o.graph next in
      let all : live_count new + alone old (root ∷ tail) ≡ live_count old + length (root ∷ tail) = omega (arith, below, own, o.came) in
      rw (← height, rows-below (form_at old) n root index) all

  others-set : WritesOnly owner old new r (set_path (form_at old) root index)
  others-set =
      let all : WritesOnly owner old new r (root ∷ tail) = others-owned o good height tail next new (λ m live off. sub.others m live (rw (rows-below (form_at mid) n r index, tail-moved) off)) in
      rw (← height, rows-below (form_at old) n root index) all

  pub sets-element : MakesWhatCame old new → SetsElement owner old new r index e given
  sets-element makes = record {
    vector = good-row new n r (set (elements old root) index e) row-set (omega (arith, height, good.shape.low)) (λ some. omega (arith, wide-owned o good height, sub.wide, good.shape.two (omega (arith, some, height)))) (omega (arith, length-set (elements old root) index e, good.shape.short));
    back = sub.back ∙ ap (λ (xs : List ℕ). get_or xs index 0) (row-owned o good height).items;
    edits = EditsBy-more 0 (height_at old root + 1) (o.edits new (e ∷ []) (given ∷ []) 0 n sub.changes) (omega arith) (omega (arith, height));
    path = path-set;
    gains = gains-set;
    others = others-set;
    makes = makes;
  }
