-- What each edit in place makes of a vector, which goes by an owner of its root.
use Rattle.std.specs.Prelude.{◌≡◌, ℕ, ◌+◌, ◌-◌, ◌≤◌, [], ◌∷◌, ◌++◌, length, take, slice_index, slice_set}
use Rattle.node_heap.specs.Heap.{Heap, form_at, live_count}
use Rattle.node_heap.specs.Calls.{MakesWhatCame}
use Rattle.node_heap.specs.declared.owner.Owner.{Owner}
use Rattle.node_heap.specs.Owner.{owned, EditsBy, WritesOnly, WritesOnlyLeft, KeepsAlone, alone}
use Rattle.rrb_core.specs.Vector.{elements, height_at, IsVectorOf}
use Rattle.rrb_core.specs.Push.{IsPushedRoot}
use Rattle.edit_vec.specs.Path.{right_spine, set_path, push_path, pop_path}

module _ {T : Type 0} where
  -- the vector has the element at the index, and the one that stood there came back. As many rows came as the path has that aren't
  -- alone
  pub record SetsElement (owner : Owner) (old new : Heap T) (root index element given : ℕ) : Type 0 where
    pub vector : IsVectorOf new root (slice_set (elements old (owned old owner)) index element)
    pub back : given ≡ slice_index (elements old (owned old owner)) index
    pub edits : EditsBy owner old new root (element ∷ []) (given ∷ []) 0 (height_at old (owned old owner) + 1)
    pub path : KeepsAlone old (set_path (form_at old) (owned old owner) index) (set_path (form_at new) root index)
    pub gains : live_count new + alone old (set_path (form_at old) (owned old owner) index) ≡ live_count old + length (set_path (form_at old) (owned old owner) index)
    pub others : WritesOnly owner old new root (set_path (form_at old) (owned old owner) index)
    pub makes : MakesWhatCame old new

  -- the vector has the element after its last, in the row where a push puts it. No more rows came than its right spine has now beside the alone rows of the path
  pub record PushesElement (owner : Owner) (old new : Heap T) (root element : ℕ) : Type 0 where
    pub vector : IsVectorOf new root (elements old (owned old owner) ++ element ∷ [])
    pub rule : IsPushedRoot (form_at old) (form_at new) element (owned old owner) root
    pub edits : EditsBy owner old new root (element ∷ []) [] 0 (height_at old (owned old owner) + 2)
    pub path : KeepsAlone old (push_path (form_at old) (owned old owner)) (take (length (push_path (form_at old) (owned old owner))) (right_spine (form_at new) root))
    pub gains : live_count new + alone old (push_path (form_at old) (owned old owner)) ≤ live_count old + length (right_spine (form_at new) root)
    pub others : WritesOnly owner old new root (push_path (form_at old) (owned old owner))
    pub makes : MakesWhatCame old new

  -- the vector is without its last element, which came back
  pub record PopsElement (owner : Owner) (old new : Heap T) (root given : ℕ) : Type 0 where
    pub vector : IsVectorOf new root (take (length (elements old (owned old owner)) - 1) (elements old (owned old owner)))
    pub back : given ≡ slice_index (elements old (owned old owner)) (length (elements old (owned old owner)) - 1)
    pub edits : EditsBy owner old new root [] (given ∷ []) 0 (height_at old (owned old owner) + 1)
    pub path : KeepsAlone old (pop_path (form_at old) (owned old owner)) (take (length (pop_path (form_at old) (owned old owner))) (right_spine (form_at new) root))
    pub others : WritesOnlyLeft owner old new root (pop_path (form_at old) (owned old owner))
    pub made : new.made ≤ old.made + (length (pop_path (form_at old) (owned old owner)) - alone old (pop_path (form_at old) (owned old owner)))
