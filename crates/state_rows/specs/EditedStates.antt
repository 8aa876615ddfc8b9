-- What an edit in place of a state makes.
use Rattle.std.specs.Prelude.{◌≡◌, ℕ, ◌+◌, ◌-◌, ◌^◌, ◌<◌, ◌≤◌, List, [], ◌∷◌, length, min}
use Rattle.champ_trie.specs.declared.TheConstants.{ADD_NODES}
use Rattle.std.specs.Ordering.{nat_cmp}
use Rattle.std.specs.Cmp.Lexicographic.{slice_cmp}
use Rattle.elem_core.specs.Codes.{text_code}
use Rattle.node_heap.specs.Links.{count, Reaches}
use Rattle.node_heap.specs.Heap.{Heap, links_at, holds_at, owners_at, live_count}
use Rattle.node_heap.specs.Calls.{HasHolds, KeepsBelow, KeepsToNeed, MakesJust, Trades}
use Rattle.node_heap.specs.InPlace.{child_at, OwnsDown, Changes}
use Rattle.node_heap.specs.declared.owner.Owner.TheVariants.{Hold as by_hold, Child as by_place}
use Rattle.node_heap.specs.Owner.{alone, EditsBy, KeepsBeside}
use Rattle.edit_trie.specs.Path.{pair_path}
use Rattle.shell_terms.specs.Edit.{Bytes}
use Rattle.plain_space.specs.Workspace.{State, with_lines}
use Rattle.plain_space.specs.Cost.{alike_buffers}
use Rattle.state_rows.specs.InHeap.{AreLinesIn, IsStateIn}

-- the number made rises by at most so many more than the rows gain
abbrev pub MakesAtMost : {T : Type 0} → Heap T → Heap T → ℕ → Type 0
MakesAtMost old new more = new.made + live_count old ≤ old.made + live_count new + more

-- the rows below a state row on the way to the pair of a buffer's name and its lines, and that pair
abbrev pub lines_path : Heap Bytes → ℕ → ℕ → Bytes → List ℕ
lines_path h bits row name = pair_path (slice_cmp nat_cmp) text_code h bits name (child_at h row 0)

-- the number made rises by just the rows of the path that aren't alone, up to its greatest value
abbrev pub CopiesOfPath : Heap Bytes → Heap Bytes → List ℕ → Type 0
CopiesOfPath old new path = new.made ≡ min (old.made + (length path - alone old path)) (2 ^ 64 - 1)

-- Inside: a link that is held besides a state's row stays, with all that it reaches, and a change at the pair that spends its hold is an
-- edit by the state's
pub record StaysBeside (old new : Heap Bytes) (bits state row : ℕ) (s : State) (name : Bytes) (pair l : ℕ) : Type 0 where
  pub held : 0 < holds_at new l
  pub row_held : count row (l ∷ []) < holds_at new row
  pub below : KeepsBelow old new l
  pub apart : ¬ Reaches (links_at new) l pair
  pub edits : (next : Heap Bytes) (gained : List ℕ) (c n : ℕ) → Changes pair new next (l ∷ []) gained c n → EditsBy (by_hold state) old next row (l ∷ []) gained (0 + c) (1 + (ADD_NODES + alike_buffers bits s name + n))

-- Inside: a state's row, of which the old one's hold is spent, has one owner, and so have the pair of a buffer's name and its lines and
-- each row on the way to it; the state is the same, and any change at the pair that puts another vector there makes the state with these
-- lines
pub record OwnsLines (old new : Heap Bytes) (bits state row : ℕ) (s : State) (name : Bytes) (xs : List Bytes) (pair : ℕ) : Type 0 where
  pub sole : owners_at new pair ≡ 1
  pub two : 1 < length (links_at new pair)
  pub down : OwnsDown new row pair
  pub lines : AreLinesIn new bits (child_at new pair 1) xs
  pub trades : Trades old new (state ∷ []) (row ∷ []) 0 (1 + (ADD_NODES + alike_buffers bits s name))
  pub live : live_count old ≤ live_count new
  pub made : MakesJust old new
  pub spares : KeepsToNeed old new 0 0
  pub copies : owners_at old state ≡ 1 → CopiesOfPath old new (lines_path old bits state name)
  pub besides : (l : ℕ) → HasHolds old (state ∷ l ∷ []) → StaysBeside old new bits state row s name pair l
  pub later : (next : Heap Bytes) (v : ℕ) (ys : List Bytes) (spent gained : List ℕ) (c n : ℕ) → Changes pair new next spent gained c n → count row spent < holds_at new row → KeepsBeside (by_place pair 1) v (λ _. 0) new next
      → AreLinesIn next bits v ys → IsStateIn next bits row (with_lines s name ys)
