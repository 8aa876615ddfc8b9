-- What an insertion does to the entries of a map.
use Rattle.std.specs.Prelude.{◌≡◌, ℕ, List, [], ◌∷◌, Some, None}
use Rattle.std.specs.declared.cmp.Ordering.{Ordering}
use Rattle.std.specs.declared.cmp.Ordering.TheVariants.{Equal}
use Rattle.node_heap.specs.Forms.{node, pair}
use Rattle.node_heap.specs.Heap.{Heap, form_at}
use Rattle.champ_chain.specs.Entry.{Entry, link_with, others}
use Rattle.champ_kinds.specs.Root.{Root}
use Rattle.champ_kinds.specs.Binding.{binding}
use Rattle.champ_kinds.specs.Kinds.{IsPair, HasEntries}

-- the root has the given entries with other keys, each in its place, and one of the key: a pair of its cell and this value; the
-- key that was there has its old cell
pub record PutsPair {T : Type 0} (cmp : T → T → Ordering) (code : T → ℕ) (old new : Heap T) (r : Root) (E : List (Entry T)) (key : T) (value : ℕ) : Type 0 where
  pub entry : Entry T
  pub entries : HasEntries cmp code new r (entry ∷ others cmp key E)
  pub same_key : cmp key entry.key ≡ Equal
  pub is_pair : IsPair (form_at new) entry (binding entry.key value)
  pub old_cell : (x cell before : ℕ) → link_with cmp key E ≡ Some x → form_at old x ≡ Some (node pair (cell ∷ before ∷ [])) → is_pair.key_cell ≡ cell
  pub new_key : link_with cmp key E ≡ None → entry.key ≡ key
