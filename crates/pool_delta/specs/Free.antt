-- Inside: which places of a chain's rows are free.
use Rattle.std.specs.Prelude.{◌≡◌, ℕ, ◌+◌, ◌++◌, not, ◌&&◌, List, [], ◌∷◌, reverse, Option, Some, None, nat_eq, if◌then◌else◌}
use Rattle.std.specs.List.{list_any}
use Rattle.std.specs.String.{string_bytes}
use Rattle.std.specs.declared.vec.Vec.{Vec}
use Rattle.indexmap.specs.IndexMap.{get}
use Rattle.node_heap.specs.Forms.{Form, Kind, cell, node, leaf, inner, trie, chain, pair, state}
use Rattle.pool_text.specs.Rows.{Bytes}
use Rattle.pool_delta.specs.Forms.{same_form}
use Rattle.pool_delta.specs.Delta.{Placing}
use Rattle.pool_delta.specs.declared.free.FreePlaces.{FreePlaces}
use Rattle.pool_delta.specs.declared.free.NodeKind.{NodeKind}
use Rattle.pool_delta.specs.declared.free.NodeKind.TheVariants as kinds
use Rattle.pool_delta.specs.declared.free.RowKey.{RowKey}
use Rattle.pool_delta.specs.declared.free.RowKey.TheVariants as keys
use Rattle.pool_delta.specs.contracts.free.RowKeyPartialEq.TheImpl as same

abbrev pub kind_form : NodeKind → Kind
kind_form kinds.Leaf = leaf
kind_form (kinds.Inner height) = inner height
kind_form (kinds.Trie depth entries nodes) = trie depth entries nodes
kind_form kinds.Chain = chain
kind_form kinds.Pair = pair
kind_form kinds.State = state

abbrev pub key_form : RowKey → Form Bytes
key_form (keys.Cell text) = cell (string_bytes text)
key_form (keys.Node kind links) = node (kind_form kind) links.items

-- the places, from this one on, of the rows like this that aren't taken, rising
abbrev pub free_from : List ℕ → Form Bytes → ℕ → List (Form Bytes) → List ℕ
free_from taken row place [] = []
free_from taken row place (r ∷ rows) = if same_form row r && not (list_any (nat_eq place) taken) then place ∷ free_from taken row (place + 1) rows else free_from taken row (place + 1) rows

abbrev pub stacked : {A : Type 0} → Option (Vec ℕ A) → List ℕ
stacked None = []
stacked (Some stack) = stack.items

-- the free places of rows like this, the first one last
abbrev pub stack_of : FreePlaces → RowKey → List ℕ
stack_of free key = stacked (get (same.ghosts).eq free.stacks key)

-- these are the free places of the rows, of which the first has this place: of each row, the first on top of its stack
abbrev pub AreFreeFrom : ℕ → List (Form Bytes) → List ℕ → FreePlaces → Type 0
AreFreeFrom place rows taken free = (key : RowKey) → stack_of free key ≡ reverse (free_from taken (key_form key) place rows)

abbrev pub AreFree : List (Form Bytes) → List ℕ → FreePlaces → Type 0
AreFree rows taken free = AreFreeFrom 0 rows taken free

-- one row more stands before them
abbrev pub Puts : FreePlaces → RowKey → ℕ → FreePlaces → Type 0
Puts old key place new = (rows : List (Form Bytes)) → AreFreeFrom (place + 1) rows [] old → AreFreeFrom place (key_form key ∷ rows) [] new

-- what is left once the first free place of a row like this is taken, if there is one
abbrev pub Takes : List (Form Bytes) → List ℕ → Form Bytes → FreePlaces → Option ℕ → Type 0
Takes rows taken row new None = (free_from taken row 0 rows ≡ []) × AreFree rows taken new
Takes rows taken row new (Some place) = ((more : List ℕ) × (free_from taken row 0 rows ≡ place ∷ more)) × AreFree rows (taken ++ place ∷ []) new

-- these are the places, the pool's own rows and the free places of the placing
pub record Holds (rows : List (Form Bytes)) (g : Placing) (places : List ℕ) (own : List (Form Bytes)) (free : FreePlaces) : Type 0 where
  pub places_are : places ≡ g.places
  pub own_are : own ≡ g.own
  pub free_are : AreFree rows g.places free
