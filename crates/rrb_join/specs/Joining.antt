-- What two rows are joined to: the links of one row or of two, or these rows themselves.
use Rattle.std.specs.Prelude.{◌≡◌, ℕ, suc, ◌+◌, ◌*◌, ◌≤◌, List, [], ◌++◌, length}
use Rattle.std.specs.List.{flat_map}
use Rattle.node_heap.specs.Heap.{Heap, form_at, links_at}
use Rattle.node_heap.specs.Calls.{Builds}
use Rattle.rrb_core.specs.Seq.{seq_at, IsThick}
use Rattle.rrb_join.specs.Seam.{JoinsBelow, KeepsBeneath}
use Rattle.rrb_join.specs.Unmade.{AreUnmade, AreThick}

module _ {T : Type 0} where
  -- `ls`, which one row of the height `above` may hold or two, have the elements of the row `left` of height n and then those of the row
  -- `right` of height k, of which neither is higher than `height`. `row_links` are the links of the rows of `height`: no fewer than each
  -- side of that height has, and where both have it no more than both together. At most two rows for each height below `above` are made.
  pub record Joins (old new : Heap T) (n left k right height above : ℕ) (ls row_links : List ℕ) : Type 0 where
    pub links : AreUnmade new above ls (seq_at (form_at old) n left ++ seq_at (form_at old) k right)
    pub thick : k ≡ height → IsThick (form_at old) height right → AreThick new above ls
    pub left_wide : n ≡ height → length (links_at old left) ≤ length row_links
    pub right_wide : k ≡ height → length (links_at old right) ≤ length row_links
    pub few : n ≡ height → k ≡ height → length row_links ≤ length (links_at old left) + length (links_at old right)
    pub seam : JoinsBelow old new n left k right above ls
    pub keeps : KeepsBeneath old new n left k right above ls
    pub builds : Builds old new [] ls 0 (2 * above)

  -- these are links of one row of `height` or of two, which aren't made yet
  abbrev pub JoinsToLinks : Heap T → Heap T → ℕ → ℕ → ℕ → ℕ → ℕ → List ℕ → Type 0
  JoinsToLinks old new n left k right height ls = Joins old new n left k right height height ls ls

  -- these are one row of `height` or two
  abbrev pub JoinsToRows : Heap T → Heap T → ℕ → ℕ → ℕ → ℕ → ℕ → List ℕ → Type 0
  JoinsToRows old new n left k right height rows = Joins old new n left k right height (suc height) rows (flat_map (links_at new) rows)
