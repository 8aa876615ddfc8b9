-- Inside: the merge of chains.
use Rattle.std.specs.Prelude.{◌≡◌, ◌≢◌, ℕ, ◌+◌, ◌≤◌, List, ◌∷◌, ◌++◌, length, take, drop, Option, Some, None, option_to_list}
use Rattle.std.specs.List.{All}
use Rattle.std.specs.declared.cmp.Ordering.{Ordering}
use Rattle.std.specs.declared.cmp.Ordering.TheVariants.{Less}
use Rattle.node_heap.specs.Forms.{Forms, node, chain}
use Rattle.node_heap.specs.Heap.{Heap}
use Rattle.node_heap.specs.Calls.{Builds}
use Rattle.champ_chain.specs.Entry.{Entry, SameSet}
use Rattle.champ_chain.specs.Chain.{AreBelow, IsRising}
use Rattle.champ_trie.specs.declared.place.Place.{Place}
use Rattle.champ_trie.specs.declared.place.Place.TheVariants.{Empty, Entry as At, Node}
use Rattle.set_merge.specs.declared.keeps.Keeps.{Keeps}
use Rattle.set_merge.specs.declared.chains.Fronts.{Fronts}
use Rattle.set_merge.specs.declared.merged.Merged.{Merged}
use Rattle.set_merge.specs.declared.merged.Merged.TheVariants.{Old, New}
use Rattle.set_merge.specs.Merge.{merged}
use Rattle.set_merge.specs.Spread.{place_merged, new_links}
use Rattle.set_merge.specs.Walk.{IsRun, IsRisingRun}

-- the run of the rows from a link on, if any
abbrev pub place_from : Option ℕ → Place
place_from None = Empty
place_from (Some l) = Node l

-- the row that an entry alone wants once another comes before it
abbrev pub waiting : Merged → ℕ
waiting (Old Empty) = 0
waiting (Old (At x)) = 1
waiting (Old (Node l)) = 0
waiting (New l) = 0

-- a run that was made has two entries or more
abbrev pub IsLong : {K : Type 0} → Merged → List (Entry K) → Type 0
IsLong (Old place) es = Unit {0}
IsLong (New l) es = 2 ≤ length es

module _ {K : Type 0} (F : Forms K) where
  -- the run after the first entry of another
  abbrev pub IsRest : Place → Place → Type 0
  IsRest Empty rest = ⊥
  IsRest (At x) rest = rest ≡ Empty
  IsRest (Node l) rest = (x : ℕ) × (next : Option ℕ) × (F l ≡ Some (node chain (x ∷ option_to_list next))) × (rest ≡ place_from next)

  -- what was merged is the run of these entries
  pub record IsMergedRun (m : Merged) (es : List (Entry K)) : Type 0 where
    pub run : IsRun F (place_merged m) es
    pub long : IsLong m es

  module _ (cmp : K → K → Ordering) where
    -- the fronts are some of the first entries of two runs
    pub record AreFrontsOf (fronts : Fronts) (es ds : List (Entry K)) : Type 0 where
      pub first : IsRisingRun F cmp fronts.a es
      pub second : IsRisingRun F cmp fronts.b ds
      pub number : fronts.first ≤ length es
      pub other_number : fronts.second ≤ length ds

    -- and all that comes after has greater keys
    pub record AreFronts (fronts : Fronts) (after : Merged) (es ds ts : List (Entry K)) : Type 0 where
      pub fronts_of : AreFrontsOf fronts es ds
      pub run_after : IsMergedRun after ts
      pub rising : IsRising cmp (take fronts.first es ++ ts)
      pub other_rising : IsRising cmp (take fronts.second ds ++ ts)

    -- the run has what is kept of the fronts, and then these
    pub record IsBefore (k : Keeps) (m : Merged) (fronts : Fronts) (es ds ts : List (Entry K)) : Type 0 where
      pub kept : List (Entry K)
      pub same : SameSet kept (merged cmp k (take fronts.first es) (take fronts.second ds))
      pub is_run : IsMergedRun m (kept ++ ts)
      pub rising : IsRising cmp (kept ++ ts)

    -- the keys of the early fronts are below some key, and those of the late ones aren't
    pub record AreHalves (fronts early late : Fronts) (es ds : List (Entry K)) : Type 0 where
      pub a : early.a ≡ fronts.a
      pub b : early.b ≡ fronts.b
      pub firsts : early.first + late.first ≡ fronts.first
      pub seconds : early.second + late.second ≡ fronts.second
      pub late_a : IsRun F late.a (drop early.first es)
      pub late_b : IsRun F late.b (drop early.second ds)
      pub key : K
      pub below : AreBelow cmp key (take early.first es)
      pub other_below : AreBelow cmp key (take early.second ds)
      pub from : All (λ e. cmp e.key key ≢ Less) (take late.first (drop early.first es))
      pub other_from : All (λ d. cmp d.key key ≢ Less) (take late.second (drop early.second ds))

-- a run was made before another one, of so many entries at most: for each a row, and one for an entry that waited
pub record IsOver {T : Type 0} (old new : Heap T) (after m : Merged) (most : ℕ) : Type 0 where
  pub rows : ℕ
  pub few : rows + waiting m ≤ most + waiting after
  pub none : most ≡ 0 → rows ≡ 0
  pub builds : Builds old new (new_links after) (new_links m) 0 rows
