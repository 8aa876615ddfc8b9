-- Laws of chains.
use Rattle.std.specs.Prelude.{◌≡◌, ℕ, List, Option}
use Rattle.std.specs.declared.cmp.Ordering.{Ordering}
use Rattle.std.specs.declared.cmp.Ordering.TheVariants.{Equal}
use Rattle.node_heap.specs.Forms.{Forms}
use Rattle.champ_chain.specs.Entry.{Entry}
use Rattle.champ_chain.specs.Chain.{AreChainRows, AreBelow}

-- the chain rows from a link on have one list of entries
abbrev pub RowsHaveOneList : Type 0 → Type 0
RowsHaveOneList K = (F : Forms K) (l : Option ℕ) (es ds : List (Entry K)) → AreChainRows F l es → AreChainRows F l ds → es ≡ ds

-- entries with smaller keys than one key have smaller keys than each that the order calls equal to it
abbrev pub SmallerKeysFollowOrder : {K : Type 0} → (K → K → Ordering) → Type 0
SmallerKeysFollowOrder {K} cmp = (j k : K) → cmp j k ≡ Equal → (es : List (Entry K)) → AreBelow cmp k es → AreBelow cmp j es
