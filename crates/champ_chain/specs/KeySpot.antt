-- Where a key belongs in a chain.
use Rattle.std.specs.Prelude.{◌≡◌, List, ◌++◌, Option, length, option_to_list, option_map, IfSome}
use Rattle.std.specs.declared.cmp.Ordering.{Ordering}
use Rattle.std.specs.declared.cmp.Ordering.TheVariants.{Equal}
use Rattle.node_heap.specs.Forms.{Forms}
use Rattle.champ_chain.specs.Entry.{Entry}
use Rattle.champ_chain.specs.Chain.{AreChainRows, AreBelow, AreAbove}
use Rattle.champ_chain.specs.declared.spot.KeySpot.{KeySpot}

-- the entries with smaller keys, the one with the key if there is one, and those with greater keys
pub record Parts {K : Type 0} (cmp : K → K → Ordering) (key : K) (es : List (Entry K)) : Type 0 where
  pub smaller : List (Entry K)
  pub equal : Option (Entry K)
  pub greater : List (Entry K)
  pub in_order : es ≡ smaller ++ (option_to_list equal ++ greater)
  pub are_smaller : AreBelow cmp key smaller
  pub is_equal : IfSome equal (λ e. cmp key e.key ≡ Equal)
  pub are_greater : AreAbove cmp key greater

-- the spot has the number of the smaller keys, the entry with the key, and the rows of the greater ones
pub record IsKeySpot {K : Type 0} (cmp : K → K → Ordering) (F : Forms K) (es : List (Entry K)) (key : K) (spot : KeySpot) : Type 0 where
  pub parts : Parts cmp key es
  pub before : length parts.smaller ≡ spot.before
  pub found : option_map (λ e. e.link) parts.equal ≡ spot.found
  pub rest : AreChainRows F spot.rest parts.greater
