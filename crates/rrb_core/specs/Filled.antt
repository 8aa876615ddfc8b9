-- Rows over given elements, each full but the last of its height.
use Rattle.std.specs.Prelude.{◌≡◌, ℕ, suc, ◌+◌, ◌*◌, ◌/◌, ◌^◌, ◌<◌, ◌≤◌, List, [], ◌∷◌, length, take}
use Rattle.std.specs.List.{flat_map}
use Rattle.node_heap.specs.Heap.{Heap, form_at, node_count}
use Rattle.node_heap.specs.Calls.{Builds}
use Rattle.rrb_core.specs.Seq.{seq_at}
use Rattle.rrb_core.specs.Build.{IsRowOf, AreRows}

module _ {T : Type 0} where
  -- the row k of height n has these elements, for which their holds were spent; it was made of at most a node for 16 of them and
  -- one for each height, and of at most one less than a node for 16 where it is full
  pub record MakesFilled (old new : Heap T) (links : List ℕ) (n k : ℕ) : Type 0 where
    pub row : IsRowOf new n k links
    pub builds : Builds old new links (k ∷ []) 0 (length links / 16 + (n + 1))
    pub full : length links ≡ 32 ^ suc n → (node_count new + 1) * 16 ≤ node_count old * 16 + length links

  -- the rows ks of height n have the first `done` of these elements, and are full where that are not all
  pub record MakesRows (old new : Heap T) (links : List ℕ) (n done : ℕ) (ks : List ℕ) : Type 0 where
    pub rows : AreRows new n ks
    pub items : flat_map (seq_at (form_at new) n) ks ≡ take done links
    pub even : done < length links → done ≡ length ks * 32 ^ suc n
    pub some : length ks ≤ done
    pub most : length ks ≤ 32
    pub builds : Builds old new (take done links) ks 0 (done / 16 + (n + 1))
    pub full : done ≡ length ks * 32 ^ suc n → (node_count new + length ks) * 16 ≤ node_count old * 16 + done
