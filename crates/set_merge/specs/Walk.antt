-- Inside: the walk of a merge.
use Rattle.std.specs.Prelude.{◌≡◌, ℕ, suc, ◌+◌, ◌<◌, ◌≤◌, true, false, List, [], ◌∷◌, length, Some}
use Rattle.std.specs.declared.cmp.Ordering.{Ordering}
use Rattle.elem_core.specs.declared.codes.TheConstants.{LEVELS}
use Rattle.node_heap.specs.Links.{count}
use Rattle.node_heap.specs.Forms.{Form, Forms}
use Rattle.node_heap.specs.Heap.{Heap, form_at}
use Rattle.node_heap.specs.Calls.{Builds}
use Rattle.champ_chain.specs.Entry.{Entry, entry, IsEntry, AreDistinct}
use Rattle.champ_chain.specs.Chain.{AreChainRows, IsRising}
use Rattle.champ_trie.specs.Trie.{AreSets, IsTrie, IsPlace, part}
use Rattle.champ_trie.specs.declared.place.Place.{Place}
use Rattle.champ_trie.specs.declared.place.Place.TheVariants.{Empty, Entry as At, Node}
use Rattle.set_merge.specs.declared.keeps.Keeps.{Keeps}
use Rattle.set_merge.specs.declared.merged.Merged.{Merged}
use Rattle.set_merge.specs.declared.spread.Spread.{Spread}
use Rattle.set_merge.specs.Spread.{place_merged, new_links, standing}
use Rattle.set_merge.specs.Side.{place_below, settled}
use Rattle.set_merge.specs.Need.{sum_below, need_unless, rows_need}

-- each form of the first stands in the second too
abbrev pub AreKept : {K : Type 0} → Forms K → Forms K → Type 0
AreKept {K} F G = (l : ℕ) (f : Form K) → F l ≡ Some f → G l ≡ Some f

module _ {K : Type 0} (F : Forms K) where
  -- a run of entries: none, one, or the chain rows of some
  abbrev pub IsRun : Place → List (Entry K) → Type 0
  IsRun Empty es = es ≡ []
  IsRun (At x) es = (key : K) × (es ≡ entry key x ∷ []) × IsEntry F (entry key x)
  IsRun (Node l) es = AreChainRows F (Some l) es

  -- a run in rising order of the keys
  pub record IsRisingRun (cmp : K → K → Ordering) (place : Place) (es : List (Entry K)) : Type 0 where
    pub run : IsRun place es
    pub rising : IsRising cmp es

module _ {K : Type 0} (cmp : K → K → Ordering) (code : K → ℕ) (F : Forms K) where
  -- the place has these entries, from a depth down: one is alone, others stand in a trie
  abbrev pub HasBelow : ℕ → ℕ → Place → List (Entry K) → Type 0
  HasBelow left depth Empty E = E ≡ []
  HasBelow left depth (At x) E = (key : K) × (E ≡ entry key x ∷ []) × IsEntry F (entry key x)
  HasBelow left depth (Node l) E = IsTrie cmp code F left depth l E

  -- two places from one depth down, with these entries
  pub record AreSides (left depth : ℕ) (a b : Place) (E D : List (Entry K)) : Type 0 where
    pub levels : depth + left ≡ LEVELS
    pub first : HasBelow left depth a E
    pub second : HasBelow left depth b D
    pub distinct : AreDistinct cmp E
    pub other_distinct : AreDistinct cmp D

  -- what stands at one position of two rows of a depth, for these entries
  pub record ArePlaces (left depth : ℕ) (x y : Place) (E D : List (Entry K)) : Type 0 where
    pub levels : depth + suc left ≡ LEVELS
    pub first : IsPlace F (λ l P. IsTrie cmp code F left (suc depth) l P) x E
    pub second : IsPlace F (λ l P. IsTrie cmp code F left (suc depth) l P) y D
    pub distinct : AreDistinct cmp E
    pub other_distinct : AreDistinct cmp D

  -- what stands at each of the first positions stands for the entries with that digit
  abbrev pub HavePlaces : ℕ → ℕ → ℕ → (ℕ → Place) → List (Entry K) → Type 0
  HavePlaces left depth n place M = (p : ℕ) → p < n → IsPlace F (λ l P. IsTrie cmp code F left (suc depth) l P) (place p) (part cmp code depth p M)

module _ {K : Type 0} (cmp : K → K → Ordering) (code : K → ℕ) (most : ℕ) (F : Forms K) (k : Keeps) where
  -- what two places at one position of a row of a depth need
  abbrev pub place_need : ℕ → ℕ → Place → Place → ℕ
  place_need left depth x y = need_unless (settled cmp F k x y) (λ _. rows_need cmp code most F k left (suc depth) x y)

  -- what a position of two places needs
  abbrev pub position_need : ℕ → ℕ → Place → Place → ℕ → ℕ
  position_need left depth a b p = place_need left depth (place_below code F depth a p) (place_below code F depth b p)

module _ {T : Type 0} (cmp : T → T → Ordering) (code : T → ℕ) (most : ℕ) (k : Keeps) where
  -- what was made of what stands at one position: it stands for these entries, its node is held if it is new, and no more rows came
  -- than the two places need
  pub record IsCome (F : Forms T) (old new : Heap T) (left depth : ℕ) (x y : Place) (M : List (Entry T)) (m : Merged) : Type 0 where
    pub builds : Builds old new [] (new_links m) 0 (place_need cmp code most F k left depth x y)
    pub place : IsPlace (form_at new) (λ l P. IsTrie cmp code (form_at new) left (suc depth) l P) (place_merged m) M

  -- the first so many positions of the merge of two places, as rows of a depth: they stand for these entries, the nodes that were
  -- made are held, and no more rows came than these positions need
  pub record IsSpread (F : Forms T) (old now : Heap T) (left depth : ℕ) (a b : Place) (M : List (Entry T)) (s : Spread) (n : ℕ) : Type 0 where
    pub sets : AreSets s.row.entries s.row.nodes s.row.links
    pub places : HavePlaces cmp code (form_at now) left depth n (standing s) M
    pub rest : (p : ℕ) → n ≤ p → p < 32 → standing s p ≡ Empty
    pub news : List ℕ
    pub builds : Builds old now [] news 0 (sum_below n (position_need cmp code most F k left depth a b))
    pub counted : (l : ℕ) → count l s.stood + count l news ≡ count l s.row.links
    pub few : length s.stood + length news ≤ n
    pub unmade : s.made ≡ false → news ≡ []
    pub made : s.made ≡ true → (p : ℕ) × (l : ℕ) × (p < n) × (standing s p ≡ Node l)
    pub as_first : s.as_first ≡ true → (p : ℕ) → p < n → standing s p ≡ place_below code F depth a p
    pub as_second : s.as_second ≡ true → (p : ℕ) → p < n → standing s p ≡ place_below code F depth b p
