-- Tries that are congruent, row by row.
use Rattle.std.specs.Prelude.{◌≡◌, ℕ, ◌+◌, List, [], ◌∷◌, Some}
use Rattle.std.specs.List.{All}
use Rattle.std.specs.declared.cmp.Ordering.{Ordering}
use Rattle.elem_core.specs.declared.codes.TheConstants.{LEVELS}
use Rattle.node_heap.specs.Forms.{Forms, Kind, node}
use Rattle.champ_chain.specs.Entry.{Entry}
use Rattle.champ_chain.specs.Chain.{AreChainRows, IsRising}
use Rattle.champ_trie.specs.Trie.{IsTrie}

module _ {K : Type 0} (F : Forms K) (IsSame : ℕ → ℕ → Type 0) where
  mutual
    -- the links name entries that are the same, or rows of one kind whose links are congruent
    pub data Congruent : ℕ → ℕ → Type 0 where
      congruent_entries : (l m : ℕ) → IsSame l m → Congruent l m
      congruent_rows : (l m : ℕ) (kind : Kind) (ls ks : List ℕ) → F l ≡ Some (node kind ls) → F m ≡ Some (node kind ks) → AreCongruent ls ks → Congruent l m

    -- as many links on both sides, congruent one by one
    pub data AreCongruent : List ℕ → List ℕ → Type 0 where
      congruent_none : AreCongruent [] []
      congruent_then : (l m : ℕ) (ls ks : List ℕ) → Congruent l m → AreCongruent ls ks → AreCongruent (l ∷ ls) (m ∷ ks)

module _ {K : Type 0} (cmp : K → K → Ordering) (F : Forms K) (IsGood : ℕ → Type 0) where
  -- the trie from a depth down, or the chain below the deepest row, of good entries
  pub record IsFrom (code : K → ℕ) (depth l : ℕ) : Type 0 where
    pub left : ℕ
    pub entries : List (Entry K)
    pub levels : depth + left ≡ LEVELS
    pub trie : IsTrie cmp code F left depth l entries
    pub good : All (λ e. IsGood e.link) entries

  -- the rows of a chain of good entries
  pub record IsChainFrom (l : ℕ) : Type 0 where
    pub entries : List (Entry K)
    pub rows : AreChainRows F (Some l) entries
    pub rising : IsRising cmp entries
    pub good : All (λ e. IsGood e.link) entries
