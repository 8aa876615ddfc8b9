-- What containers read as under other links.
use Rattle.std.specs.Prelude.{◌≡◌, ℕ, List, map}
use Rattle.std.specs.List.{All}
use Rattle.std.specs.declared.cmp.Ordering.{Ordering}
use Rattle.node_heap.specs.Links.{Reaches}
use Rattle.node_heap.specs.Forms.{Forms, links_in}
use Rattle.rrb_core.specs.Seq.{height_in, seq, IsWellShaped}
use Rattle.champ_chain.specs.Entry.{Entry, entry, key_at}
use Rattle.champ_trie.specs.Trie.{IsCanonTo}
use Rattle.champ_trie.specs.Walk.{rows_from, entries_of}
use Rattle.pool_text.specs.Renaming.{IsRenamed}

-- the entry under its new link
abbrev pub moved : {K : Type 0} → (ℕ → ℕ) → Entry K → Entry K
moved f e = entry e.key (f e.link)

-- what is read of the new links is what was read of these links
abbrev pub AreReadTheSame : {X : Type 0} → (ℕ → ℕ) → List ℕ → (ℕ → X) → (ℕ → X) → Type 0
AreReadTheSame f ks was now = All (λ k. now (f k) ≡ was k) ks

module _ {K : Type 0} (X : Type 0) (f : ℕ → ℕ) (G H : Forms K) (l : ℕ) where
  -- a vector under other links has the new links of its elements, whatever is read of them, and keeps the fill rule
  pub record VectorReadsTheSame : Type 0 where
    pub height : height_in H (f l) ≡ height_in G l
    pub elements : seq H (f l) ≡ map f (seq G l)
    pub reached : All (λ k. Reaches (links_in G) l k) (seq G l)
    pub readings : (was now : ℕ → X) → AreReadTheSame f (seq G l) was now → map now (seq H (f l)) ≡ map was (seq G l)
    pub shaped : IsWellShaped G l → IsWellShaped H (f l)

  -- a trie under other links has the new links of its entries in the order of the walk, whatever is read of them, and is the
  -- canonical trie of these entries
  pub record TrieReadsTheSame : Type 0 where
    pub key : key_at H (f l) ≡ key_at G l
    pub entries : (n : ℕ) → entries_of H (rows_from n H (f l)) ≡ map f (entries_of G (rows_from n G l))
    pub reached : (n : ℕ) → All (λ k. Reaches (links_in G) l k) (entries_of G (rows_from n G l))
    pub readings : (n : ℕ) (was now : ℕ → X) → AreReadTheSame f (entries_of G (rows_from n G l)) was now → map now (entries_of H (rows_from n H (f l))) ≡ map was (entries_of G (rows_from n G l))
    pub canonical : (cmp : K → K → Ordering) (code : K → ℕ) (deepest : ℕ) (E : List (Entry K)) → IsCanonTo cmp code deepest G l E → IsCanonTo cmp code deepest H (f l) (map (moved f) E)

-- a vector reads the same wherever its rows are renamed
abbrev pub VectorsReadTheSame : Type 0 → Type 0 → Type 0
VectorsReadTheSame K X = (f : ℕ → ℕ) (G H : Forms K) (l : ℕ) → IsRenamed f G H l → VectorReadsTheSame X f G H l

-- a trie reads the same wherever its rows are renamed
abbrev pub TriesReadTheSame : Type 0 → Type 0 → Type 0
TriesReadTheSame K X = (f : ℕ → ℕ) (G H : Forms K) (l : ℕ) → IsRenamed f G H l → TrieReadsTheSame X f G H l
