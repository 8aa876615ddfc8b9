-- Where the digits of a code lead in a trie.
use Rattle.std.specs.Prelude.{◌≡◌, ℕ, ◌*◌, ◌%◌, ◌^◌, nat_eq, List, count_by}
use Rattle.std.specs.List.{filter}
use Rattle.std.specs.declared.cmp.Ordering.{Ordering}
use Rattle.elem_core.specs.declared.codes.TheConstants.{LEVELS}
use Rattle.node_heap.specs.Forms.{Forms}
use Rattle.champ_chain.specs.Entry.{Entry}
use Rattle.champ_chain.specs.Chain.{IsChain}
use Rattle.champ_trie.specs.Trie.{IsPlace, code_by}
use Rattle.champ_trie.specs.declared.place.Place.{Place}
use Rattle.champ_trie.specs.declared.place.Place.TheVariants.{Node}

module _ {K : Type 0} (code : K → ℕ) where
  -- the entries whose code has the same digits above a depth
  abbrev pub agreeing : ℕ → ℕ → List (Entry K) → List (Entry K)
  agreeing depth c E = filter (λ e. nat_eq (code e.key % 2 ^ (5 * depth)) (c % 2 ^ (5 * depth))) E

  -- the code has the same digits above the depth as that of each entry
  abbrev pub Agrees : ℕ → ℕ → List (Entry K) → Type 0
  Agrees depth c E = agreeing depth c E ≡ E

  -- the number of entries with this code
  abbrev pub alike_in : ℕ → List (Entry K) → ℕ
  alike_in c E = count_by (λ e. nat_eq (code e.key) c) E

  -- the digits of a code lead to this place: of the entries that agree with it so far there is none, or one, or they are
  -- the chain of all entries with that code
  pub record LeadsTo (cmp : K → K → Ordering) (F : Forms K) (E : List (Entry K)) (c : ℕ) (place : Place) : Type 0 where
    pub depth : ℕ
    pub deep : (l : ℕ) → place ≡ Node l → depth ≡ LEVELS
    pub stands : IsPlace F (λ l P. IsChain cmp F l P) place (agreeing depth c E)

-- how many of the keys share this key's code, as far as so many bits tell
abbrev pub alike_to : {K : Type 0} → (K → ℕ) → ℕ → K → List (Entry K) → ℕ
alike_to code bits key E = alike_in (code_by code bits) (code_by code bits key) E
