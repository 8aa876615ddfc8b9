-- How many rows a merge needs.
use Rattle.std.specs.Prelude.{ℕ, zero, suc, ◌+◌, List, [], ◌∷◌, length, Option, None, Some, nat_eq, ◌==◌, if◌then◌else◌}
use Rattle.std.specs.List.{filter}
use Rattle.std.specs.declared.cmp.Ordering.{Ordering}
use Rattle.elem_core.specs.declared.codes.TheConstants.{LEVELS}
use Rattle.node_heap.specs.Links.{count}
use Rattle.node_heap.specs.Forms.{Forms}
use Rattle.node_heap.specs.Heap.{Heap, form_at, row_limit}
use Rattle.champ_trie.specs.Trie.{code_by}
use Rattle.champ_trie.specs.Walk.{rows_from}
use Rattle.champ_trie.specs.declared.place.Place.{Place}
use Rattle.champ_trie.specs.declared.place.Place.TheVariants.{Empty, Entry as At, Node}
use Rattle.set_merge.specs.declared.keeps.Keeps.{Keeps}
use Rattle.set_merge.specs.declared.keeps.TheConstants.{UNION, BOTH, LESS}
use Rattle.set_merge.specs.Side.{place_below, settled}

-- those of the links that aren't among the others
abbrev pub not_among : List ℕ → List ℕ → List ℕ
not_among links others = filter (λ l. nat_eq (count l others) 0) links

-- the numbers from 0 below the bound, added up
unfoldable pub sum_below : ℕ → (ℕ → ℕ) → ℕ
sum_below zero f = 0
sum_below (suc n) f = sum_below n f + f n

-- nothing where the answer is there already, and else this
abbrev pub need_unless : Option Place → (ℕ → ℕ) → ℕ
need_unless (Some place) more = 0
need_unless None more = more 0

module _ {K : Type 0} (most : ℕ) (F : Forms K) where
  -- the chain rows from a place on, an entry alone in place of one
  abbrev pub run_rows : Place → List ℕ
  run_rows Empty = []
  run_rows (At x) = x ∷ []
  run_rows (Node l) = rows_from most F l

  -- the chain rows of each that the other hasn't
  abbrev pub chains_need : Place → Place → ℕ
  chains_need a b = length (not_among (run_rows a) (run_rows b)) + length (not_among (run_rows b) (run_rows a))

module _ {K : Type 0} (cmp : K → K → Ordering) (code : K → ℕ) (most : ℕ) (F : Forms K) (k : Keeps) where
  -- from a depth down, a row for the two places and for each position below at which both have something and not the same, so that
  -- one has to look further
  unfoldable pub rows_need : ℕ → ℕ → Place → Place → ℕ
  rows_need zero depth a b = chains_need most F a b
  rows_need (suc left) depth a b =
      1 + sum_below 32 (λ p. need_unless (settled cmp F k (place_below code F depth a p) (place_below code F depth b p)) (λ _. rows_need left (suc depth) (place_below code F depth a p) (place_below code F depth b p)))

module _ {T : Type 0} (cmp : T → T → Ordering) (code : T → ℕ) where
  -- the rows that a merge of two roots by so many bits needs, over forms
  abbrev pub need_by : Keeps → Forms T → ℕ → ℕ → ℕ → ℕ
  need_by k F bits a b = if a == b then (if k.both then 0 else 1) else rows_need cmp (code_by code bits) row_limit F k LEVELS 0 (Node a) (Node b)

  -- the same in a heap
  abbrev pub merge_need : Keeps → Heap T → ℕ → ℕ → ℕ → ℕ
  merge_need k h bits a b = need_by k (form_at h) bits a b

  -- what each of the merges needs
  abbrev pub union_need : Forms T → ℕ → ℕ → ℕ → ℕ
  union_need F bits a b = need_by UNION F bits a b

  abbrev pub both_need : Forms T → ℕ → ℕ → ℕ → ℕ
  both_need F bits a b = need_by BOTH F bits a b

  abbrev pub less_need : Forms T → ℕ → ℕ → ℕ → ℕ
  less_need F bits a b = need_by LESS F bits a b
