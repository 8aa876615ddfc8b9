use Rattle.std.proofs.Common.{arith, ◌≡◌, ◌∙◌, ap, sym, ℕ, List, [], ◌∷◌, ◌++◌, length, map, Bor, eqb-true}
use Rattle.std.proofs.lemmas.List.{nil_from_length}
use Rattle.node_heap.specs.Heap.{Heap, form_at}
use Rattle.champ_trie.specs.Walk.{own_entries, entries_of}
use Rattle.champ_trie.specs.Stack.{rows_on, next_first, walk_left}
use Rattle.champ_trie.proofs.walk.EntriesIterator.next.Goals as goal

-- nothing is left
none-left : {T : Type 0} (h : Heap T) (own : List ℕ) (rows : List (Bor (List ℕ))) → length own ≡ 0 → rows ≡ [] → walk_left h own (map (λ r. r.now) rows) ≡ []
none-left h own rows none empty = ap (λ xs. xs ++ entries_of (form_at h) (rows_on h (next_first (map (λ r. r.now) rows)))) (nil_from_length own none) ∙ ap (λ (s : List (Bor (List ℕ))). entries_of (form_at h) (rows_on h (next_first (map (λ r. r.now) s)))) empty

-- a row's own entries take the place of the row
row-left : {T : Type 0} (h : Heap T) (own more : List ℕ) (old new : List (List ℕ)) (l : ℕ) → length own ≡ 0 → more ≡ own_entries (form_at h l) → rows_on h (next_first old) ≡ l ∷ rows_on h (next_first new) → walk_left h own old ≡ walk_left h more new
row-left h own more old new l none is goes =
    ap (λ xs. xs ++ entries_of (form_at h) (rows_on h (next_first old))) (nil_from_length own none)
    ∙ ap (entries_of (form_at h)) goes
    ∙ ap (λ xs. xs ++ entries_of (form_at h) (rows_on h (next_first new))) (sym is)

pub returns-in_err-self-inside-clause-steps : goal.returns-in_err-self-inside-clause-steps
returns-in_err-self-inside-clause-steps g c =
    let own = c.loop-self.self-inside.own.now in
    let h = c.loop-self.self-inside.heap.now in
    let none : length own ≡ 0 = eqb-true (length own) 0 (sym c.loop-self-test.ensures) in
    let empty = c.in_err-self-inside.ensures.row in
    rw c.from_residual.ensures (c.loop-self.invariant.left ∙ none-left h own c.loop-self.self-inside.rows.items none empty.0, none-left h own c.next_row.new.rows.items none empty.1)

pub loop-self-smaller : goal.loop-self-smaller
loop-self-smaller g c = let size : List ℕ → ℕ = length in omega (arith, ap size c.in_ok-self-inside.ensures.row.2)

pub loop-self-preserved : goal.loop-self-preserved
loop-self-preserved g c =
    let own = c.loop-self.self-inside.own.now in
    let none : length own ≡ 0 = eqb-true (length own) 0 (sym c.loop-self-test.ensures) in
    let row = c.in_ok-self-inside.ensures.row in
    record {
      stack = c.in_ok-self-inside.ensures.stack;
      left = c.loop-self.invariant.left ∙ row-left c.loop-self.self-inside.heap.now own c.in_ok-self-inside.field-0.now (map (λ r. r.now) c.loop-self.self-inside.rows.items) (map (λ r. r.now) c.next_row.new.rows.items) row.0 none row.1 row.2;
    }
