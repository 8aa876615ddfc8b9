-- The entries below the rows that wait, the last row first.
use Rattle.std.proofs.Common.{◌≡◌, ℕ, suc, ◌+◌, ◌<◌, refl, ap, ◌∙◌, arith, List, [], ◌∷◌, ◌++◌, length, reverse}
use Rattle.std.specs.List.{flat_map, sum_by}
use Rattle.std.proofs.lemmas.List.{reverse-append, reverse-reverse}
use Rattle.std.proofs.lemmas.List.Sums.{sum_by-append, sum_by-cons}
use Rattle.std.proofs.lemmas.List.Concat.{length-flat_map}
use Rattle.std.proofs.lemmas.Grind.{flat_map-append}
use Rattle.node_heap.specs.Links.{LeadsDown}
use Rattle.node_heap.specs.Forms.{Forms, links_in}
use Rattle.champ_chain.specs.Entry.{Entry}
use Rattle.champ_trie.specs.Walk.{rows_from, rows_below}
use Rattle.pool_text.specs.Rows.{Bytes}
use Rattle.pool_check.specs.Tries.{entries_below}
use Rattle.pool_check.proofs.EntriesBelow.{rows-is}

module _ (n : ℕ) (F : Forms Bytes) where
  abbrev pub entries_waiting : List ℕ → List (Entry Bytes)
  entries_waiting ws = flat_map (entries_below n F) (reverse ws)

  abbrev pub rows_waiting : List ℕ → ℕ
  rows_waiting ws = sum_by (λ l. length (rows_from n F l)) ws

  pub waiting-last : (ws : List ℕ) (l : ℕ) → entries_waiting (ws ++ l ∷ []) ≡ entries_below n F l ++ entries_waiting ws
  waiting-last ws l = ap (flat_map (entries_below n F)) (reverse-append ws (l ∷ []))

  pub waiting-turned : (ws ls : List ℕ) → entries_waiting (ws ++ reverse ls) ≡ flat_map (entries_below n F) ls ++ entries_waiting ws
  waiting-turned ws ls =
      ap (flat_map (entries_below n F)) (reverse-append ws (reverse ls) ∙ ap (λ ks. ks ++ reverse ws) (reverse-reverse ls)) ∙ flat_map-append (entries_below n F) ls (reverse ws)

module _ (F : Forms Bytes) (falls : LeadsDown (λ l. l) (links_in F)) (n l : ℕ) (low : l < n) where
  -- one row fewer waits once its rows wait in its place
  pub rows-fewer : (ws : List ℕ) → rows_waiting n F (ws ++ l ∷ []) ≡ 1 + rows_waiting n F (ws ++ reverse (rows_below (F l)))
  rows-fewer ws =
      let size : ℕ → ℕ = λ k. length (rows_from n F k) in
      let here : length (rows_from n F l) ≡ suc (sum_by size (rows_below (F l))) = ap length (rows-is F falls n l low) ∙ ap suc (length-flat_map (rows_from n F) (rows_below (F l))) in
      omega (arith, sum_by-append size ws (l ∷ []), sum_by-cons size l [], sum_by-append size ws (reverse (rows_below (F l))), here, sum-turned size (rows_below (F l)))
    where
      sum-turned : (f : ℕ → ℕ) (ks : List ℕ) → sum_by f (reverse ks) ≡ sum_by f ks
      sum-turned f [] = refl
      sum-turned f (k ∷ ks) =
          let last : reverse (k ∷ []) ≡ k ∷ [] = refl in
          ap (sum_by f) (reverse-append (k ∷ []) ks ∙ ap (λ xs. reverse ks ++ xs) last) ∙ omega (arith, sum_by-append f (reverse ks) (k ∷ []), sum_by-cons f k [], sum_by-cons f k ks, sum-turned f ks)
