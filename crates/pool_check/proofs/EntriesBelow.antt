-- The entries below a row: its own, and then those below its rows.
use Rattle.std.proofs.Common.{◌≡◌, ℕ, zero, suc, ◌<◌, List, [], ◌∷◌, ◌++◌, refl, ap, ◌∙◌, arith}
use Rattle.std.specs.Prelude.{Option, Some, None, option_map, option_to_list}
use Rattle.std.specs.List.{filter_map, flat_map, All, cons_option}
use Rattle.std.proofs.lemmas.List.Elements.{All-drop, filter_map-append}
use Rattle.std.proofs.lemmas.Grind.{flat_map-append}
use Rattle.node_heap.specs.Links.{LeadsDown}
use Rattle.node_heap.specs.Forms.{Forms, links_in}
use Rattle.rrb_core.proofs.Lists.{flat_map-same}
use Rattle.rrb_core.proofs.LinkCounts.{all-counted}
use Rattle.champ_chain.specs.Entry.{Entry, entry, key_at}
use Rattle.champ_trie.specs.Walk.{rows_from, entries_of, own_entries, rows_below, entry_count}
use Rattle.pool_text.specs.Rows.{Bytes}
use Rattle.pool_check.specs.Tries.{entry_at, entries_below}

module _ (F : Forms Bytes) where
  -- an entry for each link that names one
  abbrev pub own : ℕ → List (Entry Bytes)
  own k = option_to_list (entry_at F k)

  pub own-is : (k : ℕ) (key : Bytes) → key_at F k ≡ Some key → own k ≡ entry key k ∷ []
  own-is k key is = ap (λ o. option_to_list (option_map (λ x. entry x k) o)) is

module _ (F : Forms Bytes) (falls : LeadsDown (λ l. l) (links_in F)) where
  pub rows-low : (l : ℕ) → All (λ k. k < l) (rows_below (F l))
  rows-low l = All-drop (λ k. k < l) (entry_count (F l)) (links_in F l) (all-counted (λ k. k < l) (links_in F l) (λ k some. falls l k some))

  pub rows-deep : (n m l : ℕ) → l < n → l < m → rows_from n F l ≡ rows_from m F l
  unfolding rows_from
  rows-deep zero m l low low' = absurd (omega (arith, low))
  rows-deep (suc n) zero l low low' = absurd (omega (arith, low'))
  rows-deep (suc n) (suc m) l low low' =
      ap (λ ks. l ∷ ks) (flat_map-same (rows_from n F) (rows_from m F) (rows_below (F l)) (λ i d lt. let below = rows-low l i d lt in rows-deep n m _ (omega (arith, below, low)) (omega (arith, below, low'))))

  pub rows-is : (n l : ℕ) → l < n → rows_from n F l ≡ l ∷ flat_map (rows_from n F) (rows_below (F l))
  unfolding rows_from
  rows-is zero l low = absurd (omega (arith, low))
  rows-is (suc n) l low =
      ap (λ ks. l ∷ ks) (flat_map-same (rows_from n F) (rows_from (suc n) F) (rows_below (F l)) (λ i d lt. let below = rows-low l i d lt in rows-deep n (suc n) _ (omega (arith, below, low)) (omega (arith, below, low))))

  own-map : (xs : List ℕ) → filter_map (entry_at F) xs ≡ flat_map (own F) xs
  own-map [] = refl
  own-map (x ∷ xs) = by_entry (entry_at F x) (own-map xs)
    where
      by_entry : (o : Option (Entry Bytes)) → filter_map (entry_at F) xs ≡ flat_map (own F) xs → cons_option o (filter_map (entry_at F) xs) ≡ option_to_list o ++ flat_map (own F) xs
      by_entry None e = e
      by_entry (Some y) e = ap (λ ys. y ∷ ys) e

  module _ (n : ℕ) where
    entries-map : (ks : List ℕ) → filter_map (entry_at F) (entries_of F (flat_map (rows_from n F) ks)) ≡ flat_map (entries_below n F) ks
    unfolding entries_below
    entries-map [] = refl
    entries-map (k ∷ ks) =
        ap (filter_map (entry_at F)) (flat_map-append (λ l. own_entries (F l)) (rows_from n F k) (flat_map (rows_from n F) ks))
        ∙ filter_map-append (entry_at F) (entries_of F (rows_from n F k)) (entries_of F (flat_map (rows_from n F) ks))
        ∙ ap (λ es. entries_below n F k ++ es) (entries-map ks)

    -- a row's own entries, and then those below its rows in turn
    pub entries-is : (l : ℕ) → l < n → entries_below n F l ≡ flat_map (own F) (own_entries (F l)) ++ flat_map (entries_below n F) (rows_below (F l))
    unfolding entries_below
    entries-is l low =
        ap (λ rows. filter_map (entry_at F) (entries_of F rows)) (rows-is n l low)
        ∙ filter_map-append (entry_at F) (own_entries (F l)) (entries_of F (flat_map (rows_from n F) (rows_below (F l))))
        ∙ ap (λ es. es ++ filter_map (entry_at F) (entries_of F (flat_map (rows_from n F) (rows_below (F l))))) (own-map (own_entries (F l)))
        ∙ ap (λ es. flat_map (own F) (own_entries (F l)) ++ es) (entries-map (rows_below (F l)))
