-- The entries below the root of a canonical trie are those that it has.
use Rattle.std.proofs.Common.{◌≡◌, ℕ, ◌+◌, ◌<◌, refl, ap, subst, ◌∙◌, arith, inl, inr, List, [], ◌∷◌, length, map, Option, Some, None, option_map}
use Rattle.std.specs.List.{filter_map, cons_option}
use Rattle.std.specs.Ordering.{nat_cmp}
use Rattle.std.specs.Cmp.Lexicographic.{slice_cmp}
use Rattle.node_heap.specs.Links.{LeadsDown}
use Rattle.node_heap.specs.Forms.{Forms, links_in}
use Rattle.champ_chain.specs.Entry.{Entry, entry, IsEntry, SameSet, same_none, same_first, same_turned, same_through}
use Rattle.champ_chain.proofs.SetLemmas.{Among, same-refl}
use Rattle.champ_trie.specs.Trie.{IsTrie}
use Rattle.champ_trie.specs.Walk.{rows_from, entries_of}
use Rattle.champ_trie.proofs.WalkLemmas.{trie-walk, trie-entries}
use Rattle.pool_text.specs.Rows.{Bytes}
use Rattle.pool_check.specs.Tries.{entry_at, entries_below}
use Rattle.pool_check.proofs.EntriesBelow.{rows-deep}

-- what is found at the elements of a list in any order
module _ {X Y : Type 0} (f : X → Option Y) where
  found-first : (o : Option Y) (xs ys : List Y) → SameSet xs ys → SameSet (cons_option o xs) (cons_option o ys)
  found-first None xs ys same = same
  found-first (Some z) xs ys same = same_first z xs ys same

  found-turned : (o p : Option Y) (xs : List Y) → SameSet (cons_option o (cons_option p xs)) (cons_option p (cons_option o xs))
  found-turned None p xs = same-refl (cons_option p xs)
  found-turned (Some y) None xs = same-refl (y ∷ xs)
  found-turned (Some y) (Some z) xs = same_turned y z xs

  found-any_order : (xs ys : List X) → SameSet xs ys → SameSet (filter_map f xs) (filter_map f ys)
  found-any_order _ _ same_none = same_none
  found-any_order _ _ (same_first x xs ys same) = found-first (f x) (filter_map f xs) (filter_map f ys) (found-any_order xs ys same)
  found-any_order _ _ (same_turned x y xs) = found-turned (f x) (f y) (filter_map f xs)
  found-any_order _ _ (same_through xs ys zs s t) = same_through _ _ _ (found-any_order xs ys s) (found-any_order ys zs t)

-- entries are what their links name
entries-back : (F : Forms Bytes) (E : List (Entry Bytes)) → ((e : Entry Bytes) → Among e E → IsEntry F e) → filter_map (entry_at F) (map (λ e. e.link) E) ≡ E
entries-back F [] each = refl
entries-back F (e ∷ es) each =
    ap (λ o. cons_option (option_map (λ key. entry key e.link) o) (filter_map (entry_at F) (map (λ e. e.link) es))) (each e (inl refl))
    ∙ ap (λ ys. e ∷ ys) (entries-back F es (λ d among. each d (inr among)))

module _ (F : Forms Bytes) (falls : LeadsDown (λ l. l) (links_in F)) (n : ℕ) (code : Bytes → ℕ) where
  pub entries-same : (left depth l : ℕ) (E : List (Entry Bytes)) → l < n → IsTrie (slice_cmp nat_cmp) code F left depth l E → SameSet (entries_below n F l) E
  unfolding entries_below
  entries-same left depth l E low is =
      let a : ℕ = left + length E + n in
      let walk : SameSet (entries_of F (rows_from a F l)) (map (λ e. e.link) E) = trie-walk (slice_cmp nat_cmp) code F left depth l E is a (length E) (omega arith) (omega arith) in
      let same : SameSet (entries_of F (rows_from n F l)) (map (λ e. e.link) E) = subst (λ rows. SameSet (entries_of F rows) (map (λ e. e.link) E)) (rows-deep F falls a n l (omega (arith, low)) low) walk in
      subst (λ es. SameSet (filter_map (entry_at F) (entries_of F (rows_from n F l))) es) (entries-back F E (trie-entries (slice_cmp nat_cmp) code F left depth l E is))
      (found-any_order (entry_at F) (entries_of F (rows_from n F l)) (map (λ e. e.link) E) same)
