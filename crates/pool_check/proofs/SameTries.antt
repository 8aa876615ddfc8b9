-- The test of trie rows and chain rows under other links.
use Rattle.std.proofs.Common.{◌≡◌, ℕ, zero, suc, ◌+◌, ◌*◌, ◌%◌, ◌^◌, ◌<◌, ◌≤◌, Bool, ◌&&◌, ◌||◌, eqb, List, [], ◌∷◌, length, map, take, drop, Option, Some, None, option_map, refl, ap, ◌∙◌, arith}
use Rattle.std.specs.Prelude.{nat_le, is_some}
use Rattle.std.specs.List.{list_all, filter_map, cons_option}
use Rattle.std.proofs.lemmas.List.{length-map, take-map}
use Rattle.std.proofs.lemmas.List.Folds.{list_all-map}
use lib.Pointwise.{pointwise}
use Rattle.node_heap.specs.Links.{count, Reaches, here, LeadsDown}
use Rattle.node_heap.specs.Forms.{Form, Forms, cell, node, leaf, inner, trie, chain, pair, state, links_of, links_in}
use Rattle.node_heap.proofs.Counts.{test_same, count-cons}
use Rattle.champ_chain.specs.Entry.{Entry, entry, key_at}
use Rattle.champ_trie.specs.Bits.{rank}
use Rattle.champ_trie.specs.Walk.{rows_from, entries_of}
use Rattle.pool_text.specs.Rows.{Bytes}
use Rattle.pool_text.specs.Pool.{relink}
use Rattle.pool_text.specs.Renaming.{IsRenamed}
use Rattle.pool_text.proofs.Renamed.{renamed-links, renamed-link, renamed-below, count-map}
use Rattle.pool_check.specs.Readings.{moved}
use Rattle.pool_check.specs.Tries.{entry_at, entry_passes, first_key, is_before, is_sub_node, is_chain_row, entries_below, has_digit, is_entry_at, is_node_at, agree_above, are_branches, are_chained, are_apart, positions, all_same, is_canonical}
use Rattle.pool_check.proofs.EntriesBelow.{rows-deep}
use Rattle.pool_check.proofs.TrieReadings.{trie-reads-the-same}
use Rattle.pool_check.proofs.VectorReadings.{all-at}
use Rattle.pool_check.proofs.SameVectors.{and-same, count-take}

drop-map : (f : ℕ → ℕ) (n : ℕ) (ks : List ℕ) → drop n (map f ks) ≡ map f (drop n ks)
drop-map f zero ks = refl
drop-map f (suc n) [] = refl
drop-map f (suc n) (k ∷ ks) = drop-map f n ks

count-drop : (k i : ℕ) (ks : List ℕ) → count k (drop i ks) ≤ count k ks
count-drop k zero ks = omega arith
count-drop k (suc i) [] = omega arith
count-drop k (suc i) (x ∷ ks) = omega (arith, count-drop k i ks, count-cons k x ks)

-- a test in pairs with new links, and one with the old ones
pairs-same : (p q : ℕ → ℕ → Bool) (f : ℕ → ℕ) (ps ks : List ℕ) → ((x k : ℕ) → 0 < count k ks → p x (f k) ≡ q x k) → pointwise p ps (map f ks) ≡ pointwise q ps ks
pairs-same p q f [] [] each = refl
pairs-same p q f [] (k ∷ ks) each = refl
pairs-same p q f (x ∷ ps) [] each = refl
pairs-same p q f (x ∷ ps) (k ∷ ks) each =
    and-same (p x (f k)) (pointwise p ps (map f ks)) (q x k) (pointwise q ps ks) (each x k (omega (arith, count-cons k k ks, test_same k k refl)))
    (pairs-same p q f ps ks (λ y j some. each y j (omega (arith, count-cons j k ks, some))))

pub map-moved : {X : Type 0} (g : Entry Bytes → X) (f : ℕ → ℕ) (es : List (Entry Bytes)) → map g (map (moved f) es) ≡ map (λ e. g (moved f e)) es
map-moved g f [] = refl
map-moved g f (e ∷ es) = ap (λ ys. g (moved f e) ∷ ys) (map-moved g f es)

-- so many rows deep, or so many, where both are enough
pub deep-same : (F : Forms Bytes) → LeadsDown (λ l. l) (links_in F) → (n m l : ℕ) → l < n → l < m → entries_below n F l ≡ entries_below m F l
unfolding entries_below
deep-same F falls n m l low low' = ap (λ rows. filter_map (entry_at F) (entries_of F rows)) (rows-deep F falls n m l low low')

module _ (f : ℕ → ℕ) where
  sub-same : (deepest depth : ℕ) (r : Option (Form Bytes)) → is_sub_node deepest depth (option_map (relink f) r) ≡ is_sub_node deepest depth r
  sub-same deepest depth None = refl
  sub-same deepest depth (Some (cell x)) = refl
  sub-same deepest depth (Some (node leaf ks)) = refl
  sub-same deepest depth (Some (node (inner h) ks)) = refl
  sub-same deepest depth (Some (node (trie d e m) ks)) = refl
  sub-same deepest depth (Some (node chain ks)) = ap (λ n. eqb depth deepest && eqb n 2) (length-map ks f)
  sub-same deepest depth (Some (node pair ks)) = refl
  sub-same deepest depth (Some (node state ks)) = refl

  chain-same : (r : Option (Form Bytes)) → is_chain_row (option_map (relink f) r) ≡ is_chain_row r
  chain-same None = refl
  chain-same (Some (cell x)) = refl
  chain-same (Some (node leaf ks)) = refl
  chain-same (Some (node (inner h) ks)) = refl
  chain-same (Some (node (trie d e m) ks)) = refl
  chain-same (Some (node chain ks)) = refl
  chain-same (Some (node pair ks)) = refl
  chain-same (Some (node state ks)) = refl

  module _ (G H : Forms Bytes) where
    pub key-same : (l : ℕ) → IsRenamed f G H l → key_at H (f l) ≡ key_at G l
    key-same l image = (trie-reads-the-same f G H l image ℕ).key

    entry-same : (l : ℕ) → IsRenamed f G H l → entry_at H (f l) ≡ option_map (moved f) (entry_at G l)
    entry-same l image = ap (option_map (λ key. entry key (f l))) (key-same l image) ∙ by_key (key_at G l)
      where
        by_key : (o : Option Bytes) → option_map (λ key. entry key (f l)) o ≡ option_map (moved f) (option_map (λ key. entry key l) o)
        by_key None = refl
        by_key (Some key) = refl

    filter-same : (ks : List ℕ) → ((k : ℕ) → 0 < count k ks → IsRenamed f G H k) → filter_map (entry_at H) (map f ks) ≡ map (moved f) (filter_map (entry_at G) ks)
    filter-same [] images = refl
    filter-same (k ∷ ks) images =
        ap (λ o. cons_option o (filter_map (entry_at H) (map f ks))) (entry-same k (images k (omega (arith, count-cons k k ks, test_same k k refl))))
        ∙ ap (cons_option (option_map (moved f) (entry_at G k))) (filter-same ks (λ j some. images j (omega (arith, count-cons j k ks, some))))
        ∙ by_entry (entry_at G k) (filter_map (entry_at G) ks)
      where
        by_entry : (o : Option (Entry Bytes)) (es : List (Entry Bytes)) → cons_option (option_map (moved f) o) (map (moved f) es) ≡ map (moved f) (cons_option o es)
        by_entry None es = refl
        by_entry (Some e) es = refl

    below-same : (n l : ℕ) → IsRenamed f G H l → entries_below n H (f l) ≡ map (moved f) (entries_below n G l)
    unfolding entries_below
    below-same n l image =
        let t = trie-reads-the-same f G H l image ℕ in
        let ks : List ℕ = entries_of G (rows_from n G l) in
        ap (filter_map (entry_at H)) (t.entries n) ∙ filter-same ks (λ k some. renamed-below f G H l k (all-at (λ j. Reaches (links_in G) l j) ks (t.reached n) k some) image)

    module _ (falls : LeadsDown (λ l. l) (links_in G)) (falls' : LeadsDown (λ l. l) (links_in H)) where
      -- links lead down on both sides
      pub link-falls : (l k : ℕ) → IsRenamed f G H l → 0 < count k (links_in G l) → f k < f l
      link-falls l k image some = falls' (f l) (f k) (omega (arith, count-map f k (links_in G l) some, ap (count (f k)) (renamed-links f G H l image)))

      module _ (n m : ℕ) where
        pub below-moved : (l : ℕ) → IsRenamed f G H l → l < n → f l < m → entries_below m H (f l) ≡ map (moved f) (entries_below n G l)
        below-moved l image low low' =
            deep-same H falls' m (m + n) (f l) low' (omega (arith, low')) ∙ below-same (m + n) l image
            ∙ ap (map (moved f)) (deep-same G falls (m + n) n l (omega (arith, low)) low)

        module _ (code : Bytes → ℕ) (deepest : ℕ) where
          entry-passes : (depth p k : ℕ) → IsRenamed f G H k → is_entry_at m H code depth p (f k) ≡ is_entry_at n G code depth p k
          entry-passes depth p k image = ap (entry_passes (has_digit m H code depth p)) (entry-same k image) ∙ by_entry (entry_at G k)
            where
              by_entry : (o : Option (Entry Bytes)) → entry_passes (has_digit m H code depth p) (option_map (moved f) o) ≡ entry_passes (has_digit n G code depth p) o
              by_entry None = refl
              by_entry (Some e) = refl

          node-passes : (depth p k : ℕ) → IsRenamed f G H k → k < n → f k < m → is_node_at m H code deepest depth p (f k) ≡ is_node_at n G code deepest depth p k
          node-passes depth p k image low low' =
              and-same (is_sub_node deepest depth (H (f k))) (list_all (has_digit m H code depth p) (entries_below m H (f k))) (is_sub_node deepest depth (G k)) (list_all (has_digit n G code depth p) (entries_below n G k))
              (ap (is_sub_node deepest depth) (image k (here k)) ∙ sub-same deepest depth (G k))
              (ap (list_all (has_digit m H code depth p)) (below-moved k image low low') ∙ list_all-map (has_digit m H code depth p) (moved f) (entries_below n G k))

          branches-same : (depth e d : ℕ) (ks : List ℕ) → ((k : ℕ) → 0 < count k ks → IsRenamed f G H k) → ((k : ℕ) → 0 < count k ks → (k < n) × (f k < m))
              → are_branches m H code deepest depth e d (map f ks) ≡ are_branches n G code deepest depth e d ks
          unfolding are_branches
          branches-same depth e d ks images lows =
              and-same _ (pointwise (is_node_at m H code deepest depth) (positions d) (drop (rank e 32) (map f ks))) _ (pointwise (is_node_at n G code deepest depth) (positions d) (drop (rank e 32) ks))
              (ap (λ b. are_apart e d && b)
              (ap (pointwise (is_entry_at m H code depth) (positions e)) (take-map f (rank e 32) ks)
              ∙ pairs-same (is_entry_at m H code depth) (is_entry_at n G code depth) f (positions e) (take (rank e 32) ks)
              (λ p k some. entry-passes depth p k (images k (omega (arith, some, count-take k (rank e 32) ks))))))
              (ap (pointwise (is_node_at m H code deepest depth) (positions d)) (drop-map f (rank e 32) ks)
              ∙ pairs-same (is_node_at m H code deepest depth) (is_node_at n G code deepest depth) f (positions d) (drop (rank e 32) ks)
              (λ p k some.
              let has : 0 < count k ks = omega (arith, some, count-drop k (rank e 32) ks) in
              node-passes depth p k (images k has) (lows k has).0 (lows k has).1))

          agree-same : (depth l : ℕ) → IsRenamed f G H l → l < n → f l < m → agree_above m H code depth (f l) ≡ agree_above n G code depth l
          agree-same depth l image low low' =
              let g : Entry Bytes → ℕ = λ e. code e.key % 2 ^ (5 * depth) in
              ap (λ (es : List (Entry Bytes)). all_same (map g es)) (below-moved l image low low') ∙ ap all_same (map-moved g f (entries_below n G l))

          many-same : (l : ℕ) → IsRenamed f G H l → l < n → f l < m → length (entries_below m H (f l)) ≡ length (entries_below n G l)
          many-same l image low low' = ap length (below-moved l image low low') ∙ length-map (entries_below n G l) (moved f)

          first-same : (j : ℕ) → IsRenamed f G H j → first_key H (links_in H (f j)) ≡ first_key G (links_in G j)
          first-same j image = ap (first_key H) (renamed-links f G H j image) ∙ by_links (links_in G j) (λ k some. renamed-link f G H j k image some)
            where
              by_links : (ks : List ℕ) → ((k : ℕ) → 0 < count k ks → IsRenamed f G H k) → first_key H (map f ks) ≡ first_key G ks
              by_links [] images = refl
              by_links (k ∷ ks) images = key-same k (images k (omega (arith, count-cons k k ks, test_same k k refl)))

          chained-same : (l : ℕ) (ks : List ℕ) → ((k : ℕ) → 0 < count k ks → IsRenamed f G H k) → IsRenamed f G H l → l < n → f l < m → are_chained m H code (f l) (map f ks) ≡ are_chained n G code l ks
          chained-same l [] images image low low' = refl
          chained-same l (k ∷ []) images image low low' = ap is_some (key-same k (images k (omega (arith, count-cons k k [], test_same k k refl))))
          chained-same l (k ∷ j ∷ []) images image low low' =
              let g : Entry Bytes → ℕ = λ e. code e.key in
              let at_k : IsRenamed f G H k = images k (omega (arith, count-cons k k (j ∷ []), test_same k k refl)) in
              let at_j : IsRenamed f G H j = images j (omega (arith, count-cons j k (j ∷ []), count-cons j j [], test_same j j refl)) in
              and-same _ (all_same (map g (entries_below m H (f l)))) _ (all_same (map g (entries_below n G l)))
              (and-same (is_chain_row (H (f j))) (is_before (key_at H (f k)) (first_key H (links_in H (f j)))) (is_chain_row (G j)) (is_before (key_at G k) (first_key G (links_in G j)))
              (ap is_chain_row (at_j j (here j)) ∙ chain-same (G j))
              (ap (λ a. is_before a (first_key H (links_in H (f j)))) (key-same k at_k) ∙ ap (is_before (key_at G k)) (first-same j at_j)))
              (ap (λ (es : List (Entry Bytes)). all_same (map g es)) (below-moved l image low low') ∙ ap all_same (map-moved g f (entries_below n G l)))
          chained-same l (k ∷ j ∷ i ∷ ks) images image low low' = refl

          -- a row under other links is canonical where the row is
          pub canonical-same : (l : ℕ) → IsRenamed f G H l → l < n → f l < m → is_canonical m H code deepest (f l) (H (f l)) ≡ is_canonical n G code deepest l (G l)
          canonical-same l image low low' = ap (is_canonical m H code deepest (f l)) (image l (here l)) ∙ by_form (G l) refl
            where
              images : (r : Option (Form Bytes)) → G l ≡ r → (k : ℕ) → 0 < count k (links_of r) → IsRenamed f G H k
              images r at k some = renamed-link f G H l k image (omega (arith, some, ap (λ o. count k (links_of o)) at))

              lows : (r : Option (Form Bytes)) → G l ≡ r → (k : ℕ) → 0 < count k (links_of r) → (k < n) × (f k < m)
              lows r at k some =
                  let has : 0 < count k (links_in G l) = omega (arith, some, ap (λ o. count k (links_of o)) at) in
                  (omega (arith, falls l k has, low), omega (arith, link-falls l k image has, low'))

              by_form : (r : Option (Form Bytes)) → G l ≡ r → is_canonical m H code deepest (f l) (option_map (relink f) r) ≡ is_canonical n G code deepest l r
              by_form None at = refl
              by_form (Some (cell x)) at = refl
              by_form (Some (node leaf ks)) at = refl
              by_form (Some (node (inner h) ks)) at = refl
              by_form (Some (node (trie depth e d) ks)) at =
                  and-same _ (eqb depth 0 || nat_le 2 (length (entries_below m H (f l)))) _ (eqb depth 0 || nat_le 2 (length (entries_below n G l)))
                  (and-same (are_branches m H code deepest depth e d (map f ks)) (agree_above m H code depth (f l)) (are_branches n G code deepest depth e d ks) (agree_above n G code depth l)
                  (branches-same depth e d ks (images (Some (node (trie depth e d) ks)) at) (lows (Some (node (trie depth e d) ks)) at))
                  (agree-same depth l image low low'))
                  (ap (λ x. eqb depth 0 || nat_le 2 x) (many-same l image low low'))
              by_form (Some (node chain ks)) at = chained-same l ks (images (Some (node chain ks)) at) image low low'
              by_form (Some (node pair ks)) at = refl
              by_form (Some (node state ks)) at = refl
