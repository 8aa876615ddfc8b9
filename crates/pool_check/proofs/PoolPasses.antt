-- The tests that each pool of rooted rows passes.
use Rattle.std.proofs.Common.{◌≡◌, ℕ, suc, ◌+◌, ◌^◌, ◌<◌, Bool, true, ◌&&◌, Option, Some, None, option_map, slice_get, List, [], ◌∷◌, refl, ap, ◌∙◌, arith}
use Rattle.std.specs.Prelude.{nat_lt, nat_le, nat_eq, ◌==◌}
use Rattle.std.specs.List.{list_all, cons_option, range_with_len}
use Rattle.std.specs.Str.{bytes_eq}
use Rattle.std.proofs.lemmas.Bool.Decides.{nat_tests}
use Rattle.std.proofs.lemmas.List.{length-map}
use Rattle.node_heap.specs.Links.{count, here}
use Rattle.node_heap.specs.Forms.{Form, Forms, cell, node, leaf, inner, trie, chain, pair, state, links_of, links_in}
use Rattle.node_heap.proofs.Counts.{test_same, count-cons}
use Rattle.node_heap.specs.declared.row.TheConstants.{MOST_HEIGHT}
use Rattle.pool_order.specs.Order.{order}
use Rattle.pool_text.specs.Rows.{Bytes, is_between, is_in_range_to}
use Rattle.pool_text.specs.Rules.{Rules}
use Rattle.pool_text.specs.Pool.{row_count, place_in, relink, Settings, pool}
use Rattle.pool_text.specs.Renaming.{IsRooted}
use Rattle.pool_text.specs.declared.pool.Pool.{Pool}
use Rattle.pool_text.proofs.Placed.{place-is}
use Rattle.pool_text.proofs.Renamed.{map-found}
use Rattle.pool_text.proofs.PoolRows.{rows_of, order-of-pool, pool-length, pool-ranked}
use Rattle.pool_text.proofs.Ordered.{pool-roots, pool-ordered}
use Rattle.pool_check.specs.Rows.{is_line_or_node, rows_in_range_by, rows_lead_back, links_lead_back, texts_are_lines}
use Rattle.pool_check.specs.Damages.{rows_in_order}
use Rattle.pool_check.specs.Passing.{AllReachedPass, PassesAsMade}

both-true : (a b : Bool) → a ≡ true → b ≡ true → (a && b) ≡ true
both-true a b h k = ap (λ x. x && b) h ∙ k

pub less-test : (a b : ℕ) → a < b → nat_lt a b ≡ true
less-test a b h = grind (arith, nat_tests)

same-test : (n : ℕ) → nat_eq n n ≡ true
same-test n = grind (arith, nat_tests)

same-bytes : (ns : List ℕ) → bytes_eq ns ns ≡ true
same-bytes [] = refl
same-bytes (n ∷ ns) = both-true (nat_eq n n) (bytes_eq ns ns) (same-test n) (same-bytes ns)

all-below : (ks : List ℕ) (n : ℕ) → ((k : ℕ) → 0 < count k ks → k < n) → list_all (λ k. nat_lt k n) ks ≡ true
all-below [] n low = refl
all-below (k ∷ ks) n low =
    both-true (nat_lt k n) (list_all (λ j. nat_lt j n) ks) (less-test k n (low k (omega (arith, count-cons k k ks, test_same k k refl))))
    (all-below ks n (λ j some. low j (omega (arith, count-cons j k ks, some))))

-- rows lead back from a place on, where each link of a row is below its place
rows-back : {K : Type 0} (rows : List (Form K)) (place : ℕ) → ((i j : ℕ) → 0 < count j (links_of (slice_get rows i)) → j < place + i) → rows_lead_back place rows ≡ true
rows-back [] place low = refl
rows-back (row ∷ rows) place low =
    both-true (list_all (λ k. nat_lt k place) (links_of (Some row))) (rows_lead_back (suc place) rows)
    (all-below (links_of (Some row)) place (λ j some. omega (arith, low 0 j some)))
    (rows-back rows (suc place) (λ i j some. omega (arith, low (suc i) j some)))

-- what each row that is listed passes, the rows under new links pass
rows-pass : (test : Form Bytes → Bool) → ((f : ℕ → ℕ) (row : Form Bytes) → test (relink f row) ≡ test row) → (G : Forms Bytes) (f : ℕ → ℕ) (ks : List ℕ)
    → ((k : ℕ) (row : Form Bytes) → 0 < count k ks → G k ≡ Some row → test row ≡ true) → list_all test (rows_of G f ks) ≡ true
rows-pass test keeps G f [] each = refl
rows-pass test keeps G f (k ∷ ks) each = by_row (G k) refl (rows-pass test keeps G f ks (λ j row some. each j row (omega (arith, count-cons j k ks, some))))
  where
    by_row : (r : Option (Form Bytes)) → G k ≡ r → list_all test (rows_of G f ks) ≡ true → list_all test (cons_option (option_map (relink f) r) (rows_of G f ks)) ≡ true
    by_row None e rest = rest
    by_row (Some row) e rest = both-true (test (relink f row)) (list_all test (rows_of G f ks)) (keeps f row ∙ each k row (omega (arith, count-cons k k ks, test_same k k refl)) e) rest

range-relink : (deepest : ℕ) (f : ℕ → ℕ) (row : Form Bytes) → is_in_range_to deepest (relink f row) ≡ is_in_range_to deepest row
range-relink deepest f (cell text) = refl
range-relink deepest f (node leaf links) = ap (λ n. nat_le n 32) (length-map links f)
range-relink deepest f (node (inner height) links) = ap (λ n. is_between 1 MOST_HEIGHT height && is_between 1 32 n) (length-map links f)
range-relink deepest f (node (trie depth entries nodes) links) = ap (λ n. nat_le depth deepest && nat_lt entries (2 ^ 32) && nat_lt nodes (2 ^ 32) && nat_le n 32) (length-map links f)
range-relink deepest f (node chain links) = ap (λ n. is_between 1 2 n) (length-map links f)
range-relink deepest f (node pair links) = ap (λ n. n == 2) (length-map links f)
range-relink deepest f (node state links) = ap (λ n. n == 2) (length-map links f)

line-relink : (f : ℕ → ℕ) (row : Form Bytes) → is_line_or_node (relink f row) ≡ is_line_or_node row
line-relink f (cell text) = refl
line-relink f (node kind links) = refl

module _ (n : ℕ) (G : Forms Bytes) (roots : List ℕ) (rooted : IsRooted n G roots) where
  lead-back : (settings : Settings) → links_lead_back (pool n G roots settings) ≡ true
  unfolding links_lead_back
  lead-back settings =
      let P : Pool = pool n G roots settings in
      let ks : List ℕ = order n (links_in G) roots in
      let is = order-of-pool n G roots rooted in
      both-true (rows_lead_back 0 P.rows) (list_all (λ k. nat_lt k (row_count P)) P.roots)
      (rows-back P.rows 0 (λ i j some. omega (arith, pool-ranked n G roots rooted settings i j some)))
      (all-below P.roots (row_count P)
      (λ p some.
      let found = map-found (place_in ks) roots p (omega (arith, some, ap (count p) (pool-roots n G roots rooted settings))) in
      omega (arith, found.2, (place-is ks found.0 (is.all found.0 found.0 found.1 (here found.0))).0, pool-length n G roots rooted settings)))

  in-order : (settings : Settings) → rows_in_order (pool n G roots settings) ≡ true
  unfolding rows_in_order
  in-order settings =
      let P : Pool = pool n G roots settings in
      ap (λ ks. bytes_eq ks (range_with_len 0 (row_count P))) (pool-ordered n G roots rooted settings) ∙ same-bytes (range_with_len 0 (row_count P))

  listed-pass : (test : Form Bytes → Bool) → AllReachedPass test G roots → (k : ℕ) (row : Form Bytes) → 0 < count k (order n (links_in G) roots) → G k ≡ Some row → test row ≡ true
  listed-pass test each k row some e = let from = (order-of-pool n G roots rooted).reached k some in each from.0 k row from.1 from.2 e

  in-range : (settings : Settings) (rules : Rules) → AllReachedPass (is_in_range_to rules.deepest) G roots → rows_in_range_by rules (pool n G roots settings) ≡ true
  unfolding rows_in_range_by pool
  in-range settings rules each =
      rows-pass (is_in_range_to rules.deepest) (range-relink rules.deepest) G (place_in (order n (links_in G) roots)) (order n (links_in G) roots) (listed-pass (is_in_range_to rules.deepest) each)

  lines : (settings : Settings) → AllReachedPass is_line_or_node G roots → texts_are_lines (pool n G roots settings) ≡ true
  unfolding texts_are_lines pool
  lines settings each = rows-pass is_line_or_node line-relink G (place_in (order n (links_in G) roots)) (order n (links_in G) roots) (listed-pass is_line_or_node each)

  pub passes-as-made : (settings : Settings) → PassesAsMade G roots (pool n G roots settings)
  passes-as-made settings = record { lead_back = lead-back settings; in_order = in-order settings; in_range = in-range settings; lines = lines settings }
