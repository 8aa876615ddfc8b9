-- A pool passes the tests of rows where each of its rows comes, under other links, from a pool that passes them.
use Rattle.std.proofs.Common.{◌≡◌, ℕ, zero, suc, ◌+◌, ◌^◌, ◌<◌, ◌≤◌, Bool, true, ◌&&◌, List, [], ◌∷◌, length, map, get_or, Some, option_map, slice_get, refl, ap, sym, subst, ◌∙◌, arith}
use Rattle.std.specs.Prelude.{nat_lt, nat_le, ◌==◌}
use Rattle.std.specs.List.{list_all, range_with_len}
use Rattle.std.proofs.lemmas.List.{length-map}
use Rattle.std.proofs.lemmas.Option.{slice_get_within, slice_get-get_or}
use Rattle.node_heap.specs.Links.{count, here}
use Rattle.node_heap.specs.Forms.{Form, Forms, cell, node, leaf, inner, trie, chain, pair, state, links_of}
use Rattle.node_heap.specs.declared.row.TheConstants.{MOST_HEIGHT}
use Rattle.node_heap.proofs.Counts.{test_same, count-cons}
use Rattle.champ_trie.specs.Trie.{code_by}
use Rattle.pool_text.specs.Rows.{Bytes, is_between, is_in_range_to}
use Rattle.pool_text.specs.Rules.{Rules}
use Rattle.pool_text.specs.Pool.{forms_in, row_count, relink}
use Rattle.pool_text.specs.Renaming.{IsRenamed}
use Rattle.pool_text.specs.declared.pool.Pool.{Pool}
use Rattle.pool_text.proofs.Renamed.{renamed-link, count-map}
use Rattle.pool_check.specs.Rows.{is_line_or_node, rows_in_range_by, links_lead_back, texts_are_lines}
use Rattle.pool_check.specs.Vectors.{keeps_fill_rule, vectors_stand}
use Rattle.pool_check.specs.Tries.{is_canonical, tries_stand_by}
use Rattle.pool_check.specs.Kinds.{are_roots, roots_are_of_kind, undo_is_within, undo_fits}
use Rattle.pool_check.proofs.TestLemmas.{all-at, leads-down, roots-low}
use Rattle.pool_check.proofs.PoolLaws.{canonical-at}
use Rattle.pool_delta.proofs.DeltaStands.{both-true}
use Rattle.pool_check.proofs.SameVectors.{fill-same}
use Rattle.pool_check.proofs.SameTries.{canonical-same}
use Rattle.pool_check.proofs.SameKinds.{IsAt, roots-same, undo-same}

-- ## Lists

all-each : {X : Type 0} (test : X → Bool) (xs : List X) → ((i : ℕ) (x : X) → slice_get xs i ≡ Some x → test x ≡ true) → list_all test xs ≡ true
all-each test [] each = refl
all-each test (x ∷ xs) each = both-true (test x) (list_all test xs) (each 0 x refl) (all-each test xs (λ i y at. each (suc i) y at))

all-range : (test : ℕ → Bool) (a n : ℕ) → ((l : ℕ) → a ≤ l → l < a + n → test l ≡ true) → list_all test (range_with_len a n) ≡ true
all-range test a zero each = refl
all-range test a (suc n) each = both-true (test a) (list_all test (range_with_len (a + 1) n)) (each a (omega arith) (omega arith)) (all-range test (a + 1) n (λ l low high. each l (omega (arith, low)) (omega (arith, high))))

-- ## Tests of single rows

range-same : (deepest : ℕ) (f : ℕ → ℕ) (row : Form Bytes) → is_in_range_to deepest (relink f row) ≡ is_in_range_to deepest row
range-same deepest f (cell text) = refl
range-same deepest f (node leaf links) = ap (λ n. nat_le n 32) (length-map links f)
range-same deepest f (node (inner height) links) = ap (λ n. is_between 1 MOST_HEIGHT height && is_between 1 32 n) (length-map links f)
range-same deepest f (node (trie depth entries nodes) links) = ap (λ n. nat_le depth deepest && nat_lt entries (2 ^ 32) && nat_lt nodes (2 ^ 32) && nat_le n 32) (length-map links f)
range-same deepest f (node chain links) = ap (λ n. is_between 1 2 n) (length-map links f)
range-same deepest f (node pair links) = ap (λ n. n == 2) (length-map links f)
range-same deepest f (node state links) = ap (λ n. n == 2) (length-map links f)

line-same : (f : ℕ → ℕ) (row : Form Bytes) → is_line_or_node (relink f row) ≡ is_line_or_node row
line-same f (cell text) = refl
line-same f (node kind links) = refl

-- ## Pools

-- a pool that passes the tests of its rows
pub record HasGoodRows (rules : Rules) (P : Pool) : Type 0 where
  pub in_range : rows_in_range_by rules P ≡ true
  pub lead_back : links_lead_back P ≡ true
  pub lines : texts_are_lines P ≡ true
  pub vectors : vectors_stand P ≡ true
  pub tries : tries_stand_by rules P ≡ true

-- a row that stands at a place stands under other links in a pool of good rows
pub record ComesFrom (rules : Rules) (Q : Pool) (p : ℕ) : Type 0 where
  pub source : Pool
  pub name : ℕ → ℕ
  pub link : ℕ
  pub low : link < row_count source
  pub good : HasGoodRows rules source
  pub bits : source.bits ≡ Q.bits
  pub image : IsRenamed name (forms_in source) (forms_in Q) link
  pub at : name link ≡ p

module _ (rules : Rules) (Q : Pool) (back : links_lead_back Q ≡ true) (comes : (p : ℕ) → p < row_count Q → ComesFrom rules Q p) where
  -- the row in the source
  old : (i : ℕ) (row : Form Bytes) → slice_get Q.rows i ≡ Some row → (c : ComesFrom rules Q i) → (r : Form Bytes) × (forms_in c.source c.link ≡ Some r) × (row ≡ relink c.name r)
  old i row is c =
      let r : Form Bytes = get_or c.source.rows c.link (cell []) in
      let there : forms_in c.source c.link ≡ Some r = slice_get-get_or c.source.rows c.link (cell []) c.low in
      let both : Some row ≡ Some (relink c.name r) = sym is ∙ ap (forms_in Q) (sym c.at) ∙ c.image c.link (here c.link) ∙ ap (option_map (relink c.name)) there in
      (r, there, let same : row ≡ relink c.name r = cc in same)

  come : (i : ℕ) (row : Form Bytes) → slice_get Q.rows i ≡ Some row → ComesFrom rules Q i
  come i row is = comes i (slice_get_within Q.rows i row is)

  range-all : rows_in_range_by rules Q ≡ true
  unfolding rows_in_range_by
  range-all = all-each (is_in_range_to rules.deepest) Q.rows (λ i row is.
      let c = come i row is in
      let o = old i row is c in
      ap (is_in_range_to rules.deepest) o.2 ∙ range-same rules.deepest c.name o.0 ∙ all-at (is_in_range_to rules.deepest) c.source.rows c.good.in_range c.link o.0 o.1)

  lines-all : texts_are_lines Q ≡ true
  unfolding texts_are_lines
  lines-all = all-each is_line_or_node Q.rows (λ i row is.
      let c = come i row is in
      let o = old i row is c in
      ap is_line_or_node o.2 ∙ line-same c.name o.0 ∙ all-at is_line_or_node c.source.rows c.good.lines c.link o.0 o.1)

  vectors-all : vectors_stand Q ≡ true
  unfolding vectors_stand
  vectors-all = all-each (keeps_fill_rule (forms_in Q)) Q.rows (λ i row is.
      let c = come i row is in
      let o = old i row is c in
      ap (keeps_fill_rule (forms_in Q)) o.2
      ∙ fill-same c.name (forms_in c.source) (forms_in Q) o.0 (λ k some. renamed-link c.name (forms_in c.source) (forms_in Q) c.link k c.image (omega (arith, some, ap (λ r. count k (links_of r)) o.1)))
      ∙ all-at (keeps_fill_rule (forms_in c.source)) c.source.rows c.good.vectors c.link o.0 o.1)

  tries-all : tries_stand_by rules Q ≡ true
  unfolding tries_stand_by
  tries-all = all-range (λ l. is_canonical (row_count Q) (forms_in Q) (code_by rules.code_of Q.bits) rules.deepest l (forms_in Q l)) 0 (row_count Q) (λ l _ high. canonical l (omega (arith, high)) (comes l (omega (arith, high))))
    where
      canonical : (l : ℕ) → l < row_count Q → ComesFrom rules Q l → is_canonical (row_count Q) (forms_in Q) (code_by rules.code_of Q.bits) rules.deepest l (forms_in Q l) ≡ true
      canonical l low c =
          let G : Forms Bytes = forms_in c.source in
          let H : Forms Bytes = forms_in Q in
          ap (λ p. is_canonical (row_count Q) H (code_by rules.code_of Q.bits) rules.deepest p (H p)) (sym c.at)
          ∙ canonical-same c.name G H (leads-down c.source c.good.lead_back) (leads-down Q back) (row_count c.source) (row_count Q) (code_by rules.code_of Q.bits) rules.deepest c.link c.image c.low (omega (arith, low, c.at))
          ∙ ap (λ b. is_canonical (row_count c.source) G (code_by rules.code_of b) rules.deepest c.link (G c.link)) (sym c.bits) ∙ canonical-at rules c.source c.good.tries c.link

  pub come-good : HasGoodRows rules Q
  come-good = record { in_range = range-all; lead_back = back; lines = lines-all; vectors = vectors-all; tries = tries-all }

-- ## Roots

module _ (S Q : Pool) (f : ℕ → ℕ) (back : links_lead_back S ≡ true) (back' : links_lead_back Q ≡ true) (four : length S.roots ≡ 4)
    (roots : Q.roots ≡ map f S.roots) (images : (r : ℕ) → 0 < count r S.roots → IsRenamed f (forms_in S) (forms_in Q) r) where
  abbrev At : ℕ → Type 0
  At r = IsAt f (forms_in S) (forms_in Q) (leads-down S back) (leads-down Q back') (row_count S) (row_count Q) r

  root-at : (r : ℕ) → 0 < count r S.roots → At r
  root-at r root = record {
    image = images r root;
    low = roots-low S back r root;
    low' = roots-low Q back' (f r) (omega (arith, count-map f r S.roots root, ap (count (f r)) roots));
  }

  -- four roots
  by-four : (X : List ℕ → List ℕ → Type 0) → ((c v u r : ℕ) → At c → At v → At u → At r → X (f c ∷ f v ∷ f u ∷ f r ∷ []) (c ∷ v ∷ u ∷ r ∷ [])) → X Q.roots S.roots
  by-four X each = subst (λ ks. X ks S.roots) (sym roots) (by_list S.roots four root-at)
    where
      by_list : (rs : List ℕ) → length rs ≡ 4 → ((r : ℕ) → 0 < count r rs → At r) → X (map f rs) rs
      by_list [] many at = absurd (omega (arith, many))
      by_list (a ∷ []) many at = absurd (omega (arith, many))
      by_list (a ∷ b ∷ []) many at = absurd (omega (arith, many))
      by_list (a ∷ b ∷ c ∷ []) many at = absurd (omega (arith, many))
      by_list (a ∷ b ∷ c ∷ d ∷ []) many at =
          each a b c d (at a (omega (arith, count-cons a a (b ∷ c ∷ d ∷ []), test_same a a refl)))
          (at b (omega (arith, count-cons b a (b ∷ c ∷ d ∷ []), count-cons b b (c ∷ d ∷ []), test_same b b refl)))
          (at c (omega (arith, count-cons c a (b ∷ c ∷ d ∷ []), count-cons c b (c ∷ d ∷ []), count-cons c c (d ∷ []), test_same c c refl)))
          (at d (omega (arith, count-cons d a (b ∷ c ∷ d ∷ []), count-cons d b (c ∷ d ∷ []), count-cons d c (d ∷ []), count-cons d d [], test_same d d refl)))
      by_list (a ∷ b ∷ c ∷ d ∷ e ∷ rs) many at = absurd (omega (arith, many))

  -- roots under other links are of their kinds where the roots are
  pub kinds-same : roots_are_of_kind Q ≡ roots_are_of_kind S
  unfolding roots_are_of_kind
  kinds-same =
      by-four (λ ks rs. are_roots (row_count Q) (forms_in Q) ks ≡ are_roots (row_count S) (forms_in S) rs)
      (λ c v u r at_c at_v at_u at_r. roots-same f (forms_in S) (forms_in Q) (leads-down S back) (leads-down Q back') (row_count S) (row_count Q) c v u r at_c at_v at_u at_r)

  pub undo-fits-same : Q.history ≡ S.history → undo_fits Q ≡ undo_fits S
  unfolding undo_fits
  undo-fits-same history =
      ap (λ n. undo_is_within (forms_in Q) n Q.roots) history
      ∙ by-four (λ ks rs. undo_is_within (forms_in Q) S.history ks ≡ undo_is_within (forms_in S) S.history rs)
      (λ c v u r at_c at_v at_u at_r. undo-same f (forms_in S) (forms_in Q) (leads-down S back) (leads-down Q back') (row_count S) (row_count Q) S.history c v u r at_u)
