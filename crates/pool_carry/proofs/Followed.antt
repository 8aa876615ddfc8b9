-- What stands at a spot of a pool's rows, and at the same spot under new links.
use Rattle.std.proofs.Common.{◌≡◌, ℕ, zero, suc, ◌<◌, refl, ap, sym, subst, ◌∙◌, arith, inl, inr, Bool, true, false, cond, List, [], ◌∷◌, map, Option, Some, None, option_map}
use Rattle.std.specs.Prelude.{◌&&◌, option_and_then, slice_get}
use Rattle.std.specs.List.{find, flat_map, list_all}
use Rattle.std.specs.Ordering.{nat_cmp}
use Rattle.std.specs.Cmp.Lexicographic.{slice_cmp}
use Rattle.std.proofs.lemmas.List.Folds.{flat_map-map}
use Rattle.elem_core.specs.Naming.{is_name}
use Rattle.node_heap.specs.Links.{count}
use Rattle.node_heap.specs.Forms.{Form, Forms, Kind, cell, node, leaf, inner, trie, chain, pair, state, links_of, links_in}
use Rattle.node_heap.proofs.Counts.{count-cons, test_same}
use Rattle.rrb_core.specs.Seq.{height_in, form_height, seq_at, seq, IsWell}
use Rattle.champ_chain.specs.Entry.{Entry, has_key, link_with, SameSet, AreDistinct}
use Rattle.champ_chain.proofs.SetLemmas.{Among, same-find}
use Rattle.pool_order.proofs.Places.{flat_map-same, flat_map-found}
use Rattle.pool_text.specs.Rows.{Bytes}
use Rattle.pool_text.specs.Pool.{relink}
use Rattle.pool_text.proofs.Ordered.{map-flat}
use Rattle.pool_check.specs.Tries.{entries_below}
use Rattle.pool_check.specs.Kinds.{both_pass, is_vector_root, is_trie_root, is_pair_of, is_state_of, is_cell_of, elements_pass, is_vector_of, is_trie_of, is_name_cell, is_lines_vector, is_buffer_map, is_stars_set, is_state, is_versions_map, is_history, are_roots}
use Rattle.pool_check.specs.Readings.{moved}
use Rattle.pool_check.proofs.RootLemmas.{root_by_root, roots-passed}
use Rattle.pool_check.proofs.TestLemmas.{and-first, and-second, not-both, all-counted}
use Rattle.pool_check.proofs.VectorReadings.{all-at}
use Rattle.pool_carry.specs.Carried.{is_of_trie}
use Rattle.pool_carry.specs.Named.{Origin, current, version, undo, redo, NamedSpot, state_row, buffer_cell, star_cell, vector_row, version_cell, undo_row, redo_row, first_link, second_link, children, entry_of, key_cell_of, value_of_key, down, state_at, buffers_at, stars_at, found}
use Rattle.pool_carry.proofs.OwnVectors.{is_of_vector, vector-own}
use Rattle.pool_carry.proofs.Goes.{Goes, goes-by, goes-at, goes-weaker, goes-then, goes-turned}

-- the two links of a row, and what they pass
record HasTwo (p q : ℕ → Bool) (links : List ℕ) : Type 0 where
  pub first : ℕ
  pub second : ℕ
  pub are : links ≡ first ∷ second ∷ []
  pub first_passes : p first ≡ true
  pub second_passes : q second ≡ true

has-two : (p q : ℕ → Bool) (links : List ℕ) → both_pass p q links ≡ true → HasTwo p q links
has-two p q [] h = absurd (not-both h)
has-two p q (k ∷ []) h = absurd (not-both h)
has-two p q (k ∷ v ∷ []) h = record { first = k; second = v; are = refl; first_passes = and-first (p k) (q v) h; second_passes = and-second (p k) (q v) h }
has-two p q (k ∷ v ∷ w ∷ ws) h = absurd (not-both h)

record IsTwo (kind : Kind) (p q : ℕ → Bool) (r : Option (Form Bytes)) : Type 0 where
  pub first : ℕ
  pub second : ℕ
  pub row : r ≡ Some (node kind (first ∷ second ∷ []))
  pub first_passes : p first ≡ true
  pub second_passes : q second ≡ true

is-two : (kind : Kind) (p q : ℕ → Bool) (links : List ℕ) → both_pass p q links ≡ true → IsTwo kind p q (Some (node kind links))
is-two kind p q links h =
    let two = has-two p q links h in
    record { first = two.first; second = two.second; row = ap (λ ks. Some (node kind ks)) two.are; first_passes = two.first_passes; second_passes = two.second_passes }

pair-is : (p q : ℕ → Bool) (r : Option (Form Bytes)) → is_pair_of p q r ≡ true → IsTwo pair p q r
pair-is p q None h = absurd (not-both h)
pair-is p q (Some (cell x)) h = absurd (not-both h)
pair-is p q (Some (node leaf links)) h = absurd (not-both h)
pair-is p q (Some (node (inner height) links)) h = absurd (not-both h)
pair-is p q (Some (node (trie d e s) links)) h = absurd (not-both h)
pair-is p q (Some (node chain links)) h = absurd (not-both h)
pair-is p q (Some (node pair links)) h = is-two pair p q links h
pair-is p q (Some (node state links)) h = absurd (not-both h)

state-is : (p q : ℕ → Bool) (r : Option (Form Bytes)) → is_state_of p q r ≡ true → IsTwo state p q r
state-is p q None h = absurd (not-both h)
state-is p q (Some (cell x)) h = absurd (not-both h)
state-is p q (Some (node leaf links)) h = absurd (not-both h)
state-is p q (Some (node (inner height) links)) h = absurd (not-both h)
state-is p q (Some (node (trie d e s) links)) h = absurd (not-both h)
state-is p q (Some (node chain links)) h = absurd (not-both h)
state-is p q (Some (node pair links)) h = absurd (not-both h)
state-is p q (Some (node state links)) h = is-two state p q links h

cell-is : (p : Bytes → Bool) (r : Option (Form Bytes)) → is_cell_of p r ≡ true → (x : Bytes) × (r ≡ Some (cell x))
cell-is p None h = absurd (not-both h)
cell-is p (Some (cell x)) h = (x, refl)
cell-is p (Some (node kind links)) h = absurd (not-both h)

children-relink : (g : ℕ → ℕ) (r : Form Bytes) → children (Some (relink g r)) ≡ map g (children (Some r))
children-relink g (cell x) = refl
children-relink g (node leaf links) = refl
children-relink g (node (inner height) links) = refl
children-relink g (node (trie d e s) links) = refl
children-relink g (node chain links) = refl
children-relink g (node pair links) = refl
children-relink g (node state links) = refl

all-among : {X : Type 0} (p : X → Bool) (xs : List X) → list_all p xs ≡ true → (x : X) → Among x xs → p x ≡ true
all-among p [] h x nowhere = absurd nowhere
all-among p (y ∷ ys) h x (inl same) = ap p (sym same) ∙ and-first (p y) (list_all p ys) h
all-among p (y ∷ ys) h x (inr there) = all-among p ys (and-second (p y) (list_all p ys) h) x there

count-got : (xs : List ℕ) (i k : ℕ) → slice_get xs i ≡ Some k → 0 < count k xs
count-got [] i k is = absurd cc
count-got (x ∷ xs) zero k is = (let both : Some x ≡ Some k = is in let same : x ≡ k = cc in omega (arith, count-cons k x xs, test_same x k same))
count-got (x ∷ xs) (suc i) k is = omega (arith, count-cons k x xs, count-got xs i k is)

-- The rows of F that are seen stand in H under new links: a row of none of the tries with new links, a trie row of depth 0 as the
-- root of a trie of the same entries under new links. What such a row leads to is seen too. What is in a vector may have been changed
-- before to another link, if it is a cell, and that one is seen.
pub record AreFollowed (n m : ℕ) (F H : Forms Bytes) (f g : ℕ → ℕ) (Seen : ℕ → Type 0) : Type 0 where
  pub own : (l : ℕ) (r : Form Bytes) → Seen l → F l ≡ Some r → is_of_trie (Some r) ≡ false → is_of_vector r ≡ false → H (g l) ≡ Some (relink g r)
  pub vector : (l : ℕ) (r : Form Bytes) → Seen l → F l ≡ Some r → is_of_vector r ≡ true → H (g l) ≡ Some (relink (λ k. g (f k)) r)
  pub below : (l k : ℕ) (r : Form Bytes) → Seen l → F l ≡ Some r → is_of_trie (Some r) ≡ false → is_of_vector r ≡ false → 0 < count k (links_of (Some r)) → Seen k
  pub elements : (l k : ℕ) (r : Form Bytes) → Seen l → F l ≡ Some r → is_of_vector r ≡ true → 0 < count k (links_of (Some r)) → Seen (f k)
  pub lines : (k : ℕ) (x : Bytes) → Seen (f k) → F k ≡ Some (cell x) → children (H (g (f k))) ≡ []
  pub stays : (l : ℕ) → is_cell_of {K = Bytes} (λ _. true) (F l) ≡ false → f l ≡ l
  pub entries : (l : ℕ) → Seen l → is_trie_root (F l) ≡ true → SameSet (map (moved g) (entries_below n F l)) (entries_below m H (g l))
  pub distinct : (l : ℕ) → Seen l → is_trie_root (F l) ≡ true → AreDistinct (slice_cmp nat_cmp) (map (moved g) (entries_below n F l))
  pub named : (l : ℕ) → Seen l → is_trie_root (F l) ≡ true → (e : Entry Bytes) → Among e (entries_below n F l) → Seen e.link
  pub roots : (l : ℕ) → is_vector_root (F l) ≡ true → IsWell F (height_in F l) l

-- a row of none of the tries that is seen
pub record IsOwn (F : Forms Bytes) (Seen : ℕ → Type 0) (l : ℕ) : Type 0 where
  pub seen : Seen l
  pub row : Form Bytes
  pub is : F l ≡ Some row
  pub own : is_of_trie (Some row) ≡ false

module _ (n m : ℕ) (F H : Forms Bytes) (f g : ℕ → ℕ) (Seen : ℕ → Type 0) (follows : AreFollowed n m F H f g Seen) where
  -- the new link of what is in a vector
  abbrev h : ℕ → ℕ
  h k = g (f k)

  abbrev Passes : (ℕ → Bool) → ℕ → Type 0
  Passes test l = Seen l × (test l ≡ true)

  abbrev Own : ℕ → Type 0
  Own = IsOwn F Seen

  -- the same of what is in a vector
  abbrev PassesThere : (ℕ → Bool) → ℕ → Type 0
  PassesThere test k = Seen (f k) × (test k ≡ true)

  abbrev OwnThere : ℕ → Type 0
  OwnThere = IsOwn F (λ k. Seen (f k))

  -- Rows of two links.

  first-goes : (kind : Kind) (p q : ℕ → Bool) (l : ℕ) → ((k v : ℕ) → is_of_trie {K = Bytes} (Some (node kind (k ∷ v ∷ []))) ≡ false) → ((k v : ℕ) → is_of_vector {K = Bytes} (node kind (k ∷ v ∷ [])) ≡ false) → ((k v : ℕ) → first_link (Some (node kind (k ∷ v ∷ []))) ≡ Some k)
      → Seen l → IsTwo kind p q (F l) → Goes g (Passes p) (first_link (F l)) (first_link (H (g l)))
  first-goes kind p q l own other links seen two =
      let row : Form Bytes = node kind (two.first ∷ two.second ∷ []) in
      let new : H (g l) ≡ Some (node kind (g two.first ∷ g two.second ∷ [])) = follows.own l row seen two.row (own two.first two.second) (other two.first two.second) in
      let below : Seen two.first = follows.below l two.first row seen two.row (own two.first two.second) (other two.first two.second) (omega (arith, count-cons two.first two.first (two.second ∷ []), test_same two.first two.first refl)) in
      goes-by g (Passes p) (first_link (F l)) (first_link (H (g l))) two.first (ap first_link two.row ∙ links two.first two.second) (ap first_link new ∙ links (g two.first) (g two.second)) (below, two.first_passes)

  second-goes : (kind : Kind) (p q : ℕ → Bool) (l : ℕ) → ((k v : ℕ) → is_of_trie {K = Bytes} (Some (node kind (k ∷ v ∷ []))) ≡ false) → ((k v : ℕ) → is_of_vector {K = Bytes} (node kind (k ∷ v ∷ [])) ≡ false) → ((k v : ℕ) → second_link (Some (node kind (k ∷ v ∷ []))) ≡ Some v)
      → Seen l → IsTwo kind p q (F l) → Goes g (Passes q) (second_link (F l)) (second_link (H (g l)))
  second-goes kind p q l own other links seen two =
      let row : Form Bytes = node kind (two.first ∷ two.second ∷ []) in
      let new : H (g l) ≡ Some (node kind (g two.first ∷ g two.second ∷ [])) = follows.own l row seen two.row (own two.first two.second) (other two.first two.second) in
      let below : Seen two.second =
      follows.below l two.second row seen two.row (own two.first two.second) (other two.first two.second)
      (omega (arith, count-cons two.second two.first (two.second ∷ []), count-cons two.second two.second [], test_same two.second two.second refl)) in
      goes-by g (Passes q) (second_link (F l)) (second_link (H (g l))) two.second (ap second_link two.row ∙ links two.first two.second) (ap second_link new ∙ links (g two.first) (g two.second)) (below, two.second_passes)

  -- Entries of tries.

  link-goes : (A : ℕ → Type 0) (key : Bytes) (E : List (Entry Bytes)) → ((e : Entry Bytes) → Among e E → A e.link) → Goes g A (link_with (slice_cmp nat_cmp) key E) (link_with (slice_cmp nat_cmp) key (map (moved g) E))
  link-goes A key [] each = tt
  link-goes A key (e ∷ es) each = by_test (has_key (slice_cmp nat_cmp) key e) (each e (inl refl)) (link-goes A key es (λ d there. each d (inr there)))
    where
      by_test : (b : Bool) → A e.link → Goes g A (link_with (slice_cmp nat_cmp) key es) (link_with (slice_cmp nat_cmp) key (map (moved g) es))
          → Goes g A (option_map (λ (d : Entry Bytes). d.link) (cond b (Some e) (find (has_key (slice_cmp nat_cmp) key) es))) (option_map (λ (d : Entry Bytes). d.link) (cond b (Some (moved g e)) (find (has_key (slice_cmp nat_cmp) key) (map (moved g) es))))
      by_test true is rest = (is, refl)
      by_test false is rest = rest

  entry-goes : (test : ℕ → Bool) (key : Bytes) (l : ℕ) → Passes (is_trie_of n F test) l → Goes g (Passes test) (entry_of n F key l) (entry_of m H key (g l))
  entry-goes test key l passes =
      let E : List (Entry Bytes) = entries_below n F l in
      let each : Bool = list_all (λ (e : Entry Bytes). test e.link) E in
      let root : is_trie_root (F l) ≡ true = and-first (is_trie_root (F l)) each passes.1 in
      let all : each ≡ true = and-second (is_trie_root (F l)) each passes.1 in
      subst (Goes g (Passes test) (entry_of n F key l))
      (ap (option_map (λ (e : Entry Bytes). e.link)) (same-find (has_key (slice_cmp nat_cmp) key) (map (moved g) E) (entries_below m H (g l)) (follows.entries l passes.0 root) ((follows.distinct l passes.0 root).once key)))
      (link-goes (Passes test) key E (λ e there. (follows.named l passes.0 root e there, all-among (λ (d : Entry Bytes). test d.link) E all e there)))

  -- Maps.

  module _ (p q : ℕ → Bool) (key : Bytes) (l : ℕ) (passes : Passes (is_trie_of n F (λ e. is_pair_of p q (F e))) l) where
    key-goes : Goes g (Passes p) (key_cell_of n F key l) (key_cell_of m H key (g l))
    key-goes =
        goes-then g g (Passes (λ e. is_pair_of p q (F e))) (Passes p) (λ k. first_link (F k)) (λ k. first_link (H k)) (λ k is. first-goes pair p q k (λ a b. refl) (λ a b. refl) (λ a b. refl) is.0 (pair-is p q (F k) is.1))
        (entry_of n F key l) (entry_of m H key (g l)) (entry-goes (λ e. is_pair_of p q (F e)) key l passes)

    value-goes : Goes g (Passes q) (value_of_key n F key l) (value_of_key m H key (g l))
    value-goes =
        goes-then g g (Passes (λ e. is_pair_of p q (F e))) (Passes q) (λ k. second_link (F k)) (λ k. second_link (H k)) (λ k is. second-goes pair p q k (λ a b. refl) (λ a b. refl) (λ a b. refl) is.0 (pair-is p q (F k) is.1))
        (entry_of n F key l) (entry_of m H key (g l)) (entry-goes (λ e. is_pair_of p q (F e)) key l passes)

  -- Vectors.

  -- nothing lies below an element
  element-down : (path : List ℕ) (k : ℕ) → OwnThere k → children (F k) ≡ [] → children (H (h k)) ≡ [] → Goes h OwnThere (down n F path k) (down m H path (h k))
  element-down [] k is none new = (is, refl)
  element-down (i ∷ path) k is none new =
      subst (λ ks. Goes h OwnThere (option_and_then (down n F path) (slice_get ks i)) (option_and_then (down m H path) (slice_get (children (H (h k))) i))) (sym none)
      (subst (λ ks. Goes h OwnThere None (option_and_then (down m H path) (slice_get ks i))) (sym new) tt)

  module _ (test : ℕ → Bool) where
    -- a row of this height in a vector of such elements
    record IsAt (height l : ℕ) : Type 0 where
      pub seen : Seen l
      pub well : IsWell F height l
      pub passes : elements_pass F test height l ≡ true

    at-root : (l : ℕ) → Passes (is_vector_of F test) l → IsAt (height_in F l) l
    at-root l passes =
        let root : Bool = is_vector_root (F l) in
        let each : Bool = elements_pass F test (height_in F l) l in
        record { seen = passes.0; well = follows.roots l (and-first root each passes.1); passes = and-second root each passes.1 }

    -- it is a leaf or an inner row
    record IsVectorRow (l : ℕ) : Type 0 where
      pub kind : Kind
      pub row : F l ≡ Some (node kind (links_in F l))
      pub vector : is_of_vector {K = Bytes} (node kind (links_in F l)) ≡ true
      pub old : children (F l) ≡ links_in F l

    well-row : (height l : ℕ) → IsWell F height l → IsVectorRow l
    unfolding IsWell
    well-row zero l well = record { kind = leaf; row = well.kind; vector = refl; old = ap children well.kind }
    well-row (suc height) l well = record { kind = inner (suc height); row = well.kind; vector = refl; old = ap children well.kind }

    -- it has its own link
    well-stays : (height l : ℕ) → IsWell F height l → f l ≡ l
    well-stays height l well = follows.stays l (ap (is_cell_of (λ _. true)) (well-row height l well).row)

    at-own : (height l : ℕ) → IsAt height l → OwnThere l
    at-own height l at =
        let row = well-row height l at.well in
        record { seen = subst Seen (sym (well-stays height l at.well)) at.seen; row = node row.kind (links_in F l); is = row.row; own = vector-own (node row.kind (links_in F l)) row.vector }

    -- its image
    at-image : (height l : ℕ) (at : IsAt height l) → H (g l) ≡ Some (node (well-row height l at.well).kind (map h (links_in F l)))
    at-image height l at = (let row = well-row height l at.well in follows.vector l (node row.kind (links_in F l)) at.seen row.row row.vector)

    at-links : (height l : ℕ) → IsAt height l → links_in H (g l) ≡ map h (links_in F l)
    at-links height l at = ap links_of (at-image height l at)

    at-children : (height l : ℕ) → IsAt height l → children (H (g l)) ≡ map h (links_in F l)
    at-children height l at =
        let row = well-row height l at.well in
        ap children (at-image height l at) ∙ children-relink h (node row.kind (links_in F l)) ∙ ap (map h) (sym (ap children row.row) ∙ row.old)

    at-height : (height l : ℕ) → IsAt height l → height_in H (g l) ≡ height_in F l
    at-height height l at = ap form_height (at-image height l at) ∙ sym (ap form_height (well-row height l at.well).row)

    at-seen : (height l k : ℕ) → IsAt height l → 0 < count k (links_in F l) → Seen (f k)
    at-seen height l k at some = (let row = well-row height l at.well in follows.elements l k (node row.kind (links_in F l)) at.seen row.row row.vector some)

    -- its links
    at-element : (l k : ℕ) → IsAt zero l → 0 < count k (links_in F l) → PassesThere test k
    unfolding elements_pass
    at-element l k at some = (at-seen zero l k at some, all-counted test (links_in F l) at.passes k some)

    at-below : (height l k : ℕ) → IsAt (suc height) l → 0 < count k (links_in F l) → IsAt height k
    unfolding IsWell elements_pass
    at-below height l k at some =
        let well : IsWell F height k = all-at (IsWell F height) (links_in F l) at.well.children k some in
        record {
          seen = subst Seen (well-stays height k well) (at-seen (suc height) l k at some);
          well = well;
          passes = all-counted (elements_pass F test height) (links_in F l) at.passes k some;
        }

    -- its elements
    seq-moved : (height l : ℕ) → IsAt height l → seq_at H height (g l) ≡ map h (seq_at F height l)
    unfolding seq_at
    seq-moved zero l at = at-links zero l at
    seq-moved (suc height) l at =
        ap (flat_map (seq_at H height)) (at-links (suc height) l at) ∙ flat_map-map (seq_at H height) h (links_in F l)
        ∙ flat_map-same (λ k. seq_at H height (h k)) (λ k. map h (seq_at F height k)) (links_in F l)
        (λ k some. let below : IsAt height k = at-below height l k at some in ap (λ j. seq_at H height (g j)) (well-stays height k below.well) ∙ seq-moved height k below)
        ∙ sym (map-flat h (seq_at F height) (links_in F l))

    seq-passes : (height l k : ℕ) → IsAt height l → 0 < count k (seq_at F height l) → PassesThere test k
    unfolding seq_at
    seq-passes zero l k at some = at-element l k at some
    seq-passes (suc height) l k at some = (let from = flat_map-found (seq_at F height) (links_in F l) k some in seq-passes height from.0 k (at-below height l from.0 at from.1) from.2)

    seq-goes : (l : ℕ) → Passes (is_vector_of F test) l → (i : ℕ) → Goes h (PassesThere test) (slice_get (seq F l) i) (slice_get (seq H (g l)) i)
    seq-goes l passes i =
        let height : ℕ = height_in F l in
        let at : IsAt height l = at-root l passes in
        let image : seq H (g l) ≡ map h (seq F l) = ap (λ x. seq_at H x (g l)) (at-height height l at) ∙ seq-moved height l at in
        subst (λ ks. Goes h (PassesThere test) (slice_get (seq F l) i) (slice_get ks i)) (sym image) (goes-at h (PassesThere test) (seq F l) (λ k some. seq-passes height l k at some) i)

    -- a way down a vector
    module _ (elements : (k : ℕ) → PassesThere test k → OwnThere k) (ends : (k : ℕ) → PassesThere test k → children (F k) ≡ []) (new_ends : (k : ℕ) → PassesThere test k → children (H (h k)) ≡ []) where
      step-down : (A : ℕ → Type 0) (i : ℕ) (path : List ℕ) (height l : ℕ) → IsAt height l → ((k : ℕ) → 0 < count k (links_in F l) → A k) → ((k : ℕ) → A k → Goes h OwnThere (down n F path k) (down m H path (h k)))
          → Goes h OwnThere (option_and_then (down n F path) (slice_get (children (F l)) i)) (option_and_then (down m H path) (slice_get (children (H (g l))) i))
      step-down A i path height l at each deeper =
          subst (λ ks. Goes h OwnThere (option_and_then (down n F path) (slice_get ks i)) (option_and_then (down m H path) (slice_get (children (H (g l))) i))) (sym (well-row height l at.well).old)
          (subst (λ ks. Goes h OwnThere (option_and_then (down n F path) (slice_get (links_in F l) i)) (option_and_then (down m H path) (slice_get ks i))) (sym (at-children height l at))
          (goes-then h h A OwnThere (down n F path) (down m H path) deeper (slice_get (links_in F l) i) (slice_get (map h (links_in F l)) i) (goes-at h A (links_in F l) each i)))

      down-goes : (path : List ℕ) (height l : ℕ) → IsAt height l → Goes h OwnThere (down n F path l) (down m H path (g l))
      down-goes [] height l at = (at-own height l at, ap g (sym (well-stays height l at.well)))
      down-goes (i ∷ path) zero l at = step-down (PassesThere test) i path zero l at (λ k some. at-element l k at some) (λ k passes. element-down path k (elements k passes) (ends k passes) (new_ends k passes))
      down-goes (i ∷ path) (suc height) l at =
          step-down (IsAt height) i path (suc height) l at (λ k some. at-below height l k at some)
          (λ k below. subst (λ j. Goes h OwnThere (down n F path k) (down m H path j)) (ap g (sym (well-stays height k below.well))) (down-goes path height k below))

      root-down : (path : List ℕ) (l : ℕ) → Passes (is_vector_of F test) l → Goes h OwnThere (down n F path l) (down m H path (g l))
      root-down path l passes = down-goes path (height_in F l) l (at-root l passes)

  -- Cells and states.

  cell-own : (p : Bytes → Bool) (l : ℕ) → Passes (λ k. is_cell_of p (F k)) l → Own l
  cell-own p l passes = (let is = cell-is p (F l) passes.1 in record { seen = passes.0; row = cell is.0; is = is.1; own = refl })

  -- a line
  abbrev IsLine : ℕ → Type 0
  IsLine = PassesThere (λ k. is_cell_of (λ _. true) (F k))

  line-own : (k : ℕ) → IsLine k → OwnThere k
  line-own k passes = (let is = cell-is (λ _. true) (F k) passes.1 in record { seen = passes.0; row = cell is.0; is = is.1; own = refl })

  line-ends : (k : ℕ) → IsLine k → children (F k) ≡ []
  line-ends k passes = ap children (cell-is (λ _. true) (F k) passes.1).1

  line-new_ends : (k : ℕ) → IsLine k → children (H (h k)) ≡ []
  line-new_ends k passes = (let is = cell-is (λ _. true) (F k) passes.1 in follows.lines k is.0 passes.0 is.1)

  state-two : (l : ℕ) → Passes (is_state n F) l → IsTwo state (is_buffer_map n F) (is_stars_set n F) (F l)
  state-two l passes = state-is (is_buffer_map n F) (is_stars_set n F) (F l) passes.1

  state-own : (l : ℕ) → Passes (is_state n F) l → Own l
  state-own l passes = (let two = state-two l passes in record { seen = passes.0; row = node state (two.first ∷ two.second ∷ []); is = two.row; own = refl })

  -- a state that is in a vector
  state-there : (k : ℕ) → PassesThere (is_state n F) k → (f k ≡ k) × Passes (is_state n F) k
  state-there k passes =
      let two = state-is (is_buffer_map n F) (is_stars_set n F) (F k) passes.1 in
      let same : f k ≡ k = follows.stays k (ap (is_cell_of (λ _. true)) two.row) in
      (same, (subst Seen same passes.0, passes.1))

  there-own : (k : ℕ) → PassesThere (is_state n F) k → OwnThere k
  there-own k passes = (let own = state-own k (state-there k passes).1 in record { seen = passes.0; row = own.row; is = own.is; own = own.own })

  there-ends : (k : ℕ) → PassesThere (is_state n F) k → children (F k) ≡ []
  there-ends k passes = ap children (state-two k (state-there k passes).1).row

  there-new_ends : (k : ℕ) → PassesThere (is_state n F) k → children (H (h k)) ≡ []
  there-new_ends k passes =
      let there = state-there k passes in
      let two = state-two k there.1 in
      ap (λ j. children (H (g j))) there.0 ∙ ap children (follows.own k (node state (two.first ∷ two.second ∷ [])) there.1.0 two.row refl refl)

  -- Roots.

  pub record AreTops (roots : List ℕ) : Type 0 where
    pub top_state : Goes g (Passes (is_state n F)) (slice_get roots 0) (slice_get (map g roots) 0)
    pub top_versions : Goes g (Passes (is_versions_map n F)) (slice_get roots 1) (slice_get (map g roots) 1)
    pub top_undo : Goes g (Passes (is_history n F)) (slice_get roots 2) (slice_get (map g roots) 2)
    pub top_redo : Goes g (Passes (is_history n F)) (slice_get roots 3) (slice_get (map g roots) 3)

  four-tops : (c v u r : ℕ) (more : List ℕ) → ((is_state n F c && is_versions_map n F v) && is_history n F u && is_history n F r) ≡ true → ((k : ℕ) → 0 < count k (c ∷ v ∷ u ∷ r ∷ more) → Seen k) → AreTops (c ∷ v ∷ u ∷ r ∷ more)
  four-tops c v u r more h seen =
      let s : Bool = is_state n F c in
      let sv : Bool = s && is_versions_map n F v in
      let svu : Bool = sv && is_history n F u in
      let roots : List ℕ = c ∷ v ∷ u ∷ r ∷ more in
      let three : svu ≡ true = and-first svu (is_history n F r) h in
      let two : sv ≡ true = and-first sv (is_history n F u) three in
      record {
        top_state = ((seen c (count-got roots 0 c refl), and-first s (is_versions_map n F v) two), refl);
        top_versions = ((seen v (count-got roots 1 v refl), and-second s (is_versions_map n F v) two), refl);
        top_undo = ((seen u (count-got roots 2 u refl), and-second sv (is_history n F u) three), refl);
        top_redo = ((seen r (count-got roots 3 r refl), and-second svu (is_history n F r) h), refl);
      }

  tops-by : (roots : List ℕ) → root_by_root n F roots ≡ true → ((k : ℕ) → 0 < count k roots → Seen k) → AreTops roots
  tops-by [] h seen = absurd (not-both h)
  tops-by (c ∷ []) h seen = absurd (not-both h)
  tops-by (c ∷ v ∷ []) h seen = absurd (not-both h)
  tops-by (c ∷ v ∷ u ∷ []) h seen = absurd (not-both h)
  tops-by (c ∷ v ∷ u ∷ r ∷ []) h seen = four-tops c v u r [] h seen
  tops-by (c ∷ v ∷ u ∷ r ∷ b ∷ []) h seen =
      four-tops c v u r (b ∷ []) (and-first (is_state n F c && is_versions_map n F v && is_history n F u && is_history n F r) (is_state n F b) h) seen
  tops-by (c ∷ v ∷ u ∷ r ∷ b ∷ x ∷ xs) h seen = absurd (not-both h)

  pub tops-are : (roots : List ℕ) → are_roots n F roots ≡ true → ((k : ℕ) → 0 < count k roots → Seen k) → AreTops roots
  tops-are roots passed = tops-by roots (roots-passed n F roots passed)

  module _ (roots : List ℕ) (tops : AreTops roots) where
    abbrev images : List ℕ
    images = map g roots

    history-goes : (l : ℕ) → Passes (is_history n F) l → (i : ℕ) → Goes g (Passes (is_state n F)) (slice_get (seq F l) i) (slice_get (seq H (g l)) i)
    history-goes l passes i =
        goes-turned h g (PassesThere (is_state n F)) (Passes (is_state n F)) (λ k is. let there = state-there k is in (ap g there.0, there.1)) (slice_get (seq F l) i) (slice_get (seq H (g l)) i)
        (seq-goes (is_state n F) l passes i)

    state-goes : (o : Origin) → Goes g (Passes (is_state n F)) (state_at n F roots o) (state_at m H images o)
    state-goes current = tops.top_state
    state-goes (version v) =
        goes-then g g (Passes (is_versions_map n F)) (Passes (is_state n F)) (value_of_key n F v) (value_of_key m H v) (λ l passes. value-goes (is_name_cell n F) (is_state n F) v l passes)
        (slice_get roots 1) (slice_get images 1) tops.top_versions
    state-goes (undo i) =
        goes-then g g (Passes (is_history n F)) (Passes (is_state n F)) (λ u. slice_get (seq F u) i) (λ u. slice_get (seq H u) i) (λ l passes. history-goes l passes i)
        (slice_get roots 2) (slice_get images 2) tops.top_undo
    state-goes (redo i) =
        goes-then g g (Passes (is_history n F)) (Passes (is_state n F)) (λ u. slice_get (seq F u) i) (λ u. slice_get (seq H u) i) (λ l passes. history-goes l passes i)
        (slice_get roots 3) (slice_get images 3) tops.top_redo

    buffers-goes : (o : Origin) → Goes g (Passes (is_buffer_map n F)) (buffers_at n F roots o) (buffers_at m H images o)
    buffers-goes o =
        goes-then g g (Passes (is_state n F)) (Passes (is_buffer_map n F)) (λ s. first_link (F s)) (λ s. first_link (H s))
        (λ l passes. first-goes state (is_buffer_map n F) (is_stars_set n F) l (λ a b. refl) (λ a b. refl) (λ a b. refl) passes.0 (state-two l passes)) (state_at n F roots o) (state_at m H images o) (state-goes o)

    stars-goes : (o : Origin) → Goes g (Passes (is_stars_set n F)) (stars_at n F roots o) (stars_at m H images o)
    stars-goes o =
        goes-then g g (Passes (is_state n F)) (Passes (is_stars_set n F)) (λ s. second_link (F s)) (λ s. second_link (H s))
        (λ l passes. second-goes state (is_buffer_map n F) (is_stars_set n F) l (λ a b. refl) (λ a b. refl) (λ a b. refl) passes.0 (state-two l passes)) (state_at n F roots o) (state_at m H images o) (state-goes o)

    -- at each spot of a vector stands the image of what stood there
    pub line-goes : (o : Origin) (b : Bytes) (path : List ℕ) → Goes h OwnThere (found n F roots (vector_row o b path)) (found m H images (vector_row o b path))
    line-goes o b path =
        goes-then g h (Passes (is_lines_vector n F)) OwnThere (down n F path) (down m H path) (λ l passes. root-down (λ k. is_cell_of (λ _. true) (F k)) line-own line-ends line-new_ends path l passes)
        (option_and_then (value_of_key n F b) (buffers_at n F roots o)) (option_and_then (value_of_key m H b) (buffers_at m H images o))
        (goes-then g g (Passes (is_buffer_map n F)) (Passes (is_lines_vector n F)) (value_of_key n F b) (value_of_key m H b) (λ l passes. value-goes (is_name_cell n F) (is_lines_vector n F) b l passes)
        (buffers_at n F roots o) (buffers_at m H images o) (buffers-goes o))

    -- where nothing was changed before
    module _ (same : (l : ℕ) → f l ≡ l) where
      there-goes : (x y : Option ℕ) → Goes h OwnThere x y → Goes g Own x y
      there-goes x y goes = goes-turned h g OwnThere Own (λ l is. (ap g (same l), record { seen = subst Seen (same l) is.seen; row = is.row; is = is.is; own = is.own })) x y goes

      history-down : (path : List ℕ) (l : ℕ) → Passes (is_history n F) l → Goes g Own (down n F path l) (down m H path (g l))
      history-down path l passes = there-goes (down n F path l) (down m H path (g l)) (root-down (is_state n F) there-own there-ends there-new_ends path l passes)

      -- at each spot stands the image of what stood there, a row of none of the tries
      pub found-goes : (s : NamedSpot) → Goes g Own (found n F roots s) (found m H images s)
      found-goes (state_row o) = goes-weaker g (Passes (is_state n F)) Own state-own (state_at n F roots o) (state_at m H images o) (state-goes o)
      found-goes (buffer_cell o b) =
          goes-then g g (Passes (is_buffer_map n F)) Own (key_cell_of n F b) (key_cell_of m H b)
          (λ l passes. goes-weaker g (Passes (is_name_cell n F)) Own (cell-own is_name) (key_cell_of n F b l) (key_cell_of m H b (g l)) (key-goes (is_name_cell n F) (is_lines_vector n F) b l passes))
          (buffers_at n F roots o) (buffers_at m H images o) (buffers-goes o)
      found-goes (star_cell o s) =
          goes-then g g (Passes (is_stars_set n F)) Own (entry_of n F s) (entry_of m H s)
          (λ l passes. goes-weaker g (Passes (is_name_cell n F)) Own (cell-own is_name) (entry_of n F s l) (entry_of m H s (g l)) (entry-goes (is_name_cell n F) s l passes))
          (stars_at n F roots o) (stars_at m H images o) (stars-goes o)
      found-goes (vector_row o b path) = there-goes (found n F roots (vector_row o b path)) (found m H images (vector_row o b path)) (line-goes o b path)
      found-goes (version_cell v) =
          goes-then g g (Passes (is_versions_map n F)) Own (key_cell_of n F v) (key_cell_of m H v)
          (λ l passes. goes-weaker g (Passes (is_name_cell n F)) Own (cell-own is_name) (key_cell_of n F v l) (key_cell_of m H v (g l)) (key-goes (is_name_cell n F) (is_state n F) v l passes))
          (slice_get roots 1) (slice_get images 1) tops.top_versions
      found-goes (undo_row path) = goes-then g g (Passes (is_history n F)) Own (down n F path) (down m H path) (history-down path) (slice_get roots 2) (slice_get images 2) tops.top_undo
      found-goes (redo_row path) = goes-then g g (Passes (is_history n F)) Own (down n F path) (down m H path) (history-down path) (slice_get roots 3) (slice_get images 3) tops.top_redo
