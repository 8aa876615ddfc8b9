-- The pools of a heap: its rows are there, nothing leaks, and they stay.
use Rattle.std.proofs.Common.{◌≡◌, ℕ, zero, suc, ◌<◌, ◌≤◌, cond, IsSome, is_some, Option, Some, None, option_map, List, [], ◌∷◌, map, length, get_or, set, refl, ap, sym, subst, ◌∙◌, arith, inl, inr, get_or-set_other, get_or-set_same}
use Rattle.std.specs.Prelude.{count_by}
use Rattle.std.specs.List.{filter_map, cons_option}
use Rattle.std.proofs.lemmas.Bool.{cases_eq}
use Rattle.std.proofs.lemmas.List.Sums.{sum_by-set, sum_by-cons}
use Rattle.node_heap.specs.Links.{count, Reaches, here, below}
use Rattle.node_heap.specs.Forms.{Row, Form, Forms, cell, node, form_of, links_of, links_in}
use Rattle.node_heap.specs.Heap.{Heap, row_at, form_at, links_at, holds_at, live_count, IsGraph}
use Rattle.node_heap.specs.Calls.{KeepsBelow}
use Rattle.node_heap.proofs.Counts.{test_same, test_other, count-cons}
use Rattle.node_heap.proofs.Reach.{Reaches-by}
use Rattle.node_heap.proofs.Trees.{links_of-form}
use Rattle.pool_order.specs.Order.{order, order_of}
use Rattle.pool_order.proofs.Grounded.{grounded}
use Rattle.pool_order.proofs.Places.{order-same}
use Rattle.pool_order.proofs.Stays.{order-stays}
use Rattle.pool_text.specs.Rows.{Bytes}
use Rattle.pool_text.specs.Pool.{row_count, place_in, relink, Settings, pool, text_form, text_forms, pool_at}
use Rattle.pool_text.specs.Renaming.{IsRooted}
use Rattle.pool_text.proofs.Gathered.{made, links-of-text, order-of, order-by-text}
use Rattle.pool_text.proofs.PoolRows.{pool-length}

module _ {X : Type 0} where
  abbrev one : Option X → ℕ
  one r = cond (is_some r) 1 0

  one-some : (r : Option X) → IsSome r → one r ≡ 1
  one-some None live = absurd cc
  one-some (Some x) live = refl

  none-live : (rows : List (Option X)) → ((k : ℕ) → IsSome (get_or rows k None) → ⊥) → count_by is_some rows ≡ 0
  none-live [] none = refl
  none-live (None ∷ rows) none = omega (arith, sum_by-cons one None rows, none-live rows (λ k live. none (suc k) live))
  none-live (Some x ∷ rows) none = absurd (none 0 refl)

  row-low : (rows : List (Option X)) (l : ℕ) → IsSome (get_or rows l None) → l < length rows
  row-low [] l live = absurd cc
  row-low (r ∷ rs) zero live = omega arith
  row-low (r ∷ rs) (suc l) live = omega (arith, row-low rs l live)

  -- a list of the live places, each once, is as long as there are live rows
  length-live : (ks : List ℕ) (rows : List (Option X)) → ((k : ℕ) → count k ks ≤ 1) → ((k : ℕ) → 0 < count k ks → IsSome (get_or rows k None)) → ((k : ℕ) → IsSome (get_or rows k None) → 0 < count k ks) → length ks ≡ count_by is_some rows
  length-live [] rows once live all = sym (none-live rows (λ k some. absurd (omega (arith, all k some))))
  length-live (k ∷ ks) rows once live all =
      let live_k : IsSome (get_or rows k None) = live k (omega (arith, count-cons k k ks, test_same k k refl)) in
      let low : k < length rows = row-low rows k live_k in
      let gone : count k ks ≡ 0 = omega (arith, once k, count-cons k k ks, test_same k k refl) in
      let empty : Option X = None in
      let rest : length ks ≡ count_by is_some (set rows k empty) =
      length-live ks (set rows k empty) (λ j. omega (arith, once j, count-cons j k ks))
      (λ j some. elim (cases_eq j k) as (λ _. IsSome (get_or (set rows k empty) j empty)) [
        | inl same ↦ absurd (omega (arith, some, gone, ap (λ n. count n ks) same))
        | inr other ↦ rw (get_or-set_other {A = Option X}) (live j (omega (arith, some, count-cons j k ks)))
      ])
      (λ j some. elim (cases_eq j k) as (λ _. 0 < count j ks) [
        | inl same ↦ absurd (let e : get_or (set rows k empty) j empty ≡ empty = ap (λ n. get_or (set rows k empty) n empty) same ∙ (rw (get_or-set_same {A = Option X}) refl) in cc)
        | inr other ↦
            let e : get_or (set rows k empty) j empty ≡ get_or rows j empty = rw (get_or-set_other {A = Option X}) refl in
            omega (arith, all j (subst IsSome e some), count-cons j k ks, test_other k j (λ e. other (sym e)))
      ]) in
      omega (arith, rest, sum_by-set one rows k empty empty low, one-some (get_or rows k empty) live_k)

filter_map-same : {X : Type 0} (f g : ℕ → Option X) (ks : List ℕ) → ((k : ℕ) → 0 < count k ks → f k ≡ g k) → filter_map f ks ≡ filter_map g ks
filter_map-same f g [] same = refl
filter_map-same f g (k ∷ ks) same =
    ap (λ o. cons_option o (filter_map f ks)) (same k (omega (arith, count-cons k k ks, test_same k k refl)))
    ∙ ap (λ ys. cons_option (g k) ys) (filter_map-same f g ks (λ j some. same j (omega (arith, count-cons j k ks, some))))

module _ {T : Type 0} where
  reached-live : (h : Heap T) → IsGraph h → (a b : ℕ) → Reaches (links_at h) a b → IsSome (row_at h a) → IsSome (row_at h b)
  reached-live h graph x y (here l) live = live
  reached-live h graph x y (below l k m has down) live = reached-live h graph k m down (graph.closed l k has)

  some-text : (text : T → Bytes) (r : Option (Row T)) → IsSome r → IsSome (option_map (text_form text) r)
  some-text text None live = absurd cc
  some-text text (Some x) live = refl

  pub rooted-heap : (text : T → Bytes) (h : Heap T) (roots : List ℕ) → IsGraph h → ((r : ℕ) → 0 < count r roots → IsSome (row_at h r)) → IsRooted (length h.rows) (text_forms text h) roots
  rooted-heap text h roots graph live =
      let ground = grounded h graph in
      record {
        rank = ground.rank;
        falls = λ l k has. ground.falls l k (omega (arith, has, ap (count k) (links-of-text text (row_at h l))));
        low = λ r root. ground.low r (live r root);
        there = λ r l root down.
            some-text text (row_at h l) (reached-live h graph r l (Reaches-by (links_in (text_forms text h)) (links_at h) (λ k. sym (links-of-text text (row_at h k))) r l down) (live r root));
      }

  some-form : (r : Option (Row T)) → IsSome r → IsSome (option_map form_of r)
  some-form None live = absurd cc
  some-form (Some x) live = refl

  -- the same by the forms alone
  pub rooted-forms : (h : Heap T) (roots : List ℕ) → IsGraph h → ((r : ℕ) → 0 < count r roots → IsSome (row_at h r)) → IsRooted (length h.rows) (form_at h) roots
  rooted-forms h roots graph live =
      let ground = grounded h graph in
      record {
        rank = ground.rank;
        falls = λ l k has. ground.falls l k (omega (arith, has, ap (count k) (links_of-form (row_at h l))));
        low = λ r root. ground.low r (live r root);
        there = λ r l root down.
            some-form (row_at h l) (reached-live h graph r l (Reaches-by (links_in (form_at h)) (links_at h) (λ k. sym (links_of-form (row_at h k))) r l down) (live r root));
      }

  pub nothing-leaks : (text : T → Bytes) (h : Heap T) (roots : List ℕ) (settings : Settings) → IsGraph h → ((l : ℕ) → holds_at h l ≡ count l roots) → row_count (pool_at text h roots settings) ≡ live_count h
  nothing-leaks text h roots settings graph held =
      let live : (r : ℕ) → 0 < count r roots → IsSome (row_at h r) = λ r root. graph.held r (omega (arith, held r, root)) in
      let is = order-of h roots graph live in
      pool-length (length h.rows) (text_forms text h) roots (rooted-heap text h roots graph live) settings
      ∙ ap length (order-by-text text h roots)
      ∙ length-live (order_of h roots) h.rows is.once (λ k some. let from = is.reached k some in reached-live h graph from.0 k from.2 (live from.0 from.1))
      (λ k some. let from = graph.reached k some in is.all from.0 k (omega (arith, held from.0, from.1)) from.2)

  pub pools-stay : (text : T → Bytes) (old new : Heap T) (roots : List ℕ) (settings : Settings) → IsGraph old → IsGraph new → ((r : ℕ) → 0 < count r roots → IsSome (row_at old r)) → ((r : ℕ) → 0 < count r roots → KeepsBelow old new r)
      → pool_at text new roots settings ≡ pool_at text old roots settings
  unfolding pool
  pools-stay text old new roots settings graph graph' live keeps =
      let now : List ℕ = order (length new.rows) (links_in (text_forms text new)) roots in
      let was : List ℕ = order (length old.rows) (links_in (text_forms text old)) roots in
      let same : now ≡ was = order-by-text text new roots ∙ order-stays old new roots graph graph' live keeps ∙ sym (order-by-text text old roots) in
      let is = order-of old roots graph live in
      let kept : (k : ℕ) → 0 < count k was → option_map (relink (place_in was)) (text_forms text new k) ≡ option_map (relink (place_in was)) (text_forms text old k) =
      λ k some.
      let from = is.reached k (omega (arith, some, ap (count k) (order-by-text text old roots))) in
      ap (λ r. option_map (relink (place_in was)) (option_map (text_form text) r)) (keeps from.0 from.1 k from.2) in
      ap (λ (ks : List ℕ). made settings (filter_map (λ k. option_map (relink (place_in ks)) (text_forms text new k)) ks) (map (place_in ks) roots)) same
      ∙ ap (λ (rows : List (Form Bytes)). made settings rows (map (place_in was) roots))
      (filter_map-same (λ k. option_map (relink (place_in was)) (text_forms text new k)) (λ k. option_map (relink (place_in was)) (text_forms text old k)) was kept)

-- equal forms have equal pools
pool-same : (n : ℕ) (G H : Forms Bytes) (roots : List ℕ) (settings : Settings) → ((l : ℕ) → H l ≡ G l) → pool n H roots settings ≡ pool n G roots settings
unfolding pool
pool-same n G H roots settings same =
    let now : List ℕ = order n (links_in H) roots in
    let was : List ℕ = order n (links_in G) roots in
    let listed : now ≡ was = order-same n (links_in G) (links_in H) roots (λ r root m down. ap links_of (same m)) in
    ap (λ (ks : List ℕ). made settings (filter_map (λ k. option_map (relink (place_in ks)) (H k)) ks) (map (place_in ks) roots)) listed
    ∙ ap (λ (rows : List (Form Bytes)). made settings rows (map (place_in was) roots))
    (filter_map-same (λ k. option_map (relink (place_in was)) (H k)) (λ k. option_map (relink (place_in was)) (G k)) was (λ k some. ap (option_map (relink (place_in was))) (same k)))

pub texts-are-forms : (h : Heap Bytes) (roots : List ℕ) (settings : Settings) → pool_at (λ text. text) h roots settings ≡ pool (length h.rows) (form_at h) roots settings
texts-are-forms h roots settings = pool-same (length h.rows) (form_at h) (text_forms (λ text. text) h) roots settings (λ l. by_row (row_at h l))
  where
    by_row : (r : Option (Row Bytes)) → option_map (text_form (λ text. text)) r ≡ option_map form_of r
    by_row None = refl
    by_row (Some (cell x)) = refl
    by_row (Some (node head links)) = refl
