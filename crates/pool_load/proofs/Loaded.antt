-- Rows that were made stand for their pool.
use Rattle.std.proofs.Common.{◌≡◌, ℕ, ◌+◌, ◌-◌, ◌<◌, ◌≤◌, true, eqb, Option, Some, None, IsSome, option_map, List, [], ◌∷◌, map, length, take, get_or, refl, ap, sym, subst, ◌∙◌, arith}
use Rattle.std.specs.Prelude.{slice_index, nat_lt}
use Rattle.std.specs.List.{list_all, flat_map, range_with_len}
use Rattle.std.proofs.lemmas.Bool.Decides.{nat_tests}
use Rattle.std.proofs.lemmas.List.{take_all, ext_get_or}
use Rattle.std.proofs.lemmas.List.FromFn.{length-range_with_len, get_or-range_with_len, length-map-range_with_len, get_or-map-range_with_len}
use Rattle.std.proofs.lemmas.List.Sums.{sum_by-cons}
use Rattle.node_heap.specs.Links.{Links, count, Reaches, here, below, IsReached}
use Rattle.node_heap.specs.Forms.{Form, Forms, Row, cell, node, leaf, inner, trie, chain, pair, state, form_of, links_of, links_in, is_cell, is_node}
use Rattle.node_heap.specs.Heap.{Heap, row_at, links_at, holds_at, live_count, IsGraph}
use Rattle.node_heap.specs.Calls.{SameRows, Unchanged, HasGreater, KeepsToNeed, Builds}
use Rattle.node_heap.proofs.Frames.{Extends-trans, Extends-rows, Extends-Unchanged}
use Rattle.node_heap.proofs.Reach.{Reaches-same}
use Rattle.node_heap.proofs.Trees.{SameBelow-links}
use Rattle.rrb_core.specs.Seq.{form_height}
use Rattle.rrb_core.specs.Vector.{HasSums, height_at, HaveSums}
use Rattle.rrb_core.proofs.LinkCounts.{count-at}
use Rattle.rrb_core.proofs.Stays.{live-stays-by, sums-stay}
use Rattle.pool_order.specs.Order.{places, order, order_of}
use Rattle.pool_order.proofs.Places.{flat_map-found, places-reached, order-deep}
use Rattle.pool_text.specs.Rows.{Bytes}
use Rattle.pool_text.specs.Pool.{forms_in, row_count, place_in, relink, settings_of, text_form, text_forms, pool_at}
use Rattle.pool_text.specs.declared.pool.Pool.{Pool}
use Rattle.pool_text.proofs.Gathered.{order-by-text}
use Rattle.pool_text.proofs.Held.{rooted-heap}
use Rattle.pool_text.proofs.Placed.{place-is}
use Rattle.pool_text.proofs.Renamed.{map-found, count-map, links-relink}
use Rattle.pool_check.specs.Rows.{rows_lead_back, rows_in_range_by, links_lead_back, texts_are_lines}
use Rattle.pool_check.specs.Vectors.{has_height, vectors_stand}
use Rattle.pool_text.specs.Rules.{present_rules}
use Rattle.pool_check.specs.Damages.{HasValidRows}
use Rattle.pool_check.specs.Checked.{HasCheckedRows}
use Rattle.pool_check.proofs.TestLemmas.{and-first, leads-down, roots-low}
use Rattle.pool_load.specs.Loads.{cells_of, nodes_of, Loads, AreRowsLoaded, AreValuedByPlace}
use Rattle.pool_load.specs.Rows.{AreSound}
use Rattle.pool_load.specs.Making.{ArePlacesBelow, AreMade, AreValued, GivesUp, AreReachedWithout}
use Rattle.pool_check.proofs.OwnRows.{in-order, reached-low, own-order, one-place, pool-of-rows}
use Rattle.pool_load.proofs.Places.{below-all}
use Rattle.pool_text.proofs.Ordered.{order-renamed}
use Rattle.pool_load.proofs.Steps.{links-made}

-- ## Pools of valid rows

-- they are sound
pub sound-rows : (P : Pool) → HasValidRows present_rules P → AreSound P.rows
unfolding rows_in_range_by links_lead_back texts_are_lines vectors_stand
sound-rows P v = record {
  in_range = v.in_range;
  lead_back = and-first (rows_lead_back 0 P.rows) (list_all (λ k. nat_lt k (row_count P)) P.roots) v.passed.lead_back;
  lines = v.passed.lines;
  filled = v.passed.vectors;
}

in-range : (n p : ℕ) → p < n → 0 < count p (range_with_len 0 n)
in-range n p low =
    let ps : List ℕ = range_with_len 0 n in
    let at : get_or ps p 0 ≡ p = omega (arith, get_or-range_with_len 0 n p 0 low) in
    let some : 0 < count (get_or ps p 0) ps = count-at ps p 0 (omega (arith, low, length-range_with_len 0 n)) in
    subst (λ k. 0 < count k ps) at some

module _ (P : Pool) (v : HasValidRows present_rules P) where
  abbrev pub below_rows : Links
  below_rows = links_in (forms_in P)

  -- each row is reached from a root
  place-reached : (p : ℕ) → p < row_count P → (r : ℕ) × (0 < count r P.roots) × Reaches below_rows r p
  place-reached p low = (own-order P v).reached p (omega (arith, in-range (row_count P) p low, ap (count p) (in-order P v)))

-- the roots are places of rows
pub roots-below : (P : Pool) → HasValidRows present_rules P → (n : ℕ) (ks : List ℕ) → n ≡ row_count P → ks ≡ P.roots → ArePlacesBelow n ks
roots-below P v n ks many same = below-all n ks (λ k has. omega (arith, many, roots-low P v.passed.lead_back k (omega (arith, has, ap (count k) same))))

-- ## Loaded rows

-- every row of the pool stands in the heap, at the link of its place
pub record RowsStand {T : Type 0} (text : T → Bytes) (h : Heap T) (P : Pool) (links : List ℕ) : Type 0 where
  pub many : length links ≡ row_count P
  pub forms : (p : ℕ) → p < length links → text_forms text h (slice_index links p) ≡ option_map (relink (slice_index links)) (forms_in P p)
  pub once : (k : ℕ) → count k links ≤ 1
  pub live : (k : ℕ) → 0 < count k links → IsSome (row_at h k)
  pub sums : (p n : ℕ) → p < length links → has_height n (forms_in P p) ≡ true → HasSums h n (slice_index links p)
  pub graph : IsGraph h

pub loaded-made : {T : Type 0} {text : T → Bytes} {old h : Heap T} {P : Pool} {links : List ℕ} → AreMade text old h P.rows links → length links ≡ row_count P → RowsStand text h P links
loaded-made is many = record {
  many = many;
  forms = is.forms;
  once = is.once;
  live = λ k has. is.graph.held k (omega (arith, is.holds k, has));
  sums = is.sums;
  graph = is.graph;
}

pub loaded-same : {T : Type 0} {text : T → Bytes} {old new : Heap T} {P : Pool} {links : List ℕ} → SameRows old new → IsGraph new → RowsStand text old P links → RowsStand text new P links
loaded-same {text = text} {old = old} {new = new} {links = links} same graph is = record {
  many = is.many;
  forms = λ p low. ap (option_map (text_form text)) (same (slice_index links p)) ∙ is.forms p low;
  once = is.once;
  live = λ k has. subst IsSome (sym (same k)) (is.live k has);
  sums = λ p n low high. sums-stay (live-stays-by old new same graph) n (slice_index links p) (is.live (slice_index links p) (count-at links p 0 low)) (is.sums p n low high);
  graph = graph;
}

text-height : {T : Type 0} (text : T → Bytes) (r : Option (Row T)) → form_height (option_map (text_form text) r) ≡ form_height (option_map form_of r)
text-height text None = refl
text-height text (Some (cell x)) = refl
text-height text (Some (node head links)) = refl

relink-height : {K : Type 0} (f : ℕ → ℕ) (r : Option (Form K)) → form_height (option_map (relink f) r) ≡ form_height r
relink-height f None = refl
relink-height f (Some (cell x)) = refl
relink-height f (Some (node kind links)) = refl

own-height : (n : ℕ) → eqb n n ≡ true
own-height n = grind (arith, nat_tests)

some-map : {X Y : Type 0} (f : X → Y) (r : Option X) → IsSome r → IsSome (option_map f r)
some-map f None live = absurd cc
some-map f (Some x) live = refl

module _ {T : Type 0} (text : T → Bytes) (h : Heap T) (P : Pool) (v : HasValidRows present_rules P) (links : List ℕ) (is : RowsStand text h P links) where
  abbrev pub root_links : List ℕ
  root_links = map (slice_index links) P.roots

  links-down : (p k : ℕ) → 0 < count k (links_in (forms_in P) p) → k < p
  links-down p k has = leads-down P v.passed.lead_back p k has

  row-links : (p : ℕ) → p < row_count P → links_at h (slice_index links p) ≡ map (slice_index links) (links_in (forms_in P) p)
  row-links p low = links-made text (slice_index links) (row_at h (slice_index links p)) (forms_in P p) (is.forms p (omega (arith, low, is.many)))

  -- the ways down in the pool are ways down in the heap
  pub ways-down : (r p : ℕ) → Reaches (links_in (forms_in P)) r p → r < row_count P → Reaches (links_at h) (slice_index links r) (slice_index links p)
  ways-down a b (here l) low = here (slice_index links l)
  ways-down a b (below l k m has down) low =
      below (slice_index links l) (slice_index links k) (slice_index links m)
      (omega (arith, ap (count (slice_index links k)) (row-links l low), count-map (slice_index links) k (links_in (forms_in P) l) has))
      (ways-down k m down (omega (arith, low, links-down l k has)))

  -- and the other way round
  ways-back : (x l : ℕ) → Reaches (links_at h) x l → (q : ℕ) → q < row_count P → slice_index links q ≡ x → (p : ℕ) × (p < row_count P) × (slice_index links p ≡ l)
  ways-back x y (here l) q low same = (q, low, same)
  ways-back x y (below a b c has rest) q low same =
      let links_are : links_at h a ≡ map (slice_index links) (links_in (forms_in P) q) = ap (links_at h) (sym same) ∙ row-links q low in
      let found = map-found (slice_index links) (links_in (forms_in P) q) b (omega (arith, has, ap (count b) links_are)) in
      ways-back b c rest found.0 (omega (arith, low, links-down q found.0 found.1)) found.2

  -- each row below the roots is one of those rows
  pub below-roots : (r l : ℕ) → 0 < count r root_links → Reaches (links_at h) r l → 0 < count l links
  below-roots r l root down =
      let found = map-found (slice_index links) P.roots r root in
      let at = ways-back r l down found.0 (roots-low P v.passed.lead_back found.0 found.1) found.2 in
      subst (λ k. 0 < count k links) at.2 (count-at links at.0 0 (omega (arith, at.1, is.many)))

  sums-at : (p : ℕ) → p < row_count P → HasSums h (height_at h (slice_index links p)) (slice_index links p)
  unfolding HasSums
  sums-at p low =
      let inside : p < length links = omega (arith, low, is.many) in
      let height : height_at h (slice_index links p) ≡ form_height (forms_in P p) =
      sym (text-height text (row_at h (slice_index links p))) ∙ ap form_height (is.forms p inside) ∙ relink-height (slice_index links) (forms_in P p) in
      subst (λ n. HasSums h n (slice_index links p)) (sym height) (by_form (forms_in P p) (λ n high. is.sums p n inside high))
    where
      by_form : (r : Option (Form Bytes)) → ((n : ℕ) → has_height n r ≡ true → HasSums h n (slice_index links p)) → HasSums h (form_height r) (slice_index links p)
      by_form None each = tt
      by_form (Some (cell _)) each = tt
      by_form (Some (node leaf _)) each = tt
      by_form (Some (node (inner height) _)) each = each height (own-height height)
      by_form (Some (node (trie _ _ _) _)) each = tt
      by_form (Some (node chain _)) each = tt
      by_form (Some (node pair _)) each = tt
      by_form (Some (node state _)) each = tt

  sums-loaded : HaveSums h root_links
  sums-loaded r l root down =
      let found = map-found (slice_index links) P.roots r root in
      let at = ways-back r l down found.0 (roots-low P v.passed.lead_back found.0 found.1) found.2 in
      subst (λ k. HasSums h (height_at h k) k) at.2 (sums-at at.0 at.1)

  abbrev G : Forms Bytes
  G = text_forms text h

  linked : (r : ℕ) → 0 < count r P.roots → (m : ℕ) → Reaches (links_in (forms_in P)) r m → links_in G (slice_index links m) ≡ map (slice_index links) (links_in (forms_in P) m)
  linked r root m down =
      let low : m < row_count P = reached-low P v r m down (roots-low P v.passed.lead_back r root) in
      ap links_of (is.forms m (omega (arith, low, is.many))) ∙ links-relink (slice_index links) (forms_in P m)

  root-live : (x : ℕ) → 0 < count x root_links → IsSome (row_at h x)
  root-live x root =
      let found = map-found (slice_index links) P.roots x root in
      let low : found.0 < length links = omega (arith, roots-low P v.passed.lead_back found.0 found.1, is.many) in
      subst (λ k. IsSome (row_at h k)) found.2 (is.live (slice_index links found.0) (count-at links found.0 0 low))

  listed : order (length h.rows) (links_in G) root_links ≡ links
  listed =
      let n : ℕ = length h.rows + row_count P in
      let L : Links = links_in (forms_in P) in
      let rooted = rooted-heap text h root_links is.graph root-live in
      let low : (r : ℕ) → 0 < count r P.roots → r < row_count P = roots-low P v.passed.lead_back in
      let inside : (k : ℕ) → 0 < count k (flat_map (places n L) P.roots) → k < length links =
      λ k some.
      let found = flat_map-found (places n L) P.roots k some in
      omega (arith, reached-low P v found.0 k (places-reached n L found.0 k found.2) (low found.0 found.1), is.many) in
      order-deep rooted.rank (links_in G) rooted.falls (length h.rows) n root_links rooted.low (λ r root. omega (arith, rooted.low r root))
      ∙ order-renamed (slice_index links) L (links_in G) n P.roots linked (λ a b in_a in_b same. one-place links is.once a b (inside a in_a) (inside b in_b) same)
      ∙ ap (map (slice_index links)) (order-deep (λ l. l) L (leads-down P v.passed.lead_back) n (row_count P) P.roots (λ r root. omega (arith, low r root)) low ∙ in-order P v)
      ∙ all-places links (row_count P) is.many
    where
      all-places : (ks : List ℕ) (n : ℕ) → length ks ≡ n → map (slice_index ks) (range_with_len 0 n) ≡ ks
      all-places ks n many =
          let js : List ℕ = map (slice_index ks) (range_with_len 0 n) in
          let size : length js ≡ n = length-map-range_with_len (slice_index ks) 0 n in
          ext_get_or 0 js ks (size ∙ sym many) (λ i low. get_or-map-range_with_len (slice_index ks) 0 n i i 0 (omega (arith, low, size)) (omega arith))

  -- the pool of the loaded rows is the pool itself
  pool-loaded : pool_at text h root_links (settings_of P) ≡ P
  pool-loaded =
      pool-of-rows G links P
      (record { many = is.many; forms = is.forms; once = is.once; there = λ k has. some-map (text_form text) (row_at h k) (is.live k has) }) v.passed.lead_back
      (length h.rows) listed

  links-listed : order_of h root_links ≡ links
  links-listed = sym (order-by-text text h root_links) ∙ listed

  pub are-valued : (value : ℕ → Bytes → T) → AreValued text value h links → AreValuedByPlace text value h root_links
  are-valued value valued l x some is =
      let at = place-is links l (omega (arith, some, ap (count l) links-listed)) in
      valued (place_in links l) at.0 x (ap (row_at h) at.1 ∙ is) ∙ ap (λ (ks : List ℕ). value (place_in ks l) (text x)) (sym links-listed)

  pub are-loaded : HasCheckedRows P → AreRowsLoaded text h root_links P
  are-loaded checked = record { graph = is.graph; live = root-live; checked = checked; pool = pool-loaded; sums = sums-loaded }

-- ## The holds that are given up

-- the rows of such a pool were made, each held once, and those of its roots held once more
pub record AreHeld {T : Type 0} (text : T → Bytes) (old mid new : Heap T) (P : Pool) (links : List ℕ) : Type 0 where
  pub valid : HasValidRows present_rules P
  pub graph : IsGraph old
  pub rows : AreMade text old mid P.rows links
  pub many : length links ≡ row_count P
  pub same : SameRows mid new
  pub held : Builds mid new [] (map (slice_index links) P.roots) 0 0

module _ {T : Type 0} {text : T → Bytes} {old mid new : Heap T} {P : Pool} {links : List ℕ} (is : AreHeld text old mid new P links) where
  held-stand : RowsStand text new P links
  held-stand = loaded-same is.same is.held.graph (loaded-made is.rows is.many)

  -- each link is held for itself besides
  pub own-held : (k : ℕ) → count k links ≤ holds_at new k
  own-held k = omega (arith, is.rows.holds k, is.held.holds k)

  old-reached : (l : ℕ) → IsSome (row_at old l) → IsReached (λ k. holds_at new k - count k links) (links_at new) l
  old-reached l live =
      let up = is.graph.reached l live in
      let below_same = SameBelow-links (row_at old) (row_at new) up.0 ((Extends-trans is.rows.extends is.held.extends).kept up.0 (is.graph.held up.0 up.1)) in
      (up.0, omega (arith, up.1, is.rows.holds up.0, is.held.holds up.0), Reaches-same (links_at old) (links_at new) up.0 l up.2 below_same)

  new-reached : (l : ℕ) → 0 < count l links → IsReached (λ k. holds_at new k - count k links) (links_at new) l
  new-reached l has =
      let f : ℕ → ℕ = slice_index links in
      let at = place-is links l has in
      let p : ℕ = place_in links l in
      let from = place-reached P is.valid p (omega (arith, at.0, is.many)) in
      let way : Reaches (links_at new) (f from.0) (f p) = ways-down text new P is.valid links held-stand from.0 p from.2 (roots-low P is.valid.passed.lead_back from.0 from.1) in
      (f from.0, omega (arith, count-map f from.0 P.roots from.1, is.rows.holds (f from.0), is.held.holds (f from.0)), subst (Reaches (links_at new) (f from.0)) at.1 way)

  pub reached-without : AreReachedWithout new links
  reached-without l live = by_row (row_at old l) refl
    where
      by_row : (r : Option (Row T)) → row_at old l ≡ r → IsReached (λ k. holds_at new k - count k links) (links_at new) l
      by_row None none = new-reached l (is.rows.all l (subst IsSome (is.same l) live) none)
      by_row (Some x) some = old-reached l (rw some refl)

-- ## All of it

pub kinds-add-up : {K : Type 0} (rows : List (Form K)) → cells_of rows + nodes_of rows ≡ length rows
kinds-add-up [] = refl
kinds-add-up (cell x ∷ rows) = omega (arith, sum_by-cons (λ row. is_cell (Some row)) (cell x) rows, sum_by-cons (λ row. is_node (Some row)) (cell x) rows, kinds-add-up rows)
kinds-add-up (node kind links ∷ rows) =
    omega (arith, sum_by-cons (λ row. is_cell (Some row)) (node kind links) rows, sum_by-cons (λ row. is_node (Some row)) (node kind links) rows, kinds-add-up rows)

module _ {T : Type 0} {text : T → Bytes} {old mid top new : Heap T} {P : Pool} {links : List ℕ} (is : AreHeld text old mid top P links) (up : GivesUp top new links) where
  pub rows-loaded : RowsStand text new P links
  rows-loaded = loaded-same up.rows up.graph (held-stand is)

  pub all-loaded : {first : Heap T} → Unchanged first old → Loads first new (map (slice_index links) P.roots) P
  all-loaded {first} room =
      let cells : cells_of (take (length links) P.rows) ≡ cells_of P.rows = ap (λ (rs : List (Form Bytes)). cells_of rs) (take_all (length links) P.rows (omega (arith, is.many))) in
      let nodes : nodes_of (take (length links) P.rows) ≡ nodes_of P.rows = ap (λ (rs : List (Form Bytes)). nodes_of rs) (take_all (length links) P.rows (omega (arith, is.many))) in
      let all : cells_of P.rows + nodes_of P.rows ≡ row_count P = kinds-add-up P.rows in
      let rows = is.rows in
      let held = is.held in
      let live : live_count new ≡ live_count first + row_count P = omega (arith, room.live, rows.makes.live, cells, nodes, all, held.makes.live, held.few_cells, held.few_nodes, up.live) in
      record {
        extends = Extends-trans (Extends-Unchanged room) (Extends-trans rows.extends (Extends-trans held.extends (Extends-rows top new up.rows)));
        graph = up.graph;
        fresh = λ r l root down. sym (room.rows l) ∙ rows.fresh l (below-roots text new P is.valid links rows-loaded r l root down);
        holds = λ k. omega (arith, room.holds k, rows.holds k, held.holds k, up.holds k);
        count = omega (arith, room.count, rows.count, held.total, up.count);
        cells = omega (arith, room.cells, rows.makes.cells, cells, held.makes.cells, held.few_cells, up.cells);
        nodes = omega (arith, room.nodes, rows.makes.nodes, nodes, held.makes.nodes, held.few_nodes, up.nodes);
        live = live;
        made = omega (arith, room.made, rows.makes.made, cells, nodes, all, held.makes.made, held.few_cells, held.few_nodes, up.made);
        balance = record {
          spare_cells = omega (arith, room.spare_cells, room.cells, rows.makes.spare_cells, rows.makes.cells, held.makes.spare_cells, held.makes.cells, up.spare_cells, up.cells);
          spare_nodes = omega (arith, room.spare_nodes, room.nodes, rows.makes.spare_nodes, rows.makes.nodes, held.makes.spare_nodes, held.makes.nodes, up.spare_nodes, up.nodes);
          no_fewer = omega (arith, room.made, rows.makes.no_fewer, held.makes.no_fewer, up.made);
          made = omega (arith, live, room.made, rows.makes.made, cells, nodes, all, held.makes.made, held.few_cells, held.few_nodes, up.made);
        };
      }

  -- room was made for just the rows of the pool, and each of them was made of a spare
  pub need-kept : {first : Heap T} {cells nodes : ℕ} → HasGreater first old cells nodes → Unchanged first old → cells ≡ cells_of P.rows → nodes ≡ nodes_of P.rows → KeepsToNeed first new (cells_of P.rows) (nodes_of P.rows)
  need-kept greater room cells nodes =
      let rows = is.rows in
      let held = is.held in
      record {
        few_cells = omega (arith, greater.spare_cells, cells, room.cells, rows.makes.spare_cells, rows.makes.cells, held.makes.spare_cells, held.makes.cells, up.spare_cells, up.cells);
        few_nodes = omega (arith, greater.spare_nodes, nodes, room.nodes, rows.makes.spare_nodes, rows.makes.nodes, held.makes.spare_nodes, held.makes.nodes, up.spare_nodes, up.nodes);
      }
