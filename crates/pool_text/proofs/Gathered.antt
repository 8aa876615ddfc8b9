-- Rows of a heap, and the rows of the pool that stand for them.
use Rattle.std.proofs.Common.{◌≡◌, ℕ, zero, suc, ◌+◌, ◌<◌, ◌≤◌, true, false, Option, Some, None, IsSome, slice_get, option_map, List, [], ◌∷◌, ◌++◌, map, length, take, refl, ap, sym, ◌∙◌, arith, add-one}
use Rattle.std.specs.List.{filter_map, cons_option}
use Rattle.std.proofs.lemmas.List.Elements.{filter_map-append}
use Rattle.node_heap.specs.Links.{count, HasLink, Reaches, here, below}
use Rattle.node_heap.specs.Forms.{Row, Form, Kind, cell, node, leaf, inner, trie, chain, pair, state, kind_of, form_of, links_of, head_of, value_of, links_in}
use Rattle.node_heap.specs.declared.row.Head.{Head}
use Rattle.node_heap.specs.Heap.{Heap, row_at, form_at, links_at, IsGraph}
use Rattle.pool_order.specs.Order.{order, order_of}
use Rattle.pool_order.specs.Laws.{IsOrder}
use Rattle.pool_order.proofs.Places.{order-is, order-same}
use Rattle.pool_order.proofs.Grounded.{grounded}
use Rattle.pool_text.specs.Rows.{Bytes}
use Rattle.pool_text.specs.Pool.{place_in, relink, Settings, pool, fits_pool, text_form, text_forms, pool_at}
use Rattle.pool_text.specs.declared.pool.Pool.{Pool}

fits-any : (K L : Type 0) (kind : Kind) (links : List ℕ) → fits_pool {K = K} (Some (node kind links)) ≡ fits_pool {K = L} (Some (node kind links))
fits-any K L leaf links = refl
fits-any K L (inner height) links = refl
fits-any K L (trie depth entries nodes) links = refl
fits-any K L chain links = refl
fits-any K L pair links = refl
fits-any K L state links = refl

abbrev pub made : Settings → List (Form Bytes) → List ℕ → Pool
made settings rows roots = record { bits = settings.bits; version = settings.version; history = settings.history; rows = rows; roots = roots }

module _ {T : Type 0} where
  -- a row that fits is there
  pub fits-live : (r : Option (Row T)) → fits_pool (option_map form_of r) ≡ true → IsSome r
  fits-live None h = absurd (let e : false ≡ true = h in cc)
  fits-live (Some x) h = refl

  pub node-fits : (r : Option (Row T)) (head : Head) (links : List ℕ) → Some head ≡ head_of r → links ≡ links_of r → fits_pool (option_map form_of r) ≡ true → fits_pool {K = Bytes} (Some (node (kind_of head) links)) ≡ true
  node-fits None head links e same h = absurd (let f : Some head ≡ None = e in cc)
  node-fits (Some (cell x)) head links e same h = absurd (let f : Some head ≡ None = e in cc)
  node-fits (Some (node head' links')) head links e same h =
      let f : Some head ≡ Some head' = e in
      let is : head ≡ head' = cc in
      ap (λ ks. fits_pool {K = Bytes} (Some (node (kind_of head) ks))) same ∙ ap (λ d. fits_pool {K = Bytes} (Some (node (kind_of d) links'))) is
      ∙ fits-any Bytes T (kind_of head') links' ∙ h

  pub no-row : (r : Option (Row T)) → None ≡ head_of r → None ≡ value_of r → fits_pool (option_map form_of r) ≡ true → ⊥
  no-row None e f h = let g : false ≡ true = h in cc
  no-row (Some (cell x)) e f h = let g : None ≡ Some x = f in cc
  no-row (Some (node head links)) e f h = let g : None ≡ Some head = e in cc

  pub node-is : (f : ℕ → ℕ) (text : T → Bytes) (r : Option (Row T)) (head : Head) (links : List ℕ) (row : Form Bytes) → Some head ≡ head_of r → links ≡ links_of r → row ≡ node (kind_of head) (map f links) → option_map (relink f) (option_map (text_form text) r) ≡ Some row
  node-is f text None head links row e same is = absurd (let g : Some head ≡ None = e in cc)
  node-is f text (Some (cell x)) head links row e same is = absurd (let g : Some head ≡ None = e in cc)
  node-is f text (Some (node head' links')) head links row e same is =
      let g : Some head ≡ Some head' = e in
      let of : head' ≡ head = cc in
      ap (λ d. Some (node (kind_of d) (map f links'))) of ∙ ap (λ ks. Some (node (kind_of head) (map f ks))) (sym same) ∙ ap (λ (x : Form Bytes). Some x) (sym is)

  pub cell-is : (f : ℕ → ℕ) (text : T → Bytes) (r : Option (Row T)) (x : T) (row : Form Bytes) → Some x ≡ value_of r → row ≡ cell (text x) → option_map (relink f) (option_map (text_form text) r) ≡ Some row
  cell-is f text None x row e is = absurd (let g : Some x ≡ None = e in cc)
  cell-is f text (Some (cell y)) x row e is =
      let g : Some x ≡ Some y = e in
      let of : y ≡ x = cc in
      ap (λ z. Some (cell (text z))) of ∙ ap (λ (z : Form Bytes). Some z) (sym is)
  cell-is f text (Some (node head links)) x row e is = absurd (let g : Some x ≡ None = e in cc)

  pub links-of-text : (text : T → Bytes) (r : Option (Row T)) → links_of (option_map (text_form text) r) ≡ links_of r
  links-of-text text None = refl
  links-of-text text (Some (cell x)) = refl
  links-of-text text (Some (node head links)) = refl

  -- every row that the roots reach fits
  abbrev pub AllFit : Heap T → List ℕ → Type 0
  AllFit h roots = (r l : ℕ) → 0 < count r roots → Reaches (links_at h) r l → fits_pool (form_at h l) ≡ true

  pub order-of : (h : Heap T) (roots : List ℕ) → IsGraph h → ((r : ℕ) → 0 < count r roots → IsSome (row_at h r)) → IsOrder (links_at h) roots (order_of h roots)
  order-of h roots graph live = let ground = grounded h graph in order-is ground.rank (links_at h) ground.falls (length h.rows) roots (λ r root. ground.low r (live r root))

  fit-live : (h : Heap T) (roots : List ℕ) → AllFit h roots → (r : ℕ) → 0 < count r roots → IsSome (row_at h r)
  fit-live h roots fits r root = fits-live (row_at h r) (fits r r root (here r))

  pub listed-fits : (h : Heap T) (roots : List ℕ) → IsGraph h → AllFit h roots → (l : ℕ) → 0 < count l (order_of h roots) → fits_pool (form_at h l) ≡ true
  listed-fits h roots graph fits l some = let from = (order-of h roots graph (fit-live h roots fits)).reached l some in fits from.0 l from.1 from.2

  pub listed-links : (h : Heap T) (roots : List ℕ) → IsGraph h → AllFit h roots → (l k : ℕ) → 0 < count l (order_of h roots) → HasLink (links_at h) l k → 0 < count k (order_of h roots)
  listed-links h roots graph fits l k some has =
      let is = order-of h roots graph (fit-live h roots fits) in
      let from = is.reached l some in
      is.all from.0 k from.1 (down from.0 l from.2 has)
    where
      down : (a b : ℕ) → Reaches (links_at h) a b → HasLink (links_at h) b k → Reaches (links_at h) a k
      down a b (here l) last = below l k k last (here k)
      down a b (below l j m has rest) last = below l j k has (down j m rest last)

  pub listed-roots : (h : Heap T) (roots : List ℕ) → IsGraph h → AllFit h roots → (r : ℕ) → 0 < count r roots → 0 < count r (order_of h roots)
  listed-roots h roots graph fits r root = (order-of h roots graph (fit-live h roots fits)).all r r root (here r)

  pub order-by-text : (text : T → Bytes) (h : Heap T) (roots : List ℕ) → order (length h.rows) (links_in (text_forms text h)) roots ≡ order_of h roots
  order-by-text text h roots = order-same (length h.rows) (links_at h) (links_in (text_forms text h)) roots (λ r root m down. links-of-text text (row_at h m))

  pub pool-is : (text : T → Bytes) (h : Heap T) (roots : List ℕ) (settings : Settings) (ks : List ℕ) (rows : List (Form Bytes)) (places : List ℕ) → ks ≡ order_of h roots
      → rows ≡ filter_map (λ k. option_map (relink (place_in ks)) (text_forms text h k)) ks → places ≡ map (place_in ks) roots → made settings rows places ≡ pool_at text h roots settings
  unfolding pool
  pool-is text h roots settings ks rows places e rows_are places_are =
      let same : ks ≡ order (length h.rows) (links_in (text_forms text h)) roots = e ∙ sym (order-by-text text h roots) in
      let listed : List ℕ = order (length h.rows) (links_in (text_forms text h)) roots in
      ap (λ (ys : List (Form Bytes)). made settings ys places) (rows_are ∙ ap (λ (zs : List ℕ). filter_map (λ k. option_map (relink (place_in zs)) (text_forms text h k)) zs) same)
      ∙ ap (λ (ys : List ℕ). made settings (filter_map (λ k. option_map (relink (place_in listed)) (text_forms text h k)) listed) ys) (places_are ∙ ap (λ (zs : List ℕ). map (place_in zs) roots) same)

take-next : (xs : List ℕ) (i r : ℕ) → Some r ≡ slice_get xs i → take (i + 1) xs ≡ take i xs ++ r ∷ []
take-next [] i r e = absurd cc
take-next (x ∷ xs) zero r e = let f : Some r ≡ Some x = e in let g : x ≡ r = cc in ap (λ y. y ∷ []) g
take-next (x ∷ xs) (suc i) r e = rw add-one (ap (λ ys. x ∷ ys) (rw add-one at (take-next xs i r e)))

-- one more row
pub rows-next : {X : Type 0} (g : ℕ → Option X) (ks : List ℕ) (i k : ℕ) (rows new : List X) (row : X) → rows ≡ filter_map g (take i ks) → Some k ≡ slice_get ks i → g k ≡ Some row → new ≡ rows ++ row ∷ [] → new ≡ filter_map g (take (i + 1) ks)
rows-next g ks i k rows new row before at is e =
    let split : filter_map g (take (i + 1) ks) ≡ filter_map g (take i ks) ++ filter_map g (k ∷ []) = ap (filter_map g) (take-next ks i k at) ∙ filter_map-append g (take i ks) (k ∷ []) in
    let last : filter_map g (k ∷ []) ≡ row ∷ [] = ap (λ o. cons_option o []) is in
    e ∙ ap (λ ys. ys ++ row ∷ []) before ∙ sym (split ∙ ap (λ ys. filter_map g (take i ks) ++ ys) last)

pub take_all : {X : Type 0} (xs : List X) (i : ℕ) → length xs ≤ i → take i xs ≡ xs
take_all [] zero h = refl
take_all [] (suc i) h = refl
take_all (x ∷ xs) zero h = absurd (omega arith)
take_all (x ∷ xs) (suc i) h = ap (λ ys. x ∷ ys) (take_all xs i (omega arith))
