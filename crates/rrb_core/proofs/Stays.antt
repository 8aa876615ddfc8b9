-- Vectors stay for any set of rows that is closed under links and kept.
use Rattle.std.proofs.Common.{◌≡◌, ℕ, suc, zero, ◌-◌, ◌+◌, List, length, take, get_or, refl, ap, sym, ◌∙◌, Option, Some, None, IsSome}
use Rattle.std.specs.Prelude.{option_map, ◌↔◌}
use Rattle.std.specs.List.{All, flat_map}
use Rattle.std.proofs.lemmas.List.Elements.{All-take}
use Rattle.node_heap.specs.Links.{Reaches, here, below as step}
use Rattle.node_heap.specs.Forms.{Row, Form, cell, node, leaf, form_of, links_of, links_in}
use Rattle.node_heap.specs.Reads.{sums_in}
use Rattle.node_heap.specs.Heap.{Heap, row_at, form_at, links_at, IsGraph}
use Rattle.node_heap.specs.Calls.{KeepsBelow, Extends}
use Rattle.node_heap.proofs.Reach.{Reaches-trans}
use Rattle.rrb_core.specs.Seq.{seq_at, IsThick, IsWell}
use Rattle.rrb_core.specs.Vector.{IsRegular, KeepsSums, HasSums, row_sums, sums_at, height_at, elements, IsGoodVector, IsSameVector, VectorsStay}
use Rattle.rrb_core.proofs.ClosedRows.{Stays}
use Rattle.rrb_core.specs.Build.{IsRowOf, AreRows}
use Rattle.rrb_core.proofs.LinkCounts.{all-counted}
use Rattle.rrb_core.proofs.Lists.{flat_map-same, All-flat_map}
use Rattle.rrb_core.proofs.FillRule.{shaped-at, height-is}

-- a form has the links of its row
pub form-links : {T : Type 0} (r : Option (Row T)) → links_of (option_map form_of r) ≡ links_of r
form-links None = refl
form-links (Some (cell x)) = refl
form-links (Some (node head links)) = refl

pub links-form : {T : Type 0} (h : Heap T) (l : ℕ) → links_in (form_at h) l ≡ links_at h l
links-form h l = form-links (row_at h l)

-- the sums that a row keeps, by its head
pub sums-row : {T : Type 0} (r : Option (Row T)) → sums_in r ≡ row_sums r
sums-row None = refl
sums-row (Some (cell x)) = refl
sums-row (Some (node head links)) = refl

-- a link that has a form is live
pub form-live : {T : Type 0} (r : Option (Row T)) (f : Form T) → option_map form_of r ≡ Some f → IsSome r
form-live None f e = absurd cc
form-live (Some r) f e = refl

pub well-live : {T : Type 0} (h : Heap T) (n l : ℕ) → IsWell (form_at h) n l → IsSome (row_at h l)
unfolding IsWell
well-live h zero l w = form-live (row_at h l) _ w.kind
well-live h (suc n) l w = form-live (row_at h l) _ w.kind

module _ {T : Type 0} {P : ℕ → Type 0} {old new : Heap T} (s : Stays P old new) where
  pub form-stays : (l : ℕ) → P l → form_at new l ≡ form_at old l
  form-stays l p = ap (option_map form_of) (s.kept l p)

  pub links-stay : (l : ℕ) → P l → links_at new l ≡ links_at old l
  links-stay l p = ap links_of (s.kept l p)

  pub forms-stay : (l : ℕ) → P l → links_in (form_at new) l ≡ links_in (form_at old) l
  forms-stay l p = ap links_of (form-stays l p)

  below : (l : ℕ) → P l → All P (links_in (form_at old) l)
  below l p = rw (links-form old l) (s.closed l p)

  pub seq-stays : (n l : ℕ) → P l → seq_at (form_at new) n l ≡ seq_at (form_at old) n l
  unfolding seq_at
  seq-stays zero l p = forms-stay l p
  seq-stays (suc n) l p = rw (forms-stay l p) (flat_map-same (seq_at (form_at new) n) (seq_at (form_at old) n) (links_in (form_at old) l) (λ k d b. seq-stays n (get_or (links_in (form_at old) l) k d) (below l p k d b)))

  pub items-stay : (n : ℕ) (ks : List ℕ) → All P ks → flat_map (seq_at (form_at new) n) ks ≡ flat_map (seq_at (form_at old) n) ks
  items-stay n ks named = flat_map-same (seq_at (form_at new) n) (seq_at (form_at old) n) ks (λ k d b. seq-stays n (get_or ks k d) (named k d b))

  pub thick-stays : (n l : ℕ) → P l → IsThick (form_at old) n l → IsThick (form_at new) n l
  unfolding IsThick
  thick-stays zero l p t = rw (forms-stay l p) t
  thick-stays (suc n) l p t = rw (forms-stay l p) (t.0, λ k d b. thick-stays n (get_or (links_in (form_at old) l) k d) (below l p k d b) (t.1 k d b))

  pub all-thick-stay : (n : ℕ) (ks : List ℕ) → All P ks → All (IsThick (form_at old) n) ks → All (IsThick (form_at new) n) ks
  all-thick-stay n ks named t = λ k d b. thick-stays n (get_or ks k d) (named k d b) (t k d b)

  pub well-stays : (n l : ℕ) → P l → IsWell (form_at old) n l → IsWell (form_at new) n l
  unfolding IsWell
  well-stays zero l p w = record { kind = form-stays l p ∙ w.kind ∙ ap (λ ls. Some (node leaf ls)) (sym (forms-stay l p)); most = rw (forms-stay l p) w.most }
  well-stays (suc n) l p w =
      let e : form_at new l ≡ form_at old l = form-stays l p in
      let named : All P (links_in (form_at old) l) = below l p in
      record {
        kind = rw e w.kind;
        some = rw e w.some;
        most = rw e w.most;
        children = rw e (λ k d b. well-stays n (get_or (links_in (form_at old) l) k d) (named k d b) (w.children k d b));
        thick = rw e (all-thick-stay n (take (length (links_in (form_at old) l) - 1) (links_in (form_at old) l)) (All-take P (length (links_in (form_at old) l) - 1) (links_in (form_at old) l) named) w.thick);
        not_empty = rw e (λ k d b. rw (forms-stay (get_or (links_in (form_at old) l) k d) (named k d b)) (w.not_empty k d b));
      }

  -- full children stay full
  pub regular-stays : (n : ℕ) (ks : List ℕ) → All P ks → IsRegular (form_at old) n ks ↔ IsRegular (form_at new) n ks
  regular-stays n ks named =
      let front : All P (take (length ks - 1) ks) = All-take P (length ks - 1) ks named in (
        λ r k d b. rw (seq-stays n (get_or (take (length ks - 1) ks) k d) (front k d b)) (r k d b),
        λ r k d b. rw (← seq-stays n (get_or (take (length ks - 1) ks) k d) (front k d b)) (r k d b),
      )

  pub keeps-stay : (n : ℕ) (ks ss : List ℕ) → All P ks → KeepsSums (form_at old) n ks ss → KeepsSums (form_at new) n ks ss
  keeps-stay n ks ss named s =
      let same = regular-stays n ks named in
      record {
        none = (λ e. same.0 (s.none.0 e), λ r. s.none.1 (same.1 r));
        kept = λ no. let a = s.kept (λ r. no (same.0 r)) in record { count = a.count; each = λ i b. a.each i b ∙ ap length (sym (items-stay n (take (i + 1) ks) (All-take P (i + 1) ks named))) };
      }

  pub sums-stay : (n l : ℕ) → P l → HasSums old n l → HasSums new n l
  unfolding HasSums
  sums-stay zero l p h = tt
  sums-stay (suc n) l p h =
      let e : row_at new l ≡ row_at old l = s.kept l p in (
        rw e (keeps-stay n (links_at old l) (sums_at old l) (s.closed l p) h.0),
        rw e (λ k d b. sums-stay n (get_or (links_at old l) k d) (s.closed l p k d b) (h.1 k d b)),
      )

  pub rows-stay : (n : ℕ) (ks : List ℕ) → All P ks → AreRows old n ks → AreRows new n ks
  rows-stay n ks named r =
      record {
        well = λ k d b. well-stays n (get_or ks k d) (named k d b) (r.well k d b);
        thick = all-thick-stay n (take (length ks - 1) ks) (All-take P (length ks - 1) ks named) r.thick;
        not_empty = λ k d b. rw (links-stay (get_or ks k d) (named k d b)) (r.not_empty k d b);
        sums = λ k d b. sums-stay n (get_or ks k d) (named k d b) (r.sums k d b);
      }

  pub row-stays : (n l : ℕ) (xs : List ℕ) → P l → IsRowOf old n l xs → IsRowOf new n l xs
  row-stays n l xs p r = record { well = well-stays n l p r.well; sums = sums-stay n l p r.sums; items = seq-stays n l p ∙ r.items }

  -- a vector stays with its elements
  pub good-stays : (l : ℕ) → P l → IsGoodVector old l → IsGoodVector new l × (elements new l ≡ elements old l)
  good-stays l p good =
      let n : ℕ = height_at old l in
      let well = well-stays n l p good.shape.well in
      let both = shaped-at (form_at new) n l (elements old l) well (seq-stays n l p) good.shape.low (λ some. rw (forms-stay l p) (good.shape.two some)) good.shape.short in
      let e : height_at new l ≡ n = height-is (form_at new) n l well in
      (record { shape = both.0; sums = rw e (sums-stay n l p good.sums) }, both.1)

-- every live row stays where rows are only added
pub live-stays : {T : Type 0} {old new : Heap T} → IsGraph old → Extends old new → Stays (λ l. IsSome (row_at old l)) old new
live-stays {T} {old} {new} graph ext =
    record {
      closed = λ l live. all-counted (λ k. IsSome (row_at old k)) (links_at old l) (λ k some. graph.closed l k some);
      kept = λ l live. ext.kept l live l (here l);
    }

-- every live row stays where all rows are the same
pub live-stays-by : {T : Type 0} (old new : Heap T) → ((k : ℕ) → row_at new k ≡ row_at old k) → IsGraph new → Stays (λ l. IsSome (row_at old l)) old new
live-stays-by old new same graph =
    record {
      closed = λ l live. all-counted (λ k. IsSome (row_at old k)) (links_at old l) (λ k some. rw (← same k) (graph.closed l k (rw (same l) some)));
      kept = λ l live. same l;
    }

-- all elements below a row are live
pub seq-live : {T : Type 0} (h : Heap T) → IsGraph h → (n l : ℕ) → All (λ k. IsSome (row_at h k)) (seq_at (form_at h) n l)
unfolding seq_at
seq-live h graph zero l = rw (links-form h l) (all-counted (λ k. IsSome (row_at h k)) (links_at h l) (λ k some. graph.closed l k some))
seq-live h graph (suc n) l = All-flat_map (λ k. IsSome (row_at h k)) (seq_at (form_at h) n) (links_in (form_at h) l) (λ k. seq-live h graph n k)

-- all that a link reaches is closed under links
pub below-stays : {T : Type 0} {old new : Heap T} (l : ℕ) → KeepsBelow old new l → Stays (Reaches (links_at old) l) old new
below-stays {T} {old} l kept =
    record {
      closed = λ m down. all-counted (Reaches (links_at old) l) (links_at old m) (λ k some. Reaches-trans (links_at old) l m k down (step m k k some (here k)));
      kept = λ m down. kept m down;
    }

-- a vector stays where all that its root reaches is the same
pub vector-stays : (T : Type 0) → VectorsStay T
vector-stays T old new l kept good = good-stays (below-stays l kept) l (here l) good

-- every vector stays where rows are only added
pub extended-same : {T : Type 0} {old new : Heap T} → Extends old new → (l : ℕ) → IsSameVector old new l
extended-same {T} {old} {new} ext l good = vector-stays T old new l (ext.kept l (well-live old (height_at old l) l good.shape.well)) good

pub extended-good : {T : Type 0} {old new : Heap T} (l : ℕ) → Extends old new → IsGoodVector old l → IsGoodVector new l
extended-good l ext good = (extended-same ext l good).0
