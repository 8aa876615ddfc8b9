-- A walk over the rows of a list, and the pool of the rows that it lists.
use Rattle.std.proofs.Common.{◌≡◌, ℕ, ◌+◌, ◌<◌, ◌≤◌, Option, Some, None, option_map, slice_get, List, [], ◌∷◌, ◌++◌, map, length, get_or, refl, ap, sym, subst, ◌∙◌}
use Rattle.std.specs.List.{filter_map}
use Rattle.std.proofs.lemmas.Option.{slice_get_within, get_or_from_slice_get}
use Rattle.node_heap.specs.Links.{count, HasLink, Reaches, here, below}
use Rattle.node_heap.specs.Forms.{Form, links_of}
use Rattle.node_heap.proofs.Reach.{Reaches-then}
use Rattle.pool_order.specs.declared.walk.Visit.{Visit}
use Rattle.pool_order.specs.Order.{order}
use Rattle.pool_order.specs.Laws.{IsOrder, AreLinkedBelow}
use Rattle.pool_order.proofs.Grounded.{IsGrounded, grounded-below}
use Rattle.pool_order.proofs.Pending.{AreThere, IsWalk}
use Rattle.pool_order.proofs.Places.{order-is}
use Rattle.pool_order.proofs.Walked.{IsTurn, live-last}
use Rattle.pool_text.specs.Rows.{Bytes, row_form}
use Rattle.pool_text.specs.Pool.{links_from, place_in, relink, Settings, pool}
use Rattle.pool_text.specs.declared.row.Row.{Row}
use Rattle.pool_text.proofs.FormRows.{form-read}
use Rattle.pool_text.proofs.Gathered.{made}
use Rattle.pool_text.proofs.Placed.{item_in, get-some, get-none}

-- ## The rows as they are read

module _ (forms : List (Form Bytes)) (items : List Row) (are : map row_form items ≡ forms) where
  module _ (v : Visit ℕ) (row : Row) (low : v.link < length forms) (at : row ≡ get_or items v.link row) where
    link-read : (found : Option ℕ) → found ≡ slice_get (links_of (Some (row_form row))) v.next → found ≡ slice_get (links_from forms v.link) v.next
    link-read found read = read ∙ ap (λ r. slice_get (links_of r) v.next) (sym (form-read forms items are v.link row low at))

    -- the next link of the last visit is looked at
    pub turn-of : (old vs mid : List (Visit ℕ)) (child : ℕ) → old ≡ vs ++ v ∷ [] → mid ≡ vs ++ record { link = v.link; next = v.next + 1 } ∷ [] → Some child ≡ slice_get (links_of (Some (row_form row))) v.next
        → IsTurn (links_from forms) old vs mid v (links_from forms v.link) child
    turn-of old vs mid child popped pushed read =
        let found : slice_get (links_from forms v.link) v.next ≡ Some child = sym (link-read (Some child) read) in
        record {
          popped = popped;
          pushed = pushed;
          linked = refl;
          is = sym (get_or_from_slice_get (links_from forms v.link) v.next child child found);
          low = slice_get_within (links_from forms v.link) v.next child found;
        }

    -- no link of the last visit is left
    pub none-left : None ≡ slice_get (links_of (Some (row_form row))) v.next → length (links_from forms v.link) ≤ v.next
    none-left read = get-none (links_from forms v.link) v.next (link-read None read)

-- ## What is listed

module _ (forms : List (Form Bytes)) (linked : AreLinkedBelow (length forms) (links_from forms)) where
  abbrev pub ground : IsGrounded (length forms) (links_from forms) (λ k. k < length forms)
  ground = grounded-below (length forms) (links_from forms) linked

  pub visit-low : (seen whole : List ℕ) (old vs : List (Visit ℕ)) (v : Visit ℕ) → old ≡ vs ++ v ∷ [] → IsWalk (length forms) (links_from forms) (λ k. k < length forms) seen whole old → v.link < length forms
  visit-low seen whole old vs v popped walk =
      (live-last (length forms) (links_from forms) (λ k. k < length forms) ground vs v (subst (AreThere (λ k. k < length forms)) popped walk.live)).1

  -- the next link of a row that is read names a row
  pub child-low : (items : List Row) → map row_form items ≡ forms → (v : Visit ℕ) (row : Row) → v.link < length forms → row ≡ get_or items v.link row → (child : ℕ) → Some child ≡ slice_get (links_of (Some (row_form row))) v.next → child < length forms
  child-low items are v row low at child read =
      let there = get-some (links_from forms v.link) v.next child (link-read forms items are v row low at (Some child) read) in
      linked.inside v.link child (item_in (links_from forms v.link) v.next child there.0 (sym there.1))

  reached-low : (a b : ℕ) → Reaches (links_from forms) a b → a < length forms → b < length forms
  reached-low a b (here l) low = low
  reached-low a b (below l k m has down) low = reached-low k m down (linked.inside l k has)

  module _ (roots : List ℕ) (low : (r : ℕ) → 0 < count r roots → r < length forms) where
    abbrev listed : List ℕ
    listed = order (length forms) (links_from forms) roots

    is : IsOrder (links_from forms) roots listed
    is = order-is ground.rank (links_from forms) ground.falls (length forms) roots (λ r root. ground.low r (low r root))

    pub listed-low : (k : ℕ) → 0 < count k listed → k < length forms
    listed-low k some = let from = is.reached k some in reached-low from.0 k from.2 (low from.0 from.1)

    pub listed-links : (k j : ℕ) → 0 < count k listed → HasLink (links_from forms) k j → 0 < count j listed
    listed-links k j some has = let from = is.reached k some in is.all from.0 j from.1 (Reaches-then (links_from forms) from.0 k j from.2 has)

    pub listed-roots : (r : ℕ) → 0 < count r roots → 0 < count r listed
    listed-roots r root = is.all r r root (here r)

  -- the rows by the places of their links are the pool
  pub pool-of-list : (roots : List ℕ) (settings : Settings) (ks : List ℕ) (rows : List (Form Bytes)) (places : List ℕ) → ks ≡ order (length forms) (links_from forms) roots
      → rows ≡ filter_map (λ k. option_map (relink (place_in ks)) (slice_get forms k)) ks → places ≡ map (place_in ks) roots → made settings rows places ≡ pool (length forms) (slice_get forms) roots settings
  unfolding pool
  pool-of-list roots settings ks rows places e rows_are places_are =
      ap (λ (fs : List (Form Bytes)). made settings fs places) rows_are
      ∙ ap (λ (ps : List ℕ). made settings (filter_map (λ k. option_map (relink (place_in ks)) (slice_get forms k)) ks) ps) places_are
      ∙ ap (λ (zs : List ℕ). made settings (filter_map (λ k. option_map (relink (place_in zs)) (slice_get forms k)) zs) (map (place_in zs) roots)) e
