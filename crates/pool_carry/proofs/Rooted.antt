-- The rows that were made are the carried ones. They are rooted, and the pool of them is the carried pool.
use Rattle.std.proofs.Common.{◌≡◌, ℕ, zero, suc, ◌<◌, refl, ap, subst, ◌∙◌, arith, List, [], ◌∷◌, length, map, Option, Some, None, IsSome}
use Rattle.std.specs.Prelude.{slice_get, slice_index}
use Rattle.std.proofs.lemmas.List.{length-map}
use Rattle.std.proofs.lemmas.Option.{slice_get_within}
use Rattle.node_heap.specs.Links.{count, HasLink, Reaches, here, below}
use Rattle.node_heap.specs.Forms.{Form, links_of}
use Rattle.pool_order.specs.Laws.{AreLinkedBelow}
use Rattle.pool_order.proofs.Grounded.{grounded-below}
use Rattle.pool_text.specs.Rows.{Bytes}
use Rattle.pool_text.specs.Rules.{Rules}
use Rattle.pool_text.specs.Pool.{links_from, row_count, settings_by, pool}
use Rattle.pool_text.specs.Renaming.{IsRooted}
use Rattle.pool_text.specs.declared.pool.Pool.{Pool}
use Rattle.pool_text.specs.declared.rules.TheConstants.{MOST_HISTORY, PRESENT_VERSION}
use Rattle.pool_text.proofs.Renamed.{map-found}
use Rattle.pool_carry.specs.Carried.{IsCarried}
use Rattle.pool_carry.specs.Making.{AreKept, AreImagesOfFirst, AreCarriedRows}
use Rattle.pool_carry.specs.declared.made.MadeRow.{MadeRow}

some-within : {X : Type 0} (xs : List X) (i : ℕ) → i < length xs → IsSome (slice_get xs i)
some-within [] i low = absurd (omega (arith, low))
some-within (x ∷ xs) zero low = refl
some-within (x ∷ xs) (suc i) low = some-within xs i (omega (arith, low))

module _ (rows : List (Form Bytes)) (linked : (l k : ℕ) → HasLink (links_from rows) l k → k < l) where
  row-within : (l k : ℕ) → HasLink (links_from rows) l k → l < length rows
  row-within l k has = by_row (slice_get rows l) refl has
    where
      by_row : (r : Option (Form Bytes)) → slice_get rows l ≡ r → 0 < count k (links_of r) → l < length rows
      by_row None is has = absurd (omega (arith, has))
      by_row (Some row) is has = slice_get_within rows l row is

  pub linked-below : AreLinkedBelow (length rows) (links_from rows)
  linked-below = record { rank = λ l. l; falls = linked; inside = λ l k has. omega (arith, linked l k has, row-within l k has) }

  reached-within : (r l : ℕ) → r < length rows → Reaches (links_from rows) r l → l < length rows
  reached-within r l low (here _) = low
  reached-within r l low (below _ k _ has rest) = reached-within k l (omega (arith, linked r k has, row-within r k has)) rest

  pub rooted-list : (roots : List ℕ) → ((r : ℕ) → 0 < count r roots → r < length rows) → IsRooted (length rows) (slice_get rows) roots
  rooted-list roots low =
      let grounded = grounded-below (length rows) (links_from rows) linked-below in
      record { rank = grounded.rank; falls = grounded.falls; low = λ r root. grounded.low r (low r root); there = λ r l root reaches. some-within rows l (reached-within r l (low r root) reaches) }

module _ (rules : Rules) (bits : ℕ) (P Q : Pool) (rows : List (Form Bytes)) (roots : List ℕ) (are : AreCarriedRows rules bits P rows roots) (made : Q ≡ pool (length rows) (slice_get rows) roots (settings_by bits MOST_HISTORY)) where
  pub carried-is : IsCarried rules bits P Q
  carried-is = record {
    image = are.image;
    forms = slice_get rows;
    many = length rows;
    images = are.images;
    rooted = subst (IsRooted (length rows) (slice_get rows)) are.tops (rooted-list rows are.linked roots are.low);
    same = made ∙ ap (λ rs. pool (length rows) (slice_get rows) rs (settings_by bits MOST_HISTORY)) are.tops;
  }

  pub carried-present : Q.version ≡ PRESENT_VERSION
  unfolding pool
  carried-present = ap (λ (R : Pool). R.version) made

  pub carried-bits : Q.bits ≡ bits
  unfolding pool
  carried-bits = ap (λ (R : Pool). R.bits) made

  pub carried-history : Q.history ≡ MOST_HISTORY
  unfolding pool
  carried-history = ap (λ (R : Pool). R.history) made

  pub carried-roots : length Q.roots ≡ length P.roots
  unfolding pool
  carried-roots = ap (λ (R : Pool). length R.roots) made ∙ length-map roots _ ∙ ap length are.tops ∙ length-map P.roots are.image

-- the same, where what is known of each part is known by another name
pub carried-as : (rules today : Rules) (bits : ℕ) (P old Q : Pool) (rows : List (Form Bytes)) (roots names : List ℕ) → AreCarriedRows rules bits P rows roots → rules ≡ today → P ≡ old → names ≡ roots
    → Q ≡ pool (length rows) (slice_get rows) names (settings_by bits MOST_HISTORY) → IsCarried today bits old Q
carried-as rules today bits P old Q rows roots names are same_rules same_pool same_roots made =
    subst (λ R. IsCarried R bits old Q) same_rules
    (subst (λ O. IsCarried rules bits O Q) same_pool (carried-is rules bits P Q rows roots are (made ∙ ap (λ rs. pool (length rows) (slice_get rows) rs (settings_by bits MOST_HISTORY)) same_roots)))

-- once each of the pool's rows has its image, the rows are carried
pub rows-carried : (rules : Rules) (bits : ℕ) (P : Pool) (rows : List (Form Bytes)) (table : MadeRow → Option ℕ) (images roots : List ℕ) → AreKept rows table → AreImagesOfFirst rules bits P rows images → length images ≡ row_count P
    → ((r : ℕ) → 0 < count r P.roots → r < row_count P) → roots ≡ map (slice_index images) P.roots → AreCarriedRows rules bits P rows roots
rows-carried rules bits P rows table images roots kept are long inside same = record {
  image = slice_index images;
  images = record {
    own = λ l low own. are.own l (omega (arith, low, long)) own;
    apart = λ k l low low' own own' one. are.apart k l (omega (arith, low, long)) (omega (arith, low', long)) own own' one;
    tries = λ l low root. are.tries l (omega (arith, low, long)) root;
    once = kept.once;
  };
  linked = kept.linked;
  tops = same;
  low = λ r there.
      let found = map-found (slice_index images) P.roots r (subst (λ ks. 0 < count r ks) same there) in
      omega (arith, found.2, are.low found.0 (omega (arith, inside found.0 found.1, long)));
}
