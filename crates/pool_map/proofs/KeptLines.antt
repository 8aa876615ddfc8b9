-- A mapped pool keeps lines apart or one, as they were.
use Rattle.std.proofs.Common.{◌≡◌, ℕ, ◌<◌, refl, ap, sym, subst, ◌∙◌, arith, inl, inr, true, false, List, length, map, get_or, Option, Some, None, option_map}
use Rattle.std.specs.Prelude.{slice_get, slice_index}
use Rattle.std.specs.Ordering.{nat_cmp}
use Rattle.std.specs.Cmp.Lexicographic.{slice_cmp}
use Rattle.std.proofs.lemmas.Bool.{cases_lt}
use Rattle.std.proofs.lemmas.Option.{slice_get_within}
use Rattle.node_heap.specs.Links.{count, here}
use Rattle.node_heap.specs.Forms.{Form, Forms, cell, node, links_of, links_in}
use Rattle.champ_trie.specs.Trie.{IsCanonTo, code_by}
use Rattle.pool_order.specs.Order.{order}
use Rattle.pool_text.specs.Rows.{Bytes}
use Rattle.pool_text.specs.Rules.{Rules}
use Rattle.pool_text.specs.Pool.{forms_in, row_count, place_in, relink, settings_by, pool}
use Rattle.pool_text.specs.Renaming.{IsRooted}
use Rattle.pool_text.specs.declared.pool.Pool.{Pool}
use Rattle.pool_text.proofs.Placed.{place-is}
use Rattle.pool_text.proofs.Renamed.{count-map, links-relink}
use Rattle.pool_text.proofs.Ordered.{pool-roots}
use Rattle.pool_check.specs.Tries.{entries_below}
use Rattle.pool_check.specs.Kinds.{is_trie_root, is_cell_of, roots_are_of_kind}
use Rattle.pool_check.specs.Damages.{IsValidBy}
use Rattle.pool_check.proofs.PoolLaws.{trie-roots-canonical, vector-roots-well}
use Rattle.pool_check.proofs.TestLemmas.{leads-down, roots-low}
use Rattle.pool_carry.specs.Named.{children, found, found_in}
use Rattle.pool_carry.proofs.OwnVectors.{is_of_vector, relink-twice}
use Rattle.pool_carry.proofs.PlacedTries.{IsSeen, seen-placed, seen-back, seen-then, canon-placed, entries-placed, entry-seen}
use Rattle.pool_carry.proofs.Goes.{Goes, goes-some, goes-image, goes-back}
use Rattle.pool_carry.proofs.Followed.{AreFollowed, IsOwn, tops-are, line-goes}
use Rattle.pool_map.specs.Lines.{is_cell, line_cells}
use Rattle.pool_map.specs.Mapped.{image_of, mapped_rows, mapped}
use Rattle.pool_map.specs.Named.{LineSpot, spot_of, KeepsLines}
use Rattle.pool_map.specs.Laws.{MappedKeepsLines}
use Rattle.pool_map.proofs.TrieFrame.{canon-kept}
use Rattle.pool_map.proofs.ChangedStands.{IsChanged}
use Rattle.pool_map.proofs.MappedRows.{IsElement, rows-changed, rows-rooted, own-at, listed-element, image-line, image-other}

cell-test : (r : Option (Form Bytes)) → is_cell_of (λ _. true) r ≡ is_cell r
cell-test None = refl
cell-test (Some (cell x)) = refl
cell-test (Some (node kind links)) = refl

module _ (rules : Rules) (change : Bytes → Bytes) (P : Pool) (valid : IsValidBy rules P) where
  abbrev rows : List (Form Bytes)
  rows = mapped_rows P change

  abbrev F : Forms Bytes
  F = forms_in P

  abbrev G : Forms Bytes
  G = slice_get rows

  rooted : IsRooted (length rows) G P.roots
  rooted = rows-rooted change P (leads-down P valid.lead_back) P.roots (roots-low P valid.lead_back)

  abbrev Q : Pool
  Q = pool (length rows) G P.roots (settings_by P.bits P.history)

  abbrev H : Forms Bytes
  H = forms_in Q

  abbrev listed : List ℕ
  listed = order (length rows) (links_in G) P.roots

  abbrev place : ℕ → ℕ
  place = place_in listed

  abbrev f : ℕ → ℕ
  f = image_of P

  abbrev Seen : ℕ → Type 0
  Seen = IsSeen P.bits P.history (length rows) G P.roots rooted

  changed : IsChanged F G f change (IsElement F)
  changed = rows-changed change P

  -- a row that is seen stands in the new pool
  row-placed : (l : ℕ) (row : Form Bytes) → Seen l → G l ≡ Some row → H (place l) ≡ Some (relink place row)
  row-placed l row seen is = seen-placed P.bits P.history (length rows) G P.roots rooted l seen l (here l) ∙ ap (option_map (relink place)) is

  -- the image of a cell is a cell
  cell-image : (k : ℕ) (text : Bytes) → F k ≡ Some (cell text) → (new : Bytes) × (G (f k) ≡ Some (cell new))
  cell-image k text is = elim (cases_lt 0 (count k (line_cells P))) as (λ _. (new : Bytes) × (G (f k) ≡ Some (cell new))) [
    | inl line ↦ (change text, changed.lines k text is (listed-element change P k line))
    | inr none ↦ (text, ap G (image-other change P k (omega (arith, none))) ∙ own-at change P k (cell text) is)
  ]

  below-seen : (l k : ℕ) (row : Form Bytes) → Seen l → F l ≡ Some row → is_of_vector row ≡ false → 0 < count k (links_of (Some row)) → Seen k
  below-seen l k row seen is other some =
      seen-then P.bits P.history (length rows) G P.roots rooted l k seen (subst (λ r. 0 < count k (links_of r)) (sym (changed.others.kept l row is other)) some)

  element-seen : (l k : ℕ) (row : Form Bytes) → Seen l → F l ≡ Some row → is_of_vector row ≡ true → 0 < count k (links_of (Some row)) → Seen (f k)
  element-seen l k row seen is vector some =
      let links : links_in G l ≡ map f (links_of (Some row)) = ap links_of (changed.vectors l row is vector) ∙ links-relink f (Some row) in
      seen-then P.bits P.history (length rows) G P.roots rooted l (f k) seen (subst (λ ks. 0 < count (f k) ks) (sym links) (count-map f k (links_of (Some row)) some))

  -- the root of a trie stays one
  trie-canon : (l : ℕ) → is_trie_root (F l) ≡ true → IsCanonTo (slice_cmp nat_cmp) (code_by rules.code_of P.bits) rules.deepest G l (entries_below (row_count P) F l)
  trie-canon l kind = canon-kept F G changed.others (slice_cmp nat_cmp) (code_by rules.code_of P.bits) rules.deepest l (entries_below (row_count P) F l) (trie-roots-canonical P valid l kind)

  follows : AreFollowed (row_count P) (row_count Q) F H f place Seen
  follows = record {
    own = λ l row seen is own other. row-placed l row seen (changed.others.kept l row is other);
    vector = λ l row seen is vector. row-placed l (relink f row) seen (changed.vectors l row is vector) ∙ ap (λ r. Some r) (relink-twice f place row);
    below = λ l k row seen is own other some. below-seen l k row seen is other some;
    elements = element-seen;
    lines = λ k text seen is. let new = cell-image k text is in ap children (row-placed (f k) (cell new.0) seen new.1);
    stays = λ l none. changed.stays l (sym (cell-test (F l)) ∙ none);
    entries = λ l seen kind. entries-placed P.bits P.history (length rows) G P.roots rooted (code_by rules.code_of P.bits) rules.deepest l (entries_below (row_count P) F l) seen (trie-canon l kind);
    distinct = λ l seen kind. (canon-placed P.bits P.history (length rows) G P.roots rooted (code_by rules.code_of P.bits) rules.deepest l (entries_below (row_count P) F l) seen (trie-canon l kind)).distinct;
    named = λ l seen kind. entry-seen P.bits P.history (length rows) G P.roots rooted (code_by rules.code_of P.bits) rules.deepest l (entries_below (row_count P) F l) seen (trie-canon l kind);
    roots = λ l kind. (vector-roots-well P valid l kind).well;
  }

  roots-seen : (k : ℕ) → 0 < count k P.roots → Seen k
  roots-seen k some = record { top = k; root = some; reached = here k }

  abbrev Own : ℕ → Type 0
  Own = IsOwn F (λ k. Seen (f k))

  abbrev h : ℕ → ℕ
  h k = place (f k)

  line-followed : (s : LineSpot) → Goes h Own (found_in P (spot_of s)) (found_in Q (spot_of s))
  unfolding found_in roots_are_of_kind
  line-followed s =
      subst (λ ks. Goes h Own (found (row_count P) F P.roots (spot_of s)) (found (row_count Q) H ks (spot_of s))) (sym (pool-roots (length rows) G P.roots rooted (settings_by P.bits P.history)))
      (line-goes (row_count P) (row_count Q) F H f place Seen follows P.roots (tops-are (row_count P) (row_count Q) F H f place Seen follows P.roots valid.kinds roots-seen) s.origin s.buffer s.path)

  -- two rows with one image are one
  images-apart : (k l : ℕ) → k < row_count P → l < row_count P → f k ≡ f l → k ≡ l
  images-apart k l k_low l_low same =
      let lines : List ℕ = line_cells P in
      elim (cases_lt 0 (count k lines)) as (λ _. k ≡ l) [
        | inl first ↦ elim (cases_lt 0 (count l lines)) as (λ _. k ≡ l) [
          | inl second ↦
              let places : place_in lines k ≡ place_in lines l = omega (arith, image-line change P k first, image-line change P l second, same) in
              sym (place-is lines k first).1 ∙ ap (λ i. get_or lines i 0) places ∙ (place-is lines l second).1
          | inr other ↦ absurd (omega (arith, image-line change P k first, image-other change P l (omega (arith, other)), same, l_low))
        ]
        | inr none ↦ elim (cases_lt 0 (count l lines)) as (λ _. k ≡ l) [
          | inl second ↦ absurd (omega (arith, image-line change P l second, image-other change P k (omega (arith, none)), same, k_low))
          | inr other ↦ sym (image-other change P k (omega (arith, none))) ∙ same ∙ image-other change P l (omega (arith, other))
        ]
      ]

  places-apart : (k l : ℕ) → Own k → Own l → h k ≡ h l → k ≡ l
  places-apart k l first second same =
      images-apart k l (slice_get_within P.rows k first.row first.is) (slice_get_within P.rows l second.row second.is)
      (sym (seen-back P.bits P.history (length rows) G P.roots rooted (f k) first.seen) ∙ ap (slice_index listed) same ∙ seen-back P.bits P.history (length rows) G P.roots rooted (f l) second.seen)

  lines-keep : KeepsLines P Q
  lines-keep = record {
    there = λ s. goes-some h Own (found_in P (spot_of s)) (found_in Q (spot_of s)) (line-followed s);
    same = λ s t. (
      λ e. goes-image h Own (found_in P (spot_of s)) (found_in Q (spot_of s)) (line-followed s) ∙ ap (option_map h) e ∙ sym (goes-image h Own (found_in P (spot_of t)) (found_in Q (spot_of t)) (line-followed t)),
      λ e. goes-back h Own places-apart (found_in P (spot_of s)) (found_in Q (spot_of s)) (found_in P (spot_of t)) (found_in Q (spot_of t)) (line-followed s) (line-followed t) e,
    );
  }

pub mapped-keeps : MappedKeepsLines
unfolding mapped
mapped-keeps rules change P valid = lines-keep rules change P valid
