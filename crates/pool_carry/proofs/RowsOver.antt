-- The root of a trie, made of entries and of parts.
use Rattle.std.proofs.Common.{◌≡◌, ◌≢◌, ℕ, suc, ◌+◌, ◌<◌, refl, ap, sym, subst, ◌∙◌, arith, inl, inr, Bool, true, false, ◌&&◌, not, cond, List, [], ◌∷◌, ◌++◌, append-nil, length, Some}
use Rattle.std.specs.Prelude.{nat_eq, slice_get}
use Rattle.std.specs.List.{All}
use Rattle.std.specs.Ordering.{nat_cmp}
use Rattle.std.specs.Cmp.Lexicographic.{slice_cmp}
use Rattle.std.proofs.lemmas.Bool.{cases_eq, eq-eqb, ne_eqb}
use Rattle.std.proofs.lemmas.List.Elements.{All-head, All-tail, filter-append}
use Rattle.elem_core.specs.Codes.{digit_at}
use Rattle.node_heap.specs.Links.{count}
use Rattle.node_heap.specs.Forms.{node, trie, Form}
use Rattle.champ_chain.specs.Entry.{Entry}
use Rattle.champ_trie.specs.Bits.{has}
use Rattle.champ_trie.specs.Trie.{AreSets, IsPlace, IsTrie, part, place_of, links_at_place}
use Rattle.champ_trie.specs.declared.place.Place.{Place}
use Rattle.champ_trie.specs.declared.place.Place.TheVariants.{Empty}
use Rattle.champ_trie.proofs.PartLemmas.{place-kept, row-trie, trie-kept}
use Rattle.champ_trie.proofs.PlaceLemmas.{place-empty}
use Rattle.pool_text.specs.Rows.{Bytes}
use Rattle.pool_carry.specs.Making.{IsBegun, IsPart, IsRowOver}
use Rattle.pool_carry.specs.declared.shared_parts.Part.{Part}
use Rattle.pool_carry.specs.declared.sets_and_links.SetsAndLinks.{SetsAndLinks}
use Rattle.pool_carry.proofs.Rows.{begun-keeps}
use Rattle.pool_carry.proofs.Standing.{begun-longer}

-- what a row says of a free position
pub free-empty : (e m : ℕ) (ls : List ℕ) (p : ℕ) → (not (has e p) && not (has m p)) ≡ true → place_of e m ls p ≡ Empty
free-empty e m ls p free = by_both (has e p) (has m p) refl refl free
  where
    by_both : (a b : Bool) → has e p ≡ a → has m p ≡ b → (not a && not b) ≡ true → place_of e m ls p ≡ Empty
    by_both true b one other free = absurd (let no : false ≡ true = free in cc)
    by_both false true one other free = absurd (let no : false ≡ true = free in cc)
    by_both false false one other free = place-empty e m ls p one other

module _ (code : Bytes → ℕ) where
  -- entries with one digit are the part with it, and no other has any
  part-all : (p : ℕ) (E : List (Entry Bytes)) → All (λ e. digit_at (code e.key) 0 ≡ p) E → part (slice_cmp nat_cmp) code 0 p E ≡ E
  part-all p [] all = refl
  part-all p (e ∷ E) all =
      ap (λ b. cond b (e ∷ part (slice_cmp nat_cmp) code 0 p E) (part (slice_cmp nat_cmp) code 0 p E)) (eq-eqb (digit_at (code e.key) 0) p (All-head (λ e. digit_at (code e.key) 0 ≡ p) e E all))
      ∙ ap (λ es. e ∷ es) (part-all p E (All-tail (λ e. digit_at (code e.key) 0 ≡ p) e E all))

  part-none : (p q : ℕ) (E : List (Entry Bytes)) → q ≢ p → All (λ e. digit_at (code e.key) 0 ≡ p) E → part (slice_cmp nat_cmp) code 0 q E ≡ []
  part-none p q [] other all = refl
  part-none p q (e ∷ E) other all =
      ap (λ b. cond b (e ∷ part (slice_cmp nat_cmp) code 0 q E) (part (slice_cmp nat_cmp) code 0 q E))
      (ne_eqb (digit_at (code e.key) 0) q (λ same. other (sym same ∙ All-head (λ e. digit_at (code e.key) 0 ≡ p) e E all)))
      ∙ part-none p q E other (All-tail (λ e. digit_at (code e.key) 0 ≡ p) e E all)

module _ (code : Bytes → ℕ) (deepest : ℕ) (rows : List (Form Bytes)) where
  abbrev pub Stands : Place → List (Entry Bytes) → Type 0
  Stands place E = IsPlace (slice_get rows) (λ k E. IsTrie (slice_cmp nat_cmp) code (slice_get rows) deepest 1 k E) place E

  pub row-none : (row : SetsAndLinks) → AreSets row.entries row.nodes row.links.items → ((k : ℕ) → count k row.links.items ≡ 0) → ((p : ℕ) → place_of row.entries row.nodes row.links.items p ≡ Empty) → IsRowOver code deepest rows [] row
  row-none row sets none empty = record {
    sets = sets;
    low = λ k some. absurd (omega (arith, some, none k));
    places = λ p small. subst (λ place. Stands place []) (sym (empty p)) refl;
  }

  -- entries with one digit more, where nothing stood at it
  pub row-more : (E M : List (Entry Bytes)) (old new : SetsAndLinks) (p : ℕ) (place : Place) → IsRowOver code deepest rows E old → p < 32 → All (λ e. digit_at (code e.key) 0 ≡ p) M → Stands place M
      → place_of old.entries old.nodes old.links.items p ≡ Empty → AreSets new.entries new.nodes new.links.items → place_of new.entries new.nodes new.links.items p ≡ place
      → ((q : ℕ) → q < 32 → q ≢ p → place_of new.entries new.nodes new.links.items q ≡ place_of old.entries old.nodes old.links.items q)
      → ((k : ℕ) → count k new.links.items ≡ count k old.links.items + count k (links_at_place place)) → ((k : ℕ) → 0 < count k (links_at_place place) → k < length rows) → IsRowOver code deepest rows (E ++ M) new
  row-more E M old new p place over small digits stands free sets here others counted links = record {
    sets = sets;
    low = λ k some. elim (cases_eq (count k old.links.items) 0) as (λ _. k < length rows) [
      | inl none ↦ links k (omega (arith, some, counted k, none))
      | inr there ↦ over.low k (omega (arith, there))
    ];
    places = λ q low. elim (cases_eq q p) as (λ _. Stands (place_of new.entries new.nodes new.links.items q) (part (slice_cmp nat_cmp) code 0 q (E ++ M))) [
      | inl same ↦ subst (λ r. Stands (place_of new.entries new.nodes new.links.items r) (part (slice_cmp nat_cmp) code 0 r (E ++ M))) (sym same)
          (subst (λ it. Stands it (part (slice_cmp nat_cmp) code 0 p (E ++ M))) (sym here) (subst (λ D. Stands place D) (sym all_here) stands))
      | inr other ↦ subst (λ it. Stands it (part (slice_cmp nat_cmp) code 0 q (E ++ M))) (sym (others q low other)) (subst (λ D. Stands (place_of old.entries old.nodes old.links.items q) D) (sym (as_before q other)) (over.places q low))
    ];
  }
    where
      split : (q : ℕ) → part (slice_cmp nat_cmp) code 0 q (E ++ M) ≡ part (slice_cmp nat_cmp) code 0 q E ++ part (slice_cmp nat_cmp) code 0 q M
      split q = filter-append (λ e. nat_eq (digit_at (code e.key) 0) q) E M

      none_before : part (slice_cmp nat_cmp) code 0 p E ≡ []
      none_before = subst (λ it. Stands it (part (slice_cmp nat_cmp) code 0 p E)) free (over.places p small)

      all_here : part (slice_cmp nat_cmp) code 0 p (E ++ M) ≡ M
      all_here = split p ∙ ap (λ D. D ++ part (slice_cmp nat_cmp) code 0 p M) none_before ∙ part-all code p M digits

      as_before : (q : ℕ) → q ≢ p → part (slice_cmp nat_cmp) code 0 q (E ++ M) ≡ part (slice_cmp nat_cmp) code 0 q E
      as_before q other = split q ∙ ap (λ D. part (slice_cmp nat_cmp) code 0 q E ++ D) (part-none code p q M other digits) ∙ append-nil (part (slice_cmp nat_cmp) code 0 q E)

  -- the row of these sets and links is the root of the entries' trie
  pub row-is-trie : (E : List (Entry Bytes)) (row : SetsAndLinks) (l : ℕ) → IsRowOver code deepest rows E row → slice_get rows l ≡ Some (node (trie 0 row.entries row.nodes) row.links.items)
      → IsTrie (slice_cmp nat_cmp) code (slice_get rows) (suc deepest) 0 l E
  row-is-trie E row l over is = row-trie (slice_cmp nat_cmp) code (slice_get rows) deepest 0 l row.entries row.nodes row.links.items E record { row = is; sets = over.sets } over.places

-- all stays so while rows are added
module _ (code : Bytes → ℕ) (deepest : ℕ) (old new : List (Form Bytes)) (begun : IsBegun old new) where
  pub row-later : (E : List (Entry Bytes)) (row : SetsAndLinks) → IsRowOver code deepest old E row → IsRowOver code deepest new E row
  row-later E row over = record {
    sets = over.sets;
    low = λ k some. omega (arith, over.low k some, begun-longer old new begun);
    places = λ p small.
        place-kept (slice_cmp nat_cmp) code (slice_get old) (slice_get new) (begun-keeps old new begun) deepest 1 (place_of row.entries row.nodes row.links.items p) (part (slice_cmp nat_cmp) code 0 p E) (over.places p small);
  }

  pub part-later : (E : List (Entry Bytes)) (it : Part) → IsPart code deepest old E it → IsPart code deepest new E it
  part-later E it is = record {
    two = is.two;
    small = is.small;
    digit = is.digit;
    low = omega (arith, is.low, begun-longer old new begun);
    trie = trie-kept (slice_cmp nat_cmp) code (slice_get old) (slice_get new) (begun-keeps old new begun) deepest 1 it.place E is.trie;
  }
