-- A carried pool keeps named places apart or one, as they were.
use Rattle.std.proofs.Common.{◌≡◌, ℕ, ◌<◌, refl, ap, sym, subst, ◌∙◌, inl, inr, true, false, List, [], ◌∷◌, map, Option, Some, None, option_map}
use Rattle.std.specs.Prelude.{slice_index}
use Rattle.std.specs.Ordering.{nat_cmp}
use Rattle.std.specs.Cmp.Lexicographic.{slice_cmp}
use Rattle.node_heap.specs.Links.{count, here}
use Rattle.node_heap.specs.Forms.{Form, Forms, cell, links_of, links_in}
use Rattle.champ_chain.specs.Entry.{Entry, SameSet}
use Rattle.champ_chain.proofs.SetLemmas.{Among}
use Rattle.champ_trie.specs.Trie.{IsCanonTo, code_by}
use Rattle.pool_order.specs.Order.{order}
use Rattle.pool_text.specs.Rows.{Bytes}
use Rattle.pool_text.specs.Rules.{Rules}
use Rattle.pool_text.specs.Pool.{forms_in, row_count, place_in, relink, settings_by, pool}
use Rattle.pool_text.specs.Renaming.{IsRooted}
use Rattle.pool_text.specs.declared.pool.Pool.{Pool}
use Rattle.pool_text.specs.declared.rules.TheConstants.{MOST_HISTORY}
use Rattle.pool_text.proofs.Renamed.{count-map, links-relink}
use Rattle.pool_text.proofs.Ordered.{pool-roots}
use Rattle.pool_check.specs.Tries.{entries_below}
use Rattle.pool_check.specs.Kinds.{is_trie_root, roots_are_of_kind}
use Rattle.pool_check.specs.Readings.{moved}
use Rattle.pool_check.specs.Damages.{IsValidBy}
use Rattle.pool_check.proofs.PoolLaws.{get-low, vector-roots-well}
use Rattle.pool_check.proofs.TestLemmas.{not-both}
use Rattle.pool_check.proofs.VectorReadings.{map-twice}
use Rattle.pool_carry.specs.Carried.{is_of_trie, AreImages, IsCarried}
use Rattle.pool_carry.specs.Named.{NamedSpot, children, found, found_in, KeepsIdentities}
use Rattle.pool_carry.proofs.OwnVectors.{relink-twice, vector-own}
use Rattle.pool_carry.proofs.PlacedTries.{IsSeen, seen-placed, seen-back, seen-then, canon-placed, entries-placed, entry-seen}
use Rattle.pool_carry.proofs.Goes.{Goes, goes-some, goes-image, goes-back}
use Rattle.pool_carry.proofs.Followed.{AreFollowed, IsOwn, tops-are, found-goes}

moved-twice : (f h : ℕ → ℕ) (E : List (Entry Bytes)) → map (moved h) (map (moved f) E) ≡ map (moved (λ l. h (f l))) E
moved-twice f h [] = refl
moved-twice f h (e ∷ es) = ap (λ ds. moved (λ l. h (f l)) e ∷ ds) (moved-twice f h es)

among-moved : (f : ℕ → ℕ) (e : Entry Bytes) (E : List (Entry Bytes)) → Among e E → Among (moved f e) (map (moved f) E)
among-moved f e [] nowhere = absurd nowhere
among-moved f e (d ∷ ds) (inl same) = inl (ap (moved f) same)
among-moved f e (d ∷ ds) (inr there) = inr (among-moved f e ds there)

module _ (from to : Rules) (bits : ℕ) (P : Pool) (valid : IsValidBy from P) (f : ℕ → ℕ) (G : Forms Bytes) (many : ℕ) (images : AreImages to bits P f G) (rooted : IsRooted many G (map f P.roots)) where
  abbrev tops : List ℕ
  tops = map f P.roots

  abbrev F : Forms Bytes
  F = forms_in P

  abbrev Q : Pool
  Q = pool many G tops (settings_by bits MOST_HISTORY)

  abbrev H : Forms Bytes
  H = forms_in Q

  abbrev listed : List ℕ
  listed = order many (links_in G) tops

  abbrev place : ℕ → ℕ
  place = place_in listed

  -- the place of a row's image
  abbrev g : ℕ → ℕ
  g l = place (f l)

  -- the roots' images reach the image
  abbrev Seen : ℕ → Type 0
  Seen l = IsSeen bits MOST_HISTORY many G tops rooted (f l)

  image-is : (l : ℕ) (r : Form Bytes) → F l ≡ Some r → is_of_trie (Some r) ≡ false → G (f l) ≡ Some (relink f r)
  image-is l r is own = images.own l (get-low P.rows l r is) (ap is_of_trie is ∙ own) ∙ ap (option_map (relink f)) is

  own-follows : (l : ℕ) (r : Form Bytes) → Seen l → F l ≡ Some r → is_of_trie (Some r) ≡ false → H (g l) ≡ Some (relink g r)
  own-follows l r seen is own =
      seen-placed bits MOST_HISTORY many G tops rooted (f l) seen (f l) (here (f l)) ∙ ap (option_map (relink place)) (image-is l r is own) ∙ ap (λ row. Some row) (relink-twice f place r)

  below-seen : (l k : ℕ) (r : Form Bytes) → Seen l → F l ≡ Some r → is_of_trie (Some r) ≡ false → 0 < count k (links_of (Some r)) → Seen k
  below-seen l k r seen is own some =
      let links : links_in G (f l) ≡ map f (links_of (Some r)) = ap links_of (image-is l r is own) ∙ links-relink f (Some r) in
      seen-then bits MOST_HISTORY many G tops rooted (f l) (f k) seen (subst (λ ks. 0 < count (f k) ks) (sym links) (count-map f k (links_of (Some r)) some))

  -- Tries.

  module _ (l : ℕ) (seen : Seen l) (kind : is_trie_root (F l) ≡ true) where
    abbrev E : List (Entry Bytes)
    E = entries_below (row_count P) F l

    low : l < row_count P
    low = by_row (F l) refl kind
      where
        by_row : (r : Option (Form Bytes)) → F l ≡ r → is_trie_root r ≡ true → l < row_count P
        by_row None is h = absurd (not-both h)
        by_row (Some row) is h = get-low P.rows l row is

    image-canon : IsCanonTo (slice_cmp nat_cmp) (code_by to.code_of bits) to.deepest G (f l) (map (moved f) E)
    image-canon = images.tries l low kind

    place-canon : IsCanonTo (slice_cmp nat_cmp) (code_by to.code_of bits) to.deepest H (g l) (map (moved g) E)
    place-canon =
        subst (IsCanonTo (slice_cmp nat_cmp) (code_by to.code_of bits) to.deepest H (g l)) (moved-twice f place E)
        (canon-placed bits MOST_HISTORY many G tops rooted (code_by to.code_of bits) to.deepest (f l) (map (moved f) E) seen image-canon)

    entries-follow : SameSet (map (moved g) E) (entries_below (row_count Q) H (g l))
    entries-follow =
        subst (λ es. SameSet es (entries_below (row_count Q) H (g l))) (moved-twice f place E)
        (entries-placed bits MOST_HISTORY many G tops rooted (code_by to.code_of bits) to.deepest (f l) (map (moved f) E) seen image-canon)

    named-seen : (e : Entry Bytes) → Among e E → Seen e.link
    named-seen e there = entry-seen bits MOST_HISTORY many G tops rooted (code_by to.code_of bits) to.deepest (f l) (map (moved f) E) seen image-canon (moved f e) (among-moved f e E there)

  follows : AreFollowed (row_count P) (row_count Q) F H (λ l. l) g Seen
  follows = record {
    own = λ l r seen is own other. own-follows l r seen is own;
    vector = λ l r seen is vector. own-follows l r seen is (vector-own r vector);
    below = λ l k r seen is own other some. below-seen l k r seen is own some;
    elements = λ l k r seen is vector some. below-seen l k r seen is (vector-own r vector) some;
    lines = λ k x seen is. ap children (own-follows k (cell x) seen is refl);
    stays = λ l none. refl;
    entries = entries-follow;
    distinct = λ l seen kind. (place-canon l seen kind).distinct;
    named = named-seen;
    roots = λ l kind. (vector-roots-well P valid l kind).well;
  }

  roots-seen : (k : ℕ) → 0 < count k P.roots → Seen k
  roots-seen k some = record { top = f k; root = count-map f k P.roots some; reached = here (f k) }

  abbrev Own : ℕ → Type 0
  Own = IsOwn F Seen

  found-followed : (s : NamedSpot) → Goes g Own (found_in P s) (found_in Q s)
  unfolding found_in roots_are_of_kind
  found-followed s =
      let roots : Q.roots ≡ map g P.roots = pool-roots many G tops rooted (settings_by bits MOST_HISTORY) ∙ map-twice place f P.roots in
      subst (λ ks. Goes g Own (found (row_count P) F P.roots s) (found (row_count Q) H ks s)) (sym roots)
      (found-goes (row_count P) (row_count Q) F H (λ l. l) g Seen follows P.roots (tops-are (row_count P) (row_count Q) F H (λ l. l) g Seen follows P.roots valid.kinds roots-seen) (λ l. refl) s)

  -- two rows of none of the tries whose images have one place are one row
  places-apart : (k l : ℕ) → Own k → Own l → g k ≡ g l → k ≡ l
  places-apart k l first second same =
      let one : f k ≡ f l =
      sym (seen-back bits MOST_HISTORY many G tops rooted (f k) first.seen) ∙ ap (slice_index listed) same ∙ seen-back bits MOST_HISTORY many G tops rooted (f l) second.seen in
      images.apart k l (get-low P.rows k first.row first.is) (get-low P.rows l second.row second.is) (ap is_of_trie first.is ∙ first.own) (ap is_of_trie second.is ∙ second.own) one

  pool-keeps : KeepsIdentities P Q
  pool-keeps = record {
    there = λ s. goes-some g Own (found_in P s) (found_in Q s) (found-followed s);
    same = λ s t. (
      λ e. goes-image g Own (found_in P s) (found_in Q s) (found-followed s) ∙ ap (option_map g) e ∙ sym (goes-image g Own (found_in P t) (found_in Q t) (found-followed t)),
      λ e. goes-back g Own places-apart (found_in P s) (found_in Q s) (found_in P t) (found_in Q t) (found-followed s) (found-followed t) e,
    );
  }

pub carried-keeps : (from to : Rules) (bits : ℕ) (P Q : Pool) → IsValidBy from P → IsCarried to bits P Q → KeepsIdentities P Q
carried-keeps from to bits P Q valid c = subst (KeepsIdentities P) (sym c.same) (pool-keeps from to bits P valid c.image c.forms c.many c.images c.rooted)
