-- What the rows of new tries are: their entries name their keys, rise, and come before the roots that they are of.
use Rattle.std.proofs.Common.{◌≡◌, ℕ, zero, suc, ◌<◌, refl, arith, Bool, true, false, cond, List, [], ◌∷◌, ◌++◌, map, fold, flat_map, Some}
use Rattle.std.specs.Prelude.{nat_eq}
use Rattle.std.specs.List.{filter, range_with_len}
use Rattle.std.specs.Ordering.{nat_cmp, is_lt}
use Rattle.std.specs.Cmp.Lexicographic.{slice_cmp}
use Rattle.std.specs.declared.cmp.Ordering.{Ordering}
use Rattle.std.specs.declared.cmp.Ordering.TheVariants.{Less, Equal, Greater}
use Rattle.std.proofs.lemmas.Cmp.{nat_list_cmp_total}
use Rattle.elem_core.specs.Codes.{digit_at}
use Rattle.node_heap.specs.Forms.{Forms}
use Rattle.champ_chain.specs.Entry.{Entry, SameSet, same_none, same_first, same_turned, same_through, has_key, AreDistinct, key_at}
use Rattle.champ_chain.specs.Chain.{AreAbove, IsRising}
use Rattle.champ_chain.proofs.SetLemmas.{same-refl, same-sym, count-cons}
use Rattle.champ_chain.proofs.RisingLemmas.{less_flip, above-less}
use Rattle.champ_trie.specs.Trie.{part}
use Rattle.pool_text.specs.Rows.{Bytes}
use Rattle.pool_carry.specs.Computed.{TrieRow, of_two, rows_of, chain_rows, with_entry, by_key}
use Rattle.pool_carry.proofs.CanonRows.{by-bytes, rising-part}
use Rattle.pool_carry.proofs.Sorted.{never-twice, tail-distinct}
use Rattle.pool_carry.proofs.FirstRows.{AreAll, all-front}

-- each entry of a list is as P says
abbrev pub EachEntry : (Entry Bytes → Type 0) → List (Entry Bytes) → Type 0
EachEntry P [] = Unit {0}
EachEntry P (e ∷ es) = P e × EachEntry P es

pub each-part : (P : Entry Bytes → Type 0) (test : Entry Bytes → Bool) (E : List (Entry Bytes)) → EachEntry P E → EachEntry P (filter test E)
each-part P test [] each = tt
each-part P test (e ∷ es) each = by_test (test e) (each-part P test es each.1)
  where
    by_test : (b : Bool) → EachEntry P (filter test es) → EachEntry P (cond b (e ∷ filter test es) (filter test es))
    by_test true rest = (each.0, rest)
    by_test false rest = rest

pub each-same : (P : Entry Bytes → Type 0) (E D : List (Entry Bytes)) → SameSet E D → EachEntry P E → EachEntry P D
each-same P _ _ same_none each = tt
each-same P _ _ (same_first x xs ys s) each = (each.0, each-same P xs ys s each.1)
each-same P _ _ (same_turned x y xs) each = (each.1.0, (each.0, each.1.1))
each-same P _ _ (same_through xs ys zs s t) each = each-same P ys zs t (each-same P xs ys s each)

-- In rising order of the keys.

with-same : (E : List (Entry Bytes)) (e : Entry Bytes) → SameSet (with_entry E e) (e ∷ E)
with-same [] e = same-refl (e ∷ [])
with-same (d ∷ es) e = by_test (is_lt (slice_cmp nat_cmp e.key d.key)) (with-same es e)
  where
    by_test : (b : Bool) → SameSet (with_entry es e) (e ∷ es) → SameSet (cond b (e ∷ d ∷ es) (d ∷ with_entry es e)) (e ∷ d ∷ es)
    by_test true rest = same-refl (e ∷ d ∷ es)
    by_test false rest = same_through _ (d ∷ e ∷ es) _ (same_first d _ _ rest) (same_turned d e es)

fold-same : (D E : List (Entry Bytes)) → SameSet (fold with_entry D E) (E ++ D)
fold-same D [] = same-refl D
fold-same D (e ∷ es) =
    same_through _ (es ++ with_entry D e) _ (fold-same (with_entry D e) es)
    (same_through _ (es ++ e ∷ D) _ (before es (with_entry D e) (e ∷ D) (with-same D e)) (middle e es D))
  where
    before : (xs ys zs : List (Entry Bytes)) → SameSet ys zs → SameSet (xs ++ ys) (xs ++ zs)
    before [] ys zs s = s
    before (x ∷ xs) ys zs s = same_first x _ _ (before xs ys zs s)

    middle : (x : Entry Bytes) (xs ys : List (Entry Bytes)) → SameSet (xs ++ x ∷ ys) (x ∷ (xs ++ ys))
    middle x [] ys = same-refl (x ∷ ys)
    middle x (y ∷ xs) ys = same_through _ (y ∷ x ∷ (xs ++ ys)) _ (same_first y _ _ (middle x xs ys)) (same_turned y x (xs ++ ys))

pub by_key-same : (E : List (Entry Bytes)) → SameSet (by_key E) (E ++ [])
by_key-same E = fold-same [] E

-- one entry more among those that rise, where its key is new
above-with : (key : Bytes) (E : List (Entry Bytes)) (e : Entry Bytes) → by-bytes key e.key ≡ Less → AreAbove by-bytes key E → AreAbove by-bytes key (with_entry E e)
above-with key [] e less above = (less, tt)
above-with key (d ∷ es) e less above = by_test (is_lt (slice_cmp nat_cmp e.key d.key)) (above-with key es e less above.1)
  where
    by_test : (b : Bool) → AreAbove by-bytes key (with_entry es e) → AreAbove by-bytes key (cond b (e ∷ d ∷ es) (d ∷ with_entry es e))
    by_test true rest = (less, above)
    by_test false rest = (above.0, rest)

-- no entry has the key
abbrev IsNew : Bytes → List (Entry Bytes) → Type 0
IsNew key E = EachEntry (λ d. by-bytes key d.key ≡ Equal → ⊥) E

with-rising : (E : List (Entry Bytes)) (e : Entry Bytes) → IsNew e.key E → IsRising by-bytes E → IsRising by-bytes (with_entry E e)
with-rising [] e new rising = (tt, tt)
with-rising (d ∷ es) e new rising = by_order (slice_cmp nat_cmp e.key d.key) refl (with-rising es e new.1 rising.1)
  where
    by_order : (r : Ordering) → slice_cmp nat_cmp e.key d.key ≡ r → IsRising by-bytes (with_entry es e) → IsRising by-bytes (cond (is_lt r) (e ∷ d ∷ es) (d ∷ with_entry es e))
    by_order Less is rest = ((is, above-less by-bytes nat_list_cmp_total e.key d.key is es rising.0), rising)
    by_order Equal is rest = absurd (new.0 is)
    by_order Greater is rest = (above-with d.key es e (less_flip by-bytes nat_list_cmp_total e.key d.key is) rising.0, rest)

-- no entry after the first has its key
others-new : (e : Entry Bytes) (es : List (Entry Bytes)) → AreDistinct by-bytes (e ∷ es) → EachEntry (λ d. by-bytes d.key e.key ≡ Equal → ⊥) es
others-new e [] distinct = tt
others-new e (d ∷ ds) distinct = (never-twice by-bytes nat_list_cmp_total e d ds distinct, others-new e ds (without-second e d ds distinct))
  where
    without-second : (x y : Entry Bytes) (xs : List (Entry Bytes)) → AreDistinct by-bytes (x ∷ y ∷ xs) → AreDistinct by-bytes (x ∷ xs)
    without-second x y xs distinct = record {
      once = λ key. omega (arith, distinct.once key, count-cons (has_key by-bytes key) x (y ∷ xs), count-cons (has_key by-bytes key) y xs, count-cons (has_key by-bytes key) x xs);
    }

fold-rising : (D E : List (Entry Bytes)) → IsRising by-bytes D → EachEntry (λ e. IsNew e.key D) E → AreDistinct by-bytes E → IsRising by-bytes (fold with_entry D E)
fold-rising D [] rising new distinct = rising
fold-rising D (e ∷ es) rising new distinct = fold-rising (with_entry D e) es (with-rising D e new.0 rising) (still es new.1 (others-new e es distinct)) (tail-distinct by-bytes nat_list_cmp_total e es distinct)
  where
    still : (ds : List (Entry Bytes)) → EachEntry (λ d. IsNew d.key D) ds → EachEntry (λ d. by-bytes d.key e.key ≡ Equal → ⊥) ds → EachEntry (λ d. IsNew d.key (with_entry D e)) ds
    still [] new other = tt
    still (d ∷ ds) new other = (each-same (λ x. by-bytes d.key x.key ≡ Equal → ⊥) (e ∷ D) (with_entry D e) (same-sym _ _ (with-same D e)) (other.0, new.0), still ds new.1 other.1)

pub by_key-rising : (E : List (Entry Bytes)) → AreDistinct by-bytes E → IsRising by-bytes (by_key E)
by_key-rising E distinct = fold-rising [] E tt (nothing E) distinct
  where
    nothing : (es : List (Entry Bytes)) → EachEntry (λ e. IsNew e.key []) es
    nothing [] = tt
    nothing (e ∷ es) = (tt, nothing es)

-- The rows of a trie.

module _ (F : Forms Bytes) (N : ℕ) where
  -- an entry that names its key and comes before N
  pub record IsEntryOf (e : Entry Bytes) : Type 0 where
    pub key : key_at F e.link ≡ Some e.key
    pub low : e.link < N

  -- a row of such entries that rise
  pub record IsNewRow (r : TrieRow) : Type 0 where
    pub entries : EachEntry IsEntryOf r.entries
    pub rising : IsRising by-bytes r.entries

  module _ (code : Bytes → ℕ) where
    chain-are : (depth : ℕ) (E : List (Entry Bytes)) → EachEntry IsEntryOf E → IsRising by-bytes E → AreAll IsNewRow (chain_rows depth E)
    chain-are depth [] each rising = tt
    chain-are depth (e ∷ es) each rising = (record { entries = each; rising = rising }, chain-are depth es each.1 rising.1)

    flat-are : (f : List (Entry Bytes) → List TrieRow) → ((P : List (Entry Bytes)) → EachEntry IsEntryOf P → IsRising by-bytes P → AreAll IsNewRow (f P)) → (depth : ℕ) (E : List (Entry Bytes)) → EachEntry IsEntryOf E → IsRising by-bytes E
        → (ps : List ℕ) → AreAll IsNewRow (flat_map f (map (λ p. part (slice_cmp nat_cmp) code depth p E) ps))
    flat-are f of depth E each rising [] = tt
    flat-are f of depth E each rising (p ∷ ps) =
        all-front IsNewRow (f (part (slice_cmp nat_cmp) code depth p E)) (flat_map f (map (λ q. part (slice_cmp nat_cmp) code depth q E) ps))
        (of (part (slice_cmp nat_cmp) code depth p E) (each-part IsEntryOf (λ e. nat_eq (digit_at (code e.key) depth) p) E each) (rising-part (λ e. nat_eq (digit_at (code e.key) depth) p) E rising)) (flat-are f of depth E each rising ps)

    of_two-are : (f : List (Entry Bytes) → List TrieRow) → ((P : List (Entry Bytes)) → EachEntry IsEntryOf P → IsRising by-bytes P → AreAll IsNewRow (f P)) → (P : List (Entry Bytes)) → EachEntry IsEntryOf P → IsRising by-bytes P → AreAll IsNewRow (of_two f P)
    of_two-are f of [] each rising = tt
    of_two-are f of (e ∷ []) each rising = tt
    of_two-are f of (e ∷ d ∷ es) each rising = of (e ∷ d ∷ es) each rising

    pub rows-are : (left depth : ℕ) (E : List (Entry Bytes)) → EachEntry IsEntryOf E → IsRising by-bytes E → AreAll IsNewRow (rows_of code left depth E)
    unfolding rows_of
    rows-are zero depth E each rising = chain-are depth E each rising
    rows-are (suc left) depth E each rising =
        (record { entries = each; rising = rising }, flat-are (of_two (rows_of code left (suc depth))) (of_two-are (rows_of code left (suc depth)) (rows-are left (suc depth))) depth E each rising (range_with_len 0 32))
