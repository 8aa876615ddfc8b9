-- The chain of entries, made from its end.
use Rattle.std.proofs.Common.{◌≡◌, ℕ, ◌<◌, ◌≤◌, refl, ap, sym, subst, ◌∙◌, arith, inl, inr, List, [], ◌∷◌, ◌++◌, length, map, Option, Some, None, append_assoc, append-nil}
use Rattle.std.specs.Prelude.{slice_get, option_to_list, IfSome}
use Rattle.std.specs.List.{All}
use Rattle.std.specs.Ordering.{nat_cmp}
use Rattle.std.specs.Cmp.Lexicographic.{slice_cmp}
use Rattle.std.proofs.lemmas.Option.{slice_get_within}
use Rattle.std.proofs.lemmas.List.Elements.{All-head, All-tail}
use Rattle.node_heap.specs.Links.{count}
use Rattle.node_heap.specs.Forms.{Form, Forms, node, chain}
use Rattle.champ_chain.specs.Entry.{Entry, SameSet, IsEntry, key_of, key_at}
use Rattle.champ_chain.specs.Chain.{AreChainRows, IsRising}
use Rattle.champ_chain.proofs.SetLemmas.{same-sym, same-length}
use Rattle.champ_chain.proofs.FrameLemmas.{KeepsForms, rows-kept, key-kept}
use Rattle.champ_chain.proofs.CopyLemmas.{rows-over}
use Rattle.champ_chain.proofs.OldLemmas.{in-one, in-two}
use Rattle.champ_trie.proofs.StayLemmas.{all-same}
use Rattle.pool_text.specs.Rows.{Bytes}
use Rattle.pool_carry.specs.Making.{seen}
use Rattle.pool_carry.specs.declared.entries.Entry.{Entry as CodedEntry}

-- of these entries those that are left come first, and the others are chained
abbrev pub IsChained : Forms Bytes → Option ℕ → List CodedEntry → List (Entry Bytes) → Type 0
IsChained F rest left E = (done : List CodedEntry) × SameSet (map seen (left ++ done)) E × IsRising (slice_cmp nat_cmp) (map seen (left ++ done)) × AreChainRows F rest (map seen done)

pub chained-none : (F : Forms Bytes) (left : List CodedEntry) (E : List (Entry Bytes)) → SameSet (map seen left) E → IsRising (slice_cmp nat_cmp) (map seen left) → IsChained F None left E
unfolding AreChainRows
chained-none F left E same rising = ([], subst (λ es. SameSet (map seen es) E) (sym (append-nil left)) same, subst (λ es. IsRising (slice_cmp nat_cmp) (map seen es)) (sym (append-nil left)) rising, refl)

all-seam : (P : Entry Bytes → Type 0) (new : List CodedEntry) (e : CodedEntry) (done : List CodedEntry) → All P (map seen ((new ++ e ∷ []) ++ done)) → P (seen e)
all-seam P [] e done all = All-head P (seen e) (map seen done) all
all-seam P (x ∷ new) e done all = all-seam P new e done (All-tail P (seen x) (map seen ((new ++ e ∷ []) ++ done)) all)

module _ (F : Forms Bytes) (rest : Option ℕ) (left new : List CodedEntry) (e : CodedEntry) (E : List (Entry Bytes)) (is : left ≡ new ++ e ∷ []) (chained : IsChained F rest left E) where
  -- the last that is left is an entry, where all are
  pub last-entry : All (λ d. IsEntry F d) E → IsEntry F (seen e)
  last-entry all =
      all-seam (λ d. IsEntry F d) new e chained.0
      (subst (λ es. All (λ d. IsEntry F d) (map seen (es ++ chained.0))) is (all-same (λ d. IsEntry F d) E (map seen (left ++ chained.0)) (same-sym _ _ chained.1) all))

  -- once its row is made one fewer is left
  pub chained-more : (G : Forms Bytes) (place : ℕ) → KeepsForms F G → G place ≡ Some (node chain (e.place ∷ option_to_list rest)) → IsEntry F (seen e) → IsChained G (Some place) new E
  chained-more G place keeps row key =
      let whole : left ++ chained.0 ≡ new ++ e ∷ chained.0 = ap (λ es. es ++ chained.0) is ∙ append_assoc new (e ∷ []) chained.0 in (
        e ∷ chained.0,
        subst (λ es. SameSet (map seen es) E) whole chained.1,
        subst (λ es. IsRising (slice_cmp nat_cmp) (map seen es)) whole chained.2,
        rows-over G place (seen e) rest (map seen chained.0) row (key-kept F G keeps e.place e.key.now key) (rows-kept F G keeps rest (map seen chained.0) chained.3),
      )

-- entries are rows
pub entry-within : (rows : List (Form Bytes)) (l : ℕ) (key : Bytes) → key_at (slice_get rows) l ≡ Some key → l < length rows
entry-within rows l key is = by_row (slice_get rows l) refl is
  where
    by_row : (r : Option (Form Bytes)) → slice_get rows l ≡ r → key_of (slice_get rows) r ≡ Some key → l < length rows
    by_row None at is = absurd cc
    by_row (Some row) at is = slice_get_within rows l row at

-- the links of a chain row are below n
pub links-within : (n x : ℕ) (rest : Option ℕ) → x < n → IfSome rest (λ place. place < n) → (k : ℕ) → 0 < count k (x ∷ option_to_list rest) → k < n
links-within n x None low rest_low k there = omega (arith, low, in-one k x there)
links-within n x (Some y) low rest_low k there = elim (in-two k x y there) as (λ _. k < n) [
  | inl same ↦ omega (arith, same, low)
  | inr same ↦ omega (arith, same, rest_low)
]

-- where two or more were left at first, some are chained once none is left
pub some-chained : (F : Forms Bytes) (left : List CodedEntry) (E : List (Entry Bytes)) → IsChained F None left E → left ≡ [] → 2 ≤ length E → ⊥
unfolding AreChainRows
some-chained F left E chained none two = by_done chained.0 (subst (λ es. SameSet (map seen (es ++ chained.0)) E) none chained.1) chained.3
  where
    by_done : (done : List CodedEntry) → SameSet (map seen done) E → AreChainRows F None (map seen done) → ⊥
    by_done [] same rows = absurd (omega (arith, two, same-length _ _ same))
    by_done (d ∷ ds) same rows = absurd (let no : None ≡ Some rows.link = rows.here in cc)
