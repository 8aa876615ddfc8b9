-- Rows that are made one after the other.
use Rattle.std.proofs.Common.{◌≡◌, ◌⊎◌, inl, inr, ℕ, zero, suc, ◌<◌, refl, ap, sym, subst, ◌∙◌, arith, Bool, true, false, cond, List, [], ◌∷◌, ◌++◌, length, Option, Some, None, append_assoc, append-nil}
use Rattle.std.specs.Prelude.{slice_get}
use Rattle.std.proofs.lemmas.Option.{slice_get_within}
use Rattle.node_heap.specs.Links.{count, HasLink}
use Rattle.node_heap.specs.Forms.{Form, links_of}
use Rattle.champ_chain.proofs.FrameLemmas.{KeepsForms}
use Rattle.pool_text.specs.Rows.{Bytes}
use Rattle.pool_text.specs.Pool.{links_from}
use Rattle.pool_carry.specs.Carried.{is_of_trie}
use Rattle.pool_carry.specs.Making.{trie_row_form, AreKept, IsBegun}
use Rattle.pool_carry.specs.declared.made.MadeRow.{MadeRow}
use Rattle.pool_carry.specs.declared.made.MadeRow.TheVariants.{Trie, Chain}

module _ {X : Type 0} where
  pub get-front : (xs ys : List X) (i : ℕ) → i < length xs → slice_get (xs ++ ys) i ≡ slice_get xs i
  get-front [] ys i low = absurd (omega (arith, low))
  get-front (x ∷ xs) ys zero low = refl
  get-front (x ∷ xs) ys (suc i) low = get-front xs ys i (omega (arith, low))

  pub get-end : (xs : List X) (x : X) → slice_get (xs ++ x ∷ []) (length xs) ≡ Some x
  get-end [] x = refl
  get-end (y ∷ xs) x = get-end xs x

  -- what stands in the list with one element more was there or is that one
  pub get-more : (xs : List X) (x y : X) (i : ℕ) → slice_get (xs ++ x ∷ []) i ≡ Some y → ((i < length xs) × (slice_get xs i ≡ Some y)) ⊎ ((i ≡ length xs) × (x ≡ y))
  get-more [] x y zero is = inr (refl, (let same : x ≡ y = cc in same))
  get-more [] x y (suc i) is = absurd cc
  get-more (z ∷ xs) x y zero is = inl (omega arith, is)
  get-more (z ∷ xs) x y (suc i) is = elim (get-more xs x y i is) as (λ _. ((suc i < length (z ∷ xs)) × (slice_get (z ∷ xs) (suc i) ≡ Some y)) ⊎ ((suc i ≡ length (z ∷ xs)) × (x ≡ y))) [
    | inl there ↦ inl (omega (arith, there.0), there.1)
    | inr last ↦ inr (ap suc last.0, last.1)
  ]

  -- lists that begin with others
  pub begun-same : (xs : List X) → IsBegun xs xs
  begun-same xs = record { more = []; whole = sym (append-nil xs) }

  pub begun-end : (xs : List X) (x : X) → IsBegun xs (xs ++ x ∷ [])
  begun-end xs x = record { more = x ∷ []; whole = refl }

  pub begun-trans : (xs ys zs : List X) → IsBegun xs ys → IsBegun ys zs → IsBegun xs zs
  begun-trans xs ys zs a b = record { more = a.more ++ b.more; whole = b.whole ∙ ap (λ us. us ++ b.more) a.whole ∙ append_assoc xs a.more b.more }

-- each row stays
pub begun-keeps : (xs ys : List (Form Bytes)) → IsBegun xs ys → KeepsForms (slice_get xs) (slice_get ys)
begun-keeps xs ys begun = record { kept = λ l f is. ap (λ zs. slice_get zs l) begun.whole ∙ get-front xs begun.more l (slice_get_within xs l f is) ∙ is }

-- a row of a trie is one
pub trie-row-of-trie : (row : MadeRow) → is_of_trie (Some (trie_row_form row)) ≡ true
trie-row-of-trie (Trie depth entries nodes links) = refl
trie-row-of-trie (Chain first rest) = refl

true-not-false : true ≡ false → ⊥
true-not-false e = absurd cc

module _ (xs : List (Form Bytes)) (x : Form Bytes) where
  -- each link leads to an earlier row, where those of one row more do
  pub linked-more : ((l k : ℕ) → HasLink (links_from xs) l k → k < l) → ((k : ℕ) → 0 < count k (links_of (Some x)) → k < length xs) → (l k : ℕ) → HasLink (links_from (xs ++ x ∷ [])) l k → k < l
  linked-more before new l k has = by_row (slice_get (xs ++ x ∷ []) l) refl has
    where
      by_row : (r : Option (Form Bytes)) → slice_get (xs ++ x ∷ []) l ≡ r → 0 < count k (links_of r) → k < l
      by_row None is has = absurd (omega (arith, has))
      by_row (Some y) is has = elim (get-more xs x y l is) as (λ _. k < l) [
        | inl there ↦ before l k (let low : 0 < count k (links_of (slice_get xs l)) = rw there.1 has in low)
        | inr last ↦ (let low : 0 < count k (links_of (Some x)) = rw last.1 has in omega (arith, new k low, last.0))
      ]

  -- no row of a trie stands twice, where one row more is none of a trie, or stands nowhere before
  pub once-more : ((k l : ℕ) → is_of_trie (slice_get xs k) ≡ true → slice_get xs k ≡ slice_get xs l → k ≡ l) → (is_of_trie (Some x) ≡ true → (k : ℕ) → slice_get xs k ≡ Some x → ⊥)
      → (k l : ℕ) → is_of_trie (slice_get (xs ++ x ∷ []) k) ≡ true → slice_get (xs ++ x ∷ []) k ≡ slice_get (xs ++ x ∷ []) l → k ≡ l
  once-more once new k l of_trie same = by_row (slice_get (xs ++ x ∷ []) k) refl of_trie (sym same)
    where
      by_row : (r : Option (Form Bytes)) → slice_get (xs ++ x ∷ []) k ≡ r → is_of_trie r ≡ true → slice_get (xs ++ x ∷ []) l ≡ slice_get (xs ++ x ∷ []) k → k ≡ l
      by_row None is of_trie same = absurd (true-not-false (sym of_trie))
      by_row (Some y) is of_trie same = elim (get-more xs x y k is) as (λ _. k ≡ l) [
        | inl here ↦ elim (get-more xs x y l (same ∙ is)) as (λ _. k ≡ l) [
          | inl there ↦ once k l (ap is_of_trie here.1 ∙ of_trie) (here.1 ∙ sym there.1)
          | inr last ↦ absurd (new (ap (λ z. is_of_trie (Some z)) last.1 ∙ of_trie) k (here.1 ∙ ap Some (sym last.1)))
        ]
        | inr last ↦ elim (get-more xs x y l (same ∙ is)) as (λ _. k ≡ l) [
          | inl there ↦ absurd (new (ap (λ z. is_of_trie (Some z)) last.1 ∙ of_trie) l (there.1 ∙ ap Some (sym last.1)))
          | inr also ↦ last.0 ∙ sym also.0
        ]
      ]

-- no rows, and an empty table
pub kept-none : (rows : List (Form Bytes)) (table : MadeRow → Option ℕ) → rows ≡ [] → ((row : MadeRow) → table row ≡ None) → AreKept rows table
kept-none rows table empty none = subst (λ xs. AreKept xs table) (sym empty) (record {
  linked = λ l k has. absurd (omega (arith, has));
  once = λ k l of_trie same. absurd (true-not-false (sym of_trie));
  named = λ l row is. absurd (let no : None ≡ Some l = sym (none row) ∙ is in cc);
  kept = λ l row is. absurd cc;
})

module _ (xs : List (Form Bytes)) (table : MadeRow → Option ℕ) (are : AreKept xs table) where
  -- one row more that is none of a trie
  pub kept-own : (x : Form Bytes) → is_of_trie (Some x) ≡ false → ((k : ℕ) → 0 < count k (links_of (Some x)) → k < length xs) → AreKept (xs ++ x ∷ []) table
  kept-own x own links = record {
    linked = linked-more xs x are.linked links;
    once = once-more xs x are.once (λ of_trie k there. true-not-false (sym of_trie ∙ own));
    named = λ l row is. (begun-keeps xs (xs ++ x ∷ []) (begun-end xs x)).kept l (trie_row_form row) (are.named l row is);
    kept = λ l row is. elim (get-more xs x (trie_row_form row) l is) as (λ _. table row ≡ Some l) [
      | inl there ↦ are.kept l row there.1
      | inr last ↦ absurd (true-not-false (sym (trie-row-of-trie row) ∙ ap (λ z. is_of_trie (Some z)) (sym last.1) ∙ own))
    ];
  }

  -- one row of a trie more, of which the table knows nothing yet
  module _ (same : MadeRow → MadeRow → Bool) (same-is : (r s : MadeRow) → same r s ≡ true → trie_row_form r ≡ trie_row_form s) (is-same : (r s : MadeRow) → trie_row_form r ≡ trie_row_form s → same r s ≡ true) where
    pub kept-trie : (row : MadeRow) (next : MadeRow → Option ℕ) → ((k : ℕ) → 0 < count k (links_of (Some (trie_row_form row))) → k < length xs) → table row ≡ None
        → ((q : MadeRow) → next q ≡ cond (same row q) (Some (length xs)) (table q)) → AreKept (xs ++ trie_row_form row ∷ []) next
    kept-trie row next links absent updates = record {
      linked = linked-more xs (trie_row_form row) are.linked links;
      once = once-more xs (trie_row_form row) are.once (λ of_trie k there. not-there k row there);
      named = λ l q is. named-by l q (same row q) refl (sym (updates q) ∙ is);
      kept = λ l q is. elim (get-more xs (trie_row_form row) (trie_row_form q) l is) as (λ _. next q ≡ Some l) [
        | inl there ↦ updates q ∙ kept-by l q there.1 (same row q) refl
        | inr last ↦ updates q ∙ ap (λ b. cond b (Some (length xs)) (table q)) (is-same row q last.1) ∙ ap Some (sym last.0)
      ];
    }
      where
        not-there : (k : ℕ) (q : MadeRow) → slice_get xs k ≡ Some (trie_row_form row) → ⊥
        not-there k q there = absurd (let no : None ≡ Some k = sym absent ∙ are.kept k row there in cc)

        named-by : (l : ℕ) (q : MadeRow) (b : Bool) → same row q ≡ b → cond b (Some (length xs)) (table q) ≡ Some l → slice_get (xs ++ trie_row_form row ∷ []) l ≡ Some (trie_row_form q)
        named-by l q true is at = (let last : length xs ≡ l = cc in ap (λ i. slice_get (xs ++ trie_row_form row ∷ []) i) (sym last) ∙ get-end xs (trie_row_form row) ∙ ap Some (same-is row q is))
        named-by l q false is at = (begun-keeps xs (xs ++ trie_row_form row ∷ []) (begun-end xs (trie_row_form row))).kept l (trie_row_form q) (are.named l q at)

        kept-by : (l : ℕ) (q : MadeRow) → slice_get xs l ≡ Some (trie_row_form q) → (b : Bool) → same row q ≡ b → cond b (Some (length xs)) (table q) ≡ Some l
        kept-by l q there true is = absurd (not-there l q (there ∙ ap Some (sym (same-is row q is))))
        kept-by l q there false is = are.kept l q there
