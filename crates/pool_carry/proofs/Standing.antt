-- What stands for the entries with one digit, which are in a slice.
use Rattle.std.proofs.Common.{◌≡◌, ◌∙◌, ℕ, ◌+◌, ◌<◌, ◌≤◌, refl, ap, sym, subst, arith, List, [], ◌∷◌, get_or, length, map, Vec, Global, Result, Ok, Err}
use Rattle.std.specs.Prelude.{slice_get, IfSome, IfOk, OnOk, nat_eq}
use Rattle.std.specs.List.{All}
use Rattle.std.specs.Ordering.{nat_cmp}
use Rattle.std.specs.Cmp.Lexicographic.{slice_cmp}
use Rattle.std.proofs.lemmas.List.{length-map, length-append, nil_from_length}
use Rattle.std.proofs.lemmas.List.Elements.{All-head, All-filter, All-weaker}
use Rattle.std.proofs.lemmas.Option.{slice_get_read}
use Rattle.elem_core.specs.Codes.{digit_at}
use Rattle.elem_core.specs.declared.NoMemory.{NoMemory}
use Rattle.node_heap.specs.Links.{count}
use Rattle.node_heap.specs.Forms.{Form, Forms}
use Rattle.champ_chain.specs.Entry.{IsEntry, AreDistinct}
use Rattle.champ_chain.proofs.FrameLemmas.{key-kept}
use Rattle.champ_chain.proofs.OldLemmas.{in-one}
use Rattle.champ_trie.specs.Trie.{IsTrie, part}
use Rattle.champ_trie.specs.declared.place.Place.TheVariants.{Entry as At, Node}
use Rattle.champ_trie.proofs.PartLemmas.{part-distinct}
use Rattle.pool_text.specs.Rows.{Bytes}
use Rattle.pool_carry.specs.Making.{seen, IsBegun, AreCoded, with_digit}
use Rattle.pool_carry.specs.declared.entries.Entry.{Entry as CodedEntry}
use Rattle.pool_carry.proofs.Rows.{begun-keeps}
use Rattle.pool_carry.proofs.Filled.{StandsFor}
use Rattle.pool_carry.proofs.Coded.{seen-part}
use Rattle.pool_carry.proofs.Chained.{entry-within}
use Rattle.pool_carry.proofs.Parts.{holds-at}

-- what follows from two clauses about one result
pub ok-both : {X : Type 0} {A : Type 0} {P Q : X → Type 0} → (r : Result X NoMemory) → OnOk r A → IfOk r P → (A → (x : X) → P x → Q x) → IfOk r Q
ok-both (Ok x) a p both = both a x p
ok-both (Err e) a p both = tt

pub ok-then : {X : Type 0} {A B : Type 0} → (r : Result X NoMemory) → OnOk r A → (A → B) → OnOk r B
ok-then (Ok x) a step = step a
ok-then (Err e) a step = tt

pub if-then : {X : Type 0} {P Q : X → Type 0} → (r : Result X NoMemory) → IfOk r P → ((x : X) → P x → Q x) → IfOk r Q
if-then (Ok x) p step = step x p
if-then (Err e) p step = tt

pub begun-longer : {X : Type 0} (xs ys : List X) → IsBegun xs ys → length xs ≤ length ys
begun-longer xs ys begun = omega (arith, ap length begun.whole, length-append xs begun.more)

-- the slice at a digit
pub slice-part : (depth p : ℕ) (es slice : List CodedEntry) (parts : List (Vec CodedEntry Global)) (v : Vec CodedEntry Global) → length parts ≡ 32 → ((k : ℕ) → IfSome (slice_get parts k) (λ part. part.items ≡ with_digit depth k es)) → p < 32
    → v ≡ get_or parts p v → slice ≡ v.items → slice ≡ with_digit depth p es
slice-part depth p es slice parts v many each small read value =
    value ∙ holds-at parts (λ k part. part.items ≡ with_digit depth k es) each p v (slice_get_read parts 32 p v (sym many) small read)

-- entries are named in all rows that are made later
pub named-over : (old rows : List (Form Bytes)) (es : List CodedEntry) → IsBegun old rows → All (λ e. IsEntry (slice_get old) (seen e)) es → All (λ e. IsEntry (slice_get rows) (seen e)) es
named-over old rows es begun named =
    All-weaker (λ e. IsEntry (slice_get old) (seen e)) (λ e. IsEntry (slice_get rows) (seen e)) (λ e is. key-kept (slice_get old) (slice_get rows) (begun-keeps old rows begun) e.place e.key.now is) es named

-- the row of an entry stands there
pub place-within : (rows : List (Form Bytes)) (e : CodedEntry) → IsEntry (slice_get rows) (seen e) → (k : ℕ) → 0 < count k (e.place ∷ []) → k < length rows
place-within rows e key k there = omega (arith, entry-within rows e.place e.key.now key, in-one k e.place there)

pub node-within : (many node : ℕ) → node < many → (k : ℕ) → 0 < count k (node ∷ []) → k < many
node-within many node low k there = omega (arith, low, in-one k node there)

-- the first of some
pub first-of : (P : CodedEntry → Type 0) (xs : List CodedEntry) (d : CodedEntry) → 1 ≤ length xs → All P xs → P (get_or xs 0 d)
first-of P [] d some all = absurd (omega (arith, some))
first-of P (x ∷ xs) d some all = All-head P x xs all

only : (xs : List CodedEntry) (d : CodedEntry) → 1 ≤ length xs → length xs < 2 → map seen xs ≡ seen (get_or xs 0 d) ∷ []
only [] d some few = absurd (omega (arith, some))
only (x ∷ []) d some few = refl
only (x ∷ y ∷ xs) d some few = absurd (omega (arith, few))

module _ (depth p : ℕ) (es slice : List CodedEntry) (is : slice ≡ with_digit depth p es) where
  -- the slice's entries are named where all are
  pub slice-named : (rows : List (Form Bytes)) → All (λ e. IsEntry (slice_get rows) (seen e)) es → All (λ e. IsEntry (slice_get rows) (seen e)) slice
  slice-named rows named =
      subst (All (λ e. IsEntry (slice_get rows) (seen e))) (sym is) (All-filter (λ e. nat_eq (digit_at e.code depth) p) (λ e. IsEntry (slice_get rows) (seen e)) es named)

  module _ (code : Bytes → ℕ) (coded : AreCoded code es) where
    pub slice-coded : AreCoded code slice
    slice-coded = subst (AreCoded code) (sym is) (All-filter (λ e. nat_eq (digit_at e.code depth) p) (λ e. e.code ≡ code e.key.now) es coded)

    pub seen-slice : map seen slice ≡ part (slice_cmp nat_cmp) code depth p (map seen es)
    seen-slice = ap (map seen) is ∙ seen-part code depth p es coded

    pub slice-distinct : AreDistinct (slice_cmp nat_cmp) (map seen es) → AreDistinct (slice_cmp nat_cmp) (map seen slice)
    slice-distinct distinct = subst (AreDistinct (slice_cmp nat_cmp)) (sym seen-slice) (part-distinct (slice_cmp nat_cmp) code depth p (map seen es) distinct)

    pub none-left : length slice < 1 → part (slice_cmp nat_cmp) code depth p (map seen es) ≡ []
    none-left few = sym seen-slice ∙ ap (map seen) (nil_from_length slice (omega (arith, few)))

    module _ (left : ℕ) (F : Forms Bytes) where
      pub one-stands : (d : CodedEntry) → 1 ≤ length slice → length slice < 2 → IsEntry F (seen (get_or slice 0 d)) → StandsFor code left depth (map seen es) F (At (get_or slice 0 d).place) p
      one-stands d some few key = ((get_or slice 0 d).key.now, sym seen-slice ∙ only slice d some few, key)

      pub more-stand : (node : ℕ) → 2 ≤ length slice → IsTrie (slice_cmp nat_cmp) code F left (depth + 1) node (map seen slice) → StandsFor code left depth (map seen es) F (Node node) p
      more-stand node two trie = (omega (arith, two, length-map slice seen, ap length seen-slice), subst (λ E. IsTrie (slice_cmp nat_cmp) code F left (depth + 1) node E) seen-slice trie)
