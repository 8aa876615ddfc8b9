-- The rows that a copy makes.
use Rattle.std.proofs.Common.{◌≡◌, ℕ, zero, suc, ◌+◌, ◌-◌, ◌<◌, ◌≤◌, List, [], ◌∷◌, ◌++◌, length, take, drop, refl, ap, sym, subst, ◌∙◌, arith, Option, Some, None, IsSome, Bool, true, false, cond, ◌≢◌, inl, inr, append_assoc, length-drop, add-one}
use Rattle.std.specs.Prelude.{option_to_list, option_map, ◌==◌}
use Rattle.node_heap.specs.Forms.{Form, Forms, node, chain, form_of}
use Rattle.node_heap.specs.Heap.{Heap, row_at, form_at, holds_at, one_at}
use Rattle.node_heap.specs.Calls.{Extends, Builds}
use Rattle.node_heap.proofs.Frames.{Extends-trans}
use Rattle.node_heap.specs.declared.row.Head.TheVariants.{Chain}
use Rattle.champ_chain.specs.Entry.{Entry, entry, key_at, key_of}
use Rattle.champ_chain.specs.Chain.{AreChainRows, IsEntryOrRows}
use Rattle.champ_chain.proofs.FrameLemmas.{rows-kept, key-kept, forms-kept, form-live}
use Rattle.node_heap.proofs.BuildLemmas.{count-cons, count-one, Builds-both}
use Rattle.std.proofs.lemmas.Bool.{cases_eq, ne_eqb, eq-eqb}
use Rattle.node_heap.specs.Links.{count}
use Rattle.champ_chain.proofs.SpotLemmas.{FirstRow, first-row, rows-none, row-entry, row-next}

one_at-le : (x l : ℕ) → one_at x l ≤ 1
one_at-le x l = by_test (x == l)
  where
    by_test : (b : Bool) → cond b 1 0 ≤ 1
    by_test true = omega arith
    by_test false = omega arith

pub one_at-same : (x : ℕ) → one_at x x ≡ 1
one_at-same x = let one : Bool → ℕ = λ b. cond b 1 0 in ap one (eq-eqb x x refl)

pub one_at-other : (x l : ℕ) → x ≢ l → one_at x l ≡ 0
one_at-other x l other = let one : Bool → ℕ = λ b. cond b 1 0 in ap one (ne_eqb x l other)

module _ {X : Type 0} where
  pub drop-next : (i : ℕ) (es : List X) (x : X) (xs : List X) → drop i es ≡ x ∷ xs → drop (i + 1) es ≡ xs
  drop-next zero [] x xs e = absurd cc
  drop-next zero (y ∷ ys) x xs e = (let same : ys ≡ xs = cc in same)
  drop-next (suc i) [] x xs e = absurd cc
  drop-next (suc i) (y ∷ ys) x xs e = rw add-one (rw add-one at (drop-next i ys x xs e))

  take-none : (n : ℕ) → (let none : List X = take n [] in none) ≡ []
  take-none zero = refl
  take-none (suc n) = refl

  pub take-halves : (half n : ℕ) (es : List X) → half ≤ n → take half es ++ take (n - half) (drop half es) ≡ take n es
  take-halves zero n es le = let same : n - 0 ≡ n = omega arith in rw same refl
  take-halves (suc h) zero es le = absurd (omega arith)
  take-halves (suc h) (suc n) [] le = take-none (suc n - suc h)
  take-halves (suc h) (suc n) (e ∷ es) le = let same : suc n - suc h ≡ n - h = omega arith in rw same (ap (λ xs. e ∷ xs) (take-halves h n es (omega arith)))

  pub take-front : (xs ys : List X) → take (length xs) (xs ++ ys) ≡ xs
  take-front [] ys = refl
  take-front (x ∷ xs) ys = ap (λ zs. x ∷ zs) (take-front xs ys)

module _ {K : Type 0} where
  -- a row more in front
  pub rows-over : (F : Forms K) (link : ℕ) (e : Entry K) (next : Option ℕ) (ts : List (Entry K)) → F link ≡ Some (node chain (e.link ∷ option_to_list next)) → key_at F e.link ≡ Some e.key → AreChainRows F next ts → AreChainRows F (Some link) (e ∷ ts)
  unfolding AreChainRows
  rows-over F link e next ts row key rest = record { link = link; next = next; here = refl; row = row; key = key; rest = rest }

  -- the rows after some
  pub rows-after : (F : Forms K) (i link : ℕ) (es : List (Entry K)) → AreChainRows F (Some link) (drop i es) → i + 1 < length es
      → (next : ℕ) (at : FirstRow F link (drop i es)) → at.next ≡ Some next → AreChainRows F (Some next) (drop (i + 1) es)
  rows-after F i link es rows more next at on =
      subst (AreChainRows F (Some next)) (sym (drop-next i es at.first at.others at.whole)) (subst (λ n. AreChainRows F n at.others) on at.rows)

  pub rows-last : (F : Forms K) (i link : ℕ) (es : List (Entry K)) → AreChainRows F (Some link) (drop i es) → i + 1 < length es
      → (at : FirstRow F link (drop i es)) → at.next ≡ None → ⊥
  rows-last F i link es rows more at last =
      let none : at.others ≡ [] = rows-none F at.others (subst (λ n. AreChainRows F n at.others) last at.rows) in
      omega (arith, length-drop i es, ap length at.whole, ap length none, more)

  pub take-one : (link : ℕ) (F : Forms K) (es : List (Entry K)) (at : FirstRow F link es) → take 1 es ≡ at.first ∷ []
  take-one link F es at = ap (take 1) at.whole

module _ {T : Type 0} where
  -- an entry's row is there
  pub key-live : (h : Heap T) (l : ℕ) (k : T) → key_at (form_at h) l ≡ Some k → IsSome (row_at h l)
  key-live h l k is = by_form (form_at h l) refl is
    where
      by_form : (r : Option (Form T)) → form_at h l ≡ r → key_of (form_at h) r ≡ Some k → IsSome (row_at h l)
      by_form None e is = absurd cc
      by_form (Some f) e is = form-live h l f e

  pub chain-form : (h : Heap T) (link : ℕ) (links : List ℕ) → row_at h link ≡ Some (node Chain links) → form_at h link ≡ Some (node chain links)
  chain-form h link links row = ap (option_map form_of) row

  -- a copied row has the entry of the row that it is made from
  pub copied-row : (old new : Heap T) (from r x : ℕ) (next tail : Option ℕ) (es ts : List (Entry T)) → Extends old new → AreChainRows (form_at old) (Some from) es
      → form_at old from ≡ Some (node chain (x ∷ option_to_list next)) → row_at new r ≡ Some (node Chain (x ∷ option_to_list tail)) → AreChainRows (form_at old) tail ts
      → AreChainRows (form_at new) (Some r) (take 1 es ++ ts)
  copied-row old new from r x next tail es ts more rows read made rest =
      let at = first-row (form_at old) from es rows in
      let same : x ≡ at.first.link = row-entry (form_at old) from x at.first.link next at.next read at.row in
      let keeps = forms-kept old new more in
      subst (λ xs. AreChainRows (form_at new) (Some r) (xs ++ ts)) (sym (take-one from (form_at old) es at))
      (rows-over (form_at new) r at.first tail ts
      (chain-form new r _ made ∙ ap (λ y. let f : Option (Form T) = Some (node chain (y ∷ option_to_list tail)) in f) same)
      (key-kept (form_at old) (form_at new) keeps at.first.link at.first.key at.key)
      (rows-kept (form_at old) (form_at new) keeps tail ts rest))

  -- the entry that is read off a chain row is there
  pub read-live : (h : Heap T) (from x : ℕ) (next : Option ℕ) (es : List (Entry T)) → AreChainRows (form_at h) (Some from) es → form_at h from ≡ Some (node chain (x ∷ option_to_list next)) → IsSome (row_at h x)
  read-live h from x next es rows read =
      let at = first-row (form_at h) from es rows in
      subst (λ y. IsSome (row_at h y)) (sym (row-entry (form_at h) from x at.first.link next at.next read at.row)) (key-live h at.first.link at.first.key at.key)

  -- a held entry and the row of it over a tail
  pub copy-one : (old mid new : Heap T) (x r : ℕ) (tail : List ℕ) → Builds old mid [] (x ∷ []) 0 0 → Builds mid new (x ∷ tail) (r ∷ []) 0 1 → Builds old new tail (r ∷ []) 0 1
  copy-one old mid new x r tail first second =
      Builds-both tail (r ∷ []) first second (λ k. omega (arith, count-cons k x tail, count-one k x)) (omega arith)

  -- the last half and the first half
  pub copied-halves : (old mid new : Heap T) (from middle last r half n : ℕ) (tail : Option ℕ) (es ts : List (Entry T)) → half ≤ n → n ≤ length es
      → AreChainRows (form_at mid) (Some last) (take (n - half) (drop half es) ++ ts)
      → ((ts : List (Entry T)) → AreChainRows (form_at mid) (Some last) ts → AreChainRows (form_at new) (Some r) (take half es ++ ts))
      → AreChainRows (form_at new) (Some r) (take n es ++ ts)
  copied-halves old mid new from middle last r half n tail es ts le fits rows over =
      let whole : take half es ++ (take (n - half) (drop half es) ++ ts) ≡ take n es ++ ts = sym (append_assoc (take half es) (take (n - half) (drop half es)) ts) ∙ ap (λ xs. xs ++ ts) (take-halves half n es le) in
      subst (AreChainRows (form_at new) (Some r)) whole (over (take (n - half) (drop half es) ++ ts) rows)

  pub held-one : (h : Heap T) (x l : ℕ) → 0 < holds_at h x → count l (x ∷ []) ≤ holds_at h l
  held-one h x l some = elim (cases_eq x l) as (λ _. count l (x ∷ []) ≤ holds_at h l) [
    | inl same ↦ omega (arith, count-one l x, one_at-le x l, ap (holds_at h) same, some)
    | inr other ↦ omega (arith, count-one l x, one_at-other x l other)
  ]

  pub entry-or-rows : (F : Forms T) (l : ℕ) (xs : List (Entry T)) → 2 ≤ length xs → AreChainRows F (Some l) xs → IsEntryOrRows F l xs
  entry-or-rows F l [] two rows = absurd (omega arith)
  entry-or-rows F l (x ∷ []) two rows = absurd (omega arith)
  entry-or-rows F l (x ∷ y ∷ zs) two rows = rows

  pub rows-empty : (F : Forms T) → AreChainRows F None []
  unfolding AreChainRows
  rows-empty F = refl

  -- an entry that is read off a row, where it is the only one
  pub lone-entry : (old new : Heap T) (from x : ℕ) (next : Option ℕ) (es : List (Entry T)) → Extends old new → AreChainRows (form_at old) (Some from) es
      → form_at old from ≡ Some (node chain (x ∷ option_to_list next)) → IsEntryOrRows (form_at new) x (take 1 es)
  lone-entry old new from x next es more rows read =
      let at = first-row (form_at old) from es rows in
      subst (IsEntryOrRows (form_at new) x) (sym (take-one from (form_at old) es at))
      (row-entry (form_at old) from x at.first.link next at.next read at.row, key-kept (form_at old) (form_at new) (forms-kept old new more) at.first.link at.first.key at.key)

  -- a row without a next row has the only entry, and one with a next row doesn't
  pub lone-row : (F : Forms T) (from x : ℕ) (next : Option ℕ) (es : List (Entry T)) → AreChainRows F (Some from) es → F from ≡ Some (node chain (x ∷ option_to_list next)) → next ≡ None → take 1 es ≡ es
  lone-row F from x next es rows read none =
      let at = first-row F from es rows in
      let last : at.next ≡ None = row-next F from at.first.link x at.next next at.row read ∙ none in
      let rest : at.others ≡ [] = rows-none F at.others (subst (λ n. AreChainRows F n at.others) last at.rows) in
      let one : es ≡ at.first ∷ [] = at.whole ∙ ap (λ xs. at.first ∷ xs) rest in
      ap (take 1) one ∙ sym one

  pub more-rows : (F : Forms T) (from x n : ℕ) (next : Option ℕ) (es : List (Entry T)) → AreChainRows F (Some from) es → F from ≡ Some (node chain (x ∷ option_to_list next)) → next ≡ Some n → 2 ≤ length es
  more-rows F from x n next es rows read some =
      let at = first-row F from es rows in
      let on : at.next ≡ Some n = row-next F from at.first.link x at.next next at.row read ∙ some in
      let rest = first-row F n at.others (subst (λ m. AreChainRows F m at.others) on at.rows) in
      omega (arith, ap length at.whole, ap length rest.whole)

  pub chain-live : (h : Heap T) (l x : ℕ) (next : Option ℕ) → form_at h l ≡ Some (node chain (x ∷ option_to_list next)) → IsSome (row_at h l)
  chain-live h l x next read = form-live h l _ read

  pub rows-next : (F : Forms T) (i link : ℕ) (es : List (Entry T)) (next : Option ℕ) (at : FirstRow F link (drop i es)) → at.next ≡ next → AreChainRows F next (drop (i + 1) es)
  rows-next F i link es next at on = subst (AreChainRows F next) (sym (drop-next i es at.first at.others at.whole)) (subst (λ n. AreChainRows F n at.others) on at.rows)

  -- a row over another
  pub two-rows : (old mid new : Heap T) (x y last r : ℕ) (j k : T) → Extends old mid → Extends mid new → key_at (form_at old) x ≡ Some j → key_at (form_at old) y ≡ Some k
      → row_at mid last ≡ Some (node Chain (y ∷ [])) → row_at new r ≡ Some (node Chain (x ∷ last ∷ [])) → AreChainRows (form_at new) (Some r) (entry j x ∷ entry k y ∷ [])
  two-rows old mid new x y last r j k first second key_x key_y row_y row_x =
      let early = forms-kept old mid first in
      let late = forms-kept mid new second in
      let both = forms-kept old new (Extends-trans first second) in
      rows-over (form_at new) r (entry j x) (Some last) (entry k y ∷ []) (chain-form new r (x ∷ last ∷ []) row_x) (key-kept (form_at old) (form_at new) both x j key_x)
      (rows-kept (form_at mid) (form_at new) late (Some last) (entry k y ∷ [])
      (rows-over (form_at mid) last (entry k y) None [] (chain-form mid last (y ∷ []) row_y) (key-kept (form_at old) (form_at mid) early y k key_y) (rows-empty (form_at mid))))
