-- The walk along a chain to the place of a key.
use Rattle.std.proofs.Common.{◌≡◌, ℕ, ◌+◌, ◌<◌, List, [], ◌∷◌, ◌++◌, length, refl, ap, sym, subst, ◌∙◌, arith, Option, Some, None, IsSome, append_assoc, length-append}
use Rattle.std.specs.Prelude.{option_to_list}
use Rattle.std.specs.Cmp.{IsTotalOrder}
use Rattle.std.specs.declared.cmp.Ordering.{Ordering}
use Rattle.std.specs.declared.cmp.Ordering.TheVariants.{Less, Equal, Greater}
use Rattle.node_heap.specs.Forms.{Form, Forms, node, chain}
use Rattle.champ_chain.specs.Entry.{Entry, key_at}
use Rattle.champ_chain.specs.Chain.{AreChainRows, AreAbove, AreBelow, IsRising}
use Rattle.champ_chain.specs.KeySpot.{IsKeySpot}
use Rattle.champ_chain.proofs.RisingLemmas.{less_flip, above-less, above-same, below-push, rising-right}

list-inside : (m n : Option ℕ) → option_to_list m ≡ option_to_list n → m ≡ n
list-inside None None e = refl
list-inside None (Some n) e = absurd cc
list-inside (Some m) None e = absurd cc
list-inside (Some m) (Some n) e = (let same : m ≡ n = cc in ap Some same)

module _ {K : Type 0} where
  -- the first of some chain rows
  pub record FirstRow (F : Forms K) (link : ℕ) (es : List (Entry K)) : Type 0 where
    pub first : Entry K
    pub others : List (Entry K)
    pub whole : es ≡ first ∷ others
    pub next : Option ℕ
    pub row : F link ≡ Some (node chain (first.link ∷ option_to_list next))
    pub key : key_at F first.link ≡ Some first.key
    pub rows : AreChainRows F next others

  pub first-row : (F : Forms K) (link : ℕ) (es : List (Entry K)) → AreChainRows F (Some link) es → FirstRow F link es
  unfolding AreChainRows
  first-row F link [] rows = absurd cc
  first-row F link (e ∷ es) rows =
      let same : link ≡ rows.link = inside rows.here in
      record {
        first = e;
        others = es;
        whole = refl;
        next = rows.next;
        row = ap F same ∙ rows.row;
        key = rows.key;
        rows = rows.rest;
      }
    where
      inside : {a b : ℕ} → Some a ≡ Some b → a ≡ b
      inside e = cc

  pub rows-none : (F : Forms K) (es : List (Entry K)) → AreChainRows F None es → es ≡ []
  unfolding AreChainRows
  rows-none F [] rows = refl
  rows-none F (e ∷ es) rows = absurd (let no' : None ≡ Some rows.link = rows.here in cc)

  -- a row has one entry and one next row
  pub row-entry : (F : Forms K) (link x y : ℕ) (m n : Option ℕ) → F link ≡ Some (node chain (x ∷ option_to_list m)) → F link ≡ Some (node chain (y ∷ option_to_list n)) → x ≡ y
  row-entry F link x y m n a b = let e : Some (node chain (x ∷ option_to_list m)) ≡ Some (node chain (y ∷ option_to_list n)) = sym a ∙ b in inner x y (option_to_list m) (option_to_list n) e
    where
      inner : (x y : ℕ) (xs ys : List ℕ) → (let left : Option (Form K) = Some (node chain (x ∷ xs)) in left) ≡ Some (node chain (y ∷ ys)) → x ≡ y
      inner x y xs ys e = cc

  pub row-next : (F : Forms K) (link x y : ℕ) (m n : Option ℕ) → F link ≡ Some (node chain (x ∷ option_to_list m)) → F link ≡ Some (node chain (y ∷ option_to_list n)) → m ≡ n
  row-next F link x y m n a b = let e : Some (node chain (x ∷ option_to_list m)) ≡ Some (node chain (y ∷ option_to_list n)) = sym a ∙ b in list-inside m n (inner x y (option_to_list m) (option_to_list n) e)
    where
      inner : (x y : ℕ) (xs ys : List ℕ) → (let left : Option (Form K) = Some (node chain (x ∷ xs)) in left) ≡ Some (node chain (y ∷ ys)) → xs ≡ ys
      inner x y xs ys e = cc

  pub same-key : (F : Forms K) (x y : ℕ) (j k : K) → x ≡ y → key_at F x ≡ Some j → key_at F y ≡ Some k → j ≡ k
  same-key F x y j k same a b = let e : Some j ≡ Some k = sym a ∙ ap (key_at F) same ∙ b in cc

  -- the keys that were read are those of the entries
  pub same-order : (cmp : K → K → Ordering) (F : Forms K) (x y : ℕ) (a b j k : K) → key_at F x ≡ Some a → key_at F y ≡ Some b → key_at F x ≡ Some j → key_at F y ≡ Some k → cmp j k ≡ cmp a b
  same-order cmp F x y a b j k is_a is_b is_j is_k = ap (λ i. cmp i k) (same-key F x x j a refl is_j is_a) ∙ ap (cmp a) (same-key F y y k b refl is_k is_b)

  -- the entry that a chain row names has a key
  pub entry-keyed : (F : Forms K) (link x : ℕ) (next : Option ℕ) (es : List (Entry K)) → AreChainRows F (Some link) es → F link ≡ Some (node chain (x ∷ option_to_list next)) → IsSome (key_at F x)
  entry-keyed F link x next es rows row =
      let at = first-row F link es rows in
      subst (λ y. IsSome (key_at F y)) (row-entry F link at.first.link x at.next next at.row row) (subst IsSome (sym at.key) refl)

  module _ (cmp : K → K → Ordering) where
    -- so many rows are passed, with smaller keys, and these are left
    pub record IsPassed (F : Forms K) (key : K) (link before : ℕ) (es : List (Entry K)) : Type 0 where
      pub seen : List (Entry K)
      pub left : List (Entry K)
      pub whole : es ≡ seen ++ left
      pub number : length seen ≡ before
      pub smaller : AreBelow cmp key seen
      pub rows : AreChainRows F (Some link) left

    pub passed-none : (F : Forms K) (key : K) (link : ℕ) (es : List (Entry K)) → AreChainRows F (Some link) es → IsPassed F key link 0 es
    passed-none F key link es rows = record { seen = []; left = es; whole = refl; number = refl; smaller = tt; rows = rows }

  module _ (cmp : K → K → Ordering) (o : IsTotalOrder cmp) where
    module _ (F : Forms K) (key : K) (link before : ℕ) (es : List (Entry K)) (p : IsPassed cmp F key link before es) where
      at : FirstRow F link p.left
      at = first-row F link p.left p.rows

      -- no more rows are passed than the chain has
      pub passed-less : before < length es
      passed-less = omega (arith, ap length p.whole, length-append p.seen p.left, ap length at.whole, p.number)

      module _ (r : IsRising cmp es) (x : ℕ) (next : Option ℕ) (k : K) (row : F link ≡ Some (node chain (x ∷ option_to_list next))) (keyed : key_at F x ≡ Some k) where
        same_entry : at.first.link ≡ x
        same_entry = row-entry F link at.first.link x at.next next at.row row

        same_next : at.next ≡ next
        same_next = row-next F link at.first.link x at.next next at.row row

        order : (o : Ordering) → cmp key k ≡ o → cmp key at.first.key ≡ o
        order o is = ap (cmp key) (same-key F at.first.link x at.first.key k same_entry at.key keyed) ∙ is

        rising-left' : IsRising cmp (at.first ∷ at.others)
        rising-left' = subst (IsRising cmp) at.whole (rising-right cmp o p.seen p.left (subst (IsRising cmp) p.whole r))

        pub spot-less : cmp key k ≡ Less → IsKeySpot cmp F es key (record { before = before; found = None; rest = Some link })
        spot-less less = record {
          parts = record {
            smaller = p.seen;
            equal = None;
            greater = p.left;
            in_order = p.whole;
            are_smaller = p.smaller;
            is_equal = tt;
            are_greater = subst (AreAbove cmp key) (sym at.whole) (order Less less, above-less cmp o key at.first.key (order Less less) at.others rising-left'.0);
          };
          before = p.number;
          found = refl;
          rest = p.rows;
        }

        pub spot-equal : cmp key k ≡ Equal → IsKeySpot cmp F es key (record { before = before; found = Some x; rest = next })
        spot-equal equal = record {
          parts = record {
            smaller = p.seen;
            equal = Some at.first;
            greater = at.others;
            in_order = p.whole ∙ ap (λ xs. p.seen ++ xs) at.whole;
            are_smaller = p.smaller;
            is_equal = order Equal equal;
            are_greater = above-same cmp o key at.first.key (order Equal equal) at.others rising-left'.0;
          };
          before = p.number;
          found = ap Some same_entry;
          rest = subst (λ n. AreChainRows F n at.others) same_next at.rows;
        }

        more : es ≡ (p.seen ++ at.first ∷ []) ++ at.others
        more = p.whole ∙ ap (λ xs. p.seen ++ xs) at.whole ∙ sym (append_assoc p.seen (at.first ∷ []) at.others)

        longer : length (p.seen ++ at.first ∷ []) ≡ before + 1
        longer = omega (arith, length-append p.seen (at.first ∷ []), p.number)

        smaller_more : cmp key k ≡ Greater → AreBelow cmp key (p.seen ++ at.first ∷ [])
        smaller_more greater = below-push cmp o key p.seen at.first p.smaller (less_flip cmp o key at.first.key (order Greater greater))

        pub spot-greatest : cmp key k ≡ Greater → next ≡ None → IsKeySpot cmp F es key (record { before = before + 1; found = None; rest = None })
        unfolding AreChainRows
        spot-greatest greater last =
            let none : at.others ≡ [] = rows-none F at.others (subst (λ n. AreChainRows F n at.others) (same_next ∙ last) at.rows) in
            record {
              parts = record {
                smaller = p.seen ++ at.first ∷ [];
                equal = None;
                greater = [];
                in_order = more ∙ ap (λ xs. (p.seen ++ at.first ∷ []) ++ xs) none;
                are_smaller = smaller_more greater;
                is_equal = tt;
                are_greater = tt;
              };
              before = longer;
              found = refl;
              rest = refl;
            }

        pub passed-more : (after : ℕ) → cmp key k ≡ Greater → next ≡ Some after → IsPassed cmp F key after (before + 1) es
        passed-more after greater on = record {
          seen = p.seen ++ at.first ∷ [];
          left = at.others;
          whole = more;
          number = longer;
          smaller = smaller_more greater;
          rows = subst (λ n. AreChainRows F n at.others) (same_next ∙ on) at.rows;
        }
