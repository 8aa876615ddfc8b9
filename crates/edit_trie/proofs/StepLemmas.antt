-- One step of an edit down a trie: a row with another child at the position of a key, the paths through it, and the rows that came.
use Rattle.std.proofs.Common.{◌≡◌, ◌≢◌, ℕ, suc, ◌+◌, ◌<◌, ◌≤◌, ◌^◌, List, ◌∷◌, length, get_or, ap, sym, subst, ◌∙◌, arith, Option, Some, None, IsSome, option_map, inl, inr, [], set, refl, cond, true, false, not, Bool, zero, ◌*◌, take, min}
use Rattle.std.specs.declared.cmp.Ordering.{Ordering}
use Rattle.std.specs.Prelude.{nat_eq, ◌↔◌}
use Rattle.std.specs.List.{find}
use Rattle.std.specs.Cmp.{IsTotalOrder, tied_itself, Equal-is}
use Rattle.std.specs.declared.cmp.Ordering.TheVariants.{Equal}
use Rattle.std.proofs.lemmas.Bool.{cases_eq, eq-eqb}
use Rattle.std.proofs.lemmas.List.Filters.{length-filter_both}
use Rattle.std.proofs.lemmas.List.{take_all, get_or-take, length-take}
use Rattle.elem_core.specs.Codes.{digit_at, masked_code}
use Rattle.elem_core.specs.declared.codes.TheConstants.{CODE_BITS, DEEPEST}
use Rattle.node_heap.specs.Links.{count, HasLink, Reaches, SameBelow}
use Rattle.node_heap.specs.Forms.{links_in, form_of, Forms}
use Rattle.node_heap.specs.Heap.{Heap, row_at, form_at, links_at, owners_at, live_count, one_at, IsGraph}
use Rattle.node_heap.specs.InPlace.{child_at, Changes, other_at}
use Rattle.node_heap.specs.Owner.{written, KeepsAlone, alone}
use Rattle.node_heap.specs.Calls.{KeepsBelow, Gains}
use Rattle.node_heap.proofs.CallerLemmas.{count-cons, test_same, SameBelow-link, KeepsAlone-cons, KeepsAlone-own, written-cons, written-own, IsGraph-acyclic, KeepsAlone-none, alone-yes, alone-no, alone-own, Reaches-live, OwnsChild, own-beneath, own-child-there}
use Rattle.champ_chain.specs.Entry.{Entry, entry, has_key, link_with, others, IsEntry, put}
use Rattle.champ_chain.specs.Chain.{IsChain}
use Rattle.champ_chain.proofs.CallerLemmas.{links-form}
use Rattle.champ_trie.specs.Trie.{IsTrie, part, place_of, IsPlace, IsRow, AreSets, links_at_place, code_by}
use Rattle.champ_trie.specs.Reach.{alike_in}
use Rattle.champ_trie.specs.declared.place.Place.{Place}
use Rattle.champ_trie.specs.declared.place.Place.TheVariants.{Node, Entry as At, Empty}
use Rattle.champ_trie.proofs.CallerLemmas.{forms-below, IsDeeper, node-deeper, node-chain, deepest-alike, trie-moved, find-kept, Changes as TurnsTo, place-entry, place-node, place-empty, stands-at, same-place-of, place-linked, row-with, row-less, row-at}
use Rattle.champ_trie.specs.Bits.{rank}
use Rattle.edit_trie.specs.Path.{rows_from_place, KeepsShared, MakesCopies}
use Rattle.edit_trie.specs.Spot.{IsSpot, PutsAt}
use Rattle.edit_trie.specs.Walk.{EditsChild, CanEditBelow, MakesShared}
use Rattle.edit_trie.specs.declared.row.Spot.TheVariants.{Node as NodeAt, Entry as EntryAt, Empty as NoneAt}
use Rattle.edit_trie.proofs.ChildLemmas.{own-then}
use Rattle.edit_trie.proofs.PathLemmas.{Paths, path_of, path-at, rows_below, rows-first, rows-last, below-moved, down-first, down-below, stays-below}
use Rattle.edit_trie.proofs.RowLemmas.{row-form, row-links, row-child, row-keyless, keyed-row, keys-stay}
use Rattle.edit_trie.proofs.SpotLemmas.{StandsAt, beside-entry, beside-node, set-entry, set-node}

module _ {K : Type 0} (cmp : K → K → Ordering) where
  -- what is found in a list of one entry is that one
  pub find-only : (key : K) (e d : Entry K) → find (has_key cmp key) (e ∷ []) ≡ Some d → e ≡ d
  find-only key e d is = by_test (has_key cmp key e) is
    where
      by_test : (b : Bool) → cond b (Some e) None ≡ Some d → e ≡ d
      by_test true is = cc
      by_test false is = cc

  -- what is found has the key
  pub find-has : (key : K) (E : List (Entry K)) (d : Entry K) → find (has_key cmp key) E ≡ Some d → cmp key d.key ≡ Equal
  find-has key [] d is = cc
  find-has key (e ∷ es) d is = by_test (has_key cmp key e) refl (λ later. find-has key es d later) is
    where
      by_test : (b : Bool) → has_key cmp key e ≡ b → (find (has_key cmp key) es ≡ Some d → cmp key d.key ≡ Equal) → cond b (Some e) (find (has_key cmp key) es) ≡ Some d → cmp key d.key ≡ Equal
      by_test true test rest is = let same : e ≡ d = cc in subst (λ (x : Entry K). cmp key x.key ≡ Equal) same ((Equal-is (cmp key e.key)).0 test)
      by_test false test rest is = rest is

  -- an entry put in the place of the one with its key
  pub put-only : IsTotalOrder cmp → (k : K) (x y : ℕ) → put cmp (entry k x ∷ []) (entry k y) ≡ entry k y ∷ []
  put-only o k x y = ap (λ b. entry k y ∷ cond (not b) (entry k x ∷ []) []) ((Equal-is (cmp k k)).1 (tied_itself o k))

module _ {T : Type 0} (old new : Heap T) (row index : ℕ) {c n : ℕ} {spent gained : List ℕ} (edits : EditsChild row index old new spent gained c n)
    (d e m : ℕ) (ls : List ℕ) (is : IsRow (form_at old) row d e m ls) where
  links-are : links_at old row ≡ ls
  links-are = row-links old row d e m ls is

  -- the row with its new child
  pub row-set : AreSets e m (set ls index (child_at new row index)) → IsRow (form_at new) row d e m (set ls index (child_at new row index))
  row-set sets = record {
    row = row-form (row_at new row) (row_at old row) _ ls (set ls index (child_at new row index)) edits.head (edits.links ∙ ap (λ ks. set ks index (child_at new row index)) links-are) is.row;
    sets = sets;
  }

  -- what stands elsewhere stays
  pub beside-stays : (q s : ℕ) → StandsAt e m ls index q s → SameBelow (links_in (form_at old)) (form_at old) (form_at new) s
  beside-stays q s at =
      let there : child_at old row at.at ≡ s = ap (λ ks. get_or ks at.at 0) links-are ∙ at.is in
      forms-below old new s (subst (KeepsBelow old new) there (edits.beside at.at (omega (arith, at.within, ap length links-are)) at.apart))

-- a row of a trie that is edited at the digit of a key's code, by its sets and links
pub record AtRow {T : Type 0} (cmp : T → T → Ordering) (code : T → ℕ) (old : Heap T) (left d row c : ℕ) (E : List (Entry T)) (key : T) : Type 0 where
  pub equal_codes : (j k : T) → cmp j k ≡ Equal → code j ≡ code k
  pub is_code : c ≡ code key
  pub can : CanEditBelow cmp code old left d row c E
  pub entries : ℕ
  pub nodes : ℕ
  pub links : List ℕ
  pub is : IsRow (form_at old) row d entries nodes links

-- what is put at a position after something else was
pub puts-then : {T : Type 0} {F G : Forms T} {row d e n p : ℕ} {ls : List ℕ} {place place' : Place} (first : PutsAt F row d e n ls p place) → PutsAt G row d first.entries first.nodes first.links p place' → PutsAt G row d e n ls p place'
puts-then first second = record {
  entries = second.entries;
  nodes = second.nodes;
  links = second.links;
  row_is = second.row_is;
  puts = second.puts;
  others = λ q low off. second.others q low off ∙ first.others q low off;
}

-- by masked codes
pub at-row : {T : Type 0} (cmp : T → T → Ordering) (code_of : T → ℕ) (bits : ℕ) → ((j k : T) → cmp j k ≡ Equal → code_of j ≡ code_of k) → {old : Heap T} {left d row c : ℕ} {E : List (Entry T)} {key : T} → c ≡ code_by code_of bits key
    → CanEditBelow cmp (code_by code_of bits) old left d row c E → AtRow cmp (code_by code_of bits) old left d row c E key
at-row cmp code_of bits equal {old} {left} {d} {row} {c} {E} is_code can =
    let at = row-at cmp (code_by code_of bits) (form_at old) left d row E can.below.trie in
    record { equal_codes = λ j k same. ap (λ n. masked_code n bits) (equal j k same); is_code = is_code; can = can; entries = at.0; nodes = at.1; links = at.2; is = at.3 }

module _ {T : Type 0} {cmp : T → T → Ordering} {code : T → ℕ} {old : Heap T} {left d row c : ℕ} {E : List (Entry T)} {key : T} (a : AtRow cmp code old left d row c E key) where
  pub digit-small : digit_at c d < 32
  digit-small = omega arith

  pub digit : digit_at (code key) d ≡ digit_at c d
  digit = ap (λ m. digit_at m d) (sym a.is_code)

  -- no more entries have the digit than there are, and what is found by the key is among them
  pub part-short : length (part cmp code d (digit_at c d) E) ≤ length E
  part-short =
      omega (arith, length-filter_both (λ (z : Entry T). nat_eq (digit_at (code z.key) d) (digit_at c d)) (λ (z : Entry T). not (nat_eq (digit_at (code z.key) d) (digit_at c d))) (λ _. refl) E)

  pub part-find : find (has_key cmp key) (part cmp code d (digit_at c d) E) ≡ find (has_key cmp key) E
  part-find =
      find-kept (has_key cmp key) (λ y. nat_eq (digit_at (code y.key) d) (digit_at c d))
      (λ y test. eq-eqb (digit_at (code y.key) d) (digit_at c d) (ap (λ m. digit_at m d) (sym (a.equal_codes key y.key ((Equal-is (cmp key y.key)).0 test)) ∙ sym a.is_code))) E

  pub part-link : link_with cmp key (part cmp code d (digit_at c d) E) ≡ link_with cmp key E
  part-link = ap (option_map (λ (z : Entry T). z.link)) part-find

  -- what stands at the digit
  pub place-is : (place : Place) → place_of a.entries a.nodes a.links (digit_at c d) ≡ place → (depth e n : ℕ) (ls : List ℕ) → IsRow (form_at old) row depth e n ls → place ≡ place_of e n ls (digit_at c d)
  place-is place at depth e n ls was = sym at ∙ same-place-of (form_at old) row d a.entries a.nodes a.links depth e n ls (digit_at c d) a.is was

  pub stands : (place : Place) → place_of a.entries a.nodes a.links (digit_at c d) ≡ place → IsPlace (form_at old) (λ k P. IsTrie cmp code (form_at old) left (d + 1) k P) place (part cmp code d (digit_at c d) E)
  stands place at = stands-at cmp code (form_at old) left d row (digit_at c d) E place a.can.below.trie (place-is place at) digit-small

  pub at-none : IsSpot a.entries a.nodes (digit_at c d) NoneAt → place_of a.entries a.nodes a.links (digit_at c d) ≡ Empty
  at-none spot = place-empty a.entries a.nodes a.links (digit_at c d) spot.0 spot.1

  pub at-entry : (i : ℕ) → IsSpot a.entries a.nodes (digit_at c d) (EntryAt i) → place_of a.entries a.nodes a.links (digit_at c d) ≡ At (child_at old row i)
  at-entry i spot = place-entry a.entries a.nodes a.links (digit_at c d) spot.0 ∙ ap At (ap (λ j. get_or a.links j 0) (sym spot.1) ∙ sym (row-child old row d a.entries a.nodes a.links a.is i))

  pub at-node : (i : ℕ) → IsSpot a.entries a.nodes (digit_at c d) (NodeAt i) → place_of a.entries a.nodes a.links (digit_at c d) ≡ Node (child_at old row i)
  at-node i spot = place-node a.entries a.nodes a.links (digit_at c d) spot.0 spot.1 ∙ ap Node (ap (λ j. get_or a.links j 0) (sym spot.2) ∙ sym (row-child old row d a.entries a.nodes a.links a.is i))

  -- something stands where the key is
  pub not-none : link_with cmp key E ≢ None → IsSpot a.entries a.nodes (digit_at c d) NoneAt → ⊥
  not-none there spot = there (sym part-link ∙ ap (link_with cmp key) (stands Empty (at-none spot)))

  -- where no other row that was there is written, what stands elsewhere stays, and each entry
  pub elsewhere : (new : Heap T) → ((k : ℕ) → k ≢ row → IsSome (row_at old k) → row_at new k ≡ row_at old k)
      → (q : ℕ) → q < 32 → q ≢ digit_at c d → (s : ℕ) → links_at_place (place_of a.entries a.nodes a.links q) ≡ s ∷ [] → SameBelow (links_in (form_at old)) (form_at old) (form_at new) s
  elsewhere new others q small away s one =
      let has : HasLink (links_at old) row s = omega (arith, place-linked (form_at old) row d a.entries a.nodes q s a.links a.is small one, ap (count s) (links-form old row)) in
      forms-below old new s (λ k way. others k (λ at. IsGraph-acyclic old a.can.graph row s has (subst (Reaches (links_at old) s) at way)) (Reaches-live old a.can.graph s k way (a.can.graph.closed row s has)))

  pub entry-row : (new : Heap T) → ((k : ℕ) → k ≢ row → IsSome (row_at old k) → row_at new k ≡ row_at old k) → (x : Entry T) → IsEntry (form_at old) x → row_at new x.link ≡ row_at old x.link
  entry-row new others x keyed = keyed-row old new row (row-keyless (form_at old) row d a.entries a.nodes a.links a.is) others x.link x.key keyed

  pub entry-stays : (new : Heap T) → ((k : ℕ) → k ≢ row → IsSome (row_at old k) → row_at new k ≡ row_at old k) → (x : Entry T) → IsEntry (form_at old) x → IsEntry (form_at new) x
  entry-stays new others x keyed = keys-stay old new row (row-keyless (form_at old) row d a.entries a.nodes a.links a.is) others x.link x.key keyed

  -- the row with what stands at the digit now
  module _ (new : Heap T) (place : Place) (puts : PutsAt (form_at new) row d a.entries a.nodes a.links (digit_at c d) place)
      (same : (q : ℕ) → q < 32 → q ≢ digit_at c d → (s : ℕ) → links_at_place (place_of a.entries a.nodes a.links q) ≡ s ∷ [] → SameBelow (links_in (form_at old)) (form_at old) (form_at new) s) where
    pub trie-with : (x : Entry T) → digit_at (code x.key) d ≡ digit_at c d → IsPlace (form_at new) (λ k P. IsTrie cmp code (form_at new) left (d + 1) k P) place (put cmp (part cmp code d (digit_at c d) E) x) → IsTrie cmp code (form_at new) (suc left) d row (put cmp E x)
    trie-with x digit here =
        row-with cmp code (form_at old) (form_at new) left d (digit_at c d) row row a.entries a.nodes a.links puts.entries puts.nodes puts.links E x a.equal_codes digit a.can.below.trie a.is puts.row_is puts.others same
        (subst (λ at. IsPlace (form_at new) (λ k P. IsTrie cmp code (form_at new) left (d + 1) k P) at (put cmp (part cmp code d (digit_at c d) E) x)) (sym puts.puts) here)

    pub trie-less : IsPlace (form_at new) (λ k P. IsTrie cmp code (form_at new) left (d + 1) k P) place (others cmp key (part cmp code d (digit_at c d) E)) → IsTrie cmp code (form_at new) (suc left) d row (others cmp key E)
    trie-less here =
        row-less cmp code (form_at old) (form_at new) left d c row row a.entries a.nodes a.links puts.entries puts.nodes puts.links E key a.equal_codes a.is_code a.can.below.trie a.is puts.row_is puts.others same
        (subst (λ at. IsPlace (form_at new) (λ k P. IsTrie cmp code (form_at new) left (d + 1) k P) at (others cmp key (part cmp code d (digit_at c d) E))) (sym puts.puts) here)

  -- a child of the row was edited
  module _ (new : Heap T) (i : ℕ) {spent gained : List ℕ} {m n : ℕ} (edits : EditsChild row i old new spent gained m n) where
    child-puts : (j : ℕ) (place : Place) → i ≡ j → TurnsTo a.entries a.nodes a.links a.entries a.nodes (set a.links j (child_at new row i)) (digit_at c d) place → PutsAt (form_at new) row d a.entries a.nodes a.links (digit_at c d) place
    child-puts j place at to = record {
      entries = a.entries;
      nodes = a.nodes;
      links = set a.links j (child_at new row i);
      row_is = subst (λ q. IsRow (form_at new) row d a.entries a.nodes (set a.links q (child_at new row i))) at (row-set old new row i edits d a.entries a.nodes a.links a.is (subst (λ q. AreSets a.entries a.nodes (set a.links q (child_at new row i))) (sym at) to.sets));
      puts = to.here;
      others = to.others;
    }

    module _ (spot : IsSpot a.entries a.nodes (digit_at c d) (EntryAt i)) where
      pub entry-puts : PutsAt (form_at new) row d a.entries a.nodes a.links (digit_at c d) (At (child_at new row i))
      entry-puts = child-puts (rank a.entries (digit_at c d)) (At (child_at new row i)) spot.1 (set-entry a.entries a.nodes a.links a.is.sets (digit_at c d) digit-small (child_at new row i) spot.0)

      pub entry-beside : (q : ℕ) → q < 32 → q ≢ digit_at c d → (s : ℕ) → links_at_place (place_of a.entries a.nodes a.links q) ≡ s ∷ [] → SameBelow (links_in (form_at old)) (form_at old) (form_at new) s
      entry-beside q small other s one =
          beside-stays old new row i edits d a.entries a.nodes a.links a.is q s (subst (λ j. StandsAt a.entries a.nodes a.links j q s) (sym spot.1) (beside-entry a.entries a.nodes a.links a.is.sets (digit_at c d) digit-small spot.0 q s small other one))

    module _ (spot : IsSpot a.entries a.nodes (digit_at c d) (NodeAt i)) where
      pub node-puts : PutsAt (form_at new) row d a.entries a.nodes a.links (digit_at c d) (Node (child_at new row i))
      node-puts = child-puts (rank a.entries 32 + rank a.nodes (digit_at c d)) (Node (child_at new row i)) spot.2 (set-node a.entries a.nodes a.links a.is.sets (digit_at c d) digit-small (child_at new row i) spot.0 spot.1)

      pub node-beside : (q : ℕ) → q < 32 → q ≢ digit_at c d → (s : ℕ) → links_at_place (place_of a.entries a.nodes a.links q) ≡ s ∷ [] → SameBelow (links_in (form_at old)) (form_at old) (form_at new) s
      node-beside q small other s one =
          beside-stays old new row i edits d a.entries a.nodes a.links a.is q s (subst (λ j. StandsAt a.entries a.nodes a.links j q s) (sym spot.2) (beside-node a.entries a.nodes a.links a.is.sets (digit_at c d) digit-small spot.0 spot.1 q s small other one))

take-none : (n : ℕ) → take {A = ℕ} n [] ≡ []
take-none zero = refl
take-none (suc n) = refl

-- the beginning of a path that goes on at a link does so too
next-taken : (n : ℕ) (rest : List ℕ) (P : ℕ → Type 0) → (1 ≤ length rest → P (get_or rest 0 0)) → 1 ≤ length (take n rest) → P (get_or (take n rest) 0 0)
next-taken n rest P next some =
    let fewer : length (take n rest) ≡ min n (length rest) = length-take n rest in
    subst P (sym (get_or-take n rest 0 0 (omega (arith, some, fewer)))) (next (omega (arith, some, fewer)))

module _ {T : Type 0} where
  -- paths of one length
  pub shared-same : {h : Heap T} {path path' : List ℕ} → KeepsAlone h path path' → KeepsShared h path path'
  shared-same {h} {path} {path'} keep =
      let size : length path' ≡ length path = keep.places in
      rw (take_all (length path') path (omega (arith, size)), take_all (length path) path' (omega (arith, size))) keep

  -- a path that goes on after one row
  pub shared-one : (h : Heap T) (x : ℕ) (rest : List ℕ) → owners_at h x ≡ 1 → KeepsShared h (x ∷ []) (x ∷ rest)
  shared-one h x rest one = rw (take-none (length rest)) (KeepsAlone-cons h x [] [] one (KeepsAlone-none h))

  -- a row with one owner before paths
  pub shared-cons : (h : Heap T) (x : ℕ) (path path' : List ℕ) → owners_at h x ≡ 1 → KeepsShared h path path' → KeepsShared h (x ∷ path) (x ∷ path')
  shared-cons h x path path' one keep = KeepsAlone-cons h x (take (length path') path) (take (length path) path') one keep

  -- a path that ends at its first row, where nothing came
  pub shared-last : (h : Heap T) (x : ℕ) (rest : List ℕ) → owners_at h x ≡ 1 → KeepsShared h (x ∷ rest) (x ∷ [])
  shared-last h x rest one = rw (take-none (length rest)) (KeepsAlone-cons h x [] [] one (KeepsAlone-none h))

  pub made-last : (old new : Heap T) (x : ℕ) (rest : List ℕ) {spent gained : List ℕ} → owners_at old x ≡ 1 → Gains old new → Changes x old new spent gained 0 0 → MakesShared old new (x ∷ rest) (x ∷ [])
  made-last old new x rest one gain change = omega (arith, alone-yes old x [] one, gain.makes.live, gain.makes.cells, gain.makes.nodes, change.trades.cells, change.trades.nodes)

  -- the alone rows of the first so many of a path
  pub alone-first : (h : Heap T) (n : ℕ) (xs : List ℕ) → alone h (take n xs) ≡ min n (alone h xs)
  alone-first h zero [] = omega arith
  alone-first h zero (x ∷ xs) = omega arith
  alone-first h (suc n) [] = omega arith
  alone-first h (suc n) (x ∷ xs) = elim (cases_eq (owners_at h x) 1) as (λ _. alone h (x ∷ take n xs) ≡ min (suc n) (alone h (x ∷ xs))) [
    | inl one ↦ omega (arith, alone-first h n xs, alone-yes h x (take n xs) one, alone-yes h x xs one)
    | inr more ↦ omega (arith, alone-no h x (take n xs) more, alone-no h x xs more)
  ]

  -- a row with one owner before the path
  pub copies-cons : (old new : Heap T) (x : ℕ) (path : List ℕ) → owners_at old x ≡ 1 → MakesCopies old new path → MakesCopies old new (x ∷ path)
  copies-cons old new x path one came = omega (arith, came, alone-yes old x path one)

  pub made-cons : (old new : Heap T) (x : ℕ) (path path' : List ℕ) → owners_at old x ≡ 1 → MakesShared old new path path' → MakesShared old new (x ∷ path) (x ∷ path')
  made-cons old new x path path' one came = omega (arith, came, alone-yes old x (take (length path') path) one)

  -- the first row of a path was made one's own, and the next one is a link of it
  module _ (old mid : Heap T) (x c : ℕ) (same : (c ≡ x) ↔ (owners_at old x ≡ 1)) (sole : owners_at mid c ≡ 1) (owners : (k : ℕ) → owners_at mid k + one_at x k ≡ owners_at old k + (one_at c k + other_at x c * count k (links_at old x)))
      (graph : IsGraph old) (rest : List ℕ) (next : 1 ≤ length rest → HasLink (links_at old) x (get_or rest 0 0)) where
    pub shared-own : (path' : List ℕ) → KeepsShared mid (c ∷ rest) path' → KeepsShared old (x ∷ rest) path'
    shared-own [] keep = KeepsAlone-none old
    shared-own (z ∷ zs) keep = KeepsAlone-own old mid x c (take (length zs) rest) same sole owners graph (next-taken (length zs) rest (HasLink (links_at old) x) next) (z ∷ take (length rest) zs) keep

    module _ (new : Heap T) (grew : live_count mid ≡ live_count old + other_at x c) where
      -- so the copy counts beside what came from there on
      pub copies-own : MakesCopies mid new (c ∷ rest) → MakesCopies old new (x ∷ rest)
      copies-own came = omega (arith, came, grew, alone-own old mid x c rest same sole owners graph next)

      pub made-own : (z : ℕ) (zs : List ℕ) → MakesShared mid new (c ∷ rest) (z ∷ zs) → MakesShared old new (x ∷ rest) (z ∷ zs)
      made-own z zs came = omega (arith, came, grew, alone-own old mid x c (take (length zs) rest) same sole owners graph (next-taken (length zs) rest (HasLink (links_at old) x) next))

-- what is there isn't nothing
pub none-live : {X : Type 0} (r : Option X) → r ≡ None → IsSome r → ⊥
none-live None is live = absurd cc
none-live (Some x) is live = absurd cc

-- a row that was there and isn't written, where the first row of the path has one owner
pub off-first : {T : Type 0} (h : Heap T) (x m : ℕ) (path : List ℕ) → owners_at h x ≡ 1 → count m (written h (x ∷ path)) ≡ 0 → (m ≢ x) × (count m (written h path) ≡ 0)
off-first h x m path one off =
    let both : count m (x ∷ written h path) ≡ 0 = subst (λ ks. count m ks ≡ 0) (written-cons h x path one) off in
    (λ same. absurd (omega (arith, both, count-cons m x (written h path), test_same x m (sym same))), omega (arith, both, count-cons m x (written h path)))

-- and isn't the row that a child is after it was made its parent's own
pub apart-owned : {T : Type 0} (old mid : Heap T) (row i k : ℕ) → OwnsChild old mid row i k → (m : ℕ) (tail : List ℕ) → IsSome (row_at old m) → count m (written old (child_at old row i ∷ tail)) ≡ 0 → m ≢ k
apart-owned old mid row i k own m tail live off = elim (cases_eq k (child_at old row i)) as (λ _. m ≢ k) [
  | inl itself ↦ λ same. (off-first old (child_at old row i) m tail (own.same.0 itself) off).0 (same ∙ itself)
  | inr copy ↦ λ same. none-live (row_at old m) (ap (row_at old) same ∙ own.fresh copy) live
]

module _ {T : Type 0} {cmp : T → T → Ordering} {code : T → ℕ} {old : Heap T} {left d row c : ℕ} {E : List (Entry T)} {key : T} (a : AtRow cmp code old left d row c E key) where
  -- a path by what stands at the digit, and by what does after the edit
  pub path-was : (p : Paths cmp code) (most : ℕ) (place : Place) → place_of a.entries a.nodes a.links (digit_at c d) ≡ place
      → path_of p (form_at old) most (suc left) d c row ≡ row ∷ rows_from_place (p.entry (form_at old)) (λ k. path_of p (form_at old) most left (suc d) c k) place
  path-was p most place at = path-at p (form_at old) most left d c row a.entries a.nodes a.links a.is place at

  pub path-now : (p : Paths cmp code) (new : Heap T) (most : ℕ) (place : Place) → PutsAt (form_at new) row d a.entries a.nodes a.links (digit_at c d) place
      → path_of p (form_at new) most (suc left) d c row ≡ row ∷ rows_from_place (p.entry (form_at new)) (λ k. path_of p (form_at new) most left (suc d) c k) place
  path-now p new most place puts = path-at p (form_at new) most left d c row puts.entries puts.nodes puts.links puts.row_is place puts.puts

  -- what isn't written isn't the row
  pub off-row : {path rest : List ℕ} (m : ℕ) → path ≡ row ∷ rest → count m (written old path) ≡ 0 → (m ≢ row) × (count m (written old rest) ≡ 0)
  off-row {path} {rest} m is off = off-first old row m rest a.can.sole (subst (λ ks. count m (written old ks) ≡ 0) is off)

  -- a chain stands there
  pub record MeetsChain (i : ℕ) : Type 0 where
    pub spot : IsSpot a.entries a.nodes (digit_at c d) (NodeAt i)
    pub last : left ≡ 0
    pub chain : IsChain cmp (form_at old) (child_at old row i) (part cmp code d (digit_at c d) E)
    pub alike : length (part cmp code d (digit_at c d) E) ≡ alike_in code c E

  pub meets-chain : (i : ℕ) → IsSpot a.entries a.nodes (digit_at c d) (NodeAt i) → d ≡ DEEPEST → ((k : T) → code k < 2 ^ CODE_BITS) → MeetsChain i
  meets-chain i spot deepest small =
      let at = node-chain cmp code (form_at old) left d row c E a.can.below (digit-small a) (child_at old row i) (place-is a (Node (child_at old row i)) (at-node a i spot)) (omega (arith, deepest)) in
      record { spot = spot; last = at.0; chain = at.1; alike = deepest-alike cmp code d c E deepest (omega (arith, small key, a.is_code)) small a.can.below.agrees }

  module _ {i : ℕ} (s : MeetsChain i) (p : Paths cmp code) where
    last-rows : (h : Heap T) (most k : ℕ) → row ∷ path_of p (form_at h) most left (suc d) c k ≡ row ∷ p.chain (form_at h) most k
    last-rows h most k = ap (λ m. row ∷ path_of p (form_at h) most m (suc d) c k) s.last ∙ ap (λ ks. row ∷ ks) (rows-last (p.entry (form_at h)) (p.chain (form_at h) most) (form_at h) (suc d) c k)

    pub chain-was : (most : ℕ) → path_of p (form_at old) most (suc left) d c row ≡ row ∷ p.chain (form_at old) most (child_at old row i)
    chain-was most = path-was p most (Node (child_at old row i)) (at-node a i s.spot) ∙ last-rows old most (child_at old row i)

    pub chain-now : (new : Heap T) {spent gained : List ℕ} {m n : ℕ} → EditsChild row i old new spent gained m n → (most : ℕ) → path_of p (form_at new) most (suc left) d c row ≡ row ∷ p.chain (form_at new) most (child_at new row i)
    chain-now new edits most = path-now p new most (Node (child_at new row i)) (node-puts a new i edits s.spot) ∙ last-rows new most (child_at new row i)

  -- a row of the next depth stands there, and was made the row's own
  pub record OwnsNext (mid : Heap T) (i k : ℕ) : Type 0 where
    pub spot : IsSpot a.entries a.nodes (digit_at c d) (NodeAt i)
    pub deeper : IsDeeper cmp code (form_at old) d (child_at old row i) c left (part cmp code d (digit_at c d) E)
    pub own : OwnsChild old mid row i k

  pub goes-deeper : (i : ℕ) → IsSpot a.entries a.nodes (digit_at c d) (NodeAt i) → d < DEEPEST → IsDeeper cmp code (form_at old) d (child_at old row i) c left (part cmp code d (digit_at c d) E)
  goes-deeper i spot less = node-deeper cmp code (form_at old) left d row c E a.can.below (digit-small a) (child_at old row i) (place-is a (Node (child_at old row i)) (at-node a i spot)) less

  pub owns-next : {mid : Heap T} {i k : ℕ} → IsSpot a.entries a.nodes (digit_at c d) (NodeAt i) → d < DEEPEST → OwnsChild old mid row i k → OwnsNext mid i k
  owns-next {i = i} spot less own = record { spot = spot; deeper = goes-deeper i spot less; own = own }

  module _ {mid : Heap T} {i k : ℕ} (s : OwnsNext mid i k) where
    abbrev j : ℕ
    j = child_at old row i

    abbrev m : ℕ
    m = s.deeper.m

    abbrev P : List (Entry T)
    P = part cmp code d (digit_at c d) E

    -- the child can be edited
    pub can-below : CanEditBelow cmp code mid s.deeper.m (d + 1) k c (part cmp code d (digit_at c d) E)
    can-below = record {
      graph = s.own.changes.trades.graph;
      sole = s.own.sole;
      below = record {
        levels = s.deeper.below.levels;
        trie = trie-moved cmp code (form_at old) (form_at mid) m (d + 1) j k P (ap (option_map form_of) s.own.row)
            (λ q has. SameBelow-link (links_in (form_at old)) (form_at old) (form_at mid) j q has (forms-below old mid j (own-beneath old mid row i k a.can.graph s.own))) s.deeper.below.trie;
        distinct = s.deeper.below.distinct;
        agrees = s.deeper.below.agrees;
      };
    }

    deep : suc d ≡ d + 1
    deep = omega arith

    down-rows : (p : Paths cmp code) (h : Heap T) (most q : ℕ) → row ∷ path_of p (form_at h) most left (suc d) c q ≡ row ∷ path_of p (form_at h) most (suc s.deeper.m) (d + 1) c q
    down-rows p h most q = ap (λ y. row ∷ path_of p (form_at h) most left y c q) deep ∙ ap (λ n. row ∷ path_of p (form_at h) most n (d + 1) c q) s.deeper.is

    module _ (p : Paths cmp code) (most : ℕ) where
      abbrev pub tail : List ℕ
      tail = rows_below (p.entry (form_at old)) (p.chain (form_at old) most) (form_at old) m (d + 1) c j

      pub down-was : path_of p (form_at old) most (suc left) d c row ≡ row ∷ child_at old row i ∷ rows_below (p.entry (form_at old)) (p.chain (form_at old) most) (form_at old) s.deeper.m (d + 1) c (child_at old row i)
      down-was = path-was p most (Node j) (at-node a i s.spot) ∙ down-rows p old most j ∙ ap (λ ks. row ∷ ks) (rows-first (p.entry (form_at old)) (p.chain (form_at old) most) (form_at old) m (d + 1) c j)

      pub down-mid : path_of p (form_at mid) most (suc s.deeper.m) (d + 1) c k ≡ k ∷ rows_below (p.entry (form_at old)) (p.chain (form_at old) most) (form_at old) s.deeper.m (d + 1) c (child_at old row i)
      down-mid =
          let F = form_at old in
          let G = form_at mid in
          rows-first (p.entry G) (p.chain G most) G m (d + 1) c k
          ∙ ap (λ ks. k ∷ ks) (below-moved cmp code F G (stays-below F G) (p.entry F) (p.chain F most) (p.entry G) (p.chain G most) (p.says F G _ (stays-below F G) most) m (d + 1) c j k P (ap (option_map form_of) s.own.row)
          (λ q has. SameBelow-link (links_in F) F G j q has (forms-below old mid j (own-beneath old mid row i k a.can.graph s.own))) s.deeper.below.trie)

      -- the child leads to the next row of the path
      pub down-next : 1 ≤ length (rows_below (p.entry (form_at old)) (p.chain (form_at old) most) (form_at old) s.deeper.m (d + 1) c (child_at old row i))
          → HasLink (links_at old) (child_at old row i) (get_or (rows_below (p.entry (form_at old)) (p.chain (form_at old) most) (form_at old) s.deeper.m (d + 1) c (child_at old row i)) 0 0)
      down-next some = down-first old j tail (down-below old cmp code (p.entry (form_at old)) (p.chain (form_at old) most) (p.goes old most) m (d + 1) c j P s.deeper.below.trie) some

      -- what the path doesn't write stays, and isn't written from the child on
      pub down-off : (q : ℕ) → IsSome (row_at old q) → count q (written old (path_of p (form_at old) most (suc left) d c row)) ≡ 0
          → (row_at mid q ≡ row_at old q) × IsSome (row_at mid q) × (count q (written mid (path_of p (form_at mid) most (suc s.deeper.m) (d + 1) c k)) ≡ 0)
      down-off q live off =
          let first = off-row q down-was off in
          let fresh : k ≢ j → q ≢ k = λ copy same. none-live (row_at old q) (ap (row_at old) same ∙ s.own.fresh copy) live in
          let stays = s.own.stays q first.0 live in (
            stays,
            subst IsSome (sym stays) live,
            subst (λ ks. count q (written mid ks) ≡ 0) (sym down-mid) (written-own old mid j k tail s.own.same s.own.sole s.own.owners a.can.graph down-next q fresh first.1),
          )

      -- as many rows came as the path has that aren't alone
      pub down-copies : (new : Heap T) → MakesCopies mid new (path_of p (form_at mid) most (suc s.deeper.m) (d + 1) c k) → MakesCopies old new (path_of p (form_at old) most (suc left) d c row)
      down-copies new came =
          subst (MakesCopies old new) (sym down-was)
          (copies-cons old new row (j ∷ tail) a.can.sole (copies-own old mid j k s.own.same s.own.sole s.own.owners a.can.graph tail down-next new (omega (arith, s.own.makes.live)) (subst (MakesCopies mid new) down-mid came)))

    -- the child was edited then
    module _ (new : Heap T) {spent gained : List ℕ} {x n : ℕ} (did : Changes k mid new spent gained x n) (unspent : (u : ℕ) → Reaches (links_at mid) u row → count u spent ≡ 0) where
      pub down-edits : EditsChild row i old new spent gained (0 + x) (1 + n)
      down-edits = own-then old mid new row i k a.can.graph s.own spent gained did unspent

      there : child_at new row i ≡ k
      there = own-child-there old mid new row i k a.can.graph s.own spent gained did unspent

      pub down-trie : (Q : List (Entry T)) → IsTrie cmp code (form_at new) (suc s.deeper.m) (d + 1) k Q → IsTrie cmp code (form_at new) left (d + 1) (child_at new row i) Q
      down-trie Q trie = subst (λ y. IsTrie cmp code (form_at new) left (d + 1) y Q) (sym there) (subst (λ q. IsTrie cmp code (form_at new) q (d + 1) k Q) (sym s.deeper.is) trie)

      module _ (p : Paths cmp code) where
        pub down-now : (more : ℕ) → path_of p (form_at new) more (suc left) d c row ≡ row ∷ path_of p (form_at new) more (suc s.deeper.m) (d + 1) c k
        down-now more = path-now p new more (Node (child_at new row i)) (node-puts a new i down-edits s.spot) ∙ down-rows p new more (child_at new row i) ∙ ap (λ q. row ∷ path_of p (form_at new) more (suc m) (d + 1) c q) there

        -- what keeps the path from the child on keeps the whole
        module _ (most more : ℕ) where
          abbrev pub old_path : List ℕ
          old_path = path_of p (form_at old) most (suc left) d c row

          abbrev pub mid_path : List ℕ
          mid_path = path_of p (form_at mid) most (suc s.deeper.m) (d + 1) c k

          abbrev pub new_path : List ℕ
          new_path = path_of p (form_at new) more (suc s.deeper.m) (d + 1) c k

          pub down-keeps : KeepsAlone mid mid_path new_path → KeepsAlone old old_path (path_of p (form_at new) more (suc left) d c row)
          down-keeps keep =
              rw (down-was p most, down-now more)
              (KeepsAlone-cons old row (j ∷ tail p most) new_path a.can.sole (KeepsAlone-own old mid j k (tail p most) s.own.same s.own.sole s.own.owners a.can.graph (down-next p most) new_path (rw (down-mid p most) at keep)))

          pub down-shared : KeepsShared mid mid_path new_path → KeepsShared old old_path (path_of p (form_at new) more (suc left) d c row)
          down-shared keep =
              rw (down-was p most, down-now more)
              (shared-cons old row (j ∷ tail p most) new_path a.can.sole (shared-own old mid j k s.own.same s.own.sole s.own.owners a.can.graph (tail p most) (down-next p most) new_path (rw (down-mid p most) at keep)))

          pub down-made : MakesShared mid new mid_path new_path → MakesShared old new old_path (path_of p (form_at new) more (suc left) d c row)
          down-made came =
              let zs = rows_below (p.entry (form_at new)) (p.chain (form_at new) more) (form_at new) m (d + 1) c k in
              let first : new_path ≡ k ∷ zs = rows-first (p.entry (form_at new)) (p.chain (form_at new) more) (form_at new) m (d + 1) c k in
              let below = made-own old mid j k s.own.same s.own.sole s.own.owners a.can.graph (tail p most) (down-next p most) new (omega (arith, s.own.makes.live)) k zs (subst (MakesShared mid new (k ∷ tail p most)) first (subst (λ ks. MakesShared mid new ks new_path) (down-mid p most) came)) in
              let all : MakesShared old new (row ∷ j ∷ tail p most) (row ∷ new_path) = made-cons old new row (j ∷ tail p most) new_path a.can.sole (subst (MakesShared old new (j ∷ tail p most)) (sym first) below) in
              subst (MakesShared old new old_path) (sym (down-now more)) (subst (λ ks. MakesShared old new ks (row ∷ new_path)) (sym (down-was p most)) all)
