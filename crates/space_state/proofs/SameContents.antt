-- Lines and states are the same, as `same_value` says it, exactly where what they stand for is the same.
use Rattle.std.proofs.Common.{◌≡◌, ℕ, ◌≤◌, ◌↔◌, Bool, true, false, cond, ◌||◌, List, [], ◌∷◌, Option, Some, None, option_map, map, refl, ap, sym, subst, ◌∙◌, arith}
use Rattle.std.specs.Prelude.{count_by}
use Rattle.std.specs.List.{All, AllZip, find}
use Rattle.std.specs.Ordering.{is_eq}
use Rattle.std.specs.declared.cmp.Ordering.TheVariants.{Equal}
use Rattle.std.specs.Cmp.{tied_itself}
use Rattle.std.specs.Cmp.Lexicographic.{nat_list_cmp_total}
use Rattle.std.specs.FinMap as finite
use Rattle.std.specs.FinMap.{nat_cmp-IsAntisymmetric, slice_cmp-IsAntisymmetric}
use Rattle.std.proofs.lemmas.List.Elements.{All-nil, All-cons, All-head, All-tail}
use Rattle.elem_core.specs.declared.codes.TheConstants.{CODE_BITS}
use Rattle.elem_core.specs.Codes.{text_code}
use Rattle.node_heap.specs.Forms.{Forms, cell, node, pair, state}
use Rattle.node_heap.specs.Heap.{Heap, form_at}
use Rattle.rrb_core.specs.Vector.{IsGoodVector, elements}
use Rattle.champ_chain.specs.Entry.{Entry, SameSet, same_none, same_first, same_turned, same_through}
use Rattle.champ_chain.proofs.SetLemmas.{same-sym, same-find}
use Rattle.champ_trie.proofs.CanonLemmas.{same-lift}
use Rattle.champ_trie.proofs.GatherLemmas.{same-map}
use Rattle.champ_kinds.specs.Binding.{Binding, binds, value_with}
use Rattle.champ_kinds.specs.Kinds.{IsPair, IsMapOf, IsSetOf}
use Rattle.champ_kinds.proofs.ZipLemmas.{all-turned, one-to-one-turned}
use Rattle.champ_kinds.proofs.LawLemmas.{root-one_map, root-one_set}
use Rattle.same_value.specs.Cells.{IsCellLink, IsSameCell, IsLines, IsSameLines}
use Rattle.same_value.specs.Contents.{IsSameBinding, AreSameMaps, AreSameSets, IsSameState}
use Rattle.same_value.specs.Contents as contents
use Rattle.shell_terms.specs.Edit.{Bytes}
use Rattle.plain_space.specs.Workspace.{Named, Names, State}
use Rattle.state_rows.specs.Reading.{StandsIfThere, IsNamed, AreNames, IsText}
use Rattle.state_rows.specs.InHeap.{AreLinesIn, IsStateIn}
use Rattle.state_rows.proofs.Keys.{by_bytes, among, count-names}
use Rattle.state_rows.proofs.Contents.{same-keys, as-map, as-set, set-there, keys-of-entries, keys-of-set}
use Rattle.state_rows.proofs.CoverSpace.{IsBound, entries-bound}
use Rattle.state_rows.proofs.OneSpace.{same-names, nothing-else}

-- names that the order calls equal are equal
one-name : (j k : Bytes) → by_bytes j k ≡ Equal → j ≡ k
one-name = slice_cmp-IsAntisymmetric nat_cmp-IsAntisymmetric

tied-name : (j k : Bytes) → j ≡ k → by_bytes j k ≡ Equal
tied-name j k same = subst (λ i. by_bytes j i ≡ Equal) same (tied_itself nat_list_cmp_total j)

one-there : {X : Type 0} (x y : X) → Some x ≡ Some y → x ≡ y
one-there x y same = cc

-- ## Lines

module _ (F : Forms Bytes) (V : ℕ → Type 0) (bits : ℕ) where
  texts-cells : (ks : List ℕ) (xs : List Bytes) → AllZip (IsText F V bits) ks xs → All (IsCellLink F) ks
  texts-cells [] xs zip = All-nil (IsCellLink F)
  texts-cells (k ∷ ks) [] zip = absurd zip
  texts-cells (k ∷ ks) (x ∷ xs) zip = All-cons (IsCellLink F) k ks (x, zip.0.row) (texts-cells ks xs zip.1)

  one-text : (k j : ℕ) (x y : Bytes) → IsText F V bits k x → IsText F V bits j y → IsSameCell by_bytes F k j → x ≡ y
  one-text k j x y first second same =
      let here : x ≡ same.first = (let both : Some (cell x) ≡ Some (cell same.first) = sym first.row ∙ same.here in cc) in
      let there : same.second ≡ y = (let both : Some (cell same.second) ≡ Some (cell y) = sym same.there ∙ second.row in cc) in
      here ∙ one-name same.first same.second same.equal ∙ there

  told-texts : (ks js : List ℕ) (xs ys : List Bytes) → AllZip (IsText F V bits) ks xs → AllZip (IsText F V bits) js ys → AllZip (IsSameCell by_bytes F) ks js → xs ≡ ys
  told-texts [] [] [] [] first second same = refl
  told-texts [] [] [] (y ∷ ys) first second same = absurd second
  told-texts [] [] (x ∷ xs) ys first second same = absurd first
  told-texts [] (j ∷ js) xs ys first second same = absurd same
  told-texts (k ∷ ks) [] xs ys first second same = absurd same
  told-texts (k ∷ ks) (j ∷ js) [] ys first second same = absurd first
  told-texts (k ∷ ks) (j ∷ js) (x ∷ xs) [] first second same = absurd second
  told-texts (k ∷ ks) (j ∷ js) (x ∷ xs) (y ∷ ys) first second same =
      ap (λ t. t ∷ xs) (one-text k j x y first.0 second.0 same.0) ∙ ap (λ ts. y ∷ ts) (told-texts ks js xs ys first.1 second.1 same.1)

  same-texts : (ks js : List ℕ) (xs : List Bytes) → AllZip (IsText F V bits) ks xs → AllZip (IsText F V bits) js xs → AllZip (IsSameCell by_bytes F) ks js
  same-texts [] [] [] first second = tt
  same-texts [] [] (x ∷ xs) first second = absurd first
  same-texts [] (j ∷ js) [] first second = absurd second
  same-texts [] (j ∷ js) (x ∷ xs) first second = absurd first
  same-texts (k ∷ ks) js [] first second = absurd first
  same-texts (k ∷ ks) [] (x ∷ xs) first second = absurd second
  same-texts (k ∷ ks) (j ∷ js) (x ∷ xs) first second =
      (record { first = x; second = x; here = first.0.row; there = second.0.row; equal = tied-name x x refl }, same-texts ks js xs first.1 second.1)

module _ (h : Heap Bytes) (bits : ℕ) where
  -- lines are a vector of cells
  pub as-lines : (l : ℕ) (xs : List Bytes) → AreLinesIn h bits l xs → IsLines h l
  as-lines l xs is = record { good = is.vector; cells = texts-cells (form_at h) (IsGoodVector h) bits (elements h l) xs is.values }

  pub lines-same : (l m : ℕ) (xs ys : List Bytes) → AreLinesIn h bits l xs → AreLinesIn h bits m ys → IsSameLines by_bytes h l m ↔ (xs ≡ ys)
  lines-same l m xs ys first second = (
    λ same. told-texts (form_at h) (IsGoodVector h) bits (elements h l) (elements h m) xs ys first.values second.values same,
    λ same. same-texts (form_at h) (IsGoodVector h) bits (elements h l) (elements h m) xs first.values (subst (AllZip (IsText (form_at h) (IsGoodVector h) bits) (elements h m)) (sym same) second.values),
  )

-- ## Maps of names

-- links are the same exactly where what they stand for is the same
abbrev Tells : {X : Type 0} → (ℕ → X → Type 0) → (ℕ → ℕ → Type 0) → Type 0
Tells {X} Is Same = (l m : ℕ) (x y : X) → Is l x → Is m y → Same l m ↔ (x ≡ y)

-- bindings that go together, one by one, have the same at each name
zip-found : (Same : ℕ → ℕ → Type 0) (name : Bytes) (M N : List (Binding Bytes)) → AllZip (IsSameBinding by_bytes Same) M N → StandsIfThere Same (value_with by_bytes name M) (value_with by_bytes name N)
zip-found Same name [] [] zip = tt
zip-found Same name [] (c ∷ N) zip = absurd zip
zip-found Same name (b ∷ M) [] zip = absurd zip
zip-found Same name (b ∷ M) (c ∷ N) zip =
    let test : binds by_bytes name b ≡ binds by_bytes name c = ap (λ k. is_eq (by_bytes name k)) (one-name b.key c.key zip.0.0) in
    subst (λ t. StandsIfThere Same (value_with by_bytes name (b ∷ M)) (option_map (λ (d : Binding Bytes). d.value) (cond t (Some c) (find (binds by_bytes name) N)))) test
    (at_head (binds by_bytes name b) (zip-found Same name M N zip.1))
  where
    at_head : (t : Bool) → StandsIfThere Same (value_with by_bytes name M) (value_with by_bytes name N)
        → StandsIfThere Same (option_map (λ (d : Binding Bytes). d.value) (cond t (Some b) (find (binds by_bytes name) M))) (option_map (λ (d : Binding Bytes). d.value) (cond t (Some c) (find (binds by_bytes name) N)))
    at_head true rest = zip.0.1
    at_head false rest = rest

module _ {X : Type 0} (Is : ℕ → X → Type 0) (Same : ℕ → ℕ → Type 0) (tells : Tells Is Same) where
  read-same : (o p : Option ℕ) (a b : Option X) → StandsIfThere Same o p → StandsIfThere Is o a → StandsIfThere Is p b → a ≡ b
  read-same None None None None same first second = refl
  read-same None None None (Some y) same first second = absurd second
  read-same None None (Some x) b same first second = absurd first
  read-same None (Some m) a b same first second = absurd same
  read-same (Some l) None a b same first second = absurd same
  read-same (Some l) (Some m) None b same first second = absurd first
  read-same (Some l) (Some m) (Some x) None same first second = absurd second
  read-same (Some l) (Some m) (Some x) (Some y) same first second = ap Some ((tells l m x y first second).0 same)

  -- what the finite map has at the binding's key is what its value stands for
  record Has (m : Named X) (b : Binding Bytes) : Type 0 where
    thing : X
    found : finite.get m b.key ≡ Some thing
    is : Is b.value thing

  -- bindings with the same keys, in turn, of one finite map go together
  keys-go : (m : Named X) (M N : List (Binding Bytes)) → map (λ (b : Binding Bytes). b.key) M ≡ map (λ (b : Binding Bytes). b.key) N → All (Has m) M → All (Has m) N → AllZip (IsSameBinding by_bytes Same) M N
  keys-go m [] [] keys first second = tt
  keys-go m [] (c ∷ N) keys first second = absurd cc
  keys-go m (b ∷ M) [] keys first second = absurd cc
  keys-go m (b ∷ M) (c ∷ N) keys first second =
      let key : b.key ≡ c.key = cc in
      let rest : map (λ (d : Binding Bytes). d.key) M ≡ map (λ (d : Binding Bytes). d.key) N = cc in
      let here = All-head (Has m) b M first in
      let there = All-head (Has m) c N second in
      let thing : here.thing ≡ there.thing = one-there here.thing there.thing (sym here.found ∙ ap (finite.get m) key ∙ there.found) in
      ((tied-name b.key c.key key, (tells b.value c.value here.thing there.thing here.is there.is).1 thing), keys-go m M N rest (All-tail (Has m) b M first) (All-tail (Has m) c N second))

  module _ (F : Forms Bytes) (V : ℕ → Type 0) (bits : ℕ) where
    bindings-have : (m : Named X) (E : List (Entry Bytes)) (M : List (Binding Bytes)) → AllZip (IsPair F) E M → All (IsBound F V bits Is m) E → All (Has m) M
    bindings-have m [] [] pairs bound = All-nil (Has m)
    bindings-have m [] (b ∷ M) pairs bound = absurd pairs
    bindings-have m (e ∷ E) [] pairs bound = absurd pairs
    bindings-have m (e ∷ E) (b ∷ M) pairs bound =
        let at = All-head (IsBound F V bits Is m) e E bound in
        let both : Some (node pair (at.key_cell ∷ at.value ∷ [])) ≡ Some (node pair (pairs.0.key_cell ∷ b.value ∷ [])) = sym at.row ∙ pairs.0.row in
        let value : at.value ≡ b.value = cc in
        All-cons (Has m) b M (record { thing = at.thing; found = ap (finite.get m) pairs.0.key ∙ at.found; is = subst (λ k. Is k at.thing) value at.is })
        (bindings-have m E M pairs.1 (All-tail (IsBound F V bits Is m) e E bound))

    named-have : (l : ℕ) (m : Named X) (is : IsNamed F V bits Is l m) → All (Has m) is.bindings
    named-have l m is = bindings-have m is.entries is.bindings is.pairs (entries-bound F V bits Is l m is)

    -- no name is bound twice
    bound-once : (l : ℕ) (m : Named X) (is : IsNamed F V bits Is l m) (name : Bytes) → count_by (binds by_bytes name) is.bindings ≤ 1
    bound-once l m is name = omega (
      arith,
      is.trie.trie.distinct.once name,
      count-names (λ k. is_eq (by_bytes name k)) (λ (b : Binding Bytes). b.key) is.bindings,
      count-names (λ k. is_eq (by_bytes name k)) (λ (e : Entry Bytes). e.key) is.entries,
      ap (count_by (λ k. is_eq (by_bytes name k))) (same-keys F is.entries is.bindings is.pairs),
    )

    keys-of-bindings : (l : ℕ) (m : Named X) (is : IsNamed F V bits Is l m) → SameSet (map (λ (b : Binding Bytes). b.key) is.bindings) (finite.keys m)
    keys-of-bindings l m is = subst (λ ks. SameSet ks (finite.keys m)) (sym (same-keys F is.entries is.bindings is.pairs)) (keys-of-entries F V bits Is l m is)

    named-told : (l k : ℕ) (m n : Named X) (first : IsNamed F V bits Is l m) (second : IsNamed F V bits Is k n) → AreSameMaps by_bytes Same first.bindings second.bindings → m ≡ n
    named-told l k m n first second go = same-names m n (λ name.
        let found : value_with by_bytes name go.0 ≡ value_with by_bytes name second.bindings =
        ap (option_map (λ (b : Binding Bytes). b.value)) (sym (same-find (binds by_bytes name) second.bindings go.0 (same-sym _ _ go.1) (bound-once k n second name))) in
        read-same (value_with by_bytes name first.bindings) (value_with by_bytes name second.bindings) (finite.get m name) (finite.get n name)
        (subst (StandsIfThere Same (value_with by_bytes name first.bindings)) found (zip-found Same name first.bindings go.0 go.2)) (first.reads name) (second.reads name))

    named-go : (l k : ℕ) (m : Named X) (first : IsNamed F V bits Is l m) (second : IsNamed F V bits Is k m) → AreSameMaps by_bytes Same first.bindings second.bindings
    named-go l k m first second =
        let key = λ (b : Binding Bytes). b.key in
        let keys : SameSet (map key second.bindings) (map key first.bindings) = same_through _ _ _ (keys-of-bindings k m second) (same-sym _ _ (keys-of-bindings l m first)) in
        let lift = same-lift key second.bindings (map key second.bindings) (map key first.bindings) refl keys in
        (lift.0, same-sym _ _ lift.1, keys-go m first.bindings lift.0 (sym lift.2) (named-have l m first) (all-turned (Has m) second.bindings lift.0 lift.1 (named-have k m second)))

-- ## Sets of names

among-same : (name : Bytes) (ks js : List Bytes) → SameSet ks js → among name ks ≡ among name js
among-same name _ _ same_none = refl
among-same name _ _ (same_first k ks js same) = ap (λ t. is_eq (by_bytes name k) || t) (among-same name ks js same)
among-same name _ _ (same_turned k j ks) = turned (is_eq (by_bytes name k)) (is_eq (by_bytes name j)) (among name ks)
  where
    turned : (a b c : Bool) → (a || (b || c)) ≡ (b || (a || c))
    turned true true c = refl
    turned true false c = refl
    turned false true c = refl
    turned false false c = refl
among-same name _ _ (same_through ks js is one two) = among-same name ks js one ∙ among-same name js is two

abbrev SameKey : Entry Bytes → Entry Bytes → Type 0
SameKey e d = by_bytes e.key d.key ≡ Equal

keys-equal : (E D : List (Entry Bytes)) → AllZip SameKey E D → map (λ (e : Entry Bytes). e.key) E ≡ map (λ (e : Entry Bytes). e.key) D
keys-equal [] [] zip = refl
keys-equal [] (d ∷ D) zip = absurd zip
keys-equal (e ∷ E) [] zip = absurd zip
keys-equal (e ∷ E) (d ∷ D) zip = ap (λ k. k ∷ map (λ (x : Entry Bytes). x.key) E) (one-name e.key d.key zip.0) ∙ ap (λ ks. d.key ∷ ks) (keys-equal E D zip.1)

keys-tied : (E D : List (Entry Bytes)) → map (λ (e : Entry Bytes). e.key) E ≡ map (λ (e : Entry Bytes). e.key) D → AllZip SameKey E D
keys-tied [] [] keys = tt
keys-tied [] (d ∷ D) keys = absurd cc
keys-tied (e ∷ E) [] keys = absurd cc
keys-tied (e ∷ E) (d ∷ D) keys =
    let key : e.key ≡ d.key = cc in
    let rest : map (λ (x : Entry Bytes). x.key) E ≡ map (λ (x : Entry Bytes). x.key) D = cc in
    (tied-name e.key d.key key, keys-tied E D rest)

module _ (F : Forms Bytes) (V : ℕ → Type 0) (bits : ℕ) where
  names-told : (l k : ℕ) (m n : Names) (first : AreNames F V bits l m) (second : AreNames F V bits k n) → AreSameSets by_bytes first.entries second.entries → m ≡ n
  names-told l k m n first second go = same-names m n (λ name.
      nothing-else (finite.get m name) (finite.get n name)
      (sym (set-there F V bits l m first name) ∙ ap (among name) (keys-equal first.entries go.0 go.2)
      ∙ among-same name _ _ (same-map (λ (e : Entry Bytes). e.key) go.0 second.entries go.1) ∙ set-there F V bits k n second name))

  names-go : (l k : ℕ) (m : Names) (first : AreNames F V bits l m) (second : AreNames F V bits k m) → AreSameSets by_bytes first.entries second.entries
  names-go l k m first second =
      let key = λ (e : Entry Bytes). e.key in
      let keys : SameSet (map key second.entries) (map key first.entries) = same_through _ _ _ (keys-of-set F V bits k m second) (same-sym _ _ (keys-of-set F V bits l m first)) in
      let lift = same-lift key second.entries (map key second.entries) (map key first.entries) refl keys in
      (lift.0, same-sym _ _ lift.1, keys-tied first.entries lift.0 (sym lift.2))

-- ## States

module _ (h : Heap Bytes) (bits : ℕ) (few : bits ≤ CODE_BITS) where
  -- a state of names is a state
  pub as-state : (l : ℕ) (s : State) → IsStateIn h bits l s → contents.IsStateLink by_bytes text_code h bits l
  as-state l s is =
      let Value = λ (b : Binding Bytes). IsLines h b.value in
      record {
        map_root = is.buffers;
        set_root = is.stars;
        row = is.row;
        bindings = is.buffers_are.bindings;
        map = record {
          map = as-map h (IsGoodVector h) bits (AreLinesIn h bits) is.buffers s.buffers few is.buffers_are;
          values = λ i d low. let has = named-have (AreLinesIn h bits) (IsSameLines by_bytes h) (lines-same h bits) (form_at h) (IsGoodVector h) bits is.buffers s.buffers is.buffers_are i d low in as-lines h bits _ has.thing has.is;
        };
        entries = is.stars_are.entries;
        set = as-set h (IsGoodVector h) bits is.stars s.stars few is.stars_are;
      }

  equal-codes : (j k : Bytes) → by_bytes j k ≡ Equal → text_code j ≡ text_code k
  equal-codes j k same = ap text_code (one-name j k same)

  -- whatever is said of a state of names, its bindings and its entries are those of the names
  module _ (l : ℕ) (s : State) (is : IsStateIn h bits l s) (said : contents.IsStateLink by_bytes text_code h bits l) where
    said-bindings : SameSet said.bindings is.buffers_are.bindings
    said-bindings =
        let rows : Some (node state (said.map_root ∷ said.set_root ∷ [])) ≡ Some (node state (is.buffers ∷ is.stars ∷ [])) = sym said.row ∙ is.row in
        let root : said.map_root ≡ is.buffers = cc in
        let there : IsMapOf by_bytes text_code h (record { root = is.buffers; bits = bits }) said.bindings = subst (λ k. IsMapOf by_bytes text_code h (record { root = k; bits = bits }) said.bindings) root said.map.map in
        root-one_map by_bytes text_code nat_list_cmp_total equal-codes h (record { root = is.buffers; bits = bits }) said.bindings is.buffers_are.bindings there
        (as-map h (IsGoodVector h) bits (AreLinesIn h bits) is.buffers s.buffers few is.buffers_are)

    said-entries : SameSet said.entries is.stars_are.entries
    said-entries =
        let rows : Some (node state (said.map_root ∷ said.set_root ∷ [])) ≡ Some (node state (is.buffers ∷ is.stars ∷ [])) = sym said.row ∙ is.row in
        let root : said.set_root ≡ is.stars = cc in
        let there : IsSetOf by_bytes text_code h (record { root = is.stars; bits = bits }) said.entries = subst (λ k. IsSetOf by_bytes text_code h (record { root = k; bits = bits }) said.entries) root said.set in
        root-one_set by_bytes text_code nat_list_cmp_total equal-codes h (record { root = is.stars; bits = bits }) said.entries is.stars_are.entries there
        (as-set h (IsGoodVector h) bits is.stars s.stars few is.stars_are)

  states-told : (l m : ℕ) (s t : State) → IsStateIn h bits l s → IsStateIn h bits m t → IsSameState by_bytes text_code h bits l m → s ≡ t
  states-told l m s t first second same =
      let made : Named (List Bytes) → Names → State = λ b n. record { buffers = b; stars = n } in
      let buffers : s.buffers ≡ t.buffers = named-told (AreLinesIn h bits) (IsSameLines by_bytes h) (lines-same h bits) (form_at h) (IsGoodVector h) bits first.buffers second.buffers s.buffers t.buffers first.buffers_are second.buffers_are
      (one-to-one-turned (IsSameBinding by_bytes (IsSameLines by_bytes h)) same.first.bindings first.buffers_are.bindings same.second.bindings second.buffers_are.bindings (said-bindings l s first same.first) (said-bindings m t second same.second) same.maps) in
      let stars : s.stars ≡ t.stars = names-told (form_at h) (IsGoodVector h) bits first.stars second.stars s.stars t.stars first.stars_are second.stars_are
      (one-to-one-turned SameKey same.first.entries first.stars_are.entries same.second.entries second.stars_are.entries (said-entries l s first same.first) (said-entries m t second same.second) same.sets) in
      ap (λ b. made b s.stars) buffers ∙ ap (λ n. made t.buffers n) stars

  states-same : (l m : ℕ) (s : State) → IsStateIn h bits l s → IsStateIn h bits m s → IsSameState by_bytes text_code h bits l m
  unfolding as-state
  states-same l m s first second = record {
    first = as-state l s first;
    second = as-state m s second;
    maps = named-go (AreLinesIn h bits) (IsSameLines by_bytes h) (lines-same h bits) (form_at h) (IsGoodVector h) bits first.buffers second.buffers s.buffers first.buffers_are second.buffers_are;
    sets = names-go (form_at h) (IsGoodVector h) bits first.stars second.stars s.stars first.stars_are second.stars_are;
  }

  pub state-tells : (l m : ℕ) (s t : State) → IsStateIn h bits l s → IsStateIn h bits m t → IsSameState by_bytes text_code h bits l m ↔ (s ≡ t)
  state-tells l m s t first second = (states-told l m s t first second, λ same. states-same l m s first (subst (IsStateIn h bits m) (sym same) second))
