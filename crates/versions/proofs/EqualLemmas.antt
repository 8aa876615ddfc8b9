-- Equal sets and equal maps: their keys go together by rising order.
use Rattle.std.proofs.Common.{◌≡◌, ℕ, ◌≤◌, List, [], ◌∷◌, map, Option, Some, None, refl, ap, sym, ◌∙◌, subst, arith}
use Rattle.std.specs.Prelude.{◌↔◌, count_by, option_map}
use Rattle.std.specs.Ordering.{eq_by_cmp, match_ordering}
use Rattle.std.specs.Cmp.{IsTotalOrder, alike_right}
use Rattle.std.specs.BTreeSet.{insert_key}
use Rattle.std.specs.FinMap.{put}
use Rattle.std.specs.FinMap.Entries.{by_order}
use Rattle.std.specs.List.{All, AllZip}
use Rattle.std.specs.declared.cmp.Ordering.{Ordering}
use Rattle.std.specs.declared.cmp.Ordering.TheVariants.{Less, Equal, Greater}
use Rattle.std.proofs.lemmas.List.Elements.{All-nil, All-cons}
use Rattle.node_heap.specs.Forms.{Row, cell, node, form_of, value_of}
use Rattle.node_heap.specs.Heap.{Heap, row_at, form_at}
use Rattle.champ_chain.specs.Entry.{Entry}
use Rattle.champ_chain.proofs.SetLemmas.{same-count, same-refl, same-sym}
use Rattle.champ_kinds.specs.Root.{Root}
use Rattle.champ_kinds.specs.Binding.{Binding}
use Rattle.champ_kinds.specs.Laws.{GoOneToOne}
use Rattle.champ_kinds.proofs.StayLemmas.{map-seen}
use Rattle.champ_kinds.proofs.ZipLemmas.{one-to-one-turned, zip-flip, zip-follows}
use Rattle.same_value.specs.Apart.{HasApart}
use Rattle.same_value.specs.Cells.{IsCellLink, IsSameCell}
use Rattle.same_value.specs.Contents.{AreSameMaps, AreSameSets, IsMapWith, IsSameBinding}
use Rattle.versions.specs.declared.piece.Piece.{Piece}
use Rattle.versions.specs.declared.piece.Piece.TheVariants.{Value}
use Rattle.versions.specs.Sorted.{IsEqualEntry, by_keys, sorted_keys}
use Rattle.versions.specs.Keyed.{by_root, IsKeySet}
use Rattle.versions.specs.Pieces.{IsPieceOrder, piece_code, piece_order}
use Rattle.versions.specs.Bound.{IsBoundTo, IsKeyMap}
use Rattle.versions.proofs.SortLemmas.{AreOnce, by_keys-same, same-by_keys, same-sorted, sorted-same}
use Rattle.versions.proofs.KeyedLemmas.{keys-once}
use Rattle.versions.proofs.BoundLemmas.{map-once, order-same}

-- the rows that one root reaches and another doesn't are those of the links that they were made of
pub apart-seen : {T : Type 0} (h : Heap T) (rows : List ℕ) {q w : Root} {l m : ℕ} → q ≡ by_root l → w ≡ by_root m → HasApart (form_at h) l m rows → HasApart (form_at h) q.root w.root rows
apart-seen h rows {w = w} {l = l} at beside apart =
    subst (λ (r : Root). HasApart (form_at h) r.root w.root rows) (sym at) (subst (λ (r : Root). HasApart (form_at h) l r.root rows) (sym beside) apart)

-- two lists go one to one where others do, whose elements stand for theirs
module _ {X Y : Type 0} (B : X → Y → Type 0) (R : X → X → Type 0) (S : Y → Y → Type 0) (so : (x z : X) (y w : Y) → B x y → B z w → R x z → S y w) where
  zip-square : (xs us : List X) (ys vs : List Y) → AllZip B xs ys → AllZip B us vs → AllZip R xs us → AllZip S ys vs
  zip-square [] [] [] [] first second zip = tt
  zip-square [] [] [] (v ∷ vs) first second zip = absurd second
  zip-square [] us (y ∷ ys) vs first second zip = absurd first
  zip-square [] (u ∷ us) [] vs first second zip = absurd zip
  zip-square (x ∷ xs) us [] vs first second zip = absurd first
  zip-square (x ∷ xs) [] (y ∷ ys) vs first second zip = absurd zip
  zip-square (x ∷ xs) (u ∷ us) (y ∷ ys) [] first second zip = absurd second
  zip-square (x ∷ xs) (u ∷ us) (y ∷ ys) (v ∷ vs) first second zip = (so x u y v first.0 second.0 zip.0, zip-square xs us ys vs first.1 second.1 zip.1)

  one-to-one-as : (xs zs : List X) (ys ws : List Y) → AllZip B xs ys → AllZip B zs ws → GoOneToOne R xs zs → GoOneToOne S ys ws
  one-to-one-as xs zs ys ws first second go =
      let turned = zip-follows B zs go.0 ws (same-sym _ _ go.1) second in
      (turned.0, same-sym _ _ turned.1, zip-square xs go.0 ys turned.0 first turned.2 go.2)

module _ {K : Type 0} (R : K → K → Ordering) (o : IsTotalOrder R) where
  abbrev tied : K → K → Type 0
  tied x y = R x y ≡ Equal

  zip-insert : (x y : K) (ks js : List K) → tied x y → AllZip tied ks js → AllZip tied (insert_key R ks x) (insert_key R js y)
  zip-insert x y [] [] same zip = (same, tt)
  zip-insert x y [] (j ∷ js) same zip = absurd zip
  zip-insert x y (k ∷ ks) [] same zip = absurd zip
  zip-insert x y (k ∷ ks) (j ∷ js) same zip =
      let rest = zip-insert x y ks js same zip.1 in
      subst (λ r. AllZip tied (match_ordering r (x ∷ k ∷ ks) (k ∷ ks) (k ∷ insert_key R ks x)) (insert_key R (j ∷ js) y)) (sym (o.congr x y k same ∙ alike_right o k j y zip.0))
      (elim (R y j) as (λ r. AllZip tied (match_ordering r (x ∷ k ∷ ks) (k ∷ ks) (k ∷ insert_key R ks x)) (match_ordering r (y ∷ j ∷ js) (j ∷ js) (j ∷ insert_key R js y))) [
        | Less ↦ (same, zip)
        | Equal ↦ zip
        | Greater ↦ (zip.0, rest)
      ])

  zip-sorted : (ks js : List K) → AllZip tied ks js → AllZip tied (sorted_keys R ks) (sorted_keys R js)
  zip-sorted [] [] zip = tt
  zip-sorted [] (j ∷ js) zip = absurd zip
  zip-sorted (k ∷ ks) [] zip = absurd zip
  zip-sorted (k ∷ ks) (j ∷ js) zip = zip-insert k j (sorted_keys R ks) (sorted_keys R js) zip.0 (zip-sorted ks js zip.1)

  keys-together : (ks js : List K) → ((q : K) → count_by (eq_by_cmp R q) js ≤ 1) → GoOneToOne tied ks js → AllZip tied (sorted_keys R ks) (sorted_keys R js)
  keys-together ks js once go =
      subst (AllZip tied (sorted_keys R ks)) (same-sorted R o go.0 js go.1 (λ q. omega (arith, once q, same-count (eq_by_cmp R q) go.0 js go.1))) (zip-sorted ks go.0 go.2)

  keys-apart : (ks js : List K) → ((q : K) → count_by (eq_by_cmp R q) ks ≤ 1) → ((q : K) → count_by (eq_by_cmp R q) js ≤ 1) → AllZip tied (sorted_keys R ks) (sorted_keys R js) → GoOneToOne tied ks js
  keys-apart ks js once also zip =
      one-to-one-turned tied (sorted_keys R ks) ks (sorted_keys R js) js (sorted-same R o ks once) (sorted-same R o js also) (sorted_keys R js, same-refl _, zip)

  -- an entry and its key
  abbrev has_as : Entry K → K → Type 0
  has_as e k = e.key ≡ k

  keys-of : (E : List (Entry K)) → AllZip has_as E (map (λ e. e.key) E)
  keys-of [] = tt
  keys-of (e ∷ E) = (refl, keys-of E)

  module _ (code : K → ℕ) (h : Heap K) (l m : ℕ) (ks js : List K) (is : IsKeySet R code h l ks) (are : IsKeySet R code h m js) where
    abbrev left_keys : List K
    left_keys = map (λ e. e.key) is.entries

    abbrev right_keys : List K
    right_keys = map (λ e. e.key) are.entries

    pub sets-keys : AreSameSets R is.entries are.entries → AllZip tied ks js
    sets-keys go =
        let turned = one-to-one-as has_as (λ e d. tied e.key d.key) tied (λ e d k j p q same. sym (λ i. R (p i) (q i)) ∙ same) is.entries are.entries left_keys right_keys (keys-of is.entries) (keys-of are.entries) go in
        let zip = keys-together left_keys right_keys (keys-once R o code h (by_root m) are.entries are.set.rooted) turned in
        subst (λ us. AllZip tied us js) (sym is.sorted) (subst (AllZip tied (sorted_keys R left_keys)) (sym are.sorted) zip)

    pub keys-sets : AllZip tied ks js → AreSameSets R is.entries are.entries
    keys-sets zip =
        let sorted = subst (λ us. AllZip tied us (sorted_keys R right_keys)) is.sorted (subst (AllZip tied ks) are.sorted zip) in
        let go = keys-apart left_keys right_keys (keys-once R o code h (by_root l) is.entries is.set.rooted) (keys-once R o code h (by_root m) are.entries are.set.rooted) sorted in
        one-to-one-as (λ k e. has_as e k) tied (λ e d. tied e.key d.key) (λ k j e d p q same. (λ i. R (p i) (q i)) ∙ same) left_keys right_keys is.entries are.entries (zip-flip has_as _ _ (keys-of is.entries)) (zip-flip has_as _ _ (keys-of are.entries)) go

module _ {K V : Type 0} (R : K → K → Ordering) (S : V → V → Ordering) (o : IsTotalOrder R) where
  abbrev alike : K × V → K × V → Type 0
  alike = IsEqualEntry R S

  zip-put : (e d : K × V) (es ds : List (K × V)) → alike e d → AllZip alike es ds → AllZip alike (put R e.0 e.1 es) (put R d.0 d.1 ds)
  zip-put e d [] [] same zip = (same, tt)
  zip-put e d [] (c ∷ ds) same zip = absurd zip
  zip-put e d (b ∷ es) [] same zip = absurd zip
  zip-put e d (b ∷ es) (c ∷ ds) same zip =
      let rest = zip-put e d es ds same zip.1 in
      subst (λ r. AllZip alike (by_order r ((e.0, e.1) ∷ b ∷ es) ((b.0, e.1) ∷ es) (b ∷ put R e.0 e.1 es)) (put R d.0 d.1 (c ∷ ds))) (sym (o.congr e.0 d.0 b.0 same.0 ∙ alike_right o b.0 c.0 d.0 zip.0.0))
      (elim (R d.0 c.0) as (λ r. AllZip alike (by_order r ((e.0, e.1) ∷ b ∷ es) ((b.0, e.1) ∷ es) (b ∷ put R e.0 e.1 es)) (by_order r ((d.0, d.1) ∷ c ∷ ds) ((c.0, d.1) ∷ ds) (c ∷ put R d.0 d.1 ds))) [
        | Less ↦ (same, zip)
        | Equal ↦ ((zip.0.0, same.1), zip.1)
        | Greater ↦ (zip.0, rest)
      ])

  zip-by_keys : (es ds : List (K × V)) → AllZip alike es ds → AllZip alike (by_keys R es) (by_keys R ds)
  zip-by_keys [] [] zip = tt
  zip-by_keys [] (d ∷ ds) zip = absurd zip
  zip-by_keys (e ∷ es) [] zip = absurd zip
  zip-by_keys (e ∷ es) (d ∷ ds) zip = zip-put e d (by_keys R es) (by_keys R ds) zip.0 (zip-by_keys es ds zip.1)

  entries-together : (es ds : List (K × V)) → AreOnce R ds → GoOneToOne alike es ds → AllZip alike (by_keys R es) (by_keys R ds)
  entries-together es ds once go =
      subst (AllZip alike (by_keys R es)) (same-by_keys R o go.0 ds go.1 (λ q. omega (arith, once q, same-count (λ e. eq_by_cmp R q e.0) go.0 ds go.1))) (zip-by_keys es go.0 go.2)

  entries-apart : (es ds : List (K × V)) → AreOnce R es → AreOnce R ds → AllZip alike (by_keys R es) (by_keys R ds) → GoOneToOne alike es ds
  entries-apart es ds once also zip =
      one-to-one-turned alike (by_keys R es) es (by_keys R ds) ds (by_keys-same R o es once) (by_keys-same R o ds also) (by_keys R ds, same-refl _, zip)

cell-form : {T : Type 0} (r : Option (Row T)) (x : T) → value_of r ≡ Some x → option_map form_of r ≡ Some (cell x)
cell-form None x is = absurd (let e = is in cc)
cell-form (Some (cell y)) x is = ap (option_map cell) is
cell-form (Some (node head links)) x is = absurd (let e = is in cc)

some-same : {A : Type 0} {x y : A} → Some x ≡ Some y → x ≡ y
some-same {x = x} is = ap (or x) is
  where
    or : {A : Type 0} → A → Option A → A
    or d None = d
    or d (Some z) = z

module _ {K V : Type 0} (R : K → K → Ordering) (S : V → V → Ordering) (h : Heap (Piece K V)) where
  abbrev SameBinding : Binding (Piece K V) → Binding (Piece K V) → Type 0
  SameBinding = IsSameBinding (piece_order R S) (IsSameCell (piece_order R S) (form_at h))

  form-bound : (b : Binding (Piece K V)) (e : K × V) → IsBoundTo R h b e → form_at h b.value ≡ Some (cell (Value e.1))
  form-bound b e is = cell-form (row_at h b.value) (Value e.1) is.value

  pub cells-bound : (M : List (Binding (Piece K V))) (es : List (K × V)) → AllZip (IsBoundTo R h) M es → All (λ b. IsCellLink (form_at h) b.value) M
  cells-bound [] es zip = All-nil (λ (b : Binding (Piece K V)). IsCellLink (form_at h) b.value)
  cells-bound (b ∷ M) [] zip = absurd zip
  cells-bound (b ∷ M) (e ∷ es) zip = All-cons (λ (c : Binding (Piece K V)). IsCellLink (form_at h) c.value) b M (Value e.1, form-bound b e zip.0) (cells-bound M es zip.1)

  bound-alike : (b c : Binding (Piece K V)) (e d : K × V) → IsBoundTo R h b e → IsBoundTo R h c d → SameBinding b c → IsEqualEntry R S e d
  bound-alike b c e d is are same =
      let first : same.1.first ≡ Value e.1 = some-same (ap value_of (sym same.1.here ∙ form-bound b e is)) in
      let second : same.1.second ≡ Value d.1 = some-same (ap value_of (sym same.1.there ∙ form-bound c d are)) in
      (sym (λ i. piece_order R S (is.key i) (are.key i)) ∙ same.0, sym (λ i. piece_order R S (first i) (second i)) ∙ same.1.equal)

  alike-bound : (e d : K × V) (b c : Binding (Piece K V)) → IsBoundTo R h b e → IsBoundTo R h c d → IsEqualEntry R S e d → SameBinding b c
  alike-bound e d b c is are same =
      ((λ i. piece_order R S (is.key i) (are.key i)) ∙ same.0, record { first = Value e.1; second = Value d.1; here = form-bound b e is; there = form-bound c d are; equal = same.1 })

  module _ (o : IsTotalOrder R) (p : IsTotalOrder S) (code : K → ℕ) where
    -- a map of cells, by whatever is the order of pieces
    pub with-cells : (order : Piece K V → Piece K V → Ordering) → IsPieceOrder order R S → (r : Root) (l : ℕ) (es : List (K × V)) (is : IsKeyMap R S code h l es) → r ≡ by_root l → IsMapWith order (piece_code code) h (IsCellLink (form_at h)) r is.bindings
    with-cells order ordered r l es is same =
        subst (λ q. IsMapWith q (piece_code code) h (IsCellLink (form_at h)) r is.bindings) (sym (order-same R S o p order ordered))
        (record { map = map-seen same is.stands; values = cells-bound is.bindings is.entries is.bound })

    module _ (l m : ℕ) (es ds : List (K × V)) (is : IsKeyMap R S code h l es) (are : IsKeyMap R S code h m ds) where
      maps-entries : GoOneToOne SameBinding is.bindings are.bindings → AllZip (IsEqualEntry R S) es ds
      maps-entries go =
          let turned = one-to-one-as (IsBoundTo R h) SameBinding (IsEqualEntry R S) bound-alike is.bindings are.bindings is.entries are.entries is.bound are.bound go in
          let zip = entries-together R S o is.entries are.entries (map-once R S o p code h m ds are) turned in
          subst (λ us. AllZip (IsEqualEntry R S) us ds) (sym is.sorted) (subst (AllZip (IsEqualEntry R S) (by_keys R is.entries)) (sym are.sorted) zip)

      entries-maps : AllZip (IsEqualEntry R S) es ds → GoOneToOne SameBinding is.bindings are.bindings
      entries-maps zip =
          let sorted = subst (λ us. AllZip (IsEqualEntry R S) us (by_keys R are.entries)) is.sorted (subst (AllZip (IsEqualEntry R S) es) are.sorted zip) in
          let go = entries-apart R S o is.entries are.entries (map-once R S o p code h l es is) (map-once R S o p code h m ds are) sorted in
          one-to-one-as (λ e b. IsBoundTo R h b e) (IsEqualEntry R S) SameBinding alike-bound is.entries are.entries is.bindings are.bindings (zip-flip (IsBoundTo R h) _ _ is.bound) (zip-flip (IsBoundTo R h) _ _ are.bound) go

      -- what is told of the maps by that order is told of their entries
      pub maps-told : (order : Piece K V → Piece K V → Ordering) → IsPieceOrder order R S → (P : Type 0) → (P ↔ AreSameMaps order (IsSameCell order (form_at h)) is.bindings are.bindings) → (P ↔ AllZip (IsEqualEntry R S) es ds)
      maps-told order ordered P told =
          let by = subst (λ q. P ↔ AreSameMaps q (IsSameCell q (form_at h)) is.bindings are.bindings) (order-same R S o p order ordered) told in
          (λ yes. maps-entries (by.0 yes), λ zip. by.1 (entries-maps zip))
