-- What the entries of sets and maps tell of their keys and values.
use Rattle.std.proofs.Common.{◌≡◌, ℕ, ◌+◌, ◌*◌, ◌≤◌, List, [], ◌∷◌, length, refl, ap, sym, subst, ◌∙◌, arith, Bool, true, false, cond, Some}
use Rattle.std.specs.List.{All, AllZip}
use Rattle.std.specs.declared.cmp.Ordering.{Ordering}
use Rattle.std.specs.declared.cmp.Ordering.TheVariants.{Equal}
use Rattle.std.proofs.lemmas.List.Elements.{All-head, All-tail, All-cons, All-nil}
use Rattle.node_heap.specs.Forms.{Forms, cell, node, pair, value_of}
use Rattle.champ_chain.specs.Entry.{Entry, key_at, key_of}
use Rattle.champ_chain.proofs.SetLemmas.{same-sym}
use Rattle.champ_kinds.specs.Binding.{Binding}
use Rattle.champ_kinds.specs.Kinds.{IsKeyCell, IsPair}
use Rattle.champ_kinds.specs.Laws.{GoOneToOne}
use Rattle.champ_kinds.proofs.ZipLemmas.{all-turned, zip-follows, zip-flip}
use Rattle.same_value.specs.Apart.{HasApart, Spends}
use Rattle.same_value.specs.Cells.{IsSameCell}
use Rattle.same_value.specs.CompareLaws.{cell-keys, pair-keys}
use Rattle.same_value.specs.Contents.{IsSameBinding}
use Rattle.same_value.specs.Entries.{IsPairOf, IsSamePair}
use Rattle.champ_trie.proofs.BelowLemmas.{once-fits}

no-spare : (result : Bool) (n : ℕ) → n ≡ 0 → cond result 0 n ≡ 0
no-spare true n none = refl
no-spare false n none = none

module _ {K : Type 0} (F : Forms K) where
  -- the steps of a walk from two roots, over different rows apart
  pub few-steps : {a b l m old new n : ℕ} (result : Bool) → l ≡ a → m ≡ b → n ≡ 0 → Spends F l m old new (cond result 0 n) → (rows : List ℕ) → HasApart F a b rows → new ≤ old + 204 * length rows
  few-steps {a} {m = m} {n = n} result left right none spends rows has =
      let apart = subst (λ k. HasApart F k m rows) (sym left) (subst (λ k. HasApart F a k rows) (sym right) has) in
      let fits = once-fits spends.rows rows spends.once (λ k some. apart k (spends.apart k some)) in
      omega (arith, spends.few, fits, no-spare result n none)

module _ {K : Type 0} (cmp : K → K → Ordering) (F : Forms K) where
  -- sets of key cells
  abbrev CellLinks : Entry K → Entry K → Type 0
  CellLinks e d = IsSameCell cmp F e.link d.link

  cells-keys : (es ds : List (Entry K)) → All (IsKeyCell F) es → All (IsKeyCell F) ds → AllZip CellLinks es ds → AllZip (λ e d. cmp e.key d.key ≡ Equal) es ds
  cells-keys [] [] left right zip = tt
  cells-keys [] (d ∷ ds) left right zip = absurd zip
  cells-keys (e ∷ es) [] left right zip = absurd zip
  cells-keys (e ∷ es) (d ∷ ds) left right zip =
      (cell-keys cmp F e.link d.link e.key d.key zip.0 (ap (key_of F) (All-head (IsKeyCell F) e es left)) (ap (key_of F) (All-head (IsKeyCell F) d ds right)), cells-keys es ds (All-tail (IsKeyCell F) e es left) (All-tail (IsKeyCell F) d ds right) zip.1)

  keys-cells : (es ds : List (Entry K)) → All (IsKeyCell F) es → All (IsKeyCell F) ds → AllZip (λ e d. cmp e.key d.key ≡ Equal) es ds → AllZip CellLinks es ds
  keys-cells [] [] left right zip = tt
  keys-cells [] (d ∷ ds) left right zip = absurd zip
  keys-cells (e ∷ es) [] left right zip = absurd zip
  keys-cells (e ∷ es) (d ∷ ds) left right zip =
      (record { first = e.key; second = d.key; here = All-head (IsKeyCell F) e es left; there = All-head (IsKeyCell F) d ds right; equal = zip.0 }, keys-cells es ds (All-tail (IsKeyCell F) e es left) (All-tail (IsKeyCell F) d ds right) zip.1)

  pub set-keys : (E D : List (Entry K)) → All (IsKeyCell F) E → All (IsKeyCell F) D → GoOneToOne CellLinks E D → GoOneToOne (λ e d. cmp e.key d.key ≡ Equal) E D
  set-keys E D left right go = (go.0, go.1, cells-keys E go.0 left (all-turned (IsKeyCell F) D go.0 (same-sym _ _ go.1) right) go.2)

  pub key-sets : (E D : List (Entry K)) → All (IsKeyCell F) E → All (IsKeyCell F) D → GoOneToOne (λ e d. cmp e.key d.key ≡ Equal) E D → GoOneToOne CellLinks E D
  key-sets E D left right go = (go.0, go.1, keys-cells E go.0 left (all-turned (IsKeyCell F) D go.0 (same-sym _ _ go.1) right) go.2)

  -- maps of pairs
  module _ (IsValue : ℕ → Type 0) (IsSame : ℕ → ℕ → Type 0) where
    abbrev PairLinks : Entry K → Entry K → Type 0
    PairLinks e d = IsSamePair F cmp IsSame e.link d.link

    pair-key : (e : Entry K) (b : Binding K) → IsPair F e b → key_at F e.link ≡ Some b.key
    pair-key e b p = ap (key_of F) p.row ∙ ap value_of p.cell ∙ ap Some (sym p.key)

    pub pairs-good : (es : List (Entry K)) (ms : List (Binding K)) → AllZip (IsPair F) es ms → All (λ b. IsValue b.value) ms → All (λ e. IsPairOf F IsValue e.link) es
    pairs-good [] ms pairs values = All-nil (λ (e : Entry K). IsPairOf F IsValue e.link)
    pairs-good (e ∷ es) [] pairs values = absurd pairs
    pairs-good (e ∷ es) (b ∷ bs) pairs values =
        All-cons (λ (d : Entry K). IsPairOf F IsValue d.link) e es
        (record { key = e.key; key_cell = pairs.0.key_cell; value = b.value; row = pairs.0.row; cell = pairs.0.cell; good = All-head (λ (c : Binding K). IsValue c.value) b bs values })
        (pairs-good es bs pairs.1 (All-tail (λ (c : Binding K). IsValue c.value) b bs values))

    links-bind : (e d : Entry K) (b c : Binding K) → IsPair F e b → IsPair F d c → PairLinks e d → IsSameBinding cmp IsSame b c
    links-bind e d b c p q same =
        let first : Some (node pair (same.keys.key_cell ∷ same.value ∷ [])) ≡ Some (node pair (p.key_cell ∷ b.value ∷ [])) = sym same.keys.row ∙ p.row in
        let second : Some (node pair (same.keys.other_key_cell ∷ same.other_value ∷ [])) ≡ Some (node pair (q.key_cell ∷ c.value ∷ [])) = sym same.keys.other_row ∙ q.row in
        let left : same.value ≡ b.value = cc in
        let right : same.other_value ≡ c.value = cc in
        (pair-keys cmp F IsSame e.link d.link b.key c.key same (pair-key e b p) (pair-key d c q), subst (λ v. IsSame v c.value) left (subst (IsSame same.value) right same.values))

    bind-links : (e d : Entry K) (b c : Binding K) → IsPair F e b → IsPair F d c → IsSameBinding cmp IsSame b c → PairLinks e d
    bind-links e d b c p q same = record {
      value = b.value;
      other_value = c.value;
      keys = record {
        key_cell = p.key_cell;
        row = p.row;
        other_key_cell = q.key_cell;
        other_row = q.row;
        keys = record { first = b.key; second = c.key; here = p.cell ∙ ap (λ k. Some (cell k)) (sym p.key); there = q.cell ∙ ap (λ k. Some (cell k)) (sym q.key); equal = same.0 };
      };
      values = same.1;
    }

    -- pairs go together where their bindings do
    bindings-zip : (es ds : List (Entry K)) (ms ns : List (Binding K)) → AllZip (IsPair F) es ms → AllZip (IsPair F) ds ns → AllZip PairLinks es ds → AllZip (IsSameBinding cmp IsSame) ms ns
    bindings-zip [] [] [] [] p q zip = tt
    bindings-zip [] [] [] (n ∷ ns) p q zip = absurd q
    bindings-zip [] [] (m ∷ ms) ns p q zip = absurd p
    bindings-zip [] (d ∷ ds) ms ns p q zip = absurd zip
    bindings-zip (e ∷ es) [] ms ns p q zip = absurd zip
    bindings-zip (e ∷ es) (d ∷ ds) [] ns p q zip = absurd p
    bindings-zip (e ∷ es) (d ∷ ds) (m ∷ ms) [] p q zip = absurd q
    bindings-zip (e ∷ es) (d ∷ ds) (m ∷ ms) (n ∷ ns) p q zip = (links-bind e d m n p.0 q.0 zip.0, bindings-zip es ds ms ns p.1 q.1 zip.1)

    links-zip : (es ds : List (Entry K)) (ms ns : List (Binding K)) → AllZip (IsPair F) es ms → AllZip (IsPair F) ds ns → AllZip (IsSameBinding cmp IsSame) ms ns → AllZip PairLinks es ds
    links-zip [] [] ms ns p q zip = tt
    links-zip [] (d ∷ ds) [] [] p q zip = absurd q
    links-zip [] (d ∷ ds) [] (n ∷ ns) p q zip = absurd zip
    links-zip [] (d ∷ ds) (m ∷ ms) ns p q zip = absurd p
    links-zip (e ∷ es) ds [] ns p q zip = absurd p
    links-zip (e ∷ es) [] (m ∷ ms) [] p q zip = absurd zip
    links-zip (e ∷ es) [] (m ∷ ms) (n ∷ ns) p q zip = absurd q
    links-zip (e ∷ es) (d ∷ ds) (m ∷ ms) [] p q zip = absurd q
    links-zip (e ∷ es) (d ∷ ds) (m ∷ ms) (n ∷ ns) p q zip = (bind-links e d m n p.0 q.0 zip.0, links-zip es ds ms ns p.1 q.1 zip.1)

    module _ (E D : List (Entry K)) (M N : List (Binding K)) (left : AllZip (IsPair F) E M) (right : AllZip (IsPair F) D N) where
      pub map-bindings : GoOneToOne PairLinks E D → GoOneToOne (IsSameBinding cmp IsSame) M N
      map-bindings go =
          let turned = zip-follows (IsPair F) D go.0 N (same-sym _ _ go.1) right in
          (turned.0, same-sym _ _ turned.1, bindings-zip E go.0 M turned.0 left turned.2 go.2)

      pub bindings-map : GoOneToOne (IsSameBinding cmp IsSame) M N → GoOneToOne PairLinks E D
      bindings-map go =
          let turned = zip-follows (λ c d. IsPair F d c) N go.0 D (same-sym _ _ go.1) (zip-flip (IsPair F) D N right) in
          (turned.0, same-sym _ _ turned.1, links-zip E turned.0 M go.0 left (zip-flip (λ c d. IsPair F d c) go.0 turned.0 turned.2) go.2)
