-- Rows of the new tries that have one form are the same.
use Rattle.std.proofs.Common.{◌≡◌, ℕ, suc, ◌+◌, ◌<◌, refl, ap, sym, subst, ◌∙◌, arith, Bool, true, false, cond, List, [], ◌∷◌, ◌++◌, length, map, get_or, flat_map, Some}
use Rattle.std.specs.Prelude.{nat_eq, nat_le}
use Rattle.std.proofs.lemmas.Bool.{leb-true, leb-false}
use Rattle.std.proofs.lemmas.Cmp.{nat_list_cmp_total}
use Rattle.std.proofs.lemmas.List.FromFn.{get_or-map-range_with_len, length-map-range_with_len}
use Rattle.elem_core.specs.Codes.{digit_at}
use Rattle.node_heap.specs.Forms.{Form, Forms, node, trie, links_of}
use Rattle.champ_chain.specs.Entry.{Entry, entry, key_at, SameSet, same_through}
use Rattle.champ_chain.specs.Chain.{IsRising}
use Rattle.champ_chain.proofs.SetLemmas.{same-sym}
use Rattle.champ_chain.proofs.RisingLemmas.{rising-unique}
use Rattle.champ_trie.specs.Trie.{part, place_of}
use Rattle.champ_trie.specs.declared.place.Place.TheVariants.{Entry as At, Node, Empty}
use Rattle.champ_trie.proofs.GatherLemmas.{gather-same, parts-whole}
use Rattle.pool_text.specs.Rows.{Bytes}
use Rattle.pool_check.proofs.TestLemmas.{not-both}
use Rattle.pool_carry.specs.Computed.{TrieRow, trie_row, same_row, single, number_of, parts, trie_form, chain_rest, chain_form, form_of_row}
use Rattle.pool_carry.proofs.PartPlaces.{many, singles, manies, ones-many, place_for, place-part}
use Rattle.pool_carry.proofs.CanonRows.{by-bytes}
use Rattle.pool_carry.proofs.FirstRows.{are-same, same-depth, same-links}
use Rattle.pool_carry.proofs.NewRows.{EachEntry, each-part, IsEntryOf, IsNewRow}
use Rattle.pool_carry.proofs.RowsBelow.{IsPartIn, IsRestIn, EachPart, part-at, name_in, name-same, HasBelow}

-- what a trie row's form says
abbrev row_is_trie : Form Bytes → Bool
row_is_trie (node (trie _ _ _) _) = true
row_is_trie _ = false

abbrev row_depth : Form Bytes → ℕ
row_depth (node (trie d _ _) _) = d
row_depth _ = 0

abbrev row_entries : Form Bytes → ℕ
row_entries (node (trie _ e _) _) = e
row_entries _ = 0

abbrev row_nodes : Form Bytes → ℕ
row_nodes (node (trie _ _ n) _) = n
row_nodes _ = 0

abbrev row_links : Form Bytes → List ℕ
row_links row = links_of (Some row)

module _ (deepest : ℕ) (code : Bytes → ℕ) (N : ℕ) (R : List TrieRow) (F : Forms Bytes) where
  -- links tell the entries
  pub links-told : (E D : List (Entry Bytes)) → EachEntry (IsEntryOf F N) E → EachEntry (IsEntryOf F N) D → map (λ (e : Entry Bytes). e.link) E ≡ map (λ (e : Entry Bytes). e.link) D → E ≡ D
  links-told [] [] are are' same = refl
  links-told [] (d ∷ ds) are are' same = absurd cc
  links-told (e ∷ es) [] are are' same = absurd cc
  links-told (e ∷ es) (d ∷ ds) are are' same =
      let link : e.link ≡ d.link = cc in
      let rest : map (λ (x : Entry Bytes). x.link) es ≡ map (λ (x : Entry Bytes). x.link) ds = cc in
      let key : e.key ≡ d.key = (let both : Some e.key ≡ Some d.key = sym (are.0.key) ∙ ap (key_at F) link ∙ are'.0.key in cc) in
      ap (λ k. entry k e.link ∷ es) key ∙ ap (λ l. entry d.key l ∷ es) link ∙ ap (λ xs. d ∷ xs) (links-told es ds are.1 are'.1 rest)

  -- so the same row is one row
  pub row-told : (r s : TrieRow) → IsNewRow F N r → IsNewRow F N s → same_row r s ≡ true → r ≡ s
  row-told r s new new' same =
      ap (λ d. trie_row d r.entries) (same-depth r s same) ∙ ap (trie_row s.depth) (links-told r.entries s.entries new.entries new'.entries (same-links r s same))

  -- what stands for entries of one digit tells them
  part-told : (depth : ℕ) (P Q : List (Entry Bytes)) → EachEntry (IsEntryOf F N) P → EachEntry (IsEntryOf F N) Q → IsPartIn R depth P → IsPartIn R depth Q
      → place_for (λ S. name_in N R (trie_row (suc depth) S)) P ≡ place_for (λ S. name_in N R (trie_row (suc depth) S)) Q → P ≡ Q
  part-told depth [] [] are are' has has' same = refl
  part-told depth [] (d ∷ []) are are' has has' same = absurd (let clash : Empty ≡ At d.link = same in cc)
  part-told depth [] (d ∷ d' ∷ ds) are are' has has' same = absurd (let clash : Empty ≡ Node (name_in N R (trie_row (suc depth) (d ∷ d' ∷ ds))) = same in cc)
  part-told depth (e ∷ []) [] are are' has has' same = absurd (let clash : At e.link ≡ Empty = same in cc)
  part-told depth (e ∷ []) (d ∷ []) are are' has has' same =
      let both : At e.link ≡ At d.link = same in
      let link : e.link ≡ d.link = cc in
      links-told (e ∷ []) (d ∷ []) are are' (ap (λ l. l ∷ []) link)
  part-told depth (e ∷ []) (d ∷ d' ∷ ds) are are' has has' same = absurd (let clash : At e.link ≡ Node (name_in N R (trie_row (suc depth) (d ∷ d' ∷ ds))) = same in cc)
  part-told depth (e ∷ e' ∷ es) [] are are' has has' same = absurd (let clash : Node (name_in N R (trie_row (suc depth) (e ∷ e' ∷ es))) ≡ Empty = same in cc)
  part-told depth (e ∷ e' ∷ es) (d ∷ []) are are' has has' same = absurd (let clash : Node (name_in N R (trie_row (suc depth) (e ∷ e' ∷ es))) ≡ At d.link = same in cc)
  part-told depth (e ∷ e' ∷ es) (d ∷ d' ∷ ds) are are' has has' same =
      let both : Node (name_in N R (trie_row (suc depth) (e ∷ e' ∷ es))) ≡ Node (name_in N R (trie_row (suc depth) (d ∷ d' ∷ ds))) = same in
      let names : name_in N R (trie_row (suc depth) (e ∷ e' ∷ es)) ≡ name_in N R (trie_row (suc depth) (d ∷ d' ∷ ds)) = cc in
      let rows = name-same N R (trie_row (suc depth) (e ∷ e' ∷ es)) (trie_row (suc depth) (d ∷ d' ∷ ds)) has has' names in
      links-told (e ∷ e' ∷ es) (d ∷ d' ∷ ds) are are' (same-links (trie_row (suc depth) (e ∷ e' ∷ es)) (trie_row (suc depth) (d ∷ d' ∷ ds)) rows)

  module _ (depth : ℕ) (E D : List (Entry Bytes)) (are : EachEntry (IsEntryOf F N) E) (are' : EachEntry (IsEntryOf F N) D)
      (has : EachPart (IsPartIn R depth) (parts code depth E)) (has' : EachPart (IsPartIn R depth) (parts code depth D))
      (same : trie_form deepest code (name_in N R) depth (parts code depth E) ≡ trie_form deepest code (name_in N R) depth (parts code depth D)) where
    abbrev below_name : List (Entry Bytes) → ℕ
    below_name S = name_in N R (trie_row (suc depth) S)

    all : (C : List (Entry Bytes)) → length (parts code depth C) ≡ 32
    all C = length-map-range_with_len (λ p. part by-bytes code depth p C) 0 32

    at : (C : List (Entry Bytes)) (p : ℕ) → p < 32 → get_or (parts code depth C) p [] ≡ part by-bytes code depth p C
    at C p low = get_or-map-range_with_len (λ q. part by-bytes code depth q C) 0 32 p p [] low (omega arith)

    each-at : (C : List (Entry Bytes)) → EachEntry (IsEntryOf F N) C → (p : ℕ) → p < 32 → EachEntry (IsEntryOf F N) (get_or (parts code depth C) p [])
    each-at C each p low = subst (EachEntry (IsEntryOf F N)) (sym (at C p low)) (each-part (IsEntryOf F N) (λ e. nat_eq (digit_at (code e.key) depth) p) C each)

    entries-same : singles below_name (parts code depth E) ≡ singles below_name (parts code depth D)
    entries-same = ap row_entries same

    nodes-same : manies below_name (parts code depth E) ≡ manies below_name (parts code depth D)
    nodes-same = sym (ap number_of (ones-many below_name (parts code depth E))) ∙ ap row_nodes same ∙ ap number_of (ones-many below_name (parts code depth D))

    abbrev links_below : List (Entry Bytes) → List ℕ
    links_below C = flat_map single (parts code depth C) ++ flat_map (many below_name) (parts code depth C)

    links-same : links_below E ≡ links_below D
    links-same = ap row_links same

    place-same : (p : ℕ) → p < 32 → place_for below_name (get_or (parts code depth E) p []) ≡ place_for below_name (get_or (parts code depth D) p [])
    place-same p low =
        sym (place-part below_name (parts code depth E) (all E) p low (get_or (parts code depth E) p []) refl)
        ∙ ap (λ s. place_of s (manies below_name (parts code depth E)) (links_below E) p) entries-same
        ∙ ap (λ s. place_of (singles below_name (parts code depth D)) s (links_below E) p) nodes-same
        ∙ ap (λ ks. place_of (singles below_name (parts code depth D)) (manies below_name (parts code depth D)) ks p) links-same
        ∙ place-part below_name (parts code depth D) (all D) p low (get_or (parts code depth D) p []) refl

    parts-same : (p : ℕ) → p < 32 → part by-bytes code depth p E ≡ part by-bytes code depth p D
    parts-same p low =
        sym (at E p low)
        ∙ part-told depth (get_or (parts code depth E) p []) (get_or (parts code depth D) p []) (each-at E are p low) (each-at D are' p low)
        (part-at (IsPartIn R depth) (parts code depth E) has p (omega (arith, all E, low))) (part-at (IsPartIn R depth) (parts code depth D) has' p (omega (arith, all D, low))) (place-same p low)
        ∙ at D p low

    -- a trie row's form tells its entries
    pub trie-told : IsRising by-bytes E → IsRising by-bytes D → E ≡ D
    trie-told rising rising' =
        let whole : SameSet E D =
        same_through _ _ _ (same-sym _ _ (parts-whole by-bytes code depth E))
        (subst (λ xs. SameSet xs D) (sym (gather-same (λ p. part by-bytes code depth p E) (λ p. part by-bytes code depth p D) 32 parts-same)) (parts-whole by-bytes code depth D)) in
        rising-unique by-bytes nat_list_cmp_total E D rising rising' whole

  -- a chain row's form tells its links
  rest-told : (depth depth' : ℕ) (e d : Entry Bytes) (es ds : List (Entry Bytes)) → IsRestIn R depth (e ∷ es) → IsRestIn R depth' (d ∷ ds)
      → chain_rest deepest code (name_in N R) depth es ≡ chain_rest deepest code (name_in N R) depth' ds → map (λ (x : Entry Bytes). x.link) es ≡ map (λ (x : Entry Bytes). x.link) ds
  rest-told depth depth' e d [] [] has has' same = refl
  rest-told depth depth' e d [] (y ∷ ys) has has' same = absurd (let clash : [] ≡ name_in N R (trie_row depth' (y ∷ ys)) ∷ [] = same in cc)
  rest-told depth depth' e d (x ∷ xs) [] has has' same = absurd (let clash : name_in N R (trie_row depth (x ∷ xs)) ∷ [] ≡ [] = same in cc)
  rest-told depth depth' e d (x ∷ xs) (y ∷ ys) has has' same =
      let both : name_in N R (trie_row depth (x ∷ xs)) ∷ [] ≡ name_in N R (trie_row depth' (y ∷ ys)) ∷ [] = same in
      let names : name_in N R (trie_row depth (x ∷ xs)) ≡ name_in N R (trie_row depth' (y ∷ ys)) = cc in
      same-links (trie_row depth (x ∷ xs)) (trie_row depth' (y ∷ ys)) (name-same N R (trie_row depth (x ∷ xs)) (trie_row depth' (y ∷ ys)) has has' names)

  chain-told : (depth depth' : ℕ) (E D : List (Entry Bytes)) → IsRestIn R depth E → IsRestIn R depth' D
      → chain_form deepest code (name_in N R) depth E ≡ chain_form deepest code (name_in N R) depth' D → map (λ (x : Entry Bytes). x.link) E ≡ map (λ (x : Entry Bytes). x.link) D
  chain-told depth depth' [] [] has has' same = refl
  chain-told depth depth' [] (d ∷ ds) has has' same = absurd (let clash : [] ≡ d.link ∷ chain_rest deepest code (name_in N R) depth' ds = ap row_links same in cc)
  chain-told depth depth' (e ∷ es) [] has has' same = absurd (let clash : e.link ∷ chain_rest deepest code (name_in N R) depth es ≡ [] = ap row_links same in cc)
  chain-told depth depth' (e ∷ es) (d ∷ ds) has has' same =
      let both : e.link ∷ chain_rest deepest code (name_in N R) depth es ≡ d.link ∷ chain_rest deepest code (name_in N R) depth' ds = ap row_links same in
      let link : e.link ≡ d.link = cc in
      let rests : chain_rest deepest code (name_in N R) depth es ≡ chain_rest deepest code (name_in N R) depth' ds = cc in
      ap (λ l. l ∷ map (λ (x : Entry Bytes). x.link) es) link ∙ ap (λ ls. d.link ∷ ls) (rest-told depth depth' e d es ds has has' rests)

  not-chain : (depth : ℕ) (E : List (Entry Bytes)) → row_is_trie (chain_form deepest code (name_in N R) depth E) ≡ true → ⊥
  not-chain depth [] is = not-both is
  not-chain depth (e ∷ es) is = not-both is

  abbrev trie_of : ℕ → List (Entry Bytes) → Form Bytes
  trie_of depth E = trie_form deepest code (name_in N R) depth (parts code depth E)

  abbrev chain_of : ℕ → List (Entry Bytes) → Form Bytes
  chain_of depth E = chain_form deepest code (name_in N R) depth E

  -- rows with one form are the same
  pub form-told : (r s : TrieRow) → IsNewRow F N r → IsNewRow F N s → HasBelow deepest code R r → HasBelow deepest code R s
      → form_of_row deepest code (name_in N R) r ≡ form_of_row deepest code (name_in N R) s → same_row r s ≡ true
  form-told r s new new' has has' same = by_depths (nat_le r.depth deepest) refl (nat_le s.depth deepest) refl same
    where
      by_depths : (a : Bool) → nat_le r.depth deepest ≡ a → (b : Bool) → nat_le s.depth deepest ≡ b
          → cond a (trie_of r.depth r.entries) (chain_of r.depth r.entries) ≡ cond b (trie_of s.depth s.entries) (chain_of s.depth s.entries) → same_row r s ≡ true
      by_depths true first true second both =
          let depths : r.depth ≡ s.depth = ap row_depth both in
          let forms : trie_of r.depth r.entries ≡ trie_of r.depth s.entries = both ∙ ap (λ d. trie_of d s.entries) (sym depths) in
          let lower' : EachPart (IsPartIn R r.depth) (parts code r.depth s.entries) =
          subst (λ d. EachPart (IsPartIn R d) (parts code d s.entries)) (sym depths) (has'.lower (leb-true s.depth deepest second)) in
          let entries : r.entries ≡ s.entries =
          trie-told r.depth r.entries s.entries new.entries new'.entries (has.lower (leb-true r.depth deepest first)) lower' forms new.rising new'.rising in
          are-same r s depths (ap (map (λ (x : Entry Bytes). x.link)) entries)
      by_depths true first false second both = absurd (not-chain s.depth s.entries (sym (ap row_is_trie both)))
      by_depths false first true second both = absurd (not-chain r.depth r.entries (ap row_is_trie both))
      by_depths false first false second both =
          let deep : r.depth ≡ deepest + 1 = omega (arith, has.deep, leb-false r.depth deepest first) in
          let deep' : s.depth ≡ deepest + 1 = omega (arith, has'.deep, leb-false s.depth deepest second) in
          are-same r s (deep ∙ sym deep') (chain-told r.depth s.depth r.entries s.entries (has.rest deep) (has'.rest deep') both)
