-- Matched rows are of one kind and have matched links.
use Rattle.std.proofs.Common.{◌≡◌, ℕ, zero, suc, ◌+◌, ◌<◌, refl, ap, sym, subst, ◌∙◌, arith, inl, inr, Bool, true, false, cond, List, [], ◌∷◌, ◌++◌, map, take, drop, Option, Some, None, option_map}
use Rattle.std.specs.Prelude.{nat_eq, option_to_list}
use Rattle.std.specs.List.{AllZip}
use Rattle.std.specs.Ordering.{nat_cmp}
use Rattle.std.specs.Cmp.Lexicographic.{slice_cmp}
use Rattle.std.proofs.lemmas.Cmp.{nat_list_cmp_total}
use Rattle.std.proofs.lemmas.List.{take-append-drop}
use Rattle.elem_core.specs.Codes.{digit_at}
use Rattle.node_heap.specs.Links.{count, HasLink}
use Rattle.node_heap.specs.Forms.{Form, Forms, cell, node, trie, chain, links_of, links_in}
use Rattle.node_heap.proofs.Counts.{count-cons, test_same}
use Rattle.champ_chain.specs.Entry.{Entry, entry, SameSet, same_through}
use Rattle.champ_chain.specs.Chain.{AreChainRows, AreAbove, IsRising, IsChain}
use Rattle.champ_chain.proofs.SetLemmas.{same-sym}
use Rattle.champ_chain.proofs.RisingLemmas.{rising-unique}
use Rattle.champ_trie.specs.Bits.{rank}
use Rattle.champ_trie.specs.Trie.{IsPlace, IsTrie, part, place_of, code_by}
use Rattle.champ_trie.specs.declared.place.Place.{Place}
use Rattle.champ_trie.specs.declared.place.Place.TheVariants.{Entry as At, Node, Empty}
use Rattle.champ_trie.proofs.GatherLemmas.{gather, entry_links, node_links, entries-gather, nodes-gather, same-map}
use Rattle.champ_trie.proofs.CanonLemmas.{same-lift, same-sets}
use Rattle.pool_text.specs.Rows.{Bytes}
use Rattle.pool_text.specs.Rules.{Rules}
use Rattle.pool_text.specs.Pool.{forms_in, row_count, relink}
use Rattle.pool_text.specs.declared.pool.Pool.{Pool}
use Rattle.pool_check.specs.Tries.{entries_below}
use Rattle.pool_check.specs.Readings.{moved}
use Rattle.pool_carry.specs.Carried.{is_of_trie, AreImages}
use Rattle.pool_carry.proofs.OneRow.{is_entry, is_node, has-entry, has-node}
use Rattle.pool_carry.proofs.Related.{Alike, zip-append}
use Rattle.pool_carry.proofs.Matched.{EachOwn, own-same, LeadsToOwn, AreMatched, own_matched, trie_matched, chain_matched}

zip-gather : (R : ℕ → ℕ → Type 0) (f g : ℕ → List ℕ) (n : ℕ) → ((p : ℕ) → p < n → AllZip R (f p) (g p)) → AllZip R (gather f n) (gather g n)
zip-gather R f g zero each = tt
zip-gather R f g (suc n) each = zip-append R (gather f n) (gather g n) (f n) (g n) (zip-gather R f g n (λ p low. each p (omega (arith, low)))) (each n (omega arith))

pub zip-mapped : (R : ℕ → ℕ → Type 0) (f g : ℕ → ℕ) (ks : List ℕ) → ((k : ℕ) → 0 < count k ks → R (f k) (g k)) → AllZip R (map f ks) (map g ks)
zip-mapped R f g [] each = tt
zip-mapped R f g (k ∷ ks) each =
    (each k (omega (arith, count-cons k k ks, test_same k k refl)), zip-mapped R f g ks (λ j there. each j (omega (arith, there, count-cons j k ks))))

-- a row with other links and with others yet
own-alike : (R : ℕ → ℕ → Type 0) (f g : ℕ → ℕ) (r : Option (Form Bytes)) → ((k : ℕ) → 0 < count k (links_of r) → R (f k) (g k)) → Alike R (option_map (relink f) r) (option_map (relink g) r)
own-alike R f g None each = tt
own-alike R f g (Some (cell x)) each = refl
own-alike R f g (Some (node kind links)) each = (refl, zip-mapped R f g links each)

-- the part of entries under new names
part-moved : (code : Bytes → ℕ) (depth p : ℕ) (f : ℕ → ℕ) (E : List (Entry Bytes)) → part (slice_cmp nat_cmp) code depth p (map (moved f) E) ≡ map (moved f) (part (slice_cmp nat_cmp) code depth p E)
part-moved code depth p f [] = refl
part-moved code depth p f (e ∷ es) = by_test (nat_eq (digit_at (code e.key) depth) p) (part-moved code depth p f es)
  where
    by_test : (b : Bool) → part (slice_cmp nat_cmp) code depth p (map (moved f) es) ≡ map (moved f) (part (slice_cmp nat_cmp) code depth p es)
        → cond b (moved f e ∷ part (slice_cmp nat_cmp) code depth p (map (moved f) es)) (part (slice_cmp nat_cmp) code depth p (map (moved f) es)) ≡ map (moved f) (cond b (e ∷ part (slice_cmp nat_cmp) code depth p es) (part (slice_cmp nat_cmp) code depth p es))
    by_test true rest = ap (λ xs. moved f e ∷ xs) rest
    by_test false rest = rest

-- entries rise under whatever names
above-moved : (f g : ℕ → ℕ) (key : Bytes) (E : List (Entry Bytes)) → AreAbove (slice_cmp nat_cmp) key (map (moved f) E) → AreAbove (slice_cmp nat_cmp) key (map (moved g) E)
above-moved f g key [] above = tt
above-moved f g key (e ∷ es) above = (above.0, above-moved f g key es above.1)

rising-moved : (f g : ℕ → ℕ) (E : List (Entry Bytes)) → IsRising (slice_cmp nat_cmp) (map (moved f) E) → IsRising (slice_cmp nat_cmp) (map (moved g) E)
rising-moved f g [] rising = tt
rising-moved f g (e ∷ es) rising = (above-moved f g e.key es rising.0, rising-moved f g es rising.1)

module _ (to : Rules) (bits : ℕ) (P : Pool) (f : ℕ → ℕ) (G : Forms Bytes) (images : AreImages to bits P f G) (g : ℕ → ℕ) (H : Forms Bytes) (others : AreImages to bits P g H) where
  abbrev pub R : ℕ → ℕ → Type 0
  R = AreMatched to bits P f G g H

  abbrev code : Bytes → ℕ
  code = code_by to.code_of bits

  own-part : (depth p : ℕ) (E : List (Entry Bytes)) → EachOwn to bits P E → EachOwn to bits P (part (slice_cmp nat_cmp) code depth p E)
  own-part depth p [] each = tt
  own-part depth p (e ∷ es) each = by_test (nat_eq (digit_at (code e.key) depth) p) (own-part depth p es each.2)
    where
      by_test : (b : Bool) → EachOwn to bits P (part (slice_cmp nat_cmp) code depth p es) → EachOwn to bits P (cond b (e ∷ part (slice_cmp nat_cmp) code depth p es) (part (slice_cmp nat_cmp) code depth p es))
      by_test true rest = (each.0, each.1, rest)
      by_test false rest = rest

  own-set : (E D : List (Entry Bytes)) → SameSet E D → EachOwn to bits P E → EachOwn to bits P D
  own-set E D same each = own-same to bits P E D same each

  -- what stands in the place of one part
  abbrev PlacesMatch : Place → Place → Type 0
  PlacesMatch Empty Empty = Unit {0}
  PlacesMatch (At x) (At y) = R x y
  PlacesMatch (Node k) (Node l) = R k l
  PlacesMatch _ _ = ⊥

  -- chains of the same entries
  chains-match : (k l : ℕ) (Q : List (Entry Bytes)) → EachOwn to bits P Q → IsChain (slice_cmp nat_cmp) G k (map (moved f) Q) → IsChain (slice_cmp nat_cmp) H l (map (moved g) Q) → R k l
  chains-match k l Q each here there =
      let lift = same-lift (moved f) Q (map (moved f) Q) here.entries refl (same-sym _ _ here.same) in
      let same : map (moved g) lift.0 ≡ there.entries =
      rising-unique (slice_cmp nat_cmp) nat_list_cmp_total (map (moved g) lift.0) there.entries (rising-moved f g lift.0 (subst (IsRising (slice_cmp nat_cmp)) (sym lift.2) here.rising)) there.rising
      (same_through _ (map (moved g) Q) _ (same-map (moved g) lift.0 Q (same-sym _ _ lift.1)) (same-sym _ _ there.same)) in
      chain_matched lift.0 (own-set Q lift.0 lift.1 each) (subst (AreChainRows G (Some k)) (sym lift.2) here.rows) (subst (AreChainRows H (Some l)) (sym same) there.rows)

  nodes-match : (left depth k l : ℕ) (Q : List (Entry Bytes)) → EachOwn to bits P Q → depth + left ≡ to.deepest + 1
      → IsTrie (slice_cmp nat_cmp) code G left depth k (map (moved f) Q) → IsTrie (slice_cmp nat_cmp) code H left depth l (map (moved g) Q) → R k l
  unfolding IsTrie
  nodes-match zero depth k l Q each levels here there = chains-match k l Q each here there
  nodes-match (suc left) depth k l Q each levels here there = trie_matched left depth Q each levels here there

  places-match : (left depth : ℕ) → suc depth + left ≡ to.deepest + 1 → (q r : Place) (Q : List (Entry Bytes)) → EachOwn to bits P Q
      → IsPlace G (λ j X. IsTrie (slice_cmp nat_cmp) code G left (suc depth) j X) q (map (moved f) Q) → IsPlace H (λ j X. IsTrie (slice_cmp nat_cmp) code H left (suc depth) j X) r (map (moved g) Q) → PlacesMatch q r
  places-match left depth levels Empty Empty Q each is is' = tt
  places-match left depth levels Empty (At y) [] each is is' = absurd (let no = is'.1 in cc)
  places-match left depth levels Empty (At y) (e ∷ Q) each is is' = absurd cc
  places-match left depth levels Empty (Node l) [] each is is' = absurd (omega (arith, is'.0))
  places-match left depth levels Empty (Node l) (e ∷ Q) each is is' = absurd cc
  places-match left depth levels (At x) Empty [] each is is' = absurd (let no = is.1 in cc)
  places-match left depth levels (At x) Empty (e ∷ Q) each is is' = absurd cc
  places-match left depth levels (At x) (At y) [] each is is' = absurd (let no = is.1 in cc)
  places-match left depth levels (At x) (At y) (e ∷ Q) each is is' =
      let here : moved f e ≡ entry is.0 x = (let both = is.1 in cc) in
      let there : moved g e ≡ entry is'.0 y = (let both = is'.1 in cc) in
      own_matched e.link each.0 each.1 (sym (ap (λ (d : Entry Bytes). d.link) here)) (sym (ap (λ (d : Entry Bytes). d.link) there))
  places-match left depth levels (At x) (Node l) [] each is is' = absurd (omega (arith, is'.0))
  places-match left depth levels (At x) (Node l) (e ∷ []) each is is' = absurd (omega (arith, is'.0))
  places-match left depth levels (At x) (Node l) (e ∷ d ∷ Q) each is is' = absurd (let no = is.1 in cc)
  places-match left depth levels (Node k) Empty [] each is is' = absurd (omega (arith, is.0))
  places-match left depth levels (Node k) Empty (e ∷ Q) each is is' = absurd cc
  places-match left depth levels (Node k) (At y) [] each is is' = absurd (omega (arith, is.0))
  places-match left depth levels (Node k) (At y) (e ∷ []) each is is' = absurd (omega (arith, is.0))
  places-match left depth levels (Node k) (At y) (e ∷ d ∷ Q) each is is' = absurd (let no = is'.1 in cc)
  places-match left depth levels (Node k) (Node l) Q each is is' = nodes-match left (suc depth) k l Q each levels is.1 is'.1

  entries-zip : (q r : Place) → PlacesMatch q r → AllZip R (entry_links q) (entry_links r)
  entries-zip Empty Empty match = tt
  entries-zip Empty (At y) match = absurd match
  entries-zip Empty (Node l) match = absurd match
  entries-zip (At x) Empty match = absurd match
  entries-zip (At x) (At y) match = (match, tt)
  entries-zip (At x) (Node l) match = absurd match
  entries-zip (Node k) Empty match = absurd match
  entries-zip (Node k) (At y) match = absurd match
  entries-zip (Node k) (Node l) match = tt

  nodes-zip : (q r : Place) → PlacesMatch q r → AllZip R (node_links q) (node_links r)
  nodes-zip Empty Empty match = tt
  nodes-zip Empty (At y) match = absurd match
  nodes-zip Empty (Node l) match = absurd match
  nodes-zip (At x) Empty match = absurd match
  nodes-zip (At x) (At y) match = tt
  nodes-zip (At x) (Node l) match = absurd match
  nodes-zip (Node k) Empty match = absurd match
  nodes-zip (Node k) (At y) match = absurd match
  nodes-zip (Node k) (Node l) match = (match, tt)

  entries-agree : (q r : Place) → PlacesMatch q r → is_entry q ≡ is_entry r
  entries-agree Empty Empty match = refl
  entries-agree Empty (At y) match = absurd match
  entries-agree Empty (Node l) match = absurd match
  entries-agree (At x) Empty match = absurd match
  entries-agree (At x) (At y) match = refl
  entries-agree (At x) (Node l) match = absurd match
  entries-agree (Node k) Empty match = absurd match
  entries-agree (Node k) (At y) match = absurd match
  entries-agree (Node k) (Node l) match = refl

  nodes-agree : (q r : Place) → PlacesMatch q r → is_node q ≡ is_node r
  nodes-agree Empty Empty match = refl
  nodes-agree Empty (At y) match = absurd match
  nodes-agree Empty (Node l) match = absurd match
  nodes-agree (At x) Empty match = absurd match
  nodes-agree (At x) (At y) match = refl
  nodes-agree (At x) (Node l) match = absurd match
  nodes-agree (Node k) Empty match = absurd match
  nodes-agree (Node k) (At y) match = absurd match
  nodes-agree (Node k) (Node l) match = refl

  -- rows of tries
  tries-alike : (left depth a b : ℕ) (E : List (Entry Bytes)) → EachOwn to bits P E → depth + suc left ≡ to.deepest + 1
      → IsTrie (slice_cmp nat_cmp) code G (suc left) depth a (map (moved f) E) → IsTrie (slice_cmp nat_cmp) code H (suc left) depth b (map (moved g) E) → Alike R (G a) (H b)
  unfolding IsTrie
  tries-alike left depth a b E each levels is is' =
      subst (λ r. Alike R r (H b)) (sym is.row.row) (subst (λ r. Alike R (Some (node (trie depth is.entries is.nodes) is.links)) r) (sym is'.row.row) (kinds, links))
    where
      here : ℕ → Place
      here p = place_of is.entries is.nodes is.links p

      there : ℕ → Place
      there p = place_of is'.entries is'.nodes is'.links p

      match : (p : ℕ) → p < 32 → PlacesMatch (here p) (there p)
      match p low =
          places-match left depth (omega (arith, levels)) (here p) (there p) (part (slice_cmp nat_cmp) code depth p E) (own-part depth p E each)
          (subst (IsPlace G (λ j X. IsTrie (slice_cmp nat_cmp) code G left (suc depth) j X) (here p)) (part-moved code depth p f E) (is.places p low))
          (subst (IsPlace H (λ j X. IsTrie (slice_cmp nat_cmp) code H left (suc depth) j X) (there p)) (part-moved code depth p g E) (is'.places p low))

      entries_same : is.entries ≡ is'.entries
      entries_same = same-sets is.entries is'.entries is.row.sets.entries_small is'.row.sets.entries_small
          (λ p low. has-entry is.entries is.nodes is.links p ∙ entries-agree (here p) (there p) (match p low) ∙ sym (has-entry is'.entries is'.nodes is'.links p))

      nodes_same : is.nodes ≡ is'.nodes
      nodes_same = same-sets is.nodes is'.nodes is.row.sets.nodes_small is'.row.sets.nodes_small
          (λ p low. has-node is.entries is.nodes is.links is.row.sets p low ∙ nodes-agree (here p) (there p) (match p low) ∙ sym (has-node is'.entries is'.nodes is'.links is'.row.sets p low))

      kinds : trie depth is.entries is.nodes ≡ trie depth is'.entries is'.nodes
      kinds = ap (λ x. trie depth x is.nodes) entries_same ∙ ap (trie depth is'.entries) nodes_same

      first : AllZip R (take (rank is.entries 32) is.links) (take (rank is'.entries 32) is'.links)
      first =
          subst (λ xs. AllZip R xs (take (rank is'.entries 32) is'.links)) (sym (entries-gather is.entries is.nodes is.links is.row.sets))
          (subst (λ ys. AllZip R (gather (λ p. entry_links (here p)) 32) ys) (sym (entries-gather is'.entries is'.nodes is'.links is'.row.sets))
          (zip-gather R (λ p. entry_links (here p)) (λ p. entry_links (there p)) 32 (λ p low. entries-zip (here p) (there p) (match p low))))

      rest : AllZip R (drop (rank is.entries 32) is.links) (drop (rank is'.entries 32) is'.links)
      rest =
          subst (λ xs. AllZip R xs (drop (rank is'.entries 32) is'.links)) (sym (nodes-gather is.entries is.nodes is.links is.row.sets))
          (subst (λ ys. AllZip R (gather (λ p. node_links (here p)) 32) ys) (sym (nodes-gather is'.entries is'.nodes is'.links is'.row.sets))
          (zip-gather R (λ p. node_links (here p)) (λ p. node_links (there p)) 32 (λ p low. nodes-zip (here p) (there p) (match p low))))

      links : AllZip R is.links is'.links
      links =
          subst (λ xs. AllZip R xs is'.links) (take-append-drop (rank is.entries 32) is.links)
          (subst (λ ys. AllZip R (take (rank is.entries 32) is.links ++ drop (rank is.entries 32) is.links) ys) (take-append-drop (rank is'.entries 32) is'.links)
          (zip-append R (take (rank is.entries 32) is.links) (take (rank is'.entries 32) is'.links) (drop (rank is.entries 32) is.links) (drop (rank is'.entries 32) is'.links) first rest))

  -- chain rows
  chains-alike : (a b : ℕ) (es : List (Entry Bytes)) → EachOwn to bits P es → AreChainRows G (Some a) (map (moved f) es) → AreChainRows H (Some b) (map (moved g) es) → Alike R (G a) (H b)
  unfolding AreChainRows
  chains-alike a b [] each rows rows' = absurd cc
  chains-alike a b (e ∷ es) each rows rows' =
      let here : a ≡ rows.link = (let both : Some a ≡ Some rows.link = rows.here in cc) in
      let there : b ≡ rows'.link = (let both : Some b ≡ Some rows'.link = rows'.here in cc) in
      subst (λ r. Alike R r (H b)) (sym (ap G here ∙ rows.row)) (subst (λ r. Alike R (Some (node chain (f e.link ∷ option_to_list rows.next))) r) (sym (ap H there ∙ rows'.row))
      (refl, (own_matched e.link each.0 each.1 refl refl, rests es each.2 rows.next rows'.next rows.rest rows'.rest)))
    where
      rests : (ds : List (Entry Bytes)) → EachOwn to bits P ds → (o p : Option ℕ) → AreChainRows G o (map (moved f) ds) → AreChainRows H p (map (moved g) ds) → AllZip R (option_to_list o) (option_to_list p)
      rests [] own o p more more' = subst (λ x. AllZip R (option_to_list x) (option_to_list p)) (sym more) (subst (λ x. AllZip R (option_to_list None) (option_to_list x)) (sym more') tt)
      rests (d ∷ ds) own o p more more' =
          subst (λ x. AllZip R (option_to_list x) (option_to_list p)) (sym more.here) (subst (λ x. AllZip R (option_to_list (Some more.link)) (option_to_list x)) (sym more'.here)
          (chain_matched (d ∷ ds) own (subst (λ x. AreChainRows G x (map (moved f) (d ∷ ds))) more.here more) (subst (λ x. AreChainRows H x (map (moved g) (d ∷ ds))) more'.here more'), tt))

  pub image-match : (k : ℕ) → LeadsToOwn to bits P k → R (f k) (g k)
  image-match k leads = elim leads.kind as (λ _. R (f k) (g k)) [
    | inl own ↦ own_matched k leads.low own refl refl
    | inr root ↦ trie_matched to.deepest 0 (entries_below (row_count P) (forms_in P) k) root.1 (omega arith)
        (subst (λ n. IsTrie (slice_cmp nat_cmp) code G n 0 (f k) (map (moved f) (entries_below (row_count P) (forms_in P) k))) one-more (images.tries k leads.low root.0).trie)
        (subst (λ n. IsTrie (slice_cmp nat_cmp) code H n 0 (g k) (map (moved g) (entries_below (row_count P) (forms_in P) k))) one-more (others.tries k leads.low root.0).trie)
  ]
    where
      one-more : to.deepest + 1 ≡ suc to.deepest
      one-more = omega arith

  -- Where each link of an own row leads to an own row or to the root of a trie of own entries, matched rows are alike.
  module _ (leads : (l k : ℕ) → l < row_count P → is_of_trie (forms_in P l) ≡ false → HasLink (links_in (forms_in P)) l k → LeadsToOwn to bits P k) where
    pub match-alike : (a b : ℕ) → R a b → Alike R (G a) (H b)
    match-alike a b (own_matched l low own is is') =
        subst (λ r. Alike R r (H b)) (sym (ap G is ∙ images.own l low own)) (subst (λ r. Alike R (option_map (relink f) (forms_in P l)) r) (sym (ap H is' ∙ others.own l low own))
        (own-alike R f g (forms_in P l) (λ k there. image-match k (leads l k low own there))))
    match-alike a b (trie_matched left depth E each levels is is') = tries-alike left depth a b E each levels is is'
    match-alike a b (chain_matched es each rows rows') = chains-alike a b es each rows rows'
