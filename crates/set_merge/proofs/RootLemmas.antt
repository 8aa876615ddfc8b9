-- The merge of two roots.
use Rattle.std.proofs.Common.{◌≡◌, ◌≢◌, ℕ, zero, suc, ◌+◌, ◌*◌, ◌<◌, ◌≤◌, List, [], ◌∷◌, length, drop, refl, ap, sym, subst, ◌∙◌, arith, true, false, cond, IsSome, inl, inr, ◌⊎◌}
use Rattle.std.specs.Prelude.{◌==◌}
use Rattle.std.specs.Option.{option_map}
use Rattle.std.specs.Cmp.{IsTotalOrder}
use Rattle.std.specs.declared.cmp.Ordering.{Ordering}
use Rattle.std.proofs.lemmas.Bool.{eq-eqb, ne_eqb}
use Rattle.elem_core.specs.declared.codes.TheConstants.{LEVELS, DEEPEST}
use Rattle.node_heap.specs.Links.{count, LeadsDown}
use Rattle.node_heap.specs.Forms.{form_of, links_of}
use Rattle.node_heap.specs.Heap.{Heap, form_at, row_at, IsGraph, row_limit}
use Rattle.node_heap.specs.Calls.{SameRows, Extends, Unchanged, HasGreater, Builds}
use Rattle.node_heap.proofs.Frames.{Extends-Unchanged}
use Rattle.node_heap.proofs.BuildLemmas.{count-cons, Builds-made}
use Rattle.champ_chain.specs.Entry.{Entry, AreDistinct}
use Rattle.champ_chain.proofs.FrameLemmas.{KeepsForms, links-form}
use Rattle.champ_trie.specs.Trie.{IsTrie, IsCanon, IsRow, part, code_by}
use Rattle.champ_trie.specs.Walk.{entry_count, row_links}
use Rattle.champ_trie.specs.declared.place.Place.TheVariants.{Empty, Node}
use Rattle.champ_trie.proofs.PartLemmas.{place-kept, row-kept}
use Rattle.champ_trie.proofs.WalkLemmas.{canon-fit}
use Rattle.champ_trie.proofs.StayLemmas.{canon-live}
use Rattle.same_value.specs.Apart.{HasApart}
use Rattle.set_merge.specs.declared.keeps.Keeps.{Keeps}
use Rattle.set_merge.specs.declared.spread.Spread.{Spread}
use Rattle.set_merge.specs.Side.{place_in}
use Rattle.set_merge.specs.Spread.{standing, IsBlank}
use Rattle.set_merge.specs.Merge.{merged}
use Rattle.set_merge.specs.Need.{rows_need, merge_need}
use Rattle.set_merge.specs.Walk.{AreSides, IsSpread}
use Rattle.set_merge.proofs.MergeLemmas.{merged-same, merged-distinct}
use Rattle.set_merge.proofs.NeedLemmas.{root-few, weigh-twelve}
use Rattle.set_merge.proofs.ApartLemmas.{rows-charged, roots-few}
use Rattle.set_merge.proofs.SpreadLemmas.{row-stands}
use Rattle.set_merge.proofs.WalkLemmas.{one-set}

drop-count : (k n : ℕ) (xs : List ℕ) → count k (drop n xs) ≤ count k xs
drop-count k zero xs = omega arith
drop-count k (suc n) [] = omega arith
drop-count k (suc n) (x ∷ xs) = omega (arith, count-cons k x xs, drop-count k n xs)

module _ {T : Type 0} where
  -- rows below a row are further down
  row-falls : (h : Heap T) (graph : IsGraph h) → LeadsDown graph.rank (row_links (form_at h))
  row-falls h graph l k has = graph.falls l k (omega (arith, has, drop-count k (entry_count (form_at h l)) (links_of (form_at h l)), ap (count k) (links-form h l)))

  -- the same rows are the same forms
  forms-equal : (old new : Heap T) → SameRows old new → form_at new ≡ form_at old
  forms-equal old new same = λ j l. option_map form_of (same l j)

  module _ (cmp : T → T → Ordering) (code_of : T → ℕ) (k : Keeps) where
    pub need-kept : (old new : Heap T) (bits a b : ℕ) → SameRows old new → merge_need cmp code_of k new bits a b ≡ merge_need cmp code_of k old bits a b
    need-kept old new bits a b same =
        ap (λ F. cond (a == b) (cond k.both 0 1) (rows_need cmp (code_by code_of bits) row_limit F k LEVELS 0 (Node a) (Node b))) (forms-equal old new same)

    pub need-one : (h : Heap T) (bits a b : ℕ) → a ≡ b → merge_need cmp code_of k h bits a b ≡ cond k.both 0 1
    need-one h bits a b same = ap (λ t. cond t (cond k.both 0 1) (rows_need cmp (code_by code_of bits) row_limit (form_at h) k LEVELS 0 (Node a) (Node b))) (eq-eqb a b same)

    pub need-two : (h : Heap T) (bits a b : ℕ) → a ≢ b → merge_need cmp code_of k h bits a b ≡ rows_need cmp (code_by code_of bits) row_limit (form_at h) k LEVELS 0 (Node a) (Node b)
    need-two h bits a b other = ap (λ t. cond t (cond k.both 0 1) (rows_need cmp (code_by code_of bits) row_limit (form_at h) k LEVELS 0 (Node a) (Node b))) (ne_eqb a b other)

  module _ (cmp : T → T → Ordering) (code : T → ℕ) (o : IsTotalOrder cmp) (k : Keeps) (h : Heap T) (a b : ℕ) (E D : List (Entry T)) (first : IsCanon cmp code (form_at h) a E) (second : IsCanon cmp code (form_at h) b D) where
    pub root-sides : AreSides cmp code (form_at h) LEVELS 0 (Node a) (Node b) E D
    root-sides = record { levels = omega arith; first = first.trie; second = second.trie; distinct = first.distinct; other_distinct = second.distinct }

    pub first-fits : IsGraph h → length E < row_limit
    first-fits graph = omega (arith, canon-fit cmp code o h a E first, graph.few_rows)

    pub second-fits : IsGraph h → length D < row_limit
    second-fits graph = omega (arith, canon-fit cmp code o h b D second, graph.few_rows)

    abbrev need : ℕ
    need = rows_need cmp code row_limit (form_at h) k LEVELS 0 (Node a) (Node b)

    pub need-entries : need ≤ 13 * (length E + length D) + 1
    need-entries = omega (arith, root-few cmp code (form_at h) k row_limit 12 0 (Node a) (Node b) E D first.trie second.trie, weigh-twelve (length E + length D))

    pub need-apart : IsGraph h → a ≢ b → (rows others : List ℕ) → HasApart (form_at h) a b rows → HasApart (form_at h) b a others → need ≤ 512 * (length rows + length others)
    need-apart graph other rows others has has' =
        roots-few (form_at h) a b need
        (rows-charged cmp code (form_at h) graph.rank (row-falls h graph) row_limit k LEVELS 0 (Node a) (Node b) E D
        (record { low = omega arith; first = first.trie; second = second.trie; fit = omega (arith, first-fits graph); other_fit = omega (arith, second-fits graph) }) other) rows others has has'

    pub one-merged : a ≡ b → merged cmp k E D ≡ cond k.both E []
    one-merged same = merged-same cmp o k E D (one-set cmp code (form_at h) LEVELS 0 a E D first.trie (subst (λ l. IsTrie cmp code (form_at h) LEVELS 0 l D) (sym same) second.trie))

    pub merged-apart : AreDistinct cmp (merged cmp k E D)
    merged-apart = merged-distinct cmp o k E D first.distinct second.distinct

    module _ (mid : Heap T) (s : Spread) (keeps : KeepsForms (form_at h) (form_at mid))
        (is : IsSpread cmp code row_limit k (form_at h) h mid DEEPEST 0 (Node a) (Node b) (merged cmp k E D) s 32) where
      -- a root that has just these positions
      pub root-first : s.as_first ≡ true → IsCanon cmp code (form_at mid) a (merged cmp k E D)
      unfolding IsTrie
      root-first so =
          let row = first.trie in
          record {
            trie = row-stands cmp code (form_at mid) DEEPEST 0 (standing s) (merged cmp k E D) is.places a row.entries row.nodes row.links
                (row-kept cmp code (form_at h) (form_at mid) keeps a 0 row.entries row.nodes row.links row.row) (λ p low. sym (is.as_first so p low ∙ ap (λ r. place_in r p) row.row.row));
            distinct = merged-apart;
          }

      pub root-second : s.as_second ≡ true → IsCanon cmp code (form_at mid) b (merged cmp k E D)
      unfolding IsTrie
      root-second so =
          let row = second.trie in
          record {
            trie = row-stands cmp code (form_at mid) DEEPEST 0 (standing s) (merged cmp k E D) is.places b row.entries row.nodes row.links
                (row-kept cmp code (form_at h) (form_at mid) keeps b 0 row.entries row.nodes row.links row.row) (λ p low. sym (is.as_second so p low ∙ ap (λ r. place_in r p) row.row.row));
            distinct = merged-apart;
          }

      pub root-stood : (root : ℕ) → ((s.as_first ≡ true) × (root ≡ a)) ⊎ ((s.as_second ≡ true) × (root ≡ b)) → IsCanon cmp code (form_at mid) root (merged cmp k E D)
      root-stood root (inl one) = subst (λ l. IsCanon cmp code (form_at mid) l (merged cmp k E D)) (sym one.1) (root-first one.0)
      root-stood root (inr two) = subst (λ l. IsCanon cmp code (form_at mid) l (merged cmp k E D)) (sym two.1) (root-second two.0)

      -- a new root
      pub root-made : (new : Heap T) (l : ℕ) → KeepsForms (form_at mid) (form_at new) → IsRow (form_at new) l 0 s.row.entries s.row.nodes s.row.links → IsCanon cmp code (form_at new) l (merged cmp k E D)
      root-made new l later row = record {
        trie = row-stands cmp code (form_at new) DEEPEST 0 (standing s) (merged cmp k E D)
            (λ p low. place-kept cmp code (form_at mid) (form_at new) later DEEPEST 1 (standing s p) (part cmp code 0 p (merged cmp k E D)) (is.places p low)) l s.row.entries s.row.nodes s.row.links row (λ p low. refl);
        distinct = merged-apart;
      }

    pub root-alive : (mid : Heap T) (P Q : Type 0) (root : ℕ) → Extends h mid → (P × (root ≡ a)) ⊎ (Q × (root ≡ b)) → IsSome (row_at mid root)
    root-alive mid P Q root more (inl one) = subst (λ l. IsSome (row_at mid l)) (sym one.1) (more.live a (canon-live cmp code h a E first))
    root-alive mid P Q root more (inr two) = subst (λ l. IsSome (row_at mid l)) (sym two.1) (more.live b (canon-live cmp code h b D second))

    -- the row of nothing
    pub root-empty : (new : Heap T) (l : ℕ) (s : Spread) → IsBlank s → a ≡ b → k.both ≡ false → IsRow (form_at new) l 0 s.row.entries s.row.nodes s.row.links → IsCanon cmp code (form_at new) l (merged cmp k E D)
    root-empty new l s blank same not row =
        subst (IsCanon cmp code (form_at new) l) (sym (one-merged same ∙ ap (λ t. cond t E []) not)) (record {
          trie = row-stands cmp code (form_at new) DEEPEST 0 (λ p. Empty) [] (λ p low. refl) l s.row.entries s.row.nodes s.row.links row (λ p low. blank.places p);
          distinct = record { once = λ key. omega arith };
        })

    pub root-same : (new : Heap T) → a ≡ b → k.both ≡ true → IsCanon cmp code (form_at new) a E → IsCanon cmp code (form_at new) a (merged cmp k E D)
    root-same new same so canon = subst (IsCanon cmp code (form_at new) a) (sym (one-merged same ∙ ap (λ t. cond t E []) so)) canon

module _ {T : Type 0} where
  -- room was made where there was enough
  pub reserved-none : (old mid : Heap T) (n : ℕ) → n ≡ 0 → Unchanged old mid → HasGreater old mid 0 n → Builds old mid [] [] 0 0
  reserved-none old mid n none same greater =
      Builds-made (Extends-Unchanged same) same.graph (λ k. omega (arith, same.holds k)) (omega (arith, same.count)) (record {
        spare_cells = omega (arith, greater.spare_cells);
        spare_nodes = omega (arith, greater.spare_nodes, none);
        cells = omega (arith, same.cells);
        nodes = omega (arith, same.nodes);
        live = omega (arith, same.live);
        made = omega (arith, same.made, same.graph.few_made);
        no_fewer = omega (arith, same.made);
      })
