-- The images of the first rows of a pool, and those of one row more.
use Rattle.std.proofs.Common.{◌≡◌, ℕ, zero, suc, ◌+◌, ◌<◌, ◌≤◌, ap, sym, subst, refl, ◌∙◌, arith, inl, inr, false, List, [], ◌∷◌, ◌++◌, length, map, Option, Some, None, option_map}
use Rattle.std.specs.Prelude.{slice_get, slice_index, IfSome}
use Rattle.std.specs.Ordering.{nat_cmp}
use Rattle.std.specs.Cmp.Lexicographic.{slice_cmp}
use Rattle.std.proofs.lemmas.Bool.{cases_eq}
use Rattle.std.proofs.lemmas.List.{get_or_append_left, get_or_push, length-append}
use Rattle.std.proofs.lemmas.List.Elements.{All-weaker}
use Rattle.std.proofs.lemmas.Option.{slice_get_within}
use Rattle.node_heap.specs.Links.{count, LeadsDown}
use Rattle.node_heap.specs.Forms.{Form, links_of, links_in}
use Rattle.champ_chain.proofs.FrameLemmas.{KeepsForms}
use Rattle.champ_trie.specs.Trie.{IsCanonTo, code_by}
use Rattle.pool_text.specs.Rows.{Bytes}
use Rattle.pool_text.specs.Rules.{Rules}
use Rattle.pool_text.specs.Pool.{forms_in, row_count, relink}
use Rattle.pool_text.specs.declared.pool.Pool.{Pool}
use Rattle.pool_check.specs.Tries.{entries_below}
use Rattle.pool_check.specs.Kinds.{is_trie_root}
use Rattle.pool_check.specs.Readings.{moved}
use Rattle.pool_carry.specs.Carried.{is_of_trie}
use Rattle.pool_carry.specs.Making.{IsBegun, ImageIsMade, AreImagesOfFirst, IsPart, ArePartsOfFirst, image_entries}
use Rattle.pool_carry.specs.declared.shared_parts.Part.{Part}
use Rattle.pool_carry.proofs.Rows.{begun-keeps, get-more}
use Rattle.pool_carry.proofs.RowsOver.{part-later}
use Rattle.pool_carry.proofs.Moved.{relink-same, moved-same, IsLowEntry, entries-low, canon-later}

-- entries have the same images where one more row has
pub entries-pushed : (P : Pool) (falls : LeadsDown (λ l. l) (links_in (forms_in P))) (images : List ℕ) (image l : ℕ) → l < length images + 1 → l < row_count P → image_entries P images l ≡ image_entries P (images ++ image ∷ []) l
entries-pushed P falls images image l low there =
    moved-same (slice_index images) (slice_index (images ++ image ∷ [])) (entries_below (row_count P) (forms_in P) l)
    (All-weaker (IsLowEntry (forms_in P) falls l) (λ e. slice_index images e.link ≡ slice_index (images ++ image ∷ []) e.link) (λ e is. sym (get_or_append_left images (image ∷ []) 0 e.link (omega (arith, is.low, low))))
    (entries_below (row_count P) (forms_in P) l) (entries-low (forms_in P) falls (row_count P) l there))

nothing-past : (rows : List (Form Bytes)) (i : ℕ) → slice_get rows i ≡ None → length rows ≤ i
nothing-past [] i is = omega arith
nothing-past (x ∷ xs) zero is = absurd cc
nothing-past (x ∷ xs) (suc i) is = omega (arith, nothing-past xs i is)

module _ (rules : Rules) (bits : ℕ) (P : Pool) (falls : LeadsDown (λ l. l) (links_in (forms_in P))) where
  -- images stay images while rows are added
  pub images-later : (old new : List (Form Bytes)) (images : List ℕ) → IsBegun old new → length images ≤ row_count P → AreImagesOfFirst rules bits P old images → AreImagesOfFirst rules bits P new images
  images-later old new images begun short are = record {
    low = λ l below. omega (arith, are.low l below, ap length begun.whole, length-append old begun.more);
    own = λ l below own. stays l below (forms_in P l) refl (are.own l below own);
    apart = are.apart;
    tries = λ l below root. canon-later (code_by rules.code_of bits) rules.deepest (slice_get old) (slice_get new) (slice_index images l) (image_entries P images l) keeps (are.tries l below root);
  }
    where
      keeps : KeepsForms (slice_get old) (slice_get new)
      keeps = begun-keeps old new begun

      stays : (l : ℕ) → l < length images → (r : Option (Form Bytes)) → forms_in P l ≡ r → slice_get old (slice_index images l) ≡ option_map (relink (slice_index images)) (forms_in P l)
          → slice_get new (slice_index images l) ≡ option_map (relink (slice_index images)) (forms_in P l)
      stays l below None is at = absurd (omega (arith, below, short, nothing-past P.rows l is))
      stays l below (Some row) is at =
          keeps.kept (slice_index images l) (relink (slice_index images) row) (at ∙ ap (option_map (relink (slice_index images))) is) ∙ ap (option_map (relink (slice_index images))) (sym is)

  pub parts-none : (rows : List (Form Bytes)) (images : List ℕ) → ArePartsOfFirst rules bits P rows images []
  parts-none rows images l it at = absurd (let no : None ≡ Some (Some it) = at in cc)

  -- parts stay parts while rows and images are added
  pub parts-later : (old new : List (Form Bytes)) (images : List ℕ) (image : ℕ) (parts : List (Option Part)) → IsBegun old new → length parts ≤ length images → length images < row_count P → ArePartsOfFirst rules bits P old images parts
      → ArePartsOfFirst rules bits P new (images ++ image ∷ []) parts
  parts-later old new images image parts begun few more are l it at =
      let low : l < length parts = slice_get_within parts l (Some it) at in
      subst (λ E. IsPart (code_by rules.code_of bits) rules.deepest new E it) (entries-pushed P falls images image l (omega (arith, low, few)) (omega (arith, low, few, more)))
      (part-later (code_by rules.code_of bits) rules.deepest old new begun (image_entries P images l) it (are l it at))

  -- one part more
  pub parts-more : (old new : List (Form Bytes)) (images : List ℕ) (parts : List (Option Part)) (o : Option Part) → IsBegun old new → ArePartsOfFirst rules bits P old images parts
      → IfSome o (IsPart (code_by rules.code_of bits) rules.deepest new (image_entries P images (length parts))) → ArePartsOfFirst rules bits P new images (parts ++ o ∷ [])
  parts-more old new images parts o begun are is l it at = elim (get-more parts o (Some it) l at) as (λ _. IsPart (code_by rules.code_of bits) rules.deepest new (image_entries P images l) it) [
    | inl there ↦ part-later (code_by rules.code_of bits) rules.deepest old new begun (image_entries P images l) it (are l it there.1)
    | inr last ↦
        let here : IsPart (code_by rules.code_of bits) rules.deepest new (image_entries P images (length parts)) it = subst (λ p. IfSome p (IsPart (code_by rules.code_of bits) rules.deepest new (image_entries P images (length parts)))) last.1 is in
        subst (λ k. IsPart (code_by rules.code_of bits) rules.deepest new (image_entries P images k) it) (sym last.0) here
  ]

  pub images-none : (rows : List (Form Bytes)) → AreImagesOfFirst rules bits P rows []
  images-none rows = record {
    low = λ l below. absurd (omega (arith, below));
    own = λ l below. absurd (omega (arith, below));
    apart = λ k l below. absurd (omega (arith, below));
    tries = λ l below. absurd (omega (arith, below));
  }

  module _ (old new : List (Form Bytes)) (images : List ℕ) (image : ℕ) (are : AreImagesOfFirst rules bits P old images) (begun : IsBegun old new) (made : ImageIsMade rules bits P old new images image) (more : length images < row_count P) where
    abbrev next : List ℕ
    next = images ++ image ∷ []

    long : length next ≡ length images + 1
    long = length-append images (image ∷ [])

    front : (l : ℕ) → l < length images → slice_index next l ≡ slice_index images l
    front l low = get_or_append_left images (image ∷ []) 0 l low

    last : (l : ℕ) → l ≡ length images → slice_index next l ≡ image
    last l is = get_or_push images image 0 l (sym is)

    keeps : KeepsForms (slice_get old) (slice_get new)
    keeps = begun-keeps old new begun

    lengths : length old ≤ length new
    lengths = omega (arith, ap length begun.whole, length-append old begun.more)

    links-front : (l : ℕ) → l < length images + 1 → (k : ℕ) → 0 < count k (links_of (forms_in P l)) → slice_index images k ≡ slice_index next k
    links-front l low k there = sym (front k (omega (arith, falls l k there, low)))

    entries-front : (l : ℕ) → l < length images + 1 → image_entries P images l ≡ image_entries P next l
    entries-front l low = entries-pushed P falls images image l low (omega (arith, low, more))

    row-there : (l : ℕ) → l < length images → is_of_trie (forms_in P l) ≡ false → slice_get new (slice_index images l) ≡ option_map (relink (slice_index next)) (forms_in P l)
    row-there l low own = by_row (forms_in P l) refl (are.own l low own)
      where
        by_row : (r : Option (Form Bytes)) → forms_in P l ≡ r → slice_get old (slice_index images l) ≡ option_map (relink (slice_index images)) (forms_in P l) → slice_get new (slice_index images l) ≡ option_map (relink (slice_index next)) (forms_in P l)
        by_row None is at = absurd (let there : l < row_count P = omega (arith, low, more) in omega (arith, there, nothing-past P.rows l is))
        by_row (Some row) is at =
            keeps.kept (slice_index images l) (relink (slice_index images) row) (at ∙ ap (option_map (relink (slice_index images))) is)
            ∙ ap (option_map (relink (slice_index images))) (sym is) ∙ relink-same (slice_index images) (slice_index next) (forms_in P l) (links-front l (omega (arith, low)))

    -- one image more
    pub images-more : AreImagesOfFirst rules bits P new next
    images-more = record {
      low = λ l below. elim (cases_eq l (length images)) as (λ _. slice_index next l < length new) [
        | inl is ↦ omega (arith, last l is, made.low)
        | inr other ↦ omega (arith, front l (omega (arith, below, long, other)), are.low l (omega (arith, below, long, other)), lengths)
      ];
      own = λ l below own. elim (cases_eq l (length images)) as (λ _. slice_get new (slice_index next l) ≡ option_map (relink (slice_index next)) (forms_in P l)) [
        | inl is ↦ ap (slice_get new) (last l is) ∙ (made.own (ap (λ k. is_of_trie (forms_in P k)) (sym is) ∙ own)).1 ∙ ap (λ k. option_map (relink (slice_index images)) (forms_in P k)) (sym is)
            ∙ relink-same (slice_index images) (slice_index next) (forms_in P l) (links-front l (omega (arith, is)))
        | inr other ↦ ap (slice_get new) (front l (omega (arith, below, long, other))) ∙ row-there l (omega (arith, below, long, other)) own
      ];
      apart = λ k l low low' own own' same. elim (cases_eq k (length images)) as (λ _. k ≡ l) [
        | inl k_is ↦ elim (cases_eq l (length images)) as (λ _. k ≡ l) [
          | inl l_is ↦ k_is ∙ sym l_is
          | inr other ↦ absurd (omega (arith, are.low l (omega (arith, low', long, other)), front l (omega (arith, low', long, other)), last k k_is, (made.own (ap (λ j. is_of_trie (forms_in P j)) (sym k_is) ∙ own)).0, same))
        ]
        | inr k_other ↦ elim (cases_eq l (length images)) as (λ _. k ≡ l) [
          | inl l_is ↦ absurd (omega (arith, are.low k (omega (arith, low, long, k_other)), front k (omega (arith, low, long, k_other)), last l l_is, (made.own (ap (λ j. is_of_trie (forms_in P j)) (sym l_is) ∙ own')).0, same))
          | inr l_other ↦ are.apart k l (omega (arith, low, long, k_other)) (omega (arith, low', long, l_other)) own own' (sym (front k (omega (arith, low, long, k_other))) ∙ same ∙ front l (omega (arith, low', long, l_other)))
        ]
      ];
      tries = λ l below root. elim (cases_eq l (length images))
          as (λ _. IsCanonTo (slice_cmp nat_cmp) (code_by rules.code_of bits) rules.deepest (slice_get new) (slice_index next l) (map (moved (slice_index next)) (entries_below (row_count P) (forms_in P) l))) [
            | inl is ↦ subst (λ E. IsCanonTo (slice_cmp nat_cmp) (code_by rules.code_of bits) rules.deepest (slice_get new) (slice_index next l) E) (entries-front l (omega (arith, is)))
                (subst (λ i. IsCanonTo (slice_cmp nat_cmp) (code_by rules.code_of bits) rules.deepest (slice_get new) i (map (moved (slice_index images)) (entries_below (row_count P) (forms_in P) l))) (sym (last l is))
                (subst (λ k. IsCanonTo (slice_cmp nat_cmp) (code_by rules.code_of bits) rules.deepest (slice_get new) image (map (moved (slice_index images)) (entries_below (row_count P) (forms_in P) k))) (sym is)
                (made.trie (ap (λ k. is_trie_root (forms_in P k)) (sym is) ∙ root))))
            | inr other ↦ subst (λ E. IsCanonTo (slice_cmp nat_cmp) (code_by rules.code_of bits) rules.deepest (slice_get new) (slice_index next l) E) (entries-front l (omega (arith, below, long)))
                (subst (λ i. IsCanonTo (slice_cmp nat_cmp) (code_by rules.code_of bits) rules.deepest (slice_get new) i (map (moved (slice_index images)) (entries_below (row_count P) (forms_in P) l))) (sym (front l (omega (arith, below, long, other))))
                (canon-later (code_by rules.code_of bits) rules.deepest (slice_get old) (slice_get new) (slice_index images l) (map (moved (slice_index images)) (entries_below (row_count P) (forms_in P) l)) keeps (are.tries l (omega (arith, below, long, other)) root)))
          ];
    }
