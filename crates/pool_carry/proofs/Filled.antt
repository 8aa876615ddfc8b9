-- A trie row whose positions are filled one by one.
use Rattle.std.proofs.Common.{◌≡◌, ◌≢◌, ℕ, suc, ◌+◌, ◌<◌, ◌≤◌, sym, subst, ◌∙◌, arith, inl, inr, List, []}
use Rattle.std.specs.Ordering.{nat_cmp}
use Rattle.std.specs.Cmp.Lexicographic.{slice_cmp}
use Rattle.std.proofs.lemmas.Bool.{cases_eq}
use Rattle.node_heap.specs.Links.{count}
use Rattle.node_heap.specs.Forms.{Forms}
use Rattle.champ_chain.specs.Entry.{Entry}
use Rattle.champ_chain.proofs.FrameLemmas.{KeepsForms}
use Rattle.champ_trie.specs.Trie.{AreSets, IsRow, IsPlace, IsTrie, part, place_of, links_at_place}
use Rattle.champ_trie.specs.declared.place.Place.{Place}
use Rattle.champ_trie.specs.declared.place.Place.TheVariants.{Empty}
use Rattle.champ_trie.proofs.PartLemmas.{place-kept, row-trie}
use Rattle.pool_text.specs.Rows.{Bytes}

module _ (code : Bytes → ℕ) (left depth : ℕ) (E : List (Entry Bytes)) where
  -- what stands for the entries with a digit at this depth, in these forms
  abbrev pub StandsFor : Forms Bytes → Place → ℕ → Type 0
  StandsFor F place p = IsPlace F (λ k P. IsTrie (slice_cmp nat_cmp) code F left (depth + 1) k P) place (part (slice_cmp nat_cmp) code depth p E)

  -- at the positions below n stands what stands for the entries there, and nothing from there on; the links are below many
  pub record IsFilled (F : Forms Bytes) (many n e m : ℕ) (ls : List ℕ) : Type 0 where
    pub sets : AreSets e m ls
    pub here : (p : ℕ) → p < n → StandsFor F (place_of e m ls p) p
    pub free : (p : ℕ) → p < 32 → n ≤ p → place_of e m ls p ≡ Empty
    pub low : (k : ℕ) → 0 < count k ls → k < many

  pub filled-none : (F : Forms Bytes) (many e m : ℕ) (ls : List ℕ) → AreSets e m ls → ((p : ℕ) → place_of e m ls p ≡ Empty) → ((k : ℕ) → count k ls ≡ 0) → IsFilled F many 0 e m ls
  filled-none F many e m ls sets empty none = record {
    sets = sets;
    here = λ p below. absurd (omega (arith, below));
    free = λ p small above. empty p;
    low = λ k some. absurd (omega (arith, some, none k));
  }

  -- the same once rows are added
  pub filled-later : (F G : Forms Bytes) (many more n e m : ℕ) (ls : List ℕ) → KeepsForms F G → many ≤ more → IsFilled F many n e m ls → IsFilled G more n e m ls
  filled-later F G many more n e m ls keeps le filled = record {
    sets = filled.sets;
    here = λ p below. place-kept (slice_cmp nat_cmp) code F G keeps left (depth + 1) (place_of e m ls p) (part (slice_cmp nat_cmp) code depth p E) (filled.here p below);
    free = filled.free;
    low = λ k some. omega (arith, le, filled.low k some);
  }

  module _ (F : Forms Bytes) (many n e m : ℕ) (ls : List ℕ) (filled : IsFilled F many n e m ls) (small : n < 32) where
    -- nothing stands for no entries
    pub filled-skip : part (slice_cmp nat_cmp) code depth n E ≡ [] → IsFilled F many (n + 1) e m ls
    filled-skip none = record {
      sets = filled.sets;
      here = λ p below. elim (cases_eq p n) as (λ _. StandsFor F (place_of e m ls p) p) [
        | inl same ↦ subst (λ q. StandsFor F (place_of e m ls q) q) (sym same) (subst (λ place. StandsFor F place n) (sym (filled.free n small (omega arith))) none)
        | inr other ↦ filled.here p (omega (arith, below, other))
      ];
      free = λ p low above. filled.free p low (omega (arith, above));
      low = filled.low;
    }

    -- one place more
    pub filled-more : (e' m' : ℕ) (ls' : List ℕ) (place : Place) → AreSets e' m' ls' → place_of e' m' ls' n ≡ place → ((p : ℕ) → p < 32 → p ≢ n → place_of e' m' ls' p ≡ place_of e m ls p)
        → ((k : ℕ) → count k ls' ≡ count k ls + count k (links_at_place place)) → ((k : ℕ) → 0 < count k (links_at_place place) → k < many) → StandsFor F place n → IsFilled F many (n + 1) e' m' ls'
    filled-more e' m' ls' place sets at others counted links stands = record {
      sets = sets;
      here = λ p below. elim (cases_eq p n) as (λ _. StandsFor F (place_of e' m' ls' p) p) [
        | inl same ↦ subst (λ q. StandsFor F (place_of e' m' ls' q) q) (sym same) (subst (λ q. StandsFor F q n) (sym at) stands)
        | inr other ↦ subst (λ q. StandsFor F q p) (sym (others p (omega (arith, below, small)) other)) (filled.here p (omega (arith, below, other)))
      ];
      free = λ p low above. others p low (λ same. omega (arith, above, same)) ∙ filled.free p low (omega (arith, above));
      low = λ k some. elim (cases_eq (count k ls) 0) as (λ _. k < many) [
        | inl none ↦ links k (omega (arith, some, counted k, none))
        | inr there ↦ filled.low k (omega (arith, there))
      ];
    }

  -- the row with all positions filled is the trie
  pub filled-trie : (F : Forms Bytes) (many l n e m : ℕ) (ls : List ℕ) → 32 ≤ n → IsRow F l depth e m ls → IsFilled F many n e m ls → IsTrie (slice_cmp nat_cmp) code F (suc left) depth l E
  filled-trie F many l n e m ls all row filled = row-trie (slice_cmp nat_cmp) code F left depth l e m ls E row (λ p low. filled.here p (omega (arith, low, all)))
