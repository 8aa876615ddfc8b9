-- What stands at each position of a row where one of its links is replaced.
use Rattle.std.proofs.Common.{◌≡◌, ◌≢◌, ℕ, ◌+◌, ◌<◌, List, [], ◌∷◌, length, get_or, set, ap, sym, ◌∙◌, arith, true, false, inl, inr}
use Rattle.std.proofs.lemmas.Bool.{cases_Bool, cases_order}
use Rattle.std.proofs.lemmas.List.{get_or-set_same, get_or-set_other, length-set}
use Rattle.champ_trie.specs.Bits.{has, rank}
use Rattle.champ_trie.specs.Trie.{AreSets, place_of, links_at_place}
use Rattle.champ_trie.specs.declared.place.Place.TheVariants.{Entry as At, Node}
use Rattle.champ_trie.proofs.CallerLemmas.{rank-lt, Changes, place-entry, place-node, place-empty, entry-in, node-in}

-- two positions with something have different ranks
rank-apart : (s p q : ℕ) → q ≢ p → has s p ≡ true → has s q ≡ true → rank s q ≢ rank s p
rank-apart s p q other at_p at_q same = elim (cases_order q p) as (λ _. ⊥) [
  | inl is ↦ other is
  | inr (inl less) ↦ omega (arith, rank-lt s q p less at_q, same)
  | inr (inr more) ↦ omega (arith, rank-lt s p q more at_p, same)
]

-- the index of what stands at a position
pub record StandsAt (e n : ℕ) (ls : List ℕ) (i q s : ℕ) : Type 0 where
  pub at : ℕ
  pub within : at < length ls
  pub apart : at ≢ i
  pub is : get_or ls at 0 ≡ s

module _ (e n : ℕ) (ls : List ℕ) (sets : AreSets e n ls) (p : ℕ) (small : p < 32) where
  -- what stands elsewhere has another index than an entry, and than a node
  pub beside-entry : has e p ≡ true → (q s : ℕ) → q < 32 → q ≢ p → links_at_place (place_of e n ls q) ≡ s ∷ [] → StandsAt e n ls (rank e p) q s
  beside-entry here q s low other one = elim (cases_Bool (has e q)) as (λ _. StandsAt e n ls (rank e p) q s) [
    | inl there ↦
        let is : get_or ls (rank e q) 0 ∷ [] ≡ s ∷ [] = sym (ap links_at_place (place-entry e n ls q there)) ∙ one in
        record { at = rank e q; within = entry-in e n ls q low sets there; apart = rank-apart e p q other here there; is = cc }
    | inr absent ↦ elim (cases_Bool (has n q)) as (λ _. StandsAt e n ls (rank e p) q s) [
      | inl there ↦
          let is : get_or ls (rank e 32 + rank n q) 0 ∷ [] ≡ s ∷ [] = sym (ap links_at_place (place-node e n ls q absent there)) ∙ one in
          record { at = rank e 32 + rank n q; within = node-in e n ls q low sets there; apart = λ same. omega (arith, rank-lt e p 32 small here, same); is = cc }
      | inr none ↦ absurd (let bad : [] ≡ s ∷ [] = sym (ap links_at_place (place-empty e n ls q absent none)) ∙ one in cc)
    ]
  ]

  pub beside-node : has e p ≡ false → has n p ≡ true → (q s : ℕ) → q < 32 → q ≢ p → links_at_place (place_of e n ls q) ≡ s ∷ [] → StandsAt e n ls (rank e 32 + rank n p) q s
  beside-node gone here q s low other one = elim (cases_Bool (has e q)) as (λ _. StandsAt e n ls (rank e 32 + rank n p) q s) [
    | inl there ↦
        let is : get_or ls (rank e q) 0 ∷ [] ≡ s ∷ [] = sym (ap links_at_place (place-entry e n ls q there)) ∙ one in
        record { at = rank e q; within = entry-in e n ls q low sets there; apart = λ same. omega (arith, rank-lt e q 32 low there, same); is = cc }
    | inr absent ↦ elim (cases_Bool (has n q)) as (λ _. StandsAt e n ls (rank e 32 + rank n p) q s) [
      | inl there ↦
          let is : get_or ls (rank e 32 + rank n q) 0 ∷ [] ≡ s ∷ [] = sym (ap links_at_place (place-node e n ls q absent there)) ∙ one in
          record { at = rank e 32 + rank n q; within = node-in e n ls q low sets there; apart = λ same. rank-apart n p q other here there (omega (arith, same)); is = cc }
      | inr none ↦ absurd (let bad : [] ≡ s ∷ [] = sym (ap links_at_place (place-empty e n ls q absent none)) ∙ one in cc)
    ]
  ]

  sets-set : (i x : ℕ) → AreSets e n (set ls i x)
  sets-set i x = record { entries_small = sets.entries_small; nodes_small = sets.nodes_small; apart = sets.apart; count = omega (arith, length-set ls i x, sets.count) }

  -- an entry is replaced
  pub set-entry : (x : ℕ) → has e p ≡ true → Changes e n ls e n (set ls (rank e p) x) p (At x)
  set-entry x here = record {
    sets = sets-set (rank e p) x;
    here = place-entry e n (set ls (rank e p) x) p here ∙ ap At (get_or-set_same ls (rank e p) x 0 (entry-in e n ls p small sets here));
    others = λ q low other. elim (cases_Bool (has e q)) as (λ _. place_of e n (set ls (rank e p) x) q ≡ place_of e n ls q) [
      | inl there ↦ place-entry e n (set ls (rank e p) x) q there ∙ ap At (get_or-set_other ls (rank e p) (rank e q) x 0 (rank-apart e p q other here there)) ∙ sym (place-entry e n ls q there)
      | inr absent ↦ elim (cases_Bool (has n q)) as (λ _. place_of e n (set ls (rank e p) x) q ≡ place_of e n ls q) [
        | inl there ↦
            place-node e n (set ls (rank e p) x) q absent there ∙ ap Node (get_or-set_other ls (rank e p) (rank e 32 + rank n q) x 0 (λ same. omega (arith, rank-lt e p 32 small here, same))) ∙ sym (place-node e n ls q absent there)
        | inr none ↦ place-empty e n (set ls (rank e p) x) q absent none ∙ sym (place-empty e n ls q absent none)
      ]
    ];
  }

  -- a node is replaced
  pub set-node : (x : ℕ) → has e p ≡ false → has n p ≡ true → Changes e n ls e n (set ls (rank e 32 + rank n p) x) p (Node x)
  set-node x gone here = record {
    sets = sets-set (rank e 32 + rank n p) x;
    here = place-node e n (set ls (rank e 32 + rank n p) x) p gone here ∙ ap Node (get_or-set_same ls (rank e 32 + rank n p) x 0 (node-in e n ls p small sets here));
    others = λ q low other. elim (cases_Bool (has e q)) as (λ _. place_of e n (set ls (rank e 32 + rank n p) x) q ≡ place_of e n ls q) [
      | inl there ↦
          place-entry e n (set ls (rank e 32 + rank n p) x) q there ∙ ap At (get_or-set_other ls (rank e 32 + rank n p) (rank e q) x 0 (λ same. omega (arith, rank-lt e q 32 low there, same))) ∙ sym (place-entry e n ls q there)
      | inr absent ↦ elim (cases_Bool (has n q)) as (λ _. place_of e n (set ls (rank e 32 + rank n p) x) q ≡ place_of e n ls q) [
        | inl there ↦
            place-node e n (set ls (rank e 32 + rank n p) x) q absent there ∙ ap Node (get_or-set_other ls (rank e 32 + rank n p) (rank e 32 + rank n q) x 0 (λ same. rank-apart n p q other here there (omega (arith, same)))) ∙ sym (place-node e n ls q absent there)
        | inr none ↦ place-empty e n (set ls (rank e 32 + rank n p) x) q absent none ∙ sym (place-empty e n ls q absent none)
      ]
    ];
  }
