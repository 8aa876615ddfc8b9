-- Lists that are gathered position by position.
use Rattle.std.proofs.Common.{◌≡◌, ◌≢◌, ℕ, zero, suc, ◌+◌, ◌<◌, ◌≤◌, List, [], ◌∷◌, ◌++◌, length, take, drop, get_or, map, refl, ap, sym, subst, ◌∙◌, arith, cond, true, false, inl, inr, ◌⊎◌, append_assoc, append-nil, length-drop}
use Rattle.std.specs.List.{flat_map}
use Rattle.std.specs.Int.{bit_at}
use Rattle.std.proofs.lemmas.Bool.{cases_Bool, cases_lt, eq-eqb, ne_eqb}
use Rattle.std.proofs.lemmas.List.{take_more, take_all, get_or-drop, map-append}
use Rattle.std.proofs.lemmas.List.Concat.{flat_map-append}
use Rattle.std.specs.declared.cmp.Ordering.{Ordering}
use Rattle.elem_core.specs.Codes.{digit_at}
use Rattle.champ_chain.specs.Entry.{Entry, SameSet, same_none, same_first, same_turned, same_through}
use Rattle.champ_chain.proofs.SetLemmas.{same-refl, same-sym, same-middle}
use Rattle.champ_trie.specs.Bits.{has, rank}
use Rattle.champ_trie.specs.Trie.{AreSets, place_of, part}
use Rattle.champ_trie.specs.declared.place.Place.{Place}
use Rattle.champ_trie.specs.declared.place.Place.TheVariants.{Entry as At, Node, Empty}
use Rattle.champ_trie.proofs.BitLemmas.{rank-lt, bit-has, bit-no}
use Rattle.champ_trie.proofs.PlaceLemmas.{place-entry, place-node, place-empty}

module _ {X : Type 0} where
  -- what stands for each position below n, one after the other
  abbrev pub gather : (ℕ → List X) → ℕ → List X
  gather f zero = []
  gather f (suc n) = gather f n ++ f n

  pub gather-same : (f g : ℕ → List X) (n : ℕ) → ((p : ℕ) → p < n → f p ≡ g p) → gather f n ≡ gather g n
  gather-same f g zero same = refl
  gather-same f g (suc n) same = ap (λ xs. xs ++ f n) (gather-same f g n (λ p lt. same p (omega arith))) ∙ ap (λ ys. gather g n ++ ys) (same n (omega arith))

  -- sets one after the other
  pub same-before : (xs ys zs : List X) → SameSet ys zs → SameSet (xs ++ ys) (xs ++ zs)
  same-before [] ys zs s = s
  same-before (x ∷ xs) ys zs s = same_first x _ _ (same-before xs ys zs s)

  pub same-after : (xs ys zs : List X) → SameSet xs ys → SameSet (xs ++ zs) (ys ++ zs)
  same-after _ _ zs same_none = same-refl zs
  same-after _ _ zs (same_first x xs ys s) = same_first x _ _ (same-after xs ys zs s)
  same-after _ _ zs (same_turned x y xs) = same_turned x y (xs ++ zs)
  same-after _ _ zs (same_through xs ys us s t) = same_through _ _ _ (same-after xs ys zs s) (same-after ys us zs t)

  pub same-both : (xs ys us vs : List X) → SameSet xs ys → SameSet us vs → SameSet (xs ++ us) (ys ++ vs)
  same-both xs ys us vs s t = same_through _ _ _ (same-after xs ys us s) (same-before ys us vs t)

  pub same-swap : (xs ys : List X) → SameSet (xs ++ ys) (ys ++ xs)
  same-swap [] ys = subst (λ zs. SameSet ys zs) (sym (append-nil ys)) (same-refl ys)
  same-swap (x ∷ xs) ys = same_through _ (x ∷ (ys ++ xs)) _ (same_first x _ _ (same-swap xs ys)) (same-sym _ _ (same-middle x ys xs))

  pub same-is : (xs ys : List X) → xs ≡ ys → SameSet xs ys
  same-is xs ys e = subst (λ zs. SameSet xs zs) e (same-refl xs)

  -- the second of three goes in front of the first
  same-inner : (xs ys us vs : List X) → SameSet ((xs ++ ys) ++ (us ++ vs)) ((xs ++ us) ++ (ys ++ vs))
  same-inner xs ys us vs =
      subst (λ zs. SameSet zs ((xs ++ us) ++ (ys ++ vs))) (sym (append_assoc xs ys (us ++ vs)))
      (subst (λ zs. SameSet (xs ++ (ys ++ (us ++ vs))) zs) (sym (append_assoc xs us (ys ++ vs)))
      (same-before xs _ _
      (subst (λ zs. SameSet zs (us ++ (ys ++ vs))) (append_assoc ys us vs)
      (subst (λ zs. SameSet ((ys ++ us) ++ vs) zs) (append_assoc us ys vs) (same-after _ _ vs (same-swap ys us))))))

  pub gather-set : (f g : ℕ → List X) (n : ℕ) → ((p : ℕ) → p < n → SameSet (f p) (g p)) → SameSet (gather f n) (gather g n)
  gather-set f g zero same = same_none
  gather-set f g (suc n) same = same-both _ _ _ _ (gather-set f g n (λ p lt. same p (omega arith))) (same n (omega arith))

  pub gather-both : (f g : ℕ → List X) (n : ℕ) → SameSet (gather f n ++ gather g n) (gather (λ p. f p ++ g p) n)
  gather-both f g zero = same_none
  gather-both f g (suc n) = same_through _ _ _ (same-inner (gather f n) (f n) (gather g n) (g n)) (same-after _ _ (f n ++ g n) (gather-both f g n))

  -- one element more at one position
  pub gather-more : (f g : ℕ → List X) (x : X) (k n : ℕ) → k < n → f k ≡ x ∷ g k → ((p : ℕ) → p < n → p ≢ k → f p ≡ g p) → SameSet (gather f n) (x ∷ gather g n)
  gather-more f g x k zero lt here others = absurd (omega arith)
  gather-more f g x k (suc n) lt here others = by_place (cases_lt k n) (λ less. gather-more f g x k n less here (λ p low other. others p (omega arith) other))
    where
      by_place : (k < n) ⊎ (n ≤ k) → (k < n → SameSet (gather f n) (x ∷ gather g n)) → SameSet (gather f n ++ f n) (x ∷ (gather g n ++ g n))
      by_place (inl less) again = subst (λ ys. SameSet (gather f n ++ ys) (x ∷ (gather g n ++ g n))) (sym (others n (omega arith) (λ e. omega arith))) (same-after _ _ (g n) (again less))
      by_place (inr up) again =
          let at : k ≡ n = omega arith in
          let last : f n ≡ x ∷ g n = subst (λ j. f j ≡ x ∷ g j) at here in
          subst (λ ys. SameSet (gather f n ++ ys) (x ∷ (gather g n ++ g n))) (sym last)
          (subst (λ zs. SameSet (zs ++ x ∷ g n) (x ∷ (gather g n ++ g n))) (sym (gather-same f g n (λ p low. others p (omega arith) (λ e. omega arith)))) (same-middle x (gather g n) (g n)))

module _ {X Y : Type 0} where
  pub flat_map-gather : (h : X → List Y) (f : ℕ → List X) (n : ℕ) → flat_map h (gather f n) ≡ gather (λ p. flat_map h (f p)) n
  flat_map-gather h f zero = refl
  flat_map-gather h f (suc n) = flat_map-append h (gather f n) (f n) ∙ ap (λ ys. ys ++ flat_map h (f n)) (flat_map-gather h f n)

  pub map-gather : (h : X → Y) (f : ℕ → List X) (n : ℕ) → map h (gather f n) ≡ gather (λ p. map h (f p)) n
  map-gather h f zero = refl
  map-gather h f (suc n) = map-append h (gather f n) (f n) ∙ ap (λ ys. ys ++ map h (f n)) (map-gather h f n)

  pub same-map : (h : X → Y) (xs ys : List X) → SameSet xs ys → SameSet (map h xs) (map h ys)
  same-map h _ _ same_none = same_none
  same-map h _ _ (same_first x xs ys s) = same_first (h x) _ _ (same-map h xs ys s)
  same-map h _ _ (same_turned x y xs) = same_turned (h x) (h y) (map h xs)
  same-map h _ _ (same_through xs ys zs s t) = same_through _ _ _ (same-map h xs ys s) (same-map h ys zs t)

-- the link that stands at a position as an entry, and as a node
abbrev pub entry_links : Place → List ℕ
entry_links Empty = []
entry_links (At x) = x ∷ []
entry_links (Node l) = []

abbrev pub node_links : Place → List ℕ
node_links Empty = []
node_links (At x) = []
node_links (Node l) = l ∷ []

-- the links at the positions of a set
in-set : (s : ℕ) (xs : List ℕ) (n : ℕ) → n ≤ 32 → rank s 32 ≤ length xs → take (rank s n) xs ≡ gather (λ p. cond (has s p) (get_or xs (rank s p) 0 ∷ []) []) n
unfolding rank
in-set s xs zero low enough = refl
in-set s xs (suc n) low enough = by_bit (cases_Bool (has s n)) (in-set s xs n (omega arith) enough)
  where
    by_bit : (has s n ≡ true) ⊎ (has s n ≡ false) → take (rank s n) xs ≡ gather (λ p. cond (has s p) (get_or xs (rank s p) 0 ∷ []) []) n
        → take (rank s n + bit_at s n) xs ≡ gather (λ p. cond (has s p) (get_or xs (rank s p) 0 ∷ []) []) n ++ cond (has s n) (get_or xs (rank s n) 0 ∷ []) []
    by_bit (inl here) rest =
        ap (λ b. take (rank s n + b) xs) (bit-has s n here)
        ∙ take_more xs (rank s n) 0 (omega (arith, rank-lt s n 32 (omega arith) here))
        ∙ ap (λ ys. ys ++ get_or xs (rank s n) 0 ∷ []) rest
        ∙ ap (λ b. gather (λ p. cond (has s p) (get_or xs (rank s p) 0 ∷ []) []) n ++ cond b (get_or xs (rank s n) 0 ∷ []) []) (sym here)
    by_bit (inr absent) rest =
        let same : rank s n + bit_at s n ≡ rank s n = omega (arith, bit-no s n absent) in
        ap (λ k. take k xs) same ∙ rest ∙ sym (append-nil _)
        ∙ ap (λ b. gather (λ p. cond (has s p) (get_or xs (rank s p) 0 ∷ []) []) n ++ cond b (get_or xs (rank s n) 0 ∷ []) []) (sym absent)

module _ (e n : ℕ) (ls : List ℕ) (sets : AreSets e n ls) where
  -- the links of a row's entries, gathered by position, and those of its nodes
  pub entries-gather : take (rank e 32) ls ≡ gather (λ p. entry_links (place_of e n ls p)) 32
  entries-gather = in-set e ls 32 (omega arith) (omega (arith, sets.count)) ∙ gather-same _ _ 32 each
    where
      each : (p : ℕ) → p < 32 → cond (has e p) (get_or ls (rank e p) 0 ∷ []) [] ≡ entry_links (place_of e n ls p)
      each p low = elim (cases_Bool (has e p)) [
        | inl here ↦ ap (λ b. cond b (get_or ls (rank e p) 0 ∷ []) []) here ∙ sym (ap entry_links (place-entry e n ls p here))
        | inr absent ↦ elim (cases_Bool (has n p)) [
          | inl here ↦ ap (λ b. cond b (get_or ls (rank e p) 0 ∷ []) []) absent ∙ sym (ap entry_links (place-node e n ls p absent here))
          | inr none ↦ ap (λ b. cond b (get_or ls (rank e p) 0 ∷ []) []) absent ∙ sym (ap entry_links (place-empty e n ls p absent none))
        ]
      ]

  pub nodes-gather : drop (rank e 32) ls ≡ gather (λ p. node_links (place_of e n ls p)) 32
  nodes-gather =
      sym (take_all (rank n 32) (drop (rank e 32) ls) (omega (arith, sets.count, length-drop (rank e 32) ls)))
      ∙ in-set n (drop (rank e 32) ls) 32 (omega arith) (omega (arith, sets.count, length-drop (rank e 32) ls))
      ∙ gather-same _ _ 32 each
    where
      shift : (p : ℕ) → cond (has n p) (get_or (drop (rank e 32) ls) (rank n p) 0 ∷ []) [] ≡ cond (has n p) (get_or ls (rank e 32 + rank n p) 0 ∷ []) []
      shift p = ap (λ x. cond (has n p) (x ∷ []) []) (get_or-drop (rank e 32) ls (rank n p) 0)

      each : (p : ℕ) → p < 32 → cond (has n p) (get_or (drop (rank e 32) ls) (rank n p) 0 ∷ []) [] ≡ node_links (place_of e n ls p)
      each p low = shift p ∙ elim (cases_Bool (has e p)) [
        | inl here ↦ ap (λ b. cond b (get_or ls (rank e 32 + rank n p) 0 ∷ []) []) (sets.apart p low here) ∙ sym (ap node_links (place-entry e n ls p here))
        | inr absent ↦ elim (cases_Bool (has n p)) [
          | inl here ↦ ap (λ b. cond b (get_or ls (rank e 32 + rank n p) 0 ∷ []) []) here ∙ sym (ap node_links (place-node e n ls p absent here))
          | inr none ↦ ap (λ b. cond b (get_or ls (rank e 32 + rank n p) 0 ∷ []) []) none ∙ sym (ap node_links (place-empty e n ls p absent none))
        ]
      ]

module _ {K : Type 0} (cmp : K → K → Ordering) (code : K → ℕ) where
  -- the parts by digit are the whole
  pub parts-whole : (depth : ℕ) (E : List (Entry K)) → SameSet (gather (λ p. part cmp code depth p E) 32) E
  parts-whole depth [] = none 32
    where
      none : (n : ℕ) → SameSet (gather (λ p. part cmp code depth p []) n) []
      none zero = same_none
      none (suc n) = subst (λ zs. SameSet zs []) (sym (append-nil _)) (none n)
  parts-whole depth (x ∷ xs) =
      same_through _ _ _
      (gather-more (λ p. part cmp code depth p (x ∷ xs)) (λ p. part cmp code depth p xs) x (digit_at (code x.key) depth) 32 (omega arith)
      (ap (λ b. cond b (x ∷ part cmp code depth (digit_at (code x.key) depth) xs) (part cmp code depth (digit_at (code x.key) depth) xs)) (eq-eqb (digit_at (code x.key) depth) (digit_at (code x.key) depth) refl))
      (λ p low other. ap (λ b. cond b (x ∷ part cmp code depth p xs) (part cmp code depth p xs)) (ne_eqb (digit_at (code x.key) depth) p (λ e. other (sym e)))))
      (same_first x _ _ (parts-whole depth xs))
