-- The row that is made of the parts of its entries has at each position what stands for the part there.
use Rattle.std.proofs.Common.{◌≡◌, ℕ, zero, suc, ◌+◌, ◌*◌, ◌/◌, ◌^◌, ◌<◌, ◌≤◌, refl, ap, sym, subst, ◌∙◌, arith, true, false, cond, List, [], ◌∷◌, ◌++◌, map, length, take, get_or, flat_map}
use Rattle.std.specs.Prelude.{nat_eq}
use Rattle.std.specs.Int.{bit_at}
use Rattle.std.proofs.lemmas.Bool.{eqb-true}
use Rattle.std.proofs.lemmas.Nat.Bits.{bit_at-suc, bit_at-zero, bit_at_lowest}
use Rattle.std.proofs.lemmas.List.{get_or-map, length-map, length-append, get_or_append_left, get_or-append-add, take_all}
use Rattle.std.proofs.lemmas.List.Concat.{get_or-flat_map}
use Rattle.std.proofs.lemmas.Grind.{flat_map-append}
use Rattle.std.proofs.Math.Nat.{pow-succ'}
use Rattle.std.proofs.Math.Seq.{take-suc}
use Rattle.std.proofs.lemmas.List.Folds.{length-flat_map-take}
use Rattle.champ_chain.specs.Entry.{Entry}
use Rattle.champ_trie.specs.Bits.{has, rank}
use Rattle.champ_trie.specs.Trie.{place_of, AreSets}
use Rattle.champ_trie.specs.declared.place.Place.{Place}
use Rattle.champ_trie.specs.declared.place.Place.TheVariants.{Entry as At, Node, Empty}
use Rattle.pool_text.specs.Rows.{Bytes}
use Rattle.pool_carry.specs.Computed.{of_two, single, one_if_two, number_of}

-- each number is 0 or 1
abbrev AreBits : List ℕ → Type 0
AreBits [] = Unit {0}
AreBits (b ∷ bs) = (b < 2) × AreBits bs

number-bit : (bs : List ℕ) (p : ℕ) → AreBits bs → bit_at (number_of bs) p ≡ get_or bs p 0
number-bit [] p are = bit_at-zero p
number-bit (b ∷ bs) zero are = bit_at_lowest (b + 2 * number_of bs) ∙ omega (arith, are.0)
number-bit (b ∷ bs) (suc p) are =
    let half : (b + 2 * number_of bs) / 2 ≡ number_of bs = omega (arith, are.0) in
    bit_at-suc (b + 2 * number_of bs) p ∙ ap (λ n. bit_at n p) half ∙ number-bit bs p are.1

number-low : (bs : List ℕ) → AreBits bs → number_of bs < 2 ^ length bs
number-low [] are = omega arith
number-low (b ∷ bs) are =
    let rest : number_of bs < 2 ^ length bs = number-low bs are.1 in
    let more : 2 ^ suc (length bs) ≡ 2 * 2 ^ length bs = pow-succ' 2 (length bs) in
    let long : suc (length bs) ≡ length (b ∷ bs) = omega arith in
    subst (λ n. b + 2 * number_of bs < 2 ^ n) long
    (omega (arith, are.0, rest, more))

module _ (f : List (Entry Bytes) → List ℕ) (few : (P : List (Entry Bytes)) → length (f P) < 2) where
  are-bits : (Ps : List (List (Entry Bytes))) → AreBits (map (λ P. length (f P)) Ps)
  are-bits [] = tt
  are-bits (P ∷ Ps) = (few P, are-bits Ps)

  -- the bit of a position is the number of links of the part there
  part-bit : (Ps : List (List (Entry Bytes))) (p : ℕ) → p < length Ps → bit_at (number_of (map (λ P. length (f P)) Ps)) p ≡ length (f (get_or Ps p []))
  part-bit Ps p low = number-bit (map (λ P. length (f P)) Ps) p (are-bits Ps) ∙ get_or-map (λ P. length (f P)) Ps p [] 0 low

  -- and its rank the number of links of the parts before it
  part-rank : (Ps : List (List (Entry Bytes))) (p : ℕ) → p ≤ length Ps → rank (number_of (map (λ P. length (f P)) Ps)) p ≡ length (flat_map f (take p Ps))
  unfolding rank
  part-rank Ps zero low = refl
  part-rank Ps (suc p) low =
      let before = part-rank Ps p (omega (arith, low)) in
      let here = part-bit Ps p (omega (arith, low)) in
      let more : flat_map f (take (suc p) Ps) ≡ flat_map f (take p Ps) ++ (f (get_or Ps p []) ++ []) =
      ap (flat_map f) (take-suc Ps p [] (omega (arith, low))) ∙ flat_map-append f (take p Ps) (get_or Ps p [] ∷ []) in
      let long : length (flat_map f (take (suc p) Ps)) ≡ length (flat_map f (take p Ps)) + length (f (get_or Ps p [])) =
      ap length more ∙ length-append (flat_map f (take p Ps)) (f (get_or Ps p []) ++ []) ∙ ap (λ n. length (flat_map f (take p Ps)) + n) (length-append (f (get_or Ps p [])) [] ∙ omega arith) in
      omega (arith, before, here, long)

-- what stands for a part
abbrev pub place_for : (List (Entry Bytes) → ℕ) → List (Entry Bytes) → Place
place_for below [] = Empty
place_for below (e ∷ []) = At e.link
place_for below (e ∷ d ∷ es) = Node (below (e ∷ d ∷ es))

single-few : (P : List (Entry Bytes)) → length (single P) < 2
single-few [] = omega arith
single-few (e ∷ []) = omega arith
single-few (e ∷ d ∷ es) = omega arith

module _ (below : List (Entry Bytes) → ℕ) where
  -- the link of two entries or more
  abbrev pub many : List (Entry Bytes) → List ℕ
  many P = of_two (λ Q. below Q ∷ []) P

  many-few : (P : List (Entry Bytes)) → length (many P) < 2
  many-few [] = omega arith
  many-few (e ∷ []) = omega arith
  many-few (e ∷ d ∷ es) = omega arith

  pub ones-many : (Ps : List (List (Entry Bytes))) → map (λ P. length (one_if_two P)) Ps ≡ map (λ P. length (many P)) Ps
  ones-many [] = refl
  ones-many ([] ∷ Ps) = ap (λ ns. 0 ∷ ns) (ones-many Ps)
  ones-many ((e ∷ []) ∷ Ps) = ap (λ ns. 0 ∷ ns) (ones-many Ps)
  ones-many ((e ∷ d ∷ es) ∷ Ps) = ap (λ ns. 1 ∷ ns) (ones-many Ps)

  -- the sets and the links of a row of these parts
  abbrev pub singles : List (List (Entry Bytes)) → ℕ
  singles Ps = number_of (map (λ P. length (single P)) Ps)

  abbrev pub manies : List (List (Entry Bytes)) → ℕ
  manies Ps = number_of (map (λ P. length (many P)) Ps)

  module _ (Ps : List (List (Entry Bytes))) (all : length Ps ≡ 32) (p : ℕ) (low : p < 32) where
    abbrev links : List ℕ
    links = flat_map single Ps ++ flat_map many Ps

    in-single : (Q : List (Entry Bytes)) → get_or Ps p [] ≡ Q → bit_at (singles Ps) p ≡ length (single Q)
    in-single Q here = part-bit single single-few Ps p (omega (arith, all, low)) ∙ ap (λ P. length (single P)) here

    in-many : (Q : List (Entry Bytes)) → get_or Ps p [] ≡ Q → bit_at (manies Ps) p ≡ length (many Q)
    in-many Q here = part-bit many many-few Ps p (omega (arith, all, low)) ∙ ap (λ P. length (many P)) here

    single-link : (e : Entry Bytes) → get_or Ps p [] ≡ e ∷ [] → get_or links (rank (singles Ps) p) 0 ≡ e.link
    single-link e here =
        let short : p < length Ps = omega (arith, all, low) in
        let at : rank (singles Ps) p ≡ length (flat_map single (take p Ps)) = part-rank single single-few Ps p (omega (arith, all, low)) in
        let one : length (single (get_or Ps p [])) ≡ 1 = ap (λ P. length (single P)) here in
        let room = length-flat_map-take single Ps p [] short in
        let found : get_or (flat_map single Ps) (length (flat_map single (take p Ps)) + 0) 0 ≡ get_or (single (get_or Ps p [])) 0 0 = get_or-flat_map single Ps p 0 [] 0 short (omega (arith, one)) in
        let none : length (flat_map single (take p Ps)) + 0 ≡ rank (singles Ps) p = omega (arith, at) in
        get_or_append_left (flat_map single Ps) (flat_map many Ps) 0 (rank (singles Ps) p) (omega (arith, at, one, room))
        ∙ subst (λ i. get_or (flat_map single Ps) i 0 ≡ get_or (single (get_or Ps p [])) 0 0) none found ∙ ap (λ P. get_or (single P) 0 0) here

    many-link : (e d : Entry Bytes) (es : List (Entry Bytes)) → get_or Ps p [] ≡ e ∷ d ∷ es → get_or links (rank (singles Ps) 32 + rank (manies Ps) p) 0 ≡ below (e ∷ d ∷ es)
    many-link e d es here =
        let short : p < length Ps = omega (arith, all, low) in
        let whole : rank (singles Ps) (length Ps) ≡ length (flat_map single (take (length Ps) Ps)) = part-rank single single-few Ps (length Ps) (omega arith) in
        let first : rank (singles Ps) 32 ≡ length (flat_map single Ps) = subst (λ n. rank (singles Ps) n ≡ length (flat_map single (take n Ps))) all whole ∙ ap (λ Qs. length (flat_map single Qs)) (take_all 32 Ps (omega (arith, all))) in
        let at : rank (manies Ps) p ≡ length (flat_map many (take p Ps)) = part-rank many many-few Ps p (omega (arith, all, low)) in
        let two : length (many (get_or Ps p [])) ≡ 1 = ap (λ P. length (many P)) here in
        let found : get_or (flat_map many Ps) (length (flat_map many (take p Ps)) + 0) 0 ≡ get_or (many (get_or Ps p [])) 0 0 = get_or-flat_map many Ps p 0 [] 0 short (omega (arith, two)) in
        let none : length (flat_map many (take p Ps)) + 0 ≡ rank (manies Ps) p = omega (arith, at) in
        ap (λ n. get_or links (n + rank (manies Ps) p) 0) first ∙ get_or-append-add (flat_map single Ps) (flat_map many Ps) (rank (manies Ps) p) 0
        ∙ subst (λ i. get_or (flat_map many Ps) i 0 ≡ get_or (many (get_or Ps p [])) 0 0) none found ∙ ap (λ P. get_or (many P) 0 0) here

    -- at the position stands what stands for the part there
    pub place-part : (Q : List (Entry Bytes)) → get_or Ps p [] ≡ Q → place_of (singles Ps) (manies Ps) links p ≡ place_for below Q
    place-part [] here =
        ap (λ b. cond b (At (get_or links (rank (singles Ps) p) 0)) (cond (has (manies Ps) p) (Node (get_or links (rank (singles Ps) 32 + rank (manies Ps) p) 0)) Empty)) (ap (λ b. nat_eq b 1) (in-single [] here))
        ∙ ap (λ b. cond b (Node (get_or links (rank (singles Ps) 32 + rank (manies Ps) p) 0)) Empty) (ap (λ b. nat_eq b 1) (in-many [] here))
    place-part (e ∷ []) here =
        ap (λ b. cond b (At (get_or links (rank (singles Ps) p) 0)) (cond (has (manies Ps) p) (Node (get_or links (rank (singles Ps) 32 + rank (manies Ps) p) 0)) Empty)) (ap (λ b. nat_eq b 1) (in-single (e ∷ []) here))
        ∙ ap At (single-link e here)
    place-part (e ∷ d ∷ es) here =
        ap (λ b. cond b (At (get_or links (rank (singles Ps) p) 0)) (cond (has (manies Ps) p) (Node (get_or links (rank (singles Ps) 32 + rank (manies Ps) p) 0)) Empty)) (ap (λ b. nat_eq b 1) (in-single (e ∷ d ∷ es) here))
        ∙ ap (λ b. cond b (Node (get_or links (rank (singles Ps) 32 + rank (manies Ps) p) 0)) Empty) (ap (λ b. nat_eq b 1) (in-many (e ∷ d ∷ es) here)) ∙ ap Node (many-link e d es here)

  -- the sets and the links go together
  module _ (Ps : List (List (Entry Bytes))) (all : length Ps ≡ 32) where
    not-two : (Q : List (Entry Bytes)) → nat_eq (length (single Q)) 1 ≡ true → nat_eq (length (many Q)) 1 ≡ false
    not-two [] one = refl
    not-two (e ∷ []) one = refl
    not-two (e ∷ d ∷ es) one = absurd (omega (arith, eqb-true 0 1 one))

    whole-rank : (f : List (Entry Bytes) → List ℕ) (few : (P : List (Entry Bytes)) → length (f P) < 2) → rank (number_of (map (λ P. length (f P)) Ps)) 32 ≡ length (flat_map f Ps)
    whole-rank f few =
        subst (λ n. rank (number_of (map (λ P. length (f P)) Ps)) n ≡ length (flat_map f (take n Ps))) all (part-rank f few Ps (length Ps) (omega arith))
        ∙ ap (λ Qs. length (flat_map f Qs)) (take_all 32 Ps (omega (arith, all)))

    small : (f : List (Entry Bytes) → List ℕ) (few : (P : List (Entry Bytes)) → length (f P) < 2) → number_of (map (λ P. length (f P)) Ps) < 2 ^ 32
    small f few = subst (λ n. number_of (map (λ P. length (f P)) Ps) < 2 ^ n) (length-map Ps (λ P. length (f P)) ∙ all) (number-low (map (λ P. length (f P)) Ps) (are-bits f few Ps))

    pub sets-are : AreSets (singles Ps) (manies Ps) (flat_map single Ps ++ flat_map many Ps)
    sets-are = record {
      entries_small = small single single-few;
      nodes_small = small many many-few;
      apart = λ p low there.
          ap (λ b. nat_eq b 1) (in-many Ps all p low (get_or Ps p []) refl) ∙ not-two (get_or Ps p []) (sym (ap (λ b. nat_eq b 1) (in-single Ps all p low (get_or Ps p []) refl)) ∙ there);
      count = length-append (flat_map single Ps) (flat_map many Ps) ∙ omega (arith, whole-rank single single-few, whole-rank many many-few);
    }
