-- What stands at each position of a row after something is taken out or put in.
use Rattle.std.proofs.Common.{◌≡◌, ℕ, suc, zero, ◌+◌, ◌<◌, ◌≤◌, ◌^◌, List, length, get_or, refl, ap, sym, subst, ◌∙◌, arith, cond, true, false, inl, inr}
use Rattle.std.specs.List.{insert, remove}
use Rattle.std.proofs.lemmas.Bool.{cases_Bool, cases_lt, cases_order}
use Rattle.std.proofs.lemmas.List.Edits.{length-insert, get_or-insert_below, get_or-insert_at, get_or-insert_above, length-remove, get_or-remove_below, get_or-remove_above}
use Rattle.std.specs.Int.{bit_at}
use Rattle.champ_trie.specs.Bits.{has, rank, GainsPosition}
use Rattle.champ_trie.specs.Trie.{AreSets, place_of}
pub use Rattle.champ_trie.specs.Edit.{ChangesAt as Changes}
use Rattle.champ_trie.specs.declared.place.Place.TheVariants.{Entry as At, Node, Empty}
use Rattle.champ_trie.proofs.BitLemmas.{rank-mono, rank-lt, rank-gain_below, rank-gain_above, has-bit, bit-has, bit-no, no-bit, has-same}
use Rattle.std.proofs.lemmas.Nat.Bits.{bit_at-lt}

-- the three things that stand at a position
pub place-entry : (e n : ℕ) (ls : List ℕ) (p : ℕ) → has e p ≡ true → place_of e n ls p ≡ At (get_or ls (rank e p) 0)
place-entry e n ls p here = ap (λ b. cond b (At (get_or ls (rank e p) 0)) (cond (has n p) (Node (get_or ls (rank e 32 + rank n p) 0)) Empty)) here

pub place-node : (e n : ℕ) (ls : List ℕ) (p : ℕ) → has e p ≡ false → has n p ≡ true → place_of e n ls p ≡ Node (get_or ls (rank e 32 + rank n p) 0)
place-node e n ls p absent here =
    ap (λ b. cond b (At (get_or ls (rank e p) 0)) (cond (has n p) (Node (get_or ls (rank e 32 + rank n p) 0)) Empty)) absent
    ∙ ap (λ b. cond b (Node (get_or ls (rank e 32 + rank n p) 0)) Empty) here

pub place-empty : (e n : ℕ) (ls : List ℕ) (p : ℕ) → has e p ≡ false → has n p ≡ false → place_of e n ls p ≡ Empty
place-empty e n ls p absent none =
    ap (λ b. cond b (At (get_or ls (rank e p) 0)) (cond (has n p) (Node (get_or ls (rank e 32 + rank n p) 0)) Empty)) absent
    ∙ ap (λ b. cond b (Node (get_or ls (rank e 32 + rank n p) 0)) Empty) none

pub place-free : (e n : ℕ) (ls : List ℕ) (p : ℕ) → place_of e n ls p ≡ Empty → (has e p ≡ false) × (has n p ≡ false)
place-free e n ls p free = elim (cases_Bool (has e p)) [
  | inl here ↦ absurd (let bad = sym free ∙ place-entry e n ls p here in cc)
  | inr absent ↦ elim (cases_Bool (has n p)) [
    | inl here ↦ absurd (let bad = sym free ∙ place-node e n ls p absent here in cc)
    | inr none ↦ (absent, none)
  ]
]

-- two rows have the same at a position
same-place : (e n : ℕ) (ls : List ℕ) (e' n' : ℕ) (ls' : List ℕ) (q : ℕ) → has e' q ≡ has e q → has n' q ≡ has n q
    → (has e q ≡ true → get_or ls' (rank e' q) 0 ≡ get_or ls (rank e q) 0)
    → (has e q ≡ false → has n q ≡ true → get_or ls' (rank e' 32 + rank n' q) 0 ≡ get_or ls (rank e 32 + rank n q) 0)
    → place_of e' n' ls' q ≡ place_of e n ls q
same-place e n ls e' n' ls' q same_e same_n entries nodes = elim (cases_Bool (has e q)) [
  | inl here ↦ place-entry e' n' ls' q (same_e ∙ here) ∙ ap At (entries here) ∙ sym (place-entry e n ls q here)
  | inr absent ↦ elim (cases_Bool (has n q)) [
    | inl here ↦ place-node e' n' ls' q (same_e ∙ absent) (same_n ∙ here) ∙ ap Node (nodes absent here) ∙ sym (place-node e n ls q absent here)
    | inr none ↦ place-empty e' n' ls' q (same_e ∙ absent) (same_n ∙ none) ∙ sym (place-empty e n ls q absent none)
  ]
]

module _ (e n : ℕ) (ls : List ℕ) (p : ℕ) (small : p < 32) (sets : AreSets e n ls) where
  pub entry-in : has e p ≡ true → rank e p < length ls
  entry-in here = omega (arith, sets.count, rank-lt e p 32 small here)

  pub node-in : has n p ≡ true → rank e 32 + rank n p < length ls
  node-in here = omega (arith, sets.count, rank-lt n p 32 small here)

  -- where a node stands no entry does
  pub node-alone : has n p ≡ true → has e p ≡ false
  node-alone here = elim (cases_Bool (has e p)) [
    | inl both ↦ absurd (let bad = sym here ∙ sets.apart p small both in cc)
    | inr none ↦ none
  ]

  -- nothing stands there
  pub clear-none : has e p ≡ false → has n p ≡ false → Changes e n ls e n ls p Empty
  clear-none absent none = record { sets = sets; here = place-empty e n ls p absent none; others = λ q lt other. refl }

  -- an entry is taken out
  pub clear-entry : (e' : ℕ) → e' < 2 ^ 32 → has e p ≡ true → GainsPosition e' e p → Changes e n ls e' n (remove ls (rank e p)) p Empty
  clear-entry e' low had lost =
      let i : ℕ = rank e p in
      let within = entry-in had in
      let fewer : length (remove ls i) + 1 ≡ length ls = length-remove ls i within in
      let all : rank e 32 ≡ rank e' 32 + 1 = rank-gain_above e' e p 32 lost small small (omega arith) in
      let at : rank e p ≡ rank e' p = rank-gain_below e' e p p lost small (omega arith) in
      let below : rank e' p ≤ rank e' 32 = rank-mono e' p 32 (omega arith) in
      record {
        sets = record {
          entries_small = low;
          nodes_small = sets.nodes_small;
          apart = λ q lt has'. elim (cases_order q p) [
            | inl same ↦ absurd (let bad = sym (subst (λ r. has e' r ≡ true) same has') ∙ no-bit e' p lost.was in cc)
            | inr (inl less) ↦ sets.apart q lt (has-same e' e q (lost.others q lt (λ same. omega arith)) ∙ has')
            | inr (inr more) ↦ sets.apart q lt (has-same e' e q (lost.others q lt (λ same. omega arith)) ∙ has')
          ];
          count = omega (arith, sets.count, fewer, all);
        };
        here = place-empty e' n (remove ls i) p (no-bit e' p lost.was) (sets.apart p small had);
        others = λ q lt other. same-place e n ls e' n (remove ls i) q (sym (has-same e' e q (lost.others q lt other))) refl
            (λ here. elim (cases_lt q p) [
              | inl less ↦
                  let same : rank e q ≡ rank e' q = rank-gain_below e' e p q lost small (omega arith) in
                  let lower : rank e q < rank e p = rank-lt e q p less here in
                  get_or-remove_below ls i 0 (rank e' q) (omega arith) within ∙ ap (λ j. get_or ls j 0) (sym same)
              | inr up ↦
                  let less : p < q = omega (arith, other) in
                  let next : rank e q ≡ rank e' q + 1 = rank-gain_above e' e p q lost small less (omega arith) in
                  let later : rank e' p ≤ rank e' q = rank-mono e' p q (omega arith) in
                  get_or-remove_above ls i 0 (rank e' q) (omega arith) within ∙ ap (λ j. get_or ls j 0) (sym next)
            ])
            (λ absent here. get_or-remove_above ls i 0 (rank e' 32 + rank n q) (omega arith) within ∙ ap (λ j. get_or ls j 0) (omega arith));
      }

  -- a node is taken out
  pub clear-node : (n' : ℕ) → n' < 2 ^ 32 → has e p ≡ false → has n p ≡ true → GainsPosition n' n p → Changes e n ls e n' (remove ls (rank e 32 + rank n p)) p Empty
  clear-node n' low absent had lost =
      let i : ℕ = rank e 32 + rank n p in
      let within = node-in had in
      let fewer : length (remove ls i) + 1 ≡ length ls = length-remove ls i within in
      let all : rank n 32 ≡ rank n' 32 + 1 = rank-gain_above n' n p 32 lost small small (omega arith) in
      let at : rank n p ≡ rank n' p = rank-gain_below n' n p p lost small (omega arith) in
      record {
        sets = record {
          entries_small = sets.entries_small;
          nodes_small = low;
          apart = λ q lt has'. elim (cases_order q p) [
            | inl same ↦ absurd (let bad = sym (subst (λ r. has e r ≡ true) same has') ∙ absent in cc)
            | inr (inl less) ↦ sym (has-same n' n q (lost.others q lt (λ same. omega arith))) ∙ sets.apart q lt has'
            | inr (inr more) ↦ sym (has-same n' n q (lost.others q lt (λ same. omega arith))) ∙ sets.apart q lt has'
          ];
          count = omega (arith, sets.count, fewer, all);
        };
        here = place-empty e n' (remove ls i) p absent (no-bit n' p lost.was);
        others = λ q lt other. same-place e n ls e n' (remove ls i) q refl (sym (has-same n' n q (lost.others q lt other)))
            (λ here. get_or-remove_below ls i 0 (rank e q) (omega (arith, rank-lt e q 32 lt here)) within)
            (λ none here. elim (cases_lt q p) [
              | inl less ↦
                  let same : rank n q ≡ rank n' q = rank-gain_below n' n p q lost small (omega arith) in
                  let lower : rank n q < rank n p = rank-lt n q p less here in
                  get_or-remove_below ls i 0 (rank e 32 + rank n' q) (omega arith) within ∙ ap (λ j. get_or ls (rank e 32 + j) 0) (sym same)
              | inr up ↦
                  let less : p < q = omega (arith, other) in
                  let next : rank n q ≡ rank n' q + 1 = rank-gain_above n' n p q lost small less (omega arith) in
                  let later : rank n' p ≤ rank n' q = rank-mono n' p q (omega arith) in
                  get_or-remove_above ls i 0 (rank e 32 + rank n' q) (omega arith) within ∙ ap (λ j. get_or ls j 0) (omega arith)
            ]);
      }

  -- an entry is put in
  pub put-entry : (e' x : ℕ) → e' < 2 ^ 32 → has e p ≡ false → has n p ≡ false → GainsPosition e e' p → Changes e n ls e' n (insert ls (rank e p) x) p (At x)
  put-entry e' x low absent none gains =
      let i : ℕ = rank e p in
      let up_to : rank e p ≤ rank e 32 = rank-mono e p 32 (omega arith) in
      let within : i ≤ length ls = omega (arith, sets.count) in
      let all : rank e' 32 ≡ rank e 32 + 1 = rank-gain_above e e' p 32 gains small small (omega arith) in
      let at : rank e' p ≡ rank e p = rank-gain_below e e' p p gains small (omega arith) in
      record {
        sets = record {
          entries_small = low;
          nodes_small = sets.nodes_small;
          apart = λ q lt has'. elim (cases_order q p) [
            | inl same ↦ ap (has n) same ∙ none
            | inr (inl less) ↦ sets.apart q lt (sym (has-same e e' q (gains.others q lt (λ same. omega arith))) ∙ has')
            | inr (inr more) ↦ sets.apart q lt (sym (has-same e e' q (gains.others q lt (λ same. omega arith))) ∙ has')
          ];
          count = omega (arith, length-insert ls i x within, sets.count, all);
        };
        here = place-entry e' n (insert ls i x) p (has-bit e' p gains.is) ∙ ap At (ap (λ j. get_or (insert ls i x) j 0) at ∙ get_or-insert_at ls i x 0 within);
        others = λ q lt other. same-place e n ls e' n (insert ls i x) q (has-same e e' q (gains.others q lt other)) refl
            (λ here. elim (cases_lt q p) [
              | inl less ↦
                  let same : rank e' q ≡ rank e q = rank-gain_below e e' p q gains small (omega arith) in
                  let lower : rank e q < rank e p = rank-lt e q p less here in
                  ap (λ j. get_or (insert ls i x) j 0) same ∙ get_or-insert_below ls i x 0 (rank e q) lower within
              | inr up ↦
                  let less : p < q = omega (arith, other) in
                  let next : rank e' q ≡ rank e q + 1 = rank-gain_above e e' p q gains small less (omega arith) in
                  ap (λ j. get_or (insert ls i x) j 0) next ∙ get_or-insert_above ls i x 0 (rank e q) (rank-mono e p q (omega arith)) within
            ])
            (λ absent here.
            let next : rank e' 32 + rank n q ≡ rank e 32 + rank n q + 1 = omega arith in
            ap (λ j. get_or (insert ls i x) j 0) next ∙ get_or-insert_above ls i x 0 (rank e 32 + rank n q) (omega arith) within);
      }

  -- a node is put in
  pub put-node : (n' x : ℕ) → n' < 2 ^ 32 → has e p ≡ false → has n p ≡ false → GainsPosition n n' p → Changes e n ls e n' (insert ls (rank e 32 + rank n p) x) p (Node x)
  put-node n' x low absent none gains =
      let i : ℕ = rank e 32 + rank n p in
      let up_to : rank n p ≤ rank n 32 = rank-mono n p 32 (omega arith) in
      let within : i ≤ length ls = omega (arith, sets.count) in
      let all : rank n' 32 ≡ rank n 32 + 1 = rank-gain_above n n' p 32 gains small small (omega arith) in
      let at : rank n' p ≡ rank n p = rank-gain_below n n' p p gains small (omega arith) in
      record {
        sets = record {
          entries_small = sets.entries_small;
          nodes_small = low;
          apart = λ q lt has'. elim (cases_order q p) [
            | inl same ↦ absurd (let bad = sym (subst (λ r. has e r ≡ true) same has') ∙ absent in cc)
            | inr (inl less) ↦ has-same n n' q (gains.others q lt (λ same. omega arith)) ∙ sets.apart q lt has'
            | inr (inr more) ↦ has-same n n' q (gains.others q lt (λ same. omega arith)) ∙ sets.apart q lt has'
          ];
          count = omega (arith, length-insert ls i x within, sets.count, all);
        };
        here = place-node e n' (insert ls i x) p absent (has-bit n' p gains.is) ∙ ap Node (ap (λ j. get_or (insert ls i x) (rank e 32 + j) 0) at ∙ get_or-insert_at ls i x 0 within);
        others = λ q lt other. same-place e n ls e n' (insert ls i x) q refl (has-same n n' q (gains.others q lt other))
            (λ here. get_or-insert_below ls i x 0 (rank e q) (omega (arith, rank-lt e q 32 lt here)) within)
            (λ absent here. elim (cases_lt q p) [
              | inl less ↦
                  let same : rank n' q ≡ rank n q = rank-gain_below n n' p q gains small (omega arith) in
                  let lower : rank n q < rank n p = rank-lt n q p less here in
                  ap (λ j. get_or (insert ls i x) (rank e 32 + j) 0) same ∙ get_or-insert_below ls i x 0 (rank e 32 + rank n q) (omega arith) within
              | inr up ↦
                  let less : p < q = omega (arith, other) in
                  let next : rank e 32 + rank n' q ≡ rank e 32 + rank n q + 1 = omega (arith, rank-gain_above n n' p q gains small less (omega arith)) in
                  ap (λ j. get_or (insert ls i x) j 0) next ∙ get_or-insert_above ls i x 0 (rank e 32 + rank n q) (omega (arith, rank-mono n p q (omega arith))) within
            ]);
      }

-- where nothing stands at a position there is room for one more
both-le : (e n p : ℕ) → ((q : ℕ) → q < p → has e q ≡ true → has n q ≡ false) → rank e p + rank n p ≤ p
unfolding rank
both-le e n zero apart = omega arith
both-le e n (suc p) apart =
    let rest = both-le e n p (λ q lt here. apart q (omega arith) here) in
    elim (cases_Bool (has e p)) [
      | inl here ↦ let none = bit-no n p (apart p (omega arith) here) in omega (arith, rest, bit-has e p here, none)
      | inr absent ↦ omega (arith, rest, bit-no e p absent, bit_at-lt n p)
    ]

room-above : (e n p m : ℕ) → ((q : ℕ) → q < 32 → has e q ≡ true → has n q ≡ false) → has e p ≡ false → has n p ≡ false → p < m → m ≤ 32 → rank e m + rank n m < m
unfolding rank
room-above e n p zero apart absent none lt le = absurd (omega arith)
room-above e n p (suc m) apart absent none lt le = elim (cases_lt p m) [
  | inl less ↦
      let rest = room-above e n p m apart absent none less (omega arith) in
      elim (cases_Bool (has e m)) [
        | inl here ↦ let gone = bit-no n m (apart m (omega arith) here) in omega (arith, rest, bit-has e m here, gone)
        | inr empty ↦ omega (arith, rest, bit-no e m empty, bit_at-lt n m)
      ]
  | inr up ↦
      let same : p ≡ m = omega arith in
      let rest = both-le e n m (λ q low here. apart q (omega arith) here) in
      let a : bit_at e m ≡ 0 = subst (λ r. bit_at e r ≡ 0) same (bit-no e p absent) in
      let b : bit_at n m ≡ 0 = subst (λ r. bit_at n r ≡ 0) same (bit-no n p none) in
      omega (arith, rest, a, b)
]

pub room : (e n : ℕ) (ls : List ℕ) (p : ℕ) → p < 32 → AreSets e n ls → has e p ≡ false → has n p ≡ false → length ls < 32
room e n ls p small sets absent none = omega (arith, sets.count, room-above e n p 32 sets.apart absent none small (omega arith))

-- a row has 32 links at most
pub sets-short : (e n : ℕ) (ls : List ℕ) → AreSets e n ls → length ls ≤ 32
sets-short e n ls sets = omega (arith, sets.count, both-le e n 32 sets.apart)
