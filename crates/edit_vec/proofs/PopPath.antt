-- The rows that a pop writes: the row that it begins at, and those of its right spine to the lowest with two links or more.
use Rattle.std.proofs.Common.{◌≡◌, ◌≢◌, ℕ, suc, zero, ◌-◌, ◌<◌, ◌≤◌, List, [], ◌∷◌, length, get_or, refl, ap, sym, subst, ◌∙◌, arith, length-append, Bool, true, false, inl, inr}
use Rattle.std.specs.Prelude.{◌==◌, ◌&&◌, nat_le, slice_index, if◌then◌else◌}
use Rattle.std.specs.List.{All, flat_map}
use Rattle.std.proofs.lemmas.Bool.{cases_eq}
use Rattle.std.proofs.lemmas.Bool.Decides.{nat_tests}
use Rattle.node_heap.specs.Links.{HasLink}
use Rattle.node_heap.specs.Forms.{Forms, links_of, links_in}
use Rattle.node_heap.specs.Heap.{Heap, form_at, links_at}
use Rattle.node_heap.proofs.Edited.{count-at}
use Rattle.rrb_core.specs.Seq.{seq_at, height_in, IsWell}
use Rattle.rrb_core.specs.Push.{last_in}
use Rattle.rrb_core.proofs.ClosedRows.{Stays}
use Rattle.rrb_core.proofs.FillRule.{well-pos}
use Rattle.rrb_core.proofs.RowSizes.{not-empty-count}
use Rattle.rrb_core.proofs.Stays.{links-form, forms-stay, seq-stays}
use Rattle.edit_vec.specs.Path.{keep_or_stop, up_to_last, spine_at, pop_path}
use Rattle.edit_vec.specs.Steps.{pop_rows, LeavesChild}
use Rattle.edit_vec.proofs.PathLemmas.{spine-below}

module _ {K : Type 0} (F : Forms K) where
  -- this part of the right spine
  abbrev pub part : ℕ → ℕ → List ℕ
  part n l = up_to_last (λ k. nat_le 2 (length (links_in F k))) (spine_at F n l)

  pub part-leaf : (l : ℕ) → part zero l ≡ keep_or_stop l (nat_le 2 (length (links_in F l))) []
  part-leaf l = ap (up_to_last (λ k. nat_le 2 (length (links_in F k)))) (spine-below F zero l)

  pub part-inner : (n l : ℕ) → part (suc n) l ≡ keep_or_stop l (nat_le 2 (length (links_in F l))) (part n (last_in F l))
  part-inner n l = ap (up_to_last (λ k. nat_le 2 (length (links_in F k)))) (spine-below F (suc n) l)

  -- the last child of a row
  pub record IsLast (n l : ℕ) : Type 0 where
    pub some : 1 ≤ length (links_in F l)
    pub well : IsWell F n (last_in F l)
    pub more : 1 ≤ length (seq_at F n (last_in F l))
    pub whole : length (links_in F l) ≡ 1 → length (seq_at F (suc n) l) ≡ length (seq_at F n (last_in F l))
    pub wide : length (links_in F l) ≤ length (seq_at F (suc n) l)

  one-whole : (f : ℕ → List ℕ) (ks : List ℕ) → length ks ≡ 1 → length (flat_map f ks) ≡ length (f (get_or ks (length ks - 1) 0))
  one-whole f [] e = absurd (omega (arith, e))
  one-whole f (k ∷ []) e = omega (arith, length-append (f k) [])
  one-whole f (k ∷ j ∷ ks) e = absurd (omega (arith, e))

  pub is-last : (n l : ℕ) → IsWell F (suc n) l → IsLast n l
  unfolding IsWell seq_at
  is-last n l w =
      let lt : length (links_in F l) - 1 < length (links_in F l) = omega (arith, w.some) in
      record {
        some = w.some;
        well = w.children (length (links_in F l) - 1) 0 lt;
        more = well-pos F n (last_in F l) (w.children (length (links_in F l) - 1) 0 lt) (w.not_empty (length (links_in F l) - 1) 0 lt);
        whole = one-whole (seq_at F n) (links_in F l);
        wide = not-empty-count (seq_at F n) (links_in F l) (λ k d b. well-pos F n (get_or (links_in F l) k d) (w.children k d b) (w.not_empty k d b));
      }

  pub single-links : (n l : ℕ) → IsWell F n l → length (seq_at F n l) ≡ 1 → length (links_in F l) ≡ 1
  unfolding seq_at
  single-links zero l w one = one
  single-links (suc n) l w one = let last = is-last n l w in omega (arith, last.some, last.wide, one)

  -- no row of the right spine of one with one element has two links
  pub part-single : (n l : ℕ) → IsWell F n l → length (seq_at F n l) ≡ 1 → part n l ≡ []
  unfolding seq_at
  part-single zero l w one =
      let test : nat_le 2 (length (links_in F l)) ≡ false = grind (arith, nat_tests, one) in
      part-leaf l ∙ ap (λ (b : Bool). keep_or_stop l b []) test
  part-single (suc n) l w one =
      let last = is-last n l w in
      let single : length (links_in F l) ≡ 1 = omega (arith, last.some, last.wide, one) in
      let test : nat_le 2 (length (links_in F l)) ≡ false = grind (arith, nat_tests, single) in
      let below : part n (last_in F l) ≡ [] = part-single n (last_in F l) last.well (sym (last.whole single) ∙ one) in
      part-inner n l ∙ ap (keep_or_stop l (nat_le 2 (length (links_in F l)))) below ∙ ap (λ (b : Bool). keep_or_stop l b []) test

  -- the rows behind the first
  abbrev pub pop_tail : ℕ → ℕ → List ℕ
  pop_tail zero l = []
  pop_tail (suc n) l = if length (seq_at F n (last_in F l)) == 1 then [] else pop_rows F n (last_in F l)

  pub tail-single : (n l : ℕ) → length (seq_at F n (last_in F l)) ≡ 1 → pop_tail (suc n) l ≡ []
  tail-single n l one =
      let test : (length (seq_at F n (last_in F l)) == 1) ≡ true = grind (arith, nat_tests, one) in
      ap (λ (b : Bool). if b then [] else pop_rows F n (last_in F l)) test

  pub tail-more : (n l : ℕ) → length (seq_at F n (last_in F l)) ≢ 1 → pop_tail (suc n) l ≡ pop_rows F n (last_in F l)
  tail-more n l other =
      let test : (length (seq_at F n (last_in F l)) == 1) ≡ false = grind (arith, nat_tests, other) in
      ap (λ (b : Bool). if b then [] else pop_rows F n (last_in F l)) test

  rows-single : (n l : ℕ) → length (seq_at F n l) ≡ 1 → pop_rows F n l ≡ l ∷ []
  rows-single n l one =
      let test : (length (seq_at F n l) == 1) ≡ true = grind (arith, nat_tests, one) in
      ap (λ (b : Bool). if b then l ∷ [] else part n l) test

  rows-more : (n l : ℕ) → length (seq_at F n l) ≢ 1 → pop_rows F n l ≡ part n l
  rows-more n l other =
      let test : (length (seq_at F n l) == 1) ≡ false = grind (arith, nat_tests, other) in
      ap (λ (b : Bool). if b then l ∷ [] else part n l) test

  part-more : (n l : ℕ) → IsWell F n l → 2 ≤ length (seq_at F n l) → part n l ≡ l ∷ pop_tail n l
  unfolding seq_at
  part-more zero l w two =
      let test : nat_le 2 (length (links_in F l)) ≡ true = grind (arith, nat_tests, two) in
      part-leaf l ∙ ap (λ (b : Bool). keep_or_stop l b []) test
  part-more (suc n) l w two =
      let last = is-last n l w in
      elim (cases_eq (length (seq_at F n (last_in F l))) 1) as (λ _. part (suc n) l ≡ l ∷ pop_tail (suc n) l) [
        | inl one ↦
            let many : 2 ≤ length (links_in F l) = elim (cases_eq (length (links_in F l)) 1) as (λ _. 2 ≤ length (links_in F l)) [
              | inl single ↦ absurd (omega (arith, last.whole single, one, two))
              | inr other ↦ omega (arith, other, last.some)
            ] in
            let test : nat_le 2 (length (links_in F l)) ≡ true = grind (arith, nat_tests, many) in
            part-inner n l ∙ ap (keep_or_stop l (nat_le 2 (length (links_in F l)))) (part-single n (last_in F l) last.well one) ∙ ap (λ (b : Bool). keep_or_stop l b []) test ∙ ap (λ (xs : List ℕ). l ∷ xs) (sym (tail-single n l one))
        | inr other ↦
            let below : part n (last_in F l) ≡ last_in F l ∷ pop_tail n (last_in F l) = part-more n (last_in F l) last.well (omega (arith, other, last.more)) in
            part-inner n l ∙ ap (keep_or_stop l (nat_le 2 (length (links_in F l)))) below ∙ ap (λ (xs : List ℕ). l ∷ xs) (sym (tail-more n l other ∙ rows-more n (last_in F l) other ∙ below))
      ]

  -- the row itself comes first
  pub rows-first : (n l : ℕ) → IsWell F n l → 1 ≤ length (seq_at F n l) → pop_rows F n l ≡ l ∷ pop_tail n l
  rows-first n l w some = elim (cases_eq (length (seq_at F n l)) 1) as (λ _. pop_rows F n l ≡ l ∷ pop_tail n l) [
    | inl one ↦ rows-single n l one ∙ ap (λ (xs : List ℕ). l ∷ xs) (sym (none n l w one))
    | inr other ↦ rows-more n l other ∙ part-more n l w (omega (arith, other, some))
  ]
    where
      none : (m k : ℕ) → IsWell F m k → length (seq_at F m k) ≡ 1 → pop_tail m k ≡ []
      none zero k w one = refl
      none (suc m) k w one =
          let last = is-last m k w in
          let single : length (links_in F k) ≡ 1 = omega (arith, last.some, last.wide, one) in
          tail-single m k (sym (last.whole single) ∙ one)

  -- and its last child next
  pub tail-first : (n l : ℕ) → IsWell F n l → 1 ≤ length (pop_tail n l) → (1 ≤ length (links_in F l)) × (get_or (pop_tail n l) 0 0 ≡ last_in F l)
  tail-first zero l w some = absurd (omega (arith, some))
  tail-first (suc n) l w some =
      let last = is-last n l w in
      elim (cases_eq (length (seq_at F n (last_in F l))) 1) as (λ _. (1 ≤ length (links_in F l)) × (get_or (pop_tail (suc n) l) 0 0 ≡ last_in F l)) [
        | inl one ↦ absurd (omega (arith, some, ap length (tail-single n l one)))
        | inr other ↦ (last.some, ap (λ (xs : List ℕ). get_or xs 0 0) (tail-more n l other ∙ rows-first n (last_in F l) last.well last.more))
      ]

  -- links that name one form
  pub tail-same : (n c d : ℕ) → F c ≡ F d → pop_tail n c ≡ pop_tail n d
  tail-same zero c d e = refl
  tail-same (suc n) c d e = ap (λ r. if length (seq_at F n (slice_index (links_of r) (length (links_of r) - 1))) == 1 then [] else pop_rows F n (slice_index (links_of r) (length (links_of r) - 1))) e

pub tail-linked : {T : Type 0} (h : Heap T) (n l : ℕ) → IsWell (form_at h) n l → 1 ≤ length (pop_tail (form_at h) n l) → HasLink (links_at h) l (get_or (pop_tail (form_at h) n l) 0 0)
tail-linked h n l w some =
    let first = tail-first (form_at h) n l w some in
    let same : links_in (form_at h) l ≡ links_at h l = links-form h l in
    let many : 1 ≤ length (links_at h l) = rw same at first.0 in
    count-at (links_at h l) (length (links_at h l) - 1) (get_or (pop_tail (form_at h) n l) 0 0) (omega (arith, many)) (sym (rw same at first.1))

pub tail-stays : {T : Type 0} {P : ℕ → Type 0} {old new : Heap T} → Stays P old new → (n l : ℕ) → P l → IsWell (form_at old) n l → IsWell (form_at new) n l → pop_tail (form_at new) n l ≡ pop_tail (form_at old) n l
tail-stays s zero l p w w' = refl
tail-stays {P = P} {old = old} {new = new} s (suc n) l p w w' =
    let F = form_at old in
    let G = form_at new in
    let ks : List ℕ = links_in F l in
    let last = is-last F n l w in
    let last' = is-last G n l w' in
    let k : ℕ = last_in F l in
    let named : All P ks = rw (links-form old l) (s.closed l p) in
    let there : P k = named (length ks - 1) 0 (omega (arith, last.some)) in
    let is : last_in G l ≡ k = ap (λ (xs : List ℕ). get_or xs (length xs - 1) 0) (forms-stay s l p) in
    let well' : IsWell G n k = subst (IsWell G n) is last'.well in
    let size : seq_at G n k ≡ seq_at F n k = seq-stays s n k there in
    let below : pop_rows G n k ≡ pop_rows F n k = rows-first G n k well' (omega (arith, last.more, ap length size)) ∙ ap (λ (xs : List ℕ). k ∷ xs) (tail-stays s n k there last.well well') ∙ sym (rows-first F n k last.well last.more) in
    ap (λ (j : ℕ). if length (seq_at G n j) == 1 then [] else pop_rows G n j) is
    ∙ ap (λ (xs : List ℕ). if length xs == 1 then [] else pop_rows G n k) size
    ∙ ap (λ (xs : List ℕ). if length (seq_at F n k) == 1 then [] else xs) below

-- the path of a pop of a whole vector of height n
module _ {K : Type 0} (F : Forms K) where
  abbrev path_at : ℕ → ℕ → List ℕ
  path_at n root = if length (seq_at F n root) == 1 then root ∷ [] else if nat_le 1 n && (length (links_in F root) == 2) && (length (part F n root) == 1) then [] else part F n root

  -- what is behind the first row, where the last child has more than one element
  tail-some : (n l : ℕ) → IsWell F (suc n) l → length (seq_at F n (last_in F l)) ≢ 1 → 1 ≤ length (pop_tail F (suc n) l)
  tail-some n l w other =
      let last = is-last F n l w in
      omega (arith, ap length (tail-more F n l other ∙ rows-first F n (last_in F l) last.well last.more))

  -- it has no row where the root goes
  path-goes : (n root : ℕ) → IsWell F n root → LeavesChild F n root → path_at n root ≡ []
  path-goes zero root w goes = absurd (omega (arith, goes.0))
  path-goes (suc n) root w goes =
      let last = is-last F n root w in
      let down : suc n - 1 ≡ n = omega arith in
      let one : length (seq_at F n (last_in F root)) ≡ 1 = rw down at goes.2 in
      let more : 2 ≤ length (seq_at F (suc n) root) = omega (arith, last.wide, goes.1) in
      let long : (length (seq_at F (suc n) root) == 1) ≡ false = grind (arith, nat_tests, more) in
      let both : (length (links_in F root) == 2) ≡ true = grind (arith, nat_tests, goes.1) in
      let single : length (part F (suc n) root) ≡ 1 = ap length (part-more F (suc n) root w more ∙ ap (λ (xs : List ℕ). root ∷ xs) (tail-single F n root one)) in
      let test : (length (part F (suc n) root) == 1) ≡ true = grind (arith, nat_tests, single) in
      ap (λ (b : Bool). if b then root ∷ [] else if nat_le 1 (suc n) && (length (links_in F root) == 2) && (length (part F (suc n) root) == 1) then [] else part F (suc n) root) long
      ∙ ap (λ (b : Bool). if nat_le 1 (suc n) && b && (length (part F (suc n) root) == 1) then [] else part F (suc n) root) both
      ∙ ap (λ (b : Bool). if nat_le 1 (suc n) && true && b then [] else part F (suc n) root) test
      ∙ ap (λ (b : Bool). if b && true && true then [] else part F (suc n) root) (up n)
    where
      up : (m : ℕ) → nat_le 1 (suc m) ≡ true
      up m = grind (arith, nat_tests)

  -- and else it is that of the root as of a row that stays
  path-stays : (n root : ℕ) → IsWell F n root → 1 ≤ length (seq_at F n root) → ¬ LeavesChild F n root → path_at n root ≡ pop_rows F n root
  path-stays n root w some stays = elim (cases_eq (length (seq_at F n root)) 1) as (λ _. path_at n root ≡ pop_rows F n root) [
    | inl one ↦
        let test : (length (seq_at F n root) == 1) ≡ true = grind (arith, nat_tests, one) in
        ap (λ (b : Bool). if b then root ∷ [] else if nat_le 1 n && (length (links_in F root) == 2) && (length (part F n root) == 1) then [] else part F n root) test ∙ sym (rows-single F n root one)
    | inr other ↦
        let test : (length (seq_at F n root) == 1) ≡ false = grind (arith, nat_tests, other) in
        ap (λ (b : Bool). if b then root ∷ [] else if nat_le 1 n && (length (links_in F root) == 2) && (length (part F n root) == 1) then [] else part F n root) test
        ∙ ap (λ (b : Bool). if b then [] else part F n root) (tests n w (omega (arith, other, some)) stays)
        ∙ sym (rows-more F n root other)
  ]
    where
      tests : (m : ℕ) → IsWell F m root → 2 ≤ length (seq_at F m root) → ¬ LeavesChild F m root → (nat_le 1 m && (length (links_in F root) == 2) && (length (part F m root) == 1)) ≡ false
      tests zero w more stays = refl
      tests (suc m) w more stays =
          let down : suc m - 1 ≡ m = omega arith in
          elim (cases_eq (length (links_in F root)) 2) as (λ _. (nat_le 1 (suc m) && (length (links_in F root) == 2) && (length (part F (suc m) root) == 1)) ≡ false) [
            | inl both ↦
                let many : length (seq_at F m (last_in F root)) ≢ 1 = λ one. stays (omega arith, both, rw down one) in
                let long : length (part F (suc m) root) ≢ 1 = λ one. absurd (omega (arith, one, ap length (part-more F (suc m) root w more), tail-some m root w many)) in
                let test : (length (part F (suc m) root) == 1) ≡ false = grind (arith, nat_tests, long) in
                ap (λ (b : Bool). nat_le 1 (suc m) && (length (links_in F root) == 2) && b) test ∙ none (nat_le 1 (suc m)) (length (links_in F root) == 2)
            | inr other ↦
                let test : (length (links_in F root) == 2) ≡ false = grind (arith, nat_tests, other) in
                ap (λ (b : Bool). nat_le 1 (suc m) && b && (length (part F (suc m) root) == 1)) test ∙ none' (nat_le 1 (suc m)) (length (part F (suc m) root) == 1)
          ]
        where
          none : (a b : Bool) → (a && b && false) ≡ false
          none true true = refl
          none true false = refl
          none false b = refl

          none' : (a b : Bool) → (a && false && b) ≡ false
          none' true b = refl
          none' false b = refl

  pub pop-goes : (n root : ℕ) → n ≡ height_in F root → IsWell F n root → LeavesChild F n root → pop_path F root ≡ []
  pop-goes n root tall w goes = ap (λ (m : ℕ). path_at m root) (sym tall) ∙ path-goes n root w goes

  pub pop-stays : (n root : ℕ) → n ≡ height_in F root → IsWell F n root → 1 ≤ length (seq_at F n root) → ¬ LeavesChild F n root → pop_path F root ≡ pop_rows F n root
  pop-stays n root tall w some stays = ap (λ (m : ℕ). path_at m root) (sym tall) ∙ path-stays n root w some stays
