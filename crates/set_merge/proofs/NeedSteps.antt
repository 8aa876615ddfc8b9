-- How the need of two places is counted.
use Rattle.std.proofs.Common.{◌≡◌, ℕ, zero, suc, ◌+◌, ◌-◌, ◌*◌, ◌<◌, ◌≤◌, List, [], ◌∷◌, length, refl, ap, sym, subst, ◌∙◌, arith, Some, None}
use Rattle.std.specs.declared.cmp.Ordering.{Ordering}
use Rattle.node_heap.specs.Forms.{Forms}
use Rattle.champ_chain.specs.Entry.{Entry, entry}
use Rattle.champ_trie.specs.Trie.{IsTrie, IsPlace}
use Rattle.champ_trie.specs.declared.place.Place.{Place}
use Rattle.champ_trie.specs.declared.place.Place.TheVariants.{Empty, Entry as At, Node}
use Rattle.set_merge.specs.declared.keeps.Keeps.{Keeps}
use Rattle.set_merge.specs.Side.{place_below, settled}
use Rattle.set_merge.specs.Need.{sum_below, need_unless, rows_need}
use Rattle.set_merge.specs.Walk.{HasBelow, AreSides, ArePlaces, IsRisingRun, place_need, position_need}
use Rattle.set_merge.proofs.NeedLemmas.{weigh, weigh-twelve, root-few, place-has}
use Rattle.set_merge.proofs.WalkLemmas.{need-more, sum-within}

weigh-to : (i left n : ℕ) → left + i ≡ 12 → weigh left n ≤ weigh 12 n
weigh-to zero left n all = subst (λ j. weigh j n ≤ weigh 12 n) (let same : 12 ≡ left = omega (arith, all) in same) (omega arith)
weigh-to (suc i) left n all = omega (arith, weigh-to i (suc left) n (omega (arith, all)))

pub weigh-most : (left n : ℕ) → left ≤ 12 → weigh left n ≤ 13 * n
weigh-most left n low = omega (arith, weigh-to (12 - left) left n (omega (arith, low)), weigh-twelve n)

module _ {K : Type 0} (cmp : K → K → Ordering) (code : K → ℕ) (F : Forms K) where
  -- what stands below the deepest row is a run
  pub run-of : (depth : ℕ) (a : Place) (E : List (Entry K)) → HasBelow cmp code F zero depth a E → (es : List (Entry K)) × IsRisingRun F cmp a es
  unfolding IsTrie
  run-of depth Empty E has = ([], record { run = refl; rising = tt })
  run-of depth (At x) E has = (entry has.0 x ∷ [], record { run = (has.0, refl, has.2); rising = (tt, tt) })
  run-of depth (Node l) E has = (has.entries, record { run = has.rows; rising = has.rising })

  pub sides-below : (left depth d : ℕ) (x y : Place) (E D : List (Entry K)) → ArePlaces cmp code F left depth x y E D → d ≡ suc depth → AreSides cmp code F left d x y E D
  sides-below left depth d x y E D are down =
      let at : (q : Place) (P : List (Entry K)) → IsPlace F (λ l P. IsTrie cmp code F left (suc depth) l P) q P → HasBelow cmp code F left d q P =
      λ q P is. subst (λ e. HasBelow cmp code F left e q P) (sym down) (place-has cmp code F left (suc depth) q P is) in
      record { levels = omega (arith, are.levels, down); first = at x E are.first; second = at y D are.second; distinct = are.distinct; other_distinct = are.other_distinct }

  -- one level more
  pub sides-as : (left n depth : ℕ) (a b : Place) (E D : List (Entry K)) → left ≡ n → AreSides cmp code F left depth a b E D → AreSides cmp code F n depth a b E D
  sides-as left n depth a b E D same are = subst (λ i. AreSides cmp code F i depth a b E D) same are

  module _ (most : ℕ) (k : Keeps) where
    pub need-settled : (left depth : ℕ) (x y q : Place) → settled cmp F k x y ≡ Some q → place_need cmp code most F k left depth x y ≡ 0
    need-settled left depth x y q at = ap (λ o. need_unless o (λ _. rows_need cmp code most F k left (suc depth) x y)) at

    pub need-looked : (left depth d : ℕ) (x y : Place) → d ≡ suc depth → settled cmp F k x y ≡ None → place_need cmp code most F k left depth x y ≡ rows_need cmp code most F k left d x y
    need-looked left depth d x y down look = ap (λ o. need_unless o (λ _. rows_need cmp code most F k left (suc depth) x y)) look ∙ ap (λ e. rows_need cmp code most F k left e x y) (sym down)

    -- so many positions and one more need few rows
    pub rows-fit : (left depth : ℕ) (a b : Place) (E D : List (Entry K)) → AreSides cmp code F (suc left) depth a b E D → (p : ℕ) → p < 32
        → 1 + (sum_below p (position_need cmp code most F k left depth a b) + position_need cmp code most F k left depth a b p) ≤ 1 + 13 * (length E + length D)
    rows-fit left depth a b E D are p low =
        omega (
          arith,
          root-few cmp code F k most left depth a b E D are.first are.second,
          need-more cmp code most F k left depth a b,
          sum-within (position_need cmp code most F k left depth a b) p 32 low,
          weigh-most left (length E + length D) (omega (arith, are.levels)),
        )

    -- the need at a position by what stands there
    pub need-there : (left depth : ℕ) (a b : Place) (p : ℕ) (x y : Place) → x ≡ place_below code F depth a p → y ≡ place_below code F depth b p → place_need cmp code most F k left depth x y ≡ position_need cmp code most F k left depth a b p
    need-there left depth a b p x y first second =
        ap (λ q. place_need cmp code most F k left depth q y) first ∙ ap (place_need cmp code most F k left depth (place_below code F depth a p)) second
