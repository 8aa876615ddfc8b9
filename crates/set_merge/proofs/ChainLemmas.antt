-- The rows that are made before a run.
use Rattle.std.proofs.Common.{◌≡◌, ℕ, ◌+◌, ◌≤◌, List, ◌∷◌, length, refl, ap, arith, Some}
use Rattle.node_heap.specs.Links.{count}
use Rattle.node_heap.specs.Forms.{Forms}
use Rattle.node_heap.specs.Heap.{Heap, holds_at, IsGraph}
use Rattle.node_heap.proofs.BuildLemmas.{Builds-refl, Builds-then}
use Rattle.champ_chain.specs.Entry.{Entry}
use Rattle.champ_chain.specs.Chain.{AreChainRows}
use Rattle.champ_chain.proofs.SpotLemmas.{first-row}
use Rattle.set_merge.specs.declared.merged.Merged.{Merged}
use Rattle.set_merge.specs.Spread.{new_links}
use Rattle.set_merge.specs.Chains.{IsOver}

module _ {T : Type 0} where
  -- nothing is made
  pub IsOver-none : (h : Heap T) (after : Merged) (most : ℕ) → IsGraph h → IsOver h h after after most
  IsOver-none h after most graph = record {
    rows = 0;
    few = omega arith;
    none = λ e. refl;
    builds = Builds-refl h (new_links after) 0 0 graph;
  }

  -- one after the other
  pub IsOver-then : (old mid new : Heap T) (after made m : Merged) (n n' most : ℕ) → IsOver old mid after made n → IsOver mid new made m n' → n + n' ≡ most → IsOver old new after m most
  IsOver-then old mid new after made m n n' most first second sum = record {
    rows = first.rows + second.rows;
    few = omega (arith, first.few, second.few, sum);
    none = λ e. let a = first.none (omega (arith, sum, e)) in let b = second.none (omega (arith, sum, e)) in omega (arith, a, b);
    builds = Builds-then first.builds second.builds;
  }

  -- what a step made is held for the next one
  pub over-held : (old mid : Heap T) (after made : Merged) (n : ℕ) → IsOver old mid after made n → ((l : ℕ) → count l (new_links after) ≤ holds_at old l) → (l : ℕ) → count l (new_links made) ≤ holds_at mid l
  over-held old mid after made n first held l = omega (arith, first.builds.holds l, held l)

module _ {K : Type 0} (F : Forms K) where
  -- a run of one entry and of those of another run has two entries
  pub two-long : (tail : ℕ) (e : Entry K) (ts : List (Entry K)) → AreChainRows F (Some tail) ts → 2 ≤ length (e ∷ ts)
  two-long tail e ts rows =
      let at = first-row F tail ts rows in
      let size : List (Entry K) → ℕ = length in
      omega (arith, ap size at.whole)
