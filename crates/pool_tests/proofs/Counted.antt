-- What holds of each element of a list holds of each link that it has.
use Rattle.std.proofs.Common.{◌<◌, ℕ, List, [], ◌∷◌, subst, arith, inl, inr}
use Rattle.std.specs.List.{All}
use Rattle.std.proofs.lemmas.Bool.{cases_eq}
use Rattle.std.proofs.lemmas.List.Elements.{All-head, All-tail}
use Rattle.node_heap.specs.Links.{count}
use Rattle.node_heap.proofs.Counts.{count-cons, test_other}

pub counted : (P : ℕ → Type 0) (xs : List ℕ) → All P xs → (k : ℕ) → 0 < count k xs → P k
counted P [] all k some = absurd (omega arith)
counted P (x ∷ xs) all k some = elim (cases_eq x k) as (λ _. P k) [
  | inl same ↦ subst P same (All-head P x xs all)
  | inr other ↦ counted P xs (All-tail P x xs all) k (omega (arith, some, count-cons k x xs, test_other x k other))
]
