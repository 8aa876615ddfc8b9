use Rattle.std.proofs.Common.{◌≡◌, ℕ, [], ◌∷◌, take, refl, ap, arith}
use Rattle.node_heap.specs.Owner.{alone}
use Rattle.node_heap.proofs.AloneLemmas.{alone-yes, alone-no}
use Rattle.rrb_core.specs.Seq.{seq_at}
use Rattle.edit_vec.specs.Path.{row_over, rows_over, spine_at}
use Rattle.edit_vec.proofs.laws.paths_of_small_vectors.Goals as goal

pub returns-clause-set_first : goal.returns-clause-set_first
unfolding seq_at row_over rows_over
returns-clause-set_first c = refl

pub returns-clause-set_second : goal.returns-clause-set_second
unfolding seq_at row_over rows_over
returns-clause-set_second c = refl

pub returns-clause-push_leaf : goal.returns-clause-push_leaf
unfolding spine_at
returns-clause-push_leaf c = refl

pub returns-clause-push_beside : goal.returns-clause-push_beside
unfolding spine_at
returns-clause-push_beside c = refl

pub returns-clause-push_over : goal.returns-clause-push_over
unfolding spine_at
returns-clause-push_over c = refl

pub returns-clause-pop_leaf : goal.returns-clause-pop_leaf
unfolding seq_at spine_at
returns-clause-pop_leaf c = refl

pub returns-clause-pop_child : goal.returns-clause-pop_child
unfolding seq_at spine_at
returns-clause-pop_child c = refl

pub returns-clause-pop_root : goal.returns-clause-pop_root
unfolding seq_at spine_at
returns-clause-pop_root c = refl

pub returns-clause-pop_one : goal.returns-clause-pop_one
unfolding seq_at spine_at
returns-clause-pop_one c = refl

pub returns-clause-pop_none : goal.returns-clause-pop_none
unfolding seq_at spine_at
returns-clause-pop_none c = refl

pub returns-clause-push_over_inner : goal.returns-clause-push_over_inner
unfolding spine_at
returns-clause-push_over_inner c = refl

pub returns-clause-pop_lone_row : goal.returns-clause-pop_lone_row
unfolding seq_at spine_at
returns-clause-pop_lone_row c = refl

pub returns-clause-pop_tall_root : goal.returns-clause-pop_tall_root
unfolding seq_at spine_at
returns-clause-pop_tall_root c = refl

pub returns-clause-shared_middle : goal.returns-clause-shared_middle
returns-clause-shared_middle c = λ h one more last.
    let size : alone h (20 ∷ 10 ∷ 2 ∷ []) ≡ 1 = omega (arith, alone-yes h 20 (10 ∷ 2 ∷ []) one, alone-no h 10 (2 ∷ []) (λ e. absurd (omega (arith, e, more)))) in
    (size, ap (λ (k : ℕ). take k (20 ∷ 10 ∷ 2 ∷ [])) size)
