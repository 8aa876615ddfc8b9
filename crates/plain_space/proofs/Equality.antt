-- What is the same is equal: of texts, lines, buffers, stars and states.
use Rattle.std.proofs.Common.{◌≡◌, Bool, List, [], ◌∷◌, refl, sym, ap, ◌∙◌, map}
use Rattle.std.specs.Bool.{Decides}
use Rattle.std.proofs.lemmas.Bool.Decides.{Decides-and}
use Rattle.std.specs.Cmp.Lexicographic.{pointwise, pointwise_decides, bytes_decides}
use Rattle.std.specs.FinMap.{entries, same_entries_map}
use Rattle.shell_terms.specs.Edit.{Bytes}
use Rattle.plain_space.specs.Workspace.{Named, Names, State, same_texts, same_buffer, same_state}

through : {P Q : Type 0} (r : Bool) → Decides r P → (P → Q) → (Q → P) → Decides r Q
through r d to back = (λ e. to (d.0 e), λ q. d.1 (back q))

pub same_texts-Decides : (xs ys : List Bytes) → Decides (same_texts xs ys) (xs ≡ ys)
same_texts-Decides = pointwise_decides bytes_decides

buffer : (x y : Bytes × List Bytes) → Decides (same_buffer x y) (x ≡ y)
buffer x y =
    through _ (Decides-and _ _ (bytes_decides x.0 y.0) (same_texts-Decides x.1 y.1))
    (λ e i. (e.0 i, e.1 i))
    (λ e. (ap (λ z. z.0) e, ap (λ z. z.1) e))

buffers : (m n : Named (List Bytes)) → Decides (pointwise same_buffer (entries m) (entries n)) (m ≡ n)
buffers m n = through _ (pointwise_decides buffer (entries m) (entries n)) (same_entries_map m n) (ap entries)

-- names with nothing at each
keyed : List Bytes → List (Bytes × Unit {0})
keyed names = map (λ name. (name, tt)) names

all_keyed : (es : List (Bytes × Unit {0})) → keyed (map (λ e. e.0) es) ≡ es
unfolding keyed
all_keyed [] = refl
all_keyed (e ∷ es) = ap (e ∷◌) (all_keyed es)

stars : (m n : Names) → Decides (same_texts (map (λ e. e.0) (entries m)) (map (λ e. e.0) (entries n))) (m ≡ n)
stars m n =
    through _ (same_texts-Decides (map (λ e. e.0) (entries m)) (map (λ e. e.0) (entries n)))
    (λ e. same_entries_map m n (sym (all_keyed (entries m)) ∙ ap keyed e ∙ all_keyed (entries n)))
    (ap (λ z. map (λ e. e.0) (entries z)))

pub same_state-Decides : (one other : State) → Decides (same_state one other) (one ≡ other)
same_state-Decides one other =
    through _ (Decides-and _ _ (buffers one.buffers other.buffers) (stars one.stars other.stars))
    (λ e i. record { buffers = e.0 i; stars = e.1 i })
    (λ e. (ap (λ z. z.buffers) e, ap (λ z. z.stars) e))
