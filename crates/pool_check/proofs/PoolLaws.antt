-- Laws of pools whose rows are valid.
use Rattle.std.proofs.Common.{◌≡◌, ℕ, zero, suc, ◌<◌, true, [], ◌∷◌, refl, ap, arith, inl, inr}
use Rattle.std.specs.Prelude.{Option, Some, None, List, length, slice_get}
use Rattle.std.proofs.lemmas.Bool.{cases_lt, eqb-true}
use Rattle.node_heap.specs.Forms.{Form, cell, node, leaf, inner, trie, chain, pair, state}
use Rattle.champ_trie.specs.Trie.{IsCanonTo, code_by}
use Rattle.pool_check.specs.Tries.{is_canonical, entries_below, tries_stand_by}
use Rattle.pool_check.specs.Kinds.{is_trie_root}
use Rattle.pool_check.proofs.TestLemmas.{leads-down, not-both}
use Rattle.pool_check.proofs.TrieTests.{by_bytes}
use Rattle.pool_check.proofs.TrieLaw.{canon-at, range-all}
use Rattle.rrb_core.specs.Seq.{IsWellShaped}
use Rattle.pool_text.specs.Rows.{Bytes}
use Rattle.pool_text.specs.Pool.{forms_in, row_count}
use Rattle.pool_text.specs.declared.pool.Pool.{Pool}
use Rattle.pool_text.specs.Rows.{is_in_range_to}
use Rattle.pool_text.specs.Rules.{Rules}
use Rattle.pool_check.specs.Rows.{rows_in_range_by}
use Rattle.pool_check.specs.Vectors.{keeps_fill_rule, vectors_stand}
use Rattle.pool_check.specs.Kinds.{is_vector_root}
use Rattle.pool_check.specs.Damages.{RowsPass, HasValidRows, IsValidBy}
use Rattle.pool_check.proofs.TestLemmas.{all-at}
use Rattle.pool_check.proofs.VectorLaw.{well-shaped}

-- a valid pool has valid rows
pub valid-rows : {rules : Rules} (P : Pool) → IsValidBy rules P → HasValidRows rules P
valid-rows P v = record {
  in_range = v.in_range;
  passed = record { lead_back = v.lead_back; lines = v.lines; vectors = v.vectors; tries = v.tries };
  in_order = v.in_order;
}

-- a vector root of a pool whose rows pass is the root of a good vector
pub vector-roots-stand : (rules : Rules) (P : Pool) → rows_in_range_by rules P ≡ true → RowsPass rules P → (l : ℕ) → is_vector_root (forms_in P l) ≡ true → IsWellShaped (forms_in P) l
unfolding rows_in_range_by vectors_stand
vector-roots-stand rules P in_range pass =
    well-shaped (forms_in P) rules.deepest (all-at (is_in_range_to rules.deepest) P.rows in_range) (all-at (keeps_fill_rule (forms_in P)) P.rows pass.vectors)

pub vector-roots-well : {rules : Rules} (P : Pool) → IsValidBy rules P → (l : ℕ) → is_vector_root (forms_in P l) ≡ true → IsWellShaped (forms_in P) l
vector-roots-well {rules} P v = vector-roots-stand rules P v.in_range (valid-rows P v).passed

pub get-low : {X : Type 0} (xs : List X) (i : ℕ) (x : X) → slice_get xs i ≡ Some x → i < length xs
get-low [] i x is = absurd (let e : None ≡ Some x = is in cc)
get-low (y ∷ ys) zero x is = omega arith
get-low (y ∷ ys) (suc i) x is = omega (arith, get-low ys i x is)

get-past : {X : Type 0} (xs : List X) (i : ℕ) → (i < length xs → ⊥) → slice_get xs i ≡ None
get-past [] i past = refl
get-past (y ∷ ys) zero past = absurd (past (omega arith))
get-past (y ∷ ys) (suc i) past = get-past ys i (λ low. past (omega (arith, low)))

pub canonical-at : (rules : Rules) (P : Pool) → tries_stand_by rules P ≡ true → (l : ℕ) → is_canonical (row_count P) (forms_in P) (code_by rules.code_of P.bits) rules.deepest l (forms_in P l) ≡ true
unfolding tries_stand_by
canonical-at rules P h l = elim (cases_lt l (row_count P)) as (λ _. is_canonical (row_count P) (forms_in P) (code_by rules.code_of P.bits) rules.deepest l (forms_in P l) ≡ true) [
  | inl low ↦ range-all (λ k. is_canonical (row_count P) (forms_in P) (code_by rules.code_of P.bits) rules.deepest k (forms_in P k)) 0 (row_count P) l h (omega arith) (omega (arith, low))
  | inr past ↦ ap (is_canonical (row_count P) (forms_in P) (code_by rules.code_of P.bits) rules.deepest l) (get-past P.rows l (λ low. absurd (omega (arith, low, past))))
]

-- a trie row of depth 0 of such a pool is the canonical trie of the entries below it
pub trie-roots-stand : (rules : Rules) (P : Pool) → rows_in_range_by rules P ≡ true → RowsPass rules P → (l : ℕ) → is_trie_root (forms_in P l) ≡ true → IsCanonTo by_bytes (code_by rules.code_of P.bits) rules.deepest (forms_in P) l (entries_below (row_count P) (forms_in P) l)
unfolding rows_in_range_by
trie-roots-stand rules P in_range pass l h = by_row (forms_in P l) refl h
  where
    by_row : (r : Option (Form Bytes)) → forms_in P l ≡ r → is_trie_root r ≡ true → IsCanonTo by_bytes (code_by rules.code_of P.bits) rules.deepest (forms_in P) l (entries_below (row_count P) (forms_in P) l)
    by_row None is h = absurd (not-both h)
    by_row (Some (cell _)) is h = absurd (not-both h)
    by_row (Some (node leaf _)) is h = absurd (not-both h)
    by_row (Some (node (inner _) _)) is h = absurd (not-both h)
    by_row (Some (node (trie zero e d) ks)) is h =
        canon-at (forms_in P) (leads-down P pass.lead_back) (row_count P) (code_by rules.code_of P.bits) rules.deepest (canonical-at rules P pass.tries) (all-at (is_in_range_to rules.deepest) P.rows in_range) l e d ks (get-low P.rows l (node (trie zero e d) ks) is) is
    by_row (Some (node (trie (suc depth) e d) ks)) is h = absurd (omega (arith, eqb-true (suc depth) 0 h))
    by_row (Some (node chain _)) is h = absurd (not-both h)
    by_row (Some (node pair _)) is h = absurd (not-both h)
    by_row (Some (node state _)) is h = absurd (not-both h)

pub trie-roots-canonical : {rules : Rules} (P : Pool) → IsValidBy rules P → (l : ℕ) → is_trie_root (forms_in P l) ≡ true → IsCanonTo by_bytes (code_by rules.code_of P.bits) rules.deepest (forms_in P) l (entries_below (row_count P) (forms_in P) l)
trie-roots-canonical {rules} P v = trie-roots-stand rules P v.in_range (valid-rows P v).passed
