-- What the tests of trie rows and chain rows say of single rows.
use Rattle.std.proofs.Common.{◌≡◌, ◌⊎◌, ℕ, ◌+◌, true, List, refl, ap, inl, inr}
use Rattle.std.specs.Prelude.{Option, Some, None, ◌==◌, is_some, length}
use Rattle.std.specs.Ordering.{nat_cmp, is_lt}
use Rattle.std.specs.declared.cmp.Ordering.{Ordering}
use Rattle.std.specs.declared.cmp.Ordering.TheVariants.{Less, Equal, Greater}
use Rattle.std.specs.Cmp.Lexicographic.{slice_cmp}
use Rattle.std.proofs.lemmas.Bool.{eqb-true}
use Rattle.node_heap.specs.Forms.{Form, cell, node, leaf, inner, trie, chain, pair, state}
use Rattle.pool_text.specs.Rows.{Bytes}
use Rattle.pool_check.specs.Tries.{is_before, is_sub_node, is_chain_row}
use Rattle.pool_check.proofs.TestLemmas.{and-first, and-second, not-both}

-- the byte order of texts
abbrev pub by_bytes : Bytes → Bytes → Ordering
by_bytes = slice_cmp nat_cmp

pub less-is : (r : Ordering) → is_lt r ≡ true → r ≡ Less
less-is Less h = refl
less-is Equal h = absurd (not-both h)
less-is Greater h = absurd (not-both h)

pub before-is : (a : Option Bytes) (b : Bytes) → is_before a (Some b) ≡ true → (key : Bytes) × (a ≡ Some key) × (by_bytes key b ≡ Less)
before-is None b h = absurd (not-both h)
before-is (Some a) b h = (a, refl, less-is (by_bytes a b) h)

pub some-is : (a : Option Bytes) → is_some a ≡ true → (key : Bytes) × (a ≡ Some key)
some-is None h = absurd (not-both h)
some-is (Some a) h = (a, refl)

pub chain-row-is : (r : Option (Form Bytes)) → is_chain_row r ≡ true → (ks : List ℕ) × (r ≡ Some (node chain ks))
chain-row-is None h = absurd (not-both h)
chain-row-is (Some (cell _)) h = absurd (not-both h)
chain-row-is (Some (node leaf _)) h = absurd (not-both h)
chain-row-is (Some (node (inner _) _)) h = absurd (not-both h)
chain-row-is (Some (node (trie _ _ _) _)) h = absurd (not-both h)
chain-row-is (Some (node chain ks)) h = (ks, refl)
chain-row-is (Some (node pair _)) h = absurd (not-both h)
chain-row-is (Some (node state _)) h = absurd (not-both h)

pub sub-node-is : (deepest depth : ℕ) (r : Option (Form Bytes)) → is_sub_node deepest depth r ≡ true
    → ((e : ℕ) × (d : ℕ) × (ks : List ℕ) × (r ≡ Some (node (trie (depth + 1) e d) ks))) ⊎ ((ks : List ℕ) × (r ≡ Some (node chain ks)) × (length ks ≡ 2) × (depth ≡ deepest))
sub-node-is deepest depth None h = absurd (not-both h)
sub-node-is deepest depth (Some (cell _)) h = absurd (not-both h)
sub-node-is deepest depth (Some (node leaf _)) h = absurd (not-both h)
sub-node-is deepest depth (Some (node (inner _) _)) h = absurd (not-both h)
sub-node-is deepest depth (Some (node (trie c e d) ks)) h =
    inl (e, d, ks, ap (λ x. Some (node (trie x e d) ks)) (eqb-true c (depth + 1) h))
sub-node-is deepest depth (Some (node chain ks)) h = inr (ks, refl, eqb-true (length ks) 2 (and-second (depth == deepest) (length ks == 2) h), eqb-true depth deepest (and-first (depth == deepest) (length ks == 2) h))
sub-node-is deepest depth (Some (node pair _)) h = absurd (not-both h)
sub-node-is deepest depth (Some (node state _)) h = absurd (not-both h)
