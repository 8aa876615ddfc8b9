-- How many keys have the code of one key, and so how many rows an edit makes.
use Rattle.std.proofs.Common.{◌≡◌, ℕ, ◌+◌, ◌≤◌, Bool, cond, List, [], ◌∷◌, map, refl, ap, sym, ◌∙◌, arith}
use Rattle.std.specs.Prelude.{◌-◌, ◌^◌, nat_eq, min, count_by}
use Rattle.std.specs.Cmp.{IsTotalOrder}
use Rattle.std.specs.List.{AllZip}
use Rattle.std.specs.declared.cmp.Ordering.{Ordering}
use Rattle.elem_core.specs.declared.codes.TheConstants.{CODE_BITS, LEVELS}
use Rattle.node_heap.specs.Heap.{Heap}
use Rattle.node_heap.specs.Calls.{Answered, MakesJust}
use Rattle.node_heap.proofs.CallerLemmas.{IsGraph-kinds}
use Rattle.champ_chain.specs.Entry.{Entry}
use Rattle.champ_chain.proofs.SetLemmas.{same-count}
use Rattle.champ_trie.specs.Trie.{code_by}
use Rattle.champ_trie.specs.Reach.{alike_to}
use Rattle.champ_kinds.specs.Binding.{Binding, alike_keys}
use Rattle.champ_kinds.specs.declared.map.TheConstants.{INSERT_NODES}
use Rattle.versions.specs.declared.piece.Piece.{Piece}
use Rattle.versions.specs.declared.piece.Piece.TheVariants.{Key}
use Rattle.versions.specs.declared.bound_here.TheConstants.{BOUND_HERE_NODES, UNBOUND_HERE_NODES}
use Rattle.versions.specs.Keyed.{IsKeySet, alike}
use Rattle.versions.specs.Sorted.{by_keys}
use Rattle.versions.specs.Pieces.{piece_code}
use Rattle.versions.specs.Bound.{IsBoundTo, IsKeyMap}
use Rattle.versions.proofs.EditLemmas.{made-one}
use Rattle.versions.proofs.SortLemmas.{by_keys-same, count-first, count-map}
use Rattle.versions.proofs.KeyedLemmas.{set-same}
use Rattle.versions.proofs.BoundLemmas.{map-once}

-- whether the key has the code of this one
abbrev is-alike : {K : Type 0} → (K → ℕ) → K → K → Bool
is-alike code key k = nat_eq (code_by code CODE_BITS k) (code_by code CODE_BITS key)

pub set-alike : {K : Type 0} (cmp : K → K → Ordering) (o : IsTotalOrder cmp) (code : K → ℕ) (h : Heap K) (l : ℕ) (key : K) (ks : List K) (is : IsKeySet cmp code h l ks) → alike_to code CODE_BITS key is.entries ≡ alike code key ks
set-alike {K} cmp o code h l key ks is =
    sym (count-map (is-alike code key) (λ (e : Entry K). e.key) is.entries) ∙ sym (same-count (is-alike code key) ks (map (λ e. e.key) is.entries) (set-same cmp o code h l ks is))

module _ {K V : Type 0} (cmp : K → K → Ordering) (h : Heap (Piece K V)) (test : Piece K V → Bool) where
  -- a test of keys counts the same
  bound-count : (M : List (Binding (Piece K V))) (es : List (K × V)) → AllZip (IsBoundTo cmp h) M es → count_by (λ (b : Binding (Piece K V)). test b.key) M ≡ count_by (λ e. test (Key e.0)) es
  bound-count [] [] zip = refl
  bound-count [] (e ∷ es) zip = absurd zip
  bound-count (b ∷ M) [] zip = absurd zip
  bound-count (b ∷ M) (e ∷ es) zip =
      let first : cond (test b.key) 1 0 ≡ cond (test (Key e.0)) 1 0 = ap (λ k. let n : ℕ = cond (test k) 1 0 in n) zip.0.key in
      omega (arith, first, bound-count M es zip.1, count-first (λ (d : Binding (Piece K V)). test d.key) b M, count-first (λ (d : K × V). test (Key d.0)) e es)

pub map-alike : {K V : Type 0} (cmp : K → K → Ordering) (value_cmp : V → V → Ordering) (o : IsTotalOrder cmp) (p : IsTotalOrder value_cmp) (code : K → ℕ) (h : Heap (Piece K V)) (l : ℕ) (key : K) (es : List (K × V)) (is : IsKeyMap cmp value_cmp code h l es)
    → alike_keys (piece_code code) CODE_BITS (Key key) is.bindings ≡ alike code key (map (λ e. e.0) es)
map-alike {K} {V} cmp value_cmp o p code h l key es is =
    let has = λ (e : K × V). is-alike code key e.0 in
    bound-count cmp h (is-alike (piece_code code) (Key key)) is.bindings is.entries is.bound
    ∙ sym (same-count has (by_keys cmp is.entries) is.entries (by_keys-same cmp o is.entries (map-once cmp value_cmp o p code h l es is)))
    ∙ ap (count_by has) (sym is.sorted)
    ∙ sym (count-map (is-alike code key) (λ (e : K × V). e.0) es)

-- the rows that the steps of an edit of a map make: a cell of a value, a root of one's own, and what the edit itself makes
module _ {K V : Type 0} (cmp : K → K → Ordering) (value_cmp : V → V → Ordering) (o : IsTotalOrder cmp) (p : IsTotalOrder value_cmp) (code : K → ℕ) (h : Heap (Piece K V)) (l : ℕ) (key : K) (es : List (K × V)) (is : IsKeyMap cmp value_cmp code h l es) {room own did left bits : ℕ} (rest : room ≡ h.made) where
  pub put-few : {filled : ℕ} → filled ≡ min (room + 1) (2 ^ 64 - 1) → own ≤ filled + (0 + 1) → bits ≡ CODE_BITS → did ≤ own + (1 + (INSERT_NODES + alike_keys (piece_code code) bits (Key key) is.bindings)) → left ≡ did
      → left ≤ h.made + (2 + BOUND_HERE_NODES + alike code key (map (λ e. e.0) es))
  put-few {filled} cell opened all edit gone =
      omega (arith, rest, made-one room filled 1 cell, opened, edit, gone, ap (λ b. alike_keys (piece_code code) b (Key key) is.bindings) all, map-alike cmp value_cmp o p code h l key es is)

  pub cut-few : own ≤ room + (0 + 1) → bits ≡ CODE_BITS → did ≤ own + (0 + (LEVELS + alike_keys (piece_code code) bits (Key key) is.bindings)) → left ≡ did
      → left ≤ h.made + (UNBOUND_HERE_NODES + alike code key (map (λ e. e.0) es))
  cut-few opened all edit gone =
      omega (arith, rest, opened, edit, gone, ap (λ b. alike_keys (piece_code code) b (Key key) is.bindings) all, map-alike cmp value_cmp o p code h l key es is)

-- where the key was absent, nothing but the root is made
pub none-few : {T : Type 0} {before after : Heap T} (was room more : ℕ) → room ≡ was → before.made ≤ room + (0 + 1) → after ≡ before → after.made ≤ was + (UNBOUND_HERE_NODES + more)
none-few {T} was room more rest opens same = omega (arith, rest, opens, ap (λ (x : Heap T). x.made) same)

-- a call that frees nothing makes as many rows as come
pub rows-made : {T : Type 0} {old new : Heap T} {l c n : ℕ} → Answered old new [] l c n → MakesJust old new → new.made ≤ old.made + (c + n)
rows-made {T} {old} {new} answered just = omega (arith, just, answered.cells, answered.nodes, IsGraph-kinds old, IsGraph-kinds new)

-- and none where the root is the old one
pub none-made : {T : Type 0} {old mid : Heap T} (new : Heap T) (more : ℕ) → mid ≡ old → new.made ≤ mid.made → new.made ≤ old.made + more
none-made {T} new more same few = omega (arith, few, ap (λ (h : Heap T). h.made) same)
