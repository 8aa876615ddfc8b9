-- What becomes of nodes of two kinds where one kind changes.
use Rattle.std.proofs.Common.{◌≡◌, ◌≢◌, ℕ, ◌+◌, ◌*◌, ◌/◌, ◌%◌, List, set, refl, sym, ap, ◌∙◌, arith, Option, Some, None, IsSome, is_some, count_by}
use Rattle.std.specs.Prelude.{option_map}
use Rattle.node_heap.specs.Nodes.{SameBut, NodeOf, RoomsOf, Node, node_at, node_head, owned_by, Becomes}
use Rattle.node_heap.specs.Inside.{woven, AreNodes}
use Rattle.node_heap.specs.declared.row.Head.{Head}
use Rattle.node_heap.specs.declared.row.Head.TheVariants.{Trie}
use Rattle.node_heap.specs.declared.sets.Sets.{Sets}
use Rattle.node_heap.specs.declared.sets.Sets.TheVariants as said
use Rattle.node_heap.specs.Sets.{sets_said}
use Rattle.node_heap.specs.Tries.{sets_in}
use Rattle.node_heap.proofs.Stored.{one_if_some}
use Rattle.node_heap.proofs.Woven.{even, odd, at-even, at-odd, sum-woven, apart-even, apart-odd, set-even, set-odd, slot-inside}
use Rattle.node_heap.proofs.Rooming.{Puts, Frees}

module _ {H : Type 0} (rows tries : List (Option (NodeOf H))) where
  pub len-kinds : count_by is_some (woven rows tries) ≡ count_by is_some rows + count_by is_some tries
  len-kinds = sum-woven one_if_some refl rows tries

  pub at-row : (index : ℕ) → index % 2 ≡ 0 → node_at (woven rows tries) index ≡ node_at rows (index / 2)
  at-row index e = ap (node_at (woven rows tries)) (even index e) ∙ at-even rows tries (index / 2)

  pub at-trie : (index : ℕ) → index % 2 ≢ 0 → node_at (woven rows tries) index ≡ node_at tries (index / 2)
  at-trie index e = ap (node_at (woven rows tries)) (odd index e) ∙ at-odd rows tries (index / 2)

  pub owned-row : (index k : ℕ) → index % 2 ≡ 0 → IsSome (node_at rows (index / 2)) → woven (set rows (index / 2) (owned_by k (node_at rows (index / 2)))) tries ≡ set (woven rows tries) index (owned_by k (node_at (woven rows tries) index))
  owned-row index k e live =
      rw (at-row index e) (set-even rows tries (index / 2) (owned_by k (node_at rows (index / 2))) (slot-inside rows (index / 2) live) ∙ ap (λ j. set (woven rows tries) j (owned_by k (node_at rows (index / 2)))) (sym (even index e)))

  pub owned-trie : (index k : ℕ) → index % 2 ≢ 0 → IsSome (node_at tries (index / 2)) → woven rows (set tries (index / 2) (owned_by k (node_at tries (index / 2)))) ≡ set (woven rows tries) index (owned_by k (node_at (woven rows tries) index))
  owned-trie index k e live =
      rw (at-trie index e) (set-odd rows tries (index / 2) (owned_by k (node_at tries (index / 2))) (slot-inside tries (index / 2) live) ∙ ap (λ j. set (woven rows tries) j (owned_by k (node_at tries (index / 2)))) (sym (odd index e)))

module _ {H : Type 0} (rows rows' tries : List (Option (NodeOf H))) (index : ℕ) (e : index % 2 ≡ 0) where
  row-others : SameBut rows rows' (index / 2) → SameBut (woven rows tries) (woven rows' tries) index
  row-others same k other = apart-even rows rows' tries (index / 2) same k (λ is. other (is ∙ sym (even index e)))

  pub puts-row : (n : NodeOf H) → Puts rows rows' (index / 2) n → Puts (woven rows tries) (woven rows' tries) index n
  puts-row n p = record {
    was = at-row rows tries index e ∙ p.was;
    now = at-row rows' tries index e ∙ p.now;
    others = row-others p.others;
    len = omega (arith, p.len, len-kinds rows tries, len-kinds rows' tries);
  }

  pub frees-row : Frees rows rows' (index / 2) → Frees (woven rows tries) (woven rows' tries) index
  frees-row f = record {
    gone = at-row rows' tries index e ∙ f.gone;
    others = row-others f.others;
    len = omega (arith, f.len, len-kinds rows tries, len-kinds rows' tries);
  }

  pub becomes-row : (f : NodeOf H → NodeOf H) → Becomes rows rows' (index / 2) f → Becomes (woven rows tries) (woven rows' tries) index f
  becomes-row f b = record {
    here = at-row rows' tries index e ∙ b.here ∙ sym (ap (option_map f) (at-row rows tries index e));
    others = row-others b.others;
    len = omega (arith, b.len, len-kinds rows tries, len-kinds rows' tries);
  }

module _ {H : Type 0} (rows tries tries' : List (Option (NodeOf H))) (index : ℕ) (e : index % 2 ≢ 0) where
  trie-others : SameBut tries tries' (index / 2) → SameBut (woven rows tries) (woven rows tries') index
  trie-others same k other = apart-odd rows tries tries' (index / 2) same k (λ is. other (is ∙ sym (odd index e)))

  pub puts-trie : (n : NodeOf H) → Puts tries tries' (index / 2) n → Puts (woven rows tries) (woven rows tries') index n
  puts-trie n p = record {
    was = at-trie rows tries index e ∙ p.was;
    now = at-trie rows tries' index e ∙ p.now;
    others = trie-others p.others;
    len = omega (arith, p.len, len-kinds rows tries, len-kinds rows tries');
  }

  pub frees-trie : Frees tries tries' (index / 2) → Frees (woven rows tries) (woven rows tries') index
  frees-trie f = record {
    gone = at-trie rows tries' index e ∙ f.gone;
    others = trie-others f.others;
    len = omega (arith, f.len, len-kinds rows tries, len-kinds rows tries');
  }

  pub becomes-trie : (f : NodeOf H → NodeOf H) → Becomes tries tries' (index / 2) f → Becomes (woven rows tries) (woven rows tries') index f
  becomes-trie f b = record {
    here = at-trie rows tries' index e ∙ b.here ∙ sym (ap (option_map f) (at-trie rows tries index e));
    others = trie-others b.others;
    len = omega (arith, b.len, len-kinds rows tries, len-kinds rows tries');
  }

-- the index of the first kind, and of the second
pub twice-even : (i : ℕ) → (2 * i) % 2 ≡ 0
twice-even i = omega arith

pub twice-half : (i : ℕ) → i ≡ (2 * i) / 2
twice-half i = omega arith

pub next-odd : (i : ℕ) → (2 * i + 1) % 2 ≢ 0
next-odd i e = omega (arith, e)

pub next-half : (i : ℕ) → i ≡ (2 * i + 1) / 2
next-half i = omega arith

-- one kind changes, and so many nodes of it come or go as are told
pub AreNodes-rows : (rows rows' tries : RoomsOf Head) (n s room n' s' : ℕ) → AreNodes rows tries n s room → rows'.room ≡ rows.room → count_by is_some rows'.slots + n ≡ count_by is_some rows.slots + n' → n' + s' ≡ n + s → AreNodes rows' tries n' s' room
AreNodes-rows rows rows' tries n s room n' s' are same count total = record {
  both_kinds = omega (arith, are.both_kinds, count);
  within = omega (arith, are.within, total);
  of_rows = omega (arith, are.of_rows, same);
  of_tries = are.of_tries;
  few_rows = omega (arith, are.few_rows, same);
  few_tries = are.few_tries;
}

pub AreNodes-tries : (rows tries tries' : RoomsOf Head) (n s room n' s' : ℕ) → AreNodes rows tries n s room → tries'.room ≡ tries.room → count_by is_some tries'.slots + n ≡ count_by is_some tries.slots + n' → n' + s' ≡ n + s → AreNodes rows tries' n' s' room
AreNodes-tries rows tries tries' n s room n' s' are same count total = record {
  both_kinds = omega (arith, are.both_kinds, count);
  within = omega (arith, are.within, total);
  of_rows = are.of_rows;
  of_tries = omega (arith, are.of_tries, same);
  few_rows = are.few_rows;
  few_tries = omega (arith, are.few_tries, same);
}

-- what the head of a trie's row says of the node and of its sets
pub headed-some : (o : Option Node) (head : Head) → node_head o ≡ Some head → IsSome o
headed-some None head is = absurd cc
headed-some (Some n) head is = refl

pub one-head : (o : Option Head) (x y : Head) → o ≡ Some x → o ≡ Some y → x ≡ y
one-head o x y is said = let same : Some x ≡ Some y = sym is ∙ said in cc

sets-trie : (o : Option Node) (d e n : ℕ) → node_head o ≡ Some (Trie d e n) → sets_in o ≡ Some (said.Trie d e n)
sets-trie None d e n is = absurd cc
sets-trie (Some x) d e n is = ap (option_map sets_said) is

pub sets-odd : (o : Option Node) (d e n : ℕ) → node_head o ≡ Some (Trie d e n) → sets_in o ≡ Some said.Odd → ⊥
sets-odd o d e n is odd = let same : Some said.Odd ≡ Some (said.Trie d e n) = sym odd ∙ sets-trie o d e n is in absurd cc

pub sets-same : (o : Option Node) (d e n : ℕ) (s : Sets) (d' e' n' : ℕ) → node_head o ≡ Some (Trie d e n) → sets_in o ≡ Some s → s ≡ said.Trie d' e' n' → node_head o ≡ Some (Trie d e' n')
sets-same o d e n s d' e' n' is says told =
    let same : Some (said.Trie d e n) ≡ Some (said.Trie d' e' n') = sym (sets-trie o d e n is) ∙ says ∙ ap Some told in
    let entries : e ≡ e' = cc in
    let nodes : n ≡ n' = cc in
    rw (← entries, ← nodes) is
