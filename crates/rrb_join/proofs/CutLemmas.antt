-- Vectors that are made on the way and given up again.
use Rattle.std.proofs.Common.{◌≡◌, ℕ, ◌+◌, ◌<◌, ◌≤◌, List, [], ◌∷◌, length, refl, arith}
use Rattle.node_heap.specs.Links.{count, here}
use Rattle.node_heap.specs.Heap.{Heap, holds_at, hold_count, cell_count, node_count, one_at, IsGraph}
use Rattle.node_heap.specs.Calls.{Extends, KeepsHeld, Builds, MakesJust, Releases, Unchanged, Balances, Answered}
use Rattle.rrb_core.specs.Vector.{elements, IsGoodVector}
use Rattle.node_heap.proofs.BuildLemmas.{count-one, count-cons}
use Rattle.node_heap.proofs.GraphLemmas.{IsGraph-kinds}
use Rattle.rrb_core.proofs.LinkCounts.{one-same}
use Rattle.rrb_core.proofs.Stays.{good-stays, below-stays}
use Rattle.node_heap.proofs.Frames.{Extends-trans, Extends-kept, Balances-trans, Balances-Makes, Balances-Releases, Answered-Unchanged}

module _ {T : Type 0} where
  -- a vector that is still held stays
  pub good-held : {old new : Heap T} {spent : ℕ → ℕ} → KeepsHeld spent old new → (l : ℕ) → spent l < holds_at old l → IsGoodVector old l → IsGoodVector new l × (elements new l ≡ elements old l)
  good-held keeps l held good = good-stays (below-stays l (keeps.kept l held)) l (here l) good

  -- rows were added and perhaps given up again: each link in the list is held once more, at most n nodes came, and at most
  -- n were made
  pub record Gives (old new : Heap T) (given : List ℕ) (n : ℕ) : Type 0 where
    pub extends : Extends old new
    pub graph : IsGraph new
    pub holds : (k : ℕ) → holds_at new k ≡ holds_at old k + count k given
    pub total : hold_count new ≡ hold_count old + length given
    pub cells : cell_count new ≤ cell_count old
    pub nodes : node_count new ≤ node_count old + n
    pub balance : Balances old new
    pub made : new.made ≤ old.made + n

  -- a call that answered and made nothing in vain
  pub gives-answered : {old new : Heap T} {result n : ℕ} → Answered old new [] result 0 n → MakesJust old new → Gives old new (result ∷ []) n
  gives-answered {old} {new} {result = result} a just =
      record {
        extends = a.extends;
        graph = a.graph;
        holds = λ k. omega (arith, a.holds k, count-one k result);
        total = omega (arith, a.count);
        cells = omega (arith, a.cells);
        nodes = a.nodes;
        balance = a.balance;
        made = omega (arith, just, a.cells, a.nodes, IsGraph-kinds old, IsGraph-kinds new);
      }

  -- rows were made after that
  pub gives-built : {a b c : Heap T} {given : List ℕ} {result n m : ℕ} → Gives a b given n → Builds b c [] (result ∷ []) 0 m → Gives a c (result ∷ given) (n + m)
  gives-built {given = given} {result = result} g b =
      record {
        extends = Extends-trans g.extends b.extends;
        graph = b.graph;
        holds = λ k. omega (arith, g.holds k, b.holds k, count-one k result, count-cons k result given);
        total = omega (arith, g.total, b.total);
        cells = omega (arith, g.cells, b.makes.cells, b.few_cells);
        nodes = omega (arith, g.nodes, b.makes.nodes, b.few_nodes);
        balance = Balances-trans g.balance (Balances-Makes b.makes);
        made = omega (arith, g.made, b.makes.made, b.few_cells, b.few_nodes);
      }

  -- one of them was given up
  gives-released : {a b c : Heap T} {given left : List ℕ} {link n : ℕ} → IsGraph a → Gives a b given n → ((k : ℕ) → count k given ≡ count k left + one_at link k) → length given ≡ length left + 1
      → Releases b c link → IsGraph c → KeepsHeld (one_at link) b c → Gives a c left n
  gives-released {left = left} {link = link} graph g one size r after keeps =
      record {
        extends = Extends-kept graph g.extends keeps (λ k some. omega (arith, g.holds k, one k));
        graph = after;
        holds = λ k. omega (arith, g.holds k, r.holds k, one k);
        total = omega (arith, g.total, r.count, size);
        cells = omega (arith, g.cells, r.fewer_cells);
        nodes = omega (arith, g.nodes, r.fewer_nodes);
        balance = Balances-trans g.balance (Balances-Releases r);
        made = omega (arith, g.made, r.made);
      }

  -- the second of two was given up, or the third of three
  pub without-second : {a b c : Heap T} {x y n : ℕ} → IsGraph a → Gives a b (x ∷ y ∷ []) n → Releases b c y → IsGraph c → KeepsHeld (one_at y) b c → Gives a c (x ∷ []) n
  without-second {x = x} {y = y} graph g = gives-released {left = x ∷ []} graph g (λ k. omega (arith, count-cons k x (y ∷ []), count-one k x, count-one k y)) refl

  pub without-third : {a b c : Heap T} {x y z n : ℕ} → IsGraph a → Gives a b (x ∷ y ∷ z ∷ []) n → Releases b c z → IsGraph c → KeepsHeld (one_at z) b c → Gives a c (x ∷ y ∷ []) n
  without-third {x = x} {y = y} {z = z} graph g = gives-released {left = x ∷ y ∷ []} graph g (λ k. omega (arith, count-cons k x (y ∷ z ∷ []), count-cons k y (z ∷ []), count-cons k x (y ∷ []), count-one k y, count-one k z)) refl

  -- room was made before, and one is left
  pub gives-all : {a b c : Heap T} {result n m : ℕ} → Unchanged a b → Gives b c (result ∷ []) n → n ≤ m → Answered a c [] result 0 m × (c.made ≤ a.made + m)
  gives-all {result = result} same g le = (
    Answered-Unchanged same (record {
      extends = g.extends;
      graph = g.graph;
      holds = λ k. omega (arith, g.holds k, count-one k result);
      count = omega (arith, g.total);
      cells = omega (arith, g.cells);
      nodes = omega (arith, g.nodes, le);
      balance = g.balance;
    }),
    omega (arith, same.made, g.made, le),
  )

  -- the same with greater bounds
  pub gives-more : {a b : Heap T} {given : List ℕ} {n m : ℕ} → Gives a b given n → n ≤ m → Gives a b given m
  gives-more g le =
      record { extends = g.extends; graph = g.graph; holds = g.holds; total = g.total; cells = g.cells; nodes = omega (arith, g.nodes, le); balance = g.balance; made = omega (arith, g.made, le) }

  -- the first of two that are given is still held where the second is given up, which is held
  pub gives-first : {a b : Heap T} {n : ℕ} (x y : ℕ) → Gives a b (x ∷ y ∷ []) n → one_at y x < holds_at b x
  gives-first x y g = omega (arith, g.holds x, count-cons x x (y ∷ []), one-same x x refl, count-one x y)

  pub gives-second : {a b : Heap T} {n : ℕ} (x y : ℕ) → Gives a b (x ∷ y ∷ []) n → 0 < holds_at b y
  gives-second x y g = omega (arith, g.holds y, count-cons y x (y ∷ []), count-one y y, one-same y y refl)

  -- the same of three
  pub gives-first-of : {a b : Heap T} {n : ℕ} (x y z : ℕ) → Gives a b (x ∷ y ∷ z ∷ []) n → one_at z x < holds_at b x
  gives-first-of x y z g = omega (arith, g.holds x, count-cons x x (y ∷ z ∷ []), one-same x x refl, count-cons x y (z ∷ []), count-one x z)

  pub gives-third : {a b : Heap T} {n : ℕ} (x y z : ℕ) → Gives a b (x ∷ y ∷ z ∷ []) n → 0 < holds_at b z
  gives-third x y z g = omega (arith, g.holds z, count-cons z x (y ∷ z ∷ []), count-cons z y (z ∷ []), count-one z z, one-same z z refl)
