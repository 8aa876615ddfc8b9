-- Steps that add rows, one after the other and side by side, and how they answer.
use Rattle.std.proofs.Common.{◌≡◌, ℕ, ◌+◌, ◌≤◌, List, [], ◌∷◌, ◌++◌, length, refl, arith, cond, eqb, length-append}
use Rattle.std.proofs.lemmas.List.Sums.{sum_by-cons, sum_by-append}
use Rattle.node_heap.specs.Links.{count}
use Rattle.node_heap.specs.Forms.{cell, node}
use Rattle.node_heap.specs.declared.row.Head.{Head}
use Rattle.node_heap.specs.Heap.{Heap, holds_at, hold_count, one_at, IsGraph}
use Rattle.node_heap.specs.Calls.{Extends, Adds, Makes, Unchanged, Answered, Builds, MakesJust}
use Rattle.node_heap.proofs.Frames.{Extends-refl, Extends-trans, Makes-trans, Balances-Makes, Answered-Unchanged}

pub count-cons : (k x : ℕ) (xs : List ℕ) → count k (x ∷ xs) ≡ one_at x k + count k xs
count-cons k x xs = sum_by-cons (λ j. cond (eqb j k) 1 0) x xs

pub count-one : (k x : ℕ) → count k (x ∷ []) ≡ one_at x k
count-one k x = omega (arith, count-cons k x [])

pub count-append : (k : ℕ) (xs ys : List ℕ) → count k (xs ++ ys) ≡ count k xs + count k ys
count-append k xs ys = sum_by-append (λ j. cond (eqb j k) 1 0) xs ys

module _ {T : Type 0} where
  pub Makes-refl : (h : Heap T) → IsGraph h → Makes h h 0 0
  Makes-refl h graph = record {
    spare_cells = omega arith;
    spare_nodes = omega arith;
    cells = omega arith;
    nodes = omega arith;
    live = omega arith;
    made = omega (arith, graph.few_made);
    no_fewer = omega arith;
  }

  -- just so many rows came
  pub Builds-made : {old new : Heap T} {spent gained : List ℕ} {c n : ℕ} → Extends old new → IsGraph new → ((k : ℕ) → holds_at new k + count k spent ≡ holds_at old k + count k gained) → hold_count new + length spent ≡ hold_count old + length gained → Makes old new c n → Builds old new spent gained c n
  Builds-made {c = c} {n = n} extends graph holds total makes = record {
    extends = extends;
    graph = graph;
    holds = holds;
    total = total;
    cells = c;
    nodes = n;
    few_cells = omega arith;
    few_nodes = omega arith;
    makes = makes;
  }

  -- two steps, of which the first may gain what the second spends
  pub Builds-both : {old mid new : Heap T} {xs us ys vs : List ℕ} {c n c' n' : ℕ} (spent gained : List ℕ) → Builds old mid xs us c n → Builds mid new ys vs c' n'
      → ((k : ℕ) → count k xs + count k ys + count k gained ≡ count k us + count k vs + count k spent)
      → length xs + length ys + length gained ≡ length us + length vs + length spent → Builds old new spent gained (c + c') (n + n')
  Builds-both spent gained first second each whole = record {
    extends = Extends-trans first.extends second.extends;
    graph = second.graph;
    holds = λ k. omega (arith, first.holds k, second.holds k, each k);
    total = omega (arith, first.total, second.total, whole);
    cells = first.cells + second.cells;
    nodes = first.nodes + second.nodes;
    few_cells = omega (arith, first.few_cells, second.few_cells);
    few_nodes = omega (arith, first.few_nodes, second.few_nodes);
    makes = Makes-trans first.makes second.makes;
  }

  -- what the first gains, the second spends
  pub Builds-then : {old mid new : Heap T} {xs ys zs : List ℕ} {c n c' n' : ℕ} → Builds old mid xs ys c n → Builds mid new ys zs c' n' → Builds old new xs zs (c + c') (n + n')
  Builds-then {xs = xs} {zs = zs} first second = Builds-both xs zs first second (λ k. omega arith) (omega arith)

  -- each spends and gains on its own
  pub Builds-beside : {old mid new : Heap T} {xs us ys vs : List ℕ} {c n c' n' : ℕ} → Builds old mid xs us c n → Builds mid new ys vs c' n' → Builds old new (xs ++ ys) (us ++ vs) (c + c') (n + n')
  Builds-beside {xs = xs} {us = us} {ys = ys} {vs = vs} first second =
      Builds-both (xs ++ ys) (us ++ vs) first second (λ k. omega (arith, count-append k xs ys, count-append k us vs)) (omega (arith, length-append xs ys, length-append us vs))

  -- the same with more room, and lists with the same counts
  pub Builds-as : {old new : Heap T} {xs us : List ℕ} {c n : ℕ} (ys vs : List ℕ) (c' n' : ℕ) → Builds old new xs us c n → c ≤ c' → n ≤ n'
      → ((k : ℕ) → count k ys + count k us ≡ count k xs + count k vs) → length ys + length us ≡ length xs + length vs → Builds old new ys vs c' n'
  Builds-as ys vs c' n' b more_cells more_nodes each whole = record {
    extends = b.extends;
    graph = b.graph;
    holds = λ k. omega (arith, b.holds k, each k);
    total = omega (arith, b.total, whole);
    cells = b.cells;
    nodes = b.nodes;
    few_cells = omega (arith, b.few_cells, more_cells);
    few_nodes = omega (arith, b.few_nodes, more_nodes);
    makes = b.makes;
  }

  pub Builds-more : {old new : Heap T} {xs us : List ℕ} {c n : ℕ} (c' n' : ℕ) → Builds old new xs us c n → c ≤ c' → n ≤ n' → Builds old new xs us c' n'
  Builds-more {xs = xs} {us = us} c' n' b more_cells more_nodes = Builds-as xs us c' n' b more_cells more_nodes (λ k. refl) refl

  -- nothing is done, and holds may be given for themselves
  pub Builds-refl : (h : Heap T) (xs : List ℕ) (c n : ℕ) → IsGraph h → Builds h h xs xs c n
  Builds-refl h xs c n graph = Builds-more c n (Builds-made (Extends-refl h) graph (λ k. refl) refl (Makes-refl h graph)) (omega arith) (omega arith)

  -- one hold more
  pub Builds-hold : {old new : Heap T} {link : ℕ} → ((k : ℕ) → holds_at new k ≡ holds_at old k + one_at link k) → Makes old new 0 0 → hold_count new ≡ hold_count old + 1 → IsGraph new → Extends old new → Builds old new [] (link ∷ []) 0 0
  Builds-hold {link = link} holds makes total graph more = Builds-made more graph (λ k. omega (arith, holds k, count-one k link)) (omega (arith, total)) makes

  -- one node more, for which a hold of each of its places was spent
  pub Builds-node : {old new : Heap T} {link : ℕ} {head : Head} {links : List ℕ} → Adds old new link (node head links) → Makes old new 0 1 → hold_count new + length links ≡ hold_count old + 1 → IsGraph new → Extends old new → Builds old new links (link ∷ []) 0 1
  Builds-node {link = link} adds makes total graph more = Builds-made more graph (λ k. omega (arith, adds.holds k, count-one k link)) (omega (arith, total)) makes

  -- one cell more
  pub Builds-cell : {old new : Heap T} {link : ℕ} {x : T} → Adds old new link (cell x) → Makes old new 1 0 → hold_count new ≡ hold_count old + 1 → IsGraph new → Extends old new → Builds old new [] (link ∷ []) 1 0
  Builds-cell {link = link} adds makes total graph more = Builds-made more graph (λ k. omega (arith, adds.holds k, count-one k link)) (omega (arith, total)) makes

  -- so many spares are left
  pub Builds-spare_cells : {old new : Heap T} {xs us : List ℕ} {c n : ℕ} → Builds old new xs us c n → old.spare_cells ≤ new.spare_cells + c
  Builds-spare_cells b = omega (arith, b.makes.spare_cells, b.few_cells)

  pub Builds-spare_nodes : {old new : Heap T} {xs us : List ℕ} {c n : ℕ} → Builds old new xs us c n → old.spare_nodes ≤ new.spare_nodes + n
  Builds-spare_nodes b = omega (arith, b.makes.spare_nodes, b.few_nodes)

  -- where nothing is spent, what is gained is held
  pub Builds-held : {old new : Heap T} {us : List ℕ} {c n : ℕ} → Builds old new [] us c n → (k : ℕ) → count k us ≤ holds_at new k
  Builds-held b k = omega (arith, b.holds k)

  -- rows that came, as a call that answers says it
  pub Answered-Builds : {old new : Heap T} {spent : List ℕ} {result c n : ℕ} → Builds old new spent (result ∷ []) c n → Answered old new spent result c n
  Answered-Builds {result = result} b = record {
    extends = b.extends;
    graph = b.graph;
    holds = λ k. omega (arith, b.holds k, count-one k result);
    count = omega (arith, b.total);
    cells = omega (arith, b.makes.cells, b.few_cells);
    nodes = omega (arith, b.makes.nodes, b.few_nodes);
    balance = Balances-Makes b.makes;
  }

  -- room was made first
  pub Builds-Answered : {old mid new : Heap T} {spent : List ℕ} {result c n : ℕ} → Unchanged old mid → Builds mid new spent (result ∷ []) c n → Answered old new spent result c n
  Builds-Answered same b = Answered-Unchanged same (Answered-Builds b)

  pub Builds-MakesJust : {old mid new : Heap T} {spent gained : List ℕ} {c n : ℕ} → Unchanged old mid → Builds mid new spent gained c n → MakesJust old new
  Builds-MakesJust same b = omega (arith, same.made, same.live, b.makes.made, b.makes.live)
