-- How writes in place compose, and what they leave alone.
use Rattle.std.proofs.Common.{◌≡◌, ◌≢◌, ℕ, zero, suc, ◌+◌, ◌*◌, ◌<◌, ◌≤◌, List, [], ◌∷◌, ◌++◌, length, get_or, set, refl, sym, ap, subst, ◌∙◌, arith, Option, Some, None, IsSome, inl, inr, length-append}
use Rattle.std.specs.Prelude.{sum_by}
use Rattle.std.proofs.lemmas.Bool.{cases_eq}
use Rattle.std.proofs.lemmas.List.Sums.{sum_by-cons}
use Rattle.std.proofs.lemmas.List.{length-set, get_or-set_same}
use Rattle.node_heap.specs.Links.{Links, count, HasLink, Reaches, here, below}
use Rattle.node_heap.specs.Forms.{Row, cell, node, Tree, IsTree, links_of, is_node}
use Rattle.node_heap.specs.Heap.{Heap, row_at, form_at, links_at, holds_at, owners_at, hold_count, one_at, IsGraph}
use Rattle.node_heap.specs.Calls.{KeepsBelow, KeepsHeld, KeepsOwners, Extends, Makes, Unchanged, Builds, Trades}
use Rattle.node_heap.specs.InPlace.{other_at, ReachesAround, IsSolePath, path_start, path_then, OwnsDown, KeepsApart, KeepsPaths, Changes, by_link}
use Rattle.node_heap.proofs.Counts.{le-sum_by, count-cons, one_at-flip, test_same, test_other}
use Rattle.node_heap.proofs.Reach.{HasLink-same, Reaches-trans}
use Rattle.node_heap.proofs.Frames.{Reaches-live, IsTree-KeepsBelow, Balances-trans, Balances-Makes, Balances-Unchanged}
use Rattle.node_heap.proofs.BuildLemmas.{count-append}
use Rattle.node_heap.proofs.GraphLemmas.{linked-places, IsGraph-acyclic}
use Rattle.node_heap.proofs.Ways.{IsOwners, ReachesAround-end, ReachesAround-Reaches, Reaches-around, ReachesAround-same, ReachesAround-path, ReachesAround-trans, Reaches-avoids, Reaches-last, IsSolePath-Reaches}

-- two terms of a sum are together at most the sum
two_terms : {X : Type 0} (f : X → ℕ) (d : X) → f d ≡ 0 → (xs : List X) (i j : ℕ) → i ≢ j → f (get_or xs i d) + f (get_or xs j d) ≤ sum_by f xs
two_terms f d none [] i j other = omega (arith, none)
two_terms f d none (x ∷ xs) zero zero other = absurd (other refl)
two_terms f d none (x ∷ xs) zero (suc j) other = omega (arith, sum_by-cons f x xs, le-sum_by f d none xs j)
two_terms f d none (x ∷ xs) (suc i) zero other = omega (arith, sum_by-cons f x xs, le-sum_by f d none xs i)
two_terms f d none (x ∷ xs) (suc i) (suc j) other = omega (arith, sum_by-cons f x xs, two_terms f d none xs i j (λ e. other (ap suc e)))

-- what stands at an index is counted
pub count-at : (xs : List ℕ) (i x : ℕ) → i < length xs → get_or xs i 0 ≡ x → 0 < count x xs
count-at [] i x inside found = absurd (omega (arith, inside))
count-at (y ∷ ys) zero x inside found = omega (arith, count-cons x y ys, test_same x y (sym found), one_at-flip y x)
count-at (y ∷ ys) (suc i) x inside found = omega (arith, count-cons x y ys, count-at ys i x (omega (arith, inside)) found)

-- where the links on a way stay, the way stays, and where rows with one owner stay such, so does a path
ways-kept : (L M : Links) (first : ℕ) → ((l k : ℕ) → HasLink L l k → Reaches L k first → HasLink M l k) → (x y : ℕ) → Reaches L y first → Reaches L x y → Reaches M x y
ways-kept L M first same x y down (here l) = here l
ways-kept L M first same x y down (below l k m has rest) = below l k m (same l k has (Reaches-trans L k m first rest down)) (ways-kept L M first same k m down rest)

path-kept : (O P : ℕ → ℕ) (L M : Links) (first : ℕ) → ((l k : ℕ) → HasLink L l k → Reaches L k first → HasLink M l k) → ((l k : ℕ) → HasLink L l k → Reaches L k first → O k ≡ 1 → P k ≡ 1) → (x y : ℕ) → Reaches L y first → IsSolePath O L x y → IsSolePath P M x y
path-kept O P L M first same sole x y down path_start = path_start
path-kept O P L M first same sole x y down (path_then l k path has one) =
    path_then l k (path-kept O P L M first same sole x l (below l k first has down) path) (same l k has down) (sole l k has down one)

module _ {T : Type 0} where
  -- a row with one owner, a place, has no hold and stands in no other row
  pub IsOwners-heap : (h : Heap T) → IsOwners (holds_at h) (owners_at h) (links_at h)
  IsOwners-heap h = record {
    unheld = λ p k has one. omega (arith, linked-places h.rows p k has, one);
    only = λ p q k has also one. elim (cases_eq q p) as (λ _. q ≡ p) [
      | inl same ↦ same
      | inr other ↦ absurd (omega (arith, two_terms (λ r. count k (links_of r)) None refl h.rows q p other, has, also, one))
    ];
  }

  -- what has a link is a row
  pub linked_live : (r : Option (Row T)) (k : ℕ) → 0 < count k (links_of r) → IsSome r
  linked_live None k some = absurd (omega (arith, some))
  linked_live (Some x) k some = refl

  -- and a node
  pub linked-node : (r : Option (Row T)) (k : ℕ) → 0 < count k (links_of r) → is_node r ≡ 1
  linked-node None k some = absurd (omega (arith, some))
  linked-node (Some (cell x)) k some = absurd (omega (arith, some))
  linked-node (Some (node h l)) k some = refl

  pub above_live : (h : Heap T) (x y : ℕ) → Reaches (links_at h) x y → IsSome (row_at h y) → IsSome (row_at h x)
  above_live h x y (here l) some = some
  above_live h x y (below l k m has rest) some = linked_live (row_at h l) k has

  -- what a link reaches where all below it was kept, it reached before
  pub Reaches-back : (old new : Heap T) (l m : ℕ) → KeepsBelow old new l → Reaches (links_at new) l m → Reaches (links_at old) l m
  Reaches-back old new a b kept (here l) = here l
  Reaches-back old new a b kept (below l k m has rest) =
      let was : HasLink (links_at old) l k = HasLink-same (links_at new) (links_at old) l k (sym (ap links_of (kept l (here l)))) has in
      below l k m was (Reaches-back old new k m (λ j down. kept j (below l k j was down)) rest)

  -- where each row that was there is the same, all below it is too
  pub Extends-live : (old new : Heap T) → IsGraph old → ((k : ℕ) → IsSome (row_at old k) → row_at new k ≡ row_at old k) → Extends old new
  Extends-live old new graph same = record {
    live = λ l live. rw (same l live) live;
    kept = λ l live m down. same m (Reaches-live old graph l m down live);
  }

  -- what does not reach the first row at all keeps all below it
  pub KeepsBelow-apart : {first : ℕ} {spent : ℕ → ℕ} {old new : Heap T} → KeepsApart first spent old new → (l : ℕ) → spent l < holds_at old l → ¬ Reaches (links_at old) l first → KeepsBelow old new l
  KeepsBelow-apart {first} {spent} {old} {new} keeps l some off m down = keeps.kept l m some (Reaches-around (links_at old) first l m down off)

  pub IsTree-apart : {first : ℕ} {spent : ℕ → ℕ} {old new : Heap T} {l : ℕ} {t : Tree T} → KeepsApart first spent old new → spent l < holds_at old l → ¬ Reaches (links_at old) l first → IsTree (form_at old) l t → IsTree (form_at new) l t
  IsTree-apart {old = old} {new = new} {l = l} {t = t} keeps some off tree = IsTree-KeepsBelow old new l t (KeepsBelow-apart keeps l some off) tree

  -- calls that write nothing in place
  pub KeepsApart-KeepsHeld : {spent : ℕ → ℕ} {old new : Heap T} (first : ℕ) → KeepsHeld spent old new → KeepsApart first spent old new
  KeepsApart-KeepsHeld {spent} {old} {new} first keeps = record { kept = λ l m some way. keeps.kept l some m (ReachesAround-Reaches (links_at old) first l m way) }

  -- with any bound on what is spent, so that a hold that was taken before it was spent costs nothing
  pub KeepsApart-then : {first : ℕ} {spent spent' : ℕ → ℕ} {old mid new : Heap T} (both : ℕ → ℕ) → KeepsApart first spent old mid → KeepsApart first spent' mid new → ((l : ℕ) → both l < holds_at old l → spent l < holds_at old l) → ((l : ℕ) → both l < holds_at old l → spent' l < holds_at mid l) → KeepsApart first both old new
  KeepsApart-then {first} {spent} {spent'} {old} {mid} {new} both one two at_one at_two = record {
    kept = λ l m some way.
        let rows : (x : ℕ) → ReachesAround (links_at old) first l x → row_at mid x ≡ row_at old x = λ x on. one.kept l x (at_one l some) on in
        two.kept l m (at_two l some) (ReachesAround-same (links_at old) (links_at mid) first l m way (λ x on. ap links_of (rows x on))) ∙ rows m way;
  }

  -- a change below a path of rows with one owner leaves what goes around the path's first row
  pub KeepsApart-path : {first last : ℕ} {spent : ℕ → ℕ} {old new : Heap T} → OwnsDown old first last → KeepsApart last spent old new → KeepsApart first spent old new
  KeepsApart-path {first} {last} {spent} {old} {new} path keeps = record {
    kept = λ l m some way. keeps.kept l m some (ReachesAround-path (holds_at old) (owners_at old) (links_at old) (IsOwners-heap old) first last path l m (omega (arith, some)) way);
  }

  pub KeepsPaths-ways : {first : ℕ} {old new : Heap T} → KeepsPaths first old new → (x y : ℕ) → Reaches (links_at old) y first → Reaches (links_at old) x y → Reaches (links_at new) x y
  KeepsPaths-ways {first} {old} {new} keeps = ways-kept (links_at old) (links_at new) first keeps.links

  pub KeepsPaths-owned : {first : ℕ} {old new : Heap T} → KeepsPaths first old new → (x y : ℕ) → Reaches (links_at old) y first → OwnsDown old x y → OwnsDown new x y
  KeepsPaths-owned {first} {old} {new} keeps = path-kept (owners_at old) (owners_at new) (links_at old) (links_at new) first keeps.links (λ l k has up. keeps.soles k up)

  pub KeepsPaths-trans : {first : ℕ} {old mid new : Heap T} → KeepsPaths first old mid → KeepsPaths first mid new → KeepsPaths first old new
  KeepsPaths-trans {first} {old} {mid} one two = record {
    live = λ k up live. two.live k (on k up) (one.live k up live);
    links = λ l k has up. two.links l k (one.links l k has up) (on k up);
    soles = λ k up sole. two.soles k (on k up) (one.soles k up sole);
  }
    where
      on : (k : ℕ) → Reaches (links_at old) k first → Reaches (links_at mid) k first
      on k up = KeepsPaths-ways one k first (here first) up

  pub KeepsPaths-path : {first last : ℕ} {old new : Heap T} → OwnsDown old first last → KeepsPaths last old new → KeepsPaths first old new
  KeepsPaths-path {first} {last} {old} path keeps = record {
    live = λ k up. keeps.live k (on k up);
    links = λ l k has up. keeps.links l k has (on k up);
    soles = λ k up. keeps.soles k (on k up);
  }
    where
      on : (k : ℕ) → Reaches (links_at old) k first → Reaches (links_at old) k last
      on k up = Reaches-trans (links_at old) k first last up (IsSolePath-Reaches (owners_at old) (links_at old) first last path)

  -- rows came, and of those above the row that was there each that had one owner has one still
  pub KeepsPaths-Extends : {old new : Heap T} (first : ℕ) → Extends old new → ((k : ℕ) → Reaches (links_at old) k first → owners_at old k ≡ 1 → owners_at new k ≡ 1) → KeepsPaths first old new
  KeepsPaths-Extends {old} {new} first more soles = record {
    live = λ k up live. more.live k live;
    links = λ l k has up. HasLink-same (links_at old) (links_at new) l k (ap links_of (more.kept l (linked_live (row_at old l) k has) l (here l))) has;
    soles = soles;
  }

  -- a path goes on to a child that has one owner
  pub OwnsDown-child : (h : Heap T) (first parent child index : ℕ) (ks : List ℕ) → OwnsDown h first parent → links_at h parent ≡ set ks index child → index < length ks → owners_at h child ≡ 1 → OwnsDown h first child
  OwnsDown-child h first parent child index ks path links inside one =
      path_then parent child path (rw links (count-at (set ks index child) index child (omega (arith, inside, length-set ks index child)) (get_or-set_same ks index child 0 inside))) one

  -- what rows of spares cost, with what was spent and gained
  pub Trades-Makes : {old new : Heap T} {spent gained : List ℕ} {cells nodes : ℕ} (c n : ℕ) → IsGraph new → ((k : ℕ) → holds_at new k + count k spent ≡ holds_at old k + count k gained) → hold_count new + length spent ≡ hold_count old + length gained
      → Makes old new cells nodes → cells ≤ c → nodes ≤ n → Trades old new spent gained c n
  Trades-Makes c n graph holds total makes few_cells few_nodes = record {
    graph = graph;
    holds = holds;
    total = total;
    cells = omega (arith, makes.cells, few_cells);
    nodes = omega (arith, makes.nodes, few_nodes);
    balance = Balances-Makes makes;
    made = omega (arith, makes.made, few_cells, few_nodes);
  }

  pub Trades-Builds : {old new : Heap T} {spent gained : List ℕ} {c n : ℕ} → Builds old new spent gained c n → Trades old new spent gained c n
  Trades-Builds {c = c} {n = n} builds = Trades-Makes c n builds.graph builds.holds builds.total builds.makes builds.few_cells builds.few_nodes

  -- nothing but spares has changed
  pub Trades-Unchanged : {old new : Heap T} → Unchanged old new → Trades old new [] [] 0 0
  Trades-Unchanged same = record {
    graph = same.graph;
    holds = λ k. omega (arith, same.holds k);
    total = omega (arith, same.count);
    cells = omega (arith, same.cells);
    nodes = omega (arith, same.nodes);
    balance = Balances-Unchanged same;
    made = omega (arith, same.made);
  }

  pub Trades-both : {old mid new : Heap T} {xs us ys vs : List ℕ} {c n c' n' : ℕ} (spent gained : List ℕ) → Trades old mid xs us c n → Trades mid new ys vs c' n'
      → ((k : ℕ) → count k xs + count k ys + count k gained ≡ count k us + count k vs + count k spent)
      → length xs + length ys + length gained ≡ length us + length vs + length spent → Trades old new spent gained (c + c') (n + n')
  Trades-both spent gained one two each whole = record {
    graph = two.graph;
    holds = λ k. omega (arith, one.holds k, two.holds k, each k);
    total = omega (arith, one.total, two.total, whole);
    cells = omega (arith, one.cells, two.cells);
    nodes = omega (arith, one.nodes, two.nodes);
    balance = Balances-trans one.balance two.balance;
    made = omega (arith, one.made, two.made);
  }

  pub Trades-more : {old new : Heap T} {spent gained : List ℕ} {c n : ℕ} (c' n' : ℕ) → Trades old new spent gained c n → c ≤ c' → n ≤ n' → Trades old new spent gained c' n'
  Trades-more c' n' trades more_cells more_nodes = record {
    graph = trades.graph;
    holds = trades.holds;
    total = trades.total;
    cells = omega (arith, trades.cells, more_cells);
    nodes = omega (arith, trades.nodes, more_nodes);
    balance = trades.balance;
    made = omega (arith, trades.made, more_cells, more_nodes);
  }

  -- two changes, of which the first may gain what the second spends
  pub Changes-both : {first : ℕ} {old mid new : Heap T} {xs us ys vs : List ℕ} {c n c' n' : ℕ} (spent gained : List ℕ) → Changes first old mid xs us c n → Changes first mid new ys vs c' n'
      → ((k : ℕ) → count k xs + count k ys + count k gained ≡ count k us + count k vs + count k spent)
      → ((k : ℕ) → count k xs ≤ count k spent) → ((k : ℕ) → count k ys + count k xs ≤ count k us + count k spent)
      → length xs + length ys + length gained ≡ length us + length vs + length spent → Changes first old new spent gained (c + c') (n + n')
  Changes-both spent gained one two each at_one at_two whole = record {
    apart = KeepsApart-then (λ l. count l spent) one.apart two.apart (λ l some. omega (arith, some, at_one l)) (λ l some. omega (arith, some, at_two l, one.trades.holds l));
    paths = KeepsPaths-trans one.paths two.paths;
    trades = Trades-both spent gained one.trades two.trades each whole;
  }

  -- what the first gains, the second spends
  pub Changes-then : {first : ℕ} {old mid new : Heap T} {xs ys zs : List ℕ} {c n c' n' : ℕ} → Changes first old mid xs ys c n → Changes first mid new ys zs c' n' → Changes first old new xs zs (c + c') (n + n')
  Changes-then {xs = xs} {zs = zs} one two = Changes-both xs zs one two (λ k. omega arith) (λ k. omega arith) (λ k. omega arith) (omega arith)

  -- the second spends some of what the first gains
  pub Changes-follow : {first : ℕ} {old mid new : Heap T} {c n c' n' : ℕ} (between xs us ys vs : List ℕ) → Changes first old mid xs (between ++ us) c n → Changes first mid new (between ++ ys) vs c' n' → Changes first old new (xs ++ ys) (us ++ vs) (c + c') (n + n')
  Changes-follow between xs us ys vs one two =
      Changes-both (xs ++ ys) (us ++ vs) one two (λ k. omega (arith, count-append k xs ys, count-append k us vs, count-append k between us, count-append k between ys)) (λ k. omega (arith, count-append k xs ys))
      (λ k. omega (arith, count-append k xs ys, count-append k between us, count-append k between ys)) (omega (arith, length-append xs ys, length-append us vs, length-append between us, length-append between ys))

  -- each spends and gains on its own
  pub Changes-beside : {first : ℕ} {old mid new : Heap T} {xs us ys vs : List ℕ} {c n c' n' : ℕ} → Changes first old mid xs us c n → Changes first mid new ys vs c' n' → Changes first old new (xs ++ ys) (us ++ vs) (c + c') (n + n')
  Changes-beside {xs = xs} {us = us} {ys = ys} {vs = vs} one two = Changes-follow [] xs us ys vs one two

  pub Changes-more : {first : ℕ} {old new : Heap T} {xs us : List ℕ} {c n : ℕ} (c' n' : ℕ) → Changes first old new xs us c n → c ≤ c' → n ≤ n' → Changes first old new xs us c' n'
  Changes-more c' n' change more_cells more_nodes = record { apart = change.apart; paths = change.paths; trades = Trades-more c' n' change.trades more_cells more_nodes }

  -- a change below a path of rows with one owner is a change at the path's first row
  pub Changes-path : {first last : ℕ} {old new : Heap T} {xs us : List ℕ} {c n : ℕ} → OwnsDown old first last → Changes last old new xs us c n → Changes first old new xs us c n
  Changes-path path change = record { apart = KeepsApart-path path change.apart; paths = KeepsPaths-path path change.paths; trades = change.trades }

  -- the links of the rows above a written row stay
  pub links-above : (old new : Heap T) (parent : ℕ) → IsGraph old → ((k : ℕ) → IsSome (row_at old k) → k ≢ parent → row_at new k ≡ row_at old k) → (l k : ℕ) → HasLink (links_at old) l k → Reaches (links_at old) k parent → HasLink (links_at new) l k
  links-above old new parent graph others l k has down =
      HasLink-same (links_at old) (links_at new) l k (ap links_of (others l (linked_live (row_at old l) k has) (λ same. IsGraph-acyclic old graph l k has (subst (Reaches (links_at old) k) (sym same) down)))) has

  -- a row that is written
  pub Changes-Writes : (old new : Heap T) (parent : ℕ) (spent gained : List ℕ) → IsGraph old → IsGraph new → IsSome (row_at new parent) → ((k : ℕ) → k ≢ parent → row_at new k ≡ row_at old k) → KeepsOwners old new
      → ((k : ℕ) → holds_at new k + count k spent ≡ holds_at old k + count k gained) → hold_count new + length spent ≡ hold_count old + length gained → Makes old new 0 0 → Changes parent old new spent gained 0 0
  Changes-Writes old new parent spent gained graph graph' live others owners holds total makes = record {
    apart = record { kept = λ l m some way. others m (ReachesAround-end (links_at old) parent l m way) };
    paths = record {
      live = λ k up. stays k;
      links = links-above old new parent graph (λ k is other. others k other);
      soles = λ k up one. owners k ∙ one;
    };
    trades = Trades-Makes 0 0 graph' holds total makes (omega arith) (omega arith);
  }
    where
      stays : (l : ℕ) → IsSome (row_at old l) → IsSome (row_at new l)
      stays l some = elim (cases_eq l parent) as (λ _. IsSome (row_at new l)) [
        | inl same ↦ subst (λ j. IsSome (row_at new j)) (sym same) live
        | inr other ↦ rw (others l other) some
      ]

  -- a child that is copied in its place
  pub Changes-own_child : (old new : Heap T) (parent child copy : ℕ) → IsGraph old → IsGraph new → IsSome (row_at new parent) → HasLink (links_at old) parent child → row_at old copy ≡ None → ((k : ℕ) → k ≢ parent → IsSome (row_at old k) → row_at new k ≡ row_at old k)
      → ((k : ℕ) → owners_at new k + one_at child k ≡ owners_at old k + (one_at copy k + other_at child copy * count k (links_at old child)))
      → ((k : ℕ) → holds_at new k ≡ holds_at old k) → hold_count new ≡ hold_count old → Makes old new 0 1 → Changes parent old new [] [] 0 1
  Changes-own_child old new parent child copy graph graph' live linked fresh same owners holds total makes = record {
    apart = record { kept = λ l m some way. same m (ReachesAround-end (links_at old) parent l m way) (Reaches-live old graph l m (ReachesAround-Reaches (links_at old) parent l m way) (graph.held l (omega (arith, some)))) };
    paths = record {
      live = λ k up. stays k;
      links = links-above old new parent graph (λ k some other. same k other some);
      soles = λ k up one. owners_above k up ∙ one;
    };
    trades = Trades-Makes 0 1 graph' (λ k. omega (arith, holds k)) (omega (arith, total)) makes (omega arith) (omega arith);
  }
    where
      off_copy : (k : ℕ) → IsSome (row_at old k) → k ≢ copy
      off_copy k some at_copy = absurd (let there = ap (row_at old) at_copy ∙ fresh in cc)

      stays : (l : ℕ) → IsSome (row_at old l) → IsSome (row_at new l)
      stays l some = elim (cases_eq l parent) as (λ _. IsSome (row_at new l)) [
        | inl is_parent ↦ subst (λ j. IsSome (row_at new j)) (sym is_parent) live
        | inr other ↦ rw (same l other some) some
      ]

      owners_above : (k : ℕ) → Reaches (links_at old) k parent → owners_at new k ≡ owners_at old k
      owners_above k up =
          let not_child : k ≢ child = λ e. IsGraph-acyclic old graph parent child linked (subst (λ j. Reaches (links_at old) j parent) e up) in
          let not_copy : k ≢ copy = off_copy k (above_live old k parent up (linked_live (row_at old parent) child linked)) in
          let none : count k (links_at old child) ≡ 0 = unlinked (count k (links_at old child)) refl in
          omega (arith, owners k, test_other k child not_child, test_other k copy not_copy, ap (λ x. other_at child copy * x) none)
        where
          unlinked : (n : ℕ) → count k (links_at old child) ≡ n → count k (links_at old child) ≡ 0
          unlinked zero e = e
          unlinked (suc n) e = absurd (IsGraph-acyclic old graph parent child linked (below child k parent (omega (arith, e)) up))

  -- what a change at a child with one owner leaves of the other children of its parent, which a link with a hold left reaches
  pub KeepsBelow-sibling : {spent : ℕ → ℕ} {old new : Heap T} (parent child other u : ℕ) → IsGraph old → owners_at old child ≡ 1 → HasLink (links_at old) parent child → HasLink (links_at old) parent other → other ≢ child → spent u < holds_at old u → Reaches (links_at old) u parent → KeepsApart child spent old new → KeepsBelow old new other
  KeepsBelow-sibling {old = old} parent child other u graph one to_child to_other apart some down keeps m way =
      keeps.kept u m some (ReachesAround-trans (links_at old) child u parent m around_parent (by_link parent other m not_child to_other (Reaches-around (links_at old) child other m way off)))
    where
      L : Links
      L = links_at old

      around_parent : ReachesAround L child u parent
      around_parent = Reaches-avoids L child u parent down (IsGraph-acyclic old graph parent child to_child)

      not_child : parent ≢ child
      not_child = ReachesAround-end L child u parent around_parent

      off : ¬ Reaches L other child
      off up = elim (Reaches-last L other child up) as (λ _. ⊥) [
        | inl same ↦ apart same
        | inr last ↦ IsGraph-acyclic old graph parent other to_other (subst (Reaches L other) ((IsOwners-heap old).only parent last.0 child to_child last.2 one) last.1)
      ]
