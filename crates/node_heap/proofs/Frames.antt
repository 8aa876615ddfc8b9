-- How what calls do to a heap composes: a caller's proof chains these records call by call.
use Rattle.std.proofs.Common.{◌≡◌, ℕ, ◌+◌, ◌<◌, ◌≤◌, List, refl, ap, ◌∙◌, arith, IsSome}
use Rattle.std.specs.Prelude.{option_map}
use Rattle.node_heap.specs.Links.{Reaches, here, below}
use Rattle.node_heap.specs.Forms.{Row, node, links_of, form_of, kind_of, Tree, Trees, tree_node, IsTree, AreTrees, is_node_tree, are_none, are_then}
use Rattle.node_heap.specs.Heap.{Heap, row_at, form_at, links_at, holds_at, one_at, IsGraph}
use Rattle.node_heap.specs.Calls.{KeepsBelow, Adds, Makes, Releases, Extends, KeepsHeld, KeepsTrees, Unchanged, Balances, Answered}
use Rattle.node_heap.specs.declared.row.Head.{Head}
use Rattle.node_heap.proofs.Counts.{test_other}
use Rattle.node_heap.proofs.Reach.{HasLink-same, Reaches-trans, SameBelow-trans}
use Rattle.node_heap.proofs.Trees.{SameBelow-links, SameBelow-forms, IsTree-same, IsTree-live, live-form}

module _ {T : Type 0} where
  pub KeepsBelow-trans : (old mid new : Heap T) (l : ℕ) → KeepsBelow old mid l → KeepsBelow mid new l → KeepsBelow old new l
  KeepsBelow-trans old mid new l first second =
      SameBelow-trans (links_at old) (links_at mid) (row_at old) (row_at mid) (row_at new) l (SameBelow-links (row_at old) (row_at mid) l first) first second

  -- what a kept link reads stays
  pub IsTree-KeepsBelow : (old new : Heap T) (l : ℕ) (t : Tree T) → KeepsBelow old new l → IsTree (form_at old) l t → IsTree (form_at new) l t
  IsTree-KeepsBelow old new l t kept is = IsTree-same (form_at old) (form_at new) l t (SameBelow-forms (row_at old) (row_at new) l kept) is

  -- a row that was there is the same
  pub Extends-row : {old new : Heap T} → Extends old new → (l : ℕ) → IsSome (row_at old l) → row_at new l ≡ row_at old l
  Extends-row more l live = more.kept l live l (here l)

  pub Extends-form : {old new : Heap T} → Extends old new → (l : ℕ) → IsSome (row_at old l) → form_at new l ≡ form_at old l
  Extends-form more l live = ap (option_map form_of) (Extends-row more l live)

  pub Extends-refl : (h : Heap T) → Extends h h
  Extends-refl h = record { live = λ l live. live; kept = λ l live m down. refl }

  pub Extends-trans : {old mid new : Heap T} → Extends old mid → Extends mid new → Extends old new
  Extends-trans {old} {mid} {new} first second = record {
    live = λ l live. second.live l (first.live l live);
    kept = λ l live. KeepsBelow-trans old mid new l (first.kept l live) (second.kept l (first.live l live));
  }

  pub IsTree-Extends : {old new : Heap T} {l : ℕ} {t : Tree T} → Extends old new → IsTree (form_at old) l t → IsTree (form_at new) l t
  IsTree-Extends {old} {new} {l} {t} more is = IsTree-KeepsBelow old new l t (more.kept l (live-form (row_at old l) (IsTree-live (form_at old) l t is))) is

  pub AreTrees-Extends : {old new : Heap T} {links : List ℕ} {ts : Trees T} → Extends old new → AreTrees (form_at old) links ts → AreTrees (form_at new) links ts
  AreTrees-Extends more are_none = are_none
  AreTrees-Extends more (are_then k t ks ts is are) = are_then k t ks ts (IsTree-Extends more is) (AreTrees-Extends more are)

  -- a node that is added unfolds to its head over the trees of its links
  pub IsTree-Adds : {old new : Heap T} {link : ℕ} {head : Head} {links : List ℕ} {ts : Trees T} → Extends old new → Adds old new link (node head links) → AreTrees (form_at old) links ts → IsTree (form_at new) link (tree_node (kind_of head) ts)
  IsTree-Adds {links = links} {ts = ts} more adds are = is_node_tree _ _ links ts (ap (option_map form_of) adds.here) (AreTrees-Extends more are)

  pub KeepsTrees-Extends : (old new : Heap T) → Extends old new → KeepsTrees old new
  KeepsTrees-Extends old new more l t held is = IsTree-Extends more is

  -- all that a row reaches is there
  pub Reaches-live : (h : Heap T) → IsGraph h → (l m : ℕ) → Reaches (links_at h) l m → IsSome (row_at h l) → IsSome (row_at h m)
  Reaches-live h graph a b (here l) live = live
  Reaches-live h graph a b (below l k m has down) live = Reaches-live h graph k m down (graph.closed l k has)

  pub Extends-Adds : (old new : Heap T) (link : ℕ) (row : Row T) → IsGraph old → Adds old new link row → Extends old new
  Extends-Adds old new link row graph adds =
      let apart : (l : ℕ) → IsSome (row_at old l) → row_at new l ≡ row_at old l =
      λ l live. adds.others l (λ same. let gone = ap (row_at old) same ∙ adds.fresh in cc) in
      record {
        live = λ l live. rw (apart l live) live;
        kept = λ l live m down. apart m (Reaches-live old graph l m down live);
      }

  pub Extends-rows : (old new : Heap T) → ((k : ℕ) → row_at new k ≡ row_at old k) → Extends old new
  Extends-rows old new same = record {
    live = λ l live. rw (same l) live;
    kept = λ l live m down. same m;
  }

  -- where each held link keeps all that it reaches, every row stays
  pub Extends-held : (old new : Heap T) → IsGraph old → ((l : ℕ) → 0 < holds_at old l → KeepsBelow old new l) → Extends old new
  Extends-held old new graph keeps = record {
    live = λ l live.
        let up = graph.reached l live in
        rw (keeps up.0 up.1 l up.2) live;
    kept = λ l live m down.
        let up = graph.reached l live in
        keeps up.0 up.1 m (Reaches-trans (links_at old) up.0 l m up.2 down);
  }

  -- nothing is lost where rows are only added
  pub KeepsHeld-Extends : (spent : ℕ → ℕ) (old new : Heap T) → IsGraph old → Extends old new → ((l : ℕ) → holds_at old l ≤ holds_at new l + spent l) → KeepsHeld spent old new
  KeepsHeld-Extends spent old new graph more left = record {
    live = λ l some. more.live l (graph.held l (omega (arith, some)));
    kept = λ l some. more.kept l (graph.held l (omega (arith, some)));
    left = left;
  }

  -- the holds that two runs of calls spend add up
  pub KeepsHeld-trans : {spent spent' : ℕ → ℕ} {old mid new : Heap T} → KeepsHeld spent old mid → KeepsHeld spent' mid new → KeepsHeld (λ l. spent l + spent' l) old new
  KeepsHeld-trans {spent} {spent'} {old} {mid} {new} first second = record {
    live = λ l some. second.live l (omega (arith, some, first.left l));
    kept = λ l some. KeepsBelow-trans old mid new l (first.kept l (omega (arith, some))) (second.kept l (omega (arith, some, first.left l)));
    left = λ l. omega (arith, first.left l, second.left l);
  }

  -- the same with any other bound on what is spent, so that a hold that was taken before it was spent costs nothing
  pub KeepsHeld-then : {spent spent' : ℕ → ℕ} {old mid new : Heap T} (both : ℕ → ℕ) → KeepsHeld spent old mid → KeepsHeld spent' mid new → ((l : ℕ) → both l < holds_at old l → spent l < holds_at old l) → ((l : ℕ) → both l < holds_at old l → spent' l < holds_at mid l) → ((l : ℕ) → holds_at old l ≤ holds_at new l + both l) → KeepsHeld both old new
  KeepsHeld-then {spent} {spent'} {old} {mid} {new} both first second at_first at_second left = record {
    live = λ l some. second.live l (at_second l some);
    kept = λ l some. KeepsBelow-trans old mid new l (first.kept l (at_first l some)) (second.kept l (at_second l some));
    left = left;
  }

  -- first rows come, and then holds are given up: a row that was there and of which a hold is left stays
  pub KeepsBelow-Extends : {spent : ℕ → ℕ} {old mid new : Heap T} → Extends old mid → KeepsHeld spent mid new → (l : ℕ) → IsSome (row_at old l) → spent l < holds_at mid l → KeepsBelow old new l
  KeepsBelow-Extends {spent} {old} {mid} {new} first second l live some = KeepsBelow-trans old mid new l (first.kept l live) (second.kept l some)

  pub IsTree-KeepsHeld : {spent : ℕ → ℕ} {old new : Heap T} {l : ℕ} {t : Tree T} → KeepsHeld spent old new → spent l < holds_at old l → IsTree (form_at old) l t → IsTree (form_at new) l t
  IsTree-KeepsHeld {old = old} {new = new} {l = l} {t = t} keeps some is = IsTree-KeepsBelow old new l t (keeps.kept l some) is

  pub Makes-trans : {old mid new : Heap T} {c n c' n' : ℕ} → Makes old mid c n → Makes mid new c' n' → Makes old new (c + c') (n + n')
  Makes-trans {old} {mid} {new} {c} {n} {c'} {n'} first second = record {
    spare_cells = omega (arith, first.spare_cells, second.spare_cells);
    spare_nodes = omega (arith, first.spare_nodes, second.spare_nodes);
    cells = omega (arith, first.cells, second.cells);
    nodes = omega (arith, first.nodes, second.nodes);
    live = omega (arith, first.live, second.live);
    made = omega (arith, first.made, second.made);
    no_fewer = omega (arith, first.no_fewer, second.no_fewer);
  }

  pub Balances-trans : {old mid new : Heap T} → Balances old mid → Balances mid new → Balances old new
  Balances-trans first second = record {
    spare_cells = omega (arith, first.spare_cells, second.spare_cells);
    spare_nodes = omega (arith, first.spare_nodes, second.spare_nodes);
    no_fewer = omega (arith, first.no_fewer, second.no_fewer);
    made = omega (arith, first.no_fewer, second.no_fewer, first.made, second.made);
  }

  pub Balances-Makes : {old new : Heap T} {c n : ℕ} → Makes old new c n → Balances old new
  Balances-Makes makes = record {
    spare_cells = omega (arith, makes.spare_cells, makes.cells);
    spare_nodes = omega (arith, makes.spare_nodes, makes.nodes);
    no_fewer = makes.no_fewer;
    made = omega (arith, makes.made, makes.live);
  }

  pub Balances-Releases : {old new : Heap T} {link : ℕ} → Releases old new link → Balances old new
  Balances-Releases rel = record {
    spare_cells = omega (arith, rel.cells);
    spare_nodes = omega (arith, rel.nodes);
    no_fewer = omega (arith, rel.made);
    made = omega (arith, rel.made, rel.fewer);
  }

  pub Balances-Unchanged : {old new : Heap T} → Unchanged old new → Balances old new
  Balances-Unchanged same = record {
    spare_cells = omega (arith, same.cells, same.spare_cells);
    spare_nodes = omega (arith, same.nodes, same.spare_nodes);
    no_fewer = omega (arith, same.made);
    made = omega (arith, same.made, same.live);
  }

  pub Extends-Unchanged : {old new : Heap T} → Unchanged old new → Extends old new
  Extends-Unchanged {old} {new} same = Extends-rows old new same.rows

  pub Unchanged-refl : (h : Heap T) → IsGraph h → Unchanged h h
  Unchanged-refl h graph = record {
    rows = λ k. refl;
    holds = λ k. refl;
    count = refl;
    cells = refl;
    nodes = refl;
    live = refl;
    made = refl;
    spare_cells = omega arith;
    spare_nodes = omega arith;
    graph = graph;
  }

  pub Unchanged-trans : {old mid new : Heap T} → Unchanged old mid → Unchanged mid new → Unchanged old new
  Unchanged-trans first second = record {
    rows = λ k. second.rows k ∙ first.rows k;
    holds = λ k. second.holds k ∙ first.holds k;
    count = second.count ∙ first.count;
    cells = second.cells ∙ first.cells;
    nodes = second.nodes ∙ first.nodes;
    live = second.live ∙ first.live;
    made = second.made ∙ first.made;
    spare_cells = omega (arith, first.spare_cells, second.spare_cells);
    spare_nodes = omega (arith, first.spare_nodes, second.spare_nodes);
    graph = second.graph;
  }

  -- room is made first, and then the call answers
  pub Answered-Unchanged : {old mid new : Heap T} {spent : List ℕ} {result c n : ℕ} → Unchanged old mid → Answered mid new spent result c n → Answered old new spent result c n
  Answered-Unchanged {spent = spent} {result = result} same done = record {
    extends = Extends-trans (Extends-Unchanged same) done.extends;
    graph = done.graph;
    holds = λ k. omega (arith, same.holds k, done.holds k);
    count = omega (arith, same.count, done.count);
    cells = omega (arith, same.cells, done.cells);
    nodes = omega (arith, same.nodes, done.nodes);
    balance = Balances-trans (Balances-Unchanged same) done.balance;
  }

  -- a row that stays in a release is the same with all below it
  pub KeepsBelow-Releases : (old new : Heap T) (link : ℕ) → Releases old new link → IsGraph new → (l : ℕ) → IsSome (row_at new l) → KeepsBelow old new l
  KeepsBelow-Releases old new link rel graph l live m down = keep l m down live
    where
      keep : (l m : ℕ) → Reaches (links_at old) l m → IsSome (row_at new l) → row_at new m ≡ row_at old m
      keep a b (here l) live = rel.same l live
      keep a b (below l k m has down) live =
          keep k m down (graph.closed l k (HasLink-same (links_at old) (links_at new) l k (ap links_of (rel.same l live)) has))

  pub KeepsHeld-Releases : (old new : Heap T) (link : ℕ) → Releases old new link → IsGraph new → KeepsHeld (one_at link) old new
  KeepsHeld-Releases old new link rel graph = record {
    live = λ l some. graph.held l (omega (arith, rel.holds l, some));
    kept = λ l some. KeepsBelow-Releases old new link rel graph l (graph.held l (omega (arith, rel.holds l, some)));
    left = λ l. omega (arith, rel.holds l);
  }

  pub KeepsTrees-Releases : (old new : Heap T) (link : ℕ) → Releases old new link → IsGraph new → KeepsTrees old new
  KeepsTrees-Releases old new link rel graph l t held is =
      IsTree-KeepsHeld (KeepsHeld-Releases old new link rel graph) (omega (arith, rel.holds l, held)) is

  pub KeepsHeld-Unchanged : (old new : Heap T) → IsGraph old → Unchanged old new → KeepsHeld (λ _. 0) old new
  KeepsHeld-Unchanged old new graph same = KeepsHeld-Extends (λ _. 0) old new graph (Extends-Unchanged same) (λ l. omega (arith, same.holds l))

  pub KeepsTrees-Unchanged : (old new : Heap T) → Unchanged old new → KeepsTrees old new
  KeepsTrees-Unchanged old new same = KeepsTrees-Extends old new (Extends-Unchanged same)

  -- first rows come, and then holds are given up: where each link that was held keeps a hold, every row stays
  pub Extends-kept : {spent : ℕ → ℕ} {old mid new : Heap T} → IsGraph old → Extends old mid → KeepsHeld spent mid new → ((l : ℕ) → 0 < holds_at old l → spent l < holds_at mid l) → Extends old new
  Extends-kept {spent} {old} {mid} {new} graph first second some =
      Extends-held old new graph (λ l held. KeepsBelow-Extends first second l (graph.held l held) (some l held))

  -- of two links of which one is held and the other is not, neither is the other
  pub apart-held : (h : Heap T) (k l : ℕ) → holds_at h k ≡ 0 → 0 < holds_at h l → one_at k l ≡ 0
  apart-held h k l none some = test_other l k (λ same. let there = ap (holds_at h) same in omega (arith, there, none, some))
