-- What stands at a place of a table, and what becomes of its two lists of slots.
use Rattle.std.proofs.Common.{◌≡◌, ◌≢◌, ℕ, suc, ◌+◌, ◌-◌, ◌*◌, ◌<◌, ◌/◌, ◌%◌, List, [], ◌∷◌, map, get_or, set, length, refl, sym, ap, subst, ◌∙◌, arith, Option, Some, None, IsSome, is_some, count_by}
use Rattle.node_heap.specs.Heap.{row_limit}
use Rattle.std.specs.Prelude.{option_map}
use Rattle.std.proofs.lemmas.List.{map-set, length-map}
use Rattle.std.proofs.lemmas.List.Sums.{sum_by-cons}
use Rattle.node_heap.specs.Forms.{cell, node, links_of, value_of, head_of, sums_of, is_cell, is_node}
use Rattle.node_heap.specs.Reads.{sums_or}
use Rattle.node_heap.specs.Layout.{Slot, Table, row_of_slot, owners_in, reown, slot_at, graph_of, filled_count, PutsIn, Rewrites, KeepsRoom, TakesOut}
use Rattle.node_heap.specs.Nodes.{SameBut, Node, Nodes, node_at, node_owners, node_head, node_links, owned_by, Becomes}
use Rattle.node_heap.specs.Inside.{IsFree, woven, cell_slot, node_slot, slots_of, table_of, FillsSlot, IsTable}
use Rattle.node_heap.specs.Small.{CellOf, cell_owned_by}
use Rattle.node_heap.specs.declared.row.Head.{Head}
use Rattle.node_heap.proofs.Counts.{get_or-map_default}
use Rattle.node_heap.proofs.Stored.{one_if_some}
use Rattle.node_heap.proofs.Woven.{double, double-is, even, odd, at-even, at-odd, sum-woven, apart-even, apart-odd, set-even, set-odd, slot-inside}
use Rattle.node_heap.proofs.Parting.{count-apart, Covers-set, Covers-put, Covers-take}
use Rattle.node_heap.proofs.Written.{count-written, taken}

-- the sums of a node by its head
pub node-sums : (o : Option Node) (sums : List ℕ) → option_map sums_of (node_head o) ≡ Some sums → sums_or (node_head o) ≡ sums
node-sums None sums is = absurd cc
node-sums (Some s) sums is = let same : sums_of s.head ≡ sums = cc in same

-- nodes alone don't tell the type of the cells' values
module _ (T : Type 0) where
  some_node : (o : Option Node) → IsSome (node_slot {T = T} o) → IsSome o
  some_node None live = cc
  some_node (Some s) live = refl

  len-nodes : (nodes : List (Option Node)) → filled_count {T = T} (map node_slot nodes) ≡ count_by is_some nodes
  len-nodes [] = refl
  len-nodes (o ∷ os) = omega (arith, len-nodes os, at_one o, sum_by-cons one_if_some (node_slot {T = T} o) (map node_slot os), sum_by-cons one_if_some o os)
    where
      at_one : (o : Option Node) → one_if_some (node_slot {T = T} o) ≡ one_if_some o
      at_one None = refl
      at_one (Some s) = refl

  links_in_slot : (o : Option Node) → links_of (row_of_slot (node_slot {T = T} o)) ≡ node_links o
  links_in_slot None = refl
  links_in_slot (Some s) = refl

  head_in_slot : (o : Option Node) → head_of (row_of_slot (node_slot {T = T} o)) ≡ node_head o
  head_in_slot None = refl
  head_in_slot (Some s) = refl

  owners_in_slot : (o : Option Node) → owners_in (node_slot {T = T} o) ≡ node_owners o
  owners_in_slot None = refl
  owners_in_slot (Some s) = refl

  full_slot : (o : Option Node) (head : Head) (links : List ℕ) → node_head o ≡ Some head → links ≡ node_links o → row_of_slot (node_slot {T = T} o) ≡ Some (node head links)
  full_slot None head links is items = absurd cc
  full_slot (Some s) head links is items = let same : s.head ≡ head = cc in rw (same, items) refl

  no_value_in : (o : Option Node) → value_of (row_of_slot (node_slot {T = T} o)) ≡ None
  no_value_in None = refl
  no_value_in (Some s) = refl

module _ {T : Type 0} where
  some_cell : (o : Option (CellOf T)) → IsSome (cell_slot o) → IsSome o
  some_cell None live = cc
  some_cell (Some s) live = refl

  cell-no_node : (o : Option (CellOf T)) → is_node (row_of_slot (cell_slot o)) ≡ 0
  cell-no_node None = refl
  cell-no_node (Some s) = refl

  node_some : (o : Option (Slot T)) → is_node (row_of_slot o) ≡ 1 → IsSome o
  node_some None e = absurd (omega (arith, e))
  node_some (Some s) e = refl

  linked_some : (o : Option (Slot T)) (n : ℕ) → n < length (links_of (row_of_slot o)) → IsSome o
  linked_some None n below = absurd (omega (arith, below))
  linked_some (Some s) n below = refl

  no_head : (o : Option (CellOf T)) → head_of (row_of_slot (cell_slot o)) ≡ None
  no_head None = refl
  no_head (Some s) = refl

  no_links : (o : Option (CellOf T)) → links_of (row_of_slot (cell_slot o)) ≡ []
  no_links None = refl
  no_links (Some s) = refl

  len-cells : (cells : List (Option (CellOf T))) → filled_count (map cell_slot cells) ≡ count_by is_some cells
  len-cells [] = refl
  len-cells (o ∷ os) = omega (arith, len-cells os, at_one o, sum_by-cons one_if_some (cell_slot o) (map cell_slot os), sum_by-cons one_if_some o os)
    where
      at_one : (o : Option (CellOf T)) → one_if_some (cell_slot o) ≡ one_if_some o
      at_one None = refl
      at_one (Some s) = refl

  module _ (cells : List (Option (CellOf T))) (nodes : List (Option Node)) where
    cell-at : (i : ℕ) → slot_at (slots_of cells nodes) (double i) ≡ cell_slot (get_or cells i None)
    cell-at i = at-even (map cell_slot cells) (map node_slot nodes) i ∙ get_or-map_default cell_slot cells i None

    node-at : (i : ℕ) → slot_at (slots_of cells nodes) (suc (double i)) ≡ node_slot (get_or nodes i None)
    node-at i = at-odd (map cell_slot cells) (map node_slot nodes) i ∙ get_or-map_default node_slot nodes i None

    -- a write in one list is one in the slots of both
    pub set-cell : (place : ℕ) (o : Option (CellOf T)) → place % 2 ≡ 0 → IsSome (get_or cells (place / 2) None) → slots_of (set cells (place / 2) o) nodes ≡ set (slots_of cells nodes) place (cell_slot o)
    set-cell place o e live =
        ap (λ xs. woven xs (map node_slot nodes)) (map-set cell_slot cells (place / 2) o)
        ∙ set-even _ (map node_slot nodes) (place / 2) (cell_slot o) (omega (arith, slot-inside cells (place / 2) live, length-map cells cell_slot))
        ∙ ap (λ k. set (slots_of cells nodes) k (cell_slot o)) (sym (even place e))

    pub set-node : (place : ℕ) (o : Option Node) → place % 2 ≢ 0 → IsSome (get_or nodes (place / 2) None) → slots_of cells (set nodes (place / 2) o) ≡ set (slots_of cells nodes) place (node_slot o)
    set-node place o e live =
        ap (λ ys. woven (map cell_slot cells) ys) (map-set node_slot nodes (place / 2) o)
        ∙ set-odd (map cell_slot cells) _ (place / 2) (node_slot o) (omega (arith, slot-inside nodes (place / 2) live, length-map nodes (node_slot {T = T})))
        ∙ ap (λ k. set (slots_of cells nodes) k (node_slot o)) (sym (odd place e))

    pub len-slots : filled_count (slots_of cells nodes) ≡ count_by is_some cells + count_by is_some nodes
    len-slots = omega (arith, sum-woven one_if_some refl (map cell_slot cells) (map node_slot nodes), len-cells cells, len-nodes T nodes)

  cells-but : (cells cells' : List (Option (CellOf T))) (i : ℕ) → SameBut cells cells' i → SameBut (map cell_slot cells) (map cell_slot cells') i
  cells-but cells cells' i same k other = get_or-map_default cell_slot cells' k None ∙ ap cell_slot (same k other) ∙ sym (get_or-map_default cell_slot cells k None)

  nodes-but : (nodes nodes' : List (Option Node)) (i : ℕ) → SameBut nodes nodes' i → SameBut (map (node_slot {T = T}) nodes) (map node_slot nodes') i
  nodes-but nodes nodes' i same k other = get_or-map_default node_slot nodes' k None ∙ ap node_slot (same k other) ∙ sym (get_or-map_default node_slot nodes k None)

  -- a table that is seen as its cells and its nodes
  module _ (cells : List (Option (CellOf T))) (nodes : Nodes) {a : ℕ} {table : Table T} (view_is : table_of cells nodes a ≡ table) where
    cell-place : (place : ℕ) → place % 2 ≡ 0 → slot_at table.slots place ≡ cell_slot (get_or cells (place / 2) None)
    cell-place place e = rw (← view_is) (ap (slot_at (slots_of cells nodes.slots)) (even place e) ∙ cell-at cells nodes.slots (place / 2))

    node-place : (place : ℕ) → place % 2 ≢ 0 → slot_at table.slots place ≡ node_slot (get_or nodes.slots (place / 2) None)
    node-place place e = rw (← view_is) (ap (slot_at (slots_of cells nodes.slots)) (odd place e) ∙ node-at cells nodes.slots (place / 2))

    pub live-cell : (place : ℕ) → place % 2 ≡ 0 → IsSome (slot_at table.slots place) → IsSome (get_or cells (place / 2) None)
    live-cell place e live = some_cell _ (subst IsSome (cell-place place e) live)

    pub live-node : (place : ℕ) → place % 2 ≢ 0 → IsSome (slot_at table.slots place) → IsSome (get_or nodes.slots (place / 2) None)
    live-node place e live = some_node T _ (subst IsSome (node-place place e) live)

    -- a node stands at an odd place
    pub is_odd : (place : ℕ) → is_node (graph_of table.slots place) ≡ 1 → place % 2 ≢ 0
    is_odd place is e = absurd (omega (arith, is, ap (λ s. is_node (row_of_slot s)) (cell-place place e), cell-no_node (get_or cells (place / 2) None)))

    pub node-live : (place : ℕ) → is_node (graph_of table.slots place) ≡ 1 → IsSome (get_or nodes.slots (place / 2) None)
    node-live place is = live-node place (is_odd place is) (node_some (slot_at table.slots place) is)

    pub read-cell : (place : ℕ) (s : CellOf T) → place % 2 ≡ 0 → get_or cells (place / 2) None ≡ Some s → slot_at table.slots place ≡ cell_slot (Some s)
    read-cell place s e is = cell-place place e ∙ ap cell_slot is

    pub read-node : (place : ℕ) (s : Node) → place % 2 ≢ 0 → get_or nodes.slots (place / 2) None ≡ Some s → slot_at table.slots place ≡ node_slot (Some s)
    read-node place s e is = node-place place e ∙ ap node_slot is

    pub cell-head : (place : ℕ) → place % 2 ≡ 0 → None ≡ head_of (graph_of table.slots place)
    cell-head place e = sym (ap (λ o. head_of (row_of_slot o)) (cell-place place e) ∙ no_head (get_or cells (place / 2) None))

    pub cell-links : (place : ℕ) → place % 2 ≡ 0 → [] ≡ links_of (graph_of table.slots place)
    cell-links place e = sym (ap (λ o. links_of (row_of_slot o)) (cell-place place e) ∙ no_links (get_or cells (place / 2) None))

    pub node-value : (place : ℕ) → place % 2 ≢ 0 → None ≡ value_of (graph_of table.slots place)
    node-value place e = sym (ap (λ o. value_of (row_of_slot o)) (node-place place e) ∙ no_value_in T (get_or nodes.slots (place / 2) None))

    -- the owners at a place are written
    pub cell-owners : (place n : ℕ) (s : CellOf T) → place % 2 ≡ 0 → get_or cells (place / 2) None ≡ Some s
        → table_of (set cells (place / 2) (cell_owned_by n (get_or cells (place / 2) None))) nodes a ≡ record { slots = reown table.slots place n; spare_cells = table.spare_cells; spare_nodes = table.spare_nodes }
    cell-owners place n s e is =
        rw (read-cell place s e is, ← view_is, is) (ap (λ xs. record { slots = xs; spare_cells = a; spare_nodes = nodes.spares }) (set-cell cells nodes.slots place _ e (rw is refl)))

    pub node-owners : (place n : ℕ) (s : Node) → place % 2 ≢ 0 → get_or nodes.slots (place / 2) None ≡ Some s
        → table_of cells (record { slots = set nodes.slots (place / 2) (owned_by n (get_or nodes.slots (place / 2) None)); spares = nodes.spares }) a ≡ record { slots = reown table.slots place n; spare_cells = table.spare_cells; spare_nodes = table.spare_nodes }
    node-owners place n s e is =
        rw (read-node place s e is, ← view_is, is) (ap (λ xs. record { slots = xs; spare_cells = a; spare_nodes = nodes.spares }) (set-node cells nodes.slots place _ e (rw is refl)))

    pub node-links : (place : ℕ) → place % 2 ≢ 0 → links_of (graph_of table.slots place) ≡ node_links (node_at nodes.slots (place / 2))
    node-links place e = ap (λ o. links_of (row_of_slot o)) (node-place place e) ∙ links_in_slot T (node_at nodes.slots (place / 2))

    pub node-owned : (place : ℕ) → place % 2 ≢ 0 → owners_in (slot_at table.slots place) ≡ node_owners (node_at nodes.slots (place / 2))
    node-owned place e = ap owners_in (node-place place e) ∙ owners_in_slot T (node_at nodes.slots (place / 2))

    pub node-head : (place : ℕ) → place % 2 ≢ 0 → head_of (graph_of table.slots place) ≡ node_head (node_at nodes.slots (place / 2))
    node-head place e = ap (λ o. head_of (row_of_slot o)) (node-place place e) ∙ head_in_slot T (node_at nodes.slots (place / 2))

    -- a row with a head stands at an odd place
    pub headed-odd : (place : ℕ) (head : Head) → head_of (graph_of table.slots place) ≡ Some head → place % 2 ≢ 0
    headed-odd place head is e = let gone : None ≡ Some head = cell-head place e ∙ is in absurd cc

    pub node-graph : (place : ℕ) (head : Head) (links : List ℕ) → place % 2 ≢ 0 → node_head (node_at nodes.slots (place / 2)) ≡ Some head → links ≡ node_links (node_at nodes.slots (place / 2))
        → graph_of table.slots place ≡ Some (node head links)
    node-graph place head links e is items = ap row_of_slot (node-place place e) ∙ full_slot T (node_at nodes.slots (place / 2)) head links is items

    -- a row with a link stands at an odd place
    pub linked-odd : (place n : ℕ) → n < length (links_of (graph_of table.slots place)) → place % 2 ≢ 0
    linked-odd place n below e = omega (arith, below, ap length (cell-links place e))

    pub linked-live : (place n : ℕ) → n < length (links_of (graph_of table.slots place)) → IsSome (node_at nodes.slots (place / 2))
    linked-live place n below = live-node place (linked-odd place n below) (linked_some (slot_at table.slots place) n below)

    -- a node is changed, and keeps its owners
    pub rewrites : (new : Nodes) (place : ℕ) (f : Node → Node) (x : Node) → place % 2 ≢ 0 → node_at nodes.slots (place / 2) ≡ Some x → (f x).owners ≡ x.owners → Becomes nodes.slots new.slots (place / 2) f
        → Rewrites table.slots (slots_of cells new.slots) place (Some (f x).head) (f x).links
    rewrites new place f x e is owners b =
        let was = read-node place x e is in
        let now : slot_at (slots_of cells new.slots) place ≡ node_slot (Some (f x)) = ap (slot_at (slots_of cells new.slots)) (odd place e) ∙ node-at cells new.slots (place / 2) ∙ ap node_slot (b.here ∙ ap (option_map f) is) in
        record {
          new_head = ap (λ o. head_of (row_of_slot o)) now;
          new_links = ap (λ o. links_of (row_of_slot o)) now;
          is_same_kind = ap (λ o. is_node (row_of_slot o)) now ∙ sym (ap (λ o. is_node (row_of_slot o)) was);
          same_owners = ap owners_in now ∙ owners ∙ sym (ap owners_in was);
          live = rw now refl;
          others = λ k other. rw (← view_is) (apart-odd (map cell_slot cells) (map node_slot nodes.slots) (map node_slot new.slots) (place / 2) (nodes-but nodes.slots new.slots (place / 2) b.others) k (λ is. other (is ∙ sym (odd place e))));
        }

    -- a cell is gone, and is a spare
    pub takes-cell : (cells' : List (Option (CellOf T))) (place a' : ℕ) (x : CellOf T) → place % 2 ≡ 0 → get_or cells (place / 2) None ≡ Some x → cells' ≡ set cells (place / 2) None → a' ≡ a + 1 → TakesOut table (table_of cells' nodes a') place
    takes-cell cells' place a' x e is gone spares =
        let seen : slot_at (slots_of cells nodes.slots) place ≡ cell_slot (Some x) = ap (slot_at (slots_of cells nodes.slots)) (even place e) ∙ cell-at cells nodes.slots (place / 2) ∙ ap cell_slot is in
        rw (← view_is, gone, set-cell cells nodes.slots place None e (rw is refl)) (taken (slots_of cells nodes.slots) place a nodes.spares a' nodes.spares (record { owners = x.owners; row = cell x.value }) seen (omega (arith, spares)) (omega arith))

    -- a node is gone, and is a spare
    pub takes-node : (new : Nodes) (place : ℕ) (x : Node) → place % 2 ≢ 0 → node_at nodes.slots (place / 2) ≡ Some x → node_at new.slots (place / 2) ≡ None → SameBut nodes.slots new.slots (place / 2)
        → count_by is_some new.slots + 1 ≡ count_by is_some nodes.slots → new.spares ≡ nodes.spares + 1 → TakesOut table (table_of cells new a) place
    takes-node new place x e is gone others len spares =
        let was = ap row_of_slot (read-node place x e is) in
        let spare : table.spare_nodes ≡ nodes.spares = rw (← view_is) refl in
        let spare_cells : table.spare_cells ≡ a = rw (← view_is) refl in
        record {
          gone = ap (slot_at (slots_of cells new.slots)) (odd place e) ∙ node-at cells new.slots (place / 2) ∙ ap node_slot gone;
          others = λ k other. rw (← view_is) (apart-odd (map cell_slot cells) (map node_slot nodes.slots) (map node_slot new.slots) (place / 2) (nodes-but nodes.slots new.slots (place / 2) others) k (λ is. other (is ∙ sym (odd place e))));
          len = rw (← view_is) (omega (arith, len-slots cells nodes.slots, len-slots cells new.slots, len));
          spare_cells = omega (arith, spare_cells, ap is_cell was);
          spare_nodes = omega (arith, spare, spares, ap is_node was);
        }

    pub rewrites-room : (new : Nodes) (index : ℕ) (f : Node → Node) → Becomes nodes.slots new.slots index f → new.spares ≡ nodes.spares → KeepsRoom table (table_of cells new a)
    rewrites-room new index f b spares = rw (← view_is) (record {
      len = omega (arith, len-slots cells nodes.slots, len-slots cells new.slots, b.len);
      spare_cells = refl;
      spare_nodes = spares;
    })

  pub puts-cell : (cells cells' : List (Option (CellOf T))) (free free' : List ℕ) (nodes : List (Option Node)) (i : ℕ) (x : T) → FillsSlot cells free cells' free' i (record { owners = 1; value = x }) → i < row_limit → PutsIn (slots_of cells nodes) (slots_of cells' nodes) (2 * i) (cell x)
  puts-cell cells cells' free free' nodes i x fills low = record {
    was = ap (slot_at (slots_of cells nodes)) (sym (double-is i)) ∙ cell-at cells nodes i ∙ ap cell_slot fills.was;
    now = ap (slot_at (slots_of cells' nodes)) (sym (double-is i)) ∙ cell-at cells' nodes i ∙ ap cell_slot fills.now;
    others = λ k other. apart-even (map cell_slot cells) (map cell_slot cells') (map node_slot nodes) i (cells-but cells cells' i fills.others) k (λ s. other (s ∙ double-is i));
    low = omega (arith, low);
    len = omega (arith, count-apart cells cells' i fills.others, ap one_if_some fills.was, ap one_if_some fills.now, len-slots cells nodes, len-slots cells' nodes);
  }

  pub puts-node : (cells : List (Option (CellOf T))) (nodes nodes' : List (Option Node)) (i : ℕ) (s : Node) → s.owners ≡ 1 → get_or nodes i None ≡ None → get_or nodes' i None ≡ Some s → SameBut nodes nodes' i
      → i < 8 * row_limit → count_by is_some nodes' ≡ count_by is_some nodes + 1 → PutsIn (slots_of cells nodes) (slots_of cells nodes') (2 * i + 1) (node s.head s.links)
  puts-node cells nodes nodes' i s one was now others low len =
      let at : suc (double i) ≡ 2 * i + 1 = omega (arith, double-is i) in
      record {
        was = ap (slot_at (slots_of cells nodes)) (sym at) ∙ node-at cells nodes i ∙ ap node_slot was;
        now = ap (slot_at (slots_of cells nodes')) (sym at) ∙ node-at cells nodes' i ∙ ap node_slot now ∙ ap (λ n. Some (record { owners = n; row = node s.head s.links })) one;
        others = λ k other. apart-odd (map cell_slot cells) (map node_slot nodes) (map node_slot nodes') i (nodes-but nodes nodes' i others) k (λ e. other (e ∙ at));
        low = omega (arith, low);
        len = omega (arith, len, len-slots cells nodes, len-slots cells nodes');
      }

  module _ {cells : List (Option (CellOf T))} {free : List ℕ} {a b n room : ℕ} {nodes : Nodes} (t : IsTable cells free a b n room nodes) where
    -- a write in a slot that is in use
    pub IsTable-cell : (i : ℕ) (x y : CellOf T) → get_or cells i None ≡ Some x → IsTable (set cells i (Some y)) free a b n room nodes
    IsTable-cell i x y is = record {
      of_cells = Covers-set cells free a b room i x y is t.of_cells;
      within = omega (arith, t.within, count-written cells i x (Some y) is);
      few_cells = t.few_cells;
      few = omega (arith, t.few, count-written cells i x (Some y) is);
    }

    -- a cell is made of a spare
    pub IsTable-put : (cells' : List (Option (CellOf T))) (free' : List ℕ) (a' b' i : ℕ) (x : CellOf T) → a' ≡ a → b' ≡ b → 0 < n → FillsSlot cells free cells' free' i x → IsTable cells' free' a' b' (n - 1) room nodes
    IsTable-put cells' free' a' b' i x same_a same_b spare fills =
        let more = count-apart cells cells' i fills.others in
        record {
          of_cells = Covers-put cells cells' free free' a b a' b' room i x same_a same_b (omega (arith, t.within, spare)) fills t.of_cells;
          within = omega (arith, t.within, spare, more, ap one_if_some fills.was, ap one_if_some fills.now);
          few_cells = t.few_cells;
          few = omega (arith, t.few, spare, more, ap one_if_some fills.was, ap one_if_some fills.now);
        }

    -- a cell goes, and is a spare
    pub IsTable-gone : (cells' : List (Option (CellOf T))) (free' : List ℕ) (a' b' i : ℕ) (x : CellOf T) → a' ≡ a → b' ≡ b → get_or cells i None ≡ Some x → cells' ≡ set cells i None → IsFree cells' free' → IsTable cells' free' a' b' (n + 1) room nodes
    IsTable-gone cells' free' a' b' i x same_a same_b is gone listed =
        let fewer = count-written cells i x None is in
        record {
          of_cells = Covers-take cells cells' free free' a b a' b' room i same_a same_b gone listed t.of_cells;
          within = omega (arith, t.within, fewer, ap (count_by is_some) gone);
          few_cells = t.few_cells;
          few = omega (arith, t.few, fewer, ap (count_by is_some) gone);
        }

    -- so many nodes and spares in all as before
    pub IsTable-node : (nodes' : Nodes) → count_by is_some nodes'.slots + nodes'.spares ≡ count_by is_some nodes.slots + nodes.spares → IsTable cells free a b n room nodes'
    IsTable-node nodes' same = record {
      of_cells = t.of_cells;
      within = t.within;
      few_cells = t.few_cells;
      few = omega (arith, t.few, same);
    }
