use Rattle.std.proofs.Common.{◌≡◌, ◌≢◌, ℕ, ◌+◌, ◌<◌, List, [], ◌∷◌, length, get_or, set, refl, sym, ap, subst, ◌∙◌, arith, Option, Some, None, IsSome}
use Rattle.std.specs.Prelude.{slice_index}
use Rattle.std.proofs.lemmas.List.{length-set, get_or-set_same}
use Rattle.node_heap.specs.Links.{count, HasLink, Reaches, here, below}
use Rattle.node_heap.specs.Forms.{Row, cell, node, links_of, is_node}
use Rattle.node_heap.specs.Heap.{Heap, row_at, links_at, holds_at, owners_at, one_at, IsGraph}
use Rattle.node_heap.specs.Calls.{KeepsHeld, AddsOwner, Extends, Adds, Builds}
use Rattle.node_heap.specs.InPlace.{path_start, child_at, KeepsApart, Changes}
use Rattle.node_heap.proofs.Counts.{count-cons, test_same, test_other}
use Rattle.node_heap.proofs.Frames.{Extends-row, KeepsHeld-Extends, KeepsHeld-then, IsTree-KeepsHeld}
use Rattle.node_heap.proofs.BuildLemmas.{count-one, Builds-cell, Builds-spare_cells, Builds-spare_nodes}
use Rattle.node_heap.proofs.GraphLemmas.{IsGraph-acyclic}
use Rattle.node_heap.proofs.Ways.{Reaches-around}
use Rattle.node_heap.proofs.Edited.{count-at, above_live, Reaches-back, KeepsPaths-ways, KeepsPaths-owned, Changes-then, Changes-path, OwnsDown-child}
use Rattle.node_heap.proofs.EditLaws.{Changes-Builds, KeepsHeld-own}
use Rattle.container_tests.proofs.writes.write_third.Goals as goal

module _ {T : Type 0} where
  row-live : (r : Option (Row T)) → 0 < length (links_of r) → IsSome r
  row-live None some = absurd (omega (arith, some))
  row-live (Some x) some = refl

  row-node : (r : Option (Row T)) → 0 < length (links_of r) → is_node r ≡ 1
  row-node None some = absurd (omega (arith, some))
  row-node (Some (cell x)) some = absurd (omega (arith, some))
  row-node (Some (node head links)) some = refl

  -- a cell reaches itself alone
  cell-reaches : (r : Option (Row T)) (L : ℕ → List ℕ) (x : T) (a b : ℕ) → L a ≡ links_of r → r ≡ Some (cell x) → Reaches L a b → a ≡ b
  cell-reaches r L x a b links is (here l) = refl
  cell-reaches r L x a b links is (below l k m has rest) = absurd (omega (arith, has, ap (count k) links, ap (λ q. count k (links_of q)) is))

  unlike : (h : Heap T) (l k : ℕ) → IsSome (row_at h l) → row_at h k ≡ None → l ≢ k
  unlike h l k live gone same = absurd (let there = ap (row_at h) same ∙ gone in cc)

  -- the kept version does not reach the new root
  off-top : (h0 h1 : Heap T) (root top : ℕ) → Extends h0 h1 → IsSome (row_at h0 root) → row_at h0 top ≡ None → row_at h1 top ≡ row_at h0 root → ¬ Reaches (links_at h1) root top
  off-top h0 h1 root top more live fresh row way =
      let was = Reaches-back h0 h1 root top (more.kept root live) way in
      let gone = sym row ∙ more.kept root live top was ∙ fresh in
      absurd cc

  -- the third row of the kept version stays
  third-kept : (h0 h1 h2 : Heap T) (spent : ℕ → ℕ) (root top : ℕ) → Extends h0 h1 → row_at h0 top ≡ None → row_at h1 top ≡ row_at h0 root → KeepsApart top spent h1 h2 → spent root < holds_at h1 root
      → 0 < length (links_at h0 root) → 0 < length (links_at h0 (child_at h0 root 0)) → 0 < length (links_at h0 (child_at h0 (child_at h0 root 0) 0))
      → row_at h2 (child_at h0 (child_at h0 root 0) 0) ≡ row_at h0 (child_at h0 (child_at h0 root 0) 0)
  third-kept h0 h1 h2 spent root top more fresh row keeps some has1 has2 has3 =
      let child = child_at h0 root 0 in
      let third = child_at h0 child 0 in
      let first : HasLink (links_at h1) root child = rw (ap links_of (Extends-row more root (row-live (row_at h0 root) has1))) (count-at (links_at h0 root) 0 child has1 refl) in
      let second : HasLink (links_at h1) child third = rw (ap links_of (Extends-row more child (row-live (row_at h0 child) has2))) (count-at (links_at h0 child) 0 third has2 refl) in
      let off = off-top h0 h1 root top more (row-live (row_at h0 root) has1) fresh row in
      keeps.kept root third some (Reaches-around (links_at h1) top root third (below root child third first (below child third third second (here third))) off)
      ∙ Extends-row more third (row-live (row_at h0 third) has3)

  left-hold : (h0 h1 : Heap T) (root top : ℕ) → 1 < holds_at h0 root → top ≢ root → holds_at h1 root + count root (root ∷ []) ≡ holds_at h0 root + count root (top ∷ []) → 0 < holds_at h1 root
  left-hold h0 h1 root top two other holds = omega (arith, two, holds, count-cons root root [], count-cons root top [], test_same root root refl, test_other top root other)

  link-set : (h : Heap T) (p x : ℕ) (ks : List ℕ) → links_at h p ≡ set ks 0 x → 0 < length ks → HasLink (links_at h) p x
  link-set h p x ks links some = rw links (count-at (set ks 0 x) 0 x (omega (arith, some, length-set ks 0 x)) (get_or-set_same ks 0 x 0 some))

  -- what holds once the first two rows are owned
  record Second (h0 h1 h2 : Heap T) (root top middle : ℕ) : Type 0 where
    other : top ≢ root
    some : 0 < holds_at h1 root
    middle_row : row_at h2 middle ≡ row_at h0 (child_at h0 root 0)
    at_third : child_at h2 middle 0 ≡ child_at h0 (child_at h0 root 0) 0
    third_row : row_at h2 (child_at h0 (child_at h0 root 0) 0) ≡ row_at h0 (child_at h0 (child_at h0 root 0) 0)

  second : (h0 h1 h2 : Heap T) (root top middle : ℕ) → 1 < holds_at h0 root → 0 < length (links_at h0 root) → 0 < length (links_at h0 (child_at h0 root 0)) → 0 < length (links_at h0 (child_at h0 (child_at h0 root 0) 0))
      → (top ≡ root → owners_at h0 root ≡ 1) → row_at h1 top ≡ row_at h0 root → (top ≢ root → row_at h0 top ≡ None) → Builds h0 h1 (root ∷ []) (top ∷ []) 0 1
      → row_at h2 middle ≡ row_at h1 (child_at h1 top 0) → KeepsApart top (λ l. count l []) h1 h2 → Second h0 h1 h2 root top middle
  second h0 h1 h2 root top middle two has1 has2 has3 same row fresh builds row2 keeps =
      let child = child_at h0 root 0 in
      let other : top ≢ root = λ e. absurd (omega (arith, same e, two)) in
      let some = left-hold h0 h1 root top two other (builds.holds root) in
      let middle_row : row_at h2 middle ≡ row_at h0 child = row2 ∙ ap (λ r. row_at h1 (slice_index (links_of r) 0)) row ∙ Extends-row builds.extends child (row-live (row_at h0 child) has2) in
      record {
        other = other;
        some = some;
        middle_row = middle_row;
        at_third = ap (λ r. slice_index (links_of r) 0) middle_row;
        third_row = third-kept h0 h1 h2 _ root top builds.extends (fresh other) row keeps some has1 has2 has3;
      }

  -- what holds once the last row is owned and the cell is there
  record Third (h0 h3 : Heap T) (root last cell : ℕ) : Type 0 where
    last_row : row_at h3 last ≡ row_at h0 (child_at h0 (child_at h0 root 0) 0)
    last_live : IsSome (row_at h3 last)
    last_old : last ≢ cell

  last-kept : (h0 h1 h2 h3 h4 : Heap T) (root top middle last new : ℕ) {row : Row T} → Second h0 h1 h2 root top middle → 0 < length (links_at h0 (child_at h0 (child_at h0 root 0) 0)) → row_at h3 last ≡ row_at h2 (child_at h2 middle 0) → Adds h3 h4 new row → Third h0 h3 root last new
  last-kept h0 h1 h2 h3 h4 root top middle last new two has3 row3 adds =
      let third = child_at h0 (child_at h0 root 0) 0 in
      let last_row : row_at h3 last ≡ row_at h0 third = row3 ∙ ap (row_at h2) two.at_third ∙ two.third_row in
      let last_live : IsSome (row_at h3 last) = rw last_row (row-live (row_at h0 third) has3) in
      record { last_row = last_row; last_live = last_live; last_old = unlike h3 last new last_live adds.fresh }

  added-owners : (h h' : Heap T) (new : ℕ) → AddsOwner h h' new → row_at h new ≡ None → (k : ℕ) → IsSome (row_at h k) → owners_at h' k ≡ owners_at h k
  added-owners h h' new owners fresh k live = omega (arith, owners k, test_other k new (unlike h k new live fresh))

  -- the calls below the new root are one change there
  third-edit : {h1 h2 h3 h4 h5 : Heap T} {top middle last new old : ℕ} {x : T} → 0 < length (links_at h1 top) → 0 < length (links_at h2 middle) → IsSome (row_at h3 last)
      → links_at h2 top ≡ set (links_at h1 top) 0 middle → owners_at h2 middle ≡ 1 → Changes top h1 h2 [] [] 0 1
      → links_at h3 middle ≡ set (links_at h2 middle) 0 last → owners_at h3 last ≡ 1 → Changes middle h2 h3 [] [] 0 1
      → Adds h3 h4 new (cell x) → AddsOwner h3 h4 new → Builds h3 h4 [] (new ∷ []) 1 0 → Changes last h4 h5 (new ∷ []) (old ∷ []) 0 0 → Changes top h1 h5 [] (old ∷ []) 1 2
  third-edit {h1} {h2} {h3} {h4} {h5} {top} {middle} {last} {new} some1 some2 live links2 sole2 edit2 links3 sole3 edit3 adds owners builds edit5 =
      let down2 = OwnsDown-child h2 top top middle 0 (links_at h1 top) path_start links2 some1 sole2 in
      let down3 = OwnsDown-child h3 top middle last 0 (links_at h2 middle) (KeepsPaths-owned edit3.paths top middle (here middle) down2) links3 some2 sole3 in
      let edit4 = Changes-Builds last edit3.trades.graph (λ k up one. added-owners h3 h4 new owners adds.fresh k (above_live h3 k last up live) ∙ one) builds in
      let down4 = KeepsPaths-owned edit4.paths top last (here last) down3 in
      Changes-then (Changes-then (Changes-then edit2 (Changes-path down2 edit3)) (Changes-path down3 edit4)) (Changes-path down4 edit5)

  -- what is kept of the old heap where the copy of a root is edited
  keeps-all : (h0 h1 h5 : Heap T) (root top old : ℕ) → IsGraph h0 → top ≢ root → Builds h0 h1 (root ∷ []) (top ∷ []) 0 1 → owners_at h1 top ≡ 1 → Changes top h1 h5 [] (old ∷ []) 1 2 → KeepsHeld (one_at root) h0 h5
  keeps-all h0 h1 h5 root top old graph other builds sole edit =
      KeepsHeld-then (one_at root) (KeepsHeld-Extends (one_at root) h0 h1 graph builds.extends (λ l. omega (arith, builds.holds l, count-one l root)))
      (KeepsHeld-own top (omega (arith, builds.holds top, count-one top root, count-one top top, test_same top top refl, test_other top root other)) sole edit)
      (λ l some. some) (λ l some. omega (arith, some, builds.holds l, count-one l root)) (λ l. omega (arith, builds.holds l, count-one l root, edit.trades.holds l))

pub own_child-middle-requires-clause-node : goal.own_child-middle-requires-clause-node
own_child-middle-requires-clause-node g c =
    let own = c.own-top.ensures in
    let h0 = c.args.heap.now in
    let root = c.args.root in
    let child = child_at h0 root 0 in
    let at_child : child_at c.own-top.new.self c.own-top.result 0 ≡ child = ap (λ r. slice_index (links_of r) 0) own.row in
    let child_row = Extends-row own.builds.extends child (row-live (row_at h0 child) c.requires.middle) in
    rw (at_child, child_row) (row-node (row_at h0 child) c.requires.middle)

pub own_child-last-requires-clause-index : goal.own_child-last-requires-clause-index
own_child-last-requires-clause-index g c =
    let two = second c.args.heap.now c.own-top.new.self c.own_child-middle.new.self c.args.root c.own-top.result c.own_child-middle.result c.requires.version c.requires.top c.requires.middle c.requires.last c.own-top.ensures.same.0 c.own-top.ensures.row c.own-top.ensures.fresh c.own-top.ensures.builds c.own_child-middle.ensures.row c.own_child-middle.ensures.changes.apart in
    rw two.middle_row c.requires.middle

pub own_child-last-requires-clause-node : goal.own_child-last-requires-clause-node
own_child-last-requires-clause-node g c =
    let two = second c.args.heap.now c.own-top.new.self c.own_child-middle.new.self c.args.root c.own-top.result c.own_child-middle.result c.requires.version c.requires.top c.requires.middle c.requires.last c.own-top.ensures.same.0 c.own-top.ensures.row c.own-top.ensures.fresh c.own-top.ensures.builds c.own_child-middle.ensures.row c.own_child-middle.ensures.changes.apart in
    rw (two.at_third, two.third_row) (row-node (row_at c.args.heap.now (child_at c.args.heap.now (child_at c.args.heap.now c.args.root 0) 0)) c.requires.last)

pub replace-old-requires-clause-sole : goal.replace-old-requires-clause-sole
replace-old-requires-clause-sole g c =
    let two = second c.args.heap.now c.own-top.new.self c.own_child-middle.new.self c.args.root c.own-top.result c.own_child-middle.result c.requires.version c.requires.top c.requires.middle c.requires.last c.own-top.ensures.same.0 c.own-top.ensures.row c.own-top.ensures.fresh c.own-top.ensures.builds c.own_child-middle.ensures.row c.own_child-middle.ensures.changes.apart in
    let three = last-kept c.args.heap.now c.own-top.new.self c.own_child-middle.new.self c.own_child-last.new.self c.cell-cell.new.self c.args.root c.own-top.result c.own_child-middle.result c.own_child-last.result c.cell-cell.result two c.requires.last c.own_child-last.ensures.row c.cell-cell.ensures.adds in
    let last = c.own_child-last.result in
    omega (arith, c.cell-cell.ensures.owners last, c.own_child-last.ensures.sole, test_other last c.cell-cell.result three.last_old)

pub replace-old-requires-clause-index : goal.replace-old-requires-clause-index
replace-old-requires-clause-index g c =
    let two = second c.args.heap.now c.own-top.new.self c.own_child-middle.new.self c.args.root c.own-top.result c.own_child-middle.result c.requires.version c.requires.top c.requires.middle c.requires.last c.own-top.ensures.same.0 c.own-top.ensures.row c.own-top.ensures.fresh c.own-top.ensures.builds c.own_child-middle.ensures.row c.own_child-middle.ensures.changes.apart in
    let three = last-kept c.args.heap.now c.own-top.new.self c.own_child-middle.new.self c.own_child-last.new.self c.cell-cell.new.self c.args.root c.own-top.result c.own_child-middle.result c.own_child-last.result c.cell-cell.result two c.requires.last c.own_child-last.ensures.row c.cell-cell.ensures.adds in
    let last = c.own_child-last.result in
    rw (c.cell-cell.ensures.adds.others last three.last_old, three.last_row) c.requires.last

pub replace-old-requires-clause-held : goal.replace-old-requires-clause-held
replace-old-requires-clause-held g c =
    let cell = c.cell-cell.result in
    omega (arith, c.cell-cell.ensures.adds.holds cell, test_same cell cell refl)

pub replace-old-requires-clause-apart : goal.replace-old-requires-clause-apart
replace-old-requires-clause-apart g c way =
    let two = second c.args.heap.now c.own-top.new.self c.own_child-middle.new.self c.args.root c.own-top.result c.own_child-middle.result c.requires.version c.requires.top c.requires.middle c.requires.last c.own-top.ensures.same.0 c.own-top.ensures.row c.own-top.ensures.fresh c.own-top.ensures.builds c.own_child-middle.ensures.row c.own_child-middle.ensures.changes.apart in
    let three = last-kept c.args.heap.now c.own-top.new.self c.own_child-middle.new.self c.own_child-last.new.self c.cell-cell.new.self c.args.root c.own-top.result c.own_child-middle.result c.own_child-last.result c.cell-cell.result two c.requires.last c.own_child-last.ensures.row c.cell-cell.ensures.adds in
    let last = c.own_child-last.result in
    three.last_old (sym (cell-reaches _ (links_at c.cell-cell.new.self) _ c.cell-cell.result last refl c.cell-cell.ensures.adds.here way))

pub returns : goal.returns
returns g c =
    let two = second c.args.heap.now c.own-top.new.self c.own_child-middle.new.self c.args.root c.own-top.result c.own_child-middle.result c.requires.version c.requires.top c.requires.middle c.requires.last c.own-top.ensures.same.0 c.own-top.ensures.row c.own-top.ensures.fresh c.own-top.ensures.builds c.own_child-middle.ensures.row c.own_child-middle.ensures.changes.apart in
    let three = last-kept c.args.heap.now c.own-top.new.self c.own_child-middle.new.self c.own_child-last.new.self c.cell-cell.new.self c.args.root c.own-top.result c.own_child-middle.result c.own_child-last.result c.cell-cell.result two c.requires.last c.own_child-last.ensures.row c.cell-cell.ensures.adds in
    let last = c.own_child-last.result in
    let top = c.own-top.result in
    let h1 = c.own-top.new.self in
    let h2 = c.own_child-middle.new.self in
    let middle = c.own_child-middle.result in
    let cell = c.cell-cell.result in
    let made = c.cell-cell.ensures in
    let wrote = c.replace-old.ensures.writes in
    let top_links : 0 < length (links_at h1 top) = rw c.own-top.ensures.row c.requires.top in
    let middle_links : 0 < length (links_at h2 middle) = rw two.middle_row c.requires.middle in
    let edit = third-edit top_links middle_links three.last_live c.own_child-middle.ensures.parent_links c.own_child-middle.ensures.sole c.own_child-middle.ensures.changes
    c.own_child-last.ensures.parent_links c.own_child-last.ensures.sole c.own_child-last.ensures.changes made.adds made.owners (Builds-cell made.adds made.makes made.count made.graph made.extends) c.replace-old.ensures.changes in
    let builds = c.own-top.ensures.builds in
    let keeps = keeps-all c.args.heap.now h1 _ c.args.root top _ c.rows_form_a_graph.ensures two.other builds c.own-top.ensures.sole edit in
    let root = c.args.root in
    let old = c.replace-old.result in
    let last_links : 0 < length (links_at c.cell-cell.new.self last) = rw (made.adds.others last three.last_old, three.last_row) c.requires.last in
    let top_link = link-set h2 top middle (links_at h1 top) c.own_child-middle.ensures.parent_links top_links in
    let middle_link = link-set c.own_child-last.new.self middle last (links_at h2 middle) c.own_child-last.ensures.parent_links middle_links in
    let way = KeepsPaths-ways c.own_child-last.ensures.changes.paths top middle (here middle) (below top middle middle top_link (here middle)) in
    let top_middle : top ≢ middle = λ e. IsGraph-acyclic h2 c.own_child-middle.ensures.changes.trades.graph top middle top_link (subst (Reaches (links_at h2) middle) (sym e) (here middle)) in
    let middle_last : middle ≢ last = λ e. IsGraph-acyclic c.own_child-last.new.self c.own_child-last.ensures.changes.trades.graph middle last middle_link (subst (Reaches (links_at c.own_child-last.new.self) last) (sym e) (here last)) in
    let top_last : top ≢ last = λ e. IsGraph-acyclic c.own_child-last.new.self c.own_child-last.ensures.changes.trades.graph middle last middle_link (subst (λ j. Reaches (links_at c.own_child-last.new.self) j middle) e way) in
    let top_live = c.own_child-last.ensures.changes.paths.live top (below top middle middle top_link (here middle)) (c.own_child-middle.ensures.changes.paths.live top (here top) (row-live (row_at h1 top) top_links)) in
    let middle_live = c.own_child-last.ensures.changes.paths.live middle (here middle) (row-live (row_at h2 middle) middle_links) in
    let at_top = wrote.others top top_last ∙ made.adds.others top (unlike c.own_child-last.new.self top cell top_live made.adds.fresh) ∙ c.own_child-last.ensures.others top top_middle top_last in
    let at_middle = wrote.others middle middle_last ∙ made.adds.others middle (unlike c.own_child-last.new.self middle cell middle_live made.adds.fresh) in
    let first : child_at c.replace-old.new.self top 0 ≡ middle = ap (λ ks. get_or ks 0 0) (ap links_of at_top ∙ c.own_child-middle.ensures.parent_links) ∙ get_or-set_same (links_at h1 top) 0 middle 0 top_links in
    let second : child_at c.replace-old.new.self middle 0 ≡ last = ap (λ ks. get_or ks 0 0) (ap links_of at_middle ∙ c.own_child-last.ensures.parent_links) ∙ get_or-set_same (links_at h2 middle) 0 last 0 middle_links in
    let third_is : child_at c.replace-old.new.self last 0 ≡ cell = ap (λ ks. get_or ks 0 0) wrote.new_links ∙ get_or-set_same (links_at c.cell-cell.new.self last) 0 cell 0 last_links in
    record {
      keeps = keeps;
      stays = λ t tree. IsTree-KeepsHeld keeps (omega (arith, c.requires.version, test_same root root refl)) tree;
      written = rw (first, second, third_is, wrote.others cell (λ e. three.last_old (sym e)), made.adds.here) refl;
      old = c.replace-old.ensures.old ∙ ap (λ r. slice_index (links_of r) 0) (made.adds.others last three.last_old ∙ three.last_row);
      holds = λ k. omega (arith, builds.holds k, edit.trades.holds k, count-one k root, count-one k top, count-one k old);
      few_cells = omega (arith, Builds-spare_cells builds, edit.trades.balance.spare_cells, edit.trades.cells);
      few_nodes = omega (arith, Builds-spare_nodes builds, edit.trades.balance.spare_nodes, edit.trades.nodes);
    }
