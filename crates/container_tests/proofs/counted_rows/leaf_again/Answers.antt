use Rattle.std.proofs.Common.{ℕ, ◌<◌, ◌+◌, refl, ap, arith}
use Rattle.std.specs.Prelude.{option_map}
use Rattle.node_heap.specs.Forms.{form_of, is_cell_tree, are_none, are_then}
use Rattle.node_heap.specs.Heap.{holds_at, one_at}
use Rattle.node_heap.proofs.Counts.{test_same}
use Rattle.node_heap.proofs.Frames.{Extends-trans, Extends-kept, KeepsHeld-trans, Makes-trans, Balances-trans, Balances-Makes, Balances-Releases, Answered-Unchanged, IsTree-Extends, IsTree-Adds, apart-held}
use Rattle.container_tests.proofs.counted_rows.leaf_again.Goals as goal

pub node-pair-requires-clause-held : goal.node-pair-requires-clause-held
node-pair-requires-clause-held g c k =
    omega (arith, c.cell-first.ensures.adds.holds k, c.cell-second.ensures.adds.holds k, c.node-both.ensures.adds.holds k, c.cell-third.ensures.adds.holds k, c.hold.ensures.holds k)

pub release-requires : goal.release-requires
release-requires g c =
    let pair = c.node-pair.result in
    omega (arith, c.node-pair.ensures.adds.holds pair, c.node-pair.ensures.adds.apart, test_same pair pair refl)

pub hold-requires-2-clause-live : goal.hold-requires-2-clause-live
hold-requires-2-clause-live g c =
    let both = c.node-both.result in
    c.release.ensures.graph.held both
    (omega (arith, c.cell-first.ensures.adds.holds both, c.cell-second.ensures.adds.holds both, c.node-both.ensures.adds.holds both, c.cell-third.ensures.adds.holds both, c.hold.ensures.holds both, c.node-pair.ensures.adds.holds both, c.release.ensures.releases.holds both, test_same both both refl))

pub release-requires-2 : goal.release-requires-2
release-requires-2 g c = let both = c.node-both.result in omega (arith, c.hold-2.ensures.holds both, test_same both both refl)

pub returns-clause-answered : goal.returns-clause-answered
returns-clause-answered g c =
    let first = c.cell-first.ensures in
    let second = c.cell-second.ensures in
    let both = c.node-both.ensures in
    let third = c.cell-third.ensures in
    let pair = c.node-pair.ensures in
    let rows = Extends-trans first.extends (Extends-trans second.extends (Extends-trans both.extends (Extends-trans third.extends (Extends-trans c.hold.ensures.extends pair.extends)))) in
    let made = Makes-trans first.makes (Makes-trans second.makes (Makes-trans both.makes (Makes-trans third.makes (Makes-trans c.hold.ensures.makes pair.makes)))) in
    let given_up = KeepsHeld-trans c.release.ensures.keeps (KeepsHeld-trans c.hold-2.ensures.keeps c.release-2.ensures.keeps) in
    let left : (l : ℕ) → 0 < holds_at c.reserve.new.self l → one_at c.node-pair.result l + (0 + one_at c.node-both.result l) < holds_at c.node-pair.new.self l =
    λ l held.
    let no_both = apart-held c.cell-second.new.self c.node-both.result l both.adds.unheld (omega (arith, held, first.adds.holds l, second.adds.holds l)) in
    let no_pair = apart-held c.hold.new.self c.node-pair.result l pair.adds.unheld (omega (arith, held, first.adds.holds l, second.adds.holds l, both.adds.holds l, third.adds.holds l, c.hold.ensures.holds l)) in
    omega (arith, held, no_both, no_pair, first.adds.holds l, second.adds.holds l, both.adds.holds l, third.adds.holds l, c.hold.ensures.holds l, pair.adds.holds l) in
    Answered-Unchanged c.in_ok-reserve.ensures.rest
    (record {
      extends = Extends-kept c.in_ok-reserve.ensures.rest.graph rows given_up left;
      graph = c.release-2.ensures.graph;
      holds = λ k. omega (arith, first.adds.holds k, second.adds.holds k, both.adds.holds k, third.adds.holds k, c.hold.ensures.holds k, pair.adds.holds k, c.release.ensures.releases.holds k, c.hold-2.ensures.holds k, c.release-2.ensures.releases.holds k);
      count = omega (arith, first.count, second.count, both.count, third.count, c.hold.ensures.count, pair.count, c.release.ensures.releases.count, c.hold-2.ensures.count, c.release-2.ensures.releases.count);
      cells = omega (arith, made.cells, c.release.ensures.releases.fewer_cells, c.hold-2.ensures.makes.cells, c.release-2.ensures.releases.fewer_cells);
      nodes = omega (arith, made.nodes, c.release.ensures.releases.fewer_nodes, c.hold-2.ensures.makes.nodes, c.release-2.ensures.releases.fewer_nodes);
      balance = Balances-trans (Balances-Makes made) (Balances-trans (Balances-Releases c.release.ensures.releases) (Balances-trans (Balances-Makes c.hold-2.ensures.makes) (Balances-Releases c.release-2.ensures.releases)));
    })

pub returns-clause-tree : goal.returns-clause-tree
returns-clause-tree g c =
    let link = c.node-both.result in
    let first = IsTree-Extends c.cell-second.ensures.extends (is_cell_tree _ _ (ap (option_map form_of) c.cell-first.ensures.adds.here)) in
    let second = is_cell_tree _ _ (ap (option_map form_of) c.cell-second.ensures.adds.here) in
    let made = IsTree-Adds c.node-both.ensures.extends c.node-both.ensures.adds (are_then _ _ _ _ first (are_then _ _ _ _ second are_none)) in
    let later = IsTree-Extends c.cell-third.ensures.extends made in
    let again = IsTree-Extends c.hold.ensures.extends later in
    let above = IsTree-Extends c.node-pair.ensures.extends again in
    let held : 0 < holds_at c.release.new.self link =
    omega (arith, c.cell-first.ensures.adds.holds link, c.cell-second.ensures.adds.holds link, c.node-both.ensures.adds.holds link, c.cell-third.ensures.adds.holds link, c.hold.ensures.holds link, c.node-pair.ensures.adds.holds link, c.release.ensures.releases.holds link, test_same link link refl) in
    c.release-2.ensures.trees link _ (omega (arith, held, c.hold-2.ensures.holds link, c.release-2.ensures.releases.holds link)) (IsTree-Extends c.hold-2.ensures.extends (c.release.ensures.trees link _ held above))
