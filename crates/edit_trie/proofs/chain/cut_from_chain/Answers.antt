use Rattle.std.proofs.Common.{arith, ◌≡◌, ◌≢◌, ◌≤◌, ℕ, List, [], ◌∷◌, length, take, set, sym, subst, ap, ◌∙◌, Some, None}
use Rattle.node_heap.specs.Heap.{Heap, form_at, links_at}
use Rattle.node_heap.specs.InPlace.{child_at, Changes}
use Rattle.node_heap.proofs.CallerLemmas.{owned-live, Gains-Changes}
use Rattle.champ_chain.specs.Entry.{Entry, link_with}
use Rattle.champ_chain.specs.Chain.{AreChainRows, IsChain}
use Rattle.champ_chain.specs.KeySpot.{IsKeySpot}
use Rattle.champ_chain.proofs.CallerLemmas.{same-length, row-next, take-before, before-le, found-chain}
use Rattle.edit_trie.specs.Chains.{OwnsRows, CutsFromChain}
use Rattle.edit_trie.proofs.ChainLemmas.{read-child}
use Rattle.edit_trie.proofs.ChainEdits.{MeetsKey, there-is, next-cut, inside-cut, form-cut, cut-off-next, live-next, cuts-from-chain}
use Rattle.edit_trie.proofs.chain.cut_from_chain.Given.{Over}
use Rattle.edit_trie.proofs.chain.cut_from_chain.Goals as goal
use Rattle.edit_trie.proofs.chain.cut_from_chain.Goals.{After-key_spot_of-before}

-- the spot of the key was found
module _ (g : Over) (c : After-key_spot_of-before g) {E : List (Entry g.row.T.Denot)} (chain : IsChain g.T.Ord.cmp (form_at c.args.heap.now) (child_at c.args.heap.now c.args.first.row c.args.first.index) E) where
  abbrev key : g.row.T.Denot
  key = g.P.Probe.stands_for c.args.key.now

  abbrev old : Heap g.row.T.Denot
  old = c.args.heap.now

  spot-is : IsKeySpot g.T.Ord.cmp (form_at old) chain.entries key c.key_spot_of-before.result
  spot-is =
      let at = read-child c.links.result.now (links_at old c.args.first.row) c.args.first.index c.index-links-first.result c.links.ensures.links c.requires.index c.index-links-first.is in
      c.key_spot_of-before.ensures.spot chain.entries (subst (λ a. AreChainRows (form_at old) (Some a) chain.entries) (sym at) chain.rows) chain.rising

  spot-in : c.key_spot_of-before.result.before ≤ length chain.entries
  spot-in = before-le g.T.Ord.cmp g.met.T.Ord.total (form_at old) chain.entries key c.key_spot_of-before.result spot-is

  -- the rows before it were made one's own
  meets : link_with g.T.Ord.cmp key E ≢ None → {now : Heap g.row.T.Denot} {r i : ℕ} → OwnsRows old now c.args.first.row c.args.first.index (take c.key_spot_of-before.result.before chain.entries) r i → MeetsKey g.T.Ord.cmp old now c.args.first.row c.args.first.index r i E key
  meets known {now} {r} {i} owns =
      let has = there-is spot-is.parts.equal (link_with g.T.Ord.cmp key E) (spot-is.found ∙ found-chain g.T.Ord.cmp g.met.T.Ord.total (form_at old) (child_at old c.args.first.row c.args.first.index) E key chain c.key_spot_of-before.result spot-is) known in
      record {
        on = record {
          total = g.met.T.Ord.total;
          graph = c.requires.graph;
          inside = c.requires.index;
          chained = chain;
          parts = spot-is.parts;
          owns = subst (λ xs. OwnsRows old now c.args.first.row c.args.first.index xs r i) (take-before g.T.Ord.cmp g.met.T.Ord.total (form_at old) chain.entries key c.key_spot_of-before.result spot-is) owns;
        };
        entry = has.0;
        equal = has.1;
      }

pub own_rows-slot-requires-clause-rows : goal.own_rows-slot-requires-clause-rows
own_rows-slot-requires-clause-rows g c =
    let chain = c.requires.chain.1 in
    (chain.entries, chain.rows, spot-in g (goal.at.own_rows-slot-requires-clause-rows g c).After-key_spot_of-before chain)

pub own_rows-slot-requires-clause-spare : goal.own_rows-slot-requires-clause-spare
own_rows-slot-requires-clause-spare g c =
    let chain = c.requires.chain.1 in
    omega (arith, spot-in g (goal.at.own_rows-slot-requires-clause-spare g c).After-key_spot_of-before chain, same-length chain.entries c.requires.chain.0 chain.same, c.requires.chain.4)

pub links-requires-2 : goal.links-requires-2
links-requires-2 g c =
    let at = (goal.at.links-requires-2 g c).After-key_spot_of-before in
    let chain = c.requires.chain.1 in
    let owns = c.own_rows-slot.ensures chain.entries chain.rows (spot-in g at chain) in
    owned-live c.own_rows-slot.new.heap owns.child.changes.trades.graph c.own_rows-slot.result.row (omega (arith, owns.sole))

pub offset_bounds-links-slot : goal.offset_bounds-links-slot
offset_bounds-links-slot g c =
    let at = (goal.at.offset_bounds-links-slot g c).After-key_spot_of-before in
    let chain = c.requires.chain.1 in
    let w = meets g at chain c.requires.chain.2 (c.own_rows-slot.ensures chain.entries chain.rows (spot-in g at chain)) in
    omega (arith, inside-cut w, w.on.owns.child.changes.trades.graph.short c.own_rows-slot.result.row)

pub bounds-links-slot : goal.bounds-links-slot
bounds-links-slot g c =
    let at = (goal.at.bounds-links-slot g c).After-key_spot_of-before in
    let chain = c.requires.chain.1 in
    let w = meets g at chain c.requires.chain.2 (c.own_rows-slot.ensures chain.entries chain.rows (spot-in g at chain)) in
    omega (arith, inside-cut w, ap length c.links-2.ensures.links)

pub row_of-requires : goal.row_of-requires
row_of-requires g c =
    let at = (goal.at.row_of-requires g c).After-key_spot_of-before in
    let chain = c.requires.chain.1 in
    let now = c.own_rows-slot.new.heap in
    let w = meets g at chain c.requires.chain.2 (c.own_rows-slot.ensures chain.entries chain.rows (spot-in g at chain)) in
    let cut = read-child c.links-2.result.now (links_at now c.own_rows-slot.result.row) c.own_rows-slot.result.index c.index-links-slot.result c.links-2.ensures.links (inside-cut w) c.index-links-slot.is in
    (w.entry.link, next-cut w, ap (form_at now) cut ∙ form-cut w)

pub remove_link-requires : goal.remove_link-requires
remove_link-requires g c =
    let at = (goal.at.remove_link-requires g c).After-key_spot_of-before in
    let chain = c.requires.chain.1 in
    let w = meets g at chain c.requires.chain.2 (c.own_rows-slot.ensures chain.entries chain.rows (spot-in g at chain)) in
    record { sole = w.on.owns.sole; index = inside-cut w; few = omega (arith, c.requires.few, w.on.owns.child.changes.trades.total) }

pub skip_row-requires : goal.skip_row-requires
skip_row-requires g c =
    let at = (goal.at.skip_row-requires g c).After-key_spot_of-before in
    let chain = c.requires.chain.1 in
    let now = c.own_rows-slot.new.heap in
    let r : ℕ = c.own_rows-slot.result.row in
    let i : ℕ = c.own_rows-slot.result.index in
    let w = meets g at chain c.requires.chain.2 (c.own_rows-slot.ensures chain.entries chain.rows (spot-in g at chain)) in
    let cut = read-child c.links-2.result.now (links_at now r) i c.index-links-slot.result c.links-2.ensures.links (inside-cut w) c.index-links-slot.is in
    let next = row-next (form_at now) (child_at now r i) c.row_of.result.entry w.entry.link c.row_of.result.next (next-cut w) (ap (form_at now) (sym cut) ∙ c.row_of.ensures) (form-cut w) in record {
      graph = w.on.owns.child.changes.trades.graph;
      sole = w.on.owns.sole;
      index = inside-cut w;
      live = live-next w c.in-Some.next (sym next ∙ c.in-Some.is);
      apart = cut-off-next w c.in-Some.next (sym next ∙ c.in-Some.is);
      few = omega (arith, c.requires.few, w.on.owns.child.changes.trades.total);
    }

pub returns-in-None : goal.returns-in-None
returns-in-None g c = λ E chain known long.
    let at = (goal.at.returns-in-None g c).After-key_spot_of-before in
    let now = c.own_rows-slot.new.heap in
    let r : ℕ = c.own_rows-slot.result.row in
    let i : ℕ = c.own_rows-slot.result.index in
    let w = meets g at chain known (c.own_rows-slot.ensures chain.entries chain.rows (spot-in g at chain)) in
    let cut = read-child c.links-2.result.now (links_at now r) i c.index-links-slot.result c.links-2.ensures.links (inside-cut w) c.index-links-slot.is in
    let next : c.row_of.result.next ≡ next-cut w = row-next (form_at now) (child_at now r i) c.row_of.result.entry w.entry.link c.row_of.result.next (next-cut w) (ap (form_at now) (sym cut) ∙ c.row_of.ensures) (form-cut w) in
    let did = c.remove_link.ensures in
    subst (CutsFromChain g.T.Ord.cmp c.args.heap.now c.remove_link.new.self c.args.first.row c.args.first.index E (key g at chain)) (sym did.old)
    (cuts-from-chain w long c.remove_link.new.self did.writes.new_head (λ none. did.writes.new_links) (λ m is. let no : None ≡ Some m = sym c.in-None.is ∙ next ∙ is in cc) did.writes.others (subst (λ x. Changes r now c.remove_link.new.self [] (x ∷ []) 0 0) did.old did.changes) (Gains-Changes did.changes (λ u other live. did.writes.others u other) did.makes))

pub returns-in-Some : goal.returns-in-Some
returns-in-Some g c = λ E chain known long.
    let at = (goal.at.returns-in-Some g c).After-key_spot_of-before in
    let now = c.own_rows-slot.new.heap in
    let r : ℕ = c.own_rows-slot.result.row in
    let i : ℕ = c.own_rows-slot.result.index in
    let w = meets g at chain known (c.own_rows-slot.ensures chain.entries chain.rows (spot-in g at chain)) in
    let cut = read-child c.links-2.result.now (links_at now r) i c.index-links-slot.result c.links-2.ensures.links (inside-cut w) c.index-links-slot.is in
    let next : c.row_of.result.next ≡ next-cut w = row-next (form_at now) (child_at now r i) c.row_of.result.entry w.entry.link c.row_of.result.next (next-cut w) (ap (form_at now) (sym cut) ∙ c.row_of.ensures) (form-cut w) in
    let did = c.skip_row.ensures in
    subst (CutsFromChain g.T.Ord.cmp c.args.heap.now c.skip_row.new.heap c.args.first.row c.args.first.index E (key g at chain)) (sym did.old)
    (cuts-from-chain w long c.skip_row.new.heap did.writes.new_head (λ none. let no : Some c.in-Some.next ≡ None = sym c.in-Some.is ∙ next ∙ none in cc) (λ m is. let one : Some c.in-Some.next ≡ Some m = sym c.in-Some.is ∙ next ∙ is in let inside : c.in-Some.next ≡ m = cc in did.writes.new_links ∙ ap (λ k. set (links_at now r) i k) inside) did.writes.others (subst (λ x. Changes r now c.skip_row.new.heap [] (x ∷ []) 0 0) did.old did.changes) did.gains)
