use Rattle.std.proofs.Common.{arith, ◌≡◌, ◌≤◌, ℕ, List, length, take, refl, sym, subst, ap, ◌∙◌, Some, None}
use Rattle.node_heap.specs.Heap.{Heap, form_at, links_at}
use Rattle.node_heap.specs.InPlace.{child_at}
use Rattle.champ_chain.specs.Entry.{Entry, key_at, link_with}
use Rattle.champ_chain.specs.Chain.{AreChainRows, IsChain}
use Rattle.champ_chain.specs.KeySpot.{IsKeySpot}
use Rattle.champ_chain.proofs.CallerLemmas.{same-length, same-key, take-before, before-le, found-chain}
use Rattle.edit_trie.specs.Chains.{OwnsRows, PutsInChain}
use Rattle.edit_trie.proofs.SplitLemmas.{not-linked}
use Rattle.edit_trie.proofs.ChainLemmas.{read-child}
use Rattle.edit_trie.proofs.ChainEdits.{MeetsGap, one-at-most, few-smaller, held-cut, sole-made, node-made, index-made, room-made, held-made, apart-made, puts-in-chain}
use Rattle.edit_trie.proofs.chain.put_in_chain.Given.{Over}
use Rattle.edit_trie.proofs.chain.put_in_chain.Goals as goal
use Rattle.edit_trie.proofs.chain.put_in_chain.Goals.{After-key_spot_of-spot}

-- the spot of the key was found
module _ (g : Over) (c : After-key_spot_of-spot g) where
  abbrev key : g.row.T.Denot
  key = c.key_of.result.now

  abbrev old : Heap g.row.T.Denot
  old = c.args.heap.now

  key-is : {k : g.row.T.Denot} → key_at (form_at old) c.args.entry ≡ Some k → key ≡ k
  key-is {k} keyed = same-key (form_at old) c.args.entry c.args.entry key k refl c.key_of.ensures keyed

  module _ {E : List (Entry g.row.T.Denot)} (chain : IsChain g.T.Ord.cmp (form_at old) (child_at old c.args.first.row c.args.first.index) E) where
    spot-is : IsKeySpot g.T.Ord.cmp (form_at old) chain.entries key c.key_spot_of-spot.result
    spot-is =
        let at = read-child c.links.result.now (links_at old c.args.first.row) c.args.first.index c.index-links-first.result c.links.ensures.links c.requires.index c.index-links-first.is in
        c.key_spot_of-spot.ensures.spot chain.entries (subst (λ a. AreChainRows (form_at old) (Some a) chain.entries) (sym at) chain.rows) chain.rising

    spot-in : c.key_spot_of-spot.result.before ≤ length chain.entries
    spot-in = before-le g.T.Ord.cmp g.met.T.Ord.total (form_at old) chain.entries key c.key_spot_of-spot.result spot-is

    -- the rows before it were made one's own
    meets : {k : g.row.T.Denot} → key_at (form_at old) c.args.entry ≡ Some k → link_with g.T.Ord.cmp k E ≡ None → {now : Heap g.row.T.Denot} {r i : ℕ}
        → OwnsRows old now c.args.first.row c.args.first.index (take c.key_spot_of-spot.result.before chain.entries) r i → MeetsGap g.T.Ord.cmp old now c.args.first.row c.args.first.index r i E key c.args.entry
    meets keyed absent {now} {r} {i} owns = record {
      on = record {
        total = g.met.T.Ord.total;
        graph = c.requires.graph;
        inside = c.requires.index;
        chained = chain;
        parts = spot-is.parts;
        owns = subst (λ xs. OwnsRows old now c.args.first.row c.args.first.index xs r i) (take-before g.T.Ord.cmp g.met.T.Ord.total (form_at old) chain.entries key c.key_spot_of-spot.result spot-is) owns;
      };
      apart = c.requires.apart;
      held = c.requires.held;
      keyed = c.key_of.ensures;
      equal = not-linked spot-is.parts.equal (spot-is.found ∙ found-chain g.T.Ord.cmp g.met.T.Ord.total (form_at old) (child_at old c.args.first.row c.args.first.index) E key chain c.key_spot_of-spot.result spot-is ∙ ap (λ j. link_with g.T.Ord.cmp j E) (key-is keyed) ∙ absent);
    }

pub own_rows-slot-requires-clause-rows : goal.own_rows-slot-requires-clause-rows
own_rows-slot-requires-clause-rows g c =
    let chain = c.requires.chain.2 in
    (chain.entries, chain.rows, spot-in g (goal.at.own_rows-slot-requires-clause-rows g c).After-key_spot_of-spot chain)

pub own_rows-slot-requires-clause-spare : goal.own_rows-slot-requires-clause-spare
own_rows-slot-requires-clause-spare g c =
    let chain = c.requires.chain.2 in
    omega (arith, spot-in g (goal.at.own_rows-slot-requires-clause-spare g c).After-key_spot_of-spot chain, same-length chain.entries c.requires.chain.0 chain.same, c.requires.chain.5)

pub take_next-next-requires : goal.take_next-next-requires
take_next-next-requires g c =
    let chain = c.requires.chain.2 in
    let owns = c.own_rows-slot.ensures chain.entries chain.rows (spot-in g (goal.at.take_next-next-requires g c).After-key_spot_of-spot chain) in
    record { graph = owns.child.changes.trades.graph; sole = owns.sole; few = omega (arith, c.requires.few, owns.child.changes.trades.total) }

pub row_over-row-requires : goal.row_over-row-requires
row_over-row-requires g c =
    let at = (goal.at.row_over-row-requires g c).After-key_spot_of-spot in
    let chain = c.requires.chain.2 in
    let w = meets g at chain c.requires.chain.3 c.requires.chain.4 (c.own_rows-slot.ensures chain.entries chain.rows (spot-in g at chain)) in
    let change = w.on.owns.child.changes in
    let next = c.take_next-next.ensures in record {
      spare = omega (arith, few-smaller w, c.requires.chain.5, change.trades.balance.spare_nodes, change.trades.nodes, next.makes.spare_nodes);
      held = held-cut w next.link next.writes next.owners next.changes next.makes;
      few = omega (arith, c.requires.few, change.trades.total, next.changes.trades.total, one-at-most c.take_next-next.result);
    }

pub insert_link-requires : goal.insert_link-requires
insert_link-requires g c =
    let at = (goal.at.insert_link-requires g c).After-key_spot_of-spot in
    let chain = c.requires.chain.2 in
    let w = meets g at chain c.requires.chain.3 c.requires.chain.4 (c.own_rows-slot.ensures chain.entries chain.rows (spot-in g at chain)) in
    let next = c.take_next-next.ensures in
    let over = c.row_over-row.ensures in record {
      sole = sole-made w next.link next.writes next.owners next.changes next.makes over.row over.fresh over.owners over.builds;
      node = node-made w next.link next.writes next.owners next.changes next.makes over.row over.fresh over.owners over.builds;
      index = index-made w next.link next.writes next.owners next.changes next.makes over.row over.fresh over.owners over.builds;
      room = room-made w next.link next.writes next.owners next.changes next.makes over.row over.fresh over.owners over.builds;
      held = held-made w next.link next.writes next.owners next.changes next.makes over.row over.fresh over.owners over.builds;
      apart = apart-made w next.link next.writes next.owners next.changes next.makes over.row over.fresh over.owners over.builds;
    }

pub returns : goal.returns
returns g c = λ E k chain keyed absent.
    let at = (goal.at.returns g c).After-key_spot_of-spot in
    let w = meets g at chain keyed absent (c.own_rows-slot.ensures chain.entries chain.rows (spot-in g at chain)) in
    let next = c.take_next-next.ensures in
    let over = c.row_over-row.ensures in
    let put = c.insert_link.ensures in
    subst (λ j. PutsInChain g.T.Ord.cmp c.args.heap.now c.insert_link.new.self c.args.first.row c.args.first.index E j c.args.entry) (key-is g at keyed)
    (puts-in-chain w next.link next.writes next.owners next.changes next.makes over.row over.fresh over.owners over.builds put.writes put.changes put.makes)
