use Rattle.std.proofs.Common.{arith, ◌≡◌, ◌+◌, ◌≤◌, ℕ, List, [], ◌∷◌, ◌++◌, length, take, ap, sym, subst, ◌∙◌, Some}
use Rattle.std.proofs.lemmas.List.{length-take-le}
use Rattle.node_heap.specs.Forms.{is_node}
use Rattle.node_heap.specs.Heap.{Heap, form_at, row_at, links_at}
use Rattle.node_heap.specs.InPlace.{child_at}
use Rattle.champ_chain.specs.Chain.{AreChainRows, IsChain}
use Rattle.champ_chain.specs.Entry.{Entry}
use Rattle.champ_chain.specs.KeySpot.{IsKeySpot}
use Rattle.node_heap.proofs.CallerLemmas.{owns-child}
use Rattle.edit_trie.specs.Chains.{OwnsRows}
use Rattle.edit_trie.specs.Walk.{HasPair}
use Rattle.edit_trie.proofs.ChainLemmas.{read-child}
use Rattle.edit_trie.proofs.InChainLemmas.{MeetsPair, take-found, pair-inside, pair-child, pair-now, owns-in-chain}
use Rattle.edit_trie.proofs.chain.own_in_chain.Given.{Over}
use Rattle.edit_trie.proofs.chain.own_in_chain.Goals as goal
use Rattle.edit_trie.proofs.chain.own_in_chain.Goals.{After-key_spot_of-before}

-- the key's spot was found
module _ (g : Over) (c : After-key_spot_of-before g) where
  abbrev key : g.row.T.Denot
  key = g.P.Probe.stands_for c.args.key.now

  abbrev old : Heap g.row.T.Denot
  old = c.args.heap.now

  abbrev upto : ℕ
  upto = c.key_spot_of-before.result.before + 1

  module _ {E : List (Entry g.row.T.Denot)} (chain : IsChain g.T.Ord.cmp (form_at old) (child_at old c.args.first.row c.args.first.index) E) {x : Entry g.row.T.Denot} (pair : HasPair g.T.Ord.cmp old E key x) where
    spot : IsKeySpot g.T.Ord.cmp (form_at old) chain.entries key c.key_spot_of-before.result
    spot =
        let link = read-child c.links.result.now (links_at old c.args.first.row) c.args.first.index c.index-links-first.result c.links.ensures.links c.requires.index c.index-links-first.is in
        c.key_spot_of-before.ensures.spot chain.entries (subst (λ l. AreChainRows (form_at old) (Some l) chain.entries) (sym link) chain.rows) chain.rising

    taken : (take upto chain.entries ≡ spot.parts.smaller ++ x ∷ []) × (upto ≤ length chain.entries) × (length chain.entries ≡ length E)
    taken = take-found g.T.Ord.cmp g.met.T.Ord.total (form_at old) (child_at old c.args.first.row c.args.first.index) E key x chain c.key_spot_of-before.result.before spot.parts spot.before pair.found

    -- the rows up to its own were made one's own
    meets : {now : Heap g.row.T.Denot} {r i : ℕ} → OwnsRows old now c.args.first.row c.args.first.index (take upto chain.entries) r i → MeetsPair g.T.Ord.cmp old now c.args.first.row c.args.first.index r i E key x
    meets {now} {r} {i} owns =
        record { total = g.met.T.Ord.total; inside = c.requires.index; chained = chain; parts = spot.parts; pair = pair; owns = subst (λ es. OwnsRows old now c.args.first.row c.args.first.index es r i) taken.0 owns }

pub overflow_add-before : goal.overflow_add-before
overflow_add-before g c =
    let is = taken g (goal.at.overflow_add-before g c).After-key_spot_of-before c.requires.chain.2 c.requires.chain.3 in
    omega (arith, is.1, is.2, c.requires.chain.4, c.requires.graph.few_rows)

pub own_rows-own-requires-clause-rows : goal.own_rows-own-requires-clause-rows
own_rows-own-requires-clause-rows g c =
    let chain = c.requires.chain.2 in
    (chain.entries, chain.rows, (taken g (goal.at.own_rows-own-requires-clause-rows g c).After-key_spot_of-before chain c.requires.chain.3).1)

pub own_rows-own-requires-clause-spare : goal.own_rows-own-requires-clause-spare
own_rows-own-requires-clause-spare g c =
    let is = taken g (goal.at.own_rows-own-requires-clause-spare g c).After-key_spot_of-before c.requires.chain.2 c.requires.chain.3 in
    omega (arith, is.1, is.2, c.requires.chain.4)

pub own_child-requires : goal.own_child-requires
own_child-requires g c =
    let at = (goal.at.own_child-requires g c).After-key_spot_of-before in
    let chain = c.requires.chain.2 in
    let pair = c.requires.chain.3 in
    let is = taken g at chain pair in
    let w = meets g at chain pair (c.own_rows-own.ensures chain.entries chain.rows is.1) in
    let trades = (c.own_rows-own.ensures chain.entries chain.rows is.1).child.changes.trades in record {
      sole = w.owns.sole;
      index = pair-inside w;
      node = ap (λ y. is_node (row_at c.own_rows-own.new.heap y)) (pair-child w) ∙ ap is_node (pair-now w c.requires.keyless) ∙ pair.is_pair;
      spare = omega (arith, trades.balance.spare_nodes, trades.nodes, length-take-le (c.key_spot_of-before.result.before + 1) chain.entries is.1, is.1, is.2, c.requires.chain.4);
    }

pub returns : goal.returns
returns g c = λ E x chain pair.
    let at = (goal.at.returns g c).After-key_spot_of-before in
    let w = meets g at chain pair (c.own_rows-own.ensures chain.entries chain.rows (taken g at chain pair).1) in
    let did = c.own_child.ensures in
    owns-in-chain w c.requires.keyless (owns-child (pair-inside w) did.same did.row did.sole did.fresh did.parent_head did.parent_links did.stays did.others did.owners did.changes did.makes)
