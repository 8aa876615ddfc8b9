use Rattle.std.proofs.Common.{arith, ◌≡◌, ℕ, List, ◌∙◌, ap, subst, get_or, Some, None}
use Rattle.elem_core.specs.Codes.{masked_code}
use Rattle.node_heap.specs.Heap.{Heap, form_at}
use Rattle.champ_chain.specs.Entry.{Entry, key_at, link_with}
use Rattle.champ_chain.proofs.CallerLemmas.{key-some}
use Rattle.champ_trie.specs.Bits.{has, rank}
use Rattle.champ_trie.specs.Trie.{code_by, place_of}
use Rattle.champ_trie.specs.declared.place.Place.TheVariants.{Node, Empty}
use Rattle.edit_trie.specs.Spot.{PutsAt}
use Rattle.edit_trie.specs.Walk.{CanEditBelow}
use Rattle.edit_trie.proofs.StepLemmas.{AtRow, at-row}
use Rattle.edit_trie.proofs.SplitLemmas.{TakesEntry, MakesNode, al, keyed-cut, other-cut, keys-cut, other-key, codes-cut, spare-cut, is-built, sole-built, held-built, apart-built, puts-split}
use Rattle.edit_trie.proofs.put.split.Given.{Over}
use Rattle.edit_trie.proofs.put.split.Goals as goal
use Rattle.edit_trie.proofs.put.split.Goals.{After-take_entry-old, After-node_of_two-node}

-- the entry that stood there was taken out
module _ (g : Over) (c : After-take_entry-old g) where
  abbrev code : g.row.T.Denot → ℕ
  code = code_by g.T.Element.code_of c.args.bits

  abbrev old : Heap g.row.T.Denot
  old = c.args.heap.now

  module _ {E : List (Entry g.row.T.Denot)} {left : ℕ} {key : g.row.T.Denot} (can : CanEditBelow g.T.Ord.cmp code old left c.args.depth c.args.row c.args.code E)
      (keyed : key_at (form_at old) c.args.entry ≡ Some key) (is_code : c.args.code ≡ code key) (absent : link_with g.T.Ord.cmp key E ≡ None) where
    row : AtRow g.T.Ord.cmp code old left c.args.depth c.args.row c.args.code E key
    row = at-row g.T.Ord.cmp g.T.Element.code_of c.args.bits g.met.T.Element.equal_codes is_code can

    took : TakesEntry row c.args.entry c.take_entry-old.new.heap c.take_entry-old.result
    took =
        let did = c.take_entry-old.ensures in
        let read = c.digit-position.ensures.read in
        record {
          keyed = keyed;
          absent = absent;
          had = c.requires.spot c.args.depth row.entries row.nodes row.links row.is;
          given = did.taken row.entries row.nodes row.links row.is ∙ ap (λ p. get_or row.links (rank row.entries p) 0) read;
          puts = subst (λ p. PutsAt (form_at c.take_entry-old.new.heap) c.args.row c.args.depth row.entries row.nodes row.links p Empty) read (did.puts row.entries row.nodes row.links row.is);
          others = did.others;
          owners = did.owners;
          changes = did.changes;
          gains = did.gains;
        }

pub take_entry-old-requires-clause-row : goal.take_entry-old-requires-clause-row
take_entry-old-requires-clause-row g c =
    let at = at-row g.T.Ord.cmp g.T.Element.code_of c.args.bits g.met.T.Element.equal_codes c.requires.row.5 c.requires.row.3 in
    (at.entries, at.nodes, at.links, at.is, ap (λ p. has at.entries p) c.digit-position.ensures.read ∙ c.requires.spot c.args.depth at.entries at.nodes at.links at.is)

pub key_of-requires : goal.key_of-requires
key_of-requires g c =
    let r = c.requires.row in
    let t = took g (goal.at.key_of-requires g c).After-take_entry-old r.3 r.4 r.5 r.6 in
    key-some c.take_entry-old.new.heap c.take_entry-old.result (al t).key (other-cut t)

pub node_of_two-node-requires-clause-keys : goal.node_of_two-node-requires-clause-keys
node_of_two-node-requires-clause-keys g c =
    let r = c.requires.row in
    keys-cut (took g (goal.at.node_of_two-node-requires-clause-keys g c).After-take_entry-old r.3 r.4 r.5 r.6)

pub node_of_two-node-requires-clause-codes : goal.node_of_two-node-requires-clause-codes
node_of_two-node-requires-clause-codes g c =
    let r = c.requires.row in
    let t = took g (goal.at.node_of_two-node-requires-clause-codes g c).After-take_entry-old r.3 r.4 r.5 r.6 in
    let old_code = c.masked-old_code.ensures.kept ∙ ap (λ n. masked_code n c.args.bits) (c.code.ensures ∙ ap g.T.Element.code_of (other-key t c.key_of.result.now c.key_of.ensures)) in
    codes-cut t c.masked-old_code.result old_code

pub node_of_two-node-requires-clause-spare : goal.node_of_two-node-requires-clause-spare
node_of_two-node-requires-clause-spare g c =
    let r = c.requires.row in
    let t = took g (goal.at.node_of_two-node-requires-clause-spare g c).After-take_entry-old r.3 r.4 r.5 r.6 in
    let old_code = c.masked-old_code.ensures.kept ∙ ap (λ n. masked_code n c.args.bits) (c.code.ensures ∙ ap g.T.Element.code_of (other-key t c.key_of.result.now c.key_of.ensures)) in
    spare-cut t c.masked-old_code.result old_code r.7

-- a node of both was made, of the other entry's code
module _ (g : Over) (c : After-node_of_two-node g) {E : List (Entry g.row.T.Denot)} {left : ℕ} {key : g.row.T.Denot} {a : AtRow g.T.Ord.cmp (code_by g.T.Element.code_of c.args.bits) c.args.heap.now left c.args.depth c.args.row c.args.code E key}
    (t : TakesEntry a c.args.entry c.take_entry-old.new.heap c.take_entry-old.result) where
  made : MakesNode t c.node_of_two-node.new.heap c.node_of_two-node.result c.node_of_two-node.ensures.builds.0 c.masked-old_code.result
  made =
      let old_code = c.masked-old_code.ensures.kept ∙ ap (λ n. masked_code n c.args.bits) (c.code.ensures ∙ ap g.T.Element.code_of (other-key t c.key_of.result.now c.key_of.ensures)) in
      let did = c.node_of_two-node.ensures in
      record {
        apart = c.requires.apart;
        held = c.requires.held;
        is_key = old_code;
        few = did.builds.1;
        builds = did.builds.2;
        made = did.trie (code_by g.T.Element.code_of c.args.bits) key (al t).key (keyed-cut t) (other-cut t) a.is_code old_code left (omega (arith, a.can.below.levels));
        owners = did.owners;
        below = did.below;
      }

pub put_node-requires : goal.put_node-requires
put_node-requires g c =
    let r = c.requires.row in
    let at = goal.at.put_node-requires g c in
    let t = took g at.After-take_entry-old r.3 r.4 r.5 r.6 in
    let b = made g at.After-node_of_two-node t in record {
      row = (t.puts.entries, t.puts.nodes, t.puts.links, is-built t b, ap (place_of t.puts.entries t.puts.nodes t.puts.links) c.digit-position.ensures.read ∙ t.puts.puts);
      position = c.digit-position.ensures.small;
      sole = sole-built t b;
      held = held-built t b;
      apart = apart-built t b;
    }

pub returns : goal.returns
returns g c = λ E left key can keyed is_code absent.
    let at = goal.at.returns g c in
    let t = took g at.After-take_entry-old can keyed is_code absent in
    let b = made g at.After-node_of_two-node t in
    let did = c.put_node.ensures in
    puts-split t b c.put_node.new.heap (subst (λ p. PutsAt (form_at c.put_node.new.heap) c.args.row c.args.depth t.puts.entries t.puts.nodes t.puts.links p (Node c.node_of_two-node.result)) c.digit-position.ensures.read (did.puts t.puts.entries t.puts.nodes t.puts.links (is-built t b))) did.others did.changes did.gains
