use Rattle.std.proofs.Common.{◌≡◌, ap, sym, subst, ◌∙◌, arith}
use Rattle.node_heap.specs.Forms.{is_node}
use Rattle.node_heap.specs.Heap.{row_at}
use Rattle.node_heap.specs.declared.owner.Owner.TheVariants.{Hold as by_hold}
use Rattle.node_heap.proofs.CallerLemmas.{Extends-trans, IsOwned, owns, owned-hold, after-room}
use Rattle.champ_kinds.specs.Root.{Root}
use Rattle.champ_kinds.specs.Kinds.{HasEntries, IsMapOf}
use Rattle.edit_trie.specs.Edit.{by_bits}
use Rattle.edit_trie.proofs.MapTop.{map-node, map-top, edits-top}
use Rattle.edit_trie.proofs.MapLemmas.{entries-owned}
use Rattle.edit_trie.proofs.edit.TrieEdit.open.Given.{Over}
use Rattle.edit_trie.proofs.edit.TrieEdit.open.Goals as goal
use Rattle.edit_trie.proofs.edit.TrieEdit.open.Goals.{After-own-root}

-- the root was made the edit's own
module _ (g : Over) (c : After-own-root g) where
  own : IsOwned (by_hold c.args.map.root) c.args.heap.now c.own-root.new.self c.own-root.result
  own =
      let did = c.own-root.ensures in
      let room = c.in-Ok.ensures.rest in
      after-room room (owned-hold (owns c.into_root.ensures room.graph (omega (arith, c.requires.held, room.holds c.args.map.root)) did.same did.row did.sole did.fresh did.owners did.builds did.makes))

  bits-same : c.bits-bits.result ≡ c.args.map.bits
  bits-same = c.bits-bits.ensures ∙ ap (λ (q : Root). q.bits) c.view.ensures

pub own-root-requires-clause-node : goal.own-root-requires-clause-node
own-root-requires-clause-node g c =
    ap (λ l. is_node (row_at c.reserve.new.self l)) c.into_root.ensures ∙ ap is_node (c.in-Ok.ensures.rest.rows c.args.map.root) ∙ map-node {bits = c.args.map.bits} {root = c.args.map.root} c.requires.contents.1

pub returns-clause-contents : goal.returns-clause-contents
returns-clause-contents g c = λ M is.
    let at = (goal.at.returns-clause-contents g c).After-own-root in
    subst (λ b. IsMapOf g.T.Ord.cmp g.T.Element.code_of c.own-root.new.self (by_bits b c.own-root.result) M) (sym (bits-same g at))
    (map-top g.T.Ord.cmp g.T.Element.code_of (by_hold c.args.map.root) c.args.map.bits c.args.heap.now c.own-root.new.self c.own-root.result (own g at) M is)

pub returns-clause-entries : goal.returns-clause-entries
returns-clause-entries g c = λ E is.
    let at = (goal.at.returns-clause-entries g c).After-own-root in
    subst (λ b. HasEntries g.T.Ord.cmp g.T.Element.code_of c.own-root.new.self (by_bits b c.own-root.result) E) (sym (bits-same g at))
    (entries-owned g.T.Ord.cmp g.T.Element.code_of (by_hold c.args.map.root) c.args.map.bits c.args.heap.now c.own-root.new.self c.own-root.result (own g at) E is)

pub returns-clause-row : goal.returns-clause-row
returns-clause-row g c = (own g (goal.at.returns-clause-row g c).After-own-root).row_same

pub returns-clause-edits : goal.returns-clause-edits
returns-clause-edits g c =
    edits-top g.T.Ord.cmp g.T.Element.code_of (by_hold c.args.map.root) c.args.map.bits c.args.heap.now c.own-root.new.self c.own-root.result (own g (goal.at.returns-clause-edits g c).After-own-root) c.own-root.ensures.builds.graph

pub returns-clause-extends : goal.returns-clause-extends
returns-clause-extends g c = Extends-trans c.in-Ok.ensures.extends c.own-root.ensures.builds.extends
