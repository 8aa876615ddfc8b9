use Rattle.std.proofs.Common.{◌+◌, refl, ap, sym, subst, arith}
use Rattle.std.specs.List.{insert}
use Rattle.champ_trie.specs.Bits.{rank}
use Rattle.champ_trie.specs.Trie.{links_at_place}
use Rattle.champ_trie.specs.Edit.{ChangesAt}
use Rattle.champ_trie.proofs.BitLemmas.{rank-mono}
use Rattle.champ_trie.proofs.PlaceLemmas.{put-entry, put-node, clear-none, room}
use Rattle.champ_trie.proofs.turn.Turn.with_place.Goals as goal

pub returns-in-Empty-clause-came : goal.returns-in-Empty-clause-came
returns-in-Empty-clause-came c = rw (c.requires.none, c.in-Empty.is) refl

pub returns-in-Empty-clause-fits : goal.returns-in-Empty-clause-fits
returns-in-Empty-clause-fits c = λ links sets. rw c.requires.none tt

pub returns-in-Empty-clause-changes : goal.returns-in-Empty-clause-changes
returns-in-Empty-clause-changes c = λ links sets. rw (c.requires.none, c.in-Empty.is) (clear-none c.args.self.entries c.args.self.nodes links c.args.position c.requires.position sets c.requires.free.0 c.requires.free.1)

pub returns-in-Entry-clause-came : goal.returns-in-Entry-clause-came
returns-in-Entry-clause-came c = sym (ap links_at_place c.in-Entry.is)

pub returns-in-Entry-clause-fits : goal.returns-in-Entry-clause-fits
returns-in-Entry-clause-fits c = λ links sets.
    let e = c.args.self.entries in
    (omega (arith, c.rank_of.ensures, sets.count, rank-mono e c.args.position 32 (omega (arith, c.requires.position))), room e c.args.self.nodes links c.args.position c.requires.position sets c.requires.free.0 c.requires.free.1)

pub returns-in-Entry-clause-changes : goal.returns-in-Entry-clause-changes
returns-in-Entry-clause-changes c = λ links sets.
    let e = c.args.self.entries in
    let n = c.args.self.nodes in
    let p = c.args.position in
    let x = c.in-Entry.entry in
    subst (λ i. ChangesAt e n links c.with_position.result n (insert links i x) p c.args.place) (sym c.rank_of.ensures)
    (subst (ChangesAt e n links c.with_position.result n (insert links (rank e p) x) p) (sym c.in-Entry.is) (put-entry e n links p c.requires.position sets c.with_position.result x c.with_position.type_inv c.requires.free.0 c.requires.free.1 c.with_position.ensures))

pub returns-in-Node-clause-came : goal.returns-in-Node-clause-came
returns-in-Node-clause-came c = sym (ap links_at_place c.in-Node.is)

pub returns-in-Node-clause-fits : goal.returns-in-Node-clause-fits
returns-in-Node-clause-fits c = λ links sets.
    let n = c.args.self.nodes in
    (omega (arith, c.node_index.ensures, sets.count, rank-mono n c.args.position 32 (omega (arith, c.requires.position))), room c.args.self.entries n links c.args.position c.requires.position sets c.requires.free.0 c.requires.free.1)

pub returns-in-Node-clause-changes : goal.returns-in-Node-clause-changes
returns-in-Node-clause-changes c = λ links sets.
    let e = c.args.self.entries in
    let n = c.args.self.nodes in
    let p = c.args.position in
    let x = c.in-Node.node in
    subst (λ i. ChangesAt e n links e c.with_position-in-Node.result (insert links i x) p c.args.place) (sym c.node_index.ensures)
    (subst (ChangesAt e n links e c.with_position-in-Node.result (insert links (rank e 32 + rank n p) x) p) (sym c.in-Node.is) (put-node e n links p c.requires.position sets c.with_position-in-Node.result x c.with_position-in-Node.type_inv c.requires.free.0 c.requires.free.1 c.with_position-in-Node.ensures))
