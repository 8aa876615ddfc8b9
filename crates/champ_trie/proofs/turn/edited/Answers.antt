use Rattle.std.proofs.Common.{◌∷◌, [], ap, subst, arith}
use Rattle.std.specs.Prelude.{option_map}
use Rattle.node_heap.specs.Links.{count, changed_links}
use Rattle.node_heap.specs.Forms.{form_of, trie}
use Rattle.node_heap.specs.Heap.{row_at, links_at}
use Rattle.node_heap.specs.Calls.{Builds}
use Rattle.champ_trie.proofs.TurnLemmas.{form-node}
use Rattle.champ_trie.proofs.turn.edited.Goals as goal

pub make-requires-clause-node : goal.make-requires-clause-node
make-requires-clause-node g c = let row = c.requires.row in form-node (row_at c.args.heap.now c.args.link) (trie row.0 row.1 row.2) row.3 row.4.row

pub make-requires-clause-held : goal.make-requires-clause-held
make-requires-clause-held g c = λ k. omega (arith, ap (count k) c.turned.ensures.came, c.requires.held k)

pub returns-clause-row : goal.returns-clause-row
returns-clause-row g c =
    let row = c.requires.row in
    let turn = c.turned.result in
    let changed = c.turned.ensures.changes row.0 row.1 row.2 row.3 row.4 in
    record {
      entries = turn.entries;
      nodes = turn.nodes;
      links = changed_links turn.out turn.into (links_at c.args.heap.now c.args.link);
      edits = record { sets = changed.sets; here = changed.here; others = λ d e n ls is. (c.turned.ensures.changes d e n ls is).others };
      row = record { row = ap (option_map form_of) c.make.ensures.row; sets = changed.sets };
    }

pub returns-clause-builds : goal.returns-clause-builds
returns-clause-builds g c = subst (λ xs. Builds c.args.heap.now c.make.new.heap xs (c.make.result ∷ []) 0 1) c.turned.ensures.came c.make.ensures.builds
