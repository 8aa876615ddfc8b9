use Rattle.std.proofs.Common.{◌≡◌, ◌∷◌, [], ap, subst, refl, arith, length, inl, inr}
use Rattle.std.specs.Prelude.{option_map, count_ones}
use Rattle.node_heap.specs.Links.{count, changed_links}
use Rattle.node_heap.specs.Forms.{form_of, trie}
use Rattle.node_heap.specs.Heap.{row_at, links_at}
use Rattle.node_heap.specs.Calls.{Builds}
use Rattle.node_heap.proofs.CallerLemmas.{Builds-more}
use Rattle.champ_trie.specs.Bits.{rank}
use Rattle.champ_trie.specs.Edit.{ChangesAt}
use Rattle.champ_trie.specs.declared.place.Place.TheVariants.{Entry as At}
use Rattle.champ_trie.proofs.BitLemmas.{count-rank, rank-none}
use Rattle.champ_trie.proofs.TurnLemmas.{form-node}
use Rattle.champ_trie.proofs.turn.closed.Given.{Over}
use Rattle.champ_trie.proofs.turn.closed.Goals as goal
use Rattle.champ_trie.proofs.turn.closed.Goals.{After-turned-turn, else-turn-eq0-via-then-turn-eq0+else-turn-eq1, else-turn-eq0-via-else-turn-eq0}

-- what becomes of the row
changed : (g : Over) (c : After-turned-turn g) → ChangesAt c.requires.row.1 c.requires.row.2 c.requires.row.3 c.turned-turn.result.entries c.turned-turn.result.nodes (changed_links c.turned-turn.result.out c.turned-turn.result.into (links_at c.args.heap.now c.args.link)) c.args.position c.args.place
changed g c = let row = c.requires.row in c.turned-turn.ensures.changes row.0 row.1 row.2 row.3 row.4

pub last-requires-clause-node : goal.last-requires-clause-node
last-requires-clause-node g c = let row = c.requires.row in form-node (row_at c.args.heap.now c.args.link) (trie row.0 row.1 row.2) row.3 row.4.row

pub make-requires-clause-node : goal.make-requires-clause-node
make-requires-clause-node g c = let row = c.requires.row in form-node (row_at c.args.heap.now c.args.link) (trie row.0 row.1 row.2) row.3 row.4.row

pub make-requires-clause-held : goal.make-requires-clause-held
make-requires-clause-held g c = λ k. omega (arith, ap (count k) c.turned-turn.ensures.came, c.requires.held k)

pub returns-clause-builds : goal.returns-clause-builds
returns-clause-builds g c = subst (λ xs. Builds c.args.heap.now c.make.new.heap xs (c.make.result ∷ []) 0 1) c.turned-turn.ensures.came c.make.ensures.builds

-- an only link is the only entry
one : (g : Over) (c : After-turned-turn g) → c.turned-turn.result.nodes ≡ 0 → count_ones c.turned-turn.result.entries ≡ 1 → length (changed_links c.turned-turn.result.out c.turned-turn.result.into (links_at c.args.heap.now c.args.link)) ≡ 1
one g c none lone =
    let sets = (changed g c).sets in
    omega (arith, sets.count, ap (λ n. rank n 32) none, rank-none 32, count-rank c.turned-turn.result.entries sets.entries_small, lone)

pub last-requires-clause-one : goal.last-requires-clause-one
last-requires-clause-one g c = one g (goal.at.last-requires-clause-one g c).After-turned-turn c.if-turn-eq0.true c.if-turn-eq1.true

pub returns-then-turn-eq1-clause-place : goal.returns-then-turn-eq1-clause-place
returns-then-turn-eq1-clause-place g c =
    let at = (goal.at.returns-then-turn-eq1-clause-place g c).After-turned-turn in
    let turn = c.turned-turn.result in
    let is = changed g at in
    record {
      entries = turn.entries;
      nodes = turn.nodes;
      links = changed_links turn.out turn.into (links_at c.args.heap.now c.args.link);
      edits = record { sets = is.sets; here = is.here; others = λ d e n ls row. (c.turned-turn.ensures.changes d e n ls row).others };
      closes = inl (c.if-turn-eq0.true, one g at c.if-turn-eq0.true c.if-turn-eq1.true, ap At c.last.ensures.same);
    }

pub returns-then-turn-eq1-clause-builds : goal.returns-then-turn-eq1-clause-builds
returns-then-turn-eq1-clause-builds g c =
    Builds-more 0 1 (subst (λ xs. Builds c.args.heap.now c.last.new.heap xs (c.last.result ∷ []) 0 0) c.turned-turn.ensures.came c.last.ensures.builds) (omega arith) (omega arith)

pub returns-clause-place : goal.returns-clause-place
returns-clause-place g c =
    let at = (goal.at.returns-clause-place g c).After-turned-turn in
    let turn = c.turned-turn.result in
    let is = changed g at in
    let links = changed_links turn.out turn.into (links_at c.args.heap.now c.args.link) in
    record {
      entries = turn.entries;
      nodes = turn.nodes;
      links = links;
      edits = record { sets = is.sets; here = is.here; others = λ d e n ls row. (c.turned-turn.ensures.changes d e n ls row).others };
      closes = inr (
        λ both. elim c.else-turn-eq0.branch [
          | else-turn-eq0-via-then-turn-eq0+else-turn-eq1 w ↦ w.if-turn-eq1.false (omega (arith, is.sets.count, ap (λ n. rank n 32) both.0, rank-none 32, count-rank turn.entries is.sets.entries_small, both.1))
          | else-turn-eq0-via-else-turn-eq0 w ↦ w.if-turn-eq0.false both.0
        ],
        (c.make.result, refl, record { row = ap (option_map form_of) c.make.ensures.row; sets = is.sets }),
      );
    }
