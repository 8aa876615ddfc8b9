use Rattle.std.proofs.Common.{arith, ◌≢◌, [], ◌∷◌, ◌∙◌, subst, refl}
use Rattle.node_heap.specs.Links.{Reaches, here}
use Rattle.node_heap.specs.Heap.{links_at}
use Rattle.node_heap.specs.InPlace.{Changes}
use Rattle.node_heap.proofs.CallerLemmas.{Builds-hold, test_same, test_other, Reaches-back, Changes-beside, Changes-follow, Changes-hold, Gains-trans, Gains-Builds}
use Rattle.edit_trie.proofs.StepLemmas.{puts-then}
use Rattle.edit_trie.proofs.EditLemmas.{row-held}
use Rattle.edit_trie.proofs.cut.lift.Goals as goal

pub take_node-cut-requires-clause-sole : goal.take_node-cut-requires-clause-sole
take_node-cut-requires-clause-sole g c =
    let off : c.args.row ≢ c.args.lone = λ same. c.requires.apart (subst (λ j. Reaches (links_at c.args.heap.now) j c.args.row) same (here c.args.row)) in
    omega (arith, c.hold.ensures.owners c.args.row, test_other c.args.row c.args.lone off, c.requires.sole)

pub put_entry-requires-clause-row : goal.put_entry-requires-clause-row
put_entry-requires-clause-row g c =
    let at = c.requires.row in
    let puts = c.take_node-cut.ensures.puts at.0 at.1 at.2 (row-held c.args.heap.now c.hold.new.self c.args.row c.args.depth at.0 at.1 at.2 c.hold.ensures.rows at.3) in
    (puts.entries, puts.nodes, puts.links, puts.row_is, puts.puts)

pub put_entry-requires-clause-sole : goal.put_entry-requires-clause-sole
put_entry-requires-clause-sole g c =
    let off : c.args.row ≢ c.args.lone = λ same. c.requires.apart (subst (λ j. Reaches (links_at c.args.heap.now) j c.args.row) same (here c.args.row)) in
    omega (arith, c.take_node-cut.ensures.owners c.args.row, c.hold.ensures.owners c.args.row, test_other c.args.row c.args.lone off, c.requires.sole)

pub put_entry-requires-clause-held : goal.put_entry-requires-clause-held
put_entry-requires-clause-held g c =
    omega (arith, c.take_node-cut.ensures.changes.trades.holds c.args.lone, c.hold.ensures.holds c.args.lone, test_same c.args.lone c.args.lone refl)

pub put_entry-requires-clause-apart : goal.put_entry-requires-clause-apart
put_entry-requires-clause-apart g c = λ way.
    let old = c.args.heap.now in
    c.requires.apart (Reaches-back old c.take_node-cut.new.heap c.args.lone c.args.row
    (λ m down. c.take_node-cut.ensures.others m (λ same. c.requires.apart (subst (Reaches (links_at old) c.args.lone) same down)) ∙ c.hold.ensures.rows m) way)

pub returns-clause-puts : goal.returns-clause-puts
returns-clause-puts g c = λ entries nodes links is.
    let first = c.take_node-cut.ensures.puts entries nodes links (row-held c.args.heap.now c.hold.new.self c.args.row c.args.depth entries nodes links c.hold.ensures.rows is) in
    puts-then first (c.put_entry.ensures.puts first.entries first.nodes first.links first.row_is)

pub returns-clause-others : goal.returns-clause-others
returns-clause-others g c = λ k off. c.put_entry.ensures.others k off ∙ c.take_node-cut.ensures.others k off ∙ c.hold.ensures.rows k

pub returns-clause-changes : goal.returns-clause-changes
returns-clause-changes g c =
    let builds = Builds-hold c.hold.ensures.holds c.hold.ensures.makes c.hold.ensures.count c.hold.ensures.graph c.hold.ensures.extends in
    let first : Changes c.args.row c.args.heap.now c.hold.new.self [] (c.args.lone ∷ []) 0 0 = Changes-hold c.args.row c.args.lone c.requires.graph c.hold.ensures.owners builds c.requires.apart in
    let both : Changes c.args.row c.args.heap.now c.take_node-cut.new.heap [] (c.args.lone ∷ c.take_node-cut.result ∷ []) 0 0 = Changes-beside first c.take_node-cut.ensures.changes in
    Changes-follow (c.args.lone ∷ []) [] (c.take_node-cut.result ∷ []) [] [] both c.put_entry.ensures.changes

pub returns-clause-gains : goal.returns-clause-gains
returns-clause-gains g c =
    let builds = Builds-hold c.hold.ensures.holds c.hold.ensures.makes c.hold.ensures.count c.hold.ensures.graph c.hold.ensures.extends in
    Gains-trans (Gains-Builds builds) (Gains-trans c.take_node-cut.ensures.gains c.put_entry.ensures.gains)
