use Rattle.std.proofs.Common.{◌∷◌, [], subst}
use Rattle.node_heap.specs.Heap.{form_at}
use Rattle.node_heap.specs.Calls.{Builds}
use Rattle.node_heap.proofs.Frames.{Extends-trans, Extends-Unchanged}
use Rattle.node_heap.proofs.BuildLemmas.{Builds-Answered}
use Rattle.champ_trie.specs.Trie.{code_by}
use Rattle.champ_trie.proofs.ReachLemmas.{canon-empty}
use Rattle.champ_trie.proofs.LeftLemmas.{KeepsTries-Extends}
use Rattle.node_heap.proofs.RoomLemmas.{Builds-KeepsToNeed}
use Rattle.champ_trie.proofs.empty.Goals as goal

pub returns-clause-answered : goal.returns-clause-answered
returns-clause-answered g c =
    Builds-Answered c.in_ok-reserve.ensures.rest (subst (λ xs. Builds c.reserve.new.self c.make.new.heap xs (c.make.result ∷ []) 0 1) c.empty.ensures.none c.make.ensures.builds)

pub returns-clause-entries : goal.returns-clause-entries
returns-clause-entries g c = λ bits.
    canon-empty g.T.Ord.cmp (code_by g.T.Element.code_of bits) (form_at c.make.new.heap) c.make.result c.empty.result.entries c.empty.result.nodes c.empty.result.links c.make.ensures.row c.empty.ensures.places

pub returns-clause-tries : goal.returns-clause-tries
returns-clause-tries g c = KeepsTries-Extends c.args.heap.now c.make.new.heap (Extends-trans (Extends-Unchanged c.in_ok-reserve.ensures.rest) c.make.ensures.builds.extends)

pub returns-clause-spares : goal.returns-clause-spares
returns-clause-spares g c = Builds-KeepsToNeed c.in_ok-reserve.ensures.greater c.in_ok-reserve.ensures.rest c.make.ensures.builds
