use Rattle.std.proofs.Common.{◌∙◌, sym, ◌∷◌, []}
use Rattle.node_heap.specs.Heap.{form_at}
use Rattle.champ_chain.specs.Entry.{entry}
use Rattle.champ_chain.proofs.FrameLemmas.{KeepsChains-Extends}
use Rattle.champ_chain.proofs.RisingLemmas.{less_flip}
use Rattle.champ_chain.proofs.SpotLemmas.{same-order}
use Rattle.champ_chain.proofs.PartsLemmas.{chain-of_two, chain-of_turned}
use Rattle.champ_chain.proofs.WithLemmas.{Builds-turned, key-some}
use Rattle.std.proofs.Common.{◌⊎◌, inl, inr}
use Rattle.champ_chain.proofs.joined.Goals as goal

pub key_of-requires : goal.key_of-requires
key_of-requires g c = key-some c.args.heap.now c.args.first c.requires.apart.0 c.requires.apart.2

pub key_of-requires-2 : goal.key_of-requires-2
key_of-requires-2 g c = key-some c.args.heap.now c.args.second c.requires.apart.1 c.requires.apart.3

pub unreachable-requires : goal.unreachable-requires
unreachable-requires g c =
    let a = c.requires.apart in
    a.4 (same-order g.T.Ord.cmp (form_at c.args.heap.now) c.args.first c.args.second c.key_of.result.now c.key_of-2.result.now a.0 a.1 c.key_of.ensures c.key_of-2.ensures a.2 a.3 ∙ sym c.in-Equal.ensures)

pub returns-in-Less-clause-joined : goal.returns-in-Less-clause-joined
returns-in-Less-clause-joined g c = λ j k is_j is_k.
    chain-of_two g.T.Ord.cmp g.met.T.Ord.total (form_at c.in_order.new.heap) c.in_order.result (entry j c.args.first) (entry k c.args.second)
    (same-order g.T.Ord.cmp (form_at c.args.heap.now) c.args.first c.args.second c.key_of.result.now c.key_of-2.result.now j k c.key_of.ensures c.key_of-2.ensures is_j is_k ∙ sym c.in-Less.ensures)
    (c.in_order.ensures.rows j k is_j is_k)

pub returns-in-Greater-clause-joined : goal.returns-in-Greater-clause-joined
returns-in-Greater-clause-joined g c = λ j k is_j is_k.
    let order = same-order g.T.Ord.cmp (form_at c.args.heap.now) c.args.first c.args.second c.key_of.result.now c.key_of-2.result.now j k c.key_of.ensures c.key_of-2.ensures is_j is_k in
    chain-of_turned g.T.Ord.cmp g.met.T.Ord.total (form_at c.in_order-in-Greater.new.heap) c.in_order-in-Greater.result (entry j c.args.first) (entry k c.args.second)
    (less_flip g.T.Ord.cmp g.met.T.Ord.total j k (order ∙ sym c.in-Greater.ensures)) (c.in_order-in-Greater.ensures.rows k j is_k is_j)

pub returns-in-Greater-clause-builds : goal.returns-in-Greater-clause-builds
returns-in-Greater-clause-builds g c =
    Builds-turned c.args.heap.now c.in_order-in-Greater.new.heap c.args.second c.args.first (c.in_order-in-Greater.result ∷ []) 2 c.in_order-in-Greater.ensures.builds

pub returns-in-Less-clause-chains : goal.returns-in-Less-clause-chains
returns-in-Less-clause-chains g c = KeepsChains-Extends c.args.heap.now c.in_order.new.heap c.in_order.ensures.builds.extends

pub returns-in-Greater-clause-chains : goal.returns-in-Greater-clause-chains
returns-in-Greater-clause-chains g c = KeepsChains-Extends c.args.heap.now c.in_order-in-Greater.new.heap c.in_order-in-Greater.ensures.builds.extends

pub returns-in-Less-clause-below : goal.returns-in-Less-clause-below
returns-in-Less-clause-below g c = let a = c.requires.apart in c.in_order.ensures.below a.0 a.1 a.2 a.3

turned : {A B : Type 0} → A ⊎ B → B ⊎ A
turned (inl a) = inr a
turned (inr b) = inl b

pub returns-in-Greater-clause-below : goal.returns-in-Greater-clause-below
returns-in-Greater-clause-below g c = λ m live down. let a = c.requires.apart in turned (c.in_order-in-Greater.ensures.below a.1 a.0 a.3 a.2 m live down)
