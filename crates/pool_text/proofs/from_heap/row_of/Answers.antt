use Rattle.std.proofs.Common.{ℕ, ◌<◌, List, sym, subst}
use Rattle.node_heap.specs.Links.{count}
use Rattle.pool_text.proofs.from_heap.row_of.Goals as goal

pub node_row-requires-clause-listed : goal.node_row-requires-clause-listed
node_row-requires-clause-listed g c = subst (λ (ks : List ℕ). (k : ℕ) → 0 < count k ks → 0 < count k c.args.order.now) (sym c.links.ensures.links) c.requires.listed
