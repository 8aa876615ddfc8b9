use Rattle.std.proofs.Common.{◌<◌, ℕ, List, length, ap, subst, arith}
use Rattle.std.proofs.lemmas.List.{length-map}
use Rattle.node_heap.specs.Links.{count}
use Rattle.node_heap.specs.Forms.{Form}
use Rattle.pool_text.specs.Rows.{Bytes, row_form}
use Rattle.pool_tests.proofs.Counted.{counted}
use Rattle.pool_tests.proofs.Listed.{linked-below}
use Rattle.pool_tests.proofs.loads.gathered.Goals as goal

pub pool_of_rows-requires-clause-linked : goal.pool_of_rows-requires-clause-linked
pool_of_rows-requires-clause-linked g c = linked-below c.pool.result.now c.pool.ensures.valid.lead_back

pub pool_of_rows-requires-clause-roots : goal.pool_of_rows-requires-clause-roots
pool_of_rows-requires-clause-roots g c =
    λ r root.
    let below = counted (λ place. place < length c.as_slice.result.now) c.places_below-roots.result.items c.places_below-roots.ensures r (subst (λ (ks : List ℕ). 0 < count r ks) c.deref.ensures.value root) in
    omega (arith, below, length-map c.as_slice.result.now row_form, ap (λ (forms : List (Form Bytes)). length forms) c.as_slice.ensures)
