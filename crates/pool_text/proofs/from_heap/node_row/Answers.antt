use Rattle.std.proofs.Common.{◌≡◌, ℕ, ◌<◌, true, ◌==◌, Some, List, length, ap, sym, ◌∙◌, arith}
use Rattle.std.proofs.lemmas.Bool.Decides.{nat_tests}
use Rattle.node_heap.specs.Forms.{node}
use Rattle.node_heap.specs.Reads.{kind_said}
use Rattle.node_heap.specs.declared.row.Kind.{Kind}
use Rattle.node_heap.specs.declared.row.Kind.TheVariants.{Pair, State}
use Rattle.pool_text.specs.Rows.{Bytes}
use Rattle.pool_text.specs.Pool.{fits_pool}
use Rattle.pool_text.proofs.Placed.{item_in}
use Rattle.pool_text.proofs.from_heap.node_row.Goals as goal

two : (links : List ℕ) → (length links == 2) ≡ true → length links ≡ 2
two links h = grind (arith, nat_tests)

pair-two : (kind : Kind) (links : List ℕ) → kind ≡ Pair → fits_pool {K = Bytes} (Some (node (kind_said kind) links)) ≡ true → length links ≡ 2
pair-two kind links e h = two links (ap (λ d. fits_pool {K = Bytes} (Some (node (kind_said d) links))) (sym e) ∙ h)

state-two : (kind : Kind) (links : List ℕ) → kind ≡ State → fits_pool {K = Bytes} (Some (node (kind_said kind) links)) ≡ true → length links ≡ 2
state-two kind links e h = two links (ap (λ d. fits_pool {K = Bytes} (Some (node (kind_said d) links))) (sym e) ∙ h)

pub place_of-requires : goal.place_of-requires
place_of-requires c =
    let low : 0 < length c.args.links.now = omega (arith, pair-two c.args.kind c.args.links.now c.in-Pair.is c.requires.fits) in
    record { listed = c.requires.listed c.index-links-0.result (item_in c.args.links.now 0 c.index-links-0.result low c.index-links-0.is) }

pub place_of-requires-in-Pair : goal.place_of-requires-in-Pair
place_of-requires-in-Pair c =
    let low : 1 < length c.args.links.now = omega (arith, pair-two c.args.kind c.args.links.now c.in-Pair.is c.requires.fits) in
    record { listed = c.requires.listed c.index-links-1.result (item_in c.args.links.now 1 c.index-links-1.result low c.index-links-1.is) }

pub place_of-requires-in-State : goal.place_of-requires-in-State
place_of-requires-in-State c =
    let low : 0 < length c.args.links.now = omega (arith, state-two c.args.kind c.args.links.now c.in-State.is c.requires.fits) in
    record { listed = c.requires.listed c.index-links-0-in-State.result (item_in c.args.links.now 0 c.index-links-0-in-State.result low c.index-links-0-in-State.is) }

pub place_of-requires-in-State-2 : goal.place_of-requires-in-State-2
place_of-requires-in-State-2 c =
    let low : 1 < length c.args.links.now = omega (arith, state-two c.args.kind c.args.links.now c.in-State.is c.requires.fits) in
    record { listed = c.requires.listed c.index-links-1-in-State.result (item_in c.args.links.now 1 c.index-links-1-in-State.result low c.index-links-1-in-State.is) }
