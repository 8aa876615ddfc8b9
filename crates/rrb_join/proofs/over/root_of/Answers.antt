use Rattle.std.proofs.Common.{arith, ◌≡◌, ℕ, suc, ◌+◌, ◌<◌, List, [], ◌∷◌, length, get_or, ap, sym, ◌∙◌, append-nil, length-append}
use Rattle.std.specs.List.{flat_map}
use Rattle.node_heap.specs.Heap.{form_at, links_at}
use Rattle.node_heap.proofs.BuildLemmas.{Builds-refl}
use Rattle.node_heap.specs.declared.row.TheConstants.{MOST_HEIGHT}
use Rattle.rrb_core.specs.Seq.{seq_at}
use Rattle.rrb_core.specs.Vector.{elements, IsGoodVector}
use Rattle.rrb_core.specs.Build.{IsRowOf}
use Rattle.rrb_core.specs.Levels.{rows_at}
use Rattle.rrb_core.proofs.Lists.{one-list}
use Rattle.rrb_core.proofs.FillRule.{height-is}
use Rattle.rrb_core.proofs.Stays.{live-stays}
use Rattle.rrb_core.proofs.RowLists.{good-row, rows-live}
use Rattle.rrb_core.proofs.LevelLemmas.{rows-inner, all-kept}
use Rattle.rrb_join.proofs.UnmadeLemmas.{two-low}
use Rattle.rrb_join.proofs.AnswerLemmas.{no-higher, all-links-stay}
use Rattle.rrb_join.proofs.over.root_of.Given as given
use Rattle.rrb_join.proofs.over.root_of.Goals as goal

two-lists : (f : ℕ → List ℕ) (xs : List ℕ) → length xs ≡ 2 → length (flat_map f xs) ≡ length (f (get_or xs 0 0)) + length (f (get_or xs 1 0))
two-lists f [] two = absurd (omega arith)
two-lists f (x ∷ []) two = absurd (omega arith)
two-lists f (x ∷ y ∷ []) two = rw (append-nil (f y)) (length-append (f x) (f y))
two-lists f (x ∷ y ∷ z ∷ zs) two = absurd (omega arith)

-- one row
alone : (g : given.Over) (c : goal.After-index-rows-0 g) → c.args.rows.now ≡ c.index-rows-0.result ∷ []
alone g c = one-list c.args.rows.now c.index-rows-0.result (omega arith) c.index-rows-0.is

own : (g : given.Over) (c : goal.After-index-rows-0 g) → IsRowOf c.args.heap.now c.args.height c.index-rows-0.result (flat_map (seq_at (form_at c.args.heap.now) c.args.height) c.args.rows.now)
own g c =
    let rows = rw (alone g c) at c.requires.rows in
    rw (alone g c) (record { well = rows.well 0 0 (omega arith); sums = rows.sums 0 0 (omega arith); items = sym (append-nil (seq_at (form_at c.args.heap.now) c.args.height c.index-rows-0.result)) })

root : (g : given.Over) (c : goal.After-index-rows-0 g) → IsGoodVector c.args.heap.now c.index-rows-0.result × (elements c.args.heap.now c.index-rows-0.result ≡ flat_map (seq_at (form_at c.args.heap.now) c.args.height) c.args.rows.now)
root g c =
    let links : flat_map (links_at c.args.heap.now) c.args.rows.now ≡ links_at c.args.heap.now c.index-rows-0.result = rw (alone g c) (append-nil (links_at c.args.heap.now c.index-rows-0.result)) in
    good-row c.args.heap.now c.args.height c.index-rows-0.result (flat_map (seq_at (form_at c.args.heap.now) c.args.height) c.args.rows.now) (own g c) c.requires.low (λ some. rw links at (c.requires.wide some)) c.requires.short

pub returns-then-rows-eq1-clause-good : goal.returns-then-rows-eq1-clause-good
returns-then-rows-eq1-clause-good g c = (root g c).0

pub returns-then-rows-eq1-clause-items : goal.returns-then-rows-eq1-clause-items
returns-then-rows-eq1-clause-items g c = (root g c).1

pub returns-then-rows-eq1-clause-flat : goal.returns-then-rows-eq1-clause-flat
returns-then-rows-eq1-clause-flat g c = λ _. height-is (form_at c.args.heap.now) c.args.height c.index-rows-0.result (own g c).well

pub returns-then-rows-eq1-clause-low : goal.returns-then-rows-eq1-clause-low
returns-then-rows-eq1-clause-low g c = no-higher (omega (arith, height-is (form_at c.args.heap.now) c.args.height c.index-rows-0.result (own g c).well))

pub returns-then-rows-eq1-clause-below : goal.returns-then-rows-eq1-clause-below
returns-then-rows-eq1-clause-below g c = λ m low.
    let height = height-is (form_at c.args.heap.now) c.args.height c.index-rows-0.result (own g c).well in
    rw (height, alone g c) (sym (append-nil (rows_at (links_at c.args.heap.now) c.args.height m c.index-rows-0.result)))

pub returns-then-rows-eq1-clause-builds : goal.returns-then-rows-eq1-clause-builds
returns-then-rows-eq1-clause-builds g c = rw (alone g c) (Builds-refl c.args.heap.now (c.index-rows-0.result ∷ []) 0 1 c.requires.graph)

-- a row over two
pub inner_over-requires-clause-low : goal.inner_over-requires-clause-low
inner_over-requires-clause-low g c = two-low c.args.heap.now c.args.height c.args.rows.now c.requires.rows (omega arith) c.requires.low c.requires.short

over : (g : given.Over) (c : goal.After-inner_over g) → IsGoodVector c.inner_over.new.heap c.inner_over.result × (elements c.inner_over.new.heap c.inner_over.result ≡ flat_map (seq_at (form_at c.args.heap.now) c.args.height) c.args.rows.now)
over g c =
    let low : c.args.height < MOST_HEIGHT = two-low c.args.heap.now c.args.height c.args.rows.now c.requires.rows (omega arith) c.requires.low c.requires.short in
    good-row c.inner_over.new.heap (suc c.args.height) c.inner_over.result (flat_map (seq_at (form_at c.args.heap.now) c.args.height) c.args.rows.now) c.inner_over.ensures.row (omega arith) (λ _. rw c.inner_over.ensures.links (omega arith)) c.requires.short

pub returns-clause-good : goal.returns-clause-good
returns-clause-good g c = (over g c).0

pub returns-clause-items : goal.returns-clause-items
returns-clause-items g c = (over g c).1

pub returns-clause-low : goal.returns-clause-low
returns-clause-low g c =
    let height = height-is (form_at c.inner_over.new.heap) (suc c.args.height) c.inner_over.result c.inner_over.ensures.row.well in
    let links = c.inner_over.ensures.links in
    let all = all-links-stay (live-stays c.requires.graph c.inner_over.ensures.builds.extends) c.args.rows.now (rows-live c.args.heap.now c.args.height c.args.rows.now c.requires.rows) in
    let two : length c.args.rows.now ≡ 2 = omega (arith, c.requires.need.most) in
    let both = two-lists (links_at c.args.heap.now) c.args.rows.now two in
    let more = c.requires.need.need 0 (omega (arith, two)) in
    record { most = omega (arith, height); need = λ up. record { two = rw links two; more = rw (links, all) (omega (arith, both, more)) } }

pub returns-clause-below : goal.returns-clause-below
returns-clause-below g c = λ m low.
    let height = height-is (form_at c.inner_over.new.heap) (suc c.args.height) c.inner_over.result c.inner_over.ensures.row.well in
    rw height (rows-inner (links_at c.inner_over.new.heap) c.args.height m c.inner_over.result low ∙ ap (flat_map (rows_at (links_at c.inner_over.new.heap) c.args.height m)) c.inner_over.ensures.links ∙ all-kept (live-stays c.requires.graph c.inner_over.ensures.builds.extends) c.args.height m c.args.rows.now (rows-live c.args.heap.now c.args.height c.args.rows.now c.requires.rows))
