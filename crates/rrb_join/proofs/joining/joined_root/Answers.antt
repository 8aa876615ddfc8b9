use Rattle.std.proofs.Common.{arith, inl, inr, refl, ◌≡◌, ℕ, suc, ◌≤◌, ◌++◌, length, sym, ap, ◌∙◌, [], append-nil, length-append}
use Rattle.std.specs.List.{flat_map}
use Rattle.std.proofs.lemmas.Bool.{cases_lt}
use Rattle.std.proofs.lemmas.Bool.Decides.{nat_tests}
use Rattle.node_heap.proofs.BuildLemmas.{Builds-then, Builds-more, Builds-held}
use Rattle.node_heap.specs.Heap.{form_at, links_at}
use Rattle.rrb_core.specs.Seq.{seq_at}
use Rattle.rrb_core.specs.Build.{AreRows}
use Rattle.rrb_core.specs.Levels.{rows_of}
use Rattle.rrb_core.proofs.LevelLemmas.{rows-few}
use Rattle.rrb_join.specs.Seam.{rows_under}
use Rattle.rrb_core.specs.Vector.{height_at, elements}
use Rattle.rrb_core.proofs.Stays.{links-form, well-live, live-stays}
use Rattle.rrb_join.proofs.UnmadeLemmas.{no-elements, links-rows, items-above}
use Rattle.rrb_join.proofs.RowsOfHeights.{below-above, one-at-need, one-of-need}
use Rattle.rrb_join.proofs.AnswerLemmas.{extended-height, no-higher, rises-more}
use Rattle.rrb_join.proofs.JoinLemmas.{few-links, rows-of-kept, joins-left-none, joins-right-none, joins-root, keeps-left-none, keeps-right-none, keeps-root}
use Rattle.rrb_join.proofs.joining.joined_root.Given as given
use Rattle.rrb_join.proofs.joining.joined_root.Goals as goal

pub links-requires : goal.links-requires
links-requires g c = well-live c.args.heap.now (height_at c.args.heap.now c.args.left) c.args.left c.requires.left_good.shape.well

pub links-requires-2 : goal.links-requires-2
links-requires-2 g c = well-live c.args.heap.now (height_at c.args.heap.now c.args.right) c.args.right c.requires.right_good.shape.well

pub returns-then-is_empty-clause-items : goal.returns-then-is_empty-clause-items
returns-then-is_empty-clause-items g c =
    let none : length c.links.result.now ≡ 0 = grind (arith, nat_tests, c.if-is_empty.ensures) in
    let empty : elements c.args.heap.now c.args.left ≡ [] = no-elements c.args.heap.now c.args.left c.requires.left_good (sym (ap length c.links.ensures.links) ∙ none) in
    rw (c.held_again.ensures.same, empty) (c.held_again.ensures.vectors c.args.right c.requires.right_good).1

pub returns-then-is_empty-2-clause-items : goal.returns-then-is_empty-2-clause-items
returns-then-is_empty-2-clause-items g c =
    let none : length c.links-2.result.now ≡ 0 = grind (arith, nat_tests, c.if-is_empty-2.ensures) in
    let empty : elements c.args.heap.now c.args.right ≡ [] = no-elements c.args.heap.now c.args.right c.requires.right_good (sym (ap length c.links-2.ensures.links) ∙ none) in
    rw (c.held_again-then-is_empty-2.ensures.same, empty, append-nil) (c.held_again-then-is_empty-2.ensures.vectors c.args.left c.requires.left_good).1

rows : (g : given.Over) (c : goal.After-as_slice g) → AreRows c.joined_rows-rows.new.heap c.max-height.result c.as_slice.result.now
rows g c = rw c.as_slice.ensures.value (links-rows c.joined_rows-rows.new.heap c.max-height.result c.joined_rows-rows.result.items c.joined_rows-rows.ensures.joins.links.links)

items : (g : given.Over) (c : goal.After-as_slice g) → flat_map (seq_at (form_at c.joined_rows-rows.new.heap) c.max-height.result) c.as_slice.result.now ≡ elements c.args.heap.now c.args.left ++ elements c.args.heap.now c.args.right
items g c =
    rw c.as_slice.ensures.value (sym (items-above c.joined_rows-rows.new.heap c.max-height.result c.joined_rows-rows.result.items) ∙ c.joined_rows-rows.ensures.joins.links.items ∙ rw (c.height_of-left_height.ensures, c.height_of-right_height.ensures) refl)

pub root_of-requires-clause-rows : goal.root_of-requires-clause-rows
root_of-requires-clause-rows g c = rows g c

pub root_of-requires-clause-need : goal.root_of-requires-clause-need
root_of-requires-clause-need g c = rw c.as_slice.ensures.value c.joined_rows-rows.ensures.need

pub root_of-requires-clause-wide : goal.root_of-requires-clause-wide
root_of-requires-clause-wide g c = λ some. rw c.as_slice.ensures.value (elim (cases_lt c.height_of-left_height.result c.height_of-right_height.result) as (λ _. 2 ≤ length (flat_map (links_at c.joined_rows-rows.new.heap) c.joined_rows-rows.result.items)) [
  | inl less ↦
      let top : c.height_of-right_height.result ≡ c.max-height.result = omega (arith, c.max-height.ensures, less) in
      let two = c.requires.right_good.shape.two (omega (arith, c.height_of-right_height.ensures, top, some)) in
      omega (arith, two, ap length (links-form c.args.heap.now c.args.right), c.joined_rows-rows.ensures.joins.right_wide top)
  | inr more ↦
      let top : c.height_of-left_height.result ≡ c.max-height.result = omega (arith, c.max-height.ensures, more) in
      let two = c.requires.left_good.shape.two (omega (arith, c.height_of-left_height.ensures, top, some)) in
      omega (arith, two, ap length (links-form c.args.heap.now c.args.left), c.joined_rows-rows.ensures.joins.left_wide top)
])

pub root_of-requires-clause-short : goal.root_of-requires-clause-short
root_of-requires-clause-short g c = rw (items g c) (omega (arith, c.requires.short, length-append (elements c.args.heap.now c.args.left) (elements c.args.heap.now c.args.right)))

pub root_of-requires-clause-held : goal.root_of-requires-clause-held
root_of-requires-clause-held g c = λ k. rw c.as_slice.ensures.value (Builds-held c.joined_rows-rows.ensures.joins.builds k)

pub returns-clause-items : goal.returns-clause-items
returns-clause-items g c = c.root_of.ensures.items ∙ items g c.before

pub returns-clause-builds : goal.returns-clause-builds
returns-clause-builds g c =
    Builds-more 0 _ (Builds-then c.joined_rows-rows.ensures.joins.builds (rw c.as_slice.ensures.value at c.root_of.ensures.builds)) (omega arith) (omega (arith, c.max-height.ensures, c.height_of-left_height.ensures, c.height_of-right_height.ensures))

pub returns-then-is_empty-clause-flat : goal.returns-then-is_empty-clause-flat
returns-then-is_empty-clause-flat g c = λ same few. rw c.held_again.ensures.same (extended-height c.held_again.ensures.shares.builds.extends c.args.right c.requires.right_good ∙ sym same)

pub returns-then-is_empty-2-clause-flat : goal.returns-then-is_empty-2-clause-flat
returns-then-is_empty-2-clause-flat g c = λ same few. rw c.held_again-then-is_empty-2.ensures.same (extended-height c.held_again-then-is_empty-2.ensures.shares.builds.extends c.args.left c.requires.left_good)

pub returns-clause-flat : goal.returns-clause-flat
returns-clause-flat g c = λ same few.
    let left : c.height_of-left_height.result ≡ c.max-height.result = omega (arith, c.max-height.ensures, c.height_of-left_height.ensures, c.height_of-right_height.ensures, same) in
    let right : c.height_of-right_height.result ≡ c.max-height.result = omega (arith, c.max-height.ensures, c.height_of-left_height.ensures, c.height_of-right_height.ensures, same) in
    let one = one-of-need c.joined_rows-rows.new.heap c.joined_rows-rows.result.items c.joined_rows-rows.ensures.need (omega (arith, c.joined_rows-rows.ensures.joins.few left right, few)) in
    c.root_of.ensures.flat (rw c.as_slice.ensures.value one) ∙ (sym left ∙ c.height_of-left_height.ensures)

pub returns-then-is_empty-clause-low : goal.returns-then-is_empty-clause-low
returns-then-is_empty-clause-low g c = rw c.held_again.ensures.same (no-higher (omega (arith, extended-height c.held_again.ensures.shares.builds.extends c.args.right c.requires.right_good)))

pub returns-then-is_empty-2-clause-low : goal.returns-then-is_empty-2-clause-low
returns-then-is_empty-2-clause-low g c = rw c.held_again-then-is_empty-2.ensures.same (no-higher (omega (arith, extended-height c.held_again-then-is_empty-2.ensures.shares.builds.extends c.args.left c.requires.left_good)))

pub returns-clause-low : goal.returns-clause-low
returns-clause-low g c = rises-more c.root_of.ensures.low (omega (arith, c.max-height.ensures, c.height_of-left_height.ensures, c.height_of-right_height.ensures))

pub returns-then-is_empty-clause-seam : goal.returns-then-is_empty-clause-seam
returns-then-is_empty-clause-seam g c =
    let none : length c.links.result.now ≡ 0 = grind (arith, nat_tests, c.if-is_empty.ensures) in
    let stays = live-stays c.requires.graph c.held_again.ensures.shares.builds.extends in
    let live = well-live c.args.heap.now (height_at c.args.heap.now c.args.right) c.args.right c.requires.right_good.shape.well in
    rw c.held_again.ensures.same (joins-left-none c.args.heap.now c.held_again.new.heap c.args.left c.args.right (few-links c.args.heap.now c.args.left c.requires.left_good (omega (arith, none, ap length c.links.ensures.links))) (λ m. rows-of-kept stays m c.args.right live))

pub returns-then-is_empty-2-clause-seam : goal.returns-then-is_empty-2-clause-seam
returns-then-is_empty-2-clause-seam g c =
    let none : length c.links-2.result.now ≡ 0 = grind (arith, nat_tests, c.if-is_empty-2.ensures) in
    let stays = live-stays c.requires.graph c.held_again-then-is_empty-2.ensures.shares.builds.extends in
    let live = well-live c.args.heap.now (height_at c.args.heap.now c.args.left) c.args.left c.requires.left_good.shape.well in
    rw c.held_again-then-is_empty-2.ensures.same (joins-right-none c.args.heap.now c.held_again-then-is_empty-2.new.heap c.args.left c.args.right (few-links c.args.heap.now c.args.right c.requires.right_good (omega (arith, none, ap length c.links-2.ensures.links))) (λ m. rows-of-kept stays m c.args.left live))

pub returns-then-is_empty-clause-keeps : goal.returns-then-is_empty-clause-keeps
returns-then-is_empty-clause-keeps g c =
    let none : length c.links.result.now ≡ 0 = grind (arith, nat_tests, c.if-is_empty.ensures) in
    let none' : length (links_at c.args.heap.now c.args.left) ≡ 0 = omega (arith, none, ap length c.links.ensures.links) in
    keeps-left-none c.args.heap.now c.held_again.new.heap c.args.left c.args.right c.held_again.result (few-links c.args.heap.now c.args.left c.requires.left_good (omega arith)) none'

pub returns-then-is_empty-2-clause-keeps : goal.returns-then-is_empty-2-clause-keeps
returns-then-is_empty-2-clause-keeps g c =
    let none : length c.links-2.result.now ≡ 0 = grind (arith, nat_tests, c.if-is_empty-2.ensures) in
    let none' : length (links_at c.args.heap.now c.args.right) ≡ 0 = omega (arith, none, ap length c.links-2.ensures.links) in
    keeps-right-none c.args.heap.now c.held_again-then-is_empty-2.new.heap c.args.left c.args.right c.held_again-then-is_empty-2.result c.requires.left_good (few-links c.args.heap.now c.args.right c.requires.right_good (omega arith)) none'

-- the rows of the root are those that were joined
below : (g : given.Over) (c : goal.After-root_of g) → (m : ℕ) → m ≤ c.max-height.result → rows_of c.root_of.new.heap m c.root_of.result ≡ rows_under (links_at c.joined_rows-rows.new.heap) (suc c.max-height.result) m c.joined_rows-rows.result.items
below g c m low = rw c.as_slice.ensures.value at (c.root_of.ensures.below m low) ∙ sym (below-above (links_at c.joined_rows-rows.new.heap) c.max-height.result m c.joined_rows-rows.result.items)

pub returns-clause-seam : goal.returns-clause-seam
returns-clause-seam g c =
    joins-root c.args.heap.now c.joined_rows-rows.new.heap c.root_of.new.heap c.args.left c.args.right c.height_of-left_height.result c.height_of-right_height.result (suc c.max-height.result) c.root_of.result c.joined_rows-rows.result.items c.height_of-left_height.ensures c.height_of-right_height.ensures (omega (arith, c.max-height.ensures)) (omega (arith, c.max-height.ensures))
    (live-stays c.joined_rows-rows.ensures.joins.builds.graph c.root_of.ensures.builds.extends) c.joined_rows-rows.ensures.joins.links.links c.joined_rows-rows.ensures.joins.seam (λ m low. below g c m (omega arith))
    (λ m high. one-at-need c.root_of.new.heap (rows_of c.root_of.new.heap m c.root_of.result) (rows-few (links_at c.root_of.new.heap) (height_at c.root_of.new.heap c.root_of.result) m c.root_of.result (omega (arith, high, c.root_of.ensures.low.most))))

pub returns-clause-keeps : goal.returns-clause-keeps
returns-clause-keeps g c =
    keeps-root c.args.heap.now c.joined_rows-rows.new.heap c.root_of.new.heap c.args.left c.args.right c.height_of-left_height.result c.height_of-right_height.result c.max-height.result c.root_of.result c.joined_rows-rows.result.items c.height_of-left_height.ensures c.height_of-right_height.ensures (omega (arith, c.max-height.ensures)) c.joined_rows-rows.ensures.joins.keeps (below g c)
