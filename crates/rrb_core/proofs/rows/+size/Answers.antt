use Rattle.std.proofs.Common.{rules, arith, ◌≡◌, ◌+◌, ◌<◌, ◌≤◌, ◌^◌, ◌*◌, ◌-◌, length, get_or, ap, ◌∙◌, sym, ℕ}
use Rattle.std.proofs.lemmas.Bool.Decides.{nat_tests}
use Rattle.node_heap.specs.Heap.{form_at, links_at}
use Rattle.rrb_core.specs.Seq.{seq_at, IsWell}
use Rattle.rrb_core.specs.Vector.{HasSums}
use Rattle.rrb_core.proofs.Lists.{empty-list}
use Rattle.rrb_core.proofs.FillRule.{seq-leaf}
use Rattle.rrb_core.proofs.Stays.{well-live, links-form}
use Rattle.rrb_core.proofs.RowLists.{sized, last-place}
use Rattle.rrb_core.proofs.rows.+size.Given.{Over}
use Rattle.rrb_core.proofs.rows.+size.Goals as goal

pub links-links-requires : goal.links-links-requires
links-links-requires g t c = well-live c.args.heap.now c.args.height c.args.link c.requires.well

pub sums_of-sums-requires : goal.sums_of-sums-requires
sums_of-sums-requires g t c = well-live c.args.heap.now c.args.height c.args.link c.requires.well

pub returns-then-height-eq0-clause-value : goal.returns-then-height-eq0-clause-value
returns-then-height-eq0-clause-value g t c = ap length (c.links-links.ensures.links ∙ sym (links-form c.args.heap.now c.args.link) ∙ sym (seq-leaf (form_at c.args.heap.now) c.args.height c.args.link (omega arith)))

pub returns-then-not-is_empty-clause-value : goal.returns-then-not-is_empty-clause-value
returns-then-not-is_empty-clause-value g t c =
    let some : 1 ≤ length c.sums_of-sums.result.now = grind (arith, nat_tests, c.if-not-is_empty.ensures) in
    let is = sized c.args.heap.now c.args.height c.args.link (omega (arith, c.if-height-eq0.false)) c.requires.well c.requires.sums in
    rw c.sums_of-sums.ensures (is.by_sums (rw c.sums_of-sums.ensures at some))

pub overflow_sub-last : goal.overflow_sub-last
overflow_sub-last g t c =
    let is = sized c.args.heap.now c.args.height c.args.link (omega (arith, c.if-height-eq0.false)) c.requires.well c.requires.sums in
    omega (arith, is.some, ap length c.links-links.ensures.links)

pub full_size-before-requires-clause-few : goal.full_size-before-requires-clause-few
full_size-before-requires-clause-few g t c =
    let is = sized c.args.heap.now c.args.height c.args.link (omega (arith, c.if-height-eq0.false)) c.requires.well c.requires.sums in
    omega (arith, is.most, ap length c.links-links.ensures.links)

-- what the full children and the last one have
parts : (g : Over) (t : ℕ) (c : goal.the-here-After-full_size-before g.row.T g.T.laws t) → c.full_size-before.result + length (seq_at (form_at c.args.heap.now) (c.args.height - 1) (get_or (links_at c.args.heap.now c.args.link) (length (links_at c.args.heap.now c.args.link) - 1) 0)) ≡ length (seq_at (form_at c.args.heap.now) c.args.height c.args.link)
parts g t c =
    let is = sized c.args.heap.now c.args.height c.args.link (omega (arith, c.if-height-eq0.false)) c.requires.well c.requires.sums in
    let none : length c.sums_of-sums.result.now ≡ 0 = grind (arith, nat_tests, c.if-not-is_empty.ensures) in
    let before : c.full_size-before.result ≡ (length (links_at c.args.heap.now c.args.link) - 1) * 32 ^ c.args.height = c.full_size-before.ensures ∙ ap (λ (k : ℕ). (k - 1) * 32 ^ c.args.height) (ap length c.links-links.ensures.links) in
    rw before (is.by_last (sym c.sums_of-sums.ensures ∙ empty-list c.sums_of-sums.result.now none))

pub overflow_cast-before : goal.overflow_cast-before
overflow_cast-before g t c =
    let fits : c.full_size-before.result < 2 ^ 32 = omega (arith, parts g t c, c.requires.short) in
    search rules

pub bounds-links-last : goal.bounds-links-last
bounds-links-last g t c =
    let is = sized c.args.heap.now c.args.height c.args.link (omega (arith, c.if-height-eq0.false)) c.requires.well c.requires.sums in
    omega (arith, is.some, ap length c.links-links.ensures.links)

pub size-requires : goal.size-requires
size-requires g t c =
    let is = sized c.args.heap.now c.args.height c.args.link (omega (arith, c.if-height-eq0.false)) c.requires.well c.requires.sums in
    let at = last-place c.links-links.result.now (links_at c.args.heap.now c.args.link) c.index-links-last.result c.index-links-last.is c.links-links.ensures.links is.some in
    let well : IsWell (form_at c.args.heap.now) (c.args.height - 1) c.index-links-last.result = rw at is.well in
    let sums : HasSums c.args.heap.now (c.args.height - 1) c.index-links-last.result = rw at is.sums in
    let short : length (seq_at (form_at c.args.heap.now) (c.args.height - 1) c.index-links-last.result) < 2 ^ 32 = rw at (omega (arith, parts g t c.before, c.requires.short)) in
    search rules

-- the same after the last one is counted
whole : (g : Over) (t : ℕ) (c : goal.the-here-After-size g.row.T g.T.laws t) → c.full_size-before.result + c.size.result ≡ length (seq_at (form_at c.args.heap.now) c.args.height c.args.link)
whole g t c =
    let is = sized c.args.heap.now c.args.height c.args.link (omega (arith, c.if-height-eq0.false)) c.requires.well c.requires.sums in
    let at = last-place c.links-links.result.now (links_at c.args.heap.now c.args.link) c.index-links-last.result c.index-links-last.is c.links-links.ensures.links is.some in
    let value : c.size.result ≡ length (seq_at (form_at c.args.heap.now) (c.args.height - 1) (get_or (links_at c.args.heap.now c.args.link) (length (links_at c.args.heap.now c.args.link) - 1) 0)) = rw at at c.size.ensures.value in
    omega (arith, value, parts g t c.before.before)

pub overflow_add-result : goal.overflow_add-result
overflow_add-result g t c =
    let fits : c.full_size-before.result + c.size.result < 2 ^ 32 = omega (arith, whole g t c, c.requires.short) in
    search rules

pub returns-clause-value : goal.returns-clause-value
returns-clause-value g t c = whole g t c
