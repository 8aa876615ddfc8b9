use Rattle.std.proofs.Common.{rules, arith, ℕ, ◌≡◌, ◌-◌, ◌<◌, ◌≤◌, suc, List, length, get_or, ap, sym, ◌∙◌}
use Rattle.node_heap.specs.Forms.{links_in}
use Rattle.node_heap.specs.Heap.{Heap, form_at, links_at}
use Rattle.rrb_core.specs.Seq.{seq_at, IsWell}
use Rattle.rrb_core.proofs.Lists.{one-list}
use Rattle.rrb_core.proofs.FillRule.{links-some, seq-leaf, one-below}
use Rattle.rrb_core.proofs.Stays.{well-live, links-form}
use Rattle.rrb_core.proofs.RowLists.{at-place}
use Rattle.rrb_core.proofs.search.+only_element.Goals as goal

-- a row with one element has links
some : {T : Type 0} (h : Heap T) (n l : ℕ) → IsWell (form_at h) n l → length (seq_at (form_at h) n l) ≡ 1 → 1 ≤ length (links_in (form_at h) l)
some h n l well one = links-some (form_at h) n l well (omega (arith, one))

-- and above leaves its first child has that one, in the words of the code
first : {T : Type 0} (h : Heap T) (n l child : ℕ) (ls : List ℕ) → 0 < n → IsWell (form_at h) n l → length (seq_at (form_at h) n l) ≡ 1 → child ≡ get_or ls 0 child → ls ≡ links_at h l
    → IsWell (form_at h) (n - 1) child × (seq_at (form_at h) n l ≡ seq_at (form_at h) (n - 1) child)
first h n l child ls up well one is links =
    let down : suc (n - 1) ≡ n = omega (arith, up) in
    let at : child ≡ get_or (links_in (form_at h) l) 0 0 = at-place ls (links_in (form_at h) l) 0 child is (links ∙ sym (links-form h l)) (some h n l well one) in
    rw at (rw down at (one-below (form_at h) (n - 1) l (rw down well) (rw down one)))

pub links-requires : goal.links-requires
links-requires g t c = well-live c.args.heap.now c.args.height c.args.link c.requires.well

pub bounds-links-0 : goal.bounds-links-0
bounds-links-0 g t c = omega (arith, some c.args.heap.now c.args.height c.args.link c.requires.well c.requires.one, ap length c.links.ensures.links, ap length (links-form c.args.heap.now c.args.link))

pub returns-then-height-eq0 : goal.returns-then-height-eq0
returns-then-height-eq0 g t c =
    let leaf : seq_at (form_at c.args.heap.now) c.args.height c.args.link ≡ c.links.result.now = seq-leaf (form_at c.args.heap.now) c.args.height c.args.link (omega (arith, c.if-height-eq0.true)) ∙ links-form c.args.heap.now c.args.link ∙ sym c.links.ensures.links in
    leaf ∙ one-list c.links.result.now c.index-links-0.result (omega (arith, ap length leaf, c.requires.one)) c.index-links-0.is

pub only_element-requires : goal.only_element-requires
only_element-requires g t c = λ κs within.
    let child = first c.args.heap.now c.args.height c.args.link c.index-links-0.result c.links.result.now (omega (arith, c.if-height-eq0.false)) c.requires.well c.requires.one c.index-links-0.is c.links.ensures.links in
    (search rules, (search rules, (child.0, sym (ap length child.1) ∙ c.requires.one)))

pub returns : goal.returns
returns g t c =
    let child = first c.args.heap.now c.args.height c.args.link c.index-links-0.result c.links.result.now (omega (arith, c.if-height-eq0.false)) c.requires.well c.requires.one c.index-links-0.is c.links.ensures.links in
    child.1 ∙ c.only_element.ensures
