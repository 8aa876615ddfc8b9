use Rattle.std.proofs.Common.{ℕ, ◌+◌, ◌≤◌, List, length, refl, sym, ap, ◌∙◌, arith}
use Rattle.std.specs.Prelude.{sum}
use Rattle.node_heap.specs.Links.{count, came, changed_links}
use Rattle.node_heap.specs.Forms.{links_of, is_node}
use Rattle.node_heap.specs.Heap.{holds_at, hold_count}
use Rattle.node_heap.specs.Layout.{graph_of, holds_in, places_at, owners_in, slot_at}
use Rattle.node_heap.proofs.Slots.{holds-room}
use Rattle.node_heap.proofs.Stored.{row-seen}
use Rattle.node_heap.proofs.Copied.{live-linked}
use Rattle.node_heap.proofs.Owned.{owners-room}
use Rattle.node_heap.proofs.PairLemmas.{count-without}
use Rattle.node_heap.proofs.Changed.{split-changed, long-changed, short-changed, few-changed, count-came, heap-changed, adds-changed}
use Rattle.node_heap.proofs.heap.Heap.changed.Given.{Over}
use Rattle.node_heap.proofs.heap.Heap.changed.Goals as goal
use Rattle.node_heap.proofs.heap.Heap.changed.Goals.{After-put_changed-place}

pub put_changed-place-requires-clause-node : goal.put_changed-place-requires-clause-node
put_changed-place-requires-clause-node g c = ap is_node (sym (row-seen c.self.invariant.counted c.self.view_is c.row.view_is)) ∙ c.requires.node

pub put_changed-place-requires-clause-out : goal.put_changed-place-requires-clause-out
put_changed-place-requires-clause-out g c = rw (sym (row-seen c.self.invariant.counted c.self.view_is c.row.view_is)) c.requires.out

pub put_changed-place-requires-clause-into : goal.put_changed-place-requires-clause-into
put_changed-place-requires-clause-into g c = rw (sym (row-seen c.self.invariant.counted c.self.view_is c.row.view_is)) c.requires.into

pub put_changed-place-requires-clause-short : goal.put_changed-place-requires-clause-short
put_changed-place-requires-clause-short g c =
    let row = row-seen c.self.invariant.counted c.self.view_is c.row.view_is in
    short-changed c.args.out c.args.into (links_of (graph_of c.self.inside.table.slots c.row.inside.place)) (c.self.invariant.counted.short c.row.inside.place) (rw (sym row) c.requires.out) (rw (sym row) c.requires.into) (rw (sym row) c.requires.room)

pub put_changed-place-requires-clause-room : goal.put_changed-place-requires-clause-room
put_changed-place-requires-clause-room g c l = omega (arith, owners-room c.self.invariant l)

pub put_changed-place-requires-clause-linked : goal.put_changed-place-requires-clause-linked
put_changed-place-requires-clause-linked g c l has = live-linked c.self.inside.table.slots c.self.invariant.counted c.row.inside.place l has

-- the links of the row that it was made of
abbrev links : (g : Over) (c : After-put_changed-place g) → List ℕ
links g c = links_of (graph_of c.self.inside.table.slots c.row.inside.place)

short : (g : Over) (c : After-put_changed-place g) → length (changed_links c.args.out c.args.into (links g c)) ≤ 32
short g c =
    let row = row-seen c.self.invariant.counted c.self.view_is c.row.view_is in
    short-changed c.args.out c.args.into (links g c) (c.self.invariant.counted.short c.row.inside.place) (rw (sym row) c.requires.out) (rw (sym row) c.requires.into) (rw (sym row) c.requires.room)

held : (g : Over) (c : After-put_changed-place g) → (l : ℕ) → count l (came c.args.into) + places_at c.self.inside.table.slots l ≤ owners_in (slot_at c.self.inside.table.slots l)
held g c l = holds-room c.self.inside.table.slots c.args.self.now.holds (sym (ap (λ h. h.holds) c.self.view_is)) c.self.invariant.counted l _ (count-came c.args.into (holds_at c.args.self.now) c.requires.held l)

pub invariant_of-self : goal.invariant_of-self
invariant_of-self g c =
    let counted = c.self.invariant.counted in
    let put = c.put_changed-place.ensures.makes in
    let row = row-seen counted c.self.view_is c.row.view_is in
    let made = (goal.at.invariant_of-self g c).After-put_changed-place in
    let xs = links g made in
    heap-changed (came c.args.into) put counted (short g made) (split-changed c.args.out c.args.into xs) (long-changed c.args.out c.args.into xs (rw (sym row) c.requires.into))
    (λ l some. live-linked c.self.inside.table.slots counted c.row.inside.place l (omega (arith, some, count-without c.args.out xs l))) (held g made) c.self.invariant put.spare_cells put.spare_nodes refl
    (few-changed c.args.into (sum (holds_in c.self.inside.table.slots)) c.self.invariant.few_holds (λ none. omega (arith, c.requires.few none, ap hold_count c.self.view_is))) c.saturating_add-self-inside.type_inv

pub returns : goal.returns
returns g c =
    let counted = c.self.invariant.counted in
    let put = c.put_changed-place.ensures.makes in
    let row = row-seen counted c.self.view_is c.row.view_is in
    let made = (goal.at.returns g c).After-put_changed-place in
    let xs = links g made in
    record {
      adds =
          rw row
          (adds-changed (came c.args.into) put counted (short g made) (split-changed c.args.out c.args.into xs) (long-changed c.args.out c.args.into xs (rw (sym row) c.requires.into))
          (λ l some. live-linked c.self.inside.table.slots counted c.row.inside.place l (omega (arith, some, count-without c.args.out xs l))) (held g made) c.self.invariant c.self.view_is (invariant_of-self g c) put.spare_cells put.spare_nodes refl
          c.saturating_add-self-inside.ensures);
    }
