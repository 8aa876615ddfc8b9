use Rattle.std.proofs.Common.{◌≡◌, ◌+◌, ◌<◌, ℕ, List, [], ◌∷◌, ◌++◌, Some, map, length, slice_get, ap, sym, subst, ◌∙◌, arith, length-append}
use Rattle.std.proofs.lemmas.List.{length-map}
use Rattle.std.proofs.lemmas.Iterator.Adapters.{YieldsList-from_vec}
use Rattle.std.proofs.lemmas.Iterator.Consumers.{YieldsList-turn, YieldsList-end}
use Rattle.node_heap.specs.Forms.{Form}
use Rattle.node_heap.specs.Heap.{Heap}
use Rattle.pool_text.specs.Rows.{Bytes, row_form}
use Rattle.pool_load.specs.Rows.{AreSound, HaveLengths}
use Rattle.pool_load.specs.Making.{CanMake, MakesPoolRow, AreMade, IsValued, AreValued}
use Rattle.pool_load.proofs.Steps.{get-map, can-make, one-more-made, none-made}
use Rattle.pool_load.proofs.Valued.{one-more-valued, none-valued}
use Rattle.pool_load.proofs.rows.make_rows.Given.{Over}
use Rattle.pool_load.proofs.rows.make_rows.Goals as goal
use Rattle.pool_load.proofs.rows.make_rows.Goals.{In-Some}

pub loop-row-init : goal.loop-row-init
loop-row-init g c = record {
  made = subst (AreMade g.C.CellValues.bytes_of c.args.heap.now c.args.heap.now (map row_form c.args.rows.items)) (sym c.requires.empty) (none-made g.C.CellValues.bytes_of c.args.heap.now (map row_form c.args.rows.items) c.requires.graph);
  valued = subst (AreValued g.C.CellValues.bytes_of (g.C.CellValues.value_at c.args.values.now) c.args.heap.now) (sym c.requires.empty) (none-valued g.C.CellValues.bytes_of (g.C.CellValues.value_at c.args.values.now) c.args.heap.now);
  count = ap length c.requires.empty;
  room = c.requires.room;
}

-- the row of this turn is the one after those that were made
turn : (g : Over) (c : In-Some g) → (length c.loop-row.yielded < length c.args.rows.items) × (slice_get (map row_form c.args.rows.items) (length c.loop-row.links.items) ≡ Some (row_form c.in-Some.row))
turn g c =
    let items = c.args.rows.items in
    let gives = c.into_iter-row-iterator.ensures.into_iter_gives in
    let at = YieldsList-turn (YieldsList-from_vec items gives.0 (gives.1 ∙ c.args.rows.ok.0)) c.loop-row.yielded c.loop-row.row-iterator c.loop-row.yielded_by c.next.result c.next.new.self c.in-Some.row c.in-Some.is c.next.ensures.steps in
    (at.0, ap (slice_get (map row_form items)) c.loop-row.invariant.count ∙ get-map row_form items (length c.loop-row.yielded) c.in-Some.row at.0 at.1)

pub make_row-link-requires : goal.make_row-link-requires
make_row-link-requires g c =
    let items = c.args.rows.items in
    let many : length (map row_form items) ≡ length items = length-map items row_form in
    subst (λ (ls : List ℕ). CanMake c.loop-row.heap ls c.args.lengths.now (row_form c.in-Some.row)) (sym {A = List ℕ} c.as_slice.ensures.value)
    (can-make (map row_form items) c.loop-row.links.items c.args.lengths.now (row_form c.in-Some.row) c.loop-row.invariant.made (turn g (goal.at.make_row-link-requires g c).In-Some).1 c.requires.sound c.requires.lengths (c.requires.known ∙ sym many) c.requires.spares (omega (arith, c.requires.few, many)))

pub push_reserved-requires : goal.push_reserved-requires
push_reserved-requires g c =
    omega (arith, c.loop-row.links.ok.0, c.loop-row.invariant.count, c.loop-row.invariant.room, (turn g (goal.at.push_reserved-requires g c).In-Some).0)

one-longer : (xs ys : List ℕ) (x : ℕ) → ys ≡ xs ++ x ∷ [] → length ys ≡ length xs + 1
one-longer xs ys x e = omega (arith, ap length e, length-append xs (x ∷ []))

-- one more row, where the links are read as a slice
next-made : {T : Type 0} (text : T → Bytes) {old mid new : Heap T} (rows : List (Form Bytes)) (links seen longer lengths : List ℕ) (link : ℕ) (form : Form Bytes) → AreMade text old mid rows links → slice_get rows (length links) ≡ Some form → seen ≡ links → MakesPoolRow text mid new seen lengths form link → longer ≡ links ++ link ∷ []
    → AreSound rows → HaveLengths rows lengths → length lengths ≡ length rows → AreMade text old new rows longer
next-made text {old} {mid} {new} rows links seen longer lengths link form made at same makes e sound have known =
    subst (λ (ls : List ℕ). AreMade text old new rows ls) (sym e)
    (one-more-made text rows links lengths link form made at (subst (λ (ls : List ℕ). MakesPoolRow text mid new ls lengths form link) same makes) sound have known)

-- and its value, if it is a cell
next-valued : {T : Type 0} (text : T → Bytes) (value : ℕ → Bytes → T) {old mid new : Heap T} (rows : List (Form Bytes)) (links seen longer lengths : List ℕ) (link : ℕ) (form : Form Bytes) → AreMade text old mid rows links → seen ≡ links → MakesPoolRow text mid new seen lengths form link → longer ≡ links ++ link ∷ []
    → AreValued text value mid links → IsValued text (value (length seen)) new link → AreValued text value new longer
next-valued text value {old} {mid} {new} rows links seen longer lengths link form made same makes e valued one =
    subst (λ (ls : List ℕ). AreValued text value new ls) (sym e)
    (one-more-valued text value mid new links link (λ k has. made.graph.held k (omega (arith, made.holds k, has))) makes.comes.extends valued (subst (λ (ls : List ℕ). IsValued text (value (length ls)) new link) same one))

pub loop-row-preserved : goal.loop-row-preserved
loop-row-preserved g c =
    let items = c.args.rows.items in
    let at = (turn g (goal.at.loop-row-preserved g c).In-Some).1 in
    let many : length (map row_form items) ≡ length items = length-map items row_form in
    record {
      made = next-made g.C.CellValues.bytes_of (map row_form items) c.loop-row.links.items c.as_slice.result.now c.push_reserved.new.self.items c.args.lengths.now c.make_row-link.result (row_form c.in-Some.row) c.loop-row.invariant.made at c.as_slice.ensures.value c.make_row-link.ensures.made c.push_reserved.ensures.items c.requires.sound c.requires.lengths (c.requires.known ∙ sym many);
      valued =
          next-valued g.C.CellValues.bytes_of (g.C.CellValues.value_at c.args.values.now) (map row_form items) c.loop-row.links.items c.as_slice.result.now c.push_reserved.new.self.items c.args.lengths.now c.make_row-link.result (row_form c.in-Some.row)
          c.loop-row.invariant.made c.as_slice.ensures.value c.make_row-link.ensures.made c.push_reserved.ensures.items c.loop-row.invariant.valued c.make_row-link.ensures.valued;
      count = omega (arith, one-longer c.loop-row.links.items c.push_reserved.new.self.items c.make_row-link.result c.push_reserved.ensures.items, length-append c.loop-row.yielded (c.in-Some.row ∷ []), c.loop-row.invariant.count);
      room = omega (arith, c.loop-row.invariant.room, c.push_reserved.ensures.capacity);
    }

pub returns : goal.returns
returns g c =
    let gives = c.into_iter-row-iterator.ensures.into_iter_gives in
    let done = YieldsList-end (YieldsList-from_vec c.args.rows.items gives.0 (gives.1 ∙ c.args.rows.ok.0)) c.loop-row.yielded c.loop-row.row-iterator c.loop-row.yielded_by c.next.result c.next.new.self c.in-None.is c.next.ensures.steps in
    record { made = c.loop-row.invariant.made; valued = c.loop-row.invariant.valued; many = c.loop-row.invariant.count ∙ done.1 }
