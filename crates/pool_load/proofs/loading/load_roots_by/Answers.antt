use Rattle.std.proofs.Common.{◌≡◌, ◌+◌, ℕ, List, [], Some, map, length, ap, sym, subst, ◌∙◌, arith}
use Rattle.std.specs.Prelude.{slice_index}
use Rattle.std.proofs.lemmas.List.{length-map}
use Rattle.node_heap.specs.Links.{count}
use Rattle.node_heap.specs.Forms.{Form}
use Rattle.node_heap.specs.Calls.{Builds}
use Rattle.pool_text.specs.Rows.{Bytes, row_form}
use Rattle.pool_text.specs.Rules.{present_rules, rules_of}
use Rattle.pool_text.specs.declared.pool.Pool.{Pool}
use Rattle.pool_text.specs.declared.row.Row.{Row}
use Rattle.pool_check.specs.Damages.{HasValidRows}
use Rattle.pool_load.specs.Loads.{Loads, AreRowsLoaded, AreValuedByPlace, cells_of, nodes_of}
use Rattle.pool_load.specs.Rows.{AreSound, HaveLengths}
use Rattle.pool_load.specs.Making.{AreMade, GivesUp, AreReachedWithout}
use Rattle.pool_load.proofs.Loaded.{sound-rows, roots-below, kinds-add-up, AreHeld, own-held, reached-without, are-loaded, are-valued, all-loaded, rows-loaded, need-kept}
use Rattle.pool_load.proofs.Valued.{same-valued}
use Rattle.pool_load.proofs.loading.load_roots_by.Given.{Over}
use Rattle.pool_load.proofs.loading.load_roots_by.Goals as goal
use Rattle.pool_load.proofs.loading.load_roots_by.Goals.{After-hold_places}

-- the rows are those of the pool, and are valid
record AreRowsOf (P : Pool) (rows : List Row) : Type 0 where
  pub valid : HasValidRows present_rules P
  pub forms : map row_form rows ≡ P.rows
  pub many : length rows ≡ length P.rows
  pub cells : cells_of (map row_form rows) ≡ cells_of P.rows
  pub nodes : nodes_of (map row_form rows) ≡ nodes_of P.rows
  pub kinds : cells_of P.rows + nodes_of P.rows ≡ length P.rows

-- so they are, where they were read of a pool that is this one
rows-of : {P Q : Pool} (rows : List Row) → Q ≡ P → HasValidRows present_rules Q → map row_form rows ≡ Q.rows → AreRowsOf P rows
rows-of {P} rows same valid read =
    let forms : map row_form rows ≡ P.rows = read ∙ ap (λ (Q : Pool). Q.rows) same in
    record {
      valid = subst (HasValidRows present_rules) same valid;
      forms = forms;
      many = sym (length-map rows row_form) ∙ ap length forms;
      cells = ap (λ (rs : List (Form Bytes)). cells_of rs) forms;
      nodes = ap (λ (rs : List (Form Bytes)). nodes_of rs) forms;
      kinds = kinds-add-up P.rows;
    }

roots-of : {P Q : Pool} {ks : List ℕ} → Q ≡ P → ks ≡ Q.roots → ks ≡ P.roots
roots-of same read = read ∙ ap (λ (Q : Pool). Q.roots) same

-- the rows that were made, and the roots among them, each held once more
held : (g : Over) (c : After-hold_places g) → AreHeld g.C.CellValues.bytes_of c.reserve.new.self c.make_rows.new.heap c.hold_places.new.heap c.args.checked c.make_rows.new.links.items
held g c =
    let P : Pool = c.args.checked in
    let rows = rows-of c.into_vec.result.items c.into_pool-rows.ensures.same c.into_pool-rows.ensures.rows c.into_vec.ensures in
    let links : List ℕ = c.make_rows.new.links.items in
    let roots = roots-of c.into_pool-rows.ensures.same c.as_slice-3.ensures in
    let places : map (slice_index c.as_slice-2.result.now) c.as_slice-3.result.now ≡ map (slice_index links) P.roots =
    ap (λ (ls : List ℕ). map (slice_index ls) c.as_slice-3.result.now) c.as_slice-2.ensures.value ∙ ap (map (slice_index links)) roots in
    record {
      valid = rows.valid;
      graph = c.reserve.ensures.rest.graph;
      rows = subst (λ (rs : List (Form Bytes)). AreMade g.C.CellValues.bytes_of c.reserve.new.self c.make_rows.new.heap rs links) rows.forms c.make_rows.ensures.made;
      many = c.make_rows.ensures.many ∙ rows.many;
      same = c.hold_places.ensures.rows;
      held = subst (λ (ks : List ℕ). Builds c.make_rows.new.heap c.hold_places.new.heap [] ks 0 0) places c.hold_places.ensures.builds;
    }

pub lengths_of-requires : goal.lengths_of-requires
lengths_of-requires g c =
    let rows = rows-of c.as_slice-rows.result.now c.pool-pool.ensures.same c.pool-pool.ensures.rows c.as_slice-rows.ensures in
    record { sound = subst AreSound (sym rows.forms) (sound-rows c.args.checked rows.valid) }

pub overflow_sub-rows : goal.overflow_sub-rows
overflow_sub-rows g c =
    let rows = c.as_slice-rows.result.now in
    omega (arith, c.count_cells-cells.ensures, kinds-add-up (map row_form rows), length-map rows row_form)

pub make_rows-requires : goal.make_rows-requires
make_rows-requires g c =
    let was = rows-of c.as_slice-rows.result.now c.pool-pool.ensures.same c.pool-pool.ensures.rows c.as_slice-rows.ensures in
    let now = rows-of c.into_vec.result.items c.into_pool-rows.ensures.same c.into_pool-rows.ensures.rows c.into_vec.ensures in
    let spares = c.in_ok-reserve.ensures.spares in
    let rest = c.reserve.ensures.rest in
    record {
      sound = subst AreSound (sym now.forms) (sound-rows c.args.checked now.valid);
      lengths =
          subst (λ (rs : List (Form Bytes)). HaveLengths rs c.as_slice.result.now) (was.forms ∙ sym now.forms)
          (subst (HaveLengths (map row_form c.as_slice-rows.result.now)) (sym c.as_slice.ensures.value) c.in_ok-lengths.ensures.lengths);
      known = ap length c.as_slice.ensures.value ∙ c.in_ok-lengths.ensures.many ∙ was.many ∙ sym now.many;
      empty = c.in_ok-links.ensures.items;
      room = omega (arith, c.in_ok-links.ensures.capacity);
      spares = (omega (arith, spares.0, c.count_cells-cells.ensures), omega (arith, spares.1, c.count_cells-cells.ensures));
      few = omega (arith, c.requires.few, rest.count, spares.0, spares.1, c.count_cells-cells.ensures, rest.graph.few_rows);
      graph = rest.graph;
    }

pub hold_places-requires : goal.hold_places-requires
hold_places-requires g c =
    let P : Pool = c.args.checked in
    let was = rows-of c.as_slice-rows.result.now c.pool-pool.ensures.same c.pool-pool.ensures.rows c.as_slice-rows.ensures in
    let now = rows-of c.into_vec.result.items c.into_pool-rows.ensures.same c.into_pool-rows.ensures.rows c.into_vec.ensures in
    let roots = roots-of c.into_pool-rows.ensures.same c.as_slice-3.ensures in
    let made = c.make_rows.ensures.made in
    let many : length c.as_slice-2.result.now ≡ length P.rows = ap length c.as_slice-2.ensures.value ∙ c.make_rows.ensures.many ∙ now.many in
    let spares = c.in_ok-reserve.ensures.spares in
    let rest = c.reserve.ensures.rest in
    record {
      live = λ k has. made.graph.held k (omega (arith, made.holds k, has, ap (count k) c.as_slice-2.ensures.value));
      places = roots-below P now.valid (length c.as_slice-2.result.now) c.as_slice-3.result.now many roots;
      few = omega (arith, c.requires.few, rest.count, made.count, c.make_rows.ensures.many, spares.0, spares.1, c.count_cells-cells.ensures, rest.graph.few_rows, ap length roots, c.requires.few_roots);
      graph = made.graph;
    }

pub put_links-requires : goal.put_links-requires
put_links-requires g c =
    let rows = rows-of c.into_vec.result.items c.into_pool-rows.ensures.same c.into_pool-rows.ensures.rows c.into_vec.ensures in
    let was = roots-of c.pool-pool.ensures.same c.as_slice-places.ensures in
    let roots = roots-of c.into_pool-rows.ensures.same c.as_slice-5.ensures in
    record {
      empty = c.in_ok-roots.ensures.items;
      room = omega (arith, c.in_ok-roots.ensures.capacity, ap length was, ap length roots);
      places = roots-below c.args.checked rows.valid (length c.as_slice-4.result.now) c.as_slice-5.result.now (ap length c.as_slice-4.ensures.value ∙ c.make_rows.ensures.many ∙ rows.many) roots;
    }

pub release_all-requires : goal.release_all-requires
release_all-requires g c =
    let is = held g (goal.at.release_all-requires g c).After-hold_places in
    record {
      held = λ k. omega (arith, own-held is k, ap (count k) c.as_slice-6.ensures.value);
      reached = subst (λ (ls : List ℕ). AreReachedWithout c.hold_places.new.heap ls) (sym c.as_slice-6.ensures.value) (reached-without is);
      graph = c.hold_places.ensures.builds.graph;
    }

pub returns : goal.returns
returns g c =
    let P : Pool = c.args.checked in
    let was = rows-of c.as_slice-rows.result.now c.pool-pool.ensures.same c.pool-pool.ensures.rows c.as_slice-rows.ensures in
    let new = c.release_all.new.heap in
    let is = held g (goal.at.returns g c).After-hold_places in
    let links : List ℕ = c.make_rows.new.links.items in
    let up = subst (λ (ls : List ℕ). GivesUp c.hold_places.new.heap new ls) c.as_slice-6.ensures.value c.release_all.ensures in
    let roots = roots-of c.into_pool-rows.ensures.same c.as_slice-5.ensures in
    let chosen : c.put_links.new.chosen.items ≡ map (slice_index links) P.roots =
    c.put_links.ensures ∙ ap (λ (ls : List ℕ). map (slice_index ls) c.as_slice-5.result.now) c.as_slice-4.ensures.value ∙ ap (map (slice_index links)) roots in
    record {
      loads = subst (λ (ks : List ℕ). Loads c.args.heap.now new ks P) (sym chosen) (all-loaded is up c.reserve.ensures.rest);
      loaded =
          subst (λ (ks : List ℕ). AreRowsLoaded g.C.CellValues.bytes_of new ks P) (sym chosen)
          (are-loaded g.C.CellValues.bytes_of new P is.valid links (rows-loaded is up)
          (record {
            rules = subst (λ (Q : Pool). rules_of Q.version ≡ Some present_rules) c.pool-pool.ensures.same c.pool-pool.ensures.rules;
            bits = omega (arith, c.pool-pool.ensures.bits, ap (λ (Q : Pool). Q.bits) c.pool-pool.ensures.same);
            rows = is.valid;
          }));
      valued =
          let value = g.C.CellValues.value_at c.args.values.now in
          subst (λ (ks : List ℕ). AreValuedByPlace g.C.CellValues.bytes_of value new ks) (sym chosen)
          (are-valued g.C.CellValues.bytes_of new P is.valid links (rows-loaded is up) value
          (same-valued g.C.CellValues.bytes_of value c.hold_places.new.heap new links up.rows (same-valued g.C.CellValues.bytes_of value c.make_rows.new.heap c.hold_places.new.heap links c.hold_places.ensures.rows c.make_rows.ensures.valued)));
      roots = ap length chosen ∙ length-map P.roots (slice_index links);
      spares =
          need-kept is up c.in_ok-reserve.ensures.greater c.reserve.ensures.rest (c.count_cells-cells.ensures ∙ was.cells)
          (omega (arith, c.count_cells-cells.ensures, was.cells, was.many, was.kinds));
      refused = tt;
    }
