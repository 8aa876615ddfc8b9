use Rattle.std.proofs.Common.{ℕ, refl, subst}
use Rattle.std.specs.Prelude.{[], ◌∷◌, slice_index}
use Rattle.pool_check.specs.declared.root.RootKind.TheVariants.{Lines, Cells, CellMap, LinesMap}
use Rattle.pool_load.specs.Kinds.{IsMapTo, IsLines}
use Rattle.pool_tests.proofs.roots.loaded.Goals as goal

pub returns-clause-rows : goal.returns-clause-rows
returns-clause-rows g c = (c.in_ok-checked.checked, c.in_ok-roots.ensures.loaded)

pub returns-clause-lines : goal.returns-clause-lines
returns-clause-lines g c =
    let lines = c.loaded_roots_are_of_kinds.ensures c.load_roots.new.heap c.in_ok-roots.roots.items c.in_ok-checked.checked (Lines ∷ Cells ∷ CellMap ∷ LinesMap ∷ []) 0 Lines c.in_ok-roots.ensures.loaded c.in_ok-checked.ensures.kinds refl in
    lines.good

pub returns-clause-map : goal.returns-clause-map
returns-clause-map g c =
    subst (λ (bits : ℕ). IsMapTo g.T.Ord.cmp g.T.Element.code_of bits c.load_roots.new.heap (IsLines g.T.Ord.cmp g.T.Element.code_of bits c.load_roots.new.heap) (slice_index c.in_ok-roots.roots.items 3)) c.in_ok-checked.ensures.bits
    (c.loaded_roots_are_of_kinds.ensures c.load_roots.new.heap c.in_ok-roots.roots.items c.in_ok-checked.checked (Lines ∷ Cells ∷ CellMap ∷ LinesMap ∷ []) 3 LinesMap c.in_ok-roots.ensures.loaded c.in_ok-checked.ensures.kinds refl)
