use Rattle.std.proofs.Common.{sym, subst}
use Rattle.std.specs.Prelude.{is_some}
use Rattle.champ_kinds.specs.Binding.{value_with}
use Rattle.champ_kinds.specs.Root.{Root}
use Rattle.map_tests.specs.Stands.{IsCellMap}
use Rattle.map_tests.proofs.StandLemmas.{cell-maps-stay, cells-left}
use Rattle.map_tests.proofs.map_versions.common.Goals as goal

pub returns-clause-good : goal.returns-clause-good
returns-clause-good g c =
    let M = c.requires.first in
    let N = c.requires.second in
    let made = c.in_ok-made.ensures in
    subst (λ (r : Root). IsCellMap g.T.Ord.cmp g.T.Element.code_of c.map_both.new.heap r) (sym c.held.ensures)
    (cells-left made.answered.extends g.T.Ord.cmp g.T.Element.code_of (λ b. is_some (value_with g.T.Ord.cmp b.key N.0)) M (made.contents M.0 N.0 M.1.map N.1.map))

pub returns-clause-others : goal.returns-clause-others
returns-clause-others g c = cell-maps-stay c.in_ok-made.ensures.answered.extends g.T.Ord.cmp g.T.Element.code_of
