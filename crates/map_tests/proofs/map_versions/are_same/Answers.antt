use Rattle.std.proofs.Common.{sym, subst}
use Rattle.map_tests.specs.Stands.{IsCellMap}
use Rattle.map_tests.proofs.map_versions.are_same.Goals as goal

pub equal_cells-same-requires-clause-first : goal.equal_cells-same-requires-clause-first
equal_cells-same-requires-clause-first g c = subst (λ h. IsCellMap g.T.Ord.cmp g.T.Element.code_of h c.args.first) (sym c.new.ensures) c.requires.first

pub equal_cells-same-requires-clause-second : goal.equal_cells-same-requires-clause-second
equal_cells-same-requires-clause-second g c = subst (λ h. IsCellMap g.T.Ord.cmp g.T.Element.code_of h c.args.second) (sym c.new.ensures) c.requires.second
