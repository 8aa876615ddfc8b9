use Rattle.pool_load.proofs.RootKinds.{loaded-of-kinds}
use Rattle.pool_load.proofs.laws.loaded_roots_are_of_kinds.Goals as goal

pub returns : goal.returns
returns g c h roots P kinds i kind loaded are at =
    loaded-of-kinds g.T.Stored.bytes_of h roots P loaded g.T.Ord.cmp g.T.Element.code_of g.met.T.Stored.text_order g.met.T.Stored.text_codes kinds are i kind at
