use Rattle.state_rows.proofs.HeapRoots.{roots-stand}
use Rattle.state_rows.proofs.laws.roots_stand.Goals as goal

pub returns : goal.returns
returns c h bits roots W graph live sums stands = roots-stand h bits roots W graph live sums stands
