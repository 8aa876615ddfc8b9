use Rattle.vector_tests.proofs.GivenUpLemmas.{answered-beside, given-back}
use Rattle.vector_tests.proofs.joins.erases_as_the_list.Goals as goal

pub returns : goal.returns
returns c = given-back (rw (c.from_root.ensures, c.into_root-new.ensures) (answered-beside c.in_ok-erase.ensures.answered)) c.release.ensures.releases c.release.ensures.vectors
