use Rattle.champ_trie.proofs.StayLemmas.{canon-reach, canon-stays, canon-around}
use Rattle.champ_trie.proofs.RowLemmas.{trie-moved}
use Rattle.champ_trie.proofs.laws.tries_stay.Goals as goal

pub returns-clause-stay : goal.returns-clause-stay
returns-clause-stay g c = λ cmp code F G root E same canon. canon-stays F G root same cmp code E canon

pub returns-clause-reach : goal.returns-clause-reach
returns-clause-reach g c = λ cmp code F root E canon. canon-reach cmp code F root E canon

pub returns-clause-around : goal.returns-clause-around
returns-clause-around g c = λ cmp code F G root link E around canon. canon-around F G root link around cmp code E canon

pub returns-clause-anywhere : goal.returns-clause-anywhere
returns-clause-anywhere g c = λ cmp code F G left depth l m E moved same is. trie-moved cmp code F G left depth l m E moved same is
