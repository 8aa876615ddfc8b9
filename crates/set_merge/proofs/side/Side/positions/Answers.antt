use Rattle.std.proofs.Common.{◌∙◌, sym, ap, subst}
use Rattle.champ_trie.proofs.BitLemmas.{has-none}
use Rattle.set_merge.specs.Side.{has_place, IsLow}
use Rattle.set_merge.proofs.PositionLemmas.{has-or}
use Rattle.set_merge.proofs.side.Side.positions.Goals as goal

pub returns-in-Empty : goal.returns-in-Empty
returns-in-Empty c = λ p small. has-none p ∙ sym (ap (λ s. has_place s p) c.in-Empty.is)

pub with_position-requires-clause-position : goal.with_position-requires-clause-position
with_position-requires-clause-position c = subst IsLow c.in-Lone.is c.requires

pub with_position-requires-clause-free : goal.with_position-requires-clause-free
with_position-requires-clause-free c = has-none c.in-Lone.at

pub returns-in-Row : goal.returns-in-Row
returns-in-Row c = λ p small. has-or c.in-Row.entries c.in-Row.nodes p ∙ sym (ap (λ s. has_place s p) c.in-Row.is)
