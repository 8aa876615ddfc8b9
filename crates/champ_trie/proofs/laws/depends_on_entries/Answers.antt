use Rattle.std.proofs.Common.{ap}
use Rattle.elem_core.specs.Codes.{masked_code}
use Rattle.champ_trie.proofs.CanonLemmas.{follows-entries, follows-trees, takes-any-order, has-one-set, names-keys}
use Rattle.champ_trie.proofs.TreeLemmas.{entries-tell}
use Rattle.champ_trie.proofs.SimilarLemmas.{similar-entries-tell}
use Rattle.champ_trie.specs.Trie.{code_by}
use Rattle.champ_trie.proofs.laws.depends_on_entries.Goals as goal

pub returns-clause-entries : goal.returns-clause-entries
returns-clause-entries g c = λ bits. follows-entries g.T.Ord.cmp (code_by g.T.Element.code_of bits) g.met.T.Ord.total

pub returns-clause-set : goal.returns-clause-set
returns-clause-set g c = λ bits. has-one-set g.T.Ord.cmp (code_by g.T.Element.code_of bits) g.met.T.Ord.total

pub returns-clause-order : goal.returns-clause-order
returns-clause-order g c = λ bits. takes-any-order g.T.Ord.cmp (code_by g.T.Element.code_of bits) g.met.T.Ord.total

pub returns-clause-trees : goal.returns-clause-trees
returns-clause-trees g c = λ bits. follows-trees g.T.Ord.cmp (code_by g.T.Element.code_of bits) g.met.T.Ord.total

pub returns-clause-equal : goal.returns-clause-equal
returns-clause-equal g c = λ bits. entries-tell g.T.Ord.cmp (code_by g.T.Element.code_of bits) g.met.T.Ord.total

pub returns-clause-keys : goal.returns-clause-keys
returns-clause-keys g c = λ bits. names-keys g.T.Ord.cmp (code_by g.T.Element.code_of bits)

pub returns-clause-similar : goal.returns-clause-similar
returns-clause-similar g c = λ bits. similar-entries-tell g.T.Ord.cmp (code_by g.T.Element.code_of bits) g.met.T.Ord.total (λ x y e. ap (λ n. masked_code n bits) (g.met.T.Element.equal_codes x y e))
