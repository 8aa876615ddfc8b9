use Rattle.std.proofs.Common.{[]}
use Rattle.std.proofs.lemmas.Result.{IfOk-weaker}
use Rattle.map_tests.proofs.trie_versions.no_entries.Goals as goal

pub returns-clause-good : goal.returns-clause-good
returns-clause-good g c = IfOk-weaker c.empty.result _ _ (λ l is. ([], is)) (c.empty.ensures.entries c.args.bits)
