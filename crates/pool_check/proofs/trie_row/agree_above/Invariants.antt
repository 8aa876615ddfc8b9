use Rattle.std.proofs.Common.{◌≡◌, true, take, get_or, ◌%◌, ◌^◌, ◌*◌}
use Rattle.std.specs.Prelude.{nat_eq}
use Rattle.std.specs.List.{list_all}
use Rattle.pool_check.proofs.trie_row.agree_above.Given as goal

abbrev pub invariant-loop-code : goal.invariant-loop-code
invariant-loop-code l =
    list_all (λ c. nat_eq (get_or l.codes 0 0 % 2 ^ (5 * l.fn.depth)) (c % 2 ^ (5 * l.fn.depth))) (take l.code-index l.codes) ≡ true
