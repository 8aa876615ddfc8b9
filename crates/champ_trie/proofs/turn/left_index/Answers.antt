use Rattle.std.proofs.Common.{◌≡◌, refl, sym, ◌∙◌, length, arith}
use Rattle.std.specs.Prelude.{nat_eq}
use Rattle.node_heap.specs.Heap.{one_at}
use Rattle.node_heap.proofs.CallerLemmas.{test_same, test_other}
use Rattle.champ_trie.proofs.TurnLemmas.{as_number, lone-left}
use Rattle.champ_trie.proofs.turn.left_index.Goals as goal

pub returns-in-Some : goal.returns-in-Some
returns-in-Some c = λ links inside one.
    let is = c.in-Some.is in
    let from : c.from.result ≡ one_at c.in-Some.out 0 = c.from.ensures ∙ as_number (nat_eq c.in-Some.out 0) in
    rw is (lone-left links c.in-Some.out c.from.result (rw is at inside) (rw is at one) (λ same. from ∙ test_same 0 c.in-Some.out (sym same)) (λ other. from ∙ test_other 0 c.in-Some.out (λ e. other (sym e))))

pub returns-in-None : goal.returns-in-None
returns-in-None c = λ links inside one.
    let is = c.in-None.is in
    let lone : length links ≡ 1 = rw is at one in
    (omega (arith, lone), rw is refl)
