use Rattle.std.proofs.Common.{rules, ◌≡◌, ℕ, suc, ◌+◌, ◌-◌, List, [], ◌∷◌, ◌++◌, length, sym, subst, ◌∙◌, refl, arith}
use Rattle.elem_core.specs.Shown.{name_bytes}
use Rattle.shell_io.proofs.FaultLemmas.{Calls-as, Calls-then}
use Rattle.ewig_shell.specs.Step.{given, chain_name, chain_names, most_stored}
use Rattle.ewig_shell.specs.Chaining.{AreFetched, IsReadAs}
use Rattle.ewig_shell.proofs.ChainLemmas.{total, none-taken, taken-at, left-then, untaken-at, reads-first, names-one}
use Rattle.ewig_shell.proofs.chained.chain_of.Goals as goal

pub returns-in_err-first-clause-fault : goal.returns-in_err-first-clause-fault
returns-in_err-first-clause-fault g c =
    let held = g.D.Store.held c.args.store.now in
    untaken-at held held (name_bytes c.args.file) c.as_str.result.now 0 c.args.count [] most_stored c.in_err-first.field-0.0 c.from_residual.result refl (none-taken held (name_bytes c.args.file)) refl (omega (arith, c.requires.some))
    c.as_str.ensures.shown c.in_err-first.ensures.fault c.from_residual.ensures.1

pub loop-number-init : goal.loop-number-init
loop-number-init g c =
    let held = g.D.Store.held c.args.store.now in
    let bytes = c.in_ok-first.first.items in
    let many : c.len-room.result ≡ length bytes = search rules in
    record {
      files = bytes ∷ [];
      fetched = taken-at held held (name_bytes c.args.file) c.as_str.result.now 0 [] most_stored bytes refl (none-taken held (name_bytes c.args.file)) refl c.as_str.ensures.shown c.in_ok-first.ensures.taken c.in_ok-first.ensures.few;
      left = subst (λ (n : ℕ). most_stored - n + total (bytes ∷ []) ≡ most_stored) (sym many) (left-then [] most_stored bytes refl c.in_ok-first.ensures.few);
      read = subst (λ (w : List ℕ). IsReadAs c.args.bits (w ∷ []) c.chain_start-found.result) c.deref.ensures.value
          (reads-first c.args.bits c.deref.result.now c.chain_start-found.result c.chain_start-found.ensures.chain c.chain_start-found.ensures.is_chain c.chain_start-found.ensures.bits c.chain_start-found.ensures.whole c.chain_start-found.ensures.damage);
      same = c.taken_file.ensures.same;
      calls = Calls-as c.taken_file.ensures.calls (λ failed. let both = sym c.in_ok-first.was ∙ failed in cc) (λ q. absurd q);
      some = omega arith;
      few = c.requires.some;
    }

pub returns-in_err-more-clause-fault : goal.returns-in_err-more-clause-fault
returns-in_err-more-clause-fault g c =
    let so_far = c.loop-number.invariant in
    let file = name_bytes c.args.file in
    let named : c.deref-in-loop-number.result.now ≡ chain_name file c.loop-number.number = c.deref-in-loop-number.ensures.0 ∙ c.numbered.ensures ∙ sym (names-one file c.loop-number.number so_far.some) in
    untaken-at (g.D.Store.held c.loop-number.store) (g.D.Store.held c.args.store.now) file c.deref-in-loop-number.result.now c.loop-number.number c.args.count so_far.files c.loop-number.room c.in_err-more.field-0.0 c.from_residual-in_err-more.result
    so_far.same so_far.fetched so_far.left (search (arith, c.loop-number-test.true)) named c.in_err-more.ensures.fault c.from_residual-in_err-more.ensures.1

pub loop-number-preserved : goal.loop-number-preserved
loop-number-preserved g c =
    let so_far = c.loop-number.invariant in
    let file = name_bytes c.args.file in
    let bytes = c.in_ok-more.more.items in
    let named : c.deref-in-loop-number.result.now ≡ chain_name file c.loop-number.number = c.deref-in-loop-number.ensures.0 ∙ c.numbered.ensures ∙ sym (names-one file c.loop-number.number so_far.some) in
    let many : c.len-room-in-loop-number.result ≡ length bytes = search rules in
    let one : suc c.loop-number.number ≡ c.loop-number.number + 1 = omega arith in
    record {
      files = so_far.files ++ bytes ∷ [];
      fetched = subst (λ (n : ℕ). AreFetched (g.D.Store.held c.args.store.now) (chain_names file n) (given (so_far.files ++ bytes ∷ []))) one (taken-at (g.D.Store.held c.loop-number.store) (g.D.Store.held c.args.store.now) file c.deref-in-loop-number.result.now c.loop-number.number so_far.files c.loop-number.room bytes so_far.same so_far.fetched so_far.left named c.in_ok-more.ensures.taken c.in_ok-more.ensures.few);
      left = subst (λ (n : ℕ). c.loop-number.room - n + total (so_far.files ++ bytes ∷ []) ≡ most_stored) (sym many) (left-then so_far.files c.loop-number.room bytes so_far.left c.in_ok-more.ensures.few);
      read = subst (λ (w : List ℕ). IsReadAs c.args.bits (so_far.files ++ w ∷ []) c.with_more-found.result) c.deref-in-loop-number-2.ensures.value (c.with_more-found.ensures c.args.bits so_far.files so_far.read);
      same = c.taken_file-in-loop-number.ensures.same ∙ so_far.same;
      calls = Calls-then so_far.calls (λ q. q) (Calls-as c.taken_file-in-loop-number.ensures.calls (λ failed. let both = sym c.in_ok-more.was ∙ failed in cc) (λ q. absurd q));
      some = omega arith;
      few = search (arith, c.loop-number-test.true);
    }
