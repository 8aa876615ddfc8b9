use Rattle.std.proofs.Common.{◌≡◌, Bool, List, ℕ, length, ap, sym, subst, ◌∙◌}
use Rattle.std.specs.Result.{IfOk}
use Rattle.pool_check.proofs.RootLemmas.{roots-outside, roots-in-batch}
use Rattle.pool_check.proofs.kinds.roots_are_of_kind.Goals as goal

pub returns-then-as_slice-eq5 : goal.returns-then-as_slice-eq5
returns-then-as_slice-eq5 c =
    let many : length c.args.pool.now.roots ≡ 5 = ap (λ (ks : List ℕ). length ks) (sym c.as_slice.ensures) ∙ c.if-as_slice-eq5.true in
    subst (λ (b : Bool). IfOk c.roots_are_of.result (λ are. are ≡ b)) (roots-in-batch c.args.pool.now many) c.roots_are_of.ensures

pub returns : goal.returns
returns c =
    subst (λ (b : Bool). IfOk c.roots_are_of-2.result (λ are. are ≡ b)) (roots-outside c.args.pool.now (λ many. c.if-as_slice-eq5.false (ap (λ (ks : List ℕ). length ks) c.as_slice.ensures ∙ many))) c.roots_are_of-2.ensures
