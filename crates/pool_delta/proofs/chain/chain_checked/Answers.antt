use Rattle.std.proofs.Common.{◌≡◌, ℕ, ap, sym, subst, ◌∙◌, arith, rules}
use Rattle.node_heap.specs.Links.{count}
use Rattle.pool_text.specs.Pool.{forms_in, row_count, settings_by, pool}
use Rattle.pool_text.specs.declared.pool.Pool.{Pool}
use Rattle.pool_check.proofs.TestLemmas.{roots-low}
use Rattle.pool_delta.specs.Chains.{IsChain, chain_pool}
use Rattle.pool_delta.proofs.ChainCode.{chain-back, rows-linked, IsMade, chain-made, present-rules-are, history-fits}
use Rattle.pool_delta.proofs.chain.chain_checked.Goals as goal

pub pool_of_rows-requires-clause-linked : goal.pool_of_rows-requires-clause-linked
pool_of_rows-requires-clause-linked g c =
    let D : Pool = c.pool-pool.result.now in
    rows-linked D (chain-back D (subst IsChain (sym c.pool-pool.ensures.same) c.chain.invariant))

pub pool_of_rows-requires-clause-roots : goal.pool_of_rows-requires-clause-roots
pool_of_rows-requires-clause-roots g c =
    let D : Pool = c.pool-pool.result.now in
    λ r some. roots-low D (chain-back D (subst IsChain (sym c.pool-pool.ensures.same) c.chain.invariant)) r (omega (arith, some, ap (count r) c.as_slice.ensures))

pub of_valid-requires : goal.of_valid-requires
of_valid-requires g c =
    let D : Pool = c.pool-pool.result.now in
    let P : Pool = c.in_ok-made.made in
    let chained : IsChain D = subst IsChain (sym c.pool-pool.ensures.same) c.chain.invariant in
    let is : IsMade D P = chain-made D P c.as_slice.result.now chained c.as_slice.ensures c.in_ok-made.ensures.value in
    record {
      valid = is.valid;
      rules = present-rules-are P is.version;
      history = history-fits P is.version (omega (arith, is.history, chained.history));
      roots = is.roots ∙ chained.roots;
      bits = omega (arith, is.bits, chained.bits);
    }

pub returns-clause-value : goal.returns-clause-value
returns-clause-value g c =
    let C : Pool = c.chain.inside.tested in
    let here : C ≡ c.args.chain = cc in
    let D : Pool = c.pool-pool.result.now in
    let same : c.of_valid.result ≡ c.in_ok-made.made = search rules in
    same ∙ c.in_ok-made.ensures.value ∙ ap (λ ks. pool (row_count D) (forms_in D) ks (settings_by D.bits D.history)) c.as_slice.ensures ∙ ap (λ (P : Pool). chain_pool P) (c.pool-pool.ensures.same ∙ here)

pub returns-clause-bits : goal.returns-clause-bits
returns-clause-bits g c =
    let C : Pool = c.chain.inside.tested in
    let here : C ≡ c.args.chain = cc in
    let D : Pool = c.pool-pool.result.now in
    let P : Pool = c.in_ok-made.made in
    let chained : IsChain D = subst IsChain (sym c.pool-pool.ensures.same) c.chain.invariant in
    let same : c.of_valid.result ≡ P = search rules in
    ap (λ (Q : Pool). Q.bits) same ∙ (chain-made D P c.as_slice.result.now chained c.as_slice.ensures c.in_ok-made.ensures.value).bits ∙ ap (λ (Q : Pool). Q.bits) (c.pool-pool.ensures.same ∙ here)
