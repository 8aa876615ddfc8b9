use Rattle.std.proofs.Common.{◌≡◌, ◌+◌, [], ◌∷◌, arith, ap, sym, subst, ◌∙◌}
use Rattle.node_heap.specs.Links.{count}
use Rattle.node_heap.specs.Heap.{holds_at, hold_count, one_at}
use Rattle.node_heap.proofs.CallerLemmas.{count-one}
use Rattle.versions.specs.Roots.{Makes}
use Rattle.versions.specs.Rooted.{IsListOf}
use Rattle.versions.proofs.ListLemmas.{lists-stay}
use Rattle.versions.proofs.making.shared.Goals as goal

pub returns : goal.returns
returns g c = λ xs is.
    let old = c.args.heap.now in
    let new = c.share.new.heap in
    let builds = c.share.ensures.shares.builds in
    let keeps = lists-stay old new builds.extends in
    subst (λ l. Makes IsListOf old new l xs) (sym (c.into_root.ensures ∙ c.share.ensures.same ∙ c.at.ensures)) (record {
      is = keeps c.args.root xs is;
      keeps = keeps;
      holds = λ k.
          let first : holds_at new k + 0 ≡ holds_at old k + count k (c.share.result ∷ []) = builds.holds k in
          omega (arith, first, count-one k c.share.result, ap (λ l. one_at l k) (c.share.ensures.same ∙ c.at.ensures));
      count = let all : hold_count new + 0 ≡ hold_count old + 1 = builds.total in omega (arith, all);
    })
