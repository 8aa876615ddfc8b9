use Rattle.std.proofs.Common.{◌≡◌, refl, sym, subst}
use Rattle.std.proofs.lemmas.Bool.{eqb-true}
use Rattle.node_heap.specs.Heap.{form_at}
use Rattle.node_heap.specs.Glass.{lent}
use Rattle.same_value.specs.CompareLaws.{pair-itself}
use Rattle.same_value.specs.Entries.{IsSamePair}
use Rattle.same_value.proofs.entries.EqualPairsCompares.are_same.Goals as goal

pub returns-then-eq-clause-same : goal.returns-then-eq-clause-same
returns-then-eq-clause-same g c =
    let h = lent c.args.glass.now in
    let values = c.args.self.now.values in
    let IsGood = g.V.Compares.good values h in
    let IsSame = g.V.Compares.same values h in
    let same : c.args.both.left ≡ c.args.both.right = eqb-true c.args.both.left c.args.both.right (sym c.if-eq.ensures) in (
      λ yes. subst (IsSamePair (form_at h) g.T.Ord.cmp IsSame c.args.both.left) same
          (pair-itself g.T.Ord.cmp g.met.T.Ord.total (form_at h) IsGood IsSame (g.met.V.Compares.itself values h) c.args.both.left c.requires.left),
      λ pairs. refl,
    )
