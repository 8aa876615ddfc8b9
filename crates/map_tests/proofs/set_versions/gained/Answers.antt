use Rattle.std.proofs.Common.{◌≡◌, ◌≢◌, ℕ, Option, Some, None, refl, sym, subst}
use Rattle.std.specs.Prelude.{IfOk}
use Rattle.std.proofs.lemmas.Option.{none-some}
use Rattle.champ_chain.specs.Entry.{link_with}
use Rattle.champ_kinds.specs.Root.{Root}
use Rattle.champ_kinds.specs.Stands.{IsSomeSet}
use Rattle.champ_kinds.proofs.StayLemmas.{sets-kept}
use Rattle.map_tests.proofs.set_versions.gained.Goals as goal

either : {P : Type 0} (found : Option ℕ) → (found ≢ None → P) → (found ≡ None → P) → P
either None there absent = absent refl
either (Some x) there absent = there (λ is. none-some x (sym is))

pub returns-clause-good : goal.returns-clause-good
returns-clause-good g c =
    let IsSet = λ (r : Root). IsSomeSet g.T.Ord.cmp g.T.Element.code_of c.set_insert.new.heap r in
    let E = c.requires.good in
    let made = c.in_ok-made.ensures in
    subst IsSet (sym c.held.ensures)
    (either (link_with g.T.Ord.cmp c.args.key E.0)
    (λ there. subst (λ r. IfOk r IsSet) (sym (made.present E.0 E.1 there).0) (sets-kept g.T.Ord.cmp g.T.Element.code_of made.containers c.args.set E))
    (λ absent. (_, (made.added E.0 E.1 absent).1)))

pub returns-clause-others : goal.returns-clause-others
returns-clause-others g c = sets-kept g.T.Ord.cmp g.T.Element.code_of c.in_ok-made.ensures.containers
