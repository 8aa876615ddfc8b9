use Rattle.std.proofs.Common.{[], ◌∷◌, ◌++◌, ap, sym, subst, ◌∙◌}
use Rattle.champ_kinds.specs.Root.{Root}
use Rattle.map_tests.specs.Stands.{AreHeld}
use Rattle.map_tests.proofs.HeldLemmas.{are-front, are-turned}
use Rattle.map_tests.proofs.map_editing.MapEditing.reopened.Goals as goal

pub invariant_of-result : goal.invariant_of-result
invariant_of-result g c =
    let maps = c.self.inside.maps.items in
    let edit = c.self.inside.edit in
    let did = c.opened-edit.ensures in
    let turned = are-turned g.T.Ord.cmp g.T.Element.code_of c.self.inside.heap edit maps c.self.invariant in
    let all = are-front g.T.Ord.cmp g.T.Element.code_of c.self.inside.heap c.opened-edit.new.heap (maps ++ edit ∷ []) c.opened-edit.result did.cells did.others did.holds did.count turned in
    let list = (rw c.expect.ensures at c.push.ensures.items) ∙ ap (λ (r : Root). maps ++ r ∷ []) (c.held.ensures ∙ c.freeze.ensures) in
    subst (λ ms. AreHeld g.T.Ord.cmp g.T.Element.code_of c.opened-edit.new.heap (c.opened-edit.result ∷ ms)) (sym list) all
