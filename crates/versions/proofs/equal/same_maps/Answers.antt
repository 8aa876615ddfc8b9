use Rattle.std.proofs.Common.{refl}
use Rattle.versions.proofs.EqualLemmas.{maps-told, with-cells}
use Rattle.versions.proofs.equal.same_maps.Goals as goal

pub equal_map-requires-clause-first : goal.equal_map-requires-clause-first
equal_map-requires-clause-first g c = (c.requires.left.1.bindings, with-cells g.K.Ord.cmp g.V.Ord.cmp c.args.heap.now g.met.K.Ord.total g.met.V.Ord.total g.K.Element.code_of _ (record { keys = λ a b. refl; before = λ a w. refl; after = λ v b. refl; values = λ v w. refl }) c.at-left.result c.args.left _ c.requires.left.1 c.at-left.ensures)

pub equal_map-requires-clause-second : goal.equal_map-requires-clause-second
equal_map-requires-clause-second g c = (c.requires.right.1.bindings, with-cells g.K.Ord.cmp g.V.Ord.cmp c.args.heap.now g.met.K.Ord.total g.met.V.Ord.total g.K.Element.code_of _ (record { keys = λ a b. refl; before = λ a w. refl; after = λ v b. refl; values = λ v w. refl }) c.at-right.result c.args.right _ c.requires.right.1 c.at-right.ensures)

pub returns : goal.returns
returns g c = λ es ds is are.
    maps-told g.K.Ord.cmp g.V.Ord.cmp c.args.heap.now g.met.K.Ord.total g.met.V.Ord.total g.K.Element.code_of c.args.left c.args.right es ds is are _ (record { keys = λ a b. refl; before = λ a w. refl; after = λ v b. refl; values = λ v w. refl }) _
    (c.equal_map.ensures.equal is.bindings are.bindings (with-cells g.K.Ord.cmp g.V.Ord.cmp c.args.heap.now g.met.K.Ord.total g.met.V.Ord.total g.K.Element.code_of _ (record { keys = λ a b. refl; before = λ a w. refl; after = λ v b. refl; values = λ v w. refl }) c.at-left.result c.args.left _ is c.at-left.ensures) (with-cells g.K.Ord.cmp g.V.Ord.cmp c.args.heap.now g.met.K.Ord.total g.met.V.Ord.total g.K.Element.code_of _ (record { keys = λ a b. refl; before = λ a w. refl; after = λ v b. refl; values = λ v w. refl }) c.at-right.result c.args.right _ are c.at-right.ensures))
