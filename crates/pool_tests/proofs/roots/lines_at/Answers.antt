use Rattle.std.proofs.Common.{ℕ, Bool, true, false, cond, List, [], ◌∷◌, Option, Some, option_map, sym, subst}
use Rattle.std.specs.Prelude.{IfSome}
use Rattle.std.specs.List.{All, find}
use Rattle.std.specs.declared.cmp.Ordering.{Ordering}
use Rattle.std.proofs.lemmas.List.Elements.{All-head, All-tail}
use Rattle.elem_core.specs.declared.codes.TheConstants.{CODE_BITS}
use Rattle.rrb_core.specs.Vector.{IsGoodVector}
use Rattle.champ_kinds.specs.Binding.{Binding, binds, value_with}
use Rattle.champ_kinds.specs.Root.{Root}
use Rattle.champ_kinds.specs.Kinds.{IsMapOf}
use Rattle.pool_load.specs.Kinds.{IsLines}
use Rattle.pool_tests.proofs.roots.lines_at.Goals as goal

-- the value of a key is one of the values
module _ {K : Type 0} (Is Gives : ℕ → Type 0) (gives : (l : ℕ) → Is l → Gives l) (cmp : K → K → Ordering) (key : K) where
  found : (M : List (Binding K)) → All (λ b. Is b.value) M → IfSome (value_with cmp key M) Gives
  found [] all = tt
  found (b ∷ M) all = by_test (binds cmp key b) (found M (All-tail (λ (c : Binding K). Is c.value) b M all))
    where
      by_test : (t : Bool) → IfSome (value_with cmp key M) Gives → IfSome (option_map (λ (c : Binding K). c.value) (cond t (Some b) (find (binds cmp key) M))) Gives
      by_test true rest = gives b.value (All-head (λ (c : Binding K). Is c.value) b M all)
      by_test false rest = rest

pub get-requires : goal.get-requires
get-requires g c = (c.requires.bindings, subst (λ (r : Root). IsMapOf g.T.Ord.cmp g.T.Element.code_of c.args.heap.now r c.requires.bindings) (sym c.at.ensures) c.requires.map)

pub returns : goal.returns
returns g c =
    let map = subst (λ (r : Root). IsMapOf g.T.Ord.cmp g.T.Element.code_of c.args.heap.now r c.requires.bindings) (sym c.at.ensures) c.requires.map in
    subst (λ (o : Option ℕ). IfSome o (IsGoodVector c.args.heap.now)) (sym (c.get.ensures.value c.requires.bindings map))
    (found (IsLines g.T.Ord.cmp g.T.Element.code_of CODE_BITS c.args.heap.now) (IsGoodVector c.args.heap.now) (λ l lines. lines.good) g.T.Ord.cmp c.args.key.now c.requires.bindings c.requires.values)
