-- Finite maps with other values.
use Rattle.std.proofs.Common.{◌≡◌, Bool, true, false, cond, List, [], ◌∷◌, map, Some, option_map, refl, ap, sym, ◌∙◌}
use Rattle.std.specs.Ordering.{nat_cmp, eq_by_cmp}
use Rattle.std.specs.Cmp.Lexicographic.{slice_cmp}
use Rattle.std.specs.FinMap as finite
use Rattle.std.proofs.lemmas.Cmp.{nat_list_cmp_total}
use Rattle.shell_terms.specs.Edit.{Bytes}
use Rattle.plain_space.specs.Workspace.{Named}
use Rattle.pool_map.specs.Plain.{with_values}

module _ {X Y : Type 0} (f : X → Y) where
  find-values : (es : List (Bytes × X)) (name : Bytes) → finite.find (slice_cmp nat_cmp) name (map (λ e. (e.0, f e.1)) es) ≡ option_map f (finite.find (slice_cmp nat_cmp) name es)
  find-values [] name = refl
  find-values (e ∷ es) name = by_test (eq_by_cmp (slice_cmp nat_cmp) name e.0) (find-values es name)
    where
      by_test : (t : Bool) → finite.find (slice_cmp nat_cmp) name (map (λ e. (e.0, f e.1)) es) ≡ option_map f (finite.find (slice_cmp nat_cmp) name es)
          → cond t (Some (f e.1)) (finite.find (slice_cmp nat_cmp) name (map (λ e. (e.0, f e.1)) es)) ≡ option_map f (cond t (Some e.1) (finite.find (slice_cmp nat_cmp) name es))
      by_test true later = refl
      by_test false later = later

  -- what stands at a name is changed
  pub get-values : (m : Named X) (name : Bytes) → finite.get (with_values f m) name ≡ option_map f (finite.get m name)
  get-values m name =
      finite.get-from_entries nat_list_cmp_total (map (λ e. (e.0, f e.1)) (finite.entries m)) name
      ∙ find-values (finite.entries m) name ∙ ap (option_map f) (sym (finite.get-entries m name))
