-- What a merge has at each name.
use Rattle.std.proofs.Common.{◌≡◌, Bool, true, false, cond, not, ◌&&◌, ◌||◌, is_some, List, [], ◌∷◌, ◌++◌, Option, None, Some, refl, sym, ap, ◌∙◌}
use Rattle.std.specs.Option.{option_or}
use Rattle.std.specs.Ordering.{nat_cmp, eq_by_cmp}
use Rattle.std.specs.Cmp.Lexicographic.{slice_cmp, nat_list_cmp_total}
use Rattle.std.specs.FinMap.{get, contains_key, empty, entries, find, nat_cmp-IsAntisymmetric, slice_cmp-IsAntisymmetric, get-empty, get-entries, get-from_entries, same_map}
use Rattle.shell_terms.specs.Edit.{Bytes}
use Rattle.plain_space.specs.Workspace.{Named, joined, in_common, apart_from}
use Rattle.plain_space.proofs.Computing.{get-kept}

or-itself : {X : Type 0} (o : Option X) → option_or o o ≡ o
or-itself None = refl
or-itself (Some x) = refl

some-or : {X : Type 0} (one other : Option X) → is_some (option_or one other) ≡ (is_some one || is_some other)
some-or None other = refl
some-or (Some x) other = refl

some-where : {X : Type 0} (b : Bool) (o : Option X) → is_some (cond b o None) ≡ (is_some o && b)
some-where true None = refl
some-where true (Some x) = refl
some-where false None = refl
some-where false (Some x) = refl

or-first : {X : Type 0} (b : Bool) (x : X) (one other : Option X) → option_or (cond b (Some x) one) other ≡ cond b (Some x) (option_or one other)
or-first true x one other = refl
or-first false x one other = refl

there-itself : {X : Type 0} (o : Option X) → cond (is_some o) o None ≡ o
there-itself None = refl
there-itself (Some x) = refl

not_there-none : {X : Type 0} (o : Option X) → cond (not (is_some o)) o None ≡ None
not_there-none None = refl
not_there-none (Some x) = refl

find-joined : {X : Type 0} (q : Bytes) (es fs : List (Bytes × X)) → find (slice_cmp nat_cmp) q (es ++ fs) ≡ option_or (find (slice_cmp nat_cmp) q es) (find (slice_cmp nat_cmp) q fs)
find-joined q [] fs = refl
find-joined q (e ∷ es) fs =
    ap (cond (eq_by_cmp (slice_cmp nat_cmp) q e.0) (Some e.1)) (find-joined q es fs)
    ∙ sym (or-first (eq_by_cmp (slice_cmp nat_cmp) q e.0) e.1 (find (slice_cmp nat_cmp) q es) (find (slice_cmp nat_cmp) q fs))

module _ {X : Type 0} where
  pub get-joined : (one other : Named X) (q : Bytes) → get (joined one other) q ≡ option_or (get one q) (get other q)
  get-joined one other q =
      get-from_entries nat_list_cmp_total (entries one ++ entries other) q
      ∙ find-joined q (entries one) (entries other)
      ∙ ap (λ o. option_or o (find (slice_cmp nat_cmp) q (entries other))) (sym (get-entries one q))
      ∙ ap (option_or (get one q)) (sym (get-entries other q))

  pub has-joined : (one other : Named X) (q : Bytes) → contains_key (joined one other) q ≡ (contains_key one q || contains_key other q)
  has-joined one other q = ap is_some (get-joined one other q) ∙ some-or (get one q) (get other q)

  pub has-common : {Y : Type 0} (one : Named X) (other : Named Y) (q : Bytes) → contains_key (in_common one other) q ≡ (contains_key one q && contains_key other q)
  has-common one other q = ap is_some (get-kept one _ q) ∙ some-where (contains_key other q) (get one q)

  pub has-apart : {Y : Type 0} (one : Named X) (other : Named Y) (q : Bytes) → contains_key (apart_from one other) q ≡ (contains_key one q && not (contains_key other q))
  has-apart one other q = ap is_some (get-kept one _ q) ∙ some-where (not (contains_key other q)) (get one q)

  -- maps are equal that have the same at each name
  pub same-named : (m n : Named X) → ((q : Bytes) → get m q ≡ get n q) → m ≡ n
  same-named m n is = same_map nat_list_cmp_total (slice_cmp-IsAntisymmetric nat_cmp-IsAntisymmetric) m n is

  pub joined-itself : (m : Named X) → joined m m ≡ m
  joined-itself m = same-named _ m (λ q. get-joined m m q ∙ or-itself (get m q))

  pub common-itself : (m : Named X) → in_common m m ≡ m
  common-itself m = same-named _ m (λ q. get-kept m _ q ∙ there-itself (get m q))

  pub apart-itself : (m : Named X) → apart_from m m ≡ empty
  apart-itself m = same-named _ empty (λ q. get-kept m _ q ∙ not_there-none (get m q) ∙ sym (get-empty (slice_cmp nat_cmp) q))
