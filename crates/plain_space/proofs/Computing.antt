-- What finite maps of names compute to: rewriting by these, the answers to worked commands compute.
use Rattle.std.proofs.Common.{◌≡◌, List, [], ◌∷◌, Bool, true, false, cond, not, None, Some, T, length, refl, sym, ap, ◌∙◌, arith}
use Rattle.std.specs.Ordering.{nat_cmp, eq_by_cmp}
use Rattle.std.specs.Cmp.{IsTotalOrder, eq_by_cmp_equiv}
use Rattle.std.specs.Cmp.Lexicographic.{slice_cmp, nat_list_cmp_total}
use Rattle.std.specs.FinMap.{get, insert, remove, retain_keys, len, empty, entries, put, from_sorted, nat_cmp-IsAntisymmetric, slice_cmp-IsAntisymmetric, get-empty, get-insert, get-remove, get-retain_keys, get-entries, get-from_sorted, entries_sorted, entries-insert, entries-from_sorted, len-entries, len-empty, same_map}
use Rattle.std.specs.FinMap.Entries.{where_key, is_sorted, is_sorted-where_key, find-where_key}
use Rattle.shell_terms.specs.Edit.{Bytes}
use Rattle.plain_space.specs.Workspace.{Named}

in_order : IsTotalOrder (slice_cmp nat_cmp)
in_order = nat_list_cmp_total

no_entries : {X : Type 0} (es : List X) → length es ≡ 0 → es ≡ []
no_entries [] e = refl
no_entries (x ∷ es) e = absurd (omega arith)

turned : {X : Type 0} (b : Bool) (x y : X) → cond (not b) x y ≡ cond b y x
turned true x y = refl
turned false x y = refl

module _ {X : Type 0} where
  pub get-none : (q : Bytes) → get (empty {K = Bytes} {X = X} {R = slice_cmp nat_cmp}) q ≡ None
  get-none q = get-empty (slice_cmp nat_cmp) q

  pub get-with : (m : Named X) (k : Bytes) (v : X) (q : Bytes) → get (insert m k v) q ≡ cond (eq_by_cmp (slice_cmp nat_cmp) q k) (Some v) (get m q)
  get-with m k v q = get-insert in_order m k v q

  pub get-without : (m : Named X) (k q : Bytes) → get (remove m k) q ≡ cond (eq_by_cmp (slice_cmp nat_cmp) q k) None (get m q)
  get-without m k q = get-remove in_order m k q

  pub entries-none : entries (empty {K = Bytes} {X = X} {R = slice_cmp nat_cmp}) ≡ []
  entries-none = no_entries _ (sym (len-entries (empty {R = slice_cmp nat_cmp})) ∙ len-empty (slice_cmp nat_cmp) X)

  pub entries-with : (m : Named X) (k : Bytes) (v : X) → entries (insert m k v) ≡ put (slice_cmp nat_cmp) k v (entries m)
  entries-with m k v = entries-insert in_order m k v

  -- what is kept of a map by a test of its names
  pub get-kept : (m : Named X) (test : Bytes → Bool) (q : Bytes) → get (retain_keys m test) q ≡ cond (test q) (get m q) None
  get-kept m test q = get-retain_keys m test q (λ x tied. ap test (sym (slice_cmp-IsAntisymmetric nat_cmp-IsAntisymmetric q x tied)))

  passing : (Bytes → Bool) → List (Bytes × X) → List (Bytes × X)
  passing test es = where_key (slice_cmp nat_cmp) test es

  passing-sorted : (m : Named X) (test : Bytes → Bool) → T (is_sorted (slice_cmp nat_cmp) (passing test (entries m)))
  unfolding passing
  passing-sorted m test = is_sorted-where_key (slice_cmp nat_cmp) test (entries m) (entries_sorted m)

  kept-passing : (m : Named X) (test : Bytes → Bool) → retain_keys m test ≡ from_sorted (passing test (entries m))
  unfolding passing
  kept-passing m test =
      same_map in_order (slice_cmp-IsAntisymmetric nat_cmp-IsAntisymmetric) _ _ (λ q.
      get-kept m test q
      ∙ ap (λ found. cond (test q) found None) (get-entries m q)
      ∙ sym (find-where_key (slice_cmp nat_cmp) test q (λ x tied. ap test (sym (slice_cmp-IsAntisymmetric nat_cmp-IsAntisymmetric q x tied))) (entries m))
      ∙ sym (get-from_sorted (slice_cmp nat_cmp) _ q (passing-sorted m test)))

  pub entries-kept : (m : Named X) (test : Bytes → Bool) → entries (retain_keys m test) ≡ where_key (slice_cmp nat_cmp) test (entries m)
  unfolding passing
  entries-kept m test = ap entries (kept-passing m test) ∙ entries-from_sorted (slice_cmp nat_cmp) _ (passing-sorted m test)

  -- to remove a name is to keep the others
  remove-kept : (m : Named X) (k : Bytes) → remove m k ≡ retain_keys m (λ x. not (eq_by_cmp (slice_cmp nat_cmp) k x))
  remove-kept m k =
      same_map in_order (slice_cmp-IsAntisymmetric nat_cmp-IsAntisymmetric) _ _ (λ q.
      get-without m k q
      ∙ ap (λ b. cond b None (get m q)) ((eq_by_cmp_equiv in_order).symm q k)
      ∙ sym (turned (eq_by_cmp (slice_cmp nat_cmp) k q) (get m q) None)
      ∙ sym (get-kept m (λ x. not (eq_by_cmp (slice_cmp nat_cmp) k x)) q))

  pub entries-without : (m : Named X) (k : Bytes) → entries (remove m k) ≡ where_key (slice_cmp nat_cmp) (λ x. not (eq_by_cmp (slice_cmp nat_cmp) k x)) (entries m)
  entries-without m k = ap entries (remove-kept m k) ∙ entries-kept m (λ x. not (eq_by_cmp (slice_cmp nat_cmp) k x))

  pub size-counted : (m : Named X) → len m ≡ length (entries m)
  size-counted m = len-entries m

pub ruleset computing = (get-none, get-with, get-without, get-kept, entries-none, entries-with, entries-without, entries-kept, size-counted)
