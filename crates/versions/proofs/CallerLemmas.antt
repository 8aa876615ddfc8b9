-- What becomes of the versions that a program keeps, and what merged ones have.
use Rattle.std.proofs.Common.{◌≡◌, ◌≢◌, ℕ, List, [], ◌∷◌, map, ap, sym, subst, ◌∙◌, Option, Some, None, Result, Ok, Err, cond, refl, inl, inr}
use Rattle.std.specs.Prelude.{IsSome, IfOk, OnOk, unwrap_or}
use Rattle.std.specs.Ordering.{nat_cmp, eq_by_cmp, is_eq}
use Rattle.std.specs.Cmp.{IsTotalOrder, nat_cmp_total, tied_itself}
use Rattle.std.specs.declared.cmp.Ordering.{Ordering}
use Rattle.std.specs.FinMap.Entries.{find-put}
use Rattle.std.specs.FinMap.{find, get, insert, put, remove, get-insert, get-remove, same_map, nat_cmp-IsAntisymmetric}
use Rattle.std.proofs.lemmas.Bool.{cases_eq}
use Rattle.versions.specs.Store.{Versions, Holds, list_of}
use Rattle.versions.specs.History.{IsApart, AreHeld, lists_of}
use Rattle.versions.specs.Sorted.{entries_of}
use Rattle.versions.proofs.RootLemmas.{tied-same, tied-other}
pub use Rattle.versions.proofs.UnionLemmas.{found-both, found-less, found-union, has-both, has-less, has-union}

module _ {V : Type 0} (m : Versions V) where
  -- a version that was made, and those beside it
  pub get-made : (v : ℕ) (x : V) → get (insert m v x) v ≡ Some x
  get-made v x = get-insert nat_cmp_total m v x v ∙ ap (λ b. cond b (Some x) (get m v)) (tied-same v)

  pub get-beside : (v : ℕ) (x : V) (w : ℕ) → w ≢ v → get (insert m v x) w ≡ get m w
  get-beside v x w apart = get-insert nat_cmp_total m v x w ∙ ap (λ b. cond b (Some x) (get m w)) (tied-other w v apart)

  -- those beside one that was forgotten
  pub get-left : (v w : ℕ) → w ≢ v → get (remove m v) w ≡ get m w
  get-left v w apart = get-remove nat_cmp_total m v w ∙ ap (λ b. cond b None (get m w)) (tied-other w v apart)

  -- a version that is held isn't one that was free
  pub held-apart : (v w : ℕ) → get m v ≡ None → Holds m w → w ≢ v
  held-apart v w none held e = let gone = subst IsSome (ap (get m) e ∙ none) held in cc

  -- a version that is held stays held, with its value, where another is made
  pub still-held : (v : ℕ) (x : V) (w : ℕ) → get m v ≡ None → Holds m w → Holds (insert m v x) w
  still-held v x w none held = subst IsSome (sym (get-beside v x w (held-apart v w none held))) held

  pub same-value : (v : ℕ) (x : V) (w : ℕ) → get m v ≡ None → Holds m w → get (insert m v x) w ≡ get m w
  same-value v x w none held = get-beside v x w (held-apart v w none held)

  -- each version that was held reads as it did where one was made
  pub made-keeps : {E : Type 0} (r : Result ℕ E) (n : Versions V) (x : V) (w : ℕ) → Holds m w → IfOk r (λ v. get m v ≡ None) → IfOk r (λ v. n ≡ insert m v x) → OnOk r (get n w ≡ get m w)
  made-keeps (Ok v) n x w held none made = ap (λ k. get k w) made ∙ get-beside v x w (held-apart v w none held)
  made-keeps (Err e) n x w held none made = tt

  -- a version that is made and forgotten leaves all as it was
  pub made-forgotten : (v : ℕ) (x : V) → get m v ≡ None → remove (insert m v x) v ≡ m
  made-forgotten v x none = same_map nat_cmp_total nat_cmp-IsAntisymmetric (remove (insert m v x) v) m (λ q. get-remove nat_cmp_total (insert m v x) v q ∙ elim (cases_eq q v) as (λ _. cond (eq_by_cmp nat_cmp q v) None (get (insert m v x) q) ≡ get m q) [
    | inl same ↦ ap (λ b. cond b None (get (insert m v x) q)) (ap (λ x. eq_by_cmp nat_cmp x v) same ∙ tied-same v) ∙ sym (ap (get m) same ∙ none)
    | inr other ↦ ap (λ b. cond b None (get (insert m v x) q)) (tied-other q v other) ∙ get-beside v x q other
  ])

  fresh-apart : (v : ℕ) (vs : List ℕ) → get m v ≡ None → AreHeld m vs → IsApart v vs
  fresh-apart v [] none held = tt
  fresh-apart v (w ∷ ws) none held = ((λ e. held-apart v w none held.0 (sym e)), fresh-apart v ws none held.2)

  module _ (n : Versions V) (v : ℕ) (beside : (w : ℕ) → w ≢ v → get n w ≡ get m w) where
    stay : (vs : List ℕ) → IsApart v vs → AreHeld m vs → AreHeld n vs
    stay [] apart held = tt
    stay (w ∷ ws) apart held = (subst IsSome (sym (beside w (λ e. apart.0 (sym e)))) held.0, held.1, stay ws apart.1 held.2)

    reads : {X : Type 0} (f : Option V → X) (vs : List ℕ) → IsApart v vs → map (λ w. f (get n w)) vs ≡ map (λ w. f (get m w)) vs
    reads f [] apart = refl
    reads f (w ∷ ws) apart = λ i. f (beside w (λ e. apart.0 (sym e)) i) ∷ reads f ws apart.1 i

  -- a version that was made, before those that were kept
  pub held-made : (v : ℕ) (x : V) (vs : List ℕ) → get m v ≡ None → AreHeld m vs → AreHeld (insert m v x) (v ∷ vs)
  held-made v x vs none held =
      let apart = fresh-apart v vs none held in
      (subst IsSome (sym (get-made v x)) refl, apart, stay (insert m v x) v (get-beside v x) vs apart held)

  -- what is read of the versions that a program keeps: the new one, and the others as they did
  pub reads-made : {X : Type 0} (f : Option V → X) (v : ℕ) (x : V) (vs : List ℕ) → get m v ≡ None → AreHeld m vs → map (λ w. f (get (insert m v x) w)) (v ∷ vs) ≡ f (Some x) ∷ map (λ w. f (get m w)) vs
  reads-made f v x vs none held = λ i. f (get-made v x i) ∷ reads (insert m v x) v (get-beside v x) f vs (fresh-apart v vs none held) i

  -- those that are left where the first is forgotten
  pub held-left : (v : ℕ) (vs : List ℕ) → AreHeld m (v ∷ vs) → AreHeld (remove m v) vs
  held-left v vs held = stay (remove m v) v (get-left v) vs held.1 held.2

  pub reads-left : {X : Type 0} (f : Option V → X) (v : ℕ) (vs : List ℕ) → AreHeld m (v ∷ vs) → map (λ w. f (get (remove m v) w)) vs ≡ map (λ w. f (get m w)) vs
  reads-left f v vs held = reads (remove m v) v (get-left v) f vs held.1

module _ {V : Type 0} (m : Versions V) where
  -- the version that a call made is held
  pub new-held : (n : Versions V) (v : ℕ) (x : V) → n ≡ insert m v x → Holds n v
  new-held n v x made = subst (λ k. Holds k v) (sym made) (subst IsSome (sym (get-made m v x)) refl)

  pub made-holds : {E : Type 0} (r : Result ℕ E) (n : Versions V) (x : V) → IfOk r (λ v. n ≡ insert m v x) → IfOk r (λ v. Holds n v)
  made-holds (Ok v) n x made = new-held n v x made
  made-holds (Err e) n x made = tt

  -- what was held where a call made a version
  pub made-held : (n : Versions V) (v : ℕ) (x : V) (w : ℕ) → n ≡ insert m v x → get m v ≡ None → Holds m w → Holds n w
  made-held n v x w made none held = subst (λ k. Holds k w) (sym made) (still-held m v x w none held)

  pub made-same : (n : Versions V) (v : ℕ) (x : V) (w : ℕ) → n ≡ insert m v x → get m v ≡ None → Holds m w → get n w ≡ get m w
  made-same n v x w made none held = ap (λ k. get k w) made ∙ same-value m v x w none held

  -- the versions that a program keeps, given what a call that makes or forgets one ensures
  pub kept-made : (n : Versions V) (v : ℕ) (x : V) (vs ws : List ℕ) → get m v ≡ None → n ≡ insert m v x → ws ≡ vs → AreHeld m vs → AreHeld n (v ∷ ws)
  kept-made n v x vs ws none made same held = subst (λ us. AreHeld n (v ∷ us)) (sym same) (subst (λ k. AreHeld k (v ∷ vs)) (sym made) (held-made m v x vs none held))

  pub kept-left : (n : Versions V) (v : ℕ) (vs ws : List ℕ) → n ≡ remove m v → vs ≡ ws → AreHeld m (v ∷ vs) → AreHeld n ws
  kept-left n v vs ws left same held = subst (AreHeld n) same (subst (λ k. AreHeld k vs) (sym left) (held-left m v vs held))

  -- the first of two versions that were made one after the other, and those beside both
  pub get-first : (v w : ℕ) (x y : V) → get m v ≡ None → get (insert m v x) w ≡ None → get (insert (insert m v x) w y) v ≡ Some x
  get-first v w x y none free = same-value (insert m v x) w y v free (subst IsSome (sym (get-made m v x)) refl) ∙ get-made m v x

  pub both-beside : (v w : ℕ) (x y : V) → get m v ≡ None → get (insert m v x) w ≡ None → (q : ℕ) → Holds m q → get (insert (insert m v x) w y) q ≡ get m q
  both-beside v w x y none free q held = same-value (insert m v x) w y q free (still-held m v x q none held) ∙ same-value m v x q none held

module _ {T : Type 0} (m : Versions (List T)) where
  -- the list of the version that a call made
  pub new-list : (n : Versions (List T)) (v : ℕ) (xs : List T) → n ≡ insert m v xs → list_of n v ≡ xs
  new-list n v xs made = ap (λ k. list_of k v) made ∙ ap (λ o. unwrap_or o []) (get-made m v xs)

  pub made-reads : {E : Type 0} (r : Result ℕ E) (n : Versions (List T)) (xs : List T) → IfOk r (λ v. n ≡ insert m v xs) → IfOk r (λ v. list_of n v ≡ xs)
  made-reads (Ok v) n xs made = new-list n v xs made
  made-reads (Err e) n xs made = tt

  pub same-list : (v : ℕ) (xs : List T) (w : ℕ) → get m v ≡ None → Holds m w → list_of (insert m v xs) w ≡ list_of m w
  same-list v xs w none held = ap (λ o. unwrap_or o []) (same-value m v xs w none held)

  pub lists-made : (v : ℕ) (xs : List T) (vs : List ℕ) → get m v ≡ None → AreHeld m vs → lists_of (insert m v xs) (v ∷ vs) ≡ xs ∷ lists_of m vs
  lists-made = reads-made m (λ o. unwrap_or o [])

  pub lists-left : (v : ℕ) (vs : List ℕ) → AreHeld m (v ∷ vs) → lists_of (remove m v) vs ≡ lists_of m vs
  lists-left = reads-left m (λ o. unwrap_or o [])

  -- the lists of the versions that a program keeps, given what the call ensures
  pub lists-kept-made : (n : Versions (List T)) (v : ℕ) (xs : List T) (vs ws : List ℕ) → get m v ≡ None → n ≡ insert m v xs → ws ≡ vs → AreHeld m vs → lists_of n (v ∷ ws) ≡ xs ∷ lists_of m vs
  lists-kept-made n v xs vs ws none made same held = ap (λ us. lists_of n (v ∷ us)) same ∙ ap (λ k. lists_of k (v ∷ vs)) made ∙ lists-made v xs vs none held

  pub lists-kept-left : (n : Versions (List T)) (v : ℕ) (vs ws : List ℕ) → n ≡ remove m v → vs ≡ ws → AreHeld m (v ∷ vs) → lists_of n ws ≡ lists_of m vs
  lists-kept-left n v vs ws left same held = ap (lists_of n) (sym same) ∙ ap (λ k. lists_of k vs) left ∙ lists-left v vs held

-- the value at the key of a version that was made with it
pub found-made : {K V : Type 0} (cmp : K → K → Ordering) → IsTotalOrder cmp → (m n : Versions (List (K × V))) (v : ℕ) (key : K) (value : V) (es : List (K × V)) → n ≡ insert m v (put cmp key value es) → find cmp key (entries_of n v) ≡ Some value
found-made cmp o m n v key value es made =
    ap (λ k. find cmp key (entries_of k v)) made ∙ ap (λ x. find cmp key (unwrap_or x [])) (get-made m v (put cmp key value es)) ∙ find-put cmp o key key value es ∙ ap (λ r. cond (is_eq r) (Some value) (find cmp key es)) (tied_itself o key)
