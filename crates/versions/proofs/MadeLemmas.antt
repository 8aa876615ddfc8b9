-- What becomes of the versions of a store where a root is made, edited or given up.
use Rattle.std.proofs.Common.{◌≡◌, ◌≢◌, ℕ, ◌<◌, List, Option, Some, None, refl, ap, sym, ◌∙◌, subst, arith, cond, inl, inr}
use Rattle.std.specs.Prelude.{IsSome, unwrap_or, option_map}
use Rattle.std.specs.Ordering.{nat_cmp, eq_by_cmp}
use Rattle.std.specs.Cmp.{nat_cmp_total}
use Rattle.std.specs.FinMap.{insert, remove, get, get-insert, get-remove, same_map, nat_cmp-IsAntisymmetric}
use Rattle.std.proofs.lemmas.Bool.{cases_eq}
use Rattle.node_heap.specs.Heap.{Heap, holds_at}
use Rattle.node_heap.specs.Calls.{Extends, Unchanged}
use Rattle.versions.specs.Store.{Versions, Holds}
use Rattle.versions.specs.Roots.{root_of, values_in, HoldsRoots, KeepsRoots, AddsRoot, PutsRoot, ForgetsRoot, HasRoots, Makes, Edits, AddsVersion, PutsVersion, IsKind}
use Rattle.versions.proofs.RootLemmas.{tied-same, tied-other, listed-at, sum-more, sum-has}

one-some : (l m : ℕ) → Some l ≡ Some m → l ≡ m
one-some l m is = ap (λ o. unwrap_or o 0) is

module _ {T V : Type 0} (read : Heap T → ℕ → V) (h : Heap T) (roots : List (Option ℕ)) (v : ℕ) where
  -- a version is held just where it has a root
  held-root : Holds (values_in read h roots) v → IsSome (root_of roots v)
  held-root held = some (root_of roots v) (subst IsSome (listed-at read h roots v) held)
    where
      some : (o : Option ℕ) → IsSome (option_map (read h) o) → IsSome o
      some None is = is
      some (Some l) is = refl

  root-held : IsSome (root_of roots v) → Holds (values_in read h roots) v
  root-held some = subst IsSome (sym (listed-at read h roots v)) (held (root_of roots v) some)
    where
      held : (o : Option ℕ) → IsSome o → IsSome (option_map (read h) o)
      held None is = is
      held (Some l) is = refl

  module _ (had : Versions V) (seen : values_in read h roots ≡ had) where
    pub held-at : Holds had v → IsSome (root_of roots v)
    held-at held = held-root (subst (λ m. Holds m v) (sym seen) held)

    pub at-held : IsSome (root_of roots v) → Holds had v
    at-held some = subst (λ m. Holds m v) seen (root-held some)

    -- the value of a version is that of its root
    pub value-at : (l : ℕ) → root_of roots v ≡ Some l → get had v ≡ Some (read h l)
    value-at l at = ap (λ m. get m v) (sym seen) ∙ listed-at read h roots v ∙ ap (option_map (read h)) at

-- room that was made leaves all as it was
pub room-made : {T : Type 0} {old new : Heap T} {roots : List (Option ℕ)} → HoldsRoots old roots → Unchanged old new → Extends old new → KeepsRoots old new roots roots
room-made had rest extends = record {
  extends = extends;
  same = refl;
  holds = record { holds = λ k. rest.holds k ∙ had.holds k; count = rest.count ∙ had.count; few = had.few };
}

-- a root of a store for which room was made
module _ {T : Type 0} {old new : Heap T} {roots between : List (Option ℕ)} (keeps : KeepsRoots old new roots between) (v l : ℕ) (at : root_of roots v ≡ Some l) where
  still-there : root_of between v ≡ Some l
  still-there = ap (λ r. root_of r v) keeps.same ∙ at

  pub held-still : IsSome (root_of between v)
  held-still = subst IsSome (sym still-there) refl

  pub held-once : 0 < holds_at new l
  held-once = omega (arith, keeps.holds.holds l, sum-has l v between still-there)

module _ {T V : Type 0} (Is : Heap T → ℕ → V → Type 0) (read : Heap T → ℕ → V) (kind : IsKind Is read) where
  same-read : (old new : Heap T) (o : Option ℕ) → ((l : ℕ) → o ≡ Some l → read new l ≡ read old l) → option_map (read new) o ≡ option_map (read old) o
  same-read old new None same = refl
  same-read old new (Some l) same = ap Some (same l refl)

  -- a root of a value is that of what is read there
  itself : (h : Heap T) (l : ℕ) (x : V) → Is h l x → Is h l (read h l)
  itself h l x is = subst (Is h l) (sym (kind.one h l x is)) is

  pub stays-extended : (old new : Heap T) → Extends old new → (l : ℕ) (x : V) → Is old l x → Is new l x
  stays-extended old new extends l x is = kind.stays old new l x (extends.kept l (kind.live old l x is)) is

  -- all versions stay where every row does
  module _ (old new : Heap T) (roots roots' : List (Option ℕ)) (has : HasRoots Is read old roots) (keeps : KeepsRoots old new roots roots') where
    kept-same : (q l : ℕ) → root_of roots' q ≡ Some l → Is new l (read old l)
    kept-same q l at = stays-extended old new keeps.extends l (read old l) (has.stands q l (ap (λ r. root_of r q) (sym keeps.same) ∙ at))

    pub roots-stay : HasRoots Is read new roots'
    roots-stay = record {
      stands = λ q l at. itself new l (read old l) (kept-same q l at);
      holds = keeps.holds;
    }

    pub versions-stay : values_in read new roots' ≡ values_in read old roots
    versions-stay = same_map nat_cmp_total nat_cmp-IsAntisymmetric (values_in read new roots') (values_in read old roots) (λ q.
        listed-at read new roots' q ∙ same-read old new (root_of roots' q) (λ l at. kind.one new l (read old l) (kept-same q l at)) ∙ ap (λ r. option_map (read old) (root_of r q)) keeps.same ∙ sym (listed-at read old roots q))

  -- a root that was made, at a number that was free
  module _ (old new : Heap T) (roots roots' : List (Option ℕ)) (v l : ℕ) (x : V) (has : HasRoots Is read old roots) (makes : Makes Is old new l x) (adds : AddsRoot roots roots' v l) where
    made-listed : (q : ℕ) → get (values_in read new roots') q ≡ get (insert (values_in read old roots) v x) q
    made-listed q = listed-at read new roots' q ∙ (elim (cases_eq q v) as (λ _. option_map (read new) (root_of roots' q) ≡ cond (eq_by_cmp nat_cmp q v) (Some x) (get (values_in read old roots) q)) [
      | inl same ↦ ap (option_map (read new)) (ap (root_of roots') same ∙ adds.here) ∙ ap Some (kind.one new l x makes.is) ∙ ap (λ b. cond b (Some x) (get (values_in read old roots) q)) (sym (ap (λ y. eq_by_cmp nat_cmp y v) same ∙ tied-same v))
      | inr other ↦ ap (option_map (read new)) (adds.others q other) ∙ same-read old new (root_of roots q) (λ m at. kind.one new m (read old m) (makes.keeps m (read old m) (has.stands q m at))) ∙ sym (listed-at read old roots q)
          ∙ ap (λ b. cond b (Some x) (get (values_in read old roots) q)) (sym (tied-other q v other))
    ]) ∙ sym (get-insert nat_cmp_total (values_in read old roots) v x q)

    made-roots : HasRoots Is read new roots'
    made-roots = record {
      stands = λ q m at. elim (cases_eq q v) as (λ _. Is new m (read new m)) [
        | inl same ↦ subst (λ k. Is new k (read new k)) (one-some l m (sym adds.here ∙ ap (root_of roots') (sym same) ∙ at)) (itself new l x makes.is)
        | inr other ↦ itself new m (read old m) (makes.keeps m (read old m) (has.stands q m (sym (adds.others q other) ∙ at)))
      ];
      holds = record {
        holds = λ k. omega (arith, makes.holds k, has.holds.holds k, sum-more k l v roots roots' adds.free adds.here adds.others);
        count = omega (arith, makes.count, has.holds.count, adds.count);
        few = omega (arith, adds.count, adds.few);
      };
    }

    pub version-made : AddsVersion Is read (values_in read old roots) new roots' v x
    version-made = record {
      stands = made-roots;
      fresh = listed-at read old roots v ∙ ap (option_map (read old)) adds.free;
      made = same_map nat_cmp_total nat_cmp-IsAntisymmetric (values_in read new roots') (insert (values_in read old roots) v x) made-listed;
    }

  -- a version that was forgotten
  module _ (old new : Heap T) (roots roots' : List (Option ℕ)) (v : ℕ) (has : HasRoots Is read old roots) (gone : ForgetsRoot old new roots roots' v) where
    off : (q m : ℕ) → root_of roots' q ≡ Some m → q ≢ v
    off q m at same = let e = ap (root_of roots') (sym same) in let none = sym gone.drops.free ∙ e ∙ at in cc

    left : (q m : ℕ) → root_of roots' q ≡ Some m → Is new m (read old m)
    left q m at = kind.stays old new m (read old m) (gone.keeps.kept m (omega (arith, has.holds.holds m, sum-more m gone.root v roots' roots gone.drops.free gone.was (λ i o. sym (gone.drops.others i o)), sum-has m q roots' at))) (has.stands q m (sym (gone.drops.others q (off q m at)) ∙ at))

    left-listed : (q : ℕ) → get (values_in read new roots') q ≡ get (remove (values_in read old roots) v) q
    left-listed q = listed-at read new roots' q ∙ same-read old new (root_of roots' q) (λ m at. kind.one new m (read old m) (left q m at)) ∙ (elim (cases_eq q v) as (λ _. option_map (read old) (root_of roots' q) ≡ cond (eq_by_cmp nat_cmp q v) None (get (values_in read old roots) q)) [
      | inl same ↦ ap (option_map (read old)) (ap (root_of roots') same ∙ gone.drops.free) ∙ ap (λ b. cond b None (get (values_in read old roots) q)) (sym (ap (λ y. eq_by_cmp nat_cmp y v) same ∙ tied-same v))
      | inr other ↦ ap (option_map (read old)) (gone.drops.others q other) ∙ sym (listed-at read old roots q) ∙ ap (λ b. cond b None (get (values_in read old roots) q)) (sym (tied-other q v other))
    ]) ∙ sym (get-remove nat_cmp_total (values_in read old roots) v q)

    pub roots-left : HasRoots Is read new roots'
    roots-left = record {
      stands = λ q m at. itself new m (read old m) (left q m at);
      holds = record {
        holds = λ k. omega (arith, gone.releases.holds k, has.holds.holds k, sum-more k gone.root v roots' roots gone.drops.free gone.was (λ i o. sym (gone.drops.others i o)));
        count = omega (arith, gone.releases.count, has.holds.count, gone.drops.count);
        few = omega (arith, gone.drops.count, has.holds.few);
      };
    }

    pub versions-left : values_in read new roots' ≡ remove (values_in read old roots) v
    versions-left = same_map nat_cmp_total nat_cmp-IsAntisymmetric (values_in read new roots') (remove (values_in read old roots) v) left-listed

  -- a version whose root was edited
  module _ (old new : Heap T) (roots roots' : List (Option ℕ)) (v l m : ℕ) (x : V) (has : HasRoots Is read old roots) (was : root_of roots v ≡ Some l) (edits : Edits Is old new l m x) (puts : PutsRoot roots roots' v m) where
    beside : (q p : ℕ) → q ≢ v → root_of roots q ≡ Some p → Is new p (read old p)
    beside q p off at = edits.keeps p (read old p) (omega (arith, has.holds.holds p, sum-more p l v puts.between roots puts.drops.free was (λ i o. sym (puts.drops.others i o)), sum-has p q puts.between (puts.drops.others q off ∙ at))) (has.stands q p at)

    put-listed : (q : ℕ) → get (values_in read new roots') q ≡ get (insert (values_in read old roots) v x) q
    put-listed q = listed-at read new roots' q ∙ (elim (cases_eq q v) as (λ _. option_map (read new) (root_of roots' q) ≡ cond (eq_by_cmp nat_cmp q v) (Some x) (get (values_in read old roots) q)) [
      | inl same ↦ ap (option_map (read new)) (ap (root_of roots') same ∙ puts.adds.here) ∙ ap Some (kind.one new m x edits.is) ∙ ap (λ b. cond b (Some x) (get (values_in read old roots) q)) (sym (ap (λ y. eq_by_cmp nat_cmp y v) same ∙ tied-same v))
      | inr other ↦ ap (option_map (read new)) (puts.adds.others q other ∙ puts.drops.others q other) ∙ same-read old new (root_of roots q) (λ p at. kind.one new p (read old p) (beside q p other at)) ∙ sym (listed-at read old roots q)
          ∙ ap (λ b. cond b (Some x) (get (values_in read old roots) q)) (sym (tied-other q v other))
    ]) ∙ sym (get-insert nat_cmp_total (values_in read old roots) v x q)

    put-roots : HasRoots Is read new roots'
    put-roots = record {
      stands = λ q p at. elim (cases_eq q v) as (λ _. Is new p (read new p)) [
        | inl same ↦ subst (λ k. Is new k (read new k)) (one-some m p (sym puts.adds.here ∙ ap (root_of roots') (sym same) ∙ at)) (itself new m x edits.is)
        | inr other ↦ itself new p (read old p) (beside q p other (sym (puts.adds.others q other ∙ puts.drops.others q other) ∙ at))
      ];
      holds = record {
        holds = λ k. omega (arith, edits.holds k, has.holds.holds k, sum-more k l v puts.between roots puts.drops.free was (λ i o. sym (puts.drops.others i o)), sum-more k m v puts.between roots' puts.adds.free puts.adds.here puts.adds.others);
        count = omega (arith, edits.count, has.holds.count, puts.drops.count, puts.adds.count);
        few = omega (arith, has.holds.few, puts.drops.count, puts.adds.count);
      };
    }

    pub version-put : PutsVersion Is read (values_in read old roots) new roots' v x
    version-put = record {
      stands = put-roots;
      made = same_map nat_cmp_total nat_cmp-IsAntisymmetric (values_in read new roots') (insert (values_in read old roots) v x) put-listed;
    }

  -- what a call does to a store that is seen as these versions: it makes room, makes or edits a root, and keeps it
  module _ {old mid : Heap T} {roots between : List (Option ℕ)} {had : Versions V} (has : HasRoots Is read old roots) (seen : values_in read old roots ≡ had) (keeps : KeepsRoots old mid roots between) where
    pub still-seen : values_in read mid between ≡ had
    still-seen = versions-stay old mid roots between has keeps ∙ seen

    module _ {new : Heap T} {roots' : List (Option ℕ)} {v : ℕ} {x : V} where
      pub adds-version : {l : ℕ} → Makes Is mid new l x → AddsRoot between roots' v l → AddsVersion Is read had new roots' v x
      adds-version {l} makes adds = subst (λ m. AddsVersion Is read m new roots' v x) still-seen (version-made mid new between roots' v l x (roots-stay old mid roots between has keeps) makes adds)

      pub puts-version : {l m : ℕ} → root_of roots v ≡ Some l → Edits Is mid new l m x → PutsRoot between roots' v m → PutsVersion Is read had new roots' v x
      puts-version {l} {m} was edits puts = subst (λ w. PutsVersion Is read w new roots' v x) still-seen (version-put mid new between roots' v l m x (roots-stay old mid roots between has keeps) (ap (λ r. root_of r v) keeps.same ∙ was) edits puts)
