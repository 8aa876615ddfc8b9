-- What the calls of a store of sets or of maps read of it.
use Rattle.std.proofs.Common.{◌≡◌, ℕ, ◌<◌, List, [], Option, Some, None, ap, sym, ◌∙◌, subst, arith}
use Rattle.std.specs.Prelude.{option_map, unwrap_or}
use Rattle.std.specs.FinMap.{get}
use Rattle.node_heap.specs.Heap.{Heap, holds_at}
use Rattle.versions.specs.Store.{Versions}
use Rattle.versions.specs.Roots.{AddsRoot, AddsVersion, Edits, HasRoots, IsKind, KeepsRoots, Makes, PutsRoot, PutsVersion, root_of, values_in}
use Rattle.versions.proofs.KeyedLemmas.{seen-value}
use Rattle.versions.proofs.RootLemmas.{listed-at, sum-has}
use Rattle.versions.proofs.MadeLemmas.{adds-version, roots-stay, stays-extended, still-seen, version-put}

module _ {T X : Type 0} {Is : Heap T → ℕ → List X → Type 0} {read : Heap T → ℕ → List X} (kind : IsKind Is read) {old : Heap T} {roots : List (Option ℕ)} {had : Versions (List X)} (has : HasRoots Is read old roots) (seen : values_in read old roots ≡ had) where
  -- the root of a version stands for its value
  pub root-value : (v l : ℕ) → root_of roots v ≡ Some l → Is old l (unwrap_or (get had v) [])
  root-value v l at = seen-value Is read old roots v l has seen at

  -- and is held
  pub root-held : (v l : ℕ) → root_of roots v ≡ Some l → 0 < holds_at old l
  root-held v l at = omega (arith, has.holds.holds l, sum-has l v roots at)

  -- it was edited in place, and the root that came of it put there
  pub puts-here : {new : Heap T} {roots' : List (Option ℕ)} {v l m : ℕ} {xs : List X} → root_of roots v ≡ Some l → Edits Is old new l m xs → PutsRoot roots roots' v m → PutsVersion Is read had new roots' v xs
  puts-here {new} {roots'} {v} {l} {m} {xs} was edits puts = subst (λ w. PutsVersion Is read w new roots' v xs) seen (version-put Is read kind old new roots roots' v l m xs has was edits puts)

  -- a call was refused before anything changed
  pub same-stands : {new : Heap T} → new ≡ old → HasRoots Is read new roots
  same-stands same = subst (λ h. HasRoots Is read h roots) (sym same) has

  pub same-seen : {new : Heap T} → new ≡ old → values_in read new roots ≡ had
  same-seen same = ap (λ h. values_in read h roots) same ∙ seen

  -- where room was made
  module _ {mid : Heap T} {between : List (Option ℕ)} (keeps : KeepsRoots old mid roots between) where
    pub room-stands : HasRoots Is read mid between
    room-stands = roots-stay Is read kind old mid roots between has keeps

    pub room-value : (v l : ℕ) → root_of roots v ≡ Some l → Is mid l (unwrap_or (get had v) [])
    room-value v l at = stays-extended Is read kind old mid keeps.extends l (unwrap_or (get had v) []) (root-value v l at)

    -- what a call made of two versions is kept
    pub merged-version : {new : Heap T} {roots' : List (Option ℕ)} {v l m n : ℕ} {merge : List X → List X → List X} (first second : ℕ) → root_of roots first ≡ Some l → root_of roots second ≡ Some m
        → ((xs ys : List X) → Is mid l xs → Is mid m ys → Makes Is mid new n (merge xs ys)) → AddsRoot between roots' v n → AddsVersion Is read had new roots' v (merge (unwrap_or (get had first) []) (unwrap_or (get had second) []))
    merged-version {l = l} {m = m} first second one other made adds =
        adds-version Is read kind has seen keeps (made _ _ (room-value first l one) (room-value second m other)) adds

    -- and a call was refused after it
    pub refused-stands : {new : Heap T} → new ≡ mid → HasRoots Is read new between
    refused-stands same = subst (λ h. HasRoots Is read h between) (sym same) room-stands

    pub refused-seen : {new : Heap T} → new ≡ mid → values_in read new between ≡ had
    refused-seen same = ap (λ h. values_in read h between) same ∙ still-seen Is read kind has seen keeps

-- what holds of all that is read of roots, and of an empty list, holds of each version
module _ {T X : Type 0} (read : Heap T → ℕ → List X) (h : Heap T) (roots : List (Option ℕ)) (had : Versions (List X)) (seen : values_in read h roots ≡ had) (P : List X → Type 0) (none : P []) (all : (l : ℕ) → P (read h l)) where
  pub each-version : (v : ℕ) → P (unwrap_or (get had v) [])
  each-version v = subst (λ m. P (unwrap_or (get m v) [])) seen (subst (λ r. P (unwrap_or r [])) (sym (listed-at read h roots v)) (each (root_of roots v)))
    where
      each : (r : Option ℕ) → P (unwrap_or (option_map (read h) r) [])
      each None = none
      each (Some l) = all l
