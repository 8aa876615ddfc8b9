-- What a call through a handle does, by what is known of it.
use Rattle.std.proofs.Common.{◌≡◌, ℕ, Box, Global, List, Option, Some, None, refl, sym, ap, subst, inl, inr}
use Rattle.std.specs.Prelude.{Result, Ok, Err, IfOk}
use Rattle.versions.specs.Store.{Versions}
use Rattle.total_versions.specs.declared.answers.Refusal.{Refusal}
use Rattle.total_versions.specs.declared.answers.Refusal.TheVariants as refusal
use Rattle.versions_c.specs.declared.form.Form.{Form}
use Rattle.versions_c.specs.declared.store.Store.{Store}
use Rattle.versions_c.specs.declared.value.Value.{Value}
use Rattle.versions_c.specs.Values.{IsGiven, given}
use Rattle.versions_c.specs.Crossing.{code_of, Taken, TakenPair}
use Rattle.versions_c.specs.Stores.{CallsBy, OnLists, OnSets, OnMaps, Seeks, Takes}

-- a call that looks with what was passed, and one that takes it
module _ {S A : Type 0} (form : Form) (bytes : List ℕ) (does : Value → S → S → Result A Refusal → Type 0) {had now : S} where
  pub seeks-ok : {x : Value} {r : Result A Refusal} → IsGiven form bytes × (x ≡ given form bytes) → does x had now r → Seeks form bytes does had now r
  seeks-ok {r = r} is did = inl (is.0, subst (λ y. does y had now r) is.1 did)

  pub seeks-err : {r : Refusal} → (r ≡ refusal.NotText) × (IsGiven form bytes → ⊥) → now ≡ had → Seeks form bytes does had now (Err r)
  seeks-err is same = inr (ap Err is.0, is.1, same)

  pub takes-ok : {x : Value} {r : Result A Refusal} → Taken form bytes (Ok x) → does x had now r → Takes form bytes does had now r
  takes-ok is did = inl (seeks-ok is did)

  pub takes-err : (r : Refusal) → Taken form bytes (Err r) → now ≡ had → Takes form bytes does had now (Err r)
  takes-err refusal.NoStore is same = absurd is
  takes-err refusal.NoVersion is same = absurd is
  takes-err refusal.Range is same = absurd is
  takes-err refusal.Long is same = absurd is
  takes-err refusal.Memory is same = inr (refl, is.0, is.1, same)
  takes-err refusal.NotText is same = inl (inr (refl, is, same))

-- one that takes two
module _ {S A : Type 0} (form : Form) (bytes : List ℕ) (form' : Form) (bytes' : List ℕ) (does : Value → Value → S → S → Result A Refusal → Type 0) {had now : S} where
  pub takes-both : {p : Value × Value} {r : Result A Refusal} → TakenPair form bytes form' bytes' (Ok p) → does p.0 p.1 had now r
      → Takes form bytes (λ x. Takes form' bytes' (does x)) had now r
  takes-both {p} is did = takes-ok form bytes (λ x. Takes form' bytes' (does x)) is.0 (takes-ok form' bytes' (does p.0) is.1 did)

  pub takes-neither : (r : Refusal) → TakenPair form bytes form' bytes' (Err r) → now ≡ had → Takes form bytes (λ x. Takes form' bytes' (does x)) had now (Err r)
  takes-neither r (inl is) same = takes-err form bytes (λ x. Takes form' bytes' (does x)) r is same
  takes-neither r (inr is) same = inl (inl (is.0, takes-err form' bytes' (does (given form bytes)) r is.1 same))

-- a call through a handle
module _ {A P : Type 0} (places : P → Result A Refusal → P) (was : P) where
  pub calls-none : (does : Store → Store → Result A Refusal → Type 0) {old new : Option Store} {code : ℕ} {put : P} → old ≡ None → new ≡ None → code ≡ 1 → put ≡ was → CallsBy places does old new code was put
  calls-none does {new = new} {code = code} {put = put} none left told same = subst (λ o. CallsBy places does o new code was put) (sym none) (left, told, same)

  pub calls-some : (does : Store → Store → Result A Refusal → Type 0) (s s' : Store) (r : Result A Refusal) {old new : Option Store} {code : ℕ} {put : P}
      → old ≡ Some s → new ≡ Some s' → code ≡ code_of r → put ≡ places was r → does s s' r → CallsBy places does old new code was put
  calls-some does s s' r {new = new} {code = code} {put = put} some left told same did = subst (λ o. CallsBy places does o new code was put) (sym some) (s', r, left, told, same, did)

  -- where the version was passed as its number
  pub calls-at : (does : ℕ → Store → Store → Result A Refusal → Type 0) {v w : ℕ} → v ≡ w → (s s' : Store) (r : Result A Refusal) {old new : Option Store} {code : ℕ} {put : P}
      → old ≡ Some s → new ≡ Some s' → code ≡ code_of r → put ≡ places was r → does v s s' r → CallsBy places (does w) old new code was put
  calls-at does is s s' r {old = old} {new = new} {code = code} {put = put} some left told same did =
      subst (λ u. CallsBy places (does u) old new code was put) is (calls-some (does _) s s' r some left told same did)

-- a call that left the store as it was
module _ {A : Type 0} {s t : Store} {r : Result A Refusal} where
  pub same-lists : (does : Versions (List Value) → Versions (List Value) → Result A Refusal → Type 0) → s ≡ t → does s.lists s.lists r → OnLists does s t r
  same-lists does same did = subst (λ u. OnLists does s u r) same (refl, did)

  pub same-sets : (does : Versions (List Value) → Versions (List Value) → Result A Refusal → Type 0) → s ≡ t → does s.sets s.sets r → OnSets does s t r
  same-sets does same did = subst (λ u. OnSets does s u r) same (refl, did)

  pub same-maps : (does : Versions (List (Value × Value)) → Versions (List (Value × Value)) → Result A Refusal → Type 0) → s ≡ t → does s.maps s.maps r → OnMaps does s t r
  same-maps does same did = subst (λ u. OnMaps does s u r) same (refl, did)

-- the number 0 is of an answer alone
pub answered : {A P : Type 0} (r : Result A Refusal) → code_of r ≡ 0 → IfOk r (λ _. P) → P
answered (Ok x) is so = so
answered (Err refusal.NoStore) is so = absurd (let bad = is in cc)
answered (Err refusal.NoVersion) is so = absurd (let bad = is in cc)
answered (Err refusal.Range) is so = absurd (let bad = is in cc)
answered (Err refusal.Long) is so = absurd (let bad = is in cc)
answered (Err refusal.Memory) is so = absurd (let bad = is in cc)
answered (Err refusal.NotText) is so = absurd (let bad = is in cc)

pub boxed : {b d : Box Store Global} → b ≡ d → b.value ≡ d.value
boxed is = ap (λ (b : Box Store Global). b.value) is

-- what a branch did, by the values that go on behind it
module _ {A : Type 0} (does : ℕ → Store → Store → Result A Refusal → Type 0) {v w : ℕ} {s t s' t' : Store} {r q : Result A Refusal} where
  pub joined : v ≡ w → t ≡ s → s' ≡ t' → r ≡ q → does v t t' q → does w s s' r
  joined at from to answer did =
      subst (λ u. does u s s' r) at (subst (λ x. does v x s' r) from (subst (λ x. does v t x r) (sym to) (subst (λ p. does v t t' p) (sym answer) did)))
