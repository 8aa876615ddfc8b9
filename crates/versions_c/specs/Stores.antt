-- What a call does through a handle.
use Rattle.std.specs.Prelude.{◌≡◌, ◌⊎◌, ℕ, zero, suc, List, Option, Some, None, Result, Err, IsTrue}
use Rattle.std.specs.FinMap as map
use Rattle.versions.specs.Store.{Versions}
use Rattle.total_versions.specs.declared.answers.Refusal.{Refusal}
use Rattle.total_versions.specs.declared.answers.Refusal.TheVariants.{NotText, Memory}
use Rattle.versions_c.specs.declared.form.Form.{Form}
use Rattle.versions_c.specs.declared.value.Value.{Value}
use Rattle.versions_c.specs.declared.store.Store.{Store}
use Rattle.versions_c.specs.Values.{IsGiven, given}
use Rattle.versions_c.specs.Crossing.{code_of, put_or, shown_or}

-- Where the handle has a store, the call did this to it and gave this answer: its number is the code, and the places of the answer
-- are as `places` says. Else the code says that there is none, and nothing was done.
abbrev pub CallsBy : {A P : Type 0} → (places : P → Result A Refusal → P) → (Store → Store → Result A Refusal → Type 0) → (old new : Option Store) → ℕ → (was put : P) → Type 0
CallsBy places does None new code was put = (new ≡ None) × (code ≡ 1) × (put ≡ was)
CallsBy {A} places does (Some s) new code was put = (s' : Store) × (r : Result A Refusal) × (new ≡ Some s') × (code ≡ code_of r) × (put ≡ places was r) × does s s' r

-- its value, if there is one, was put into the place
abbrev pub Calls : {A : Type 0} → (Store → Store → Result A Refusal → Type 0) → (old new : Option Store) → ℕ → (was put : A) → Type 0
Calls does old new code was put = CallsBy put_or does old new code was put

-- its value, if there is one, is shown by its form and its bytes
abbrev pub Shows : (Store → Store → Result Value Refusal → Type 0) → (old new : Option Store) → ℕ → (was put : Form × List ℕ) → Type 0
Shows does old new code was put = CallsBy shown_or does old new code was put

module _ {A : Type 0} where
  -- the call changes the lists alone
  abbrev pub OnLists : (Versions (List Value) → Versions (List Value) → Result A Refusal → Type 0) → Store → Store → Result A Refusal → Type 0
  OnLists does s s' r = (s' ≡ record s { lists = s'.lists }) × does s.lists s'.lists r

  -- the sets alone
  abbrev pub OnSets : (Versions (List Value) → Versions (List Value) → Result A Refusal → Type 0) → Store → Store → Result A Refusal → Type 0
  OnSets does s s' r = (s' ≡ record s { sets = s'.sets }) × does s.sets s'.sets r

  -- the maps alone
  abbrev pub OnMaps : (Versions (List (Value × Value)) → Versions (List (Value × Value)) → Result A Refusal → Type 0) → Store → Store → Result A Refusal → Type 0
  OnMaps does s s' r = (s' ≡ record s { maps = s'.maps }) × does s.maps s'.maps r

module _ {S A : Type 0} where
  -- the call reads, and changes nothing
  abbrev pub Of : (S → Result A Refusal → Type 0) → (had now : S) → Result A Refusal → Type 0
  Of does had now r = (now ≡ had) × does had r

  -- the call looked with the value that was passed, or what was passed is no text
  abbrev pub Seeks : Form → List ℕ → (Value → S → S → Result A Refusal → Type 0) → (had now : S) → Result A Refusal → Type 0
  Seeks form bytes does had now r = (IsGiven form bytes × does (given form bytes) had now r) ⊎ ((r ≡ Err NotText) × (IsGiven form bytes → ⊥) × (now ≡ had))

  -- the call took the value that was passed, or there was no memory for it, which a text alone wants, or what was passed is no text
  abbrev pub Takes : Form → List ℕ → (Value → S → S → Result A Refusal → Type 0) → (had now : S) → Result A Refusal → Type 0
  Takes form bytes does had now r = Seeks form bytes does had now r ⊎ ((r ≡ Err Memory) × IsGiven form bytes × IsTrue form.is_text × (now ≡ had))

-- a store without versions
abbrev pub no_versions : Store
no_versions = record { lists = map.empty; sets = map.empty; maps = map.empty }

-- a store without versions is there now, or nothing changed for want of memory
abbrev pub News : (old new : Option Store) → ℕ → Type 0
News old new zero = new ≡ Some no_versions
News old new (suc n) = (suc n ≡ 5) × (new ≡ old)
