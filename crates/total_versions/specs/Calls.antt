-- What each call does to the value of a store, and answers.
use Rattle.std.specs.Prelude.{◌≡◌, ◌↔◌, ⊤, ℕ, Bool, IsTrue, ◌+◌, ◌-◌, ◌^◌, ◌<◌, ◌≤◌, List, [], ◌∷◌, ◌++◌, length, take, drop, insert, remove, slice_set, slice_get, Some, None, Result}
use Rattle.std.specs.BTreeSet.{insert_key}
use Rattle.std.specs.FinMap as map
use Rattle.std.specs.List.{AllZip}
use Rattle.std.specs.declared.cmp.Ordering.{Ordering}
use Rattle.versions.specs.Store.{Versions, Holds, list_of}
use Rattle.versions.specs.Sorted.{keys_of, entries_of, has, remove_key, union, both, less, remove_entry, map_union, map_both, map_less}
use Rattle.total_versions.specs.declared.answers.Refusal.{Refusal}
use Rattle.total_versions.specs.Answers.{Answers, AnswersAtOnce}

module _ {V : Type 0} where
  -- a version that was free has this value, and every other the one that it had
  abbrev pub Makes : (held past long : Type 0) → V → (had now : Versions V) → Result ℕ Refusal → Type 0
  Makes held past long value had now r = Answers held past long (λ v. (map.get had v ≡ None) × (now ≡ map.insert had v value)) (now ≡ had) r

  -- this version has the value, and every other the one that it had
  abbrev pub Edits : (held past long : Type 0) → ℕ → V → (had now : Versions V) → Result ℕ Refusal → Type 0
  Edits held past long version value had now r = Answers held past long (λ v. (v ≡ version) × (now ≡ map.insert had version value)) (now ≡ had) r

  abbrev pub Forgets : ℕ → (had now : Versions V) → Result ℕ Refusal → Type 0
  Forgets version had now r = AnswersAtOnce (Holds had version) ⊥ (λ v. (v ≡ version) × (now ≡ map.remove had version)) (now ≡ had) r

-- the calls of any store whose versions are lists
module _ {T : Type 0} where
  abbrev pub MakesEmpty : (had now : Versions (List T)) → Result ℕ Refusal → Type 0
  MakesEmpty had now r = Makes ⊤ ⊥ ⊥ [] had now r

  abbrev pub Copies : ℕ → (had now : Versions (List T)) → Result ℕ Refusal → Type 0
  Copies version had now r = Makes (Holds had version) ⊥ ⊥ (list_of had version) had now r

  -- how many there are
  abbrev pub Counts : ℕ → Versions (List T) → Result ℕ Refusal → Type 0
  Counts version had r = AnswersAtOnce (Holds had version) ⊥ (λ n. n ≡ length (list_of had version)) ⊤ r

  -- whether the lists of two versions are as long, and this is so of what stands at each place
  abbrev pub Compares : (T → T → Type 0) → (left right : ℕ) → Versions (List T) → Result Bool Refusal → Type 0
  Compares Equals left right had r = AnswersAtOnce (Holds had left × Holds had right) ⊥ (λ b. IsTrue b ↔ AllZip Equals (list_of had left) (list_of had right)) ⊤ r

-- the calls of lists
module _ {T : Type 0} where
  abbrev pub Pushes : ℕ → T → (had now : Versions (List T)) → Result ℕ Refusal → Type 0
  Pushes version element had now r = Makes (Holds had version) ⊥ (length (list_of had version) ≡ 2 ^ 32 - 1) (list_of had version ++ element ∷ []) had now r

  abbrev pub Replaces : ℕ → ℕ → T → (had now : Versions (List T)) → Result ℕ Refusal → Type 0
  Replaces version index element had now r = Makes (Holds had version) (length (list_of had version) ≤ index) ⊥ (slice_set (list_of had version) index element) had now r

  abbrev pub Inserts : ℕ → ℕ → T → (had now : Versions (List T)) → Result ℕ Refusal → Type 0
  Inserts version index element had now r = Makes (Holds had version) (length (list_of had version) < index) ((index ≤ length (list_of had version)) × (length (list_of had version) ≡ 2 ^ 32 - 1)) (insert (list_of had version) index element) had now r

  abbrev pub Removes : ℕ → ℕ → (had now : Versions (List T)) → Result ℕ Refusal → Type 0
  Removes version index had now r = Makes (Holds had version) (length (list_of had version) ≤ index) ⊥ (remove (list_of had version) index) had now r

  abbrev pub Pops : ℕ → (had now : Versions (List T)) → Result ℕ Refusal → Type 0
  Pops version had now r = Makes (Holds had version) (list_of had version ≡ []) ⊥ (take (length (list_of had version) - 1) (list_of had version)) had now r

  abbrev pub Slices : ℕ → (from to : ℕ) → (had now : Versions (List T)) → Result ℕ Refusal → Type 0
  Slices version from to had now r = Makes (Holds had version) (¬ ((from ≤ to) × (to ≤ length (list_of had version)))) ⊥ (drop from (take to (list_of had version))) had now r

  abbrev pub Concats : (left right : ℕ) → (had now : Versions (List T)) → Result ℕ Refusal → Type 0
  Concats left right had now r = Makes (Holds had left × Holds had right) ⊥ (2 ^ 32 ≤ length (list_of had left) + length (list_of had right)) (list_of had left ++ list_of had right) had now r

  abbrev pub PushesHere : ℕ → T → (had now : Versions (List T)) → Result ℕ Refusal → Type 0
  PushesHere version element had now r = Edits (Holds had version) ⊥ (length (list_of had version) ≡ 2 ^ 32 - 1) version (list_of had version ++ element ∷ []) had now r

  abbrev pub ReplacesHere : ℕ → ℕ → T → (had now : Versions (List T)) → Result ℕ Refusal → Type 0
  ReplacesHere version index element had now r = Edits (Holds had version) (length (list_of had version) ≤ index) ⊥ version (slice_set (list_of had version) index element) had now r

  abbrev pub PopsHere : ℕ → (had now : Versions (List T)) → Result ℕ Refusal → Type 0
  PopsHere version had now r = Edits (Holds had version) (list_of had version ≡ []) ⊥ version (take (length (list_of had version) - 1) (list_of had version)) had now r

  -- the element at the index
  abbrev pub Reads : ℕ → ℕ → Versions (List T) → Result T Refusal → Type 0
  Reads version index had r = AnswersAtOnce (Holds had version) (length (list_of had version) ≤ index) (λ x. slice_get (list_of had version) index ≡ Some x) ⊤ r

-- the calls of sets, whose versions are their keys by rising order
module _ {K : Type 0} (cmp : K → K → Ordering) where
  abbrev pub InsertsKey : ℕ → K → (had now : Versions (List K)) → Result ℕ Refusal → Type 0
  InsertsKey version key had now r = Makes (Holds had version) ⊥ ⊥ (insert_key cmp (keys_of had version) key) had now r

  abbrev pub RemovesKey : ℕ → K → (had now : Versions (List K)) → Result ℕ Refusal → Type 0
  RemovesKey version key had now r = Makes (Holds had version) ⊥ ⊥ (remove_key cmp (keys_of had version) key) had now r

  abbrev pub Unites : (first second : ℕ) → (had now : Versions (List K)) → Result ℕ Refusal → Type 0
  Unites first second had now r = Makes (Holds had first × Holds had second) ⊥ ⊥ (union cmp (keys_of had first) (keys_of had second)) had now r

  abbrev pub Intersects : (first second : ℕ) → (had now : Versions (List K)) → Result ℕ Refusal → Type 0
  Intersects first second had now r = Makes (Holds had first × Holds had second) ⊥ ⊥ (both cmp (keys_of had first) (keys_of had second)) had now r

  abbrev pub Subtracts : (first second : ℕ) → (had now : Versions (List K)) → Result ℕ Refusal → Type 0
  Subtracts first second had now r = Makes (Holds had first × Holds had second) ⊥ ⊥ (less cmp (keys_of had first) (keys_of had second)) had now r

  abbrev pub InsertsKeyHere : ℕ → K → (had now : Versions (List K)) → Result ℕ Refusal → Type 0
  InsertsKeyHere version key had now r = Edits (Holds had version) ⊥ ⊥ version (insert_key cmp (keys_of had version) key) had now r

  abbrev pub RemovesKeyHere : ℕ → K → (had now : Versions (List K)) → Result ℕ Refusal → Type 0
  RemovesKeyHere version key had now r = Edits (Holds had version) ⊥ ⊥ version (remove_key cmp (keys_of had version) key) had now r

  -- whether the set has the key
  abbrev pub HasKey : ℕ → K → Versions (List K) → Result Bool Refusal → Type 0
  HasKey version key had r = AnswersAtOnce (Holds had version) ⊥ (λ b. b ≡ has cmp key (keys_of had version)) ⊤ r

-- the calls of maps, whose versions are their entries by rising keys
module _ {K V : Type 0} (cmp : K → K → Ordering) where
  abbrev pub Puts : ℕ → K → V → (had now : Versions (List (K × V))) → Result ℕ Refusal → Type 0
  Puts version key value had now r = Makes (Holds had version) ⊥ ⊥ (map.put cmp key value (entries_of had version)) had now r

  abbrev pub RemovesEntry : ℕ → K → (had now : Versions (List (K × V))) → Result ℕ Refusal → Type 0
  RemovesEntry version key had now r = Makes (Holds had version) ⊥ ⊥ (remove_entry cmp (entries_of had version) key) had now r

  abbrev pub UnitesMaps : (first second : ℕ) → (had now : Versions (List (K × V))) → Result ℕ Refusal → Type 0
  UnitesMaps first second had now r = Makes (Holds had first × Holds had second) ⊥ ⊥ (map_union cmp (entries_of had first) (entries_of had second)) had now r

  abbrev pub IntersectsMaps : (first second : ℕ) → (had now : Versions (List (K × V))) → Result ℕ Refusal → Type 0
  IntersectsMaps first second had now r = Makes (Holds had first × Holds had second) ⊥ ⊥ (map_both cmp (entries_of had first) (entries_of had second)) had now r

  abbrev pub SubtractsMaps : (first second : ℕ) → (had now : Versions (List (K × V))) → Result ℕ Refusal → Type 0
  SubtractsMaps first second had now r = Makes (Holds had first × Holds had second) ⊥ ⊥ (map_less cmp (entries_of had first) (entries_of had second)) had now r

  abbrev pub PutsHere : ℕ → K → V → (had now : Versions (List (K × V))) → Result ℕ Refusal → Type 0
  PutsHere version key value had now r = Edits (Holds had version) ⊥ ⊥ version (map.put cmp key value (entries_of had version)) had now r

  abbrev pub RemovesEntryHere : ℕ → K → (had now : Versions (List (K × V))) → Result ℕ Refusal → Type 0
  RemovesEntryHere version key had now r = Edits (Holds had version) ⊥ ⊥ version (remove_entry cmp (entries_of had version) key) had now r

  -- the value at the key
  abbrev pub Finds : ℕ → K → Versions (List (K × V)) → Result V Refusal → Type 0
  Finds version key had r = AnswersAtOnce (Holds had version) (map.find cmp key (entries_of had version) ≡ None) (λ v. map.find cmp key (entries_of had version) ≡ Some v) ⊤ r
