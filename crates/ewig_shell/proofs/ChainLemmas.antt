-- What files of a chain come to, one after another.
use Rattle.std.proofs.Common.{◌≡◌, ◌≢◌, ℕ, zero, suc, ◌+◌, ◌-◌, ◌<◌, ◌≤◌, Bool, true, false, List, [], ◌∷◌, ◌++◌, length, nat_lt, sym, ap, ◌∙◌, subst, refl, arith, None, Some, IfSome, IfOk, IfErr, IsErrAnd, ◌↔◌, Result, Ok, Err, append_assoc, if◌then◌else◌}
use Rattle.std.proofs.lemmas.Bool.{le-ltb, lt-ltb, ne_eqb}
use Rattle.std.specs.Prelude.{◌==◌}
use Rattle.shell_words.specs.Files.{numbered}
use Rattle.std.proofs.lemmas.List.{append-nil}
use Rattle.std.specs.declared.option.Option.{Option}
use Rattle.std.specs.FinMap.{get}
use Rattle.std.specs.Option.{option_or, option_and_then}
use Rattle.shell_terms.specs.Edit.{Bytes}
use Rattle.shell_io.specs.InMemory.{Files}
use Rattle.pool_text.specs.declared.damage.Damage.{Damage}
use Rattle.pool_text.specs.declared.damage.Damage.TheVariants as damage
use Rattle.pool_text.specs.declared.pool.Pool.{Pool}
use Rattle.pool_text.specs.Document.{pool_in_bytes}
use Rattle.pool_delta.specs.Chains.{IsChain, chain_damage, chain_in, start_damage, more_damage, chain_with, chain_with_all, damage_with_all}
use Rattle.ewig_shell.specs.declared.store_fault.StoreFault.{StoreFault}
use Rattle.ewig_shell.specs.declared.store_fault.StoreFault.TheVariants as fault
use Rattle.shell_io.specs.Storing.{FetchesFile}
use Rattle.shell_io.specs.declared.device.FetchFault.{FetchFault}
use Rattle.shell_io.specs.declared.device.FetchFault.TheVariants as fetch
use Rattle.ewig_shell.specs.Faults.{fetch_fault}
use Rattle.ewig_shell.specs.Step.{Fetched, missing, large, given, with_file, fetched_within, fetched_all, chain_name, chain_names, most_stored}
use Rattle.ewig_shell.specs.Chaining.{IsReadAs, AreFetched, IsNotTaken, IsUntaken}

-- ## Files one after another

-- how many bytes the files have in all
abbrev pub total : List Bytes → ℕ
total [] = 0
total (bytes ∷ files) = length bytes + total files

abbrev pub with_files : List Bytes → Fetched (List Bytes) → Fetched (List Bytes)
with_files [] found = found
with_files (bytes ∷ files) found = with_file bytes (with_files files found)

with_files-given : (front back : List Bytes) → with_files front (given back) ≡ given (front ++ back)
with_files-given [] back = refl
with_files-given (bytes ∷ front) back = ap (with_file bytes) (with_files-given front back)

with_files-missing : (front : List Bytes) → with_files front missing ≡ missing
with_files-missing [] = refl
with_files-missing (bytes ∷ front) = ap (with_file bytes) (with_files-missing front)

with_files-large : (front : List Bytes) → with_files front large ≡ large
with_files-large [] = refl
with_files-large (bytes ∷ front) = ap (with_file bytes) (with_files-large front)

module _ (files : Files) where
  -- what the others are, where these were such
  abbrev pub then_all : Fetched (List Bytes) → ℕ → List Bytes → Fetched (List Bytes)
  then_all missing room names = missing
  then_all large room names = large
  then_all (given front) room names = with_files front (fetched_all files (room - total front) names)

  under : (bytes : Bytes) (room : ℕ) (found : Fetched (List Bytes)) (names : List Bytes) → with_file bytes (then_all found (room - length bytes) names) ≡ then_all (with_file bytes found) room names
  under bytes room missing names = refl
  under bytes room large names = refl
  under bytes room (given front) names =
      let left : room - length bytes - total front ≡ room - (length bytes + total front) = omega arith in
      ap (λ (n : ℕ). with_file bytes (with_files front (fetched_all files n names))) left

  within : (room : ℕ) (file : Option Bytes) (names others : List Bytes) → ((left : ℕ) → fetched_all files left (names ++ others) ≡ then_all (fetched_all files left names) left others) →
      fetched_within room file (λ bytes. with_file bytes (fetched_all files (room - length bytes) (names ++ others))) ≡ then_all (fetched_within room file (λ bytes. with_file bytes (fetched_all files (room - length bytes) names))) room others
  within room None names others later = refl
  within room (Some bytes) names others later = by (nat_lt room (length bytes))
    where
      by : (long : Bool) → (if long then large else with_file bytes (fetched_all files (room - length bytes) (names ++ others))) ≡ then_all (if long then large else with_file bytes (fetched_all files (room - length bytes) names)) room others
      by true = refl
      by false = ap (with_file bytes) (later (room - length bytes)) ∙ under bytes room (fetched_all files (room - length bytes) names) others

  none-before : (room : ℕ) (others : List Bytes) → fetched_all files room others ≡ then_all (given []) room others
  none-before room others = let same : room ≡ room - 0 = omega arith in ap (λ (n : ℕ). fetched_all files n others) same

  pub all-append : (room : ℕ) (names others : List Bytes) → fetched_all files room (names ++ others) ≡ then_all (fetched_all files room names) room others
  unfolding fetched_all
  all-append room [] others = none-before room others
  all-append room (name ∷ names) others = within room (get files name) names others (λ left. all-append left names others)

  module _ (room : ℕ) (names : List Bytes) where
    -- once a file is missing, or they are too many bytes, what comes later doesn't matter
    pub stays-missing : (others : List Bytes) → missing ≡ fetched_all files room names → missing ≡ fetched_all files room (names ++ others)
    stays-missing others e = sym (all-append room names others ∙ ap (λ (f : Fetched (List Bytes)). then_all f room others) (sym e))

    pub stays-large : (others : List Bytes) → large ≡ fetched_all files room names → large ≡ fetched_all files room (names ++ others)
    stays-large others e = sym (all-append room names others ∙ ap (λ (f : Fetched (List Bytes)). then_all f room others) (sym e))

    module _ (front : List Bytes) (so_far : given front ≡ fetched_all files room names) (name : Bytes) where
      one_more : fetched_all files room (names ++ name ∷ []) ≡ with_files front (fetched_all files (room - total front) (name ∷ []))
      one_more = all-append room names (name ∷ []) ∙ ap (λ (f : Fetched (List Bytes)). then_all f room (name ∷ [])) (sym so_far)

      one-missing : (left : ℕ) → get files name ≡ None → fetched_all files left (name ∷ []) ≡ missing
      unfolding fetched_all
      one-missing left e = rw e refl

      one-large : (left : ℕ) (bytes : Bytes) → get files name ≡ Some bytes → left < length bytes → fetched_all files left (name ∷ []) ≡ large
      unfolding fetched_all
      one-large left bytes e many = rw e (rw (lt-ltb left (length bytes) many) refl)

      one-given : (left : ℕ) (bytes : Bytes) → get files name ≡ Some bytes → length bytes ≤ left → fetched_all files left (name ∷ []) ≡ given (bytes ∷ [])
      unfolding fetched_all
      one-given left bytes e few = rw e (rw (le-ltb left (length bytes) few) refl)

      pub next-missing : get files name ≡ None → missing ≡ fetched_all files room (names ++ name ∷ [])
      next-missing e = sym (one_more ∙ ap (with_files front) (one-missing (room - total front) e) ∙ with_files-missing front)

      pub next-large : (bytes : Bytes) → get files name ≡ Some bytes → room - total front < length bytes → large ≡ fetched_all files room (names ++ name ∷ [])
      next-large bytes e many = sym (one_more ∙ ap (with_files front) (one-large (room - total front) bytes e many) ∙ with_files-large front)

      pub next-given : (bytes : Bytes) → get files name ≡ Some bytes → length bytes ≤ room - total front → given (front ++ bytes ∷ []) ≡ fetched_all files room (names ++ name ∷ [])
      next-given bytes e few = sym (one_more ∙ ap (with_files front) (one-given (room - total front) bytes e few) ∙ with_files-given front (bytes ∷ []))

-- the names of more files begin with these
pub names-front : (file : Bytes) (few more : ℕ) → (others : List Bytes) × (chain_names file (few + more) ≡ chain_names file few ++ others)
unfolding chain_names
names-front file few zero = ([], ap (chain_names file) (let e : few + 0 ≡ few = omega arith in e) ∙ sym (append-nil (chain_names file few)))
names-front file few (suc more) =
    let before = names-front file few more in
    let e : few + suc more ≡ suc (few + more) = omega arith in (
      before.0 ++ chain_name file (few + more) ∷ [],
      ap (chain_names file) e ∙ ap (λ (names : List Bytes). names ++ chain_name file (few + more) ∷ []) before.1 ∙ append_assoc (chain_names file few) before.0 (chain_name file (few + more) ∷ []),
    )

-- ## Documents one after another

total-more : (front : List Bytes) (bytes : Bytes) → total (front ++ bytes ∷ []) ≡ total front + length bytes
total-more [] bytes = omega arith
total-more (first ∷ front) bytes = omega (arith, total-more front bytes)

-- what holds of a part behind others, where it holds of a part behind each
step : (found : Option Damage) (there : Option Pool) (all few : Pool → Option Damage) (more : Pool → Option Pool) (last : Pool → Option Damage) → ((C : Pool) → all C ≡ option_or (few C) (option_and_then last (more C))) →
    option_or found (option_and_then all there) ≡ option_or (option_or found (option_and_then few there)) (option_and_then last (option_and_then more there))
step (Some d) there all few more last each = refl
step None None all few more last each = refl
step None (Some C) all few more last each = each C

step_in : (there : Option Pool) (all more last : Pool → Option Pool) → ((C : Pool) → all C ≡ option_and_then last (more C)) → option_and_then all there ≡ option_and_then last (option_and_then more there)
step_in None all more last each = refl
step_in (Some C) all more last each = each C

only_damage : (found : Option Damage) (there : Option Pool) → option_or found (option_and_then (λ (C : Pool). None) there) ≡ found
only_damage (Some d) there = refl
only_damage None None = refl
only_damage None (Some C) = refl

only_pool : (there : Option Pool) → option_and_then (λ (C : Pool). Some C) there ≡ there
only_pool None = refl
only_pool (Some C) = refl

module _ (bytes : Bytes) where
  damage-append : (more : List Bytes) (C : Pool) → damage_with_all C (more ++ bytes ∷ []) ≡ option_or (damage_with_all C more) (option_and_then (λ D. more_damage D bytes) (chain_with_all C more))
  damage-append [] C = only_damage (more_damage C bytes) (chain_with C bytes)
  damage-append (first ∷ more) C = step (more_damage C first) (chain_with C first) (λ D. damage_with_all D (more ++ bytes ∷ [])) (λ D. damage_with_all D more) (λ D. chain_with_all D more) (λ D. more_damage D bytes) (damage-append more)

  pool-append : (more : List Bytes) (C : Pool) → chain_with_all C (more ++ bytes ∷ []) ≡ option_and_then (λ D. chain_with D bytes) (chain_with_all C more)
  pool-append [] C = only_pool (chain_with C bytes)
  pool-append (first ∷ more) C = step_in (chain_with C first) (λ D. chain_with_all D (more ++ bytes ∷ [])) (λ D. chain_with_all D more) (λ D. chain_with D bytes) (pool-append more)

  module _ (bits : ℕ) (first : Bytes) (more : List Bytes) where
    pub chain-damage-append : chain_damage bits first (more ++ bytes ∷ []) ≡ option_or (chain_damage bits first more) (option_and_then (λ D. more_damage D bytes) (chain_in first more))
    chain-damage-append = step (start_damage bits first) (pool_in_bytes first) (λ D. damage_with_all D (more ++ bytes ∷ [])) (λ D. damage_with_all D more) (λ D. chain_with_all D more) (λ D. more_damage D bytes) (damage-append more)

    pub chain-in-append : chain_in first (more ++ bytes ∷ []) ≡ option_and_then (λ D. chain_with D bytes) (chain_in first more)
    chain-in-append = step_in (pool_in_bytes first) (λ D. chain_with_all D (more ++ bytes ∷ [])) (λ D. chain_with_all D more) (λ D. chain_with D bytes) (pool-append more)

  -- an undamaged document more
  pub read-more : (bits : ℕ) (files : List Bytes) (C D : Pool) → IsReadAs bits files (Ok C) → chain_with C bytes ≡ Some D → more_damage C bytes ≡ None → D.bits ≡ C.bits → IsChain D → IsReadAs bits (files ++ bytes ∷ []) (Ok D)
  read-more bits [] C D read there whole same chain = absurd read
  read-more bits (first ∷ more) C D read there whole same chain = (
    chain-damage-append bits first more
        ∙ ap (λ (o : Option Damage). option_or o (option_and_then (λ E. more_damage E bytes) (chain_in first more))) read.0
        ∙ ap (λ (o : Option Pool). option_and_then (λ E. more_damage E bytes) o) read.1 ∙ whole,
    chain-in-append bits first more ∙ ap (λ (o : Option Pool). option_and_then (λ E. chain_with E bytes) o) read.1 ∙ there,
    same ∙ read.2,
    chain,
  )

  -- a damaged one, behind a chain or behind a damaged one
  pub read-damaged : (bits : ℕ) (files : List Bytes) (C : Pool) (d : Damage) → IsReadAs bits files (Ok C) → (d ≢ damage.Memory → more_damage C bytes ≡ Some d) → IsReadAs bits (files ++ bytes ∷ []) (Err d)
  read-damaged bits [] C d read is = absurd read
  read-damaged bits (first ∷ more) C d read is = λ other.
      chain-damage-append bits first more
      ∙ ap (λ (o : Option Damage). option_or o (option_and_then (λ E. more_damage E bytes) (chain_in first more))) read.0
      ∙ ap (λ (o : Option Pool). option_and_then (λ E. more_damage E bytes) o) read.1 ∙ is other

  pub read-before : (bits : ℕ) (files : List Bytes) (d : Damage) → IsReadAs bits files (Err d) → IsReadAs bits (files ++ bytes ∷ []) (Err d)
  read-before bits [] d read = absurd read
  read-before bits (first ∷ more) d read = λ other.
      chain-damage-append bits first more ∙ ap (λ (o : Option Damage). option_or o (option_and_then (λ E. more_damage E bytes) (chain_in first more))) (read other)

-- a document more behind a chain, as it was read
pub reads-more : (bytes : Bytes) (bits : ℕ) (files : List Bytes) (C : Pool) (result : Result Pool Damage) → IsReadAs bits files (Ok C) → IfOk result (λ (D : Pool). chain_with C bytes ≡ Some D) → IfOk result IsChain → IfOk result (λ (D : Pool). D.bits ≡ C.bits) →
    IfOk result (λ (D : Pool). more_damage C bytes ≡ None) → IfErr result (λ (d : Damage). d ≢ damage.Memory → more_damage C bytes ≡ Some d) → IsReadAs bits (files ++ bytes ∷ []) result
reads-more bytes bits files C (Ok D) read there chain same whole damaged = read-more bytes bits files C D read there whole same chain
reads-more bytes bits files C (Err d) read there chain same whole damaged = read-damaged bytes bits files C d read damaged

-- the first document
pub read-first : (bits : ℕ) (bytes : Bytes) (C : Pool) → pool_in_bytes bytes ≡ Some C → start_damage bits bytes ≡ None → C.bits ≡ bits → IsChain C → IsReadAs bits (bytes ∷ []) (Ok C)
read-first bits bytes C there whole same chain = (
  only_damage (start_damage bits bytes) (pool_in_bytes bytes) ∙ whole,
  only_pool (pool_in_bytes bytes) ∙ there,
  same,
  chain,
)

pub read-first-damaged : (bits : ℕ) (bytes : Bytes) (d : Damage) → (d ≢ damage.Memory → start_damage bits bytes ≡ Some d) → IsReadAs bits (bytes ∷ []) (Err d)
read-first-damaged bits bytes d is = λ other. only_damage (start_damage bits bytes) (pool_in_bytes bytes) ∙ is other

pub reads-first : (bits : ℕ) (bytes : Bytes) (result : Result Pool Damage) → IfOk result (λ (C : Pool). pool_in_bytes bytes ≡ Some C) → IfOk result IsChain → IfOk result (λ (C : Pool). C.bits ≡ bits) →
    IfOk result (λ (C : Pool). start_damage bits bytes ≡ None) → IfErr result (λ (d : Damage). d ≢ damage.Memory → start_damage bits bytes ≡ Some d) → IsReadAs bits (bytes ∷ []) result
reads-first bits bytes (Ok C) there chain same whole damaged = read-first bits bytes C there whole same chain
reads-first bits bytes (Err d) there chain same whole damaged = read-first-damaged bits bytes d damaged

-- ## A file that is taken

-- what a fetch said, as it ended
pub fetched-as : (held : Option Files) (name : Bytes) (room : ℕ) (result result' : Result (Unit {0}) FetchFault) (bytes : Bytes) → result ≡ result' →
    IfSome held (λ (files : Files). FetchesFile (get files name) room result bytes) → IfSome held (λ (files : Files). FetchesFile (get files name) room result' bytes)
fetched-as held name room result result' bytes ends told = subst (λ (r : Result (Unit {0}) FetchFault). IfSome held (λ (files : Files). FetchesFile (get files name) room r bytes)) ends told

-- why it wasn't taken
not-taken : (held : Option Files) (name : Bytes) (room : ℕ) (why : FetchFault) (bytes : Bytes) → IfSome held (λ (files : Files). FetchesFile {A = Unit {0}} (get files name) room (Err why) bytes) → IsNotTaken held name room (fetch_fault why)
not-taken held name room fetch.Missing bytes told = told
not-taken held name room fetch.Large bytes told = told
not-taken held name room fetch.Failed bytes told = tt
not-taken held name room fetch.Memory bytes told = tt

pub not-taken-as : {A : Type 0} (held : Option Files) (name : Bytes) (room : ℕ) (fetched : Result (Unit {0}) FetchFault) (why : FetchFault) (bytes : Bytes) (result : Result A StoreFault) → fetched ≡ Err why → IsErrAnd result (λ (f : StoreFault). f ≡ fetch_fault why) →
    IfSome held (λ (files : Files). FetchesFile (get files name) room fetched bytes) → IfErr result (λ (f : StoreFault). IsNotTaken held name room f)
not-taken-as held name room fetched why bytes (Ok x) is ends told = absurd ends
not-taken-as held name room fetched why bytes (Err f) is ends told = subst (λ (g : StoreFault). IsNotTaken held name room g) (sym ends) (not-taken held name room why bytes (fetched-as held name room fetched (Err why) bytes is told))

-- the store failed exactly where this says so
failed-back : (why : FetchFault) → fetch_fault why ≡ fault.Failed → why ≡ fetch.Failed
failed-back fetch.Missing e = cc
failed-back fetch.Large e = cc
failed-back fetch.Failed e = refl
failed-back fetch.Memory e = cc

pub fails-as : {A : Type 0} (fetched : Result (Unit {0}) FetchFault) (why : FetchFault) (result : Result A StoreFault) → fetched ≡ Err why → IsErrAnd result (λ (f : StoreFault). f ≡ fetch_fault why) → (fetched ≡ Err fetch.Failed) ↔ (result ≡ Err fault.Failed)
fails-as fetched why (Ok x) is ends = absurd ends
fails-as {A} fetched why (Err f) is ends = (
  λ failed. (let same : ◌≡◌ {A = Result (Unit {0}) FetchFault} (Err why) (Err fetch.Failed) = sym is ∙ failed in let one : why ≡ fetch.Failed = cc in ap (λ (g : StoreFault). Err g) (ends ∙ ap fetch_fault one)),
  λ failed. (let same : ◌≡◌ {A = Result A StoreFault} (Err f) (Err fault.Failed) = failed in let one : f ≡ fault.Failed = cc in is ∙ ap (λ (g : FetchFault). Err g) (failed-back why (sym ends ∙ one))),
)

-- ## The next file of a chain

pub names-one : (file : Bytes) (number : ℕ) → 1 ≤ number → chain_name file number ≡ numbered file number
names-one file number some = let other : (number == 0) ≡ false = ne_eqb number 0 (λ e. omega (arith, e, some)) in rw other refl

module _ (fs : Files) (file : Bytes) (number : ℕ) (files : List Bytes) (room : ℕ) (so_far : given files ≡ fetched_all fs most_stored (chain_names file number)) (left : room + total files ≡ most_stored) where
  now-missing : get fs (chain_name file number) ≡ None → missing ≡ fetched_all fs most_stored (chain_names file (suc number))
  unfolding chain_names
  now-missing e = next-missing fs most_stored (chain_names file number) files so_far (chain_name file number) e

  now-large : (bytes : Bytes) → get fs (chain_name file number) ≡ Some bytes → room < length bytes → large ≡ fetched_all fs most_stored (chain_names file (suc number))
  unfolding chain_names
  now-large bytes e many = next-large fs most_stored (chain_names file number) files so_far (chain_name file number) bytes e (omega (arith, left, many))

  pub now-given : (bytes : Bytes) → get fs (chain_name file number) ≡ Some bytes → length bytes ≤ room → given (files ++ bytes ∷ []) ≡ fetched_all fs most_stored (chain_names file (suc number))
  unfolding chain_names
  now-given bytes e few = next-given fs most_stored (chain_names file number) files so_far (chain_name file number) bytes e (omega (arith, left, few))

  module _ (more : ℕ) where
    pub so-missing : get fs (chain_name file number) ≡ None → missing ≡ fetched_all fs most_stored (chain_names file (suc number + more))
    so-missing e =
        let front = names-front file (suc number) more in
        stays-missing fs most_stored (chain_names file (suc number)) front.0 (now-missing e) ∙ ap (fetched_all fs most_stored) (sym front.1)

    pub so-large : (bytes : Bytes) → get fs (chain_name file number) ≡ Some bytes → room < length bytes → large ≡ fetched_all fs most_stored (chain_names file (suc number + more))
    so-large bytes e many =
        let front = names-front file (suc number) more in
        stays-large fs most_stored (chain_names file (suc number)) front.0 (now-large bytes e many) ∙ ap (fetched_all fs most_stored) (sym front.1)

-- it was taken
pub taken-next : (held : Option Files) (file : Bytes) (number : ℕ) (files : List Bytes) (room : ℕ) (bytes : Bytes) → AreFetched held (chain_names file number) (given files) → room + total files ≡ most_stored →
    IfSome held (λ (fs : Files). get fs (chain_name file number) ≡ Some bytes) → length bytes ≤ room → AreFetched held (chain_names file (suc number)) (given (files ++ bytes ∷ []))
taken-next None file number files room bytes so_far left told few = tt
taken-next (Some fs) file number files room bytes so_far left told few = now-given fs file number files room so_far left bytes told few

-- it wasn't, and so the chain isn't
pub untaken-next : (held : Option Files) (file : Bytes) (number more : ℕ) (files : List Bytes) (room : ℕ) (why : StoreFault) → AreFetched held (chain_names file number) (given files) → room + total files ≡ most_stored →
    IsNotTaken held (chain_name file number) room why → IsUntaken held (chain_names file (suc number + more)) why
untaken-next None file number more files room fault.Missing so_far left told = tt
untaken-next (Some fs) file number more files room fault.Missing so_far left told = so-missing fs file number files room so_far left more told
untaken-next None file number more files room fault.Large so_far left told = tt
untaken-next (Some fs) file number more files room fault.Large so_far left told = so-large fs file number files room so_far left more told.0 told.1 told.2
untaken-next held file number more files room fault.Failed so_far left told = tt
untaken-next held file number more files room fault.Memory so_far left told = tt
untaken-next held file number more files room _ so_far left told = absurd told

-- ## One turn

pub none-taken : (held : Option Files) (file : Bytes) → AreFetched held (chain_names file 0) (given [])
unfolding fetched_all chain_names
none-taken None file = tt
none-taken (Some fs) file = refl

-- a file of the chain was taken, which has this name
pub taken-at : (now held : Option Files) (file name : Bytes) (number : ℕ) (files : List Bytes) (room : ℕ) (bytes : Bytes) → now ≡ held → AreFetched held (chain_names file number) (given files) → room + total files ≡ most_stored → name ≡ chain_name file number →
    IfSome now (λ (fs : Files). get fs name ≡ Some bytes) → length bytes ≤ room → AreFetched held (chain_names file (suc number)) (given (files ++ bytes ∷ []))
taken-at now held file name number files room bytes same so_far left named told few =
    taken-next held file number files room bytes so_far left
    (subst (λ (h : Option Files). IfSome h (λ (fs : Files). get fs (chain_name file number) ≡ Some bytes)) same (subst (λ (n : Bytes). IfSome now (λ (fs : Files). get fs n ≡ Some bytes)) named told)) few

-- so there is room for so many bytes less
pub left-then : (files : List Bytes) (room : ℕ) (bytes : Bytes) → room + total files ≡ most_stored → length bytes ≤ room → room - length bytes + total (files ++ bytes ∷ []) ≡ most_stored
left-then files room bytes left few = omega (arith, left, few, total-more files bytes)

-- it wasn't taken
pub untaken-at : {A : Type 0} (now held : Option Files) (file name : Bytes) (number count : ℕ) (files : List Bytes) (room : ℕ) (why : StoreFault) (result : Result A StoreFault) → now ≡ held → AreFetched held (chain_names file number) (given files) → room + total files ≡ most_stored → number < count → name ≡ chain_name file number →
    IsNotTaken now name room why → IsErrAnd result (λ (f : StoreFault). f ≡ why) → IfErr result (λ (f : StoreFault). IsUntaken held (chain_names file count) f)
untaken-at now held file name number count files room why (Ok x) same so_far left before named told ends = absurd ends
untaken-at now held file name number count files room why (Err f) same so_far left before named told ends =
    let whole : suc number + (count - suc number) ≡ count = omega (arith, before) in
    subst (λ (g : StoreFault). IsUntaken held (chain_names file count) g) (sym ends)
    (subst (λ (n : ℕ). IsUntaken held (chain_names file n) why) whole
    (untaken-next held file number (count - suc number) files room why so_far left
    (subst (λ (h : Option Files). IsNotTaken h (chain_name file number) room why) same (subst (λ (n : Bytes). IsNotTaken now n room why) named told))))

-- the fault is handed on
pub fails-on : {A B : Type 0} (taken : Result B StoreFault) (why : StoreFault) (result : Result A StoreFault) → taken ≡ Err why → IsErrAnd result (λ (f : StoreFault). f ≡ why) → (taken ≡ Err fault.Failed) ↔ (result ≡ Err fault.Failed)
fails-on taken why (Ok x) is ends = absurd ends
fails-on {A} {B} taken why (Err f) is ends = (
  λ failed. (let same : ◌≡◌ {A = Result B StoreFault} (Err why) (Err fault.Failed) = sym is ∙ failed in let one : why ≡ fault.Failed = cc in ap (λ (g : StoreFault). Err g) (ends ∙ one)),
  λ failed. (let same : ◌≡◌ {A = Result A StoreFault} (Err f) (Err fault.Failed) = failed in let one : f ≡ fault.Failed = cc in is ∙ ap (λ (g : StoreFault). Err g) (sym ends ∙ one)),
)
