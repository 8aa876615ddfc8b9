-- What a part and a chain of the files behind it make of each other.
use Rattle.std.proofs.Common.{◌≡◌, ◌≢◌, ℕ, zero, suc, ◌+◌, ◌-◌, ◌<◌, ◌≤◌, ◌&&◌, nat_le, nat_lt, List, [], ◌∷◌, ◌++◌, map, Bool, true, false, Option, None, Some, codes, length, length-append, refl, sym, ap, subst, ◌∙◌, inl, inr, ◌⊎◌, if◌then◌else◌, cond, MatchBool, MatchOption, IfSome, IsSomeAnd, Ok, Err, arith}
use Rattle.std.proofs.lemmas.Bool.{cases_lt, leb-true, and_parts}
use Rattle.std.proofs.lemmas.List.{append_cancel_left, map-append}
use Rattle.std.proofs.lemmas.Fmt.{decimal_injective}
use Rattle.std.specs.Fmt.{decimal}
use Rattle.std.specs.Option.{option_or, option_and_then}
use Rattle.std.specs.FinMap.{get, insert}
use Rattle.shell_terms.specs.Edit.{Bytes}
use Rattle.shell_terms.specs.Command.{save, part, chain}
use Rattle.shell_words.specs.Files.{numbered}
use Rattle.plain_space.specs.declared.TheConstants.{MOST_PARTS}
use Rattle.plain_space.specs.declared.refusal.Refusal.TheVariants as why
use Rattle.plain_space.specs.Workspace.{Workspace, in_batch}
use Rattle.plain_space.specs.Refusing.{needs, unless}
use Rattle.plain_space.specs.Answer.{Answer, elsewhere, answer}
use Rattle.pool_text.specs.Pool.{at_present_version}
use Rattle.pool_text.specs.Document.{text, pool_in_bytes}
use Rattle.pool_text.specs.declared.pool.Pool.{Pool}
use Rattle.pool_text.specs.declared.damage.Damage.{Damage}
use Rattle.pool_delta.specs.Parts.{part_text}
use Rattle.pool_delta.specs.Delta.{delta}
use Rattle.pool_delta.specs.Chains.{chain_damage, chain_in, chain_pool, chain_with, chain_with_all, damage_with_all, more_damage, with_part}
use Rattle.state_rows.specs.Standing.{StandsFor}
use Rattle.space_state.specs.View.{SpaceView}
use Rattle.shell_io.specs.Fault.{HasCause, last_count}
use Rattle.shell_io.specs.InMemory.{Files}
use Rattle.ewig_shell.specs.Step.{Machine, StoreView, KeepsFiles, Refuses, IsStored, Fetched, missing, large, given, with_file, fetched_within, fetched_all, chain_name, chain_names, most_stored, Makes, TakesFiles, IsPartDocumentOf, StoresPart, LoadsChain, ChainsFiles, Obeys, is_large, damage_word, FailsToStore, Gives}
use Rattle.ewig_shell.specs.RoundTrip.{ok_reply, AreLarge, HasLargePart, IsHindered, Leaves, SaveBegins, SaveThenPart, PartThenChain, PartThenPart}
use Rattle.ewig_shell.proofs.ChainLemmas.{total, next-given, next-large, names-one, chain-damage-append, chain-in-append}
use Rattle.ewig_shell.proofs.LeavesLemmas.{get-stored, get-beside, then-told}
use Rattle.ewig_shell.proofs.PartLemmas.{one_to_64}
use Rattle.ewig_shell.proofs.ReplyLemmas.{no-refusal}
use Rattle.ewig_shell.proofs.DocumentLemmas.{begins-chain}
use Rattle.ewig_shell.proofs.RoundTripLemmas.{save-stored, part-of-store, said-ok, stored-if, ended}
use Rattle.ewig_shell.proofs.StepLemmas.{IsOutsideBatch}

-- ## Names of the files of a chain

-- a part has another name than each file before it
name-apart : (file : Bytes) (j k : ℕ) → j < k → k ≤ MOST_PARTS → chain_name file j ≢ numbered file k
name-apart file zero k low few e =
    let same : length file ≡ length (file ++ 46 ∷ decimal k) = ap length e in
    let longer : length (file ++ 46 ∷ decimal k) ≡ length file + suc (length (decimal k)) = length-append file (46 ∷ decimal k) in
    omega (arith, same, longer)
name-apart file (suc n) k low few e =
    let rests : 46 ∷ decimal (suc n) ≡ 46 ∷ decimal k = append_cancel_left file (46 ∷ decimal (suc n)) (46 ∷ decimal k) (sym (names-one file (suc n) (omega arith)) ∙ e) in
    let digits : decimal (suc n) ≡ decimal k = cc in
    omega (arith, decimal_injective (suc n) k (omega arith) (omega arith) digits)

-- ## Files of these names

-- documents that are this chain to a machine, where its files of these names haven't too many bytes together
pub record HasChain (names : List Bytes) (later : Machine) (C : Pool) : Type 0 where
  pub whole : Bytes
  pub parts : List Bytes
  pub undamaged : chain_damage later.space.pool.bits whole parts ≡ None
  pub is_chain : chain_in whole parts ≡ Some C
  pub files : Files
  pub told : later.store.files ≡ Some files
  pub taken : (fetched_all files most_stored names ≡ given (whole ∷ parts)) ⊎ (fetched_all files most_stored names ≡ large)

-- the files before a part stay where it is stored
others-stay : (fs : Files) (file bytes : Bytes) (number few : ℕ) → number ≤ MOST_PARTS → few ≤ number → map (get (insert fs (numbered file number) bytes)) (chain_names file few) ≡ map (get fs) (chain_names file few)
unfolding chain_names
others-stay fs file bytes number zero small low = refl
others-stay fs file bytes number (suc few) small low =
    let now : Files = insert fs (numbered file number) bytes in
    let last = chain_name file few in
    map-append (get now) (chain_names file few) (last ∷ [])
    ∙ ap (λ (o : Option Bytes). map (get now) (chain_names file few) ++ o ∷ []) (get-beside fs (numbered file number) bytes last (name-apart file few number low small))
    ∙ ap (λ (os : List (Option Bytes)). os ++ get fs last ∷ []) (others-stay fs file bytes number few small (omega (arith, low)))
    ∙ sym (map-append (get fs) (chain_names file few) (last ∷ []))

-- where the same is found of them, the same is taken
same-within : (fs gs : Files) (room : ℕ) (file : Option Bytes) (names : List Bytes) → ((left : ℕ) → fetched_all fs left names ≡ fetched_all gs left names) →
    fetched_within room file (λ bytes. with_file bytes (fetched_all fs (room - length bytes) names)) ≡ fetched_within room file (λ bytes. with_file bytes (fetched_all gs (room - length bytes) names))
same-within fs gs room None names each = refl
same-within fs gs room (Some bytes) names each = ap (λ (found : Fetched (List Bytes)). if nat_lt room (length bytes) then large else with_file bytes found) (each (room - length bytes))

same-fetched : (fs gs : Files) (names : List Bytes) (room : ℕ) → map (get fs) names ≡ map (get gs) names → fetched_all fs room names ≡ fetched_all gs room names
unfolding fetched_all
same-fetched fs gs [] room e = refl
same-fetched fs gs (name ∷ names) room e =
    let both : get fs name ∷ map (get fs) names ≡ get gs name ∷ map (get gs) names = e in
    let here : get fs name ≡ get gs name = cc in
    let others : map (get fs) names ≡ map (get gs) names = cc in
    same-within fs gs room (get fs name) names (λ left. same-fetched fs gs names left others)
    ∙ ap (λ (o : Option Bytes). fetched_within room o (λ bytes. with_file bytes (fetched_all gs (room - length bytes) names))) here

-- the files of a chain, and the part that was stored behind them; or they have too many bytes together
with-part : (fs : Files) (file bytes : Bytes) (number : ℕ) (front : List Bytes) → 1 ≤ number → number ≤ MOST_PARTS → given front ≡ fetched_all fs most_stored (chain_names file number) →
    (fetched_all (insert fs (numbered file number) bytes) most_stored (chain_names file (suc number)) ≡ given (front ++ bytes ∷ []))
    ⊎ (fetched_all (insert fs (numbered file number) bytes) most_stored (chain_names file (suc number)) ≡ large)
unfolding chain_names
with-part fs file bytes number front some few so_far =
    let now : Files = insert fs (numbered file number) bytes in
    let before : given front ≡ fetched_all now most_stored (chain_names file number) = so_far ∙ sym (same-fetched now fs (chain_names file number) most_stored (others-stay fs file bytes number number few (omega arith))) in
    let there : get now (chain_name file number) ≡ Some bytes = ap (get now) (names-one file number some) ∙ get-stored fs (numbered file number) bytes in
    elim (cases_lt (most_stored - total front) (length bytes)) [
      | inl many ↦ inr (sym (next-large now most_stored (chain_names file number) front before (chain_name file number) bytes there many))
      | inr fits ↦ inl (sym (next-given now most_stored (chain_names file number) front before (chain_name file number) bytes there fits))
    ]

-- ## A part that was stored

-- the number of a part
abbrev in_chain : ℕ → Bool
in_chain number = nat_le 1 number && nat_le number MOST_PARTS

number-granted : (batch fits : Bool) → unless batch why.Batch (needs fits why.Range (Ok elsewhere)) ≡ Ok elsewhere → fits ≡ true
number-granted true fits e = let never : ◌≡◌ {A = Answer} (Err why.Batch) (Ok elsewhere) = e in cc
number-granted false true e = refl
number-granted false false e = let never : ◌≡◌ {A = Answer} (Err why.Range) (Ok elsewhere) = e in cc

part-numbered : (W : Workspace) (file : Bytes) (number : ℕ) → answer W (part file number) ≡ Ok elsewhere → in_chain number ≡ true
unfolding answer
part-numbered W file number e = number-granted (in_batch W) (in_chain number) e

chain-outside : (file : Bytes) (number : ℕ) → in_chain number ≡ true → IsOutsideBatch (chain file number)
unfolding answer
chain-outside file number e W = ap (λ (b : Bool). unless (in_batch W) why.Batch (needs b why.Range (Ok elsewhere))) e

-- a number in a chain behind which none is
past-most : (number : ℕ) → number ≤ MOST_PARTS → in_chain (number + 1) ≡ false → number ≡ MOST_PARTS
past-most number few over = elim (cases_lt number MOST_PARTS) [
  | inl low ↦ absurd (let both : true ≡ false = sym (one_to_64 (number + 1) (λ none. omega (arith, none)) (omega (arith, low))) ∙ over in cc)
  | inr high ↦ omega (arith, few, high)
]

-- the chain of files that the part was stored behind, which was read when the store had come to this
pub record IsParted (file : Bytes) (number : ℕ) (first parted : Machine) : Type 0 where
  pub numbered_so : in_chain number ≡ true
  pub mid : StoreView
  pub kept : KeepsFiles first.store mid
  pub whole : Bytes
  pub parts : List Bytes
  pub held : IfSome first.store.files (λ files. given (whole ∷ parts) ≡ fetched_all files most_stored (chain_names file number))
  pub before : Pool
  pub undamaged : chain_damage first.space.pool.bits whole parts ≡ None
  pub is_chain : chain_in whole parts ≡ Some before
  pub same : parted.space ≡ first.space
  pub stored : IsStored (numbered file number) (part_text (delta before first.space.pool)) mid ok_reply parted.store
  pub document : IsPartDocumentOf before first.space.pool (part_text (delta before first.space.pool))

-- a chain without damage, by what is made of it
undamaged-chain : (found : Option Damage) (there : Option Pool) (ByPool : Pool → Type 0) (ByDamage : Damage → Type 0) → ((d : Damage) → ByDamage d → ⊥) → MatchOption found (IsSomeAnd there ByPool) ByDamage →
    (found ≡ None) × (C : Pool) × (there ≡ Some C) × ByPool C
undamaged-chain None None ByPool ByDamage never h = absurd h
undamaged-chain None (Some C) ByPool ByDamage never h = (refl, C, refl, h)
undamaged-chain (Some d) there ByPool ByDamage never h = absurd (never d h)

module _ (file : Bytes) (number : ℕ) (first parted : Machine) (so : in_chain number ≡ true) (mid : StoreView) (kept : KeepsFiles first.store mid) where
  abbrev here : Machine
  here = record first { store = mid }

  parted-by : (found : Fetched (List Bytes)) → IfSome first.store.files (λ files. found ≡ fetched_all files most_stored (chain_names file number)) →
      Makes (λ files. ChainsFiles (StoresPart (numbered file number)) files here) found here ok_reply parted → IsParted file number first parted
  parted-by missing held makes = absurd (no-refusal (codes "missing") makes.reply_is)
  parted-by large held makes = absurd (no-refusal (codes "large") makes.reply_is)
  parted-by (given []) held makes = absurd makes
  parted-by (given (whole ∷ parts)) held makes =
      let bits : ℕ = first.space.pool.bits in
      let read = undamaged-chain (chain_damage bits whole parts) (chain_in whole parts) (λ C. StoresPart (numbered file number) C here ok_reply parted) (λ d. Refuses here (codes "damaged " ++ damage_word d) ok_reply parted)
      (λ d refuses. no-refusal (codes "damaged " ++ damage_word d) refuses.reply_is) makes in
      let C : Pool = read.1 in
      let stores : StoresPart (numbered file number) C here ok_reply parted = read.3 in
      let bytes : Bytes = part_text (delta C first.space.pool) in
      record {
        numbered_so = so;
        mid = mid;
        kept = kept;
        whole = whole;
        parts = parts;
        held = held;
        before = C;
        undamaged = read.0;
        is_chain = read.2;
        same = stores.stores.space;
        stored = (stored-if (is_large bytes) (numbered file number) bytes here parted stores.stores.ends).1;
        document = stores.document refl;
      }

is-parted : (file : Bytes) (number : ℕ) (first parted : Machine) → Obeys (part file number) first ok_reply parted → IsParted file number first parted
is-parted file number first parted obeys =
    let said = said-ok (part file number) first parted (part-of-store file number) obeys in
    let so : in_chain number ≡ true = part-numbered obeys.work file number said.0 in
    elim (said.1) [
      | inl takes ↦ parted-by file number first parted so takes.mid takes.kept takes.files takes.held takes.makes
      | inr fails ↦ absurd (no-refusal (codes "fault") fails.space.reply_is)
    ]

-- ## The chain of its files

module _ (file : Bytes) (number : ℕ) (first parted : Machine) (is : IsParted file number first parted) where
  abbrev P : Pool
  P = first.space.pool

  abbrev bytes : Bytes
  bytes = part_text (delta is.before P)

  abbrev after : Pool
  after = with_part is.before (delta is.before P)

  some : 1 ≤ number
  some = leb-true 1 number (and_parts (nat_le 1 number) (nat_le number MOST_PARTS) is.numbered_so).0

  few : number ≤ MOST_PARTS
  few = leb-true number MOST_PARTS (and_parts (nat_le 1 number) (nat_le number MOST_PARTS) is.numbered_so).1

  pub whole-chain : chain_damage P.bits is.whole (is.parts ++ bytes ∷ []) ≡ None
  whole-chain =
      chain-damage-append bytes P.bits is.whole is.parts
      ∙ ap (λ (o : Option Damage). option_or o (option_and_then (λ D. more_damage D bytes) (chain_in is.whole is.parts))) is.undamaged
      ∙ ap (λ (o : Option Pool). option_and_then (λ D. more_damage D bytes) o) is.is_chain ∙ is.document.part.undamaged

  pub chain-after : chain_in is.whole (is.parts ++ bytes ∷ []) ≡ Some after
  chain-after = chain-in-append bytes P.bits is.whole is.parts ∙ ap (λ (o : Option Pool). option_and_then (λ D. chain_with D bytes) o) is.is_chain ∙ is.document.part.with_it

  -- and it is there later
  pub part-there : (fs : Files) → first.store.files ≡ Some fs → (later : Machine) → Leaves (chain_names file (number + 1)) parted later → HasChain (chain_names file (number + 1)) later after
  part-there fs told later left =
      let mid = then-told first.store.files fs is.mid.files (λ before now. now ≡ before) told is.kept.files in
      let now = then-told is.mid.files mid.0 parted.store.files (λ before changed. changed ≡ insert before (numbered file number) bytes) mid.1 is.stored.files in
      let last = then-told parted.store.files now.0 later.store.files (λ before left_so. map (get left_so) (chain_names file (number + 1)) ≡ map (get before) (chain_names file (number + 1))) now.1 left.files in
      let held : given (is.whole ∷ is.parts) ≡ fetched_all fs most_stored (chain_names file number)
      = subst (λ (o : Option Files). IfSome o (λ files. given (is.whole ∷ is.parts) ≡ fetched_all files most_stored (chain_names file number))) told is.held in
      let stored : now.0 ≡ insert fs (numbered file number) bytes = now.2 ∙ ap (λ (gs : Files). insert gs (numbered file number) bytes) mid.2 in
      let one : suc number ≡ number + 1 = omega arith in
      let same : fetched_all last.0 most_stored (chain_names file (number + 1)) ≡ fetched_all (insert fs (numbered file number) bytes) most_stored (chain_names file (suc number))
      = same-fetched last.0 now.0 (chain_names file (number + 1)) most_stored last.2 ∙ ap (λ (gs : Files). fetched_all gs most_stored (chain_names file (number + 1))) stored
      ∙ ap (λ (n : ℕ). fetched_all (insert fs (numbered file number) bytes) most_stored (chain_names file n)) (sym one) in
      let bits : later.space.pool.bits ≡ P.bits = left.bits ∙ ap (λ (s : SpaceView). s.pool.bits) is.same in
      record {
        whole = is.whole;
        parts = is.parts ++ bytes ∷ [];
        undamaged = ap (λ (b : ℕ). chain_damage b is.whole (is.parts ++ bytes ∷ [])) bits ∙ whole-chain;
        is_chain = chain-after;
        files = last.0;
        told = last.1;
        taken = elim (with-part fs file bytes number (is.whole ∷ is.parts) some few held) [ inl all ↦ inl (same ∙ all) | inr many ↦ inr (same ∙ many) ];
      }

-- ## A document that was saved

pub save-begins : SaveBegins
save-begins first saved file saves = begins-chain first.space.pool (text first.space.pool) (save-stored file first saved saves).document

-- its file is taken
one-taken : (fs : Files) (file bytes : Bytes) → is_large bytes ≡ false → fetched_all (insert fs file bytes) most_stored (chain_names file 1) ≡ given (bytes ∷ [])
unfolding fetched_all chain_names
one-taken fs file bytes small =
    ap (λ (o : Option Bytes). fetched_within most_stored o (λ b. given (b ∷ []))) (get-stored fs file bytes)
    ∙ ap (λ (b : Bool). cond b large (given (bytes ∷ []))) small

-- and is a chain by itself later
save-there : (file : Bytes) (first saved : Machine) → Obeys (save file) first ok_reply saved → (fs : Files) → first.store.files ≡ Some fs → (later : Machine) → Leaves (file ∷ []) saved later →
    HasChain (chain_names file 1) later (at_present_version first.space.pool) × (AreLarge (chain_names file 1) later → ⊥)
unfolding chain_names
save-there file first saved saves fs told later left =
    let P : Pool = first.space.pool in
    let bytes : Bytes = text P in
    let is = save-stored file first saved saves in
    let now = then-told first.store.files fs saved.store.files (λ before changed. changed ≡ insert before file bytes) told is.stored.files in
    let last = then-told saved.store.files now.0 later.store.files (λ before left_so. map (get left_so) (file ∷ []) ≡ map (get before) (file ∷ [])) now.1 left.files in
    let bits : later.space.pool.bits ≡ P.bits = left.bits ∙ ap (λ (s : SpaceView). s.pool.bits) is.same in
    let fits : fetched_all last.0 most_stored (file ∷ []) ≡ given (bytes ∷ [])
    = same-fetched last.0 now.0 (file ∷ []) most_stored last.2 ∙ ap (λ (gs : Files). fetched_all gs most_stored (file ∷ [])) now.2 ∙ one-taken fs file bytes is.small in (
      record {
        whole = bytes;
        parts = [];
        undamaged =
            ap (λ (b : ℕ). chain_damage b bytes []) bits
            ∙ ap (λ (o : Option Damage). option_or o (option_and_then (λ C. damage_with_all C []) (pool_in_bytes bytes))) (save-begins first saved file saves)
            ∙ ap (option_and_then (λ C. damage_with_all C [])) is.document.read;
        is_chain = ap (option_and_then (λ C. chain_with_all C [])) is.document.read;
        files = last.0;
        told = last.1;
        taken = inl fits;
      },
      λ many.
          let long : fetched_all last.0 most_stored (file ∷ []) ≡ large = subst (λ (o : Option Files). IfSome o (λ files. fetched_all files most_stored (file ∷ []) ≡ large)) last.1 many in
          let never : given (bytes ∷ []) ≡ large = sym fits ∙ long in cc,
    )

-- ## What is made of a chain that is there

-- a fault has its cause since an earlier count too
caused-since : (before mid now : ℕ) → before ≤ mid → mid ≤ now → HasCause mid now → HasCause before now
caused-since before mid now low high cause more = elim (cases_lt mid last_count) [
  | inl less ↦ let rose = cause less in omega (arith, low, rose)
  | inr last ↦ omega (arith, more, last, high)
]

module _ (file : Bytes) (number : ℕ) (C : Pool) (later last : Machine) (there : HasChain (chain_names file (number + 1)) later C) (reply : List ℕ) where
  -- from the machine as it is when the store has come to this
  abbrev at_mid : StoreView → Machine
  at_mid mid = record later { store = mid }

  by-taken : (ByPool : Pool → Machine → List ℕ → Machine → Type 0) (End : Type 0) → ((mid : StoreView) → KeepsFiles later.store mid → ByPool C (at_mid mid) reply last → End) →
      (AreLarge (chain_names file (number + 1)) later → Refuses later.space (codes "large") reply last.space → End) → TakesFiles (chain_names file (number + 1)) later reply last (ChainsFiles ByPool) → End
  by-taken ByPool End chained many takes =
      let here : Machine = at_mid takes.mid in
      let made : (found : Fetched (List Bytes)) → fetched_all there.files most_stored (chain_names file (number + 1)) ≡ found → Makes (λ files. ChainsFiles ByPool files here) found here reply last
      = λ found e. subst (λ (f : Fetched (List Bytes)). Makes (λ files. ChainsFiles ByPool files here) f here reply last)
      (subst (λ (o : Option Files). IfSome o (λ files. takes.files ≡ fetched_all files most_stored (chain_names file (number + 1)))) there.told takes.held ∙ e) takes.makes in
      elim (there.taken) [
        | inl all ↦
            let ByDamage = λ (d : Damage). Refuses here (codes "damaged " ++ damage_word d) reply last in
            let ByChainPool = λ (D : Pool). ByPool D here reply last in
            chained takes.mid takes.kept
            (subst (λ (o : Option Pool). IsSomeAnd o ByChainPool) there.is_chain
            (subst (λ (o : Option Damage). MatchOption o (IsSomeAnd (chain_in there.whole there.parts) ByChainPool) ByDamage) there.undamaged (made (given (there.whole ∷ there.parts)) all)))
        | inr long ↦
            let refuses = made large long in
            many (subst (λ (o : Option Files). IfSome o (λ files. fetched_all files most_stored (chain_names file (number + 1)) ≡ large)) (sym there.told) long)
            (record { reply_is = refuses.reply_is; same = ap (λ (m : Machine). m.space) refuses.same })
      ]

  -- a chain of them
  abbrev Chained : Pool → Type 0
  Chained P = (reply ≡ ok_reply) × (last.space.pool ≡ P) ⊎ AreLarge (chain_names file (number + 1)) later × Refuses later.space (codes "large") reply last.space ⊎ IsHindered later reply last

  by-chain : (P : Pool) → chain_pool C ≡ P → in_chain number ≡ true → Obeys (chain file number) later reply last → Chained P
  by-chain P stands so obeys = elim (ended (chain file number) (chain-outside file number so) later last reply obeys) [
    | inl says ↦ elim says [
      | inl takes ↦ by-taken LoadsChain (Chained P) (λ mid kept loads. inl (loads.1.reply_is, loads.1.pool ∙ stands)) (λ long many. inr (inl (long, many))) takes
      | inr fails ↦ inr (inr (inr (inl (fails.cause, fails.space))))
    ]
    | inr keeps ↦ elim keeps [
      | inl batch ↦ inr (inr (inl batch))
      | inr memory ↦ inr (inr (inr (inr memory)))
    ]
  ]

  -- a part behind them
  abbrev GoesOn : Type 0
  GoesOn = (reply ≡ ok_reply) ⊎ (AreLarge (chain_names file (number + 1)) later ⊎ HasLargePart later.space C) × Refuses later.space (codes "large") reply last.space ⊎ IsHindered later reply last

  refused-so : (reason : List ℕ) → Refuses later reason reply last → Refuses later.space reason reply last.space
  refused-so reason refuses = record { reply_is = refuses.reply_is; same = ap (λ (m : Machine). m.space) refuses.same }

  -- its text
  abbrev own : Bytes
  own = part_text (delta C later.space.pool)

  by-stored : (too_large : Bool) (name written : Bytes) (mid : StoreView) → KeepsFiles later.store mid → is_large own ≡ too_large → last.space ≡ later.space →
      MatchBool too_large (Refuses (at_mid mid) (codes "large") reply last) (IsStored name written mid reply last.store ⊎ FailsToStore name mid reply last.store) → GoesOn
  by-stored true name written mid kept long same refuses = inr (inl (inr long, record { reply_is = refuses.reply_is; same = same }))
  by-stored false name written mid kept small same ends = elim ends [
    | inl stored ↦ inl stored.reply_is
    | inr fails ↦ inr (inr (inr (inl (caused-since later.store.faults mid.faults last.store.faults kept.counted fails.counted fails.cause, record { reply_is = fails.reply_is; same = same }))))
  ]

  -- or there are as many parts as may be
  abbrev GoesOnIf : Bool → Type 0
  GoesOnIf fits = GoesOn ⊎ (fits ≡ false) × Refuses later.space (codes "range") reply last.space

  by-said : (batch fits : Bool) (W : Workspace) → StandsFor later.space.pool W → in_batch W ≡ batch → Gives (part file (number + 1)) later W (unless batch why.Batch (needs fits why.Range (Ok elsewhere))) reply last → GoesOnIf fits
  by-said true fits W stands so refuses = inl (inr (inr (inl ((W, stands, so), refused-so (codes "batch") refuses))))
  by-said false false W stands so refuses = inr (refl, refused-so (codes "range") refuses)
  by-said false true W stands so says = elim says [
    | inl takes ↦ inl (by-taken (StoresPart (numbered file (number + 1))) GoesOn
        (λ mid kept stores. by-stored (is_large own) (numbered file (number + 1)) own mid kept refl stores.stores.space stores.stores.ends) (λ long many. inr (inl (inl long, many))) takes)
    | inr fails ↦ inl (inr (inr (inr (inl (fails.cause, fails.space)))))
  ]

  part-answer : (W : Workspace) → answer W (part file (number + 1)) ≡ unless (in_batch W) why.Batch (needs (in_chain (number + 1)) why.Range (Ok elsewhere))
  unfolding answer
  part-answer W = refl

  by-part : Obeys (part file (number + 1)) later reply last → GoesOnIf (in_chain (number + 1))
  by-part obeys = elim obeys.gives [
    | inl gives ↦ by-said (in_batch obeys.work) (in_chain (number + 1)) obeys.work obeys.stands refl (subst (λ (a : Answer). Gives (part file (number + 1)) later obeys.work a reply last) (part-answer obeys.work) gives)
    | inr lacks ↦ inl (inr (inr (inr (inr (record { reply_is = lacks.reply_is; same = lacks.space })))))
  ]

pub save-then-part : SaveThenPart
save-then-part first saved later last files file reply told saves left goes_on =
    let there = save-there file first saved saves files told later left in
    elim (by-part file 0 (at_present_version first.space.pool) later last there.0 reply goes_on) [
      | inl goes ↦ elim goes [
        | inl done ↦ inl done
        | inr ends ↦ elim ends [
          | inl too_many ↦ elim (too_many.0) [ inl many ↦ absurd (there.1 many) | inr long ↦ inr (inl (long, too_many.1)) ]
          | inr hindered ↦ inr (inr hindered)
        ]
      ]
      | inr over ↦ absurd (let never : true ≡ false = over.0 in cc)
    ]

pub part-then-chain : PartThenChain
part-then-chain first parted later last files file reply number told parts left chains =
    let is = is-parted file number first parted parts in
    by-chain file number (after file number first parted is) later last (part-there file number first parted is files told later left) reply (at_present_version first.space.pool) is.document.stands is.numbered_so chains

pub part-then-part : PartThenPart
part-then-part first parted later last files file reply number told parts left goes_on =
    let is = is-parted file number first parted parts in
    elim (by-part file number (after file number first parted is) later last (part-there file number first parted is files told later left) reply goes_on) [
      | inl goes ↦ elim goes [
        | inl done ↦ inl done
        | inr ends ↦ elim ends [
          | inl too_many ↦ inr (inr (inl (elim (too_many.0) [ inl many ↦ inl many | inr long ↦ inr (after file number first parted is, is.document.stands, long) ], too_many.1)))
          | inr hindered ↦ inr (inr (inr hindered))
        ]
      ]
      | inr over ↦ inr (inl (past-most number (few file number first parted is) over.0, over.1))
    ]
