-- What shows that a chain of files was taken, or that what a space has more was stored behind it, or why not.
use Rattle.std.proofs.Common.{◌≡◌, ◌≢◌, ℕ, zero, suc, ◌<◌, ◌≤◌, ◌+◌, ◌&&◌, ◌∙◌, length, sym, ap, subst, refl, arith, nat_le, codes, Bool, true, false, inl, inr, Result, Ok, Err, IsTrue, IsErrAnd, ◌⊎◌, IfOk, IsSomeAnd, MatchBool, MatchOption, List, [], ◌∷◌, ◌++◌, Some}
use Rattle.std.proofs.lemmas.Bool.{lt-ltb, le-leb}
use Rattle.std.proofs.lemmas.Bool.Decides.{nat_tests}
use Rattle.std.specs.declared.option.Option.{Option}
use Rattle.std.specs.declared.vec.Vec.{Vec}
use Rattle.shell_terms.specs.Edit.{Bytes}
use Rattle.shell_terms.specs.Command.{PlainCommand, part, chain}
use Rattle.shell_terms.specs.Kinds.{uses_store, wants_memory}
use Rattle.shell_words.specs.Files.{numbered}
use Rattle.plain_space.specs.declared.TheConstants.{MOST_PARTS}
use Rattle.plain_space.specs.declared.refusal.Refusal.TheVariants as why
use Rattle.plain_space.specs.Workspace.{Workspace, in_batch}
use Rattle.plain_space.specs.Answer.{answer, elsewhere, ok_line}
use Rattle.pool_text.specs.Rules.{present_rules}
use Rattle.pool_text.specs.Document.{value_in}
use Rattle.pool_text.specs.declared.pool.Pool.{Pool}
use Rattle.pool_text.specs.declared.damage.Damage.{Damage}
use Rattle.pool_text.specs.declared.damage.Damage.TheVariants as damage_is
use Rattle.pool_delta.specs.Parts.{part_document, part_text}
use Rattle.pool_delta.specs.Delta.{delta}
use Rattle.pool_delta.specs.Chains.{IsChain, chain_in}
use Rattle.pool_delta.specs.Laws.{CanFollow, DeltaStands, DeltasAreUndamaged}
use Rattle.pool_delta.proofs.ChainLaws.{open-passed}
use Rattle.state_rows.specs.Standing.{StandsFor}
use Rattle.space_state.specs.View.{SpaceView}
use Rattle.shell_io.specs.Fault.{Calls}
use Rattle.shell_io.proofs.FaultLemmas.{Calls-then}
use Rattle.shell_io.specs.InMemory.{Files}
use Rattle.shell_io.specs.Storing.{ChangesFiles, KeepsFile}
use Rattle.shell_io.specs.declared.device.KeepFault.{KeepFault}
use Rattle.shell_io.specs.declared.device.KeepFault.TheVariants as unkept
use Rattle.shell_io.specs.declared.device.Store as store_trait
use Rattle.ewig_shell.specs.declared.store_fault.StoreFault.{StoreFault}
use Rattle.ewig_shell.specs.declared.store_fault.StoreFault.TheVariants as fault
use Rattle.ewig_shell.specs.Faults.{fault_of}
use Rattle.ewig_shell.specs.Saving.{saved_as}
use Rattle.ewig_shell.specs.Step.{Machine, KeepsFiles, Refuses, Fetched, missing, large, given, chain_names, Makes, TakesAll, Stores, IsPartDocumentOf, StoresPart, IsStored, FailsToStore, ByChain, ChainsFiles, LoadsChain, SaysElsewhere, ObeysOn, CountsStore, shown_store, machine_of, most_stored, damage_word, reply_of, refusal_of, stored_reply}
use Rattle.ewig_shell.specs.Chaining.{IsReadAs, AreFetched, TakesChain, IsUntaken, TakesChainIn}
use Rattle.ewig_shell.proofs.ReplyLemmas.{other-reply, no-refusal}
use Rattle.ewig_shell.proofs.StepLemmas.{CountsStore-failed, CountsStore-succeeded, Obeys-elsewhere, may_lack, fault-is}
use Rattle.ewig_shell.proofs.SaveLemmas.{called}
use Rattle.ewig_shell.proofs.LoadLemmas.{kept}

-- ## The plain answers

pub one_to_64 : (number : ℕ) → (number ≡ 0 → ⊥) → number ≤ MOST_PARTS → (nat_le 1 number && nat_le number MOST_PARTS) ≡ true
one_to_64 zero some few = absurd (some refl)
one_to_64 (suc n) some few =
    let low : 1 ≤ suc n = omega arith in
    let first = le-leb 1 (suc n) low in
    let second = le-leb (suc n) MOST_PARTS few in
    rw first (rw second refl)

none-named : (number : ℕ) → number ≡ 0 → (nat_le 1 number && nat_le number MOST_PARTS) ≡ false
none-named number none = rw none refl

past : (number : ℕ) → MOST_PARTS < number → nat_le number MOST_PARTS ≡ false
past number more = grind (arith, nat_tests)

too-many : (number : ℕ) → MOST_PARTS < number → (nat_le 1 number && nat_le number MOST_PARTS) ≡ false
too-many zero more = absurd (omega (arith, more))
too-many (suc n) more =
    let low : 1 ≤ suc n = omega arith in
    let first = le-leb 1 (suc n) low in
    let second = past (suc n) more in
    rw first (rw second refl)

module _ (W : Workspace) (file : Bytes) (number : ℕ) where
  pub part-inside : in_batch W ≡ true → answer W (part file number) ≡ Err why.Batch
  unfolding answer
  part-inside e = rw e refl

  pub chain-inside : in_batch W ≡ true → answer W (chain file number) ≡ Err why.Batch
  unfolding answer
  chain-inside e = rw e refl

  module _ (free : in_batch W ≡ false) where
    part-past : (nat_le 1 number && nat_le number MOST_PARTS) ≡ false → answer W (part file number) ≡ Err why.Range
    unfolding answer
    part-past e = rw free (rw e refl)

    chain-past : (nat_le 1 number && nat_le number MOST_PARTS) ≡ false → answer W (chain file number) ≡ Err why.Range
    unfolding answer
    chain-past e = rw free (rw e refl)

    pub part-none : number ≡ 0 → answer W (part file number) ≡ Err why.Range
    part-none none = part-past (none-named number none)

    pub chain-none : number ≡ 0 → answer W (chain file number) ≡ Err why.Range
    chain-none none = chain-past (none-named number none)

    pub part-many : MOST_PARTS < number → answer W (part file number) ≡ Err why.Range
    part-many more = part-past (too-many number more)

    pub chain-many : MOST_PARTS < number → answer W (chain file number) ≡ Err why.Range
    chain-many more = chain-past (too-many number more)

    module _ (some : number ≡ 0 → ⊥) (few : number ≤ MOST_PARTS) where
      part-granted : answer W (part file number) ≡ Ok elsewhere
      unfolding answer
      part-granted = let e = one_to_64 number some few in rw free (rw e refl)

      chain-granted : answer W (chain file number) ≡ Ok elsewhere
      unfolding answer
      chain-granted = let e = one_to_64 number some few in rw free (rw e refl)

-- ## What documents make as a chain

module _ (bits : ℕ) (ByPool : Pool → Type 0) (ByDamage : Damage → Type 0) where
  by-read : (files : List Bytes) (Q : Pool) → IsReadAs bits files (Ok Q) → ByPool Q → ByChain bits files ByPool ByDamage
  by-read [] Q read by = absurd read
  by-read (first ∷ more) Q read by =
      subst (λ (o : Option Damage). MatchOption o (IsSomeAnd (chain_in first more) ByPool) ByDamage) (sym read.0)
      (subst (λ (o : Option Pool). IsSomeAnd o ByPool) (sym read.1) by)

  by-damage : (files : List Bytes) (d : Damage) → IsReadAs bits files (Err d) → d ≢ damage_is.Memory → ByDamage d → ByChain bits files ByPool ByDamage
  by-damage [] d read other by = absurd read
  by-damage (first ∷ more) d read other by = subst (λ (o : Option Damage). MatchOption o (IsSomeAnd (chain_in first more) ByPool) ByDamage) (sym (read other)) by

-- documents that are read as a chain are one
pub chain-read : (bits : ℕ) (files : List Bytes) (Q : Pool) → IsReadAs bits files (Ok Q) → (Q.bits ≡ bits) × IsChain Q
chain-read bits [] Q read = absurd read
chain-read bits (first ∷ more) Q read = (read.2, read.3)

-- ## A command that takes files

-- nothing in the workspace refuses it
pub record TakesFrom (command : PlainCommand) (W : Workspace) (space : SpaceView) (names : List Bytes) (ByPool : Pool → Machine → List ℕ → Machine → Type 0) : Type 0 where
  pub stands : StandsFor space.pool W
  pub granted : answer W command ≡ Ok elsewhere
  pub wants : IsTrue (wants_memory command)
  pub uses : uses_store command ≡ true
  pub says : (old new : Machine) (reply : List ℕ) → TakesAll names old reply new (ChainsFiles ByPool) → SaysElsewhere command old W reply new

pub part-takes : {space : SpaceView} (W : Workspace) (file : Bytes) (number : ℕ) → StandsFor space.pool W → in_batch W ≡ false → (number ≡ 0 → ⊥) → number ≤ MOST_PARTS → TakesFrom (part file number) W space (chain_names file number) (StoresPart (numbered file number))
part-takes W file number stands free some few = record {
  stands = stands;
  granted = part-granted W file number free some few;
  wants = refl;
  uses = refl;
  says = λ old new reply takes. takes;
}

pub chain-takes : {space : SpaceView} (W : Workspace) (file : Bytes) (number : ℕ) → StandsFor space.pool W → in_batch W ≡ false → (number ≡ 0 → ⊥) → number ≤ MOST_PARTS → TakesFrom (chain file number) W space (chain_names file (number + 1)) LoadsChain
chain-takes W file number stands free some few = record {
  stands = stands;
  granted = chain-granted W file number free some few;
  wants = refl;
  uses = refl;
  says = λ old new reply takes. takes;
}

module _ {command : PlainCommand} {W : Workspace} {names : List Bytes} {ByPool : Pool → Machine → List ℕ → Machine → Type 0} {C : Type 0} {D : store_trait.Ghosts C} {space : SpaceView} (takes : TakesFrom command W space names ByPool) where
  -- memory ran out
  lacks : {store store' : C} {space' : SpaceView} {failed : Type 0} → KeepsFiles (shown_store D store) (shown_store D store') → space' ≡ space → (failed → ⊥) → Calls D.faults D.steady D.faultless store store' failed →
      ObeysOn command D space store (refusal_of (codes "memory")) space' store'
  lacks {store} {store'} keeps stays succeeds calls = record {
    obeys = record {
      work = W;
      stands = takes.stands;
      gives = inr (record {
        may = inl (may_lack command W takes.wants takes.granted);
        reply_is = refl;
        space = stays;
        store = subst (λ (b : Bool). MatchBool b (KeepsFiles (shown_store D store) (shown_store D store')) (shown_store D store' ≡ shown_store D store)) (sym takes.uses) keeps;
      });
    };
    counts = CountsStore-succeeded succeeds (other-reply {due = refusal_of (codes "memory")} refl refl) calls;
  }

  module _ {store store' : C} {failed : Type 0} (same : D.held store' ≡ D.held store) (calls : Calls D.faults D.steady D.faultless store store' failed) where
    -- the files came to this, and then this was made of it
    came : {space' : SpaceView} {store'' : C} {reply : List ℕ} (found : Fetched (List Bytes)) → AreFetched (D.held store) names found →
        Makes (λ files. ChainsFiles ByPool files (machine_of D space store')) found (machine_of D space store') reply (machine_of D space' store'') → CountsStore D store store'' reply → ObeysOn command D space store reply space' store''
    came {space'} {store''} {reply} found held makes counts = record {
      obeys = Obeys-elsewhere command W (machine_of D space store) (machine_of D space' store'') reply takes.stands takes.granted
          (takes.says (machine_of D space store) (machine_of D space' store'') reply (inl (record {
            mid = shown_store D store';
            kept = kept D store store' same calls.counts.counted;
            files = found;
            held = held;
            makes = makes;
          })));
      counts = counts;
    }

    -- the store failed
    fails-to : failed → ObeysOn command D space store (refusal_of (codes "fault")) space store'
    fails-to fails = record {
      obeys = Obeys-elsewhere command W (machine_of D space store) (machine_of D space store') (refusal_of (codes "fault")) takes.stands takes.granted
          (takes.says (machine_of D space store) (machine_of D space store') (refusal_of (codes "fault")) (inr (record {
            store = kept D store store' same calls.counts.counted;
            space = record { reply_is = refl; same = refl };
            cause = calls.counts.cause fails;
          })));
      counts = CountsStore-failed fails calls;
    }

    -- the files weren't taken
    by_untaken : (f : StoreFault) → (f ≡ fault.Failed → failed) → (failed → f ≡ fault.Failed) → IsUntaken (D.held store) names f → ObeysOn command D space store (stored_reply (Err f)) space store'
    by_untaken fault.Missing into back told = came missing told (record { reply_is = refl; same = refl }) (CountsStore-succeeded (λ q. let never = back q in cc) (other-reply {due = refusal_of (codes "missing")} refl refl) calls)
    by_untaken fault.Large into back told = came large told (record { reply_is = refl; same = refl }) (CountsStore-succeeded (λ q. let never = back q in cc) (other-reply {due = refusal_of (codes "large")} refl refl) calls)
    by_untaken fault.Failed into back told = fails-to (into refl)
    by_untaken fault.Memory into back told = lacks (kept D store store' same calls.counts.counted) refl (λ q. let never = back q in cc) calls
    by_untaken _ into back told = absurd told

    module _ (succeeds : failed → ⊥) where
      -- memory ran out behind that
      pub Lacks-behind : {space' : SpaceView} → space' ≡ space → ObeysOn command D space store (refusal_of (codes "memory")) space' store'
      Lacks-behind stays = lacks (kept D store store' same calls.counts.counted) stays succeeds calls

      -- they are damaged
      is_damaged : (d : Damage) → TakesChain space.pool.bits (D.held store) names (Err d) → d ≢ damage_is.Memory →
          ObeysOn command D space store (refusal_of (codes "damaged " ++ damage_word d)) space store'
      is_damaged d taken other =
          let here = machine_of D space store' in
          let reply = refusal_of (codes "damaged " ++ damage_word d) in
          came (given taken.files) taken.fetched
          (by-damage space.pool.bits (λ (Q : Pool). ByPool Q here reply here) (λ (w : Damage). Refuses here (codes "damaged " ++ damage_word w) reply here) taken.files d taken.read other (record { reply_is = refl; same = refl }))
          (CountsStore-succeeded succeeds (other-reply {due = reply} refl refl) calls)

      by_damage : (d : Damage) → TakesChain space.pool.bits (D.held store) names (Err d) → ObeysOn command D space store (stored_reply (Err (fault_of d))) space store'
      by_damage damage_is.Json taken = is_damaged damage_is.Json taken (λ e. cc)
      by_damage damage_is.Form taken = is_damaged damage_is.Form taken (λ e. cc)
      by_damage damage_is.Version taken = is_damaged damage_is.Version taken (λ e. cc)
      by_damage damage_is.Bits taken = is_damaged damage_is.Bits taken (λ e. cc)
      by_damage damage_is.Row taken = is_damaged damage_is.Row taken (λ e. cc)
      by_damage damage_is.Link taken = is_damaged damage_is.Link taken (λ e. cc)
      by_damage damage_is.Text taken = is_damaged damage_is.Text taken (λ e. cc)
      by_damage damage_is.Vector taken = is_damaged damage_is.Vector taken (λ e. cc)
      by_damage damage_is.Trie taken = is_damaged damage_is.Trie taken (λ e. cc)
      by_damage damage_is.Kind taken = is_damaged damage_is.Kind taken (λ e. cc)
      by_damage damage_is.Order taken = is_damaged damage_is.Order taken (λ e. cc)
      by_damage damage_is.Memory taken = Lacks-behind refl

      -- they are a chain
      pub are-chain : {space' : SpaceView} {store'' : C} {reply : List ℕ} (Q : Pool) → TakesChain space.pool.bits (D.held store) names (Ok Q) → ByPool Q (machine_of D space store') reply (machine_of D space' store'') → CountsStore D store store'' reply →
          ObeysOn command D space store reply space' store''
      are-chain {space'} {store''} {reply} Q taken by counts =
          let here = machine_of D space store' in
          let there = machine_of D space' store'' in
          came (given taken.files) taken.fetched
          (by-read space.pool.bits (λ (P : Pool). ByPool P here reply there) (λ (w : Damage). Refuses here (codes "damaged " ++ damage_word w) reply there) taken.files Q taken.read by) counts

-- how it ends where the files weren't taken
pub Untaken-ends : {command : PlainCommand} {W : Workspace} {names : List Bytes} {ByPool : Pool → Machine → List ℕ → Machine → Type 0} {C : Type 0} {D : store_trait.Ghosts C} {space : SpaceView} {store store' : C}
    (f : StoreFault) (found : Result (Result Pool Damage) StoreFault) (ended : Result (Unit {0}) StoreFault) → TakesFrom command W space names ByPool → D.held store' ≡ D.held store → Calls D.faults D.steady D.faultless store store' (found ≡ Err fault.Failed) →
    found ≡ Err f → IsUntaken (D.held store) names f → IsErrAnd ended (λ (g : StoreFault). g ≡ f) → ObeysOn command D space store (stored_reply ended) space store'
Untaken-ends {command} {D = D} {space} {store} {store'} f found ended takes same calls is told ends =
    subst (λ (r : Result (Unit {0}) StoreFault). ObeysOn command D space store (stored_reply r) space store') (sym (fault-is ended f ends))
    (by_untaken takes same calls f (λ e. is ∙ ap Err e) (λ q. let both : ◌≡◌ {A = Result (Result Pool Damage) StoreFault} (Err f) (Err fault.Failed) = sym is ∙ q in cc) told)

-- or where they are damaged
pub Damaged-ends : {command : PlainCommand} {W : Workspace} {names : List Bytes} {ByPool : Pool → Machine → List ℕ → Machine → Type 0} {C : Type 0} {D : store_trait.Ghosts C} {space : SpaceView} {store store' : C} {failed : Type 0}
    (bits : ℕ) (d : Damage) (found : Result Pool Damage) (ended : Result (Unit {0}) StoreFault) → TakesFrom command W space names ByPool → D.held store' ≡ D.held store → Calls D.faults D.steady D.faultless store store' failed → (failed → ⊥) →
    bits ≡ space.pool.bits → found ≡ Err d → TakesChain bits (D.held store) names found → IsErrAnd ended (λ (g : StoreFault). g ≡ fault_of d) → ObeysOn command D space store (stored_reply ended) space store'
Damaged-ends {command} {names = names} {D = D} {space} {store} {store'} bits d found ended takes same calls succeeds so_many is taken ends =
    subst (λ (r : Result (Unit {0}) StoreFault). ObeysOn command D space store (stored_reply r) space store') (sym (fault-is ended (fault_of d) ends))
    (by_damage takes same calls succeeds d
    (subst (λ (r : Result Pool Damage). TakesChain space.pool.bits (D.held store) names r) is
    (subst (λ (b : ℕ). TakesChain b (D.held store) names found) so_many taken)))

-- or memory ran out behind them
pub Lacks-ends : {command : PlainCommand} {W : Workspace} {names : List Bytes} {ByPool : Pool → Machine → List ℕ → Machine → Type 0} {C : Type 0} {D : store_trait.Ghosts C} {space : SpaceView} {store store' : C} {failed : Type 0}
    (ended : Result (Unit {0}) StoreFault) → TakesFrom command W space names ByPool → D.held store' ≡ D.held store → Calls D.faults D.steady D.faultless store store' failed → (failed → ⊥) →
    IsErrAnd ended (λ (g : StoreFault). g ≡ fault.Memory) → ObeysOn command D space store (stored_reply ended) space store'
Lacks-ends {command} {D = D} {space} {store} {store'} ended takes same calls succeeds ends =
    subst (λ (r : Result (Unit {0}) StoreFault). ObeysOn command D space store (stored_reply r) space store') (sym (fault-is ended fault.Memory ends))
    (Lacks-behind takes same calls succeeds refl)

-- the chain that was found
pub chain-of : {held : Option Files} {names : List Bytes} (bits bits' : ℕ) (Q : Pool) (found : Result Pool Damage) → bits ≡ bits' → found ≡ Ok Q → TakesChain bits held names found → TakesChain bits' held names (Ok Q)
chain-of {held} {names} bits bits' Q found so_many is taken =
    subst (λ (r : Result Pool Damage). TakesChain bits' held names r) is
    (subst (λ (b : ℕ). TakesChain b held names found) so_many taken)

pub chain-is : {held : Option Files} {names : List Bytes} (bits : ℕ) (Q : Pool) → TakesChain bits held names (Ok Q) → (Q.bits ≡ bits) × IsChain Q
chain-is bits Q taken = chain-read bits taken.files Q taken.read

-- ## A chain

-- the space took the chain, or memory ran out
pub Chain-ends : {command : PlainCommand} {W : Workspace} {names : List Bytes} {C : Type 0} {D : store_trait.Ghosts C} {space space' : SpaceView} {store store' : C} {failed : Type 0}
    (Q : Pool) (ended : Result (Unit {0}) StoreFault) → TakesFrom command W space names LoadsChain → D.held store' ≡ D.held store → Calls D.faults D.steady D.faultless store store' failed → (failed → ⊥) →
    TakesChain space.pool.bits (D.held store) names (Ok Q) → TakesChainIn Q space ended space' → ObeysOn command D space store (stored_reply ended) space' store'
Chain-ends {command} {D = D} {space} {space'} {store} {store'} Q ended takes same calls succeeds taken ends = elim ends [
  | inl done ↦ are-chain takes same calls succeeds Q taken (refl, done) (CountsStore-succeeded succeeds (other-reply done.reply_is refl) calls)
  | inr none ↦ subst (λ (r : Result (Unit {0}) StoreFault). ObeysOn command D space store (stored_reply r) space' store') (sym none.0) (Lacks-behind takes same calls succeeds none.1)
]

-- ## A part

abbrev pub part_of : Pool → Pool → Bytes
part_of Q P = part_text (delta Q P)

-- a text that reads back is a partial document of the pool
part-document : (Q P : Pool) (bytes : Bytes) → DeltaStands → DeltasAreUndamaged → IsChain Q → CanFollow Q P → value_in bytes ≡ Some (part_document (delta Q P)) → IsPartDocumentOf Q P bytes
part-document Q P bytes stands undamaged is follows reads = record {
  part = undamaged Q P bytes is follows reads;
  stands = stands Q P (open-passed present_rules Q is.passes).lead_back follows.valid follows.bits;
}

pub part-documents : {A E : Type 0} (result : Result (Vec ℕ A) E) (Q P made : Pool) → made ≡ P → DeltaStands → DeltasAreUndamaged → IsChain Q → CanFollow Q P → IfOk result (λ (b : Vec ℕ A). value_in b.items ≡ Some (part_document (delta Q made))) →
    IfOk result (λ (b : Vec ℕ A). IsPartDocumentOf Q P b.items)
part-documents (Ok b) Q P made same stands undamaged is follows reads =
    part-document Q P b.items stands undamaged is follows (subst (λ (R : Pool). value_in b.items ≡ Some (part_document (delta Q R))) same reads)
part-documents (Err e) Q P made same stands undamaged is follows reads = tt

module _ {command : PlainCommand} {W : Workspace} {names : List Bytes} {name : Bytes} {C : Type 0} {D : store_trait.Ghosts C} {space : SpaceView} {store store' : C} {failed : Type 0}
    (Q : Pool) (takes : TakesFrom command W space names (StoresPart name)) (same : D.held store' ≡ D.held store) (calls : Calls D.faults D.steady D.faultless store store' failed) (succeeds : failed → ⊥)
    (taken : TakesChain space.pool.bits (D.held store) names (Ok Q)) where
  -- the store had its say, or wasn't asked
  stored_as : {store'' : C} {reply : List ℕ} → Stores name (part_of Q space.pool) (machine_of D space store') reply (machine_of D space store'') → (reply ≡ reply_of (ok_line ∷ []) → IsPartDocumentOf Q space.pool (part_of Q space.pool)) → CountsStore D store store'' reply → ObeysOn command D space store reply space store''
  stored_as stores document counts = are-chain takes same calls succeeds Q taken (record { stores = stores; document = document }) counts

  -- the partial document has too many bytes
  pub Part-large : most_stored < length (part_of Q space.pool) → ObeysOn command D space store (refusal_of (codes "large")) space store'
  Part-large many = stored_as (record {
    space = refl;
    ends = subst (λ (b : Bool). MatchBool b (Refuses (machine_of D space store') (codes "large") (refusal_of (codes "large")) (machine_of D space store'))
        (IsStored name (part_of Q space.pool) (shown_store D store') (refusal_of (codes "large")) (shown_store D store') ⊎ FailsToStore name (shown_store D store') (refusal_of (codes "large")) (shown_store D store')))
        (sym (lt-ltb most_stored (length (part_of Q space.pool)) many)) (record { reply_is = refl; same = refl });
  }) (λ ok. absurd (no-refusal (codes "large") (sym ok))) (CountsStore-succeeded succeeds (other-reply {due = refusal_of (codes "large")} refl refl) calls)

  -- it was handed to the store
  by_kept : {store'' : C} (result : Result (Unit {0}) KeepFault) → length (part_of Q space.pool) ≤ most_stored → IsPartDocumentOf Q space.pool (part_of Q space.pool) →
      ChangesFiles (D.held store') (D.held store'') (λ (before now : Files). KeepsFile before now name (part_of Q space.pool) result) → Calls D.faults D.steady D.faultless store' store'' (result ≡ Err unkept.Failed) → ObeysOn command D space store (stored_reply (saved_as result)) space store''
  by_kept {store''} (Ok done) few document told keeps = stored_as
      (called name (part_of Q space.pool) (machine_of D space store') (machine_of D space store'') refl few (inl (record { reply_is = refl; files = told; counted = keeps.counts.counted })))
      (λ _. document) (CountsStore-succeeded (λ q. cc) (other-reply {due = reply_of (ok_line ∷ [])} refl refl) (Calls-then calls succeeds keeps))
  by_kept {store''} (Err unkept.Failed) few document told keeps = stored_as
      (called name (part_of Q space.pool) (machine_of D space store') (machine_of D space store'') refl few (inr (record { reply_is = refl; files = told; counted = keeps.counts.counted; cause = keeps.counts.cause refl })))
      (λ ok. absurd (no-refusal (codes "fault") (sym ok))) (CountsStore-failed refl (Calls-then calls succeeds keeps))
  by_kept {store''} (Err unkept.Memory) few document told keeps =
      let all = Calls-then calls succeeds keeps in
      lacks takes (record {
        files = subst (λ (f : Option Files). ChangesFiles f (D.held store'') (λ (before now : Files). now ≡ before)) same told;
        counted = all.counts.counted;
      }) refl (λ q. cc) all

  pub Part-kept : {store'' : C} (slice given_name : Bytes) (result : Result (Unit {0}) KeepFault) (ended : Result (Unit {0}) StoreFault) (bytes : Bytes) → length bytes ≤ most_stored → bytes ≡ part_of Q space.pool → IsPartDocumentOf Q space.pool bytes →
      slice ≡ bytes → given_name ≡ name →
      ChangesFiles (D.held store') (D.held store'') (λ (before now : Files). KeepsFile before now given_name slice result) → Calls D.faults D.steady D.faultless store' store'' (result ≡ Err unkept.Failed) → saved_as result ≡ ended →
      ObeysOn command D space store (stored_reply ended) space store''
  Part-kept {store''} slice given_name result ended bytes few is document slice_is named told keeps ends =
      subst (λ (r : Result (Unit {0}) StoreFault). ObeysOn command D space store (stored_reply r) space store'') ends
      (by_kept result (subst (λ (w : Bytes). length w ≤ most_stored) is few) (subst (λ (w : Bytes). IsPartDocumentOf Q space.pool w) is document)
      (subst (λ (n : Bytes). ChangesFiles (D.held store') (D.held store'') (λ (before now : Files). KeepsFile before now n (part_of Q space.pool) result)) named
      (subst (λ (w : Bytes). ChangesFiles (D.held store') (D.held store'') (λ (before now : Files). KeepsFile before now given_name w result)) (slice_is ∙ is) told)) keeps)

-- how many bytes it has
pub many-bytes : (Q P : Pool) (bytes : Bytes) (counted : ℕ) → bytes ≡ part_of Q P → counted ≡ length bytes → most_stored < counted → most_stored < length (part_of Q P)
many-bytes Q P bytes counted is e many = subst (λ (w : Bytes). most_stored < length w) is (subst (λ (n : ℕ). most_stored < n) e many)

pub few-bytes : (bytes : Bytes) (counted : ℕ) → counted ≡ length bytes → counted ≤ most_stored → length bytes ≤ most_stored
few-bytes bytes counted e few = subst (λ (n : ℕ). n ≤ most_stored) e few
