-- How the whole run ends, from what its lines say.
use Rattle.std.proofs.Common.{◌≡◌, ◌≢◌, ℕ, ◌+◌, ◌≤◌, ◌↔◌, ◌⊎◌, List, [], ◌++◌, length, take, sym, ap, ◌∙◌, subst, refl, arith, length-append, None, Some, IsNone, IfSome, MatchOption, Ok, Err, IsErr, inl, inr}
use Rattle.std.specs.declared.option.Option.{Option}
use Rattle.std.specs.Io.KnownBytes.{Consumes}
use Rattle.std.proofs.KnownBytes.{Appends-nil}
use Rattle.shell_options.specs.Options.{PlainOptions, options}
use Rattle.shell_options.specs.Shown.{ReadsWords}
use Rattle.shell_options.specs.declared.WordsFault.{WordsFault}
use Rattle.shell_options.specs.declared.WordsFault.TheVariants as unread
use Rattle.shell_io.specs.Pieces.{ended, pieces_within}
use Rattle.ewig_shell.specs.Quits.{HasQuit}
use Rattle.shell_io.specs.declared.device.Source as source_trait
use Rattle.shell_io.specs.declared.device.Sink as sink_trait
use Rattle.shell_io.specs.declared.device.Store as store_trait
use Rattle.shell_io.proofs.FaultLemmas.{CountsFaults-none, CountsFaults-as, CountsFaults-then, Calls-none, Calls-as, Calls-then}
use Rattle.space_state.specs.View.{SpaceView}
use Rattle.ewig_shell.specs.declared.run.Status.{Status}
use Rattle.ewig_shell.specs.declared.run.Status.TheVariants as status
use Rattle.ewig_shell.specs.Going.{GoesAs, Opens, Follows, EndsInput, status_of, status_by_words, unbegun_as}
use Rattle.ewig_shell.specs.Step.{CountsStore}
use Rattle.ewig_shell.specs.Run.{HasAnswered, IsEarly, Run, Says, Runs, RunsInput, RunsOwn, RunsBy, RunsAs, KeepsSure, EndsInTime, IsComplete}
use Rattle.ewig_shell.specs.Work.{Works, StepsAlone, StepsBeside, status_by}
use Rattle.ewig_shell.specs.declared.run.Ended.{Ended}
use Rattle.ewig_shell.specs.declared.execute.Went.{Went}
use Rattle.ewig_shell.specs.declared.execute.Went.TheVariants as went
use Rattle.shell_io.specs.Fault.{CountsFaults}
use Rattle.shell_io.specs.Sending.{Sends}
use Rattle.shell_io.specs.declared.device.Failed.{Failed}
use Rattle.std.specs.declared.result.Result.{Result}
use Rattle.ewig_shell.proofs.WorkLemmas.{Works-beside, bits-alone}
use Rattle.ewig_shell.proofs.ReadLemmas.{quit_in_time}

-- what is said of a value that is there may use that it is there
pub IfSome-from : {A : Type 0} (o : Option A) (P : A → Type 0) → ((x : A) → o ≡ Some x → P x) → IfSome o P
IfSome-from None P f = tt
IfSome-from (Some x) P f = f x refl

-- an input of which one byte more than the most was taken isn't over within the most
past_most : (most : ℕ) (input taken rest : List ℕ) → input ≡ taken ++ rest → length taken ≡ most + 1 → length input ≤ most → ⊥
past_most most input taken rest split one_more short = omega (arith, ap length split, length-append taken rest, one_more, short)

-- what a run that read lines has done in time
in_time : (most : ℕ) (input taken rest : List ℕ) → input ≡ taken ++ rest → (taken ≡ input) × (length input ≤ most) ⊎ HasQuit (ended (take most taken)) → EndsInTime most input
in_time most input taken rest split read =
    elim read [ inl whole ↦ inl whole.1 | inr quits ↦ inr (subst (λ (w : List ℕ). HasQuit (pieces_within most w)) (sym split) (quit_in_time most taken rest quits)) ]

-- without a fault, the bytes decide
by_bytes : {C : Type 0} (D : store_trait.Ghosts C) (most : ℕ) (asked : PlainOptions) (run : Run C) (rest : List ℕ) (s : Status) (last : SpaceView) → Says s most asked D run → run.last ≡ Some last → run.input ≡ run.taken ++ rest → (s ≡ status.ReadFault → ⊥) → (s ≡ status.WriteFault → ⊥) → IsComplete most run.input s
by_bytes D most asked run rest status.Done last says left split no_read no_write = record {
  in_time = λ _. inl refl;
  too_long = λ never. absurd (never (in_time most run.input run.taken rest split says.read));
}
by_bytes D most asked run rest status.TooLong last says left split no_read no_write = record {
  in_time = λ ends. absurd (elim ends [ inl short ↦ past_most most run.input run.taken rest split says.one_more short | inr quits ↦ says.goes_on quits ]);
  too_long = λ _. inl refl;
}
by_bytes D most asked run rest status.Memory last says left split no_read no_write = record { in_time = λ _. inr refl; too_long = λ _. inr refl }
by_bytes D most asked run rest status.Usage last says left split no_read no_write = absurd says
by_bytes D most asked run rest status.ReadFault last says left split no_read no_write = absurd (no_read refl)
by_bytes D most asked run rest status.WriteFault last says left split no_read no_write = absurd (no_write refl)

-- what was taken is the front of the input
taken_front : (input : List ℕ) (left : Option (List ℕ)) (taken : List ℕ) → Consumes (Some input) left taken → (rest : List ℕ) × (input ≡ taken ++ rest)
taken_front input None taken takes = absurd takes
taken_front input (Some rest) taken takes = (rest, takes)

complete_by : {B C : Type 0} {K : sink_trait.Ghosts B} {sink sink' : B} {D : store_trait.Ghosts C} (most : ℕ) (asked : PlainOptions) (input : List ℕ) (left : Option (List ℕ)) (first after : C) (s : Status) (last : SpaceView) → Runs most asked input left K sink sink' D first after s (Some last) → (s ≡ status.ReadFault → ⊥) → (s ≡ status.WriteFault → ⊥) → IsComplete most input s
complete_by {D = D} most asked input left first after s last runs no_read no_write =
    let front = taken_front input left runs.run.taken runs.takes in
    subst (λ (w : List ℕ). IsComplete most w s) runs.input_is
    (by_bytes D most asked runs.run front.0 s last (subst (λ (t : Status). Says t most asked D runs.run) runs.status_is runs.says) runs.last_is (runs.input_is ∙ front.1) no_read no_write)

-- a run that did nothing
abbrev idle : {C : Type 0} → List ℕ → Status → C → Run C
idle input s store = record { input = input; taken = []; replies = []; output = []; status = s; last = None; store = store; store' = store }

not_early : (s : Status) → IsEarly s → (fault : Status) → (IsEarly fault → ⊥) → s ≡ fault → ⊥
not_early s early fault never e = never (subst IsEarly e early)

-- a run that left nothing has one of the two statuses
early_either : (s : Status) → IsEarly s → (s ≡ status.Usage) ⊎ (s ≡ status.Memory)
early_either status.Usage early = inl refl
early_either status.Memory early = inr refl
early_either status.Done early = absurd early
early_either status.ReadFault early = absurd early
early_either status.WriteFault early = absurd early
early_either status.TooLong early = absurd early

-- a store that isn't called
pub KeepsSure-none : {C : Type 0} {D : store_trait.Ghosts C} {store : C} → KeepsSure D store store
KeepsSure-none = record { counted = omega arith; steady = λ h. h; sure = λ h. (h, refl) }

-- a store that is called once more
pub KeepsSure-then : {C : Type 0} {D : store_trait.Ghosts C} {first mid last : C} → KeepsSure D first mid → KeepsSure D mid last → KeepsSure D first last
KeepsSure-then before next = record {
  counted = omega (arith, before.counted, next.counted);
  steady = λ h. next.steady (before.steady h);
  sure = λ h. let one = before.sure h in let two = next.sure one.0 in (two.0, two.1 ∙ one.1);
}

-- what a step makes of a store
pub KeepsSure-step : {C : Type 0} {D : store_trait.Ghosts C} {first last : C} {reply : List ℕ} → CountsStore D first last reply → KeepsSure D first last
KeepsSure-step counts = let calls = counts.calls in record { counted = calls.counts.counted; steady = λ h. (calls.counts.told h).0; sure = λ h. let kept = calls.sure h in (kept.0, kept.1) }

-- ## What the line that loads a document made of a run

-- the sink failed exactly where the run ends so
faults_by : {B : Type 0} {K : sink_trait.Ghosts B} {sink sink' : B} {ends : Option Status} {bytes : List ℕ} (result : Result Went Failed) → ends ≡ status_of result → Sends K.written K.faults K.steady K.has_room sink sink' result bytes → CountsFaults K.faults K.steady sink sink' (ends ≡ Some status.WriteFault)
faults_by (Ok went.On) e sends = CountsFaults-as sends.counts (λ q. absurd (let never = q in cc)) (λ q. absurd (let both = sym e ∙ q in cc))
faults_by (Ok went.Quit) e sends = CountsFaults-as sends.counts (λ q. absurd (let never = q in cc)) (λ q. absurd (let both = sym e ∙ q in cc))
faults_by (Err f) e sends = CountsFaults-as sends.counts (λ _. e) (λ _. refl)

no_read : {ends : Option Status} (result : Result Went Failed) → ends ≡ status_of result → ends ≡ Some status.ReadFault → ⊥
no_read (Ok went.On) e q = let both = sym e ∙ q in cc
no_read (Ok went.Quit) e q = let both = sym e ∙ q in cc
no_read (Err f) e q = let both = sym e ∙ q in cc

not_begun : (result : Result Went Failed) → IfSome (status_of result) (λ (s : Status). IsEarly s → ⊥)
not_begun (Ok went.On) = tt
not_begun (Ok went.Quit) = λ e. e
not_begun (Err f) = λ e. e

module _ {A B C : Type 0} {S : source_trait.Ghosts A} {source : A} {K : sink_trait.Ghosts B} {D : store_trait.Ghosts C} where
  pub GoesAs-opens : {sink sink' : B} {store store' : C} {space space' : SpaceView} {ends : Option Status} (file : Option (List ℕ)) → Opens file K sink sink' D store store' space space' ends → GoesAs S source source K sink sink' D store store' space space' ends
  GoesAs-opens {sink} {sink'} {store} {store'} {space} {space'} {ends} None opens = record {
    begun = subst (λ (o : Option Status). IfSome o (λ (s : Status). IsEarly s → ⊥)) (sym opens.0) tt;
    bits = ap (λ (w : SpaceView). w.pool.bits) opens.3;
    causes = record {
      reads = Calls-as (Calls-none S.faults S.steady S.faultless source) (λ p. absurd p) (λ q. absurd (let both = sym opens.0 ∙ q in cc));
      writes = subst (λ (b : B). CountsFaults K.faults K.steady sink b (ends ≡ Some status.WriteFault)) (sym opens.1) (CountsFaults-as CountsFaults-none (λ p. absurd p) (λ q. absurd (let both = sym opens.0 ∙ q in cc)));
    };
    stores = subst (λ (v : C). KeepsSure D store v) (sym opens.2) KeepsSure-none;
  }
  GoesAs-opens (Some file) opens = record {
    begun = subst (λ (o : Option Status). IfSome o (λ (s : Status). IsEarly s → ⊥)) (sym opens.ends_so) (not_begun opens.went);
    bits = opens.bits;
    causes = record {
      reads = Calls-as (Calls-none S.faults S.steady S.faultless source) (λ p. absurd p) (no_read opens.went opens.ends_so);
      writes = faults_by opens.went opens.ends_so opens.replies.sends;
    };
    stores = KeepsSure-step opens.replies.due.counts;
  }

-- lines, and then others
pub GoesAs-then : {A B C : Type 0} {S : source_trait.Ghosts A} {s1 s2 s3 : A} {K : sink_trait.Ghosts B} {k1 k2 k3 : B} {D : store_trait.Ghosts C} {d1 d2 d3 : C} {w1 w2 w3 : SpaceView} {ends : Option Status} →
    GoesAs S s1 s2 K k1 k2 D d1 d2 w1 w2 None → GoesAs S s2 s3 K k2 k3 D d2 d3 w2 w3 ends → GoesAs S s1 s3 K k1 k3 D d1 d3 w1 w3 ends
GoesAs-then before next = record {
  begun = next.begun;
  bits = next.bits ∙ before.bits;
  causes = record {
    reads = Calls-then before.causes.reads (λ q. let never = q in cc) next.causes.reads;
    writes = CountsFaults-then before.causes.writes (λ q. let never = q in cc) next.causes.writes;
  };
  stores = KeepsSure-then before.stores next.stores;
}

-- ## A run by its words

-- a run that left nothing
idle_runs : {A B C : Type 0} (S : source_trait.Ghosts A) (source : A) (K : sink_trait.Ghosts B) (sink : B) (D : store_trait.Ghosts C) (store : C) (most : ℕ) (asked : PlainOptions) (work : Option (ℕ × ℕ)) →
    MatchOption work (RunsInput most asked S source source K sink sink D store store (unbegun_as status.Memory)) (λ (w : ℕ × ℕ). RunsOwn asked w.0 w.1 source source K sink sink D store store (unbegun_as status.Memory))
idle_runs S source K sink D store most asked None = record {
  answers = tt;
  run = IfSome-from (S.left source) (λ (input : List ℕ). Runs most asked input (S.left source) K sink sink D store store status.Memory None) (λ input told. record {
    run = idle input status.Memory store;
    input_is = refl;
    status_is = refl;
    last_is = refl;
    store_is = refl;
    store'_is = refl;
    takes = subst (λ (o : Option (List ℕ)). Consumes (Some input) o []) (sym told) refl;
    few = omega arith;
    writes = Appends-nil (K.written sink);
    says = record { untaken = refl; unanswered = refl; unwritten = refl; none_left = refl; untouched = refl };
    sink_sure = λ room has low. ((λ e. let never = e in cc), refl, subst (λ (n : ℕ). K.has_room sink n) (omega arith) has);
  });
  complete = λ no_read no_write. IfSome-from (S.left source) (λ (input : List ℕ). IsComplete most input status.Memory) (λ input told. record { in_time = λ _. inr refl; too_long = λ _. inr refl });
}
idle_runs S source K sink D store most asked (Some work) = record { unread = refl; unused = refl; run = inl refl; complete = λ _. inr refl }

module _ {A B C : Type 0} {S : source_trait.Ghosts A} {source : A} {K : sink_trait.Ghosts B} {sink : B} {D : store_trait.Ghosts C} {store : C} {most : ℕ} {words : List (List ℕ)} where
  pub RunsAs-early : (s : Status) → IsEarly s → (s ≡ status.Usage → options words ≡ None) → RunsAs most words S source source K sink sink D store store (unbegun_as s)
  RunsAs-early s early usage = record {
    usage = usage;
    unread = λ _. early_either s early;
    space = (λ _. early, λ _. refl);
    unbegun = λ _. (refl, refl, refl);
    reads = Calls-as (Calls-none S.faults S.steady S.faultless source) (λ p. absurd p) (not_early s early status.ReadFault (λ e. e));
    writes = CountsFaults-as CountsFaults-none (λ p. absurd p) (not_early s early status.WriteFault (λ e. e));
    stores = KeepsSure-none;
    runs = IfSome-from (options words) (λ (asked : PlainOptions). RunsBy most asked S source source K sink sink D store store (unbegun_as s)) (λ asked reads.
        let memory : s ≡ status.Memory = elim (early_either s early) [ inl e ↦ absurd (let none = usage e in cc) | inr e ↦ e ] in
        subst (λ (t : Status). RunsBy most asked S source source K sink sink D store store (unbegun_as t)) (sym memory) (record { bits = tt; does = idle_runs S source K sink D store most asked asked.work }));
  }

-- a run that its words didn't begin
pub Words-end : {A B C : Type 0} {S : source_trait.Ghosts A} {source : A} {K : sink_trait.Ghosts B} {sink : B} {D : store_trait.Ghosts C} {store : C} {most : ℕ} (fault : WordsFault) (words : List (List ℕ)) (s : Status) (ended : Ended) →
    ReadsWords (options words) (Err fault) → s ≡ status_by_words fault → ended ≡ unbegun_as s → RunsAs most words S source source K sink sink D store store ended
Words-end {S = S} {source} {K} {sink} {D} {store} {most} fault words s ended reads e is =
    subst (λ (x : Ended). RunsAs most words S source source K sink sink D store store x) (sym (is ∙ ap unbegun_as e)) (by_fault fault reads)
  where
    by_fault : (f : WordsFault) → ReadsWords (options words) (Err f) → RunsAs most words S source source K sink sink D store store (unbegun_as (status_by_words f))
    by_fault unread.Usage none = RunsAs-early status.Usage tt (λ _. none)
    by_fault unread.Memory none = RunsAs-early status.Memory tt (λ e. let never = e in cc)

-- a run over an input
module _ {A B C : Type 0} {S : source_trait.Ghosts A} {source source' : A} {K : sink_trait.Ghosts B} {sink sink' : B} {D : store_trait.Ghosts C} {store store' : C} {most : ℕ} {words : List (List ℕ)} {asked : PlainOptions} where
  followed : (ended : Ended) → options words ≡ Some asked → asked.work ≡ None → Follows most asked S source source' K sink sink' D store store' ended → RunsAs most words S source source' K sink sink' D store store' ended
  followed ended reads none follows =
      let goes = follows.goes in
      record {
        usage = λ e. absurd (goes.begun (subst IsEarly (sym e) tt));
        unread = λ no. absurd (let both = sym reads ∙ no in cc);
        space = (λ h. absurd (let some = follows.last_is in let never = subst (λ (o : Option SpaceView). IsNone o) some h in cc), λ early. absurd (goes.begun early));
        unbegun = λ early. absurd (goes.begun early);
        reads = Calls-as goes.causes.reads (λ p. let same = p in cc) (ap Some);
        writes = CountsFaults-as goes.causes.writes (λ p. let same = p in cc) (ap Some);
        stores = goes.stores;
        runs = subst (λ (o : Option PlainOptions). IfSome o (λ (a : PlainOptions). RunsBy most a S source source' K sink sink' D store store' ended)) (sym reads) (record {
          bits = subst (λ (o : Option SpaceView). IfSome o (λ (w : SpaceView). w.pool.bits ≡ asked.bits)) (sym follows.last_is) goes.bits;
          does = subst (λ (o : Option (ℕ × ℕ)). MatchOption o (RunsInput most asked S source source' K sink sink' D store store' ended) (λ (w : ℕ × ℕ). RunsOwn asked w.0 w.1 source source' K sink sink' D store store' ended)) (sym none) (record {
            answers = subst (λ (o : Option SpaceView). IfSome o (λ (w : SpaceView). HasAnswered asked K sink sink' D store store' w (Some ended.status))) (sym follows.last_is) follows.answers;
            run = IfSome-from (S.left source) (λ (input : List ℕ). Runs most asked input (S.left source') K sink sink' D store store' ended.status ended.space)
                (λ input told. subst (λ (o : Option SpaceView). Runs most asked input (S.left source') K sink sink' D store store' ended.status o) (sym follows.last_is) (follows.told input told));
            complete = λ no_read no_write. IfSome-from (S.left source) (λ (input : List ℕ). IsComplete most input ended.status)
                (λ input told. complete_by most asked input (S.left source') store store' ended.status follows.last (follows.told input told) no_read no_write);
          });
        });
      }

  pub RunsAs-input : (ended : Ended) → options words ≡ Some asked → asked.work ≡ None → EndsInput most asked S source source' K sink sink' D store store' ended → RunsAs most words S source source' K sink sink' D store store' ended
  RunsAs-input ended reads none ends = elim ends [
    | inl idle ↦
        subst (λ (a : A). RunsAs most words S source a K sink sink' D store store' ended) (sym idle.0)
        (subst (λ (b : B). RunsAs most words S source source K sink b D store store' ended) (sym idle.1)
        (subst (λ (v : C). RunsAs most words S source source K sink sink D store v ended) (sym idle.2)
        (subst (λ (e : Ended). RunsAs most words S source source K sink sink D store store e) (sym idle.3) (RunsAs-early status.Memory tt (λ e. let never = e in cc)))))
    | inr follows ↦ followed ended reads none follows
  ]

-- what is said of a summary that was sent
sent_early : (sent : Result (Unit {0}) Failed) → IsEarly (status_by sent) → ⊥
sent_early (Ok x) early = early
sent_early (Err f) early = early

sent_fault : (s : Status) (sent : Result (Unit {0}) Failed) → s ≡ status_by sent → IsErr sent ↔ (s ≡ status.WriteFault)
sent_fault s (Ok x) e = ((λ q. absurd (let never = q in cc)), (λ q. absurd (let both = sym e ∙ q in cc)))
sent_fault s (Err f) e = ((λ _. e), (λ _. refl))

sent_done : (s : Status) (sent : Result (Unit {0}) Failed) → s ≡ status_by sent → s ≢ status.WriteFault → (s ≡ status.Done) ⊎ (s ≡ status.Memory)
sent_done s (Ok x) e no_write = inl e
sent_done s (Err f) e no_write = absurd (no_write e)

sent_read : (s : Status) (sent : Result (Unit {0}) Failed) → s ≡ status_by sent → s ≡ status.ReadFault → ⊥
sent_read s (Ok x) e q = let both = sym e ∙ q in cc
sent_read s (Err f) e q = let both = sym e ∙ q in cc

-- a run over lines of the program's own
module _ {A B C : Type 0} {S : source_trait.Ghosts A} {source : A} {K : sink_trait.Ghosts B} {sink sink' : B} {D : store_trait.Ghosts C} {store : C} {most : ℕ} {words : List (List ℕ)} {asked : PlainOptions} {seed count : ℕ} where
  worked : (ended : Ended) → options words ≡ Some asked → asked.work ≡ Some (seed, count) → Works asked.bits seed count StepsAlone K sink sink' ended → RunsAs most words S source source K sink sink' D store store ended
  worked ended reads own works =
      let begun : IsEarly ended.status → ⊥ = λ early. sent_early works.sent (subst IsEarly works.status_is early) in
      let beside : Works asked.bits seed count (StepsBeside D store) K sink sink' ended = Works-beside D store works in
      let fault = sent_fault ended.status works.sent works.status_is in
      record {
        usage = λ e. absurd (begun (subst IsEarly (sym e) tt));
        unread = λ no. absurd (let both = sym reads ∙ no in cc);
        space = (λ h. absurd (let never = subst (λ (o : Option SpaceView). IsNone o) works.last_is h in cc), λ early. absurd (begun early));
        unbegun = λ early. absurd (begun early);
        reads = Calls-as (Calls-none S.faults S.steady S.faultless source) (λ p. absurd p) (sent_read ended.status works.sent works.status_is);
        writes = CountsFaults-as works.replies.sends.counts fault.0 fault.1;
        stores = KeepsSure-none;
        runs = subst (λ (o : Option PlainOptions). IfSome o (λ (a : PlainOptions). RunsBy most a S source source K sink sink' D store store ended)) (sym reads) (record {
          bits = subst (λ (o : Option SpaceView). IfSome o (λ (w : SpaceView). w.pool.bits ≡ asked.bits)) (sym works.last_is) (bits-alone _ _ works.replies.due.replies _ works.replies.due.steps);
          does = subst (λ (o : Option (ℕ × ℕ)). MatchOption o (RunsInput most asked S source source K sink sink' D store store ended) (λ (w : ℕ × ℕ). RunsOwn asked w.0 w.1 source source K sink sink' D store store ended)) (sym own)
              (record { unread = refl; unused = refl; run = inr beside; complete = sent_done ended.status works.sent works.status_is });
        });
      }

  pub RunsAs-own : (ended : Ended) → options words ≡ Some asked → asked.work ≡ Some (seed, count) → (sink' ≡ sink) × (ended ≡ unbegun_as status.Memory) ⊎ Works asked.bits seed count StepsAlone K sink sink' ended →
      RunsAs most words S source source K sink sink' D store store ended
  RunsAs-own ended reads own ends = elim ends [
    | inl idle ↦
        subst (λ (b : B). RunsAs most words S source source K sink b D store store ended) (sym idle.0)
        (subst (λ (e : Ended). RunsAs most words S source source K sink sink D store store e) (sym idle.1) (RunsAs-early status.Memory tt (λ e. let never = e in cc)))
    | inr works ↦ worked ended reads own works
  ]
