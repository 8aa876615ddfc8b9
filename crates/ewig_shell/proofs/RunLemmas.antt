-- How a run goes on, and how it ends.
use Rattle.std.proofs.Common.{◌≡◌, ℕ, ◌+◌, ◌-◌, ◌≤◌, List, [], ◌∷◌, ◌++◌, length, take, drop, codes, sym, ap, ◌∙◌, subst, refl, arith, append_assoc, length-append, ◌↔◌, None, Some, Ok, Err, IfOk, IsTrue, MatchOption, inl}
use Rattle.std.proofs.lemmas.List.{append-nil, take-append-drop, length-take-le, take_all}
use Rattle.std.proofs.KnownBytes.{Appends-nil, Appends-trans}
use Rattle.std.specs.declared.option.Option.{Option}
use Rattle.std.specs.List.{list_any}
use Rattle.std.specs.declared.result.Result.{Result}
use Rattle.std.specs.Io.KnownBytes.{Consumes}
use Rattle.shell_io.specs.Sending.{Sends}
use Rattle.shell_io.specs.declared.device.Failed.{Failed}
use Rattle.shell_io.specs.declared.device.Sink as sink_trait
use Rattle.shell_io.specs.declared.device.Store as store_trait
use Rattle.shell_io.specs.Pieces.{pieces, ended, pieces_within}
use Rattle.shell_io.specs.Reader.{Reading, StandsIn, GivesNext, Answers, pieces_given}
use Rattle.shell_io.specs.declared.reader.Next.TheVariants as next
use Rattle.shell_io.proofs.PiecesLemmas.{pieces_within-all}
use Rattle.shell_options.specs.Options.{PlainOptions}
use Rattle.space_state.specs.View.{SpaceView, start_view}
use Rattle.ewig_shell.specs.declared.execute.Went.{Went}
use Rattle.ewig_shell.specs.declared.execute.Went.TheVariants as went
use Rattle.ewig_shell.specs.declared.run.Status.{Status}
use Rattle.ewig_shell.specs.declared.run.Status.TheVariants as status
use Rattle.ewig_shell.specs.Quits.{HasQuit, is_quit, until_quit}
use Rattle.ewig_shell.specs.Step.{StepsOn, StepsThrough}
use Rattle.ewig_shell.specs.Sending.{Replies}
use Rattle.ewig_shell.specs.Run.{Run, Says, Runs, opening}
use Rattle.ewig_shell.specs.Going.{IsGoing, TakesReplies, Opens, OpensFile, status_of}
use Rattle.ewig_shell.proofs.QuitLemmas.{load-no_quit, neither, none-append, any-here, up_to-none, up_to-first}
use Rattle.ewig_shell.proofs.ReadLemmas.{quit_read}

-- one step more
pub StepsThrough-append : {C : Type 0} {D : store_trait.Ghosts C} (W : SpaceView) (V : C) (xs : List (List ℕ)) (output : List ℕ) (W' : SpaceView) (V' : C) (piece reply : List ℕ) (last : SpaceView) (V'' : C) → StepsThrough xs D W V output W' V' → StepsOn piece D W' V' reply last V'' → StepsThrough (xs ++ piece ∷ []) D W V (output ++ reply) last V''
StepsThrough-append {C = C} {D} W V [] output W' V' piece reply last V'' h step = (
  reply,
  last,
  V'',
  [],
  subst (λ (v : C). StepsOn piece D W v reply last V'') h.2 (subst (λ (w : SpaceView). StepsOn piece D w V' reply last V'') h.1 step),
  (refl, refl, refl),
  ap (λ (w : List ℕ). w ++ reply) h.0 ∙ sym (append-nil reply),
)
StepsThrough-append W V (x ∷ xs) output W' V' piece reply last V'' h step =
    (h.0, h.1, h.2, h.3 ++ reply, h.4, StepsThrough-append h.1 h.2 xs h.3 W' V' piece reply last V'' h.5 step, ap (λ (w : List ℕ). w ++ reply) h.6 ∙ append_assoc h.0 h.3 reply)

-- the pieces given after the next one, in the order that they stand
given_then : {most : ℕ} {input : List ℕ} {old new : Reading} {piece : List ℕ} (next : GivesNext most input old new piece) → pieces_within most input ≡ pieces_given input old ++ piece ∷ next.in_time.0
given_then {input = input} {old} {piece = piece} next =
    next.in_time.1 ∙ ap (λ (w : List (List ℕ)). w ++ next.in_time.0) next.next ∙ append_assoc (pieces_given input old) (piece ∷ []) next.in_time.0

-- one piece more behind the line that loads a document
pub behind : (front given all : List (List ℕ)) (piece : List ℕ) → all ≡ given ++ piece ∷ [] → (front ++ given) ++ piece ∷ [] ≡ front ++ all
behind front given all piece e = append_assoc front given (piece ∷ []) ∙ ap (λ (w : List (List ℕ)). front ++ w) (sym e)

-- that line isn't to quit
opening-no_quit : (first : Option (List ℕ)) (pieces : List (List ℕ)) → (HasQuit pieces → ⊥) → HasQuit (opening first ++ pieces) → ⊥
opening-no_quit None pieces goes_on quits = goes_on quits
opening-no_quit (Some file) pieces goes_on quits = neither (is_quit (codes "load " ++ file)) (list_any is_quit pieces) (load-no_quit file) goes_on quits

-- the same pieces were given as before
given_same : (input : List ℕ) (old new : Reading) → new.given ≡ old.given → pieces_given input new ≡ pieces_given input old
given_same input old new e = ap (λ (n : ℕ). pieces (take n input)) e

-- what a run did whose reader stands there
abbrev did : {C : Type 0} → List ℕ → Reading → (replies output : List ℕ) → Status → C → C → SpaceView → Run C
did input reader replies output s first after last = record {
  input = input;
  taken = take reader.taken input;
  replies = replies;
  output = output;
  status = s;
  last = Some last;
  store = first;
  store' = after;
}

-- what the source has left is what wasn't taken
taken_off : (input : List ℕ) (n : ℕ) (left : Option (List ℕ)) → left ≡ Some (drop n input) → Consumes (Some input) left (take n input)
taken_off input n left e = subst (λ (o : Option (List ℕ)). Consumes (Some input) o (take n input)) (sym e) (sym (take-append-drop n input))

module _ {B : Type 0} {K : sink_trait.Ghosts B} where
  -- no byte was written yet
  TakesReplies-none : {sink : B} → TakesReplies K sink sink []
  TakesReplies-none {sink} = record {
    appends = Appends-nil (K.written sink);
    room = λ room has low. (refl, subst (λ (n : ℕ). K.has_room sink n) (omega arith) has);
  }

  -- a reply was sent behind the others
  TakesReplies-append : {begin sink sink' : B} {w : Went} (bytes reply : List ℕ) → TakesReplies K begin sink bytes → Sends K.written K.faults K.steady K.has_room sink sink' (Ok w) reply → TakesReplies K begin sink' (bytes ++ reply)
  TakesReplies-append {sink' = sink'} bytes reply before sends = record {
    appends = Appends-trans _ _ _ bytes reply before.appends sends.writes;
    room = λ room has low.
        let first = before.room room has (omega (arith, low, length-append bytes reply)) in
        let second = sends.sure (room - length bytes) first.1 (omega (arith, low, length-append bytes reply)) in
        (second.1 ∙ first.0, subst (λ (n : ℕ). K.has_room sink' n) (omega (arith, low, length-append bytes reply)) second.2);
  }

module _ {B C : Type 0} {asked : PlainOptions} {K : sink_trait.Ghosts B} {begin sink' : B} {D : store_trait.Ghosts C} {first : C} {left : Option (List ℕ)} where
  -- a run that ends where its reader stands, with all its replies written
  ends_there : (most : ℕ) (input : List ℕ) (reader : Reading) (replies : List ℕ) (s : Status) (V : C) (W : SpaceView) → StandsIn input reader left → reader.taken ≤ most + 1 → TakesReplies K begin sink' replies → (s ≡ status.WriteFault → ⊥) → Says s most asked D (did input reader replies replies s first V W) → Runs most asked input left K begin sink' D first V s (Some W)
  ends_there most input reader replies s V W stands few writes other says = record {
    run = did input reader replies replies s first V W;
    input_is = refl;
    status_is = refl;
    last_is = refl;
    store_is = refl;
    store'_is = refl;
    takes = taken_off input reader.taken left stands.left_is;
    few = omega (arith, length-take-le reader.taken input stands.within, few);
    writes = writes.appends;
    says = says;
    sink_sure = λ room has low. let kept = writes.room room has low in (other, kept.0, kept.1);
  }

  -- a piece was given and executed, and its reply was sent, or not
  by_result : {sink : B} {most : ℕ} {input : List ℕ} {old new : Reading} {old_left : Option (List ℕ)} {V V' : C} {W W' : SpaceView} {piece reply : List ℕ} (result : Result Went Failed) →
      IsGoing most asked input old old_left K begin sink D first V W →
      StandsIn input new left →
      GivesNext most input old new piece →
      new.taken ≤ most + 1 →
      StepsOn piece D W V reply W' V' →
      Sends K.written K.faults K.steady K.has_room sink sink' result reply →
      IfOk result (λ (w : Went). (w ≡ went.Quit) ↔ IsTrue (is_quit piece)) →
      MatchOption (status_of result) (IsGoing most asked input new left K begin sink' D first V' W') (λ (s : Status). Runs most asked input left K begin sink' D first V' s (Some W'))
  by_result {most = most} {input} {old} {new} {V = V} {V'} {W} {W'} {piece} {reply} (Ok went.On) going stands next few step sends quits = record {
    stands = stands;
    later = next.in_time.0;
    in_time = next.in_time.1;
    goes_on = subst (λ (w : List (List ℕ)). HasQuit w → ⊥) (sym next.next)
        (none-append is_quit (pieces_given input old) piece going.goes_on (λ test. absurd (let never = quits.1 test in cc)));
    replies = going.replies ++ reply;
    steps = subst (λ (w : List (List ℕ)). StepsThrough w D (start_view asked.bits) first (going.replies ++ reply) W' V') (behind (opening asked.first) (pieces_given input old) (pieces_given input new) piece next.next)
        (StepsThrough-append (start_view asked.bits) first _ going.replies W V piece reply W' V' going.steps step);
    writes = TakesReplies-append going.replies reply going.writes sends;
  }
  by_result {most = most} {input} {old} {new} {V = V} {V'} {W} {W'} {piece} {reply} (Ok went.Quit) going stands next few step sends quits =
      let these = given_then next in
      let test = quits.0 refl in
      ends_there most input new (going.replies ++ reply) status.Done V' W' stands few (TakesReplies-append going.replies reply going.writes sends) (λ e. cc) (record {
        read = quit_read most input new left next.in_time.0 stands next.in_time.1
            (subst (λ (w : List (List ℕ)). HasQuit w) (sym next.next) (any-here is_quit (pieces_given input old) piece [] test));
        executes = record {
          steps = subst (λ (w : List (List ℕ)). StepsThrough w D (start_view asked.bits) first (going.replies ++ reply) W' V')
              (behind (opening asked.first) (pieces_given input old) (until_quit (pieces_within most input)) piece (ap until_quit these ∙ up_to-first is_quit (pieces_given input old) piece next.in_time.0 going.goes_on test))
              (StepsThrough-append (start_view asked.bits) first _ going.replies W V piece reply W' V' going.steps step);
          written = refl;
        };
      })
  by_result {most = most} {input} {old} {new} {V = V} {V'} {W} {W'} {piece} {reply} (Err fault) going stands next few step sends quits =
      let part = sends.writes in
      record {
        run = did input new (going.replies ++ reply) (going.replies ++ take part.0 reply) status.WriteFault first V' W';
        input_is = refl;
        status_is = refl;
        last_is = refl;
        store_is = refl;
        store'_is = refl;
        takes = taken_off input new.taken left stands.left_is;
        few = omega (arith, length-take-le new.taken input stands.within, few);
        writes = Appends-trans _ _ _ going.replies (take part.0 reply) going.writes.appends part.2;
        says = record {
          before = opening asked.first ++ pieces_given input old;
          piece = piece;
          later = next.in_time.0;
          in_time = ap (λ (w : List (List ℕ)). opening asked.first ++ w) (given_then next) ∙ sym (append_assoc (opening asked.first) (pieces_given input old) (piece ∷ next.in_time.0));
          goes_on = opening-no_quit asked.first (pieces_given input old) going.goes_on;
          breaks = record {
            full_replies = going.replies;
            mid_space = W;
            mid_store = V;
            steps = going.steps;
            reply = reply;
            step = step;
            replies_are = refl;
            count = part.0;
            cut = part.1;
            output_is = refl;
          };
        };
        sink_sure = λ room has low.
            let first = going.writes.room room has (omega (arith, low, length-append going.replies reply)) in
            let never = (sends.sure (room - length going.replies) first.1 (omega (arith, low, length-append going.replies reply))).0 in
            absurd (let e = never in cc);
      }

  -- the run goes on or ends as the piece says
  pub Going-next : {sink : B} {most : ℕ} {input : List ℕ} {old new : Reading} {old_left : Option (List ℕ)} {V V' : C} {W W' : SpaceView} {piece : List ℕ} {result : Result Went Failed} {ends : Option Status} →
      IsGoing most asked input old old_left K begin sink D first V W →
      StandsIn input new left →
      GivesNext most input old new piece →
      new.taken ≤ most + 1 →
      Replies K sink sink' result (λ (reply : List ℕ). StepsOn piece D W V reply W' V') →
      IfOk result (λ (w : Went). (w ≡ went.Quit) ↔ IsTrue (is_quit piece)) →
      ends ≡ status_of result →
      MatchOption ends (IsGoing most asked input new left K begin sink' D first V' W') (λ (s : Status). Runs most asked input left K begin sink' D first V' s (Some W'))
  Going-next {most = most} {input} {new = new} {V' = V'} {W' = W'} {result = result} going stands next few replies quits e =
      subst (λ (o : Option Status). MatchOption o (IsGoing most asked input new left K begin sink' D first V' W') (λ (s : Status). Runs most asked input left K begin sink' D first V' s (Some W'))) (sym e)
      (by_result result going stands next few replies.due replies.sends quits)

  -- the source came to its end
  pub Going-end : (most : ℕ) {input : List ℕ} {old new : Reading} {old_left : Option (List ℕ)} {V : C} {W : SpaceView} → IsGoing most asked input old old_left K begin sink' D first V W → StandsIn input new left → new.taken ≤ most + 1 → Answers most input old new next.End → Runs most asked input left K begin sink' D first V status.Done (Some W)
  Going-end most {input} {old} {new} {V = V} {W} going stands few all =
      let these : pieces_within most input ≡ pieces_given input old
      = pieces_within-all most input all.1.2 ∙ sym all.1.0 ∙ given_same input old new all.0 in
      ends_there most input new going.replies status.Done V W stands few going.writes (λ e. cc) (record {
        read = inl (ap (λ (n : ℕ). take n input) all.1.1 ∙ take_all (length input) input (omega arith), all.1.2);
        executes = record {
          steps = subst (λ (w : List (List ℕ)). StepsThrough (opening asked.first ++ w) D (start_view asked.bits) first going.replies W V)
              (sym (ap until_quit these ∙ up_to-none is_quit (pieces_given input old) going.goes_on)) going.steps;
          written = refl;
        };
      })

  -- one byte more than the most was taken
  pub Going-budget : (most : ℕ) {input : List ℕ} {old new : Reading} {old_left : Option (List ℕ)} {V : C} {W : SpaceView} → IsGoing most asked input old old_left K begin sink' D first V W → StandsIn input new left → new.taken ≤ most + 1 → Answers most input old new next.Budget → Runs most asked input left K begin sink' D first V status.TooLong (Some W)
  Going-budget most {input} {old} {new} {V = V} {W} going stands few all =
      let these : pieces_given input old ≡ pieces_within most input = sym (given_same input old new all.0) ∙ all.1.0 in
      ends_there most input new going.replies status.TooLong V W stands few going.writes (λ e. cc) (record {
        one_more = length-take-le new.taken input stands.within ∙ all.1.1;
        goes_on = subst (λ (w : List (List ℕ)). HasQuit w → ⊥) these going.goes_on;
        executes = record { steps = subst (λ (w : List (List ℕ)). StepsThrough (opening asked.first ++ w) D (start_view asked.bits) first going.replies W V) these going.steps; written = refl };
      })

  -- the source failed
  pub Going-failed : (most : ℕ) {input : List ℕ} {old new : Reading} {old_left : Option (List ℕ)} {V : C} {W : SpaceView} → IsGoing most asked input old old_left K begin sink' D first V W → StandsIn input new left → new.taken ≤ most → Answers most input old new next.Failed → Runs most asked input left K begin sink' D first V status.ReadFault (Some W)
  Going-failed most {input} {old} {new} {V = V} {W} going stands few all =
      let these : pieces_given input old ≡ ended (take new.taken input) = sym (given_same input old new all.0) ∙ all.1 in
      ends_there most input new going.replies status.ReadFault V W stands (omega (arith, few)) going.writes (λ e. cc) (record {
        few = omega (arith, length-take-le new.taken input stands.within, few);
        goes_on = subst (λ (w : List (List ℕ)). HasQuit w → ⊥) these going.goes_on;
        executes = record { steps = subst (λ (w : List (List ℕ)). StepsThrough (opening asked.first ++ w) D (start_view asked.bits) first going.replies W V) these going.steps; written = refl };
      })

-- no pieces of no bytes
nothing_given : (input : List ℕ) (reader : Reading) → reader.given ≡ 0 → pieces_given input reader ≡ []
unfolding pieces
nothing_given input reader none = ap (λ (n : ℕ). pieces (take n input)) none

-- none of no pieces is to quit
no_quit : HasQuit [] → ⊥
no_quit e = absurd (let never = e in cc)

-- ## The line that loads a document

-- its reply was written whole, where the run goes on
reply_taken : {B : Type 0} {K : sink_trait.Ghosts B} {sink sink' : B} {reply : List ℕ} (result : Result Went Failed) → None ≡ status_of result → Sends K.written K.faults K.steady K.has_room sink sink' result reply → TakesReplies K sink sink' reply
reply_taken (Ok went.On) e sends = TakesReplies-append [] _ TakesReplies-none sends
reply_taken (Ok went.Quit) e sends = absurd (let never = e in cc)
reply_taken (Err fault) e sends = absurd (let never = e in cc)

-- it was executed, if there is one
opened : {B C : Type 0} (K : sink_trait.Ghosts B) (sink sink' : B) (D : store_trait.Ghosts C) (store store' : C) (W W' : SpaceView) (file : Option (List ℕ)) → Opens file K sink sink' D store store' W W' None →
    (replies : List ℕ) × StepsThrough (opening file) D W store replies W' store' × TakesReplies K sink sink' replies
opened {B} K sink sink' D store store' W W' None opens = ([], (refl, opens.3, opens.2), subst (λ (b : B). TakesReplies K sink b []) (sym opens.1) TakesReplies-none)
opened K sink sink' D store store' W W' (Some file) opens = (
  opens.replies.reply,
  (opens.replies.reply, W', store', [], opens.replies.due, (refl, refl, refl), sym (append-nil opens.replies.reply)),
  reply_taken opens.went opens.ends_so opens.replies.sends,
)

-- what the line made of the run
pub OpensFile-by : {B C : Type 0} {K : sink_trait.Ghosts B} {sink sink' : B} {D : store_trait.Ghosts C} {store store' : C} {space space' : SpaceView} {ends : Option Status} (piece file : List ℕ) (result : Result Went Failed) → piece ≡ codes "load " ++ file → ends ≡ status_of result →
    Replies K sink sink' result (λ (reply : List ℕ). StepsOn piece D space store reply space' store') → space'.pool.bits ≡ space.pool.bits → IfOk result (λ (w : Went). (w ≡ went.Quit) ↔ IsTrue (is_quit piece)) → OpensFile file K sink sink' D store store' space space' ends
OpensFile-by {K = K} {sink} {sink'} {D} {store} {store'} {space} {space'} piece file result is e replies bits quits = record {
  went = result;
  ends_so = e;
  goes_on = stays result quits;
  replies = subst (λ (w : List ℕ). Replies K sink sink' result (λ (reply : List ℕ). StepsOn w D space store reply space' store')) is replies;
  bits = bits;
}
  where
    other : IsTrue (is_quit piece) → ⊥
    other test = load-no_quit file (subst (λ (w : List ℕ). IsTrue (is_quit w)) is test)

    stays : (r : Result Went Failed) → IfOk r (λ (w : Went). (w ≡ went.Quit) ↔ IsTrue (is_quit piece)) → IfOk r (λ (w : Went). w ≡ went.On)
    stays (Ok went.On) q = refl
    stays (Ok went.Quit) q = absurd (other (q.0 refl))
    stays (Err f) q = tt

-- a run that has given nothing goes on behind it
pub Going-start : {B C : Type 0} {asked : PlainOptions} {K : sink_trait.Ghosts B} {sink sink' : B} {D : store_trait.Ghosts C} (most : ℕ) {input : List ℕ} {reader : Reading} {left : Option (List ℕ)} {first V : C} {W W' : SpaceView} (file : Option (List ℕ)) → asked.first ≡ file →
    left ≡ Some input → ((all : List ℕ) → StandsIn all reader (Some all)) → reader.given ≡ 0 → W ≡ start_view asked.bits → Opens file K sink sink' D first V W W' None → IsGoing most asked input reader left K sink sink' D first V W'
Going-start {asked = asked} {K} {sink} {sink'} {D} most {input} {reader} {first = first} {V} {W} {W'} file is told stands none empty opens =
    let begun = opened K sink sink' D first V W W' file opens in
    record {
      stands = subst (λ (o : Option (List ℕ)). StandsIn input reader o) (sym told) (stands input);
      later = pieces_within most input;
      in_time = sym (ap (λ (w : List (List ℕ)). w ++ pieces_within most input) (nothing_given input reader none));
      goes_on = subst (λ (w : List (List ℕ)). HasQuit w → ⊥) (sym (nothing_given input reader none)) no_quit;
      replies = begun.0;
      steps = subst (λ (w : List (List ℕ)). StepsThrough (opening asked.first ++ w) D (start_view asked.bits) first begun.0 W' V) (sym (nothing_given input reader none))
          (subst (λ (w : List (List ℕ)). StepsThrough w D (start_view asked.bits) first begun.0 W' V) (sym (append-nil (opening asked.first)))
          (subst (λ (v : SpaceView). StepsThrough (opening asked.first) D v first begun.0 W' V) empty
          (subst (λ (o : Option (List ℕ)). StepsThrough (opening o) D W first begun.0 W' V) (sym is) begun.1)));
      writes = begun.2;
    }

-- a run that ended with it
module _ {B C : Type 0} {asked : PlainOptions} {K : sink_trait.Ghosts B} {sink sink' : B} {D : store_trait.Ghosts C} {first V : C} {W W' : SpaceView} (most : ℕ) {input : List ℕ} {left : Option (List ℕ)}
    (told : left ≡ Some input) (empty : W ≡ start_view asked.bits) where
  cut_at : (file reply : List ℕ) → asked.first ≡ Some file → StepsOn (codes "load " ++ file) D W first reply W' V → (f : Failed) → Sends {A = Went} K.written K.faults K.steady K.has_room sink sink' (Err f) reply →
      Runs most asked input left K sink sink' D first V status.WriteFault (Some W')
  cut_at file reply is step f sends =
      let part = sends.writes in
      record {
        run = record { input = input; taken = []; replies = reply; output = take part.0 reply; status = status.WriteFault; last = Some W'; store = first; store' = V };
        input_is = refl;
        status_is = refl;
        last_is = refl;
        store_is = refl;
        store'_is = refl;
        takes = subst (λ (o : Option (List ℕ)). Consumes (Some input) o []) (sym told) refl;
        few = omega arith;
        writes = part.2;
        says = record {
          before = [];
          piece = codes "load " ++ file;
          later = pieces_within most input;
          in_time = ap (λ (o : Option (List ℕ)). opening o ++ pieces_within most input) is;
          goes_on = no_quit;
          breaks = record {
            full_replies = [];
            mid_space = W;
            mid_store = first;
            steps = (refl, empty, refl);
            reply = reply;
            step = step;
            replies_are = refl;
            count = part.0;
            cut = part.1;
            output_is = refl;
          };
        };
        sink_sure = λ room has low. let never = (sends.sure room has low).0 in absurd (let e = never in cc);
      }

  by_went : (file reply : List ℕ) (s : Status) (result : Result Went Failed) → asked.first ≡ Some file → Some s ≡ status_of result → IfOk result (λ (w : Went). w ≡ went.On) → StepsOn (codes "load " ++ file) D W first reply W' V →
      Sends K.written K.faults K.steady K.has_room sink sink' result reply → Runs most asked input left K sink sink' D first V s (Some W')
  by_went file reply s (Ok went.On) is e on step sends = absurd (let never = e in cc)
  by_went file reply s (Ok went.Quit) is e on step sends = absurd (let never = on in cc)
  by_went file reply s (Err f) is e on step sends =
      let same : status.WriteFault ≡ s = let both = e in cc in
      subst (λ (t : Status). Runs most asked input left K sink sink' D first V t (Some W')) same (cut_at file reply is step f sends)

  pub Opens-ended : (file : Option (List ℕ)) (s : Status) → asked.first ≡ file → Opens file K sink sink' D first V W W' (Some s) → Runs most asked input left K sink sink' D first V s (Some W')
  Opens-ended None s is opens = absurd (let never = opens.0 in cc)
  Opens-ended (Some file) s is opens = by_went file opens.replies.reply s opens.went is opens.ends_so opens.goes_on opens.replies.due opens.replies.sends
