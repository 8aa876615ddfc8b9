-- What was executed and written, whatever the source tells.
use Rattle.std.proofs.Common.{◌≡◌, ◌≢◌, ℕ, ◌+◌, ◌<◌, List, [], ◌∷◌, ◌++◌, length, take, replicate, codes, sym, ap, ◌∙◌, subst, refl, arith, None, Some, Ok, Err}
use Rattle.std.proofs.lemmas.List.{length-replicate}
use Rattle.std.proofs.KnownBytes.{Appends-nil, Appends-trans}
use Rattle.std.specs.declared.option.Option.{Option}
use Rattle.std.specs.declared.result.Result.{Result}
use Rattle.std.specs.Io.KnownBytes.{Appends}
use Rattle.shell_io.specs.Sending.{Sends}
use Rattle.shell_io.specs.declared.device.Failed.{Failed}
use Rattle.shell_io.specs.declared.device.Sink as sink_trait
use Rattle.shell_io.specs.declared.device.Store as store_trait
use Rattle.shell_options.specs.Options.{PlainOptions}
use Rattle.space_state.specs.View.{SpaceView, start_view}
use Rattle.ewig_shell.specs.declared.execute.Went.{Went}
use Rattle.ewig_shell.specs.declared.execute.Went.TheVariants as went
use Rattle.ewig_shell.specs.declared.run.Status.{Status}
use Rattle.ewig_shell.specs.declared.run.Status.TheVariants as status
use Rattle.ewig_shell.specs.Step.{StepsOn, StepsThrough, refusal_of}
use Rattle.ewig_shell.specs.Sending.{Replies}
use Rattle.ewig_shell.specs.Run.{HasAnswered, opening}
use Rattle.ewig_shell.specs.Going.{Opens, status_of}
use Rattle.elem_core.specs.declared.TheConstants.{MAX_LINE}
use Rattle.ewig_shell.proofs.StepLemmas.{StepsOn-long}
use Rattle.ewig_shell.proofs.RunLemmas.{StepsThrough-append, behind}

-- one step more behind those before
one_more : {C : Type 0} {D : store_trait.Ghosts C} (all before : List (List ℕ)) (piece : List ℕ) (W0 : SpaceView) (V0 : C) (replies reply : List ℕ) (W W' : SpaceView) (V V' : C) → all ≡ before ++ piece ∷ [] →
    StepsThrough before D W0 V0 replies W V → StepsOn piece D W V reply W' V' → StepsThrough all D W0 V0 (replies ++ reply) W' V'
one_more {D = D} all before piece W0 V0 replies reply W W' V V' is steps step =
    subst (λ (w : List (List ℕ)). StepsThrough w D W0 V0 (replies ++ reply) W' V') (sym is) (StepsThrough-append W0 V0 before replies W V piece reply W' V' steps step)

module _ {B C : Type 0} {asked : PlainOptions} {K : sink_trait.Ghosts B} {begin : B} {D : store_trait.Ghosts C} {first : C} where
  -- the replies so far are written
  written_all : {sink : B} {V : C} {W : SpaceView} (so_far : HasAnswered asked K begin sink D first V W None) → Appends (K.written begin) (K.written sink) so_far.replies
  written_all {sink} so_far = subst (λ (w : List ℕ). Appends (K.written begin) (K.written sink) w) (so_far.whole (λ e. cc)) so_far.writes

  -- one piece more was executed behind those before, and its reply written, or not all of it
  module _ {sink sink' : B} {V V' : C} {W W' : SpaceView} (pieces before : List (List ℕ)) (piece replies reply : List ℕ) (is : opening asked.first ++ pieces ≡ before ++ piece ∷ [])
      (steps : StepsThrough before D (start_view asked.bits) first replies W V) (step : StepsOn piece D W V reply W' V') (so_far : Appends (K.written begin) (K.written sink) replies) where
    -- the run goes on or ends
    answered_more : {w : Went} (ends : Option Status) → ends ≢ Some status.WriteFault → Sends K.written K.faults K.steady K.has_room sink sink' (Ok w) reply → HasAnswered asked K begin sink' D first V' W' ends
    answered_more ends other sends = record {
      pieces = pieces;
      replies = replies ++ reply;
      steps = one_more (opening asked.first ++ pieces) before piece (start_view asked.bits) first replies reply W W' V V' is steps step;
      output = replies ++ reply;
      writes = Appends-trans _ _ _ replies reply so_far sends.writes;
      whole = λ _. refl;
      cut = λ e. absurd (other e);
    }

    -- or the sink failed
    pub written : (result : Result Went Failed) → Sends K.written K.faults K.steady K.has_room sink sink' result reply → HasAnswered asked K begin sink' D first V' W' (status_of result)
    written (Ok went.On) sends = answered_more None (λ e. cc) sends
    written (Ok went.Quit) sends = answered_more (Some status.Done) (λ e. cc) sends
    written (Err f) sends =
        let part = sends.writes in
        record {
          pieces = pieces;
          replies = replies ++ reply;
          steps = one_more (opening asked.first ++ pieces) before piece (start_view asked.bits) first replies reply W W' V V' is steps step;
          output = replies ++ take part.0 reply;
          writes = Appends-trans _ _ _ replies (take part.0 reply) so_far part.2;
          whole = λ other. absurd (other refl);
          cut = λ _. (
            before,
            piece,
            is,
            record {
              full_replies = replies;
              mid_space = W;
              mid_store = V;
              steps = steps;
              reply = reply;
              step = step;
              replies_are = refl;
              count = part.0;
              cut = part.1;
              output_is = refl;
            },
          );
        }

  -- one piece more was executed
  pub Answered-next : {sink sink' : B} {V V' : C} {W W' : SpaceView} {piece : List ℕ} {result : Result Went Failed} {ends : Option Status} →
      HasAnswered asked K begin sink D first V W None → Replies K sink sink' result (λ (reply : List ℕ). StepsOn piece D W V reply W' V') → ends ≡ status_of result → HasAnswered asked K begin sink' D first V' W' ends
  Answered-next {sink' = sink'} {V} {V'} {W} {W'} {piece} {result} so_far replies e =
      subst (λ (o : Option Status). HasAnswered asked K begin sink' D first V' W' o) (sym e)
      (written (so_far.pieces ++ piece ∷ []) (opening asked.first ++ so_far.pieces) piece so_far.replies replies.reply
      (sym (behind (opening asked.first) so_far.pieces (so_far.pieces ++ piece ∷ []) piece refl)) so_far.steps replies.due
      (written_all so_far) result replies.sends)

  -- one that is too long, whatever it is
  pub Answered-long : {sink sink' : B} {V : C} {W : SpaceView} {result : Result Went Failed} {ends : Option Status} →
      HasAnswered asked K begin sink D first V W None → Sends K.written K.faults K.steady K.has_room sink sink' result (refusal_of (codes "long")) → ends ≡ status_of result → HasAnswered asked K begin sink' D first V W ends
  Answered-long so_far sends e = Answered-next so_far (record { reply = _; due = StepsOn-long piece long; sends = sends }) e
    where
      piece : List ℕ
      piece = replicate (MAX_LINE + 1) 0

      long : MAX_LINE < length piece
      long = let n : length piece ≡ MAX_LINE + 1 = length-replicate {A = ℕ} (MAX_LINE + 1) 0 in omega (arith, n)

  -- the run ends without one
  pub Answered-end : {sink : B} {V : C} {W : SpaceView} (ends : Status) → ends ≢ status.WriteFault → HasAnswered asked K begin sink D first V W None → HasAnswered asked K begin sink D first V W (Some ends)
  Answered-end ends other so_far = record {
    pieces = so_far.pieces;
    replies = so_far.replies;
    steps = so_far.steps;
    output = so_far.output;
    writes = so_far.writes;
    whole = λ _. so_far.whole (λ e. cc);
    cut = λ e. absurd (other (let same = e in cc));
  }

  -- the line that loads a document was executed, if there is one
  pub Answered-opens : {sink' : B} {V : C} {W W' : SpaceView} {ends : Option Status} (file : Option (List ℕ)) → asked.first ≡ file → W ≡ start_view asked.bits → Opens file K begin sink' D first V W W' ends → HasAnswered asked K begin sink' D first V W' ends
  Answered-opens {sink'} {V} {W} {W'} {ends} None is empty opens = record {
    pieces = [];
    replies = [];
    steps = subst (λ (o : Option (List ℕ)). StepsThrough (opening o ++ []) D (start_view asked.bits) first [] W' V) (sym is) (refl, opens.3 ∙ empty, opens.2);
    output = [];
    writes = subst (λ (b : B). Appends (K.written begin) (K.written b) []) (sym opens.1) (Appends-nil (K.written begin));
    whole = λ _. refl;
    cut = λ e. absurd (let both = sym opens.0 ∙ e in cc);
  }
  Answered-opens {sink'} {V} {W} {W'} {ends} (Some file) is empty opens =
      let load : List ℕ = codes "load " ++ file in
      let step = subst (λ (v : SpaceView). StepsOn load D v first opens.replies.reply W' V) empty opens.replies.due in
      subst (λ (o : Option Status). HasAnswered asked K begin sink' D first V W' o) (sym opens.ends_so)
      (written [] [] load [] opens.replies.reply (ap (λ (o : Option (List ℕ)). opening o ++ []) is) (refl, refl, refl) step
      (Appends-nil (K.written begin)) opens.went opens.replies.sends)
