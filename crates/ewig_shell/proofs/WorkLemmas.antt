-- What lines come to that the program makes by itself.
use Rattle.std.proofs.Common.{◌≡◌, ℕ, ◌+◌, Bool, false, zero, suc, List, [], ◌∷◌, ◌++◌, length, sym, ap, ◌∙◌, subst, refl, arith, append_assoc, codes, bytes_eq, count_by, Result, Ok, Err, IsTrue, cond}
use Rattle.std.proofs.Common.{get_or}
use Rattle.std.specs.Prelude.{◌==◌}
use Rattle.std.specs.List.{position_or_len}
use Rattle.std.proofs.lemmas.Bool.{eqb-false}
use Rattle.std.proofs.lemmas.List.{append-nil, get_or_default}
use Rattle.std.proofs.lemmas.List.Sums.{fails_before_first, sum_by-append}
use Rattle.elem_core.specs.declared.TheConstants.{NEWLINE}
use Rattle.shell_terms.specs.Command.{PlainCommand, edit, mark, undo, redo}
use Rattle.shell_terms.specs.Kinds.{only_asks, uses_store}
use Rattle.plain_space.specs.declared.refusal.Refusal.{Refusal}
use Rattle.plain_space.specs.declared.refusal.Refusal.TheVariants as why
use Rattle.plain_space.specs.Answer.{ok_line}
use Rattle.plain_space.specs.Session.{reason_of}
use Rattle.space_state.specs.View.{SpaceView, Ends, start_view}
use Rattle.shell_io.specs.Pieces.{pieces, ended, IsWhole, IsUnbroken}
use Rattle.shell_io.proofs.PiecesLemmas.{pieces-append_line, IsWhole-append_line}
use Rattle.shell_io.specs.declared.device.Sink as sink_trait
use Rattle.shell_io.specs.declared.device.Store as store_trait
use Rattle.work_lines.specs.Lines.{next_number, lines_from, work_lines}
use Rattle.work_lines.specs.Commands.{is_made}
use Rattle.ewig_shell.specs.declared.run.Ended.{Ended}
use Rattle.ewig_shell.specs.declared.work.Tally.{Tally}
use Rattle.plain_space.specs.Workspace.{sizes}
use Rattle.ewig_shell.specs.declared.work.Summary.{Summary}
use Rattle.ewig_shell.specs.Work.{SumsUp, summary, is_refusal, ok_count, refused_count, Works, IsSummary, StepsBeside, ChangesBy, StepsAlone, CountsOne, Counts}
use Rattle.ewig_shell.specs.Step.{StepsOn, done_reply, shown_store, machine_of}
use Rattle.ewig_shell.proofs.ReplyLemmas.{obeys-other}
use Rattle.ewig_shell.proofs.StepLemmas.{Obeys-ends, Step-line, CountsStore-none}

-- ## Beside a store

-- a made line's command asks nothing, and uses no store
made-asks : (command : PlainCommand) → IsTrue (is_made command) → only_asks command ≡ false
made-asks (edit change) e = refl
made-asks (mark version) e = refl
made-asks undo e = refl
made-asks redo e = refl
made-asks _ e = absurd (let never = e in cc)

made-alone : (command : PlainCommand) → IsTrue (is_made command) → uses_store command ≡ false
made-alone (edit change) e = refl
made-alone (mark version) e = refl
made-alone undo e = refl
made-alone redo e = refl
made-alone _ e = absurd (let never = e in cc)

module _ {C : Type 0} (D : store_trait.Ghosts C) (store : C) where
  -- a line that changes a space leaves the store beside it
  step-beside : (line : List ℕ) (old : SpaceView) (reply : List ℕ) (new : SpaceView) → ChangesBy line old reply new → StepsOn line D old store reply new store
  step-beside line old reply new changes =
      let alone = made-alone changes.command changes.line_is.made in
      let obeys = Obeys-ends changes.command changes.done (made-asks changes.command changes.line_is.made) changes.ends (shown_store D store) in
      subst (λ (w : List ℕ). StepsOn line D old store w new store) (sym changes.reply_is) (record {
        step = Step-line (machine_of D old store) (machine_of D new store) line (done_reply changes.done) (Ok changes.command) changes.line_is.cell.short (sym changes.line_is.means) obeys;
        counts = CountsStore-none (obeys-other changes.command (machine_of D old store) (machine_of D new store) (done_reply changes.done) alone obeys);
      })

  steps-beside : (lines : List (List ℕ)) (old : SpaceView) (replies : List ℕ) (new : SpaceView) → StepsAlone lines old replies new → StepsBeside D store lines old replies new
  steps-beside [] old replies new h = (h.0, h.1, refl)
  steps-beside (line ∷ rest) old replies new h = (h.0, h.1, store, h.2, step-beside line old h.0 h.1 h.3, steps-beside rest h.1 h.2 new h.4, h.5)

  pub Works-beside : {B : Type 0} {bits seed count : ℕ} {K : sink_trait.Ghosts B} {sink sink' : B} {ended : Ended} → Works bits seed count StepsAlone K sink sink' ended → Works bits seed count (StepsBeside D store) K sink sink' ended
  Works-beside works =
      let due = works.replies.due in
      record {
        sent = works.sent;
        status_is = works.status_is;
        last = works.last;
        last_is = works.last_is;
        replies = record {
          reply = works.replies.reply;
          due = record { replies = due.replies; steps = steps-beside _ _ due.replies works.last due.steps; work = due.work; stands = due.stands; bytes_are = due.bytes_are };
          sends = works.replies.sends;
        };
      }

-- ## Bits

bits-ends : {command : PlainCommand} {old new : SpaceView} (done : Result (Unit {0}) Refusal) → Ends command old done new → new.pool.bits ≡ old.pool.bits
bits-ends (Ok x) ends = ends.ends.bits
bits-ends (Err reason) ends = ap (λ (s : SpaceView). s.pool.bits) ends.ends.same

pub bits-alone : (lines : List (List ℕ)) (old : SpaceView) (replies : List ℕ) (new : SpaceView) → StepsAlone lines old replies new → new.pool.bits ≡ old.pool.bits
bits-alone [] old replies new h = ap (λ (s : SpaceView). s.pool.bits) h.1
bits-alone (line ∷ rest) old replies new h = bits-alone rest h.1 h.2 new h.4 ∙ bits-ends h.3.done h.3.ends

-- ## Counts

-- one line more
alone-append : (lines : List (List ℕ)) (old : SpaceView) (replies : List ℕ) (mid : SpaceView) (line reply : List ℕ) (new : SpaceView) → StepsAlone lines old replies mid → ChangesBy line mid reply new → StepsAlone (lines ++ line ∷ []) old (replies ++ reply) new
alone-append [] old replies mid line reply new h changes = (
  reply,
  new,
  [],
  subst (λ (w : SpaceView). ChangesBy line w reply new) h.1 changes,
  (refl, refl),
  ap (λ (w : List ℕ). w ++ reply) h.0 ∙ sym (append-nil reply),
)
alone-append (x ∷ xs) old replies mid line reply new h changes =
    (h.0, h.1, h.2 ++ reply, h.3, alone-append xs h.1 h.2 mid line reply new h.4 changes, ap (λ (w : List ℕ). w ++ reply) h.5 ∙ append_assoc h.0 h.2 reply)

-- the reply line of a command that changes a space
abbrev done_line : Result (Unit {0}) Refusal → List ℕ
done_line (Ok done) = ok_line
done_line (Err reason) = codes "! " ++ reason_of reason

done_is : (done : Result (Unit {0}) Refusal) → done_reply done ≡ done_line done ++ NEWLINE ∷ []
done_is (Ok done) = append-nil _
done_is (Err reason) = append-nil _

-- bytes of which none is the first newline have none
none_first : (xs : List ℕ) → position_or_len (λ byte. byte == NEWLINE) xs ≡ length xs → IsUnbroken xs
none_first xs is = λ (k, h, e).
    eqb-false (get_or xs k 0) NEWLINE (fails_before_first (λ byte. byte == NEWLINE) xs k 0 (omega (arith, is, h)))
    (get_or_default xs k 0 NEWLINE h ∙ e)

done-unbroken : (done : Result (Unit {0}) Refusal) → IsUnbroken (done_line done)
done-unbroken (Ok done) = none_first ok_line refl
done-unbroken (Err why.Absent) = none_first (codes "! none") refl
done-unbroken (Err why.Exists) = none_first (codes "! exists") refl
done-unbroken (Err why.Range) = none_first (codes "! range") refl
done-unbroken (Err why.Limit) = none_first (codes "! limit") refl
done-unbroken (Err why.Batch) = none_first (codes "! batch") refl
done-unbroken (Err why.Empty) = none_first (codes "! empty") refl
done-unbroken (Err why.Memory) = none_first (codes "! memory") refl

-- what a test counts of one more reply line
one-counted : (test : List ℕ → Bool) (replies reply line : List ℕ) → IsWhole replies → IsUnbroken line → reply ≡ line ++ NEWLINE ∷ [] → count_by test (pieces (replies ++ reply)) ≡ count_by test (pieces replies) + count_by test (line ∷ [])
one-counted test replies reply line whole unbroken is =
    ap (λ (w : List ℕ). count_by test (pieces (replies ++ w))) is
    ∙ ap (count_by test) (pieces-append_line replies line whole unbroken)
    ∙ sum_by-append (λ (l : List ℕ). cond (test l) 1 0) (pieces replies) (line ∷ [])

refused_line : (reason : Refusal) → (count_by (λ (l : List ℕ). bytes_eq l ok_line) ((codes "! " ++ reason_of reason) ∷ []) ≡ 0) × (count_by is_refusal ((codes "! " ++ reason_of reason) ∷ []) ≡ 1)
refused_line why.Absent = (refl, refl)
refused_line why.Exists = (refl, refl)
refused_line why.Range = (refl, refl)
refused_line why.Limit = (refl, refl)
refused_line why.Batch = (refl, refl)
refused_line why.Empty = (refl, refl)
refused_line why.Memory = (refl, refl)

module _ {lines : List (List ℕ)} {line : List ℕ} {old mid new : SpaceView} {tally tally' : Tally} (before : Counts lines old tally mid) where
  counts-more : (done : Result (Unit {0}) Refusal) (change : ChangesBy line mid (done_reply done) new) →
      tally'.ok ≡ tally.ok + count_by (λ (l : List ℕ). bytes_eq l ok_line) (done_line done ∷ []) → tally'.refused ≡ tally.refused + count_by is_refusal (done_line done ∷ []) → Counts (lines ++ line ∷ []) old tally' new
  counts-more done change ok refused = record {
    replies = before.replies ++ done_reply done;
    steps = alone-append lines old before.replies mid line (done_reply done) new before.steps change;
    ended = subst (λ (w : List ℕ). IsWhole (before.replies ++ w)) (sym (done_is done)) (IsWhole-append_line before.replies (done_line done) before.ended (done-unbroken done));
    ok = ok ∙ ap (λ (n : ℕ). n + count_by (λ (l : List ℕ). bytes_eq l ok_line) (done_line done ∷ [])) before.ok
        ∙ sym (one-counted (λ (l : List ℕ). bytes_eq l ok_line) before.replies (done_reply done) (done_line done) before.ended (done-unbroken done) (done_is done));
    refused = refused ∙ ap (λ (n : ℕ). n + count_by is_refusal (done_line done ∷ [])) before.refused
        ∙ sym (one-counted is_refusal before.replies (done_reply done) (done_line done) before.ended (done-unbroken done) (done_is done));
  }

  -- one more
  pub Counts-then : (done : Result (Unit {0}) Refusal) → ChangesBy line mid (done_reply done) new → CountsOne tally done tally' → Counts (lines ++ line ∷ []) old tally' new
  Counts-then (Ok x) change one = counts-more (Ok x) change one.0 (one.1 ∙ omega arith)
  Counts-then (Err reason) change one =
      let counted = refused_line reason in
      counts-more (Err reason) change (one.0 ∙ omega (arith, counted.0)) (one.1 ∙ ap (λ (n : ℕ). tally.refused + n) (sym counted.1))

-- in all
pub one-more : (old new : Tally) (done : Result (Unit {0}) Refusal) → CountsOne old done new → new.ok + new.refused ≡ old.ok + old.refused + 1
one-more old new (Ok x) one = omega (arith, one.0, one.1)
one-more old new (Err reason) one = omega (arith, one.0, one.1)

-- ## How many lines there are

length-lines_from : (count x : ℕ) → length (lines_from count x) ≡ count
unfolding lines_from
length-lines_from zero x = refl
length-lines_from (suc count) x = ap suc (length-lines_from count (next_number x))

pub length-work_lines : (seed count : ℕ) → length (work_lines seed count) ≡ 8 + count
unfolding work_lines
length-work_lines seed count = omega (arith, length-lines_from count seed)

-- no line was executed yet
pub Counts-none : {space : SpaceView} {tally : Tally} → tally.ok ≡ 0 → tally.refused ≡ 0 → Counts [] space tally space
unfolding pieces ended
Counts-none ok refused = record { replies = []; steps = (refl, refl); ended = refl; ok = ok; refused = refused }

-- the next of the lines to come
pub next_line : (done left new all : List (List ℕ)) (line : List ℕ) → done ++ left ≡ all → left ≡ line ∷ new → (done ++ line ∷ []) ++ new ≡ all
next_line done left new all line others e = append_assoc done (line ∷ []) new ∙ ap (λ (w : List (List ℕ)). done ++ w) (sym e) ∙ others

-- ## The summary

pub SumsUp-due : {bits seed count : ℕ} {old new : SpaceView} {s : Summary} → old ≡ start_view bits → SumsUp seed count old s new → IsSummary bits seed count StepsAlone new (summary s.commands s.ok s.refused s.buffers s.lines)
SumsUp-due {seed = seed} {count} {new = new} {s} start sums = record {
  replies = sums.replies;
  steps = subst (λ (w : SpaceView). StepsAlone (work_lines seed count) w sums.replies new) start sums.steps;
  work = sums.work;
  stands = sums.stands;
  bytes_are =
      ap (λ (n : ℕ). summary n s.ok s.refused s.buffers s.lines) sums.commands
      ∙ ap (λ (n : ℕ). summary (8 + count) n s.refused s.buffers s.lines) sums.ok
      ∙ ap (λ (n : ℕ). summary (8 + count) (ok_count sums.replies) n s.buffers s.lines) sums.refused
      ∙ ap (λ (n : ℕ). summary (8 + count) (ok_count sums.replies) (refused_count sums.replies) n s.lines) sums.buffers
      ∙ ap (λ (n : ℕ). summary (8 + count) (ok_count sums.replies) (refused_count sums.replies) (length (sizes sums.work.current)) n) sums.lines;
}
