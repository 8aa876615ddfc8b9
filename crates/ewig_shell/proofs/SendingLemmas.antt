-- Replies sent one after another, and parts of them.
use Rattle.std.proofs.Common.{◌≡◌, ℕ, ◌+◌, ◌-◌, ◌≤◌, List, [], ◌++◌, length, take, sym, ap, ◌∙◌, subst, refl, arith, append_assoc, length-append, Ok, Err, IsErr, OnOk, OnErr}
use Rattle.std.proofs.lemmas.List.{take-append-le, append-nil}
use Rattle.std.proofs.Math.Seq.{take-append-add}
use Rattle.std.proofs.KnownBytes.{Appends-nil, Appends-trans}
use Rattle.std.specs.declared.option.Option.{Option}
use Rattle.std.specs.declared.result.Result.{Result}
use Rattle.std.specs.Io.KnownBytes.{Appends}
use Rattle.shell_io.specs.Sending.{Sends, WritesPart}
use Rattle.shell_io.specs.declared.device.Failed.{Failed}
use Rattle.shell_io.proofs.FaultLemmas.{CountsFaults-none, CountsFaults-then, CountsFaults-as}
use Rattle.shell_io.specs.declared.device.Sink as sink_trait
use Rattle.ewig_shell.specs.Sending.{sent_then, Puts}
use Rattle.ewig_shell.specs.declared.execute.Went.{Went}

-- a part of the second piece is a part of the two
WritesPart-append : (before mid now : Option (List ℕ)) (a b : List ℕ) → Appends before mid a → WritesPart mid now b → WritesPart before now (a ++ b)
WritesPart-append before mid now a b p q = (
  length a + q.0,
  omega (arith, q.1, length-append a b),
  subst (λ (w : List ℕ). Appends before now w) (sym (take-append-add a b q.0)) (Appends-trans before mid now a (take q.0 b) p q.2),
)

-- a part of the first piece is a part of the two
WritesPart-more : (before now : Option (List ℕ)) (a b : List ℕ) → WritesPart before now a → WritesPart before now (a ++ b)
WritesPart-more before now a b q =
    let low : q.0 ≤ length a = omega (arith, q.1) in (
      q.0,
      omega (arith, q.1, length-append a b),
      subst (λ (w : List ℕ). Appends before now w) (sym (take-append-le q.0 a b low)) q.2,
    )

module _ {K : Type 0} {written : K → Option (List ℕ)} {faults : K → ℕ} {steady : K → Type 0} {has_room : K → ℕ → Type 0} where
  -- a piece was sent whole, and then another
  pub Sends-append : {A B : Type 0} {old mid new : K} {x : A} (result : Result B Failed) (a b : List ℕ) → Sends written faults steady has_room old mid (Ok x) a → Sends written faults steady has_room mid new result b → Sends written faults steady has_room old new result (a ++ b)
  Sends-append {new = new} (Ok y) a b p q = record {
    writes = Appends-trans _ _ _ a b p.writes q.writes;
    counts = CountsFaults-then p.counts (λ h. cc) q.counts;
    sure = λ room fits low.
        let first = p.sure room fits (omega (arith, low, length-append a b)) in
        let second = q.sure (room - length a) first.2 (omega (arith, low, length-append a b)) in
        (refl, second.1 ∙ first.1, subst (λ (n : ℕ). has_room new n) (omega (arith, low, length-append a b)) second.2);
  }
  Sends-append (Err f) a b p q = record {
    writes = WritesPart-append _ _ _ a b p.writes q.writes;
    counts = CountsFaults-then p.counts (λ h. cc) q.counts;
    sure = λ room fits low.
        let first = p.sure room fits (omega (arith, low, length-append a b)) in
        let never = (q.sure (room - length a) first.2 (omega (arith, low, length-append a b))).0 in
        cc;
  }

  -- a piece of which a part was sent, with more that would have come, whatever the call would have answered
  pub Sends-cut : {A B : Type 0} {old new : K} {f : Failed} (result : Result B Failed) (a b : List ℕ) → IsErr result → Sends {A = A} written faults steady has_room old new (Err f) a → Sends written faults steady has_room old new result (a ++ b)
  Sends-cut (Ok x) a b h p = cc
  Sends-cut (Err g) a b h p = record {
    writes = WritesPart-more _ _ a b p.writes;
    counts = CountsFaults-as p.counts (λ _. refl) (λ _. refl);
    sure = λ room fits low. let never = (p.sure room fits (omega (arith, low, length-append a b))).0 in cc;
  }

  -- what was sent in part was, whatever the call would have answered
  pub Sends-err : {A B : Type 0} {old new : K} {f : Failed} (result : Result B Failed) {a : List ℕ} → IsErr result → Sends {A = A} written faults steady has_room old new (Err f) a → Sends written faults steady has_room old new result a
  Sends-err (Ok x) h p = cc
  Sends-err (Err g) h p = record {
    writes = p.writes;
    counts = CountsFaults-as p.counts (λ _. refl) (λ _. refl);
    sure = λ room fits low. let never = (p.sure room fits low).0 in cc;
  }

  -- what was sent, or not, was, however the run goes on
  sends_then : {old new : K} (sent : Result (Unit {0}) Failed) (went : Went) {a : List ℕ} → Sends written faults steady has_room old new sent a → Sends written faults steady has_room old new (sent_then sent went) a
  sends_then (Ok x) went p = record { writes = p.writes; counts = CountsFaults-as p.counts (λ h. h) (λ h. h); sure = p.sure }
  sends_then (Err f) went p = record { writes = p.writes; counts = p.counts; sure = p.sure }

  -- a reply was sent, and then the run goes on so
  pub Sends-then : {old new : K} (sent : Result (Unit {0}) Failed) (went : Went) {result : Result Went Failed} {a : List ℕ} → result ≡ sent_then sent went → Sends written faults steady has_room old new sent a → Sends written faults steady has_room old new result a
  Sends-then {old = old} {new} sent went {result} {a} e p =
      subst (λ (r : Result Went Failed). Sends written faults steady has_room old new r a) (sym e) (sends_then sent went p)

  -- the same piece
  pub Sends-as : {A : Type 0} {old new : K} {result : Result A Failed} {a b : List ℕ} → a ≡ b → Sends written faults steady has_room old new result a → Sends written faults steady has_room old new result b
  Sends-as {old = old} {new} {result} e p = subst (λ (w : List ℕ). Sends written faults steady has_room old new result w) e p

  -- nothing was sent
  pub Sends-none : {A : Type 0} {at : K} {x : A} → Sends written faults steady has_room at at (Ok x) []
  Sends-none {at = at} = record {
    writes = Appends-nil (written at);
    counts = CountsFaults-as CountsFaults-none (λ q. absurd q) (λ h. cc);
    sure = λ room fits low. (refl, refl, subst (λ (n : ℕ). has_room at n) (omega arith) fits);
  }

-- what is said of an Ok says nothing of an Err
pub OnOk-err : {A : Type 0} (result : Result A Failed) (P : Type 0) → IsErr result → OnOk result P
OnOk-err (Ok x) P h = absurd (let never = h in cc)
OnOk-err (Err f) P h = tt

-- what holds is said of an Err too
pub OnErr-holds : {A : Type 0} (result : Result A Failed) (P : Type 0) → P → OnErr result P
OnErr-holds (Ok x) P p = tt
OnErr-holds (Err f) P p = p

-- what holds is said of an Ok too
pub OnOk-holds : {A : Type 0} (result : Result A Failed) (P : Type 0) → P → OnOk result P
OnOk-holds (Ok x) P p = p
OnOk-holds (Err f) P p = tt

module _ {B : Type 0} {K : sink_trait.Ghosts B} where
  -- the same bytes
  pub Puts-as : {s s' : B} {p p' bytes bytes' : List ℕ} {r : Result (Unit {0}) Failed} → bytes ≡ bytes' → Puts K s p s' p' r bytes → Puts K s p s' p' r bytes'
  Puts-as {s = s} {s'} {p} {p'} {r = r} e put = subst (λ (w : List ℕ). Puts K s p s' p' r w) e put

  -- no bytes were put
  pub Puts-none : {s : B} {p : List ℕ} → Puts K s p s p (Ok tt) []
  Puts-none {p = p} = record { sent = []; kept = p; parts = sym (append-nil p); page_is = refl; sends = Sends-none }

  -- the page has them all
  pub Puts-kept : {s : B} {p p' bytes : List ℕ} {x : Unit {0}} → p' ≡ p ++ bytes → Puts K s p s p' (Ok x) bytes
  Puts-kept {p' = p'} e = record { sent = []; kept = p'; parts = e; page_is = refl; sends = Sends-none }

  -- what the page had was sent in part
  pub Puts-fails : {s s' : B} {p p' bytes : List ℕ} {x : Failed} {r : Result (Unit {0}) Failed} → IsErr r → Sends {A = Unit {0}} K.written K.faults K.steady K.has_room s s' (Err x) p → Puts K s p s' p' r bytes
  Puts-fails {p = p} {p'} {bytes} {r = r} h sends = record { sent = p; kept = bytes; parts = refl; page_is = OnOk-err r (p' ≡ bytes) h; sends = Sends-err r h sends }

  -- what the page had was sent, and it has the bytes
  pub Puts-turned : {s s' : B} {p none p' bytes : List ℕ} {x y : Unit {0}} → Sends {A = Unit {0}} K.written K.faults K.steady K.has_room s s' (Ok x) p → none ≡ [] → p' ≡ none ++ bytes → Puts K s p s' p' (Ok y) bytes
  Puts-turned {p = p} {bytes = bytes} sends empty e = record { sent = p; kept = bytes; parts = refl; page_is = e ∙ ap (λ (w : List ℕ). w ++ bytes) empty; sends = record { writes = sends.writes; counts = CountsFaults-as sends.counts (λ h. h) (λ h. h); sure = sends.sure } }

  -- what the page had was sent, and then the bytes
  pub Puts-through : {s m s' : B} {p p' bytes : List ℕ} {x : Unit {0}} (r : Result (Unit {0}) Failed) → Sends {A = Unit {0}} K.written K.faults K.steady K.has_room s m (Ok x) p → p' ≡ [] → Sends K.written K.faults K.steady K.has_room m s' r bytes → Puts K s p s' p' r bytes
  Puts-through {p = p} {p'} {bytes} r sends empty more = record { sent = p ++ bytes; kept = []; parts = append-nil (p ++ bytes); page_is = OnOk-holds r (p' ≡ []) empty; sends = Sends-append r p bytes sends more }

  -- bytes were put, and then others
  pub Puts-then : {s m s' : B} {p q p' a b : List ℕ} {x : Unit {0}} {r : Result (Unit {0}) Failed} → Puts K s p m q (Ok x) a → Puts K m q s' p' r b → Puts K s p s' p' r (a ++ b)
  Puts-then {p = p} {q} {a = a} {b} {r = r} first second = record {
    sent = first.sent ++ second.sent;
    kept = second.kept;
    parts = append_assoc first.sent second.sent second.kept ∙ ap (λ (w : List ℕ). first.sent ++ w) second.parts ∙ sym (append_assoc first.sent q b) ∙ ap (λ (w : List ℕ). w ++ b) (ap (λ (w : List ℕ). first.sent ++ w) first.page_is ∙ first.parts) ∙ append_assoc p a b;
    page_is = second.page_is;
    sends = Sends-append r first.sent second.sent first.sends second.sends;
  }

  -- bytes were put in part, and no others
  pub Puts-cut : {s s' : B} {p q p' a : List ℕ} (b : List ℕ) {x : Failed} {r : Result (Unit {0}) Failed} → IsErr r → Puts K s p s' q (Err x) a → Puts K s p s' p' r (a ++ b)
  Puts-cut {p = p} {p' = p'} {a} b {r = r} h put = record {
    sent = put.sent;
    kept = put.kept ++ b;
    parts = sym (append_assoc put.sent put.kept b) ∙ ap (λ (w : List ℕ). w ++ b) put.parts ∙ append_assoc p a b;
    page_is = OnOk-err r (p' ≡ put.kept ++ b) h;
    sends = Sends-err r h put.sends;
  }

  -- the same, for what comes behind those others
  pub Puts-more : {s s' : B} {p q a : List ℕ} (b : List ℕ) {x : Failed} → Puts K s p s' q (Err x) a → Puts K s p s' q (Err x) (a ++ b)
  Puts-more b put = Puts-cut b refl put

  -- bytes were put on an empty page, and then it was sent
  pub Puts-ends : {s m s' : B} {p q a : List ℕ} {x : Unit {0}} {r : Result (Unit {0}) Failed} → p ≡ [] → Puts K s p m q (Ok x) a → Sends K.written K.faults K.steady K.has_room m s' r q → Sends K.written K.faults K.steady K.has_room s s' r a
  Puts-ends {s = s} {s' = s'} {p} {q} {a} {r = r} empty put sends =
      subst (λ (w : List ℕ). Sends K.written K.faults K.steady K.has_room s s' r w)
      (ap (λ (w : List ℕ). put.sent ++ w) put.page_is ∙ put.parts ∙ ap (λ (w : List ℕ). w ++ a) empty)
      (Sends-append r put.sent q put.sends sends)

  -- bytes were put on an empty page in part
  pub Puts-failed : {s s' : B} {p q a : List ℕ} {x : Failed} {r : Result (Unit {0}) Failed} → IsErr r → p ≡ [] → Puts K s p s' q (Err x) a → Sends K.written K.faults K.steady K.has_room s s' r a
  Puts-failed {s = s} {s'} {p} {a = a} {r = r} h empty put =
      subst (λ (w : List ℕ). Sends K.written K.faults K.steady K.has_room s s' r w) (put.parts ∙ ap (λ (w : List ℕ). w ++ a) empty)
      (Sends-cut r put.sent put.kept h put.sends)
