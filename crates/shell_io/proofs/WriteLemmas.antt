-- Known bytes that grow by one piece after another.
use Rattle.std.proofs.Common.{◌≡◌, ℕ, List, [], ◌++◌, None, Some, sym, ap, ◌∙◌, append_assoc, append-nil, Ok, Err, ◌+◌, ◌-◌, ◌<◌, ◌≤◌, length, take, refl, subst, arith, length-append}
use Rattle.std.proofs.lemmas.List.{take_at}
use Rattle.std.specs.declared.option.Option.{Option}
use Rattle.std.specs.declared.result.Result.{Result}
use Rattle.std.specs.Prelude.{IsErr}
use Rattle.shell_io.specs.declared.device.Failed.{Failed}
use Rattle.shell_io.specs.Fault.{CountsFaults}
use Rattle.shell_io.specs.Sending.{Sends}
use Rattle.std.specs.Io.KnownBytes.{Appends, Keeps}

pub Appends-then : (a b c : Option (List ℕ)) (xs ys : List ℕ) → Appends a b xs → Appends b c ys → Appends a c (xs ++ ys)
Appends-then None b c xs ys h k = tt
Appends-then (Some as_was) None c xs ys h k = absurd h
Appends-then (Some as_was) (Some then_is) None xs ys h k = absurd k
Appends-then (Some as_was) (Some then_is) (Some now_is) xs ys h k = k ∙ ap (λ zs. zs ++ ys) h ∙ append_assoc as_was xs ys

pub Appends-kept : (a b c : Option (List ℕ)) (xs : List ℕ) → Appends a b xs → Keeps b c → Appends a c xs
Appends-kept None b c xs h k = tt
Appends-kept (Some as_was) None c xs h k = absurd h
Appends-kept (Some as_was) (Some then_is) None xs h k = absurd k
Appends-kept (Some as_was) (Some then_is) (Some now_is) xs h k = k ∙ h

-- a write of none
pub Appends-none : (a b c : Option (List ℕ)) (done rest : List ℕ) (n : ℕ) → Appends a b done → n ≡ 0 → Appends b c (take n rest) → Appends a c done
Appends-none a b c done rest n h none k =
    let P : ℕ → Type 0 = λ m. Appends b c (take m rest) in
    subst (λ xs. Appends a c xs) (append-nil done) (Appends-then a b c done [] h (subst P none k))

-- what was written is the front of a piece of which some is left
stops_within : (piece done rest : List ℕ) (a b : Option (List ℕ)) → piece ≡ done ++ rest → 0 < length rest → Appends a b done →
    (n : ℕ) × (n < length piece) × Appends a b (take n piece)
stops_within piece done rest a b whole some written =
    let lengths : length piece ≡ length done + length rest = ap length whole ∙ length-append done rest in
    let front : take (length done) piece ≡ done = ap (take (length done)) whole ∙ take_at done rest (length done) refl in
    (length done, omega arith, subst (λ xs. Appends a b xs) (sym front) written)

-- the same of a call that failed, whose sink has no room for what is left
pub Sends-stops : {K : Type 0} (written : K → Option (List ℕ)) (faults : K → ℕ) (steady : K → Type 0) (has_room : K → ℕ → Type 0) (old new : K)
    (result : Result (Unit {0}) Failed) (piece done rest : List ℕ) → piece ≡ done ++ rest → 0 < length rest → IsErr result →
    Appends (written old) (written new) done → CountsFaults faults steady old new (IsErr result) →
    {had : ℕ → Type 0} → ((left : ℕ) → had left → length rest ≤ left → ⊥) →
    ((room : ℕ) → has_room old room → length piece ≤ room → had (room - length done)) →
    Sends written faults steady has_room old new result piece
Sends-stops written faults steady has_room old new (Ok x) piece done rest whole some failed appends counts none room_left = absurd (cc)
Sends-stops written faults steady has_room old new (Err e) piece done rest whole some failed appends counts none room_left = record {
  writes = stops_within piece done rest (written old) (written new) whole some appends;
  counts = counts;
  sure = λ room h fits.
      let lengths : length piece ≡ length done + length rest = ap length whole ∙ length-append done rest in
      absurd (none (room - length done) (room_left room h fits) (omega arith));
}
