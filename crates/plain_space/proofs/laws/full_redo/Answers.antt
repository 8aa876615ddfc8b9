use Rattle.std.proofs.Common.{◌≡◌, ℕ, leb, ◌≤◌, ◌<◌, ◌+◌, ◌-◌, true, false, List, Option, None, Some, is_some, length, refl, arith, Result, slice_get}
use Rattle.std.proofs.lemmas.Bool.{lt-leb, false≢true}
use Rattle.std.proofs.lemmas.Option.{slice_get-get_or}
use Rattle.plain_space.specs.Workspace.{State, blank, most}
use Rattle.plain_space.specs.Answer.{answer}
use Rattle.plain_space.specs.declared.refusal.Refusal.{Refusal}
use Rattle.plain_space.specs.Refusing.{given}
use Rattle.plain_space.proofs.laws.full_redo.Goals as goal

-- what is the same for all that may be there is so where something is there
whatever : {X Y : Type 0} (o : Option X) (why : Refusal) (next : X → Result Y Refusal) (r : Result Y Refusal) → is_some o ≡ true → ((x : X) → next x ≡ r) → given o why next ≡ r
whatever None why next r there each = let f : false ≡ true = there in absurd (false≢true f)
whatever (Some x) why next r there each = each x

-- a list that isn't empty has a last element
last_there : (states : List State) → 1 ≤ length states → is_some (slice_get states (length states - 1)) ≡ true
last_there states some =
    let within : length states - 1 < length states = omega arith in
    let e = slice_get-get_or states (length states - 1) blank within in rw e refl

no_more : (n : ℕ) → n ≡ most → leb (n + 1) most ≡ false
no_more n full = lt-leb (n + 1) most (omega arith)

pub returns : goal.returns
unfolding answer
returns c = λ work out full some.
    let no = no_more (length work.redo) full in
    rw out (whatever _ _ _ _ (last_there work.undo some) (λ last. rw no refl))
