-- Known bytes over calls of which the first were interrupted and left them as they were.
use Rattle.std.proofs.Common.{◌≡◌, ℕ, ◌+◌, ◌<◌, List, ◌++◌, length, take, refl, None, Some, sym, ap, ◌∙◌, arith, IfSome, option_map, min}
use Rattle.std.proofs.lemmas.List.{length-append, length-take, take_all}
use Rattle.std.specs.declared.option.Option.{Option}
use Rattle.std.specs.Io.KnownBytes.{Consumes, IsAtEnd, Keeps}

pub Keeps-then : (a b c : Option (List ℕ)) → Keeps a b → Keeps b c → Keeps a c
Keeps-then None b c h k = tt
Keeps-then (Some xs) None c h k = absurd h
Keeps-then (Some xs) (Some ys) None h k = absurd k
Keeps-then (Some xs) (Some ys) (Some zs) h k = k ∙ h

pub Keeps-consumed : (a b c : Option (List ℕ)) (bs : List ℕ) → Keeps a b → Consumes b c bs → Consumes a c bs
Keeps-consumed None b c bs h k = tt
Keeps-consumed (Some xs) None c bs h k = absurd h
Keeps-consumed (Some xs) (Some ys) None bs h k = absurd k
Keeps-consumed (Some xs) (Some ys) (Some zs) bs h k = sym h ∙ k

-- a call that gave none, and left none
pub none-given : (a b c : Option (List ℕ)) (bs : List ℕ) (n : ℕ) → n ≡ 0 → Keeps a b → Consumes b c (take n bs) → IsAtEnd c → IsAtEnd a
none-given None b c bs n none h k e = tt
none-given (Some xs) None c bs n none h k e = absurd h
none-given (Some xs) (Some ys) None bs n none h k e = absurd k
none-given (Some xs) (Some ys) (Some zs) bs n none h k e = sym h ∙ k ∙ ap (λ m. take m bs ++ zs) none ∙ e

-- a front that is shorter than was asked for is all
front-all : (most : ℕ) (bytes got : List ℕ) → got ≡ take most bytes → length got < most → got ≡ bytes
front-all most bytes got is short =
    let number : length got ≡ min most (length bytes) = ap length is ∙ length-take most bytes in
    is ∙ take_all most bytes (omega (arith, number, short))

pub known-all : (known : Option (List ℕ)) (most : ℕ) (old got : List ℕ) → IfSome (option_map (take most) known) (λ xs. got ≡ old ++ xs) → length got < most → IfSome known (λ bytes. got ≡ old ++ bytes)
known-all None most old got is short = tt
known-all (Some bytes) most old got is short =
    let number : length got ≡ length old + length (take most bytes) = ap length is ∙ length-append old (take most bytes) in
    is ∙ ap (λ xs. old ++ xs) (front-all most bytes (take most bytes) refl (omega (arith, number, short)))
