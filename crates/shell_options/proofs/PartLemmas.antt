-- From the values of the options to what they ask for together.
use Rattle.std.proofs.Common.{◌≡◌, ◌∙◌, ℕ, Option, Some, None, Result, Ok, Err, sym, refl, subst}
use Rattle.std.specs.Prelude.{unwrap_or, is_some, option_map, IsErrAnd}
use Rattle.elem_core.specs.declared.codes.TheConstants.{CODE_BITS}
use Rattle.elem_core.specs.declared.words.Name.{Name}
use Rattle.elem_core.specs.Shown.{name_bytes}
use Rattle.shell_words.specs.Number.{number_to}
use Rattle.shell_options.specs.Options.{Text, PlainOptions, if_given, most_count, name_in, options_of, pair, together}
use Rattle.shell_options.specs.declared.Options.{Options}
use Rattle.shell_options.specs.Shown.{ReadsWords, ReadsPart}
use Rattle.shell_options.specs.declared.WordsFault.{WordsFault}
use Rattle.shell_options.specs.declared.WordsFault.TheVariants.{Usage, Memory}

-- the most of 64 bits
abbrev pub most64 : ℕ
most64 = 18446744073709551615

-- what is refused of the four values, one after another, and what they give where each reads
module _ (b o w c : Option Text) where
  pub bits_refused : if_given (number_to CODE_BITS) b ≡ None → options_of b o w c ≡ None
  unfolding options_of
  bits_refused e = rw e refl

  pub name_refused : (x : Option ℕ) → if_given (number_to CODE_BITS) b ≡ Some x → if_given name_in o ≡ None → options_of b o w c ≡ None
  unfolding options_of
  name_refused x bs e = rw (bs, e) refl

  pub seed_refused : (x : Option ℕ) (f : Option Text) → if_given (number_to CODE_BITS) b ≡ Some x → if_given name_in o ≡ Some f
      → if_given (number_to most64) w ≡ None → options_of b o w c ≡ None
  unfolding options_of
  seed_refused x f bs os e = rw (bs, os, e) refl

  pub count_refused : (x : Option ℕ) (f : Option Text) (s : Option ℕ) → if_given (number_to CODE_BITS) b ≡ Some x → if_given name_in o ≡ Some f
      → if_given (number_to most64) w ≡ Some s → if_given (number_to most_count) c ≡ None → options_of b o w c ≡ None
  unfolding options_of
  count_refused x f s bs os ws e = rw (bs, os, ws, e) refl

  pub all_read : (x : Option ℕ) (f : Option Text) (s n : Option ℕ) → if_given (number_to CODE_BITS) b ≡ Some x → if_given name_in o ≡ Some f
      → if_given (number_to most64) w ≡ Some s → if_given (number_to most_count) c ≡ Some n → options_of b o w c ≡ together (unwrap_or x CODE_BITS) f s n
  unfolding options_of
  all_read x f s n bs os ws cs = rw (bs, os, ws, cs) refl

-- a part that is refused refuses the whole
pub part_refused : {A X : Type 0} (shown : A → X) (asked : Option PlainOptions) (wanted : Option X) (fault : WordsFault) → ReadsPart shown wanted (Err fault)
    → (wanted ≡ None → asked ≡ None) → ReadsWords asked (Err fault)
part_refused shown asked wanted Usage e none = none e
part_refused shown asked wanted Memory e none = absurd e

pub together_is : (kept : ℕ) (first : Option Text) (seed count : Option ℕ) (work : Option (ℕ × ℕ)) → pair (is_some first) seed count ≡ Some work
    → together kept first seed count ≡ Some (record { bits = kept; first = first; work = work })
together_is kept first seed count work e = rw e refl

pub together_not : (kept : ℕ) (first : Option Text) (seed count : Option ℕ) → pair (is_some first) seed count ≡ None → together kept first seed count ≡ None
together_not kept first seed count e = rw e refl

pub refused_through : (asked : Option PlainOptions) (fault : WordsFault) (r : Result Options WordsFault) → ReadsWords asked (Err fault) → IsErrAnd r (λ y. y ≡ fault) → ReadsWords asked r
refused_through asked fault (Ok o) reads is = absurd is
refused_through asked fault (Err f) reads is = subst (λ y. ReadsWords asked (Err y)) (sym is) reads

pub some_shown : (name : Option Name) → is_some name ≡ is_some (option_map name_bytes name)
some_shown None = refl
some_shown (Some name) = refl

pub options_are : (asked : Option PlainOptions) (kept bits : ℕ) (first file : Option Text) (seed count : Option ℕ) (work : Option (ℕ × ℕ)) → asked ≡ together kept first seed count
    → pair (is_some first) seed count ≡ Some work → bits ≡ kept → file ≡ first → asked ≡ Some (record { bits = bits; first = file; work = work })
options_are asked kept bits first file seed count work is paired same named =
    is ∙ together_is kept first seed count work paired ∙ rw (same, named) refl
