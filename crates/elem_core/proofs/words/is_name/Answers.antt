use Rattle.std.proofs.Common.{arith, ◌≡◌, ℕ, ◌≤◌, length, Bool, List, IsTrue, sym, ◌∙◌, slice_get, Some}
use Rattle.std.specs.List.{list_all}
use Rattle.std.proofs.lemmas.Option.{slice_get_within}
use Rattle.std.proofs.lemmas.List.Sums.{AllPass-from_list_all, list_all-from_AllPass}
use Rattle.elem_core.specs.Naming.{IsName, is_name_byte}
use Rattle.elem_core.proofs.words.is_name.Goals as goal

-- bytes with a good first one and a good length are a name exactly where all are of the alphabet
named : (bytes : List ℕ) (first : ℕ) → Some first ≡ slice_get bytes 0 → (first ≡ 46 → ⊥) → (first ≡ 45 → ⊥) → length bytes ≤ 64 → (all : Bool) → all ≡ list_all is_name_byte bytes → (IsTrue all → IsName bytes) × (IsName bytes → IsTrue all)
named bytes first e no_stop no_hyphen short all is = (
  (λ t. record {
    some = slice_get_within bytes 0 first (sym e);
    short = short;
    alphabet = AllPass-from_list_all is_name_byte bytes (sym is ∙ t);
    no_stop_first = λ s. no_stop (cc);
    no_hyphen_first = λ s. no_hyphen (cc);
  }),
  (λ n. is ∙ list_all-from_AllPass is_name_byte bytes n.alphabet),
)

pub returns : goal.returns
returns c =
    rw (← c.as_bytes-bytes.ensures.value)
    (named _ c.in-Some.first.now c.in-Some.ensures.value (λ stop. omega arith) (λ hyphen. omega arith) (omega arith) c.is_of_names.result c.is_of_names.ensures)
