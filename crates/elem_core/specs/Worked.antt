-- The codes of small texts, and their digits.
use Rattle.std.specs.Prelude.{◌≡◌, ℕ, List, [], ◌∷◌, codes}
use Rattle.elem_core.specs.Codes.{text_code, old_text_code, digit_at}

-- A text has this code, and its first two digits and its last are these.
pub record HasCode (text : List ℕ) (code first second last : ℕ) : Type 0 where
  pub is_code : text_code text ≡ code
  pub is_first : digit_at code 0 ≡ first
  pub is_second : digit_at code 1 ≡ second
  pub is_last : digit_at code 12 ≡ last

pub record WorkedCodes : Type 0 where
  pub empty : HasCode [] 14695981039346656037 5 25 12
  pub small_a : HasCode (codes "a") 12638187200555641996 12 4 10
  pub small_b : HasCode (codes "b") 12638190499090526629 5 13 10
  pub large_a : HasCode (codes "A") 12638222384927744748 12 23 10
  -- The codes of old documents are others, but for the first digit.
  pub old_small_a : old_text_code (codes "a") ≡ 3826002220
  pub old_large_a : old_text_code (codes "A") ≡ 3289118412
