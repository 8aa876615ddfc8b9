-- The first lines of seed 0, and the longest line of each kind.
use Rattle.std.specs.Prelude.{◌≡◌, ℕ, List, [], ◌∷◌, map}
use lib.Chars.{codes}
use Rattle.work_lines.specs.Lines.{next_number, line_by, work_lines}

-- The lines of a kind from 0 to 15 on, with these buffers and this size.
abbrev pub kinds : List ℕ → ℕ → ℕ → ℕ → List (List ℕ)
kinds numbers a b n = map (λ kind. line_by kind a b n) numbers

pub record WorkedLines : Type 0 where
  pub first : next_number 0 ≡ 1442695040888963407
  pub second : next_number 1442695040888963407 ≡ 1876011003808476466
  pub lines :
      work_lines 0 2
      ≡ map codes ("new w0" ∷ "new w1" ∷ "new w2" ∷ "new w3" ∷ "new w4" ∷ "new w5" ∷ "new w6" ∷ "new w7" ∷ "add w2 t359294" ∷ "add w5 t585233" ∷ [])
  pub longest :
      kinds (6 ∷ 8 ∷ 9 ∷ 10 ∷ 11 ∷ 12 ∷ 13 ∷ 14 ∷ 15 ∷ []) 7 7 4194303
      ≡ map codes ("add w7 t4194303" ∷ "set w7 255 t4194303" ∷ "put w7 255 t4194303" ∷ "del w7 15 30" ∷ "copy w7 w7" ∷ "undo" ∷ "redo" ∷ "cat w7 w7" ∷ "mark v4194303" ∷ [])
  pub shortest :
      kinds (0 ∷ 7 ∷ 9 ∷ 10 ∷ 15 ∷ []) 0 0 0
      ≡ map codes ("add w0 t0" ∷ "set w0 0 t0" ∷ "put w0 0 t0" ∷ "del w0 0 0" ∷ "mark v0" ∷ [])
