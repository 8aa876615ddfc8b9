-- A pool has no damage exactly where it is valid.
use Rattle.std.proofs.Common.{◌≡◌, Bool, true, false, cond, ◌++◌, refl, ap, ◌∙◌}
use Rattle.std.specs.Prelude.{Option, Some, None, List, [], ◌∷◌}
use Rattle.std.proofs.lemmas.Bool.{and_parts}
use Rattle.pool_text.specs.Rules.{Rules}
use Rattle.pool_text.specs.declared.pool.Pool.{Pool}
use Rattle.pool_check.specs.Rows.{rows_in_range_by, links_lead_back}
use Rattle.pool_check.specs.Kinds.{roots_are_of_kind, undo_fits}
use Rattle.pool_check.specs.Damages.{rows_in_order, first_failing, open_tests, tests_by, open_damage, damage_by, RowsPass, IsValidBy}
use Rattle.pool_text.specs.declared.damage.Damage.{Damage}
use Rattle.pool_text.specs.declared.damage.Damage.TheVariants.{Row, Order}

-- no test fails where all pass
pub valid-undamaged : {rules : Rules} (P : Pool) → IsValidBy rules P → damage_by rules P ≡ None
unfolding damage_by
valid-undamaged P v = rw (v.in_range, v.lead_back, v.lines, v.vectors, v.tries, v.kinds, v.fits, v.in_order) refl

-- every test of the list is passed
ArePassed : List (Bool × Damage) → Type 0
ArePassed [] = Unit {0}
ArePassed (t ∷ ts) = (t.0 ≡ true) × ArePassed ts

passed : (t : Bool) (d : Damage) (rest : Option Damage) → cond t rest (Some d) ≡ None → (t ≡ true) × (rest ≡ None)
passed true d rest h = (refl, h)
passed false d rest h = absurd (let e : Some d ≡ None = h in cc)

all-passed : (ts : List (Bool × Damage)) → first_failing ts ≡ None → ArePassed ts
unfolding ArePassed
all-passed [] h = tt
all-passed (t ∷ ts) h = let now = passed t.0 t.1 (first_failing ts) h in (now.0, all-passed ts now.1)

pub undamaged-valid : {rules : Rules} (P : Pool) → damage_by rules P ≡ None → IsValidBy rules P
unfolding damage_by ArePassed
undamaged-valid {rules} P h =
    let a : ArePassed (tests_by rules P) = all-passed (tests_by rules P) h in
    let both = and_parts (roots_are_of_kind P) (undo_fits P) a.1.1.1.1.1.0 in
    record { in_range = a.0; lead_back = a.1.0; lines = a.1.1.0; vectors = a.1.1.1.0; tries = a.1.1.1.1.0; kinds = both.0; fits = both.1; in_order = a.1.1.1.1.1.1.0 }

pub open-rows-pass : (rules : Rules) (P : Pool) → open_damage rules P ≡ None → RowsPass rules P
unfolding open_damage ArePassed
open-rows-pass rules P h =
    let a : ArePassed (open_tests rules P) = all-passed (open_tests rules P) h in
    record { lead_back = a.0; lines = a.1.0; vectors = a.1.1.0; tries = a.1.1.1.0 }

-- Tests that are followed by others.

either : (b : Bool) (o p q : Option Damage) (d : Damage) → cond b o q ≡ Some d → (o ≡ Some d → p ≡ Some d) → cond b p q ≡ Some d
either true o p q d h more = more h
either false o p q d h more = h

pub fails-first : (ts us : List (Bool × Damage)) (d : Damage) → first_failing ts ≡ Some d → first_failing (ts ++ us) ≡ Some d
fails-first [] us d h = absurd (let e : None ≡ Some d = h in cc)
fails-first (t ∷ ts) us d h = either t.0 (first_failing ts) (first_failing (ts ++ us)) (Some t.1) d h (fails-first ts us d)

passes-first : (ts us : List (Bool × Damage)) → first_failing ts ≡ None → first_failing (ts ++ us) ≡ first_failing us
passes-first [] us h = refl
passes-first (t ∷ ts) us h = let now = passed t.0 t.1 (first_failing ts) h in ap (λ b. cond b (first_failing (ts ++ us)) (Some t.1)) now.0 ∙ passes-first ts us now.1

module _ (rules : Rules) (P : Pool) (rows : rows_in_range_by rules P ≡ true) where
  abbrev last : List (Bool × Damage)
  last = (rows_in_order P, Order) ∷ []

  in-range-first : damage_by rules P ≡ first_failing (open_tests rules P ++ last)
  unfolding damage_by
  in-range-first = ap (λ b. cond b (first_failing (open_tests rules P ++ last)) (Some Row)) rows

  -- what fails of the tests `Link` to `Kind` fails of all
  pub open-fails : (d : Damage) → open_damage rules P ≡ Some d → damage_by rules P ≡ Some d
  unfolding open_damage
  open-fails d h = in-range-first ∙ fails-first (open_tests rules P) last d h

  module _ (open_none : open_damage rules P ≡ None) where
    pub open-leads-back : links_lead_back P ≡ true
    unfolding open_damage ArePassed
    open-leads-back = (all-passed (open_tests rules P) open_none).0

    order-last : damage_by rules P ≡ first_failing last
    unfolding open_damage
    order-last = in-range-first ∙ passes-first (open_tests rules P) last open_none

    pub order-fails : rows_in_order P ≡ false → damage_by rules P ≡ Some Order
    order-fails h = order-last ∙ ap (λ b. cond b None (Some Order)) h

    pub order-passes : rows_in_order P ≡ true → damage_by rules P ≡ None
    order-passes h = order-last ∙ ap (λ b. cond b None (Some Order)) h
