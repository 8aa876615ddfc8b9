-- A chain followed by what a pool has more stands for the pool.
use Rattle.std.proofs.Common.{◌≡◌, ℕ, zero, suc, ◌+◌, ◌<◌, Bool, true, ◌&&◌, List, [], ◌∷◌, ◌++◌, length, map, Some, IsSome, option_map, slice_get, refl, ap, subst, ◌∙◌, arith, length-append}
use Rattle.std.specs.Prelude.{slice_index, nat_lt, fold}
use Rattle.std.specs.List.{list_all}
use Rattle.node_heap.specs.Links.{count, Reaches, here, below}
use Rattle.node_heap.specs.Forms.{Form, links_of, links_in}
use Rattle.node_heap.proofs.Counts.{test_same, count-cons}
use Rattle.rrb_core.proofs.LinkCounts.{count-at}
use Rattle.pool_text.specs.Rules.{Rules}
use Rattle.pool_text.specs.Pool.{forms_in, row_count, place_in, relink, Settings, settings_by, settings_of, at_present_version, pool}
use Rattle.pool_text.specs.Renaming.{IsRenamed, IsRooted, RenamedHaveOnePool}
use Rattle.pool_text.specs.declared.pool.Pool.{Pool}
use Rattle.pool_text.proofs.Placed.{place-is}
use Rattle.pool_text.proofs.Renamed.{map-found}
use Rattle.pool_check.specs.Rows.{rows_lead_back, links_lead_back}
use Rattle.pool_check.specs.Damages.{IsValidBy}
use Rattle.pool_check.proofs.TestLemmas.{leads-down, roots-low, and-first}
use Rattle.pool_check.proofs.OwnRows.{of-itself}
use Rattle.pool_check.proofs.PoolPasses.{less-test}
use Rattle.pool_delta.specs.Chains.{chain_pool, with_part}
use Rattle.pool_delta.specs.Delta.{no_rows, placed, placing, delta}
use Rattle.pool_delta.specs.Laws.{DeltaStands}
use Rattle.pool_delta.proofs.Placed.{IsPlaced, none-placed, all-placed}

-- ## Tests

pub both-true : (a b : Bool) → a ≡ true → b ≡ true → (a && b) ≡ true
both-true a b h k = ap (λ x. x && b) h ∙ k

all-below : (ks : List ℕ) (n : ℕ) → ((k : ℕ) → 0 < count k ks → k < n) → list_all (λ k. nat_lt k n) ks ≡ true
all-below [] n low = refl
all-below (k ∷ ks) n low =
    both-true (nat_lt k n) (list_all (λ j. nat_lt j n) ks) (less-test k n (low k (omega (arith, count-cons k k ks, test_same k k refl))))
    (all-below ks n (λ j some. low j (omega (arith, count-cons j k ks, some))))

-- rows lead back from a place on, where each link of a row is below its place
rows-back : {K : Type 0} (rows : List (Form K)) (place : ℕ) → ((i j : ℕ) → 0 < count j (links_of (slice_get rows i)) → j < place + i) → rows_lead_back place rows ≡ true
rows-back [] place low = refl
rows-back (row ∷ rows) place low =
    both-true (list_all (λ k. nat_lt k place) (links_of (Some row))) (rows_lead_back (suc place) rows)
    (all-below (links_of (Some row)) place (λ j some. omega (arith, low 0 j some)))
    (rows-back rows (suc place) (λ i j some. omega (arith, low (suc i) j some)))

-- rows that lead back, and then rows that do from there on
rows-and-rows : {K : Type 0} (rows more : List (Form K)) (place : ℕ) → rows_lead_back place rows ≡ true → rows_lead_back (place + length rows) more ≡ true → rows_lead_back place (rows ++ more) ≡ true
rows-and-rows [] more place h k = subst (λ n. rows_lead_back n more ≡ true) (omega arith) k
rows-and-rows (row ∷ rows) more place h k =
    let a : Bool = list_all (λ j. nat_lt j place) (links_of (Some row)) in
    both-true a (rows_lead_back (suc place) (rows ++ more)) (and-first a (rows_lead_back (suc place) rows) h)
    (rows-and-rows rows more (suc place) (second a (rows_lead_back (suc place) rows) h) (subst (λ n. rows_lead_back n more ≡ true) (next place (length rows)) k))
  where
    second : (a b : Bool) → (a && b) ≡ true → b ≡ true
    second a b h = grind (arith, a, b)

    next : (p n : ℕ) → p + suc n ≡ suc p + n
    next p n = omega arith

-- ## Roots

some-at : {X : Type 0} (xs : List X) (i : ℕ) → i < length xs → IsSome (slice_get xs i)
some-at [] i low = absurd (omega (arith, low))
some-at (x ∷ xs) zero low = refl
some-at (x ∷ xs) (suc i) low = some-at xs i (omega (arith, low))

pub reached-low : (P : Pool) → links_lead_back P ≡ true → (r p : ℕ) → Reaches (links_in (forms_in P)) r p → r < row_count P → p < row_count P
reached-low P back a b (here l) low = low
reached-low P back a b (below l k m has down) low = reached-low P back k m down (omega (arith, low, leads-down P back l k has))

-- a pool that leads back has rooted rows
pub rooted : (P : Pool) → links_lead_back P ≡ true → IsRooted (row_count P) (forms_in P) P.roots
rooted P back = record {
  rank = λ l. l;
  falls = leads-down P back;
  low = roots-low P back;
  there = λ r l root down. some-at P.rows l (reached-low P back r l down (roots-low P back r root));
}

-- ## The law

module _ (C P : Pool) (back : links_lead_back C ≡ true) (p_back : links_lead_back P ≡ true) where
  abbrev pub f : ℕ → ℕ
  f = slice_index (placing C P).places

  pub are-placed : IsPlaced C.rows (forms_in P) (leads-down P p_back) (row_count P) (placing C P)
  unfolding placing
  are-placed =
      subst (λ n. IsPlaced C.rows (forms_in P) (leads-down P p_back) n (fold (placed C.rows) no_rows P.rows)) (front (row_count P))
      (all-placed C.rows (forms_in P) (leads-down P p_back) P.rows 0 no_rows (λ j r at. ap (forms_in P) (front j) ∙ at) (none-placed C.rows (forms_in P) (leads-down P p_back)))
    where
      front : (j : ℕ) → 0 + j ≡ j
      front j = omega arith

  abbrev pub D : Pool
  D = with_part C (delta C P)

  root-low : (k : ℕ) → 0 < count k D.roots → k < row_count D
  unfolding delta
  root-low k some =
      let found = map-found f P.roots k some in
      omega (arith, found.2, are-placed.low found.0 (roots-low P p_back found.0 found.1), length-append C.rows (placing C P).own)

  -- the longer chain leads back
  pub more-back : links_lead_back D ≡ true
  unfolding links_lead_back delta
  more-back =
      both-true (rows_lead_back 0 D.rows) (list_all (λ k. nat_lt k (row_count D)) D.roots)
      (rows-and-rows C.rows (placing C P).own 0 (and-first (rows_lead_back 0 C.rows) (list_all (λ k. nat_lt k (row_count C)) C.roots) back)
      (rows-back (placing C P).own (0 + length C.rows) (λ i j some. omega (arith, are-placed.back i j some))))
      (all-below D.roots (row_count D) root-low)

  -- it has each row of the pool, under its place
  pub row-renamed : (l : ℕ) → l < row_count P → forms_in D (f l) ≡ option_map (relink f) (forms_in P l)
  unfolding delta
  row-renamed l low = are-placed.row l low

  pub renamed : (r : ℕ) → 0 < count r P.roots → IsRenamed f (forms_in P) (forms_in D) r
  renamed r root m down = row-renamed m (reached-low P p_back r m down (roots-low P p_back r root))

  -- places turn back
  turns : (l : ℕ) → l < row_count P → place_in (placing C P).places (f l) ≡ l
  turns l low =
      let ks : List ℕ = (placing C P).places in
      let inside : l < length ks = omega (arith, low, are-placed.many) in
      let is = place-is ks (f l) (count-at ks l 0 inside) in
      are-placed.apart (place_in ks (f l)) l (omega (arith, is.0, are-placed.many)) low is.1

  pub roots-are : D.roots ≡ map f P.roots
  unfolding delta
  roots-are = refl

  same-settings : C.bits ≡ P.bits → settings_by D.bits D.history ≡ settings_by P.bits P.history
  unfolding delta
  same-settings bits = ap (λ b. settings_by b P.history) bits

  present : pool (row_count P) (forms_in P) P.roots (settings_by P.bits P.history) ≡ at_present_version (pool (row_count P) (forms_in P) P.roots (settings_of P))
  unfolding pool
  present = refl

  pub delta-stands-for : RenamedHaveOnePool → (rules : Rules) → IsValidBy rules P → C.bits ≡ P.bits → chain_pool D ≡ at_present_version P
  delta-stands-for one rules valid bits =
      let ones : IsRooted (row_count D) (forms_in D) (map f P.roots) = subst (IsRooted (row_count D) (forms_in D)) roots-are (rooted D more-back) in
      let s : Settings = settings_by D.bits D.history in
      ap (λ ks. pool (row_count D) (forms_in D) ks s) roots-are
      ∙ one (row_count P) (row_count D) f (place_in (placing C P).places) (forms_in P) (forms_in D) P.roots s (rooted P p_back) ones renamed (λ r l root down. turns l (reached-low P p_back r l down (roots-low P p_back r root)))
      ∙ ap (λ t. pool (row_count P) (forms_in P) P.roots t) (same-settings bits) ∙ present ∙ ap at_present_version (of-itself P valid)

pub delta-stands : RenamedHaveOnePool → DeltaStands
delta-stands one C P back valid bits = delta-stands-for C P back valid.lead_back one _ valid bits
