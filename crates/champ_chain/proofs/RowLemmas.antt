-- What chain rows are of.
use Rattle.std.proofs.Common.{◌≡◌, ℕ, List, [], ◌∷◌, ◌++◌, length, refl, ap, sym, subst, ◌∙◌, arith, Option, Some, None, length-append}
use Rattle.std.specs.Cmp.{IsTotalOrder}
use Rattle.std.specs.declared.cmp.Ordering.{Ordering}
use Rattle.std.specs.declared.cmp.Ordering.TheVariants.{Equal}
use Rattle.node_heap.specs.Forms.{Forms}
use Rattle.champ_chain.specs.Entry.{Entry, entry}
use Rattle.champ_chain.specs.Chain.{AreChainRows, AreBelow}
use Rattle.champ_chain.proofs.SpotLemmas.{first-row, rows-none, row-next, row-entry, same-key}
use Rattle.champ_chain.proofs.RisingLemmas.{greater_flip, less_flip}

module _ {K : Type 0} (F : Forms K) where
  -- rows of some entries begin at a link
  pub some-row : (o : Option ℕ) (xs : List (Entry K)) (x : Entry K) (ys : List (Entry K)) → AreChainRows F o (xs ++ x ∷ ys) → (m : ℕ) × (o ≡ Some m)
  some-row None xs x ys rows = absurd (let none = rows-none F (xs ++ x ∷ ys) rows in omega (arith, ap length none, length-append xs (x ∷ ys)))
  some-row (Some m) xs x ys rows = (m, refl)

  -- the rows from a link on are of one list of entries
  pub rows-only : (o : Option ℕ) (es ds : List (Entry K)) → AreChainRows F o es → AreChainRows F o ds → es ≡ ds
  rows-only None es ds a b = rows-none F es a ∙ sym (rows-none F ds b)
  rows-only (Some m) [] ds a b = let at = first-row F m [] a in cc
  rows-only (Some m) (e ∷ es) ds a b =
      let one = first-row F m (e ∷ es) a in
      let two = first-row F m ds b in
      let next : one.next ≡ two.next = row-next F m one.first.link two.first.link one.next two.next one.row two.row in
      let link : one.first.link ≡ two.first.link = row-entry F m one.first.link two.first.link one.next two.next one.row two.row in
      let key : one.first.key ≡ two.first.key = same-key F one.first.link two.first.link one.first.key two.first.key link one.key two.key in
      let rest : one.others ≡ es = (let w = one.whole in cc) in
      let first : one.first ≡ two.first = ap (λ k. entry k one.first.link) key ∙ ap (λ l. entry two.first.key l) link in
      one.whole ∙ ap (λ x. x ∷ one.others) first
      ∙ ap (λ xs. two.first ∷ xs) (rest ∙ rows-only one.next es two.others (subst (AreChainRows F one.next) rest one.rows) (subst (λ l. AreChainRows F l two.others) (sym next) two.rows)) ∙ sym two.whole

  -- and so they are so many
  pub rows-length : (o : Option ℕ) (es ds : List (Entry K)) → AreChainRows F o es → AreChainRows F o ds → length es ≡ length ds
  rows-length o es ds a b = ap length (rows-only o es ds a b)

module _ {K : Type 0} (cmp : K → K → Ordering) (o : IsTotalOrder cmp) where
  -- what is smaller than a key is smaller than an equal one
  pub below-same : (j k : K) → cmp j k ≡ Equal → (es : List (Entry K)) → AreBelow cmp k es → AreBelow cmp j es
  below-same j k tied [] a = tt
  below-same j k tied (e ∷ es) a = (less_flip cmp o j e.key (o.congr j k e.key tied ∙ greater_flip cmp o e.key k a.0), below-same j k tied es a.1)
