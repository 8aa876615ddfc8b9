-- The steps by which an entry is put into a chain.
use Rattle.std.proofs.Common.{◌≡◌, ℕ, ◌+◌, ◌≤◌, List, [], ◌∷◌, ◌++◌, length, take, refl, ap, sym, subst, arith, Option, Some, IsSome, Result, Ok, Err}
use Rattle.std.specs.Prelude.{option_to_list, option_map, IsOk, IsErr}
use Rattle.std.specs.Cmp.{IsTotalOrder}
use Rattle.std.specs.declared.cmp.Ordering.{Ordering}
use Rattle.node_heap.specs.Links.{count}
use Rattle.node_heap.specs.Forms.{cell, node, form_of}
use Rattle.node_heap.specs.Heap.{Heap, row_at, form_at, holds_at}
use Rattle.node_heap.specs.Calls.{Extends, Builds}
use Rattle.node_heap.specs.declared.row.Head.TheVariants.{Chain}
use Rattle.champ_chain.specs.Entry.{Entry, entry, key_at, key_of, put}
use Rattle.champ_chain.specs.Chain.{AreChainRows, IsChain}
use Rattle.champ_chain.specs.KeySpot.{IsKeySpot}
use Rattle.champ_chain.specs.declared.spot.KeySpot.{KeySpot}
use Rattle.champ_chain.proofs.FrameLemmas.{forms-kept, rows-kept, key-kept}
use Rattle.node_heap.proofs.BuildLemmas.{count-cons, count-one, Builds-both, Builds-then, Builds-more, Builds-as}
use Rattle.champ_chain.proofs.SpotLemmas.{first-row}
use Rattle.champ_chain.proofs.CopyLemmas.{rows-over, chain-form, chain-live}
use Rattle.champ_chain.proofs.PartsLemmas.{chain-with, take-before}

module _ {T : Type 0} where
  -- a row that a tail names is there
  pub tail-live : (h : Heap T) (tail : Option ℕ) (ts : List (Entry T)) → AreChainRows (form_at h) tail ts → (l : ℕ) → tail ≡ Some l → IsSome (row_at h l)
  tail-live h tail ts rows l is = let at = first-row (form_at h) l ts (subst (λ t. AreChainRows (form_at h) t ts) is rows) in chain-live h l at.first.link at.next at.row

  -- what an entry and a tail need, once a hold of the tail is gained
  pub held-over : (old mid : Heap T) (x : ℕ) (tail : List ℕ) → ((k : ℕ) → count k (x ∷ []) ≤ holds_at old k) → Builds old mid [] tail 0 0 → (k : ℕ) → count k (x ∷ tail) ≤ holds_at mid k
  held-over old mid x tail held grows k = omega (arith, held k, grows.holds k, count-cons k x tail, count-one k x)

  -- the tail is held, the entry's row is made over it, and the rows before it are copied
  pub with-builds : (old mid made new : Heap T) (x m r n most : ℕ) (tail : List ℕ) → Builds old mid [] tail 0 0 → Builds mid made (x ∷ tail) (m ∷ []) 0 1 → Builds made new (m ∷ []) (r ∷ []) 0 n → n + 1 ≤ most → Builds old new (x ∷ []) (r ∷ []) 0 most
  with-builds old mid made new x m r n most tail a b d le =
      let first = Builds-both (x ∷ []) (m ∷ []) a b (λ k. omega (arith, count-cons k x tail, count-one k x)) (omega arith) in
      Builds-more 0 most (Builds-then first d) (omega arith) (omega (arith, le))

  module _ (cmp : T → T → Ordering) (o : IsTotalOrder cmp) where
    -- the new rows are the chain with the entry
    pub with-rows : (old made new : Heap T) (chain x m r : ℕ) (E : List (Entry T)) (key : T) (c : IsChain cmp (form_at old) chain E) (spot : KeySpot) (s : IsKeySpot cmp (form_at old) c.entries key spot)
        → Extends old made → key_at (form_at old) x ≡ Some key → row_at made m ≡ Some (node Chain (x ∷ option_to_list spot.rest))
        → ((es ts : List (Entry T)) → AreChainRows (form_at made) (Some chain) es → spot.before ≤ length es → AreChainRows (form_at made) (Some m) ts → AreChainRows (form_at new) (Some r) (take spot.before es ++ ts))
        → spot.before ≤ length c.entries → IsChain cmp (form_at new) r (put cmp E (entry key x))
    with-rows old made new chain x m r E key c spot s more is row copies fits =
        let keeps = forms-kept old made more in
        let last : AreChainRows (form_at made) (Some m) (entry key x ∷ s.parts.greater) =
        rows-over (form_at made) m (entry key x) spot.rest s.parts.greater (chain-form made m _ row) (key-kept (form_at old) (form_at made) keeps x key is) (rows-kept (form_at old) (form_at made) keeps spot.rest s.parts.greater s.rest) in
        let whole = copies c.entries (entry key x ∷ s.parts.greater) (rows-kept (form_at old) (form_at made) keeps (Some chain) c.entries c.rows) fits last in
        chain-with cmp o (form_at old) (form_at new) chain r x E key c s.parts
        (subst (λ xs. AreChainRows (form_at new) (Some r) (xs ++ entry key x ∷ s.parts.greater)) (take-before cmp o (form_at old) c.entries key spot s) whole)

  pub Builds-turned : (old new : Heap T) (x y : ℕ) (t : List ℕ) (n : ℕ) → Builds old new (x ∷ y ∷ []) t 0 n → Builds old new (y ∷ x ∷ []) t 0 n
  Builds-turned old new x y t n b =
      Builds-as (y ∷ x ∷ []) t 0 n b (omega arith) (omega arith) (λ k. omega (arith, count-cons k x (y ∷ []), count-cons k y (x ∷ []), count-one k x, count-one k y)) (omega arith)

  pub key-some : (h : Heap T) (l : ℕ) (k : T) → key_at (form_at h) l ≡ Some k → IsSome (key_at (form_at h) l)
  key-some h l k is = subst IsSome (sym is) refl

pub not-ok : {X E : Type 0} (r : Result X E) (e : E) → r ≡ Err e → IsOk r → ⊥
not-ok r e is ok = let bad = subst IsOk is ok in cc

pub err-not-ok : {X E : Type 0} (r : Result X E) (x : X) → IsErr r → r ≡ Ok x → ⊥
err-not-ok r x err is = let bad = subst IsErr is err in cc

module _ {T : Type 0} where
  pub cell-key : (h : Heap T) (l : ℕ) (x : T) → row_at h l ≡ Some (cell x) → key_at (form_at h) l ≡ Some x
  cell-key h l x is = ap (λ r. key_of (form_at h) (option_map form_of r)) is
