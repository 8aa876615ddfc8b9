-- What stands at roots stands wherever every row stays, and beside what a call made.
use Rattle.std.proofs.Common.{◌≡◌, ◌+◌, ℕ, Bool, List, [], ◌∷◌, ◌++◌, Result, Ok, Err, ap, sym, subst, arith, length-append}
use Rattle.std.specs.Prelude.{IfOk, IsOk, Some, option_map}
use Rattle.std.specs.List.{filter}
use Rattle.std.specs.declared.cmp.Ordering.{Ordering}
use Rattle.std.proofs.lemmas.List.Elements.{All-weaker, All-push, All-append, All-filter}
use Rattle.node_heap.specs.Forms.{cell, form_of}
use Rattle.node_heap.specs.Heap.{Heap, row_at, form_at, holds_at, hold_count, one_at}
use Rattle.node_heap.specs.Calls.{Builds, Extends, SameRows}
use Rattle.node_heap.proofs.BuildLemmas.{count-one}
use Rattle.champ_chain.proofs.FrameLemmas.{forms-kept}
use Rattle.champ_kinds.specs.Binding.{Binding}
use Rattle.champ_kinds.specs.Root.{Root}
use Rattle.champ_kinds.specs.Kinds.{IsMapOf}
use Rattle.champ_kinds.proofs.StayLemmas.{containers-extended}
use Rattle.champ_trie.proofs.LeftLemmas.{KeepsTries-Extends}
use Rattle.same_value.specs.Cells.{IsCellLink}
use Rattle.set_merge.specs.Merge.{map_union}
use Rattle.map_tests.specs.Stands.{IsSomeTrie, IsCellMap, Keeps, Holds}

module _ {T : Type 0} {old new : Heap T} (extends : Extends old new) where
  pub cell-stays : (l : ℕ) → IsCellLink (form_at old) l → IsCellLink (form_at new) l
  cell-stays l is = (is.0, (forms-kept old new extends).kept l (cell is.0) is.1)

  pub cell-maps-stay : (cmp : T → T → Ordering) (code : T → ℕ) → Keeps (IsCellMap cmp code) old new
  cell-maps-stay cmp code r is = (
    is.0,
    record {
      map = (containers-extended old new extends r).map cmp code is.0 is.1.map;
      values = All-weaker (λ (b : Binding T). IsCellLink (form_at old) b.value) (λ (b : Binding T). IsCellLink (form_at new) b.value) (λ b cell. cell-stays b.value cell) is.0 is.1.values;
    },
  )

  -- the union of two maps of cells is one
  pub cells-united : (cmp : T → T → Ordering) (code : T → ℕ) {a b r : Root} (first : IsCellMap cmp code old a) (second : IsCellMap cmp code old b) → IsMapOf cmp code new r (map_union cmp first.0 second.0) → IsCellMap cmp code new r
  cells-united cmp code first second made =
      let WasCell = λ (b : Binding T). IsCellLink (form_at old) b.value in
      let IsCell = λ (b : Binding T). IsCellLink (form_at new) b.value in
      let stays = λ (b : Binding T) (cell : WasCell b). cell-stays b.value cell in (
        map_union cmp first.0 second.0,
        record {
          map = made;
          values = All-append IsCell first.0 _ (All-weaker WasCell IsCell stays first.0 first.1.values) (All-filter _ IsCell second.0 (All-weaker WasCell IsCell stays second.0 second.1.values));
        },
      )

  -- so is what a map of cells has left
  pub cells-left : (cmp : T → T → Ordering) (code : T → ℕ) {a r : Root} (p : Binding T → Bool) (first : IsCellMap cmp code old a) → IsMapOf cmp code new r (filter p first.0) → IsCellMap cmp code new r
  cells-left cmp code p first made =
      let WasCell = λ (b : Binding T). IsCellLink (form_at old) b.value in
      let IsCell = λ (b : Binding T). IsCellLink (form_at new) b.value in
      (filter p first.0, record { map = made; values = All-filter p IsCell first.0 (All-weaker WasCell IsCell (λ b cell. cell-stays b.value cell) first.0 first.1.values) })

  pub tries-stay : (cmp : T → T → Ordering) (code : T → ℕ) (bits : ℕ) → Keeps (IsSomeTrie cmp code bits) old new
  tries-stay cmp code bits l is = (is.0, KeepsTries-Extends old new extends cmp _ l is.0 is.1)

-- a new cell is one
pub row-cell : {T : Type 0} (h : Heap T) (l : ℕ) (x : T) → row_at h l ≡ Some (cell x) → IsCellLink (form_at h) l
row-cell h l x is = (x, ap (λ r. option_map form_of r) is)

-- one hold more of a root
pub shared-holds : {T : Type 0} {a b : Heap T} {link : ℕ} → Builds a b [] (link ∷ []) 0 0 → (k : ℕ) → holds_at b k ≡ holds_at a k + one_at link k
shared-holds {link = link} shared k = omega (arith, shared.holds k, count-one k link)

-- where the rows are the same, so are the forms
pub forms-same : {T : Type 0} (old new : Heap T) → SameRows old new → form_at new ≡ form_at old
forms-same old new same = λ j l. option_map form_of (same l j)

-- what a call made stands behind the things that were there
pub more-held : {T R E : Type 0} (Is : Heap T → R → Type 0) (old new : Heap T) (things after : List R) (made : Result R E) → IsOk made → IfOk made (Is new) → IfOk made (λ _. Keeps Is old new) → IfOk made (λ _. hold_count new ≡ hold_count old + 1) → IfOk made (λ r. after ≡ things ++ r ∷ []) → Holds Is old things → Holds Is new after
more-held Is old new things after (Ok r) ok is keeps count list has = subst (Holds Is new) (sym list) record { are = All-push (Is new) things r (All-weaker (Is old) (Is new) keeps things has.are) is; few = omega (arith, count, has.few, length-append things (r ∷ [])) }
more-held Is old new things after (Err e) ok is keeps count list has = absurd (let h = ok in cc)

-- the first of them stands alone
pub first-held : {T R E : Type 0} (Is : Heap T → R → Type 0) (old new : Heap T) (after : List R) (made : Result R E) → IsOk made → IfOk made (Is new) → hold_count old ≡ 0 → IfOk made (λ _. hold_count new ≡ hold_count old + 1) → IfOk made (λ r. after ≡ [] ++ r ∷ []) → Holds Is new after
first-held Is old new after (Ok r) ok is none count list = subst (Holds Is new) (sym list) record { are = All-push (Is new) [] r (λ k d inside. absurd (omega (arith, inside))) is; few = omega (arith, count, none) }
first-held Is old new after (Err e) ok is none count list = absurd (let h = ok in cc)
