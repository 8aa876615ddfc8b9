-- What stays where a heap keeps its rows.
use Rattle.std.proofs.Common.{◌≡◌, ℕ, zero, suc, ◌<◌, ◌≤◌, ◌≢◌, Bool, true, false, cond, List, [], ◌∷◌, length, refl, ap, sym, subst, ◌∙◌, arith, Option, Some, None, IsSome, is_some, get_or, set, get_or-set_other, eq-eqb}
use Rattle.std.specs.Prelude.{option_to_list, option_map, count_by}
use Rattle.std.specs.declared.cmp.Ordering.{Ordering}
use Rattle.std.proofs.lemmas.List.Sums.{sum_by-set}
use Rattle.node_heap.specs.Links.{count, HasLink}
use Rattle.node_heap.specs.Forms.{Row, Form, Forms, cell, node, leaf, inner, trie, chain, pair, state, links_of, value_of, form_of}
use Rattle.node_heap.specs.Heap.{Heap, row_at, form_at, links_at, live_count, IsGraph}
use Rattle.node_heap.specs.Calls.{Extends, SameRows}
use Rattle.node_heap.proofs.Frames.{Extends-row}
use Rattle.node_heap.proofs.BuildLemmas.{count-cons, count-one}
use Rattle.champ_chain.specs.Entry.{Entry, key_at, key_of, first_value}
use Rattle.champ_chain.specs.Chain.{AreChainRows, IsChain, KeepsChains}

-- every form that was there is there
pub record KeepsForms {K : Type 0} (F G : Forms K) : Type 0 where
  pub kept : (l : ℕ) (f : Form K) → F l ≡ Some f → G l ≡ Some f

abbrev pub is_of_vector : {K : Type 0} → Form K → Bool
is_of_vector (cell _) = false
is_of_vector (node leaf _) = true
is_of_vector (node (inner _) _) = true
is_of_vector (node (trie _ _ _) _) = false
is_of_vector (node chain _) = false
is_of_vector (node pair _) = false
is_of_vector (node state _) = false

-- every form that was there is there, but for rows of vectors, which entries and chains don't read
pub record KeepsOthers {K : Type 0} (F G : Forms K) : Type 0 where
  pub kept : (l : ℕ) (f : Form K) → F l ≡ Some f → is_of_vector f ≡ false → G l ≡ Some f

module _ {K : Type 0} where
  pub others-kept : (F G : Forms K) → KeepsForms F G → KeepsOthers F G
  others-kept F G keeps = record { kept = λ l f is none. keeps.kept l f is }

  module _ (F G : Forms K) (keeps : KeepsOthers F G) where
    value-beside : (l : ℕ) (x : K) → value_of (F l) ≡ Some x → value_of (G l) ≡ Some x
    value-beside l x is = by_form (F l) refl is
      where
        by_form : (r : Option (Form K)) → F l ≡ r → value_of r ≡ Some x → value_of (G l) ≡ Some x
        by_form None e is = cc
        by_form (Some (cell y)) e is = ap value_of (keeps.kept l (cell y) e refl) ∙ is
        by_form (Some (node kind links)) e is = cc

    pub key-beside : (l : ℕ) (k : K) → key_at F l ≡ Some k → key_at G l ≡ Some k
    key-beside l k is = by_form (F l) refl is
      where
        by_links : (links : List ℕ) → first_value F links ≡ Some k → first_value G links ≡ Some k
        by_links [] is = cc
        by_links (j ∷ js) is = value-beside j k is

        by_form : (r : Option (Form K)) → F l ≡ r → key_of F r ≡ Some k → key_of G (G l) ≡ Some k
        by_form None e is = cc
        by_form (Some (cell y)) e is = ap (key_of G) (keeps.kept l (cell y) e refl) ∙ is
        by_form (Some (node leaf links)) e is = cc
        by_form (Some (node (inner height) links)) e is = cc
        by_form (Some (node (trie d s n) links)) e is = cc
        by_form (Some (node chain links)) e is = cc
        by_form (Some (node pair links)) e is = ap (key_of G) (keeps.kept l (node pair links) e refl) ∙ by_links links is
        by_form (Some (node state links)) e is = cc

    pub rows-beside : (l : Option ℕ) (es : List (Entry K)) → AreChainRows F l es → AreChainRows G l es
    unfolding AreChainRows
    rows-beside l [] rows = rows
    rows-beside l (e ∷ es) rows = record {
      link = rows.link;
      next = rows.next;
      here = rows.here;
      row = keeps.kept rows.link _ rows.row refl;
      key = key-beside e.link e.key rows.key;
      rest = rows-beside rows.next es rows.rest;
    }

    pub chain-beside : (cmp : K → K → Ordering) (l : ℕ) (E : List (Entry K)) → IsChain cmp F l E → IsChain cmp G l E
    chain-beside cmp l E c = record { entries = c.entries; rows = rows-beside (Some l) c.entries c.rows; rising = c.rising; same = c.same; two = c.two }

  pub key-kept : (F G : Forms K) → KeepsForms F G → (l : ℕ) (k : K) → key_at F l ≡ Some k → key_at G l ≡ Some k
  key-kept F G keeps = key-beside F G (others-kept F G keeps)

  pub rows-kept : (F G : Forms K) → KeepsForms F G → (l : Option ℕ) (es : List (Entry K)) → AreChainRows F l es → AreChainRows G l es
  rows-kept F G keeps = rows-beside F G (others-kept F G keeps)

module _ {X : Type 0} where
  abbrev one : Option X → ℕ
  one r = cond (is_some r) 1 0

  one-some : (r : Option X) → IsSome r → one r ≡ 1
  one-some None live = absurd cc
  one-some (Some x) live = refl

  row-low : (rows : List (Option X)) (l : ℕ) → IsSome (get_or rows l None) → l < length rows
  row-low [] l live = absurd cc
  row-low (r ∷ rs) zero live = omega arith
  row-low (r ∷ rs) (suc l) live = omega (arith, row-low rs l live)

module _ {T : Type 0} where
  pub form-row : (h : Heap T) (l : ℕ) (f : Form T) → form_at h l ≡ Some f → (r : Row T) × (row_at h l ≡ Some r) × (form_of r ≡ f)
  form-row h l f is = by_row (row_at h l) refl is
    where
      by_row : (o : Option (Row T)) → row_at h l ≡ o → option_map form_of o ≡ Some f → (r : Row T) × (row_at h l ≡ Some r) × (form_of r ≡ f)
      by_row None e is = absurd cc
      by_row (Some r) e is = (r, e, (let same : Some (form_of r) ≡ Some f = is in cc))

  pub form-live : (h : Heap T) (l : ℕ) (f : Form T) → form_at h l ≡ Some f → IsSome (row_at h l)
  form-live h l f is = let r = form-row h l f is in subst IsSome (sym r.1) refl

  pub forms-kept : (old new : Heap T) → Extends old new → KeepsForms (form_at old) (form_at new)
  forms-kept old new ext = record { kept = λ l f is. ap (option_map form_of) (Extends-row ext l (form-live old l f is)) ∙ is }

  pub forms-same : (old new : Heap T) → SameRows old new → KeepsForms (form_at old) (form_at new)
  forms-same old new same = record { kept = λ l f is. ap (option_map form_of) (same l) ∙ is }

  pub links-form : (h : Heap T) (l : ℕ) → links_of (form_at h l) ≡ links_of (row_at h l)
  links-form h l = by_row (row_at h l)
    where
      by_row : (o : Option (Row T)) → links_of (option_map form_of o) ≡ links_of o
      by_row None = refl
      by_row (Some (cell x)) = refl
      by_row (Some (node head links)) = refl

  pub next-link : (h : Heap T) (l x m : ℕ) → form_at h l ≡ Some (node chain (x ∷ m ∷ [])) → HasLink (links_at h) l m
  next-link h l x m is =
      omega (arith, ap (count m) (sym (links-form h l) ∙ ap links_of is), count-cons m x (m ∷ []), count-one m m, ap (λ (b : Bool). let n : ℕ = cond b 1 0 in n) (eq-eqb m m refl))

  -- rows from a link on are no more than the live ones
  rows-fit : (h : Heap T) (rank : ℕ → ℕ) → ((l k : ℕ) → HasLink (links_at h) l k → rank k < rank l)
      → (es : List (Entry T)) (l : Option ℕ) (rows : List (Option (Row T))) → AreChainRows (form_at h) l es
      → ((m k : ℕ) → l ≡ Some m → rank k ≤ rank m → IsSome (row_at h k) → IsSome (get_or rows k None)) → length es ≤ count_by is_some rows
  unfolding AreChainRows
  rows-fit h rank falls [] l rows are there = omega arith
  rows-fit h rank falls (e ∷ es) l rows are there =
      let empty : Option (Row T) = None in
      let here : IsSome (get_or rows are.link None) = there are.link are.link are.here (omega arith) (form-live h are.link _ are.row) in
      let low : are.link < length rows = row-low rows are.link here in
      let rest : length es ≤ count_by is_some (set rows are.link empty) =
      rows-fit h rank falls es are.next (set rows are.link empty) are.rest
      (λ m k is lower live.
      let row : form_at h are.link ≡ Some (node chain (e.link ∷ m ∷ [])) = are.row ∙ ap (λ n. Some (node chain (e.link ∷ option_to_list n))) is in
      let down = falls are.link m (next-link h are.link e.link m row) in
      let other : k ≢ are.link = λ same. omega (arith, lower, down, ap rank same) in
      rw (get_or-set_other {A = Option (Row T)}) (there are.link k are.here (omega (arith, lower, down)) live)) in
      omega (arith, rest, sum_by-set one rows are.link empty empty low, one-some (get_or rows are.link empty) here)

  pub rows-live : (h : Heap T) → IsGraph h → (es : List (Entry T)) (l : Option ℕ) → AreChainRows (form_at h) l es → length es ≤ live_count h
  rows-live h graph es l are = rows-fit h graph.rank graph.falls es l h.rows are (λ m k is lower live. live)

  -- chains stay where rows are only added
  pub KeepsChains-forms : (old new : Heap T) → KeepsForms (form_at old) (form_at new) → KeepsChains old new
  KeepsChains-forms old new keeps cmp l E is = record { entries = is.entries; rows = rows-kept (form_at old) (form_at new) keeps (Some l) is.entries is.rows; rising = is.rising; same = is.same; two = is.two }

  pub KeepsChains-Extends : (old new : Heap T) → Extends old new → KeepsChains old new
  KeepsChains-Extends old new more = KeepsChains-forms old new (forms-kept old new more)

  pub KeepsChains-same : (old new : Heap T) → SameRows old new → KeepsChains old new
  KeepsChains-same old new same = KeepsChains-forms old new (forms-same old new same)

  pub keyed-same : (old new : Heap T) → SameRows old new → (l : ℕ) → IsSome (key_at (form_at old) l) → IsSome (key_at (form_at new) l)
  keyed-same old new same l keyed = by_key (key_at (form_at old) l) refl keyed
    where
      by_key : (o : Option T) → key_at (form_at old) l ≡ o → IsSome o → IsSome (key_at (form_at new) l)
      by_key None is some = absurd cc
      by_key (Some k) is some = subst IsSome (sym (key-kept (form_at old) (form_at new) (forms-same old new same) l k is)) refl
