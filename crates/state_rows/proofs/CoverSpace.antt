-- What stands for a workspace reaches known rows alone.
use Rattle.std.proofs.Common.{◌≡◌, ℕ, zero, suc, ◌+◌, ◌<◌, ◌≤◌, Bool, true, cond, List, [], ◌∷◌, Option, Some, None, length, get_or, refl, ap, sym, subst, ◌∙◌, arith, inl, inr}
use Rattle.std.specs.Prelude.{option_map, count_by}
use Rattle.std.specs.List.{All, AllZip, find}
use Rattle.std.specs.Ordering.{nat_cmp, is_eq}
use Rattle.std.specs.Cmp.{tied_itself}
use Rattle.std.specs.Cmp.Lexicographic.{slice_cmp}
use Rattle.std.specs.FinMap as map
use Rattle.std.specs.FinMap.{nat_cmp-IsAntisymmetric, slice_cmp-IsAntisymmetric}
use Rattle.std.proofs.lemmas.Bool.{cases_eq, cases_Bool}
use Rattle.std.proofs.lemmas.Cmp.{nat_list_cmp_total}
use Rattle.std.proofs.lemmas.List.Elements.{All-nil, All-cons, All-contains}
use Rattle.elem_core.specs.Cell.{IsCell}
use Rattle.elem_core.specs.Naming.{IsName, is_name_byte}
use Rattle.elem_core.specs.declared.TheConstants.{NEWLINE}
use Rattle.node_heap.specs.Links.{count}
use Rattle.node_heap.proofs.Counts.{test_other, count-cons as link-cons}
use Rattle.node_heap.specs.Forms.{Forms, cell, node, pair}
use Rattle.rrb_core.specs.Seq.{height_in, seq, IsWellShaped}
use Rattle.champ_chain.specs.Entry.{Entry, has_key, link_with, AreDistinct}
use Rattle.champ_chain.proofs.SetLemmas.{count-cons}
use Rattle.champ_trie.specs.Trie.{code_by}
use Rattle.champ_kinds.proofs.PairLemmas.{IsFound, found-pairs}
use Rattle.pool_text.specs.Rules.{Rules}
use Rattle.pool_check.proofs.TestLemmas.{not-both}
use Rattle.shell_terms.specs.Edit.{Bytes}
use Rattle.plain_space.specs.Workspace.{Named, Names, State, Workspace}
use Rattle.state_rows.specs.Reading.{StandsIfThere, IsVectorOver, IsText, AreLines, IsTrieOfNamesBy, IsNamedBy, AreNamesBy, IsStateBy, IsHistoryBy}
use Rattle.state_rows.specs.Standing.{IsBase, StandForBy}
use Rattle.state_rows.proofs.CoverRows.{is_loose, trie_root, Covered as IsCovered, cell-known, pair-known, state-known, vector-known, trie-known}

-- a name may stand in a cell
pub name-cell : (name : Bytes) → IsName name → IsCell name
name-cell name is = record {
  unbroken = λ there. not-both (All-contains (λ b. is_name_byte b ≡ true) name NEWLINE is.alphabet there);
  short = omega (arith, is.short);
}

tied : (key : Bytes) → is_eq (slice_cmp nat_cmp key key) ≡ true
tied key = ap is_eq (tied_itself nat_list_cmp_total key)

count-index : {X : Type 0} (q : X → Bool) (xs : List X) (i : ℕ) (d : X) → i < length xs → q (get_or xs i d) ≡ true → 1 ≤ count_by q xs
count-index q [] i d low passes = absurd (omega (arith, low))
count-index q (x ∷ xs) zero d low passes = let one : Bool → ℕ = λ b. cond b 1 0 in omega (arith, count-cons q x xs, ap one passes)
count-index q (x ∷ xs) (suc i) d low passes = omega (arith, count-cons q x xs, count-index q xs i d (omega (arith, low)) passes)

-- of entries with different keys each is the one that its key finds
pub found-itself : (E : List (Entry Bytes)) → AreDistinct (slice_cmp nat_cmp) E → (i : ℕ) (d : Entry Bytes) → i < length E → link_with (slice_cmp nat_cmp) (get_or E i d).key E ≡ Some (get_or E i d).link
found-itself [] distinct i d low = absurd (omega (arith, low))
found-itself (e ∷ es) distinct zero d low = ap (λ t. option_map (λ (x : Entry Bytes). x.link) (cond t (Some e) (find (has_key (slice_cmp nat_cmp) e.key) es))) (tied e.key)
found-itself (e ∷ es) distinct (suc i) d low = elim (cases_Bool (has_key (slice_cmp nat_cmp) key e)) as (λ _. link_with (slice_cmp nat_cmp) key (e ∷ es) ≡ Some (get_or es i d).link) [
  | inl both ↦ absurd (let one : Bool → ℕ = λ b. cond b 1 0 in omega (arith, distinct.once key, count-cons (has_key (slice_cmp nat_cmp) key) e es, ap one both, count-index (has_key (slice_cmp nat_cmp) key) es i d (omega (arith, low)) (tied key)))
  | inr other ↦
      ap (λ t. option_map (λ (x : Entry Bytes). x.link) (cond t (Some e) (find (has_key (slice_cmp nat_cmp) key) es))) other
      ∙ found-itself es (record { once = λ k. omega (arith, distinct.once k, count-cons (has_key (slice_cmp nat_cmp) k) e es) }) i d (omega (arith, low))
]
  where
    key : Bytes
    key = (get_or es i d).key

module _ (F : Forms Bytes) (IsVector : ℕ → Type 0) (bits : ℕ) {X : Type 0} (IsValue : ℕ → X → Type 0) where
  -- the entry is a pair of a cell of its key, which is a name, and the link of what the finite map has there
  pub record IsBound (m : Named X) (e : Entry Bytes) : Type 0 where
    pub name : IsName e.key
    pub key_cell : ℕ
    pub value : ℕ
    pub cell_row : F key_cell ≡ Some (cell e.key)
    pub row : F e.link ≡ Some (node pair (key_cell ∷ value ∷ []))
    pub thing : X
    pub found : map.get m e.key ≡ Some thing
    pub is : IsValue value thing

  there-is : (l : ℕ) (o : Option X) → StandsIfThere IsValue (Some l) o → (x : X) × (o ≡ Some x) × IsValue l x
  there-is l None stands = absurd stands
  there-is l (Some x) stands = (x, refl, stands)

  -- so is each entry of a map
  pub entries-bound : {rules : Rules} (l : ℕ) (m : Named X) (is : IsNamedBy rules F IsVector bits IsValue l m) → All (IsBound m) is.entries
  entries-bound l m is = λ i d low.
      let key : Bytes = (get_or is.entries i d).key in
      let found : IsFound F (slice_cmp nat_cmp) key is.entries is.bindings (get_or is.entries i d).link = found-pairs F (slice_cmp nat_cmp) key is.entries is.bindings (get_or is.entries i d).link is.pairs (found-itself is.entries is.trie.trie.distinct i d low) in
      let same : found.found ≡ key = sym (slice_cmp-IsAntisymmetric nat_cmp-IsAntisymmetric key found.found found.same) in
      let there = there-is found.value (map.get m key) (subst (λ o. StandsIfThere IsValue o (map.get m key)) found.here (is.reads key)) in
      record {
        name = is.trie.names i d low;
        key_cell = found.pair.key_cell;
        value = found.value;
        cell_row = found.pair.cell ∙ ap (λ k. Some (cell k)) same;
        row = found.pair.row;
        thing = there.0;
        found = there.1;
        is = there.2;
      }

-- a link of the first list goes with something of the second
pub zip-at : {X : Type 0} (R : ℕ → X → Type 0) (ks : List ℕ) (xs : List X) → AllZip R ks xs → (k : ℕ) → 0 < count k ks → (x : X) × R k x
zip-at R [] xs zip k some = absurd (omega (arith, some))
zip-at R (j ∷ ks) [] zip k some = absurd zip
zip-at {X} R (j ∷ ks) (x ∷ xs) zip k some = elim (cases_eq j k) as (λ _. (y : X) × R k y) [
  | inl same ↦ (x, subst (λ n. R n x) same zip.0)
  | inr other ↦ zip-at R ks xs zip.1 k (omega (arith, some, link-cons k j ks, test_other j k other))
]

module _ (rules : Rules) (F : Forms Bytes) (bits : ℕ) where
  -- the row may be linked to, and all that it reaches is known, by the rules and so many bits of their codes
  abbrev pub Covered : ℕ → Type 0
  Covered = IsCovered F (code_by rules.code_of bits) rules.deepest

  root-known : (l : ℕ) (E : List (Entry Bytes)) → IsTrieOfNamesBy rules F (IsWellShaped F) bits l E → All (λ e. is_loose (F e.link) ≡ true) E → All (λ e. Covered e.link) E → Covered l
  root-known l E is loose each = (
    trie_root (record { entries = E; trie = is.trie; loose = loose }),
    trie-known F (code_by rules.code_of bits) rules.deepest (rules.deepest + 1) 0 l 0 E (omega arith) is.trie.trie (λ i d low. omega arith) (λ some. absurd (omega (arith, some))) (λ i d low. (each i d low).1),
  )

  named-known : {X : Type 0} (IsValue : ℕ → X → Type 0) → ((l : ℕ) (x : X) → IsValue l x → Covered l) → (l : ℕ) (m : Named X) → IsNamedBy rules F (IsWellShaped F) bits IsValue l m → Covered l
  named-known IsValue each l m is =
      root-known l is.entries is.trie (λ i d low. ap is_loose (entries-bound F (IsWellShaped F) bits IsValue l m is i d low).row)
      (λ i d low.
      let bound = entries-bound F (IsWellShaped F) bits IsValue l m is i d low in
      pair-known F (code_by rules.code_of bits) rules.deepest (get_or is.entries i d).link bound.key_cell bound.value bound.row
      (cell-known F (code_by rules.code_of bits) rules.deepest bound.key_cell (get_or is.entries i d).key bound.cell_row (name-cell (get_or is.entries i d).key bound.name)) (each bound.value bound.thing bound.is))

  names-known : (l : ℕ) (names : Names) → AreNamesBy rules F (IsWellShaped F) bits l names → Covered l
  names-known l names is =
      root-known l is.entries is.trie (λ i d low. ap is_loose (is.cells i d low))
      (λ i d low. cell-known F (code_by rules.code_of bits) rules.deepest (get_or is.entries i d).link (get_or is.entries i d).key (is.cells i d low) (name-cell (get_or is.entries i d).key (is.trie.names i d low)))

  elements-known : {X : Type 0} (IsValue : ℕ → X → Type 0) → ((l : ℕ) (x : X) → IsValue l x → Covered l) → (l : ℕ) (xs : List X) → IsVectorOver F (IsWellShaped F) bits IsValue l xs → Covered l
  elements-known IsValue each l xs is =
      vector-known F (code_by rules.code_of bits) rules.deepest (height_in F l) l is.vector.low is.vector.well is.vector.short
      (λ k some. let with = zip-at IsValue (seq F l) xs is.values k some in each k with.0 with.1)

  lines-known : (l : ℕ) (xs : List Bytes) → AreLines F (IsWellShaped F) bits l xs → Covered l
  lines-known = elements-known (IsText F (IsWellShaped F) bits) (λ l text is. cell-known F (code_by rules.code_of bits) rules.deepest l text is.row is.line)

  state-row-known : (l : ℕ) (now : State) → IsStateBy rules F (IsWellShaped F) bits l now → Covered l
  state-row-known l now is =
      state-known F (code_by rules.code_of bits) rules.deepest l is.buffers is.stars is.row (named-known (AreLines F (IsWellShaped F) bits) lines-known is.buffers now.buffers is.buffers_are) (names-known is.stars now.stars is.stars_are)

  base-known : (base : List ℕ) (now : Option State) → IsBase (IsStateBy rules F (IsWellShaped F) bits) base now → All Covered base
  base-known [] None is = All-nil Covered
  base-known [] (Some now) is = absurd is
  base-known (l ∷ []) None is = absurd is
  base-known (l ∷ []) (Some now) is = All-cons Covered l [] (state-row-known l now is) (All-nil Covered)
  base-known (l ∷ m ∷ ls) None is = absurd is
  base-known (l ∷ m ∷ ls) (Some now) is = absurd is

  pub roots-known : (roots : List ℕ) (W : Workspace) → StandForBy rules F (IsWellShaped F) bits roots W → All Covered roots
  roots-known [] W is = absurd is
  roots-known (c ∷ []) W is = absurd is
  roots-known (c ∷ v ∷ []) W is = absurd is
  roots-known (c ∷ v ∷ u ∷ []) W is = absurd is
  roots-known (c ∷ v ∷ u ∷ r ∷ base) W is =
      let history-known : (l : ℕ) (states : List State) → IsHistoryBy rules F (IsWellShaped F) bits l states → Covered l = elements-known (IsStateBy rules F (IsWellShaped F) bits) state-row-known in
      All-cons Covered c (v ∷ u ∷ r ∷ base) (state-row-known c W.current is.0)
      (All-cons Covered v (u ∷ r ∷ base) (named-known (IsStateBy rules F (IsWellShaped F) bits) state-row-known v W.versions is.1)
      (All-cons Covered u (r ∷ base) (history-known u W.undo is.2)
      (All-cons Covered r base (history-known r W.redo is.3) (base-known base W.base is.4))))
