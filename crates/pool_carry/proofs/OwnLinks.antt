-- In a valid pool the rows that are none of a trie, and the roots, lead to such rows alone, and to the roots of tries of such rows.
use Rattle.std.proofs.Common.{◌≡◌, ℕ, suc, ◌+◌, ◌<◌, true, false, List, [], ◌∷◌, Option, Some, None, refl, ap, sym, subst, ◌∙◌, arith, inl, inr}
use Rattle.std.specs.List.{All}
use Rattle.std.specs.Ordering.{nat_cmp}
use Rattle.std.specs.Cmp.Lexicographic.{slice_cmp}
use Rattle.std.proofs.lemmas.List.Elements.{All-nil, All-cons, All-head, All-tail}
use Rattle.node_heap.specs.Links.{count, HasLink, LeadsDown}
use Rattle.node_heap.specs.Forms.{Form, Forms, cell, node, leaf, inner, trie, chain, pair, state, links_of, links_in}
use Rattle.champ_chain.specs.Entry.{Entry}
use Rattle.champ_chain.specs.Chain.{AreChainRows}
use Rattle.champ_chain.proofs.SetLemmas.{same-sym}
use Rattle.champ_trie.specs.Trie.{IsTrie, code_by}
use Rattle.pool_text.specs.Rows.{Bytes}
use Rattle.pool_text.specs.Rules.{Rules}
use Rattle.pool_text.specs.Pool.{forms_in, row_count}
use Rattle.pool_text.specs.declared.pool.Pool.{Pool}
use Rattle.pool_check.specs.Tries.{entries_below}
use Rattle.pool_check.specs.Kinds.{is_trie_root}
use Rattle.pool_check.specs.Damages.{IsValidBy}
use Rattle.pool_check.proofs.PoolLaws.{get-low}
use Rattle.pool_check.proofs.TestLemmas.{leads-down, not-both}
use Rattle.pool_check.proofs.VectorReadings.{all-at}
use Rattle.plain_space.specs.Workspace.{Workspace, HasBoundedUndo}
use Rattle.state_rows.specs.Standing.{StandsForBy}
use Rattle.state_rows.proofs.CoverRows.{is_loose, IsWhole, loose_row, trie_root, IsKnown, known_cell, known_vector, known_trie, known_chain, known_pair, known_state}
use Rattle.state_rows.proofs.CoverSpace.{Covered, roots-known}
use Rattle.state_rows.proofs.PassesKinds.{trie-form}
use Rattle.state_rows.proofs.PassesTries.{entries-same}
use Rattle.state_rows.proofs.PassesSpace.{row-known}
use Rattle.state_rows.proofs.ValidSpace.{valid-stands}
use Rattle.pool_carry.specs.Carried.{is_of_trie}
use Rattle.pool_carry.proofs.Matched.{EachOwn, own-same, LeadsToOwn}

-- a loose row is there, and none of a trie
loose-there : (r : Option (Form Bytes)) → is_loose r ≡ true → (row : Form Bytes) × (r ≡ Some row)
loose-there None loose = absurd (not-both loose)
loose-there (Some row) loose = (row, refl)

loose-own : (r : Option (Form Bytes)) → is_loose r ≡ true → is_of_trie r ≡ false
loose-own None loose = absurd (not-both loose)
loose-own (Some (cell text)) loose = refl
loose-own (Some (node leaf links)) loose = refl
loose-own (Some (node (inner height) links)) loose = refl
loose-own (Some (node (trie depth entries nodes) links)) loose = absurd (not-both loose)
loose-own (Some (node chain links)) loose = absurd (not-both loose)
loose-own (Some (node pair links)) loose = refl
loose-own (Some (node state links)) loose = refl

-- the first row of a chain is a row of a trie
chain-row : (F : Forms Bytes) (l : ℕ) (es : List (Entry Bytes)) → AreChainRows F (Some l) es → is_of_trie (F l) ≡ true
unfolding AreChainRows
chain-row F l [] rows = absurd (let none : Some l ≡ None = rows in cc)
chain-row F l (e ∷ es) rows = let same : rows.link ≡ l = (let both : Some rows.link ≡ Some l = sym rows.here in cc) in ap is_of_trie (ap F (sym same) ∙ rows.row)

module _ (from to : Rules) (bits : ℕ) (P : Pool) (valid : IsValidBy from P) where
  abbrev F : Forms Bytes
  F = forms_in P

  abbrev code : Bytes → ℕ
  code = code_by from.code_of P.bits

  falls : LeadsDown (λ l. l) (links_in F)
  falls = leads-down P valid.lead_back

  stands : (W : Workspace) × StandsForBy from P W × HasBoundedUndo W
  stands = valid-stands P valid

  loose-low : (k : ℕ) → is_loose (F k) ≡ true → k < row_count P
  loose-low k loose = let row = loose-there (F k) loose in get-low P.rows k row.0 row.1

  each-own : (E : List (Entry Bytes)) → All (λ e. is_loose (F e.link) ≡ true) E → EachOwn to bits P E
  each-own [] all = tt
  each-own (e ∷ es) all =
      let Loose = λ (d : Entry Bytes). is_loose (F d.link) ≡ true in
      let first : is_loose (F e.link) ≡ true = All-head Loose e es all in
      (loose-low e.link first, loose-own (F e.link) first, each-own es (All-tail Loose e es all))

  whole-leads : (k : ℕ) → IsWhole F code from.deepest k → LeadsToOwn to bits P k
  whole-leads k (loose_row loose) = record { low = loose-low k loose; kind = inl (loose-own (F k) loose) }
  whole-leads k (trie_root root) =
      let one_more : from.deepest + 1 ≡ suc from.deepest = omega arith in
      let row = trie-form F code from.deepest 0 k root.entries (subst (λ n. IsTrie (slice_cmp nat_cmp) code F n 0 k root.entries) one_more root.trie.trie) in
      let low : k < row_count P = get-low P.rows k _ row.3 in
      let own : EachOwn to bits P (entries_below (row_count P) F k) =
      own-same to bits P root.entries (entries_below (row_count P) F k)
      (same-sym (entries_below (row_count P) F k) root.entries (entries-same F falls (row_count P) code from.deepest (from.deepest + 1) 0 k root.entries low root.trie.trie))
      (each-own root.entries root.loose) in
      record { low = low; kind = inr (ap is_trie_root row.3, own) }

  one-of : (j m : ℕ) → IsWhole F code from.deepest j → IsWhole F code from.deepest m → (k : ℕ) → 0 < count k (j ∷ m ∷ []) → IsWhole F code from.deepest k
  one-of j m first second =
      let Whole = IsWhole F code from.deepest in
      all-at Whole (j ∷ m ∷ []) (All-cons Whole j (m ∷ []) first (All-cons Whole m [] second (All-nil Whole)))

  known-leads : (l : ℕ) → IsKnown F code from.deepest l → is_of_trie (F l) ≡ false → (k : ℕ) → HasLink (links_in F) l k → LeadsToOwn to bits P k
  known-leads l (known_cell text is line) own k has = absurd (omega (arith, has, ap (λ r. count k (links_of r)) is))
  known-leads l (known_vector height few well short whole) own k has = whole-leads k (whole k has)
  known-leads l (known_trie left depth c E levels is agree many) own k has = absurd (not-both (sym own ∙ ap is_of_trie (trie-form F code left depth l E is).3))
  known-leads l (known_chain c es rows rising agree) own k has = absurd (not-both (sym own ∙ chain-row F l es rows))
  known-leads l (known_pair j m is first second) own k has = whole-leads k (one-of j m first second k (omega (arith, has, ap (λ r. count k (links_of r)) is)))
  known-leads l (known_state j m is first second) own k has = whole-leads k (one-of j m first second k (omega (arith, has, ap (λ r. count k (links_of r)) is)))

  -- each link of a row that is none of a trie
  pub own-leads : (l k : ℕ) → l < row_count P → is_of_trie (F l) ≡ false → HasLink (links_in F) l k → LeadsToOwn to bits P k
  own-leads l k low own has = known-leads l (row-known from P stands.0 stands.1 valid.lead_back valid.in_order l low) own k has

  -- each root
  pub root-leads : (r : ℕ) → 0 < count r P.roots → LeadsToOwn to bits P r
  root-leads r there = whole-leads r (all-at (Covered from F P.bits) P.roots (roots-known from F P.bits P.roots stands.0 stands.1.0) r there).0
