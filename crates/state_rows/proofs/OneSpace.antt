-- What rows stand for is one value: one text, one list of lines, one state, one workspace.
use Rattle.std.proofs.Common.{◌≡◌, ℕ, ◌+◌, List, [], ◌∷◌, Option, Some, None, refl, ap, sym, subst, ◌∙◌}
use Rattle.std.specs.Prelude.{is_some, option_map}
use Rattle.std.specs.List.{AllZip}
use Rattle.std.specs.Ordering.{nat_cmp}
use Rattle.std.specs.Cmp.Lexicographic.{slice_cmp}
use Rattle.std.specs.FinMap as map
use Rattle.std.specs.FinMap.{nat_cmp-IsAntisymmetric, slice_cmp-IsAntisymmetric, same_map}
use Rattle.std.proofs.lemmas.Cmp.{nat_list_cmp_total}
use Rattle.node_heap.specs.Forms.{Forms, cell, node, pair, state}
use Rattle.rrb_core.specs.Seq.{seq}
use Rattle.champ_chain.specs.Entry.{Entry, has_key, link_with}
use Rattle.champ_chain.proofs.SetLemmas.{same-find}
use Rattle.champ_trie.specs.Trie.{code_by}
use Rattle.champ_kinds.specs.Binding.{Binding, value_with}
use Rattle.champ_kinds.specs.Kinds.{IsPair}
use Rattle.champ_kinds.proofs.PairLemmas.{found-pairs, absent-map}
use Rattle.champ_kinds.proofs.ZipLemmas.{zip-unique}
use Rattle.pool_text.specs.Rules.{Rules, present_rules}
use Rattle.pool_check.proofs.TestLemmas.{not-both}
use Rattle.shell_terms.specs.Edit.{Bytes}
use Rattle.plain_space.specs.Workspace.{Named, Names, State, Workspace}
use Rattle.state_rows.specs.Reading.{StandsIfThere, IsVectorOver, IsText, AreLines, IsTrieOfNamesBy, IsNamedBy, AreNamesBy, IsStateBy}
use Rattle.state_rows.specs.Standing.{IsBase, StandForBy, StandFor}
use Rattle.state_rows.proofs.TrieSets.{one-set}

-- a link stands for one value
abbrev pub IsOne : {X : Type 0} → (ℕ → X → Type 0) → Type 0
IsOne {X} Is = (l : ℕ) (x y : X) → Is l x → Is l y → x ≡ y

one-there : {X : Type 0} (Is : ℕ → X → Type 0) → IsOne Is → (o : Option ℕ) (a b : Option X) → StandsIfThere Is o a → StandsIfThere Is o b → a ≡ b
one-there Is one None None None first second = refl
one-there Is one None None (Some y) first second = absurd second
one-there Is one None (Some x) b first second = absurd first
one-there Is one (Some l) None b first second = absurd first
one-there Is one (Some l) (Some x) None first second = absurd second
one-there Is one (Some l) (Some x) (Some y) first second = ap Some (one l x y first second)

-- a set has nothing at a name but that the name is there
pub nothing-else : (a b : Option (Unit {0})) → is_some a ≡ is_some b → a ≡ b
nothing-else None None same = refl
nothing-else None (Some y) same = absurd (not-both same)
nothing-else (Some x) None same = absurd (not-both (sym same))
nothing-else (Some x) (Some y) same = refl

pub same-names : {X : Type 0} (m n : Named X) → ((name : Bytes) → map.get m name ≡ map.get n name) → m ≡ n
same-names m n same = same_map nat_list_cmp_total (slice_cmp-IsAntisymmetric nat_cmp-IsAntisymmetric) m n same

module _ (F : Forms Bytes) (V : ℕ → Type 0) (bits : ℕ) where
  one-text : IsOne (IsText F V bits)
  one-text l x y first second = let both : Some (cell x) ≡ Some (cell y) = sym first.row ∙ second.row in cc

  one-vector : {X : Type 0} (Is : ℕ → X → Type 0) → IsOne Is → IsOne (IsVectorOver F V bits Is)
  one-vector Is one l xs ys first second = zip-unique Is one (seq F l) xs ys first.values second.values

  one-value : (E D : List (Entry Bytes)) (M N : List (Binding Bytes)) (name : Bytes) → link_with (slice_cmp nat_cmp) name E ≡ link_with (slice_cmp nat_cmp) name D → AllZip (IsPair F) E M → AllZip (IsPair F) D N
      → value_with (slice_cmp nat_cmp) name M ≡ value_with (slice_cmp nat_cmp) name N
  one-value E D M N name links first second = by_link (link_with (slice_cmp nat_cmp) name E) refl
    where
      second-link : (x k v j w : ℕ) → F x ≡ Some (node pair (k ∷ v ∷ [])) → F x ≡ Some (node pair (j ∷ w ∷ [])) → v ≡ w
      second-link x k v j w is as_well = let both : Some (node pair (k ∷ v ∷ [])) ≡ Some (node pair (j ∷ w ∷ [])) = sym is ∙ as_well in cc

      by_link : (o : Option ℕ) → link_with (slice_cmp nat_cmp) name E ≡ o → value_with (slice_cmp nat_cmp) name M ≡ value_with (slice_cmp nat_cmp) name N
      by_link None is = absent-map F (slice_cmp nat_cmp) name E M first is ∙ sym (absent-map F (slice_cmp nat_cmp) name D N second (sym links ∙ is))
      by_link (Some x) is =
          let here = found-pairs F (slice_cmp nat_cmp) name E M x first is in
          let there = found-pairs F (slice_cmp nat_cmp) name D N x second (sym links ∙ is) in
          here.here ∙ ap Some (second-link x here.pair.key_cell here.value there.pair.key_cell there.value here.pair.row there.pair.row) ∙ sym there.here

  module _ {rules : Rules} where
    -- the entries of one trie find the same
    one-link : (l : ℕ) (E D : List (Entry Bytes)) → IsTrieOfNamesBy rules F V bits l E → IsTrieOfNamesBy rules F V bits l D → (name : Bytes) → link_with (slice_cmp nat_cmp) name E ≡ link_with (slice_cmp nat_cmp) name D
    one-link l E D first second name =
        ap (option_map (λ (e : Entry Bytes). e.link))
        (same-find (has_key (slice_cmp nat_cmp) name) E D (one-set (code_by rules.code_of bits) F (rules.deepest + 1) 0 l E D first.trie.trie second.trie.trie) (first.trie.distinct.once name))

    one-named : {X : Type 0} (Is : ℕ → X → Type 0) → IsOne Is → IsOne (IsNamedBy rules F V bits Is)
    one-named Is one l m n first second =
        same-names m n
        (λ name.
        let same = one-value first.entries second.entries first.bindings second.bindings name (one-link l first.entries second.entries first.trie second.trie name) first.pairs second.pairs in
        one-there Is one (value_with (slice_cmp nat_cmp) name first.bindings) (map.get m name) (map.get n name) (first.reads name) (subst (λ o. StandsIfThere Is o (map.get n name)) (sym same) (second.reads name)))

    one-names : IsOne (AreNamesBy rules F V bits)
    one-names l m n first second =
        same-names m n (λ name. nothing-else (map.get m name) (map.get n name) (sym (first.reads name) ∙ ap is_some (one-link l first.entries second.entries first.trie second.trie name) ∙ second.reads name))

    one-state : IsOne (IsStateBy rules F V bits)
    one-state l x y first second =
        let both : Some (node state (first.buffers ∷ first.stars ∷ [])) ≡ Some (node state (second.buffers ∷ second.stars ∷ [])) = sym first.row ∙ second.row in
        let names : second.buffers ≡ first.buffers = cc in
        let stars : second.stars ≡ first.stars = cc in
        let made : Named (List Bytes) → Names → State = λ m s. record { buffers = m; stars = s } in
        let buffers = one-named (AreLines F V bits) (one-vector (IsText F V bits) one-text) first.buffers x.buffers y.buffers first.buffers_are (subst (λ k. IsNamedBy rules F V bits (AreLines F V bits) k y.buffers) names second.buffers_are) in
        let starred = one-names first.stars x.stars y.stars first.stars_are (subst (λ k. AreNamesBy rules F V bits k y.stars) stars second.stars_are) in
        ap (λ m. made m x.stars) buffers ∙ ap (λ s. made y.buffers s) starred

  one-base : (rules : Rules) (base : List ℕ) (a b : Option State) → IsBase (IsStateBy rules F V bits) base a → IsBase (IsStateBy rules F V bits) base b → a ≡ b
  one-base rules [] None None first second = refl
  one-base rules [] None (Some y) first second = absurd second
  one-base rules [] (Some x) b first second = absurd first
  one-base rules (l ∷ []) None b first second = absurd first
  one-base rules (l ∷ []) (Some x) None first second = absurd second
  one-base rules (l ∷ []) (Some x) (Some y) first second = ap Some (one-state l x y first second)
  one-base rules (l ∷ m ∷ ls) None b first second = absurd first
  one-base rules (l ∷ m ∷ ls) (Some x) b first second = absurd first

  pub one-space-by : (rules : Rules) (roots : List ℕ) (x y : Workspace) → x.history ≡ y.history → StandForBy rules F V bits roots x → StandForBy rules F V bits roots y → x ≡ y
  one-space-by rules [] x y same first second = absurd first
  one-space-by rules (c ∷ []) x y same first second = absurd first
  one-space-by rules (c ∷ v ∷ []) x y same first second = absurd first
  one-space-by rules (c ∷ v ∷ u ∷ []) x y same first second = absurd first
  one-space-by rules (c ∷ v ∷ u ∷ r ∷ base) x y same first second =
      let made : State → Named State → List State → List State → ℕ → Option State → Workspace = λ now kept back forth most start. record { current = now; versions = kept; undo = back; redo = forth; history = most; base = start } in
      let current = one-state c x.current y.current first.0 second.0 in
      let versions = one-named (IsStateBy rules F V bits) one-state v x.versions y.versions first.1 second.1 in
      let undo = one-vector (IsStateBy rules F V bits) one-state u x.undo y.undo first.2 second.2 in
      let redo = one-vector (IsStateBy rules F V bits) one-state r x.redo y.redo first.3 second.3 in
      let start = one-base rules base x.base y.base first.4 second.4 in
      ap (λ s. made s x.versions x.undo x.redo x.history x.base) current ∙ ap (λ s. made y.current s x.undo x.redo x.history x.base) versions
      ∙ ap (λ s. made y.current y.versions s x.redo x.history x.base) undo ∙ ap (λ s. made y.current y.versions y.undo s x.history x.base) redo
      ∙ ap (λ n. made y.current y.versions y.undo y.redo n x.base) same ∙ ap (λ s. made y.current y.versions y.undo y.redo y.history s) start

  -- by the rules by which pools are made
  pub one-space : (roots : List ℕ) (x y : Workspace) → x.history ≡ y.history → StandFor F V bits roots x → StandFor F V bits roots y → x ≡ y
  one-space = one-space-by present_rules
