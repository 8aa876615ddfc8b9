-- What owning the way to a buffer's lines makes of a state, and what a later edit there does.
use Rattle.std.proofs.Common.{◌≡◌, ◌≢◌, ℕ, zero, suc, ◌+◌, ◌<◌, ◌≤◌, List, [], ◌∷◌, length, remove, get_or, Bool, true, false, cond, Option, Some, None, refl, sym, subst, ap, ◌∙◌, arith}
use Rattle.champ_trie.specs.declared.TheConstants.{ADD_NODES}
use Rattle.std.specs.Prelude.{option_map, slice_index, slice_set}
use Rattle.std.specs.List.{All, find}
use Rattle.std.specs.Ordering.{is_eq}
use Rattle.std.specs.declared.cmp.Ordering.TheVariants.{Equal}
use Rattle.std.specs.FinMap as finite
use Rattle.std.proofs.lemmas.List.Elements.{All-head, All-tail}
use Rattle.std.proofs.lemmas.List.Sums.{sum_by-cons}
use Rattle.elem_core.specs.declared.codes.TheConstants.{CODE_BITS}
use Rattle.elem_core.specs.Codes.{text_code}
use Rattle.elem_core.specs.Naming.{IsName}
use Rattle.node_heap.specs.Links.{count, HasLink, Reaches, here, below}
use Rattle.node_heap.specs.Forms.{Row, Form, cell, node, pair, state, form_of, links_of, head_of, value_of}
use Rattle.node_heap.specs.Heap.{Heap, row_at, form_at, links_at, holds_at, owners_at, places_in, IsGraph}
use Rattle.node_heap.specs.Calls.{KeepsBelow, KeepsToNeed, MakesWhatCame}
use Rattle.node_heap.specs.InPlace.{child_at, OwnsDown, Changes}
use Rattle.node_heap.specs.declared.owner.Owner.TheVariants.{Child as by_place}
use Rattle.node_heap.specs.Owner.{relinked, with_root, links_beside, KeepsBeside}
use Rattle.node_heap.proofs.Counts.{test_same}
use Rattle.node_heap.proofs.BuildLemmas.{count-cons}
use Rattle.node_heap.proofs.Edited.{Changes-path, KeepsBelow-sibling}
use Rattle.node_heap.proofs.Frames.{KeepsBelow-trans}
use Rattle.node_heap.proofs.Reach.{Reaches-trans}
use Rattle.node_heap.proofs.GraphLemmas.{IsGraph-acyclic}
use Rattle.rrb_core.specs.Vector.{IsGoodVector}
use Rattle.rrb_core.proofs.Stays.{links-form}
use Rattle.champ_chain.specs.Entry.{Entry, has_key, key_at, key_of}
use Rattle.champ_chain.proofs.SetLemmas.{same-find}
use Rattle.champ_trie.specs.Trie.{code_by}
use Rattle.champ_trie.proofs.CanonLemmas.{has-one-set}
use Rattle.champ_kinds.specs.Root.{Root}
use Rattle.edit_trie.proofs.MapLemmas.{found-link, zip-found}
use Rattle.std.specs.Cmp.Lexicographic.{nat_list_cmp_total}
use Rattle.champ_kinds.specs.Binding.{Binding, alike_keys, bind, binds, value_with}
use Rattle.champ_kinds.specs.Kinds.{IsMapOf}
use Rattle.edit_trie.specs.Edit.{by_bits, IsPairOfKey, OwnsPair}
use Rattle.edit_trie.specs.Laws.{KeepsBesideAndValues, EditsKeepValues, PairChangesBind, PairChangesKeepValues}
use Rattle.shell_terms.specs.Edit.{Bytes}
use Rattle.plain_space.specs.Workspace.{State, lines_of, with_lines}
use Rattle.plain_space.specs.Cost.{alike_buffers}
use Rattle.state_rows.specs.Reading.{StandsIfThere}
use Rattle.state_rows.specs.InHeap.{AreLinesIn, IsStateIn}
use Rattle.state_rows.proofs.Keys.{by_bytes, same-name}
use Rattle.state_rows.proofs.Contents.{map-at, bindings-alike}
use Rattle.state_rows.proofs.Staying.{states-stay}
use Rattle.state_rows.proofs.Placed.{state-placed}
use Rattle.state_rows.proofs.LinesPlaced.{OwnsBelow, at-owner, same-test, other-test, sole-way}

second-counts : (a b : ℕ) → 0 < count b (a ∷ b ∷ [])
second-counts a b = omega (arith, count-cons b a (b ∷ []), count-cons b b [], test_same b b refl)

stands-both : (h : Heap Bytes) (bits : ℕ) (o : Option ℕ) (p : Option (List Bytes)) {v : ℕ} {xs : List Bytes} → StandsIfThere (AreLinesIn h bits) o p → o ≡ Some v → p ≡ Some xs → AreLinesIn h bits v xs
stands-both h bits o p {v} is first second = subst (λ (q : Option (List Bytes)). StandsIfThere (AreLinesIn h bits) (Some v) q) second (subst (λ (q : Option ℕ). StandsIfThere (AreLinesIn h bits) q p) first is)

-- what holds of each binding holds of the one that was found
value-all : (name : Bytes) (P : Binding Bytes → Type 0) (M : List (Binding Bytes)) (v : ℕ) → All P M → value_with by_bytes name M ≡ Some v → (b : Binding Bytes) × P b × (b.value ≡ v) × (is_eq (by_bytes name b.key) ≡ true)
value-all name P [] v all is = absurd (let h = is in cc)
value-all name P (b ∷ M) v all is = at (is_eq (by_bytes name b.key)) refl (value-all name P M v (All-tail P b M all)) is
  where
    at : (t : Bool) → is_eq (by_bytes name b.key) ≡ t → (value_with by_bytes name M ≡ Some v → (b : Binding Bytes) × P b × (b.value ≡ v) × (is_eq (by_bytes name b.key) ≡ true)) → option_map (λ (b : Binding Bytes). b.value) (cond t (Some b) (find (binds by_bytes name) M)) ≡ Some v
        → (b : Binding Bytes) × P b × (b.value ≡ v) × (is_eq (by_bytes name b.key) ≡ true)
    at true same rest is = (b, All-head P b M all, (let h = is in cc), same)
    at false other rest is = rest is

-- the places of a link in one row are among all its places
places-count : {T : Type 0} (rows : List (Option (Row T))) (l k : ℕ) → count k (links_of (get_or rows l None)) ≤ places_in rows k
places-count [] l k = omega arith
places-count (r ∷ rs) zero k = omega (arith, sum_by-cons (λ o. count k (links_of o)) r rs)
places-count (r ∷ rs) (suc l) k = omega (arith, places-count rs l k, sum_by-cons (λ o. count k (links_of o)) r rs)

-- a row with another link at its first place
abbrev relinked_form : ℕ → ℕ → Option (Form Bytes) → Option (Form Bytes)
relinked_form i x None = None
relinked_form i x (Some (cell y)) = Some (cell y)
relinked_form i x (Some (node kind links)) = Some (node kind (slice_set links i x))

relinked-form : (i x : ℕ) (r : Option (Row Bytes)) → option_map form_of (relinked i x r) ≡ relinked_form i x (option_map form_of r)
relinked-form i x None = refl
relinked-form i x (Some (cell y)) = refl
relinked-form i x (Some (node head links)) = refl

relinked-head : (i x : ℕ) (r : Option (Row Bytes)) → head_of (relinked i x r) ≡ head_of r
relinked-head i x None = refl
relinked-head i x (Some (cell y)) = refl
relinked-head i x (Some (node head links)) = refl

module _ {T : Type 0} where
  -- a way down that doesn't come to a row goes beside its links
  way-off : (h : Heap T) (p index x m : ℕ) → ¬ Reaches (links_at h) x p → Reaches (links_at h) x m → Reaches (links_beside h (by_place p index)) x m
  way-off h p index x _ off (here _) = here x
  way-off h p index x m off (below _ k _ has down) =
      let other : x ≢ p = λ e. off (subst (λ j. Reaches (links_at h) x j) e (here x)) in
      below x k m (subst (λ t. 0 < count k (cond t (remove (links_at h x) index) (links_at h x))) (sym (other-test x p other)) has) (way-off h p index k m (λ on. off (below x k p has on)) down)

  off-owner : (p r index m : ℕ) (row : Option (Row T)) → m ≢ p → with_root (by_place p index) r m row ≡ row
  off-owner p r index m row other = ap (λ t. cond t (relinked index r row) row) (other-test m p other)

module _ (keep : EditsKeepValues by_bytes text_code) {h1 h2 : Heap Bytes} {bits st p : ℕ} {s : State} {name : Bytes} {xs : List Bytes} (graph : IsGraph h1) (held : 0 < holds_at h1 st) (is : IsStateIn h1 bits st s) (fits : bits ≤ CODE_BITS)
    (found : lines_of s name ≡ Some xs) (own : OwnsPair by_bytes text_code (by_place st 0) bits h1 h2 (child_at h2 st 0) is.buffers_are.bindings name p) where
  links1 : links_at h1 st ≡ is.buffers ∷ is.stars ∷ []
  links1 = sym (links-form h1 st) ∙ ap links_of is.row

  map1 : IsMapOf by_bytes text_code h1 (by_bits bits (child_at h1 st 0)) is.buffers_are.bindings
  map1 = subst (λ (ks : List ℕ). IsMapOf by_bytes text_code h1 (by_bits bits (slice_index ks 0)) is.buffers_are.bindings) (sym links1) (map-at h1 (IsGoodVector h1) bits (AreLinesIn h1 bits) (by_bits bits is.buffers) is.buffers s.buffers fits is.buffers_are refl refl)

  kept : KeepsBesideAndValues by_bytes text_code (by_place st 0) h1 h2 (child_at h2 st 0) is.buffers_are.bindings
  kept = keep (by_place st 0) h1 h2 (child_at h2 st 0) bits is.buffers_are.bindings name graph (omega (arith, ap length links1)) map1 own.others

  form2 : form_at h2 st ≡ Some (node state (child_at h2 st 0 ∷ is.stars ∷ []))
  form2 = ap (option_map form_of) (kept.beside st st held (here st) ∙ at-owner st (child_at h2 st 0) 0 (row_at h1 st)) ∙ relinked-form 0 (child_at h2 st 0) (row_at h1 st) ∙ ap (relinked_form 0 (child_at h2 st 0)) is.row

  has-stars : HasLink (links_at h1) st is.stars
  has-stars = omega (arith, ap (count is.stars) links1, second-counts is.buffers is.stars)

  stars1 : KeepsBelow h1 h2 is.stars
  stars1 = λ m way.
      let off = IsGraph-acyclic h1 graph st is.stars has-stars in
      let other : m ≢ st = λ e. off (subst (λ j. Reaches (links_at h1) is.stars j) e way) in
      let first : HasLink (links_beside h1 (by_place st 0)) st is.stars =
      subst (λ t. 0 < count is.stars (cond t (remove (links_at h1 st) 0) (links_at h1 st))) (sym (same-test st)) (subst (λ (ks : List ℕ). 0 < count is.stars (remove ks 0)) (sym links1) (omega (arith, count-cons is.stars is.stars [], test_same is.stars is.stars refl))) in
      kept.beside st m held (below st is.stars m first (way-off h1 st 0 is.stars m off way)) ∙ off-owner st (child_at h2 st 0) 0 m (row_at h1 m) other

  values1 : (other : Bytes) (k : ℕ) → value_with by_bytes other is.buffers_are.bindings ≡ Some k → KeepsBelow h1 h2 k
  values1 other k at =
      let there = value-all other (λ b. KeepsBelow h1 h2 b.value) is.buffers_are.bindings k kept.below at in
      subst (λ j. KeepsBelow h1 h2 j) there.2 there.1

  lines2 : AreLinesIn h2 bits (child_at h2 p 1) xs
  lines2 = (states-stay h1 h2 bits (child_at h2 p 1) (values1 name (child_at h2 p 1) own.value)).lines xs (stands-both h1 bits (value_with by_bytes name is.buffers_are.bindings) (finite.get s.buffers name) (is.buffers_are.reads name) own.value found)

  links2 : links_at h2 st ≡ child_at h2 st 0 ∷ is.stars ∷ []
  links2 = sym (links-form h2 st) ∙ ap links_of form2

  module _ (binding : PairChangesBind by_bytes text_code) (apart : PairChangesKeepValues by_bytes text_code) (named : IsName name) (down : OwnsDown h2 st p) {n : ℕ} (changes : Changes st h1 h2 [] [] 0 n) (key_cell : ℕ)
      (row : form_at h2 p ≡ Some (node pair (key_cell ∷ child_at h2 p 1 ∷ []))) where
    held2 : 0 < holds_at h2 st
    held2 = omega (arith, changes.trades.holds st, held)

    pair-links : links_at h2 p ≡ key_cell ∷ child_at h2 p 1 ∷ []
    pair-links = sym (links-form h2 p) ∙ ap links_of row

    has-names : HasLink (links_at h2) st (child_at h2 st 0)
    has-names = omega (arith, ap (count (child_at h2 st 0)) links2, count-cons (child_at h2 st 0) (child_at h2 st 0) (is.stars ∷ []), test_same (child_at h2 st 0) (child_at h2 st 0) refl)

    has-stars2 : HasLink (links_at h2) st is.stars
    has-stars2 = omega (arith, ap (count is.stars) links2, second-counts (child_at h2 st 0) is.stars)

    reach : Reaches (links_at h2) st (child_at h2 st 0)
    reach = below st (child_at h2 st 0) (child_at h2 st 0) has-names (here (child_at h2 st 0))

    not-pair : st ≢ p
    not-pair e = let h = sym form2 ∙ ap (form_at h2) e ∙ row in cc

    apart-stars : is.stars ≢ child_at h2 st 0
    apart-stars e = absurd (omega (arith, own.top, places-count h2.rows st (child_at h2 st 0), ap (count (child_at h2 st 0)) links2, count-cons (child_at h2 st 0) (child_at h2 st 0) (is.stars ∷ []), count-cons (child_at h2 st 0) is.stars [], test_same (child_at h2 st 0) (child_at h2 st 0) refl, test_same (child_at h2 st 0) is.stars (sym e)))

    module _ (h3 : Heap Bytes) (v : ℕ) {c m : ℕ} {spent gained : List ℕ} (change : Changes p h2 h3 spent gained c m) (left : count st spent < holds_at h2 st) (beside : KeepsBeside (by_place p 1) v (λ _. 0) h2 h3) where
      row3 : row_at h3 p ≡ relinked 1 v (row_at h2 p)
      row3 = beside st p held2 (sole-way h2 p 1 changes.trades.graph st p down (here p)) ∙ at-owner p v 1 (row_at h2 p)

      form3 : form_at h3 p ≡ Some (node pair (key_cell ∷ v ∷ []))
      form3 = ap (option_map form_of) row3 ∙ relinked-form 1 v (row_at h2 p) ∙ ap (relinked_form 1 v) row

      links3 : links_at h3 p ≡ child_at h2 p 0 ∷ v ∷ []
      links3 = sym (links-form h3 p) ∙ ap links_of form3 ∙ ap (λ (ks : List ℕ). slice_index ks 0 ∷ v ∷ []) (sym pair-links)

      -- the key's cell is another row than the pair, and stays
      has-key : HasLink (links_at h2) p key_cell
      has-key = omega (arith, ap (count key_cell) pair-links, count-cons key_cell key_cell (child_at h2 p 1 ∷ []), test_same key_cell key_cell refl)

      not-key : key_cell ≢ p
      not-key e = IsGraph-acyclic h2 changes.trades.graph p key_cell has-key (subst (λ j. Reaches (links_at h2) key_cell j) e (here key_cell))

      cell3 : form_at h3 key_cell ≡ form_at h2 key_cell
      cell3 =
          let first : HasLink (links_beside h2 (by_place p 1)) p key_cell =
          subst (λ t. 0 < count key_cell (cond t (remove (links_at h2 p) 1) (links_at h2 p))) (sym (same-test p)) (subst (λ (ks : List ℕ). 0 < count key_cell (remove ks 1)) (sym pair-links) (omega (arith, count-cons key_cell key_cell [], test_same key_cell key_cell refl))) in
          ap (option_map form_of) (beside st key_cell held2 (Reaches-trans (links_beside h2 (by_place p 1)) st p key_cell (sole-way h2 p 1 changes.trades.graph st p down (here p)) (below p key_cell key_cell first (here key_cell))) ∙ off-owner p v 1 key_cell (row_at h2 key_cell) not-key)

      keys3 : key_at (form_at h3) p ≡ key_at (form_at h2) p
      keys3 = ap (key_of (form_at h3)) form3 ∙ ap value_of cell3 ∙ sym (ap (key_of (form_at h2)) row)

      map3 : IsMapOf by_bytes text_code h3 (by_bits bits (child_at h2 st 0)) (bind by_bytes is.buffers_are.bindings name v)
      map3 = binding h2 h3 (by_bits bits (child_at h2 st 0)) is.buffers_are.bindings name p v st spent gained c m changes.trades.graph own.map own.pair change left reach (ap head_of row3 ∙ relinked-head 1 v (row_at h2 p)) links3 keys3

      same3 : row_at h3 st ≡ row_at h2 st
      same3 = beside st st held2 (here st) ∙ off-owner p v 1 st (row_at h2 st) not-pair

      stars2 : KeepsBelow h2 h3 is.stars
      stars2 = KeepsBelow-sibling st (child_at h2 st 0) is.stars st changes.trades.graph own.top has-names has-stars2 apart-stars left (here st) (Changes-path own.down change).apart

      values2 : (other : Bytes) → is_eq (by_bytes other name) ≡ false → (k : ℕ) → value_with by_bytes other is.buffers_are.bindings ≡ Some k → KeepsBelow h2 h3 k
      values2 other unlike k at =
          let all = apart h2 h3 (by_bits bits (child_at h2 st 0)) is.buffers_are.bindings name p st spent gained c m changes.trades.graph own.map own.pair own.down change left reach in
          let there = value-all other (λ b. (by_bytes name b.key ≡ Equal → ⊥) → KeepsBelow h2 h3 b.value) is.buffers_are.bindings k all at in
          let differs : by_bytes name there.0.key ≡ Equal → ⊥ = λ e.
          let same = same-name name there.0.key (ap is_eq e) in
          let yes : is_eq (by_bytes other name) ≡ true = subst (λ (j : Bytes). is_eq (by_bytes other j) ≡ true) (sym same) there.3 in
          let h = sym unlike ∙ yes in cc in
          subst (λ j. KeepsBelow h2 h3 j) there.2 (there.1 differs)

      pub placed3 : {ys : List Bytes} → AreLinesIn h3 bits v ys → IsStateIn h3 bits st (with_lines s name ys)
      placed3 {ys} lines =
          state-placed is st (child_at h2 st 0) v name ys named (ap (option_map form_of) same3 ∙ form2) map3 lines (λ other unlike k at. KeepsBelow-trans h1 h2 h3 k (values1 other k at) (values2 other unlike k at)) (KeepsBelow-trans h1 h2 h3 is.stars stars1 stars2)

    pub owns-lines : (sole : owners_at h2 p ≡ 1) (makes : MakesWhatCame h1 h2) (spares : KeepsToNeed h1 h2 0 0) (few : n ≡ ADD_NODES + alike_buffers bits s name) → OwnsBelow h1 h2 bits st s name xs p
    owns-lines sole makes spares few = record {
      sole = sole;
      two = omega (arith, ap length pair-links);
      down = down;
      lines = lines2;
      changes = subst (λ k. Changes st h1 h2 [] [] 0 k) few changes;
      makes = makes;
      spares = spares;
      copies = own.gains;
      later = λ h3 v ys spent gained c m change left beside lines. placed3 h3 v change left beside lines;
    }

-- the row of the pair that a map has at a key
pub pair-row : {h : Heap Bytes} {r : Root} {M : List (Binding Bytes)} {name : Bytes} {p w : ℕ} → IsMapOf by_bytes text_code h r M → IsPairOfKey by_bytes text_code h r name p → value_with by_bytes name M ≡ Some w → (key_cell : ℕ) × (form_at h p ≡ Some (node pair (key_cell ∷ w ∷ [])))
pair-row {h} {r} {M} {name} {p} {w} map q at =
    let same = has-one-set by_bytes (code_by text_code r.bits) nat_list_cmp_total (form_at h) r.root map.entries q.entries map.rooted.trie q.rooted.trie in
    let found = found-link by_bytes name map.entries p (ap (option_map (λ (e : Entry Bytes). e.link)) (same-find (has_key by_bytes name) map.entries q.entries same (map.rooted.trie.distinct.once name)) ∙ q.there) in
    let bound = zip-found by_bytes (form_at h) name map.entries M found.0 map.pairs found.1 in
    let value : bound.0.value ≡ w = (let same : Some bound.0.value ≡ Some w = sym (ap (option_map (λ (b : Binding Bytes). b.value)) bound.1) ∙ at in cc) in
    (bound.2.key_cell, ap (form_at h) (sym found.2) ∙ bound.2.row ∙ ap (λ v. Some (node pair (bound.2.key_cell ∷ v ∷ []))) value)

-- the map of a state's buffers, at its place in the row
pub state-map : {h : Heap Bytes} {bits st : ℕ} {s : State} → bits ≤ CODE_BITS → (is : IsStateIn h bits st s) → IsMapOf by_bytes text_code h (by_bits bits (child_at h st 0)) is.buffers_are.bindings
state-map {h} {bits} {st} {s} fits is =
    let links : links_at h st ≡ is.buffers ∷ is.stars ∷ [] = sym (links-form h st) ∙ ap links_of is.row in
    subst (λ (ks : List ℕ). IsMapOf by_bytes text_code h (by_bits bits (slice_index ks 0)) is.buffers_are.bindings) (sym links) (map-at h (IsGoodVector h) bits (AreLinesIn h bits) (by_bits bits is.buffers) is.buffers s.buffers fits is.buffers_are refl refl)

pub state-alike : {h : Heap Bytes} {bits st : ℕ} {s : State} (is : IsStateIn h bits st s) (name : Bytes) → alike_keys text_code bits name is.buffers_are.bindings ≡ alike_buffers bits s name
state-alike {h} {bits} {st} {s} is name = bindings-alike (form_at h) (IsGoodVector h) bits (AreLinesIn h bits) is.buffers s.buffers is.buffers_are name

value-there : (h : Heap Bytes) (bits : ℕ) (o : Option ℕ) (p : Option (List Bytes)) {xs : List Bytes} → StandsIfThere (AreLinesIn h bits) o p → p ≡ Some xs → o ≡ None → ⊥
value-there h bits None None is first second = absurd (let h = first in cc)
value-there h bits None (Some ys) is first second = is
value-there h bits (Some k) p is first second = absurd (let h = second in cc)

pub state-value : {h : Heap Bytes} {bits st : ℕ} {s : State} {xs : List Bytes} (name : Bytes) (is : IsStateIn h bits st s) → lines_of s name ≡ Some xs → value_with by_bytes name is.buffers_are.bindings ≡ None → ⊥
state-value {h} {bits} {st} {s} name is found none = value-there h bits (value_with by_bytes name is.buffers_are.bindings) (finite.get s.buffers name) (is.buffers_are.reads name) found none
