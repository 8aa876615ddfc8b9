-- A value put at a key in the map of a root with one owner.
use Rattle.std.proofs.Common.{◌≡◌, ◌≢◌, ℕ, ◌+◌, ◌<◌, ◌≤◌, List, [], ◌∷◌, length, take, refl, ap, sym, subst, ◌∙◌, arith, Option, Some, None, IsSome, option_map, inl, inr, ◌++◌, set, get_or}
use Rattle.std.specs.Prelude.{unwrap_or, slice_set}
use Rattle.std.specs.List.{All, AllZip, find}
use Rattle.std.specs.Cmp.{IsTotalOrder, tied_itself}
use Rattle.std.specs.declared.cmp.Ordering.{Ordering}
use Rattle.std.specs.declared.cmp.Ordering.TheVariants.{Equal}
use Rattle.std.proofs.lemmas.Bool.{cases_eq}
use Rattle.std.proofs.lemmas.List.Elements.{All-head, All-tail}
use Rattle.std.proofs.lemmas.Cmp.{tied_back}
use Rattle.elem_core.specs.declared.codes.TheConstants.{DEEPEST, LEVELS}
use Rattle.node_heap.specs.Links.{count, Reaches, here, below, Links}
use Rattle.node_heap.specs.Forms.{cell, node, pair, links_of, form_of, Forms, Form, leaf, inner, trie, chain, state, value_of, links_in, head_of}
use Rattle.node_heap.specs.declared.row.Head.TheVariants.{Pair}
use Rattle.node_heap.specs.Heap.{Heap, row_at, form_at, links_at, holds_at, owners_at, one_at}
use Rattle.node_heap.specs.Calls.{Adds, AddsOwner, Builds, Makes, Gains}
use Rattle.node_heap.specs.InPlace.{Changes, child_at, Writes, ReachesAround, at_once, by_link}
use Rattle.node_heap.specs.declared.owner.Owner.TheVariants.{Hold as by_hold}
use Rattle.node_heap.specs.Owner.{written, alone, WritesOnly, KeepsAlone}
use Rattle.node_heap.proofs.CallerLemmas.{test_other, count-link as count-cons, count-one, Builds-both, Extends-row, Reaches-back, Changes-then, Changes-more, owned-live, new-reach, Changes-Builds, Gains-trans, Gains-Builds, KeepsBelow-apart, Changes-beside, Changes-path, paths-off, Gains-Changes}
use Rattle.champ_chain.specs.Entry.{Entry, entry, IsEntry, key_at, key_of, link_with, others, put, first_value}
use Rattle.champ_chain.proofs.CallerLemmas.{forms-kept, key-live, links-form}
use Rattle.champ_trie.specs.declared.TheConstants.{ADD_NODES}
use Rattle.champ_trie.specs.Trie.{IsCanon, code_by}
use Rattle.champ_trie.specs.Reach.{alike_in}
use Rattle.champ_trie.proofs.CallerLemmas.{forms-below, canon-stays, canon-below, names-keys, put-distinct, canon-around}
use Rattle.champ_trie.specs.Laws.{SameAround}
use Rattle.champ_kinds.specs.Binding.{Binding, binding, bind, kept_key, binds, value_with}
use Rattle.champ_kinds.specs.Kinds.{IsPair, HasEntries, IsMapOf}
use Rattle.champ_kinds.specs.Edit.{PutsPair}
use Rattle.champ_kinds.proofs.CallerLemmas.{absent-map, absent-pairs, link-none, others-none, pairs-kept, others-same}
use Rattle.edit_trie.specs.Path.{edit_rows, pair_rows, way_rows, KeepsShared, MakesFew}
use Rattle.edit_trie.specs.Edit.{by_bits}
use Rattle.edit_trie.specs.Walk.{CanEditBelow, PutsEntryIn, HasPair, OwnsIn}
use Rattle.edit_trie.specs.Bound.{CanBind, Binds}
use Rattle.edit_trie.specs.Way.{IsSoleWay}
use Rattle.edit_trie.proofs.DownLemmas.{way-stays}
use Rattle.edit_trie.proofs.PathLemmas.{rows-stay, edit-says, edit-avoids, pair-avoids, pair-after, written-before, alone-missed, keeps-missed, keeps-before, Stays, stays-below}
use Rattle.edit_trie.proofs.StepLemmas.{none-live, find-has}
use Rattle.edit_trie.proofs.WayLemmas.{way-says}
use Rattle.edit_trie.proofs.InChainLemmas.{count-take}
use Rattle.edit_trie.proofs.MapLemmas.{pairs-left, all-others, pair-by, pair-key, value-cell, zip-found, found-link}
use Rattle.edit_trie.proofs.RowLemmas.{row-form, node-form}
use Rattle.edit_trie.proofs.ChildLemmas.{sole-last}

-- the key is absent: its cell came, and the pair of it and the value
module _ {T : Type 0} (cmp : T → T → Ordering) (code : T → ℕ) (o : IsTotalOrder cmp) (old celled mid : Heap T) (bits r : ℕ) (key : T) (E : List (Entry T)) (M : List (Binding T)) (found : Option ℕ) (x value y : ℕ)
    (can : CanBind cmp code old bits r key E M found) (none : found ≡ None) (apart : ¬ Reaches (links_at old) value r) (held : 0 < holds_at old value)
    (adds : Adds old celled x (cell key)) (owners : AddsOwner old celled x) (one : Builds old celled [] (x ∷ []) 1 0)
    (adds' : Adds celled mid y (node Pair (x ∷ value ∷ []))) (owners' : AddsOwner celled mid y) (two : Builds celled mid (x ∷ value ∷ []) (y ∷ []) 0 1) where
  abbrev c : ℕ
  c = code_by code bits key

  builds : Builds old mid (value ∷ []) (y ∷ []) 1 1
  builds = Builds-both (value ∷ []) (y ∷ []) one two (λ k. omega (arith, count-cons k x (value ∷ []), count-one k x)) (omega arith)

  live-root : IsSome (row_at old r)
  live-root = owned-live old can.graph r (omega (arith, can.sole))

  -- what was there is neither
  other-x : (k : ℕ) → IsSome (row_at old k) → k ≢ x
  other-x k live same = none-live (row_at old k) (ap (row_at old) same ∙ adds.fresh) live

  other-y : (k : ℕ) → IsSome (row_at old k) → k ≢ y
  other-y k live same = none-live (row_at celled k) (ap (row_at celled) same ∙ adds'.fresh) (one.extends.live k live)

  owners-mid : (k : ℕ) → owners_at mid k ≡ owners_at old k + (one_at x k + one_at y k)
  owners-mid k = omega (arith, owners k, owners' k)

  owners-stay : (k : ℕ) → IsSome (row_at old k) → owners_at mid k ≡ owners_at old k
  owners-stay k live = omega (arith, owners-mid k, test_other k x (other-x k live), test_other k y (other-y k live))

  canon-mid : IsCanon cmp (code_by code bits) (form_at mid) r E
  canon-mid = canon-stays (form_at old) (form_at mid) r (forms-below old mid r (builds.extends.kept r live-root)) cmp (code_by code bits) E can.rooted.trie

  pub can-put : CanEditBelow cmp (code_by code bits) mid DEEPEST 0 r c E
  can-put = record { graph = two.graph; sole = owners-stay r live-root ∙ can.sole; below = canon-below cmp (code_by code bits) (form_at mid) r c E canon-mid }

  pub way-put : (d n last : ℕ) → IsSoleWay old r d n last → IsSoleWay mid r d n last
  way-put d n last way = (way-stays old mid r d can.graph (builds.extends.kept r live-root) owners-stay n last way).0

  form-x : form_at mid x ≡ Some (cell key)
  form-x = (forms-kept celled mid two.extends).kept x (cell key) (ap (option_map form_of) adds.here)

  form-y : form_at mid y ≡ Some (node pair (x ∷ value ∷ []))
  form-y = ap (option_map form_of) adds'.here

  pair-mid : IsPair (form_at mid) (entry key y) (binding key value)
  pair-mid = record { key_cell = x; cell = form-x; row = form-y; key = refl }

  pub keyed-put : key_at (form_at mid) y ≡ Some key
  keyed-put = pair-key (form_at mid) (entry key y) (binding key value) pair-mid

  keyed-x : key_at (form_at mid) x ≡ Some key
  keyed-x = ap (key_of (form_at mid)) form-x

  pub absent-put : link_with cmp key E ≡ None
  absent-put = sym can.looked ∙ none

  off-x : ¬ Reaches (links_at celled) x r
  off-x way = other-x r live-root (cell-reach x r adds.here way)
    where
      cell-reach : (a b : ℕ) → row_at celled a ≡ Some (cell key) → Reaches (links_at celled) a b → b ≡ a
      cell-reach a b is (here l) = refl
      cell-reach a b is (below l k m has rest) = absurd (omega (arith, has, ap (λ w. count k (links_of w)) is))

  pub apart-put : ¬ Reaches (links_at mid) y r
  apart-put way =
      let up = new-reach celled mid (x ∷ value ∷ []) (y ∷ []) 0 1 (λ k live. omega (arith, owners' k, test_other k y (λ same. none-live (row_at celled k) (ap (row_at celled) same ∙ adds'.fresh) live))) two y r adds'.fresh (one.extends.live r live-root) way in
      elim (cases_eq up.0 x) as (λ _. ⊥) [
        | inl same ↦ off-x (subst (λ l. Reaches (links_at celled) l r) same up.2)
        | inr other ↦
            let is : up.0 ≡ value = by_value other up.1 in
            apart (Reaches-back old celled value r (one.extends.kept value (can.graph.held value held)) (subst (λ l. Reaches (links_at celled) l r) is up.2))
      ]
    where
      by_value : {s : ℕ} → s ≢ x → 0 < count s (x ∷ value ∷ []) → s ≡ value
      by_value {s} other some = elim (cases_eq s value) as (λ _. s ≡ value) [
        | inl same ↦ same
        | inr neither ↦ absurd (omega (arith, some, count-cons s x (value ∷ []), count-one s value, test_other s x other, test_other s value neither))
      ]

  pub spare-put : ADD_NODES + alike_in (code_by code bits) c E ≤ old.spare_nodes → LEVELS + alike_in (code_by code bits) c E ≤ mid.spare_nodes
  spare-put room = omega (arith, room, builds.makes.spare_nodes, builds.few_nodes)

  module _ (new : Heap T) (did : PutsEntryIn cmp (code_by code bits) mid new DEEPEST 0 r c E key y) where
    canon-new : IsCanon cmp (code_by code bits) (form_at new) r (put cmp E (entry key y))
    canon-new = record { trie = did.trie; distinct = put-distinct cmp (code_by code bits) o E (entry key y) canon-mid.distinct }

    names : All (IsEntry (form_at new)) (put cmp E (entry key y))
    names = names-keys cmp (code_by code bits) (form_at new) r (put cmp E (entry key y)) canon-new

    -- what names a key stays
    stays : (l : ℕ) (k : T) → key_at (form_at mid) l ≡ Some k → row_at new l ≡ row_at mid l
    stays l k keyed =
        did.others (length E) (omega arith) l (key-live mid l k keyed)
        (count-take l (edit_rows cmp (form_at mid) key (length E) LEVELS 0 c r) (alone mid (edit_rows cmp (form_at mid) key (length E) LEVELS 0 c r))
        (edit-avoids cmp (code_by code bits) (form_at mid) l k keyed key (length E) LEVELS 0 c r E canon-mid.trie))

    rooted-new : HasEntries cmp code new (by_bits bits r) (put cmp E (entry key y))
    rooted-new = record { bits = can.rooted.bits; trie = canon-new }

    pair-new : IsPair (form_at new) (entry key y) (binding key value)
    pair-new = pair-by (form_at new) y key (binding key value) x value (ap (option_map form_of) (stays y key keyed-put) ∙ form-y) (All-head (IsEntry (form_at new)) (entry key y) (others cmp key E) names) refl refl

    pairs-mid : AllZip (IsPair (form_at mid)) E M
    pairs-mid = pairs-kept (form_at old) (form_at mid) (forms-kept old mid builds.extends) E M can.pairs

    rows-others : All (λ d. row_at new d.link ≡ row_at mid d.link) (others cmp key E)
    rows-others = all-others cmp key (IsEntry (form_at mid)) (λ d. row_at new d.link ≡ row_at mid d.link) (λ d differs keyed. stays d.link d.key keyed) E (names-keys cmp (code_by code bits) (form_at mid) r E canon-mid)

    kept : kept_key cmp key M ≡ key
    kept = ap (λ q. unwrap_or (option_map (λ (b : Binding T). b.key) q) key) (absent-pairs (form_at old) cmp key E M can.pairs (link-none cmp key E absent-put))

    map-new : IsMapOf cmp code new (by_bits bits r) (bind cmp M key value)
    map-new = record {
      entries = put cmp E (entry key y);
      rooted = rooted-new;
      pairs = (subst (λ k. IsPair (form_at new) (entry key y) (binding k value)) (sym kept) pair-new, pairs-left cmp mid new key E M pairs-mid rows-others (All-tail (IsEntry (form_at new)) (entry key y) (others cmp key E) names));
    }

    puts-new : PutsPair cmp code old new (by_bits bits r) E key value
    puts-new = record {
      entry = entry key y;
      entries = rooted-new;
      same_key = tied_itself o key;
      is_pair = pair-new;
      old_cell = λ z first second at row. absurd (let bad : None ≡ Some z = sym absent-put ∙ at in cc);
      new_key = λ _. refl;
    }

    changes-new : Changes r old new (value ∷ []) [] 1 (ADD_NODES + alike_in (code_by code bits) c E)
    changes-new =
        Changes-more 1 (ADD_NODES + alike_in (code_by code bits) c E)
        (Changes-then (Changes-Builds r can.graph (λ k up sole. owners-stay k (owned-live old can.graph k (omega (arith, sole))) ∙ sole) builds) did.changes) (omega arith) (omega arith)

    -- the path missed what came
    same-path : (most : ℕ) → edit_rows cmp (form_at mid) key most LEVELS 0 c r ≡ edit_rows cmp (form_at old) key most LEVELS 0 c r
    same-path most =
        rows-stay cmp (code_by code bits) (form_at old) (form_at mid) (stays-below (form_at old) (form_at mid)) _ _ _ _ (edit-says cmp (code_by code bits) (form_at old) (form_at mid) (stays-below (form_at old) (form_at mid)) key most) LEVELS 0 c r E (forms-below old mid r (builds.extends.kept r live-root)) can.rooted.trie.trie

    misses : (most : ℕ) (l : ℕ) → key_at (form_at mid) l ≡ Some key → count l (edit_rows cmp (form_at mid) key most LEVELS 0 c r) ≡ 0
    misses most l keyed = edit-avoids cmp (code_by code bits) (form_at mid) l key keyed key most LEVELS 0 c r E canon-mid.trie

    alone-of : (most n : ℕ) → alone mid (take n (edit_rows cmp (form_at mid) key most LEVELS 0 c r)) ≡ alone old (take n (edit_rows cmp (form_at mid) key most LEVELS 0 c r))
    alone-of most n =
        let path = edit_rows cmp (form_at mid) key most LEVELS 0 c r in
        alone-missed old mid x y (take n path) owners-mid (count-take x path n (misses most x keyed-x)) (count-take y path n (misses most y keyed-put))

    alone-all : (most : ℕ) → alone mid (edit_rows cmp (form_at mid) key most LEVELS 0 c r) ≡ alone old (edit_rows cmp (form_at mid) key most LEVELS 0 c r)
    alone-all most = alone-missed old mid x y (edit_rows cmp (form_at mid) key most LEVELS 0 c r) owners-mid (misses most x keyed-x) (misses most y keyed-put)

    path-new : (most more : ℕ) → length E ≤ most → length E ≤ more → 1 + length (others cmp key E) ≤ more → KeepsShared old (edit_rows cmp (form_at old) key most LEVELS 0 c r) (edit_rows cmp (form_at new) key more LEVELS 0 c r)
    path-new most more short fits short' =
        let path = edit_rows cmp (form_at mid) key most LEVELS 0 c r in
        let path' = edit_rows cmp (form_at new) key more LEVELS 0 c r in
        let all = others-none cmp key E (link-none cmp key E absent-put) in
        subst (λ ks. KeepsShared old ks path') (same-path most)
        (keeps-missed old mid (take (length path') path) (take (length path) path') (alone-of most (length path')) (did.path most more short (omega (arith, short', ap length all))))

    writes-new : (most : ℕ) → length E ≤ most → WritesOnly (by_hold r) old new r (pair_rows cmp (form_at old) key most LEVELS 0 c r)
    writes-new most short m live off =
        let path = edit_rows cmp (form_at old) key most LEVELS 0 c r in
        let after = pair-after cmp (form_at old) key most LEVELS 0 c r in
        let first = written-before old m path after.0 (subst (λ ks. count m (written old ks) ≡ 0) after.1 off) in
        let there : count m (written mid (edit_rows cmp (form_at mid) key most LEVELS 0 c r)) ≡ 0 =
        ap (λ n. count m (take n (edit_rows cmp (form_at mid) key most LEVELS 0 c r))) (alone-all most) ∙ ap (λ ks. count m (written old ks)) (same-path most) ∙ first in
        did.others most short m (builds.extends.live m live) there ∙ Extends-row builds.extends m live

    few-new : (most more : ℕ) → length E ≤ most → 1 + length (others cmp key E) ≤ more → MakesFew old new (edit_rows cmp (form_at old) key most LEVELS 0 c r) (way_rows (form_at old) most LEVELS 0 c r) (way_rows (form_at new) more LEVELS 0 c r) 2
    few-new most more short short' =
        let all = others-none cmp key E (link-none cmp key E absent-put) in
        let came = did.came most more short (omega (arith, short', ap length all)) in
        let ways =
        rows-stay cmp (code_by code bits) (form_at old) (form_at mid) (stays-below (form_at old) (form_at mid)) _ _ _ _ (way-says cmp (code_by code bits) (form_at old) (form_at mid) (stays-below (form_at old) (form_at mid)) most) LEVELS 0 c r E (forms-below old mid r (builds.extends.kept r live-root)) can.rooted.trie.trie in
        omega (arith, came, builds.makes.live, builds.few_cells, builds.few_nodes, alone-all most, ap (alone old) (same-path most), ap length (same-path most), ap length ways)

    pub binds-absent : Binds cmp code old new bits r key E M value None
    binds-absent = record {
      map = map-new;
      back = sym (absent-map (form_at old) cmp key E M can.pairs absent-put);
      entries = puts-new;
      changes = changes-new;
      gains = Gains-trans (Gains-Builds builds) did.gains;
      path = path-new;
      came = λ most more short fits short'. few-new most more short short';
      others = writes-new;
    }

-- what isn't a pair's row that changed has its key still
key-kept : {K : Type 0} (F G : Forms K) (x : ℕ) (ls : List ℕ) → F x ≡ Some (node pair ls) → ((m : ℕ) → m ≢ x → G m ≡ F m) → (l : ℕ) (k : K) → l ≢ x → key_at F l ≡ Some k → key_at G l ≡ Some k
key-kept {K} F G x ls at same l k other is = by_form (F l) refl is
  where
    cell-kept : (j : ℕ) → value_of (F j) ≡ Some k → value_of (G j) ≡ Some k
    cell-kept j value = ap value_of (same j (λ e. let bad : None ≡ Some k = sym (ap value_of (ap F e ∙ at)) ∙ value in cc)) ∙ value

    by_links : (links : List ℕ) → first_value F links ≡ Some k → first_value G links ≡ Some k
    by_links [] is = absurd cc
    by_links (j ∷ js) is = cell-kept j is

    by_form : (r : Option (Form K)) → F l ≡ r → key_of F r ≡ Some k → key_of G (G l) ≡ Some k
    by_form None e is = cc
    by_form (Some (cell y)) e is = ap (key_of G) (same l other ∙ e) ∙ is
    by_form (Some (node leaf links)) e is = cc
    by_form (Some (node (inner height) links)) e is = cc
    by_form (Some (node (trie d s n) links)) e is = cc
    by_form (Some (node chain links)) e is = cc
    by_form (Some (node pair links)) e is = ap (key_of G) (same l other ∙ e) ∙ by_links links is
    by_form (Some (node state links)) e is = cc

-- a way around a row doesn't end at it
around-off : (L : Links) (first a b : ℕ) → ReachesAround L first a b → b ≢ first
around-off L first a b (at_once l other) = other
around-off L first a b (by_link l k m other has rest) = around-off L first k m rest

-- the key is there: the way to its pair was made one's own
module _ {T : Type 0} (cmp : T → T → Ordering) (code : T → ℕ) (o : IsTotalOrder cmp) (old : Heap T) (bits r : ℕ) (key : T) (E : List (Entry T)) (M : List (Binding T)) (found : Option ℕ) (x : ℕ) (can : CanBind cmp code old bits r key E M found) (some : found ≡ Some x) where
  pub can-own : CanEditBelow cmp (code_by code bits) old DEEPEST 0 r (code_by code bits key) E
  can-own = record { graph = can.graph; sole = can.sole; below = canon-below cmp (code_by code bits) (form_at old) r (code_by code bits key) E can.rooted.trie }

  pub pair-there : (e : Entry T) × HasPair cmp old E key e
  pair-there =
      let e = found-link cmp key E x (sym can.looked ∙ some) in
      let b = zip-found cmp (form_at old) key E M e.0 can.pairs e.1 in
      (e.0, record { found = e.1; keyed = pair-key (form_at old) e.0 b.0 b.2; is_pair = node-form (row_at old e.0.link) _ _ b.2.row })

  module _ (now : Heap T) (link value : ℕ) (e : Entry T) (own_pair : HasPair cmp old E key e) (did : OwnsIn cmp (code_by code bits) old now DEEPEST 0 r (code_by code bits key) E key e link) where
    at-pair : (b : Binding T) × (find (binds cmp key) M ≡ Some b) × IsPair (form_at old) e b
    at-pair = zip-found cmp (form_at old) key E M e can.pairs own_pair.found

    abbrev K : ℕ
    K = at-pair.2.key_cell

    abbrev before : ℕ
    before = at-pair.0.value

    form-now : form_at now link ≡ Some (node pair (K ∷ before ∷ []))
    form-now = ap (option_map form_of) did.same ∙ at-pair.2.row

    links-now : links_at now link ≡ K ∷ before ∷ []
    links-now = sym (links-form now link) ∙ ap links_of form-now

    pub sole-own : owners_at now link ≡ 1
    sole-own = sole-last (owners_at now) (links_at now) r link did.down (did.changes.paths.soles r (here-root) can.sole)
      where
        here-root : Reaches (links_at old) r r
        here-root = Reaches.here r

    pub second-own : 1 < length (links_at now link)
    second-own = omega (arith, ap length links-now)

    pub held-own : 0 < holds_at old value → 0 < holds_at now value
    held-own held = omega (arith, held, did.changes.trades.holds value)

    pub apart-own : 0 < holds_at old value → ¬ Reaches (links_at old) value r → ¬ Reaches (links_at now) value link
    apart-own held off =
        paths-off now r link value did.down (held-own held) (λ way. off (Reaches-back old now value r (KeepsBelow-apart did.changes.apart value held off) way))

    same-key : cmp key e.key ≡ Equal
    same-key = find-has cmp key E e own_pair.found

    canon-now : IsCanon cmp (code_by code bits) (form_at now) r (put cmp E (entry e.key link))
    canon-now = record { trie = did.trie; distinct = put-distinct cmp (code_by code bits) o E (entry e.key link) can.rooted.trie.distinct }

    keyed-now : key_at (form_at now) link ≡ Some e.key
    keyed-now = All-head (IsEntry (form_at now)) (entry e.key link) (others cmp e.key E) (names-keys cmp (code_by code bits) (form_at now) r (put cmp E (entry e.key link)) canon-now)

    cell-now : form_at now K ≡ Some (cell e.key)
    cell-now = value-cell (form_at now K) e.key (sym (ap (key_of (form_at now)) form-now) ∙ keyed-now)

    other-cell : K ≢ link
    other-cell same = let bad : Some (cell e.key) ≡ Some (node pair (K ∷ before ∷ [])) = sym cell-now ∙ ap (form_at now) same ∙ form-now in cc

    -- the pair has the new value
    module _ (new : Heap T) (given : ℕ) (was : given ≡ child_at now link 1) (writes : Writes now new link (head_of (row_at now link)) (slice_set (links_at now link) 1 value)) (change : Changes link now new (value ∷ []) (given ∷ []) 0 0) (makes : Makes now new 0 0) where
      form-new : form_at new link ≡ Some (node pair (K ∷ value ∷ []))
      form-new = row-form (row_at new link) (row_at now link) pair (K ∷ before ∷ []) (K ∷ value ∷ []) writes.new_head (writes.new_links ∙ ap (λ ks. set ks 1 value) links-now) form-now

      row-same : (m : ℕ) → m ≢ link → form_at new m ≡ form_at now m
      row-same m other = ap (option_map form_of) (writes.others m other)

      changed-pair : IsPair (form_at new) (entry e.key link) (binding e.key value)
      changed-pair = record { key_cell = K; cell = row-same K other-cell ∙ cell-now; row = form-new; key = refl }

      keyed-new : key_at (form_at new) link ≡ Some e.key
      keyed-new = pair-key (form_at new) (entry e.key link) (binding e.key value) changed-pair

      around : SameAround (form_at now) (form_at new) r link
      around = record { key = e.key; is_pair = ap head_of form-now; had_key = keyed-now; has_key = keyed-new; same = λ m way. row-same m (around-off (links_in (form_at now)) link r m way) }

      same-entries : put cmp E (entry e.key link) ≡ entry e.key link ∷ others cmp key E
      same-entries = ap (λ (es : List (Entry T)). entry e.key link ∷ es) (sym (others-same cmp o key e.key same-key E))

      changed-canon : IsCanon cmp (code_by code bits) (form_at new) r (entry e.key link ∷ others cmp key E)
      changed-canon = subst (IsCanon cmp (code_by code bits) (form_at new) r) same-entries (canon-around (form_at now) (form_at new) r link around cmp (code_by code bits) (put cmp E (entry e.key link)) canon-now)

      changed-rooted : HasEntries cmp code new (by_bits bits r) (entry e.key link ∷ others cmp key E)
      changed-rooted = record { bits = can.rooted.bits; trie = changed-canon }

      names-new : All (IsEntry (form_at new)) (entry e.key link ∷ others cmp key E)
      names-new = names-keys cmp (code_by code bits) (form_at new) r (entry e.key link ∷ others cmp key E) changed-canon

      -- pairs of other keys stay
      rows-new : All (λ d. row_at new d.link ≡ row_at old d.link) (others cmp key E)
      rows-new =
          all-others cmp key (IsEntry (form_at old)) (λ d. row_at new d.link ≡ row_at old d.link)
          (λ d apart keyed.
          let path = pair_rows cmp (form_at old) key (length E) LEVELS 0 (code_by code bits key) r in
          let off = pair-avoids cmp (code_by code bits) (form_at old) d.link d.key keyed key (λ equal. apart (tied_back o d.key key equal)) (length E) LEVELS 0 (code_by code bits key) r E can.rooted.trie.trie in
          let kept = did.others (length E) (omega arith) d.link (key-live old d.link d.key keyed) (count-take d.link path (alone old path) off) in
          let other : d.link ≢ link = λ at.
          let forms : form_at old d.link ≡ form_at old e.link = ap (option_map form_of) (sym kept ∙ ap (row_at now) at ∙ did.same) in
          let one : Some d.key ≡ Some e.key = sym keyed ∙ ap (key_of (form_at old)) forms ∙ own_pair.keyed in
          let keys : d.key ≡ e.key = cc in
          apart (ap (cmp key) keys ∙ same-key) in
          writes.others d.link other ∙ kept)
          E (names-keys cmp (code_by code bits) (form_at old) r E can.rooted.trie)

      kept-new : kept_key cmp key M ≡ e.key
      kept-new = ap (λ q. unwrap_or (option_map (λ (b : Binding T). b.key) q) key) at-pair.1 ∙ at-pair.2.key

      map-changed : IsMapOf cmp code new (by_bits bits r) (bind cmp M key value)
      map-changed = record {
        entries = entry e.key link ∷ others cmp key E;
        rooted = changed-rooted;
        pairs = (subst (λ k. IsPair (form_at new) (entry e.key link) (binding k value)) (sym kept-new) (again changed-pair), pairs-left cmp old new key E M can.pairs rows-new (All-tail (IsEntry (form_at new)) (entry e.key link) (others cmp key E) names-new));
      }
        where
          again : IsPair (form_at new) (entry e.key link) (binding e.key value) → IsPair (form_at new) (entry e.key link) (binding e.key value)
          again p = p

      puts-changed : PutsPair cmp code old new (by_bits bits r) E key value
      puts-changed = record {
        entry = entry e.key link;
        entries = changed-rooted;
        same_key = same-key;
        is_pair = record { key_cell = K; cell = row-same K other-cell ∙ cell-now; row = form-new; key = refl };
        old_cell = λ z first second at row.
            let link_is : Some e.link ≡ Some z = ap (option_map (λ (d : Entry T). d.link)) (sym own_pair.found) ∙ at in
            let is : e.link ≡ z = cc in
            let read : Some (node pair (K ∷ before ∷ [])) ≡ Some (node pair (first ∷ second ∷ [])) = sym at-pair.2.row ∙ ap (form_at old) is ∙ row in
            cc;
        new_key = λ none. absurd (let bad : Some e.link ≡ None = ap (option_map (λ (d : Entry T). d.link)) (sym own_pair.found) ∙ none in cc);
      }

      back-changed : Some given ≡ value_with cmp key M
      back-changed = ap Some (was ∙ ap (λ ks. get_or ks 1 0) links-now) ∙ sym (ap (option_map (λ (b : Binding T). b.value)) at-pair.1)

      changes-changed : Changes r old new (value ∷ []) (given ∷ []) 1 (ADD_NODES + alike_in (code_by code bits) (code_by code bits key) E)
      changes-changed =
          Changes-more 1 (ADD_NODES + alike_in (code_by code bits) (code_by code bits key) E) (Changes-beside did.changes (Changes-path did.down change)) (omega arith) (omega arith)

      gains-changed : Gains old new
      gains-changed = Gains-trans did.gains (Gains-Changes change (λ k other live. writes.others k other) makes)

      -- all keys stay
      keys-stay : (j : ℕ) (z : T) → key_at (form_at now) j ≡ Some z → key_at (form_at new) j ≡ Some z
      keys-stay j z is = elim (cases_eq j link) as (λ _. key_at (form_at new) j ≡ Some z) [
        | inl at ↦ ap (key_at (form_at new)) at ∙ keyed-new ∙ sym keyed-now ∙ ap (key_at (form_at now)) (sym at) ∙ is
        | inr other ↦ key-kept (form_at now) (form_at new) link (K ∷ before ∷ []) form-now row-same j z other is
      ]

      -- so the path stays: the pair has a key, and no row of the path has
      all-stays : Stays (form_at now) (form_at new) (λ _. Unit {0})
      all-stays = record {
        row = λ l is none. row-same l (λ at. let bad : None ≡ Some e.key = sym none ∙ ap (key_at (form_at now)) at ∙ keyed-now in cc);
        key = λ j z is keyed. keys-stay j z keyed;
        next = λ l m is none has. tt;
      }

      path-changed : (most more : ℕ) → length E ≤ most → length E ≤ more → 1 + length (others cmp key E) ≤ more
          → KeepsShared old (edit_rows cmp (form_at old) key most LEVELS 0 (code_by code bits key) r) (edit_rows cmp (form_at new) key more LEVELS 0 (code_by code bits key) r)
      path-changed most more short fits short' =
          let C : ℕ = code_by code bits key in
          let P = edit_rows cmp (form_at old) key most LEVELS 0 C r in
          let P' = edit_rows cmp (form_at now) key more LEVELS 0 C r in
          let after = pair-after cmp (form_at old) key most LEVELS 0 C r in
          let after' = pair-after cmp (form_at now) key more LEVELS 0 C r in
          let agree = rows-stay cmp (code_by code bits) (form_at now) (form_at new) all-stays _ _ _ _ (edit-says cmp (code_by code bits) (form_at now) (form_at new) all-stays key more) LEVELS 0 C r (put cmp E (entry e.key link)) tt did.trie in
          let keep = subst (KeepsAlone old (P ++ after.0)) after'.1 (subst (λ ks. KeepsAlone old ks (pair_rows cmp (form_at now) key more LEVELS 0 C r)) after.1 (did.path most more short fits)) in
          subst (KeepsShared old P) (sym agree) (keeps-before old P P' after.0 after'.0 keep)

      pub binds-present : Binds cmp code old new bits r key E M value (Some given)
      binds-present = record {
        map = map-changed;
        back = back-changed;
        entries = puts-changed;
        changes = changes-changed;
        gains = gains-changed;
        path = path-changed;
        came = λ most more short fits short'. omega (arith, did.came most short, makes.live);
        others = λ most short m live off. writes.others m (did.apart most short m live off) ∙ did.others most short m live off;
      }
