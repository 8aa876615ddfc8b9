-- What each edit makes of a whole map, once the root was made its owner's own.
use Rattle.std.proofs.Common.{◌≡◌, ◌≢◌, ℕ, ◌+◌, ◌<◌, ◌≤◌, List, ◌∷◌, length, get_or, ap, sym, subst, ◌∙◌, arith, IsSome, option_map, inl, inr, [], refl, cond, Some, Option, None, ◌-◌}
use Rattle.std.specs.declared.cmp.Ordering.{Ordering}
use Rattle.std.specs.Prelude.{count_by, option_to_list, MatchOption}
use Rattle.std.specs.List.{All, AllZip, find}
use Rattle.std.specs.Cmp.{IsTotalOrder, Equal-is}
use Rattle.std.specs.declared.cmp.Ordering.TheVariants.{Equal}
use Rattle.std.proofs.lemmas.Cmp.{tied_back}
use Rattle.std.proofs.lemmas.List.Elements.{All-head, All-tail, All-weaker}
use Rattle.elem_core.specs.declared.codes.TheConstants.{DEEPEST, LEVELS}
use Rattle.node_heap.specs.Links.{count, HasLink, here, Reaches}
use Rattle.node_heap.specs.Forms.{links_in, form_of, links_of, is_node}
use Rattle.node_heap.specs.Heap.{Heap, row_at, form_at, links_at, owners_at, live_count, IsGraph, holds_at, one_at}
use Rattle.node_heap.specs.InPlace.{child_at, Changes}
use Rattle.node_heap.specs.declared.owner.Owner.{Owner}
use Rattle.node_heap.specs.Owner.{owned, KeepsAlone, alone, WritesOnly, EditsBy}
use Rattle.node_heap.specs.Calls.{MakesWhatCame, KeepsBelow, SameRows, AddsOwner, Makes, Releases}
use Rattle.node_heap.proofs.CallerLemmas.{IsOwned, Builds-refl, Changes-Builds, EditsBy-more, Reaches-by, count-cons, test_same, test_other, Reaches-last, linked-places, Changes-beside, Changes-follow, Changes-more, is-owned}
use Rattle.champ_chain.specs.Entry.{Entry, entry, IsEntry, has_key, link_with, others, put, SameSet}
use Rattle.champ_chain.proofs.CallerLemmas.{links-form, key-live}
use Rattle.champ_trie.specs.Trie.{IsCanon, code_by}
use Rattle.champ_trie.proofs.CallerLemmas.{forms-below, names-keys, canon-fit, put-distinct, canon-reach, has-one-set}
use Rattle.champ_trie.specs.Reach.{alike_in}
use Rattle.champ_trie.specs.declared.TheConstants.{ADD_NODES}
use Rattle.champ_kinds.specs.Binding.{Binding, binds, unbind, value_with, alike_keys}
use Rattle.champ_kinds.specs.Kinds.{IsPair, HasEntries, IsMapOf}
use Rattle.champ_kinds.proofs.CallerLemmas.{alike-pairs, map-any_order, others-same, zip-follows, container-stays}
use Rattle.champ_kinds.specs.declared.map.TheConstants.{INSERT_NODES}
use Rattle.champ_kinds.specs.Edit.{PutsPair}
use Rattle.edit_trie.specs.Path.{KeepsShared, MakesCopies, pair_rows, pair_path, edit_rows, way_rows, edit_path, key_way, MakesFew}
use Rattle.edit_trie.specs.Walk.{CanEditBelow, HasPair, OwnsIn, CutsIn}
use Rattle.edit_trie.specs.declared.own_pair.TheConstants.{OWN_NODES}
use Rattle.edit_trie.specs.Edit.{by_bits, IsPairOfKey, OwnsPair, PutsValue, OwnsEntry, CutsKey}
use Rattle.edit_trie.specs.Bound.{CanBind, Binds}
use Rattle.node_heap.specs.Root.{OwnsRoot, ChangesUp, OwnsBy}
use Rattle.edit_trie.proofs.TrieTop.{root-node, way-alone, way-shared, way-count, way-length, way-copies, way-others, can-edit, root-held, root-sole, cut-held, entries-cut, cut-names, cut-rows, release, root-below, entries-new, cut-path, made-new, cut-others}
use Rattle.edit_trie.proofs.PathLemmas.{pair-paths, pair-avoids, edit-paths}
use Rattle.edit_trie.proofs.StepLemmas.{find-has}
use Rattle.edit_trie.proofs.RowLemmas.{node-form}
use Rattle.edit_trie.proofs.ChildLemmas.{sole-last}
use Rattle.edit_trie.proofs.InChainLemmas.{count-take}
use Rattle.edit_trie.proofs.MapLemmas.{map-owned, entries-owned, pairs-left, one-out, zip-found, found-link, find-same, count-binds, all-others, pair-by, pair-key, all-found}
use Rattle.edit_trie.proofs.WayLemmas.{way-paths}

-- the root of a map is a node
pub map-node : {T : Type 0} {cmp : T → T → Ordering} {code : T → ℕ} {h : Heap T} {bits root : ℕ} {M : List (Binding T)} → IsMapOf cmp code h (by_bits bits root) M → is_node (row_at h root) ≡ 1
map-node is = root-node is.rooted

-- the root of a map was made its owner's own, and can be edited then
module _ {T : Type 0} {cmp : T → T → Ordering} {code : T → ℕ} (o : IsTotalOrder cmp) {owner : Owner} {bits : ℕ} {old mid : Heap T} {r : ℕ} (own : IsOwned owner old mid r) {M : List (Binding T)} (is : IsMapOf cmp code old (by_bits bits (owned old owner)) M) (key : T) where
  abbrev c : ℕ
  c = code_by code bits key

  short-old : length is.entries ≤ live_count old
  short-old = canon-fit cmp (code_by code bits) o old (owned old owner) is.entries is.rooted.trie

  rooted-mid : HasEntries cmp code mid (by_bits bits r) is.entries
  rooted-mid = entries-owned cmp code owner bits old mid r own is.entries is.rooted

  pub can-top : IsGraph mid → CanEditBelow cmp (code_by code bits) mid DEEPEST 0 r (code_by code bits key) is.entries
  can-top graph = can-edit o own is.rooted key graph

  pairs-mid : AllZip (IsPair (form_at mid)) is.entries M
  pairs-mid = map-owned cmp code owner bits old mid r own M is

  pub pair-top : (x : ℕ) → link_with cmp key is.entries ≡ Some x → (e : Entry T) × HasPair cmp mid is.entries key e
  pair-top x found =
      let e = found-link cmp key is.entries x found in
      let b = zip-found cmp (form_at mid) key is.entries M e.0 pairs-mid e.1 in
      (e.0, record { found = e.1; keyed = pair-key (form_at mid) e.0 b.0 b.2; is_pair = node-form (row_at mid e.0.link) _ _ b.2.row })

  pub alike-top : alike_in (code_by code bits) (code_by code bits key) is.entries ≡ alike_keys code bits key M
  alike-top = alike-pairs (form_at mid) code bits key is.entries M pairs-mid

  module _ (equal_codes : (j k : T) → cmp j k ≡ Equal → code j ≡ code k) (new : Heap T) (e : Entry T) (link : ℕ) (pair : HasPair cmp mid is.entries key e)
      (did : OwnsIn cmp (code_by code bits) mid new DEEPEST 0 r (code_by code bits key) is.entries key e link) where
    abbrev E : List (Entry T)
    E = is.entries

    same : cmp key e.key ≡ Equal
    same = find-has cmp key is.entries e pair.found

    canon-new : IsCanon cmp (code_by code bits) (form_at new) r (put cmp is.entries (entry e.key link))
    canon-new = record { trie = did.trie; distinct = put-distinct cmp (code_by code bits) o is.entries (entry e.key link) rooted-mid.trie.distinct }

    names : All (IsEntry (form_at new)) (put cmp is.entries (entry e.key link))
    names = names-keys cmp (code_by code bits) (form_at new) r (put cmp is.entries (entry e.key link)) canon-new

    key-link : IsEntry (form_at new) (entry e.key link)
    key-link = All-head (IsEntry (form_at new)) (entry e.key link) (others cmp e.key is.entries) names

    rows-others : All (λ d. row_at new d.link ≡ row_at mid d.link) (others cmp e.key is.entries)
    rows-others =
        all-others cmp e.key (IsEntry (form_at mid)) (λ d. row_at new d.link ≡ row_at mid d.link)
        (λ d apart keyed.
        let off = pair-avoids cmp (code_by code bits) (form_at mid) d.link d.key keyed key (λ equal. apart (sym (o.congr key e.key d.key same) ∙ tied_back o d.key key equal)) (length is.entries) LEVELS 0 c r is.entries rooted-mid.trie.trie in
        did.others (length is.entries) (omega arith) d.link (key-live mid d.link d.key keyed) (count-take d.link (pair_rows cmp (form_at mid) key (length is.entries) LEVELS 0 c r) (alone mid (pair_rows cmp (form_at mid) key (length is.entries) LEVELS 0 c r)) off))
        is.entries (names-keys cmp (code_by code bits) (form_at mid) r is.entries rooted-mid.trie)

    -- the binding of the pair
    bound-at : (b : Binding T) × (find (binds cmp e.key) M ≡ Some b) × IsPair (form_at mid) e b
    bound-at = zip-found cmp (form_at mid) e.key is.entries M e pairs-mid (find-same cmp o key e.key same is.entries ∙ pair.found)

    pair-new : IsPair (form_at new) (entry e.key link) bound-at.0
    pair-new = pair-by (form_at new) link e.key bound-at.0 bound-at.2.key_cell bound-at.0.value (ap (option_map form_of) did.same ∙ bound-at.2.row) key-link refl bound-at.2.key

    map-turned : IsMapOf cmp code new (by_bits bits r) (bound-at.0 ∷ unbind cmp e.key M)
    map-turned = record {
      entries = put cmp is.entries (entry e.key link);
      rooted = record { bits = is.rooted.bits; trie = canon-new };
      pairs = (pair-new, pairs-left cmp mid new e.key is.entries M pairs-mid rows-others (All-tail (IsEntry (form_at new)) (entry e.key link) (others cmp e.key is.entries) names));
    }

    map-new : IsMapOf cmp code new (by_bits bits r) M
    map-new =
        let once : count_by (binds cmp e.key) M ≤ 1 = omega (arith, count-binds cmp (form_at mid) e.key is.entries M pairs-mid, rooted-mid.trie.distinct.once e.key) in
        map-any_order cmp code o equal_codes new (by_bits bits r) (bound-at.0 ∷ unbind cmp e.key M) M (one-out (binds cmp e.key) M bound-at.0 once bound-at.1) map-turned

    value-new : value_with cmp key M ≡ Some (child_at new link 1)
    value-new =
        let b = zip-found cmp (form_at mid) key is.entries M e pairs-mid pair.found in
        let links : links_at new link ≡ b.2.key_cell ∷ b.0.value ∷ [] = ap links_of did.same ∙ sym (links-form mid e.link) ∙ ap links_of b.2.row in
        ap (option_map (λ (z : Binding T). z.value)) b.1 ∙ ap (λ ks. Some (get_or ks 1 0)) (sym links)

    pair-of : IsPairOfKey cmp code new (by_bits bits r) key link
    pair-of = record {
      entries = put cmp is.entries (entry e.key link);
      rooted = record { bits = is.rooted.bits; trie = canon-new };
      there = ap (λ t. option_map (λ (z : Entry T). z.link) (cond t (Some (entry e.key link)) (find (has_key cmp key) (others cmp e.key is.entries)))) ((Equal-is (cmp key e.key)).1 same);
    }

    own-path : length is.entries ≤ live_count new → KeepsAlone old (pair_path cmp code old bits key (owned old owner)) (pair_path cmp code new bits key r)
    own-path short = way-alone own is.rooted.trie (pair-paths cmp (code_by code bits) key) c (live_count old) (pair_path cmp code new bits key r) (did.path (live_count old) (live_count new) short-old short)

    own-gains : MakesCopies old new (pair_path cmp code old bits key (owned old owner))
    own-gains = way-copies own is.rooted.trie (pair-paths cmp (code_by code bits) key) c (live_count old) new (did.came (live_count old) short-old)

    own-others : WritesOnly owner old new r (pair_path cmp code old bits key (owned old owner))
    own-others = way-others own is.rooted.trie (pair-paths cmp (code_by code bits) key) c (live_count old) new (did.others (live_count old) short-old)

    pub owns-pair : MakesWhatCame old new → OwnsPair cmp code owner bits old new r M key link
    owns-pair makes = record {
      map = map-new;
      pair = pair-of;
      value = value-new;
      top = did.changes.paths.soles r (here r) own.sole;
      sole = sole-last (owners_at new) (links_at new) r link did.down (did.changes.paths.soles r (here r) own.sole);
      down = did.down;
      edits = EditsBy-more 0 (OWN_NODES + alike_keys code bits key M) (own.edits new [] [] 0 (LEVELS + alike_in (code_by code bits) c is.entries) did.changes) (omega arith) (omega (arith, alike-top));
      path = own-path (omega (arith, short-old, makes.live));
      gains = own-gains;
      others = own-others;
      makes = makes;
    }

  -- the map can take the value, whatever was found of the key before
  pub can-bind : (found : Option ℕ) → IsGraph mid → found ≡ link_with cmp key is.entries → CanBind cmp code mid bits r key is.entries M found
  can-bind found graph looked = record {
    graph = graph;
    sole = own.sole;
    rooted = entries-owned cmp code owner bits old mid r own is.entries is.rooted;
    pairs = map-owned cmp code owner bits old mid r own M is;
    looked = looked;
  }

  module _ (new : Heap T) (value : ℕ) (given : Option ℕ) (did : Binds cmp code mid new bits r key is.entries M value given) where
    put-path : live_count old ≤ live_count new → KeepsShared old (edit_path cmp code old bits key (owned old owner)) (edit_path cmp code new bits key r)
    put-path more =
        let short = canon-fit cmp (code_by code bits) o new r _ did.entries.entries.trie in
        way-shared own is.rooted.trie (edit-paths cmp (code_by code bits) key) c (live_count old) (edit_path cmp code new bits key r) (did.path (live_count old) (live_count new) short-old (omega (arith, short-old, more)) (omega (arith, short)))

    put-others : WritesOnly owner old new r (pair_path cmp code old bits key (owned old owner))
    put-others = way-others own is.rooted.trie (pair-paths cmp (code_by code bits) key) c (live_count old) new (did.others (live_count old) short-old)

    put-gains : live_count old ≤ live_count new → MatchOption given (MakesFew old new (edit_path cmp code old bits key (owned old owner)) (key_way cmp code old bits key (owned old owner)) (key_way cmp code new bits key r) 2) (λ _. MakesCopies old new (pair_path cmp code old bits key (owned old owner)))
    put-gains more =
        let short = canon-fit cmp (code_by code bits) o new r _ did.entries.entries.trie in
        by_given given (did.came (live_count old) (live_count new) short-old (omega (arith, short-old, more)) (omega (arith, short)))
      where
        by_given : (q : Option ℕ)
            → MatchOption q (MakesFew mid new (edit_rows cmp (form_at mid) key (live_count old) LEVELS 0 c r) (way_rows (form_at mid) (live_count old) LEVELS 0 c r) (key_way cmp code new bits key r) 2) (λ _. MakesCopies mid new (pair_rows cmp (form_at mid) key (live_count old) LEVELS 0 c r))
            → MatchOption q (MakesFew old new (edit_path cmp code old bits key (owned old owner)) (key_way cmp code old bits key (owned old owner)) (key_way cmp code new bits key r) 2) (λ _. MakesCopies old new (pair_path cmp code old bits key (owned old owner)))
        by_given None came =
            let lone = way-count own is.rooted.trie (edit-paths cmp (code_by code bits) key) c (live_count old) in
            let long = way-length own is.rooted.trie (edit-paths cmp (code_by code bits) key) c (live_count old) in
            let ways = way-length own is.rooted.trie (way-paths cmp (code_by code bits)) c (live_count old) in
            omega (arith, came, own.came, lone, long, ways)
        by_given (Some v) came = way-copies own is.rooted.trie (pair-paths cmp (code_by code bits) key) c (live_count old) new came

    pub puts-value : MakesWhatCame old new → PutsValue cmp code owner bits old new r M key value given
    puts-value makes = record {
      map = did.map;
      back = did.back;
      edits = EditsBy-more 1 (INSERT_NODES + alike_keys code bits key M) (own.edits new (value ∷ []) (option_to_list given) 1 (ADD_NODES + alike_in (code_by code bits) c is.entries) did.changes) (omega arith) (omega (arith, alike-top));
      path = put-path makes.live;
      gains = put-gains makes.live;
      others = put-others;
      makes = makes;
    }

  -- what an insertion does to the entries, told from the heap before
  module _ (E : List (Entry T)) (mine : HasEntries cmp code old (by_bits bits (owned old owner)) E) where
    pub pairs-of : (vs : List (Binding T)) × SameSet M vs × AllZip (IsPair (form_at old)) E vs
    pairs-of = zip-follows (IsPair (form_at old)) is.entries E M (has-one-set cmp (code_by code bits) o (form_at old) (owned old owner) is.entries E is.rooted.trie mine.trie) is.pairs

    map-of : IsMapOf cmp code old (by_bits bits (owned old owner)) pairs-of.0
    map-of = record { entries = E; rooted = mine; pairs = pairs-of.2 }

    pub can-bind-of : (found : Option ℕ) → IsGraph mid → found ≡ link_with cmp key E → CanBind cmp code mid bits r key E pairs-of.0 found
    unfolding map-of
    can-bind-of found graph looked = record {
      graph = graph;
      sole = own.sole;
      rooted = entries-owned cmp code owner bits old mid r own E mine;
      pairs = map-owned cmp code owner bits old mid r own pairs-of.0 map-of;
      looked = looked;
    }

    same-forms : All (λ d. form_at mid d.link ≡ form_at old d.link) E
    same-forms =
        let Reached = λ (d : Entry T). Reaches (links_in (form_at old)) (owned old owner) d.link in
        All-weaker Reached (λ d. form_at mid d.link ≡ form_at old d.link) (λ d down. forms-below old mid (owned old owner) own.below d.link down) E (canon-reach cmp (code_by code bits) (form_at old) (owned old owner) E mine.trie)

    pub puts-before : (new : Heap T) (value : ℕ) → PutsPair cmp code mid new (by_bits bits r) E key value → PutsPair cmp code old new (by_bits bits r) E key value
    puts-before new value p = record {
      entry = p.entry;
      entries = p.entries;
      same_key = p.same_key;
      is_pair = p.is_pair;
      old_cell = λ x cell before found row.
          let e = found-link cmp key E x found in
          let same : form_at mid e.0.link ≡ form_at old e.0.link = all-found (λ d. form_at mid d.link ≡ form_at old d.link) (has_key cmp key) E e.0 same-forms e.1 in
          p.old_cell x cell before found (subst (λ l. form_at mid l ≡ form_at old l) e.2 same ∙ row);
      new_key = p.new_key;
    }

  -- what owning the way to a pair makes of the entries, told from the heap before
  pub owned-entry : (new : Heap T) (e : Entry T) (link : ℕ) → HasPair cmp mid is.entries key e → OwnsIn cmp (code_by code bits) mid new DEEPEST 0 r (code_by code bits key) is.entries key e link
      → OwnsEntry cmp code old new (by_bits bits r) is.entries key link
  owned-entry new e link pair did =
      let root : ℕ = owned old owner in
      let Reached = λ (d : Entry T). Reaches (links_in (form_at old)) root d.link in
      let down : Reaches (links_in (form_at old)) root e.link = all-found Reached (has_key cmp key) is.entries e (canon-reach cmp (code_by code bits) (form_at old) root is.entries is.rooted.trie) pair.found in
      let way : Reaches (links_at old) root e.link = Reaches-by (links_in (form_at old)) (links_at old) (λ l. sym (links-form old l)) root e.link down in
      let canon : IsCanon cmp (code_by code bits) (form_at new) r (entry e.key link ∷ others cmp e.key is.entries) =
      record { trie = did.trie; distinct = put-distinct cmp (code_by code bits) o is.entries (entry e.key link) is.rooted.trie.distinct } in
      record {
        before = e;
        there = pair.found;
        entries = record { bits = is.rooted.bits; trie = subst (λ es. IsCanon cmp (code_by code bits) (form_at new) r (entry e.key link ∷ es)) (sym (others-same cmp o key e.key (find-has cmp key is.entries e pair.found) is.entries)) canon };
        same = did.same ∙ own.below e.link way;
      }

  -- a key was taken out, of which the pair stands there
  module _ {four : Heap T} {cut value x : ℕ} (held : 0 < holds_at mid r) (found : link_with cmp key is.entries ≡ Some x) (value_is : value ≡ child_at old x 1) (graph : IsGraph mid) (did : CutsIn cmp (code_by code bits) mid four DEEPEST 0 r (code_by code bits key) is.entries key cut) where
    -- the pair, and its value
    pair-at : (e : Entry T) × (find (has_key cmp key) is.entries ≡ Some e) × (e.link ≡ x)
    pair-at = found-link cmp key is.entries x found

    bound-old : (b : Binding T) × (find (binds cmp key) M ≡ Some b) × IsPair (form_at old) pair-at.0 b
    bound-old = zip-found cmp (form_at old) key is.entries M pair-at.0 is.pairs pair-at.1

    value-bound : value ≡ bound-old.0.value
    value-bound =
        let links : links_at old x ≡ bound-old.2.key_cell ∷ bound-old.0.value ∷ [] = sym (links-form old x) ∙ ap (λ l. links_of (form_at old l)) (sym pair-at.2) ∙ ap links_of bound-old.2.row in
        value_is ∙ ap (λ ks. get_or ks 1 0) links

    pub back : value_with cmp key M ≡ Some value
    back = ap (option_map (λ (b : Binding T). b.value)) bound-old.1 ∙ ap Some (sym value-bound)

    linked : HasLink (links_at mid) pair-at.0.link value
    linked =
        let b = zip-found cmp (form_at mid) key is.entries M pair-at.0 pairs-mid pair-at.1 in
        let same : Some b.0 ≡ Some bound-old.0 = sym b.1 ∙ bound-old.1 in
        let is_value : b.0.value ≡ value = (let one : b.0 ≡ bound-old.0 = cc in ap (λ (z : Binding T). z.value) one ∙ sym value-bound) in
        let links : links_at mid pair-at.0.link ≡ b.2.key_cell ∷ value ∷ [] = sym (links-form mid pair-at.0.link) ∙ ap links_of b.2.row ∙ ap (λ v. b.2.key_cell ∷ v ∷ []) is_value in
        subst (λ ks. 0 < count value ks) (sym links) (omega (arith, count-cons value b.2.key_cell (value ∷ []), count-cons value value [], test_same value value refl))

    value-other : value ≢ r
    value-other same = omega (arith, held, own.sole, linked-places mid.rows pair-at.0.link r (subst (HasLink (links_at mid) pair-at.0.link) same linked))

    pub value-off : ¬ Reaches (links_at four) value r
    value-off way = elim (Reaches-last (links_at four) value r way) as (λ _. ⊥) [
      | inl same ↦ absurd (value-other same)
      | inr last ↦ absurd (omega (arith, root-held o own is.rooted key held did, root-sole o own is.rooted key held did, linked-places four.rows last.0 r last.2))
    ]

    pub value-live : IsSome (row_at four value)
    value-live = did.gains.stays value (graph.closed pair-at.0.link value linked)

    module _ {five : Heap T} (rows : SameRows four five) (holds : (k : ℕ) → holds_at five k ≡ holds_at four k + one_at value k) (owners : AddsOwner four five value) (hold : Changes r four five [] (value ∷ []) 0 0) where
      held-five : 0 < holds_at five r
      held-five = omega (arith, root-held o own is.rooted key held did, holds r)

      sole-five : owners_at five r ≡ 1
      sole-five = omega (arith, root-sole o own is.rooted key held did, owners r, test_other r value (λ same. value-other (sym same)))

      cut-five : one_at r cut < holds_at five cut
      cut-five = omega (arith, cut-held o own is.rooted key held did, holds cut)

      module _ {new : Heap T} (rel : Releases five new cut) (graph_new : IsGraph new) (below : (l : ℕ) → IsSome (row_at new l) → KeepsBelow five new l) where
        change : Changes r mid new [] (value ∷ []) 0 (DEEPEST + alike_in (code_by code bits) (code_by code bits key) is.entries)
        change =
            let both = Changes-beside did.changes hold in
            let all = Changes-follow (cut ∷ []) [] (value ∷ []) [] [] both (release o own is.rooted key held did rows held-five sole-five cut-five rel graph_new below hold.trades.graph) in
            Changes-more 0 _ all (omega arith) (omega arith)

        pub entries-left : HasEntries cmp code new (by_bits bits r) (others cmp key is.entries)
        entries-left = entries-new o own is.rooted key held did rows held-five sole-five cut-five rel graph_new below

        map-four : IsMapOf cmp code four (by_bits bits r) (unbind cmp key M)
        map-four = record {
          entries = others cmp key is.entries;
          rooted = entries-cut o own is.rooted key held did;
          pairs = pairs-left cmp mid four key is.entries M pairs-mid (cut-rows o own is.rooted key held did) (cut-names o own is.rooted key held did);
        }

        pub cuts-key : MakesWhatCame old four → Makes four five 0 0 → CutsKey cmp code owner bits old new r M key value
        cuts-key makes none = record {
          map = (container-stays four new (by_bits bits r) (root-below o own is.rooted key held did rows held-five sole-five cut-five rel graph_new below)).map cmp code (unbind cmp key M) map-four;
          back = back;
          edits = EditsBy-more 0 (LEVELS + alike_keys code bits key M) (own.edits new [] (value ∷ []) 0 (DEEPEST + alike_in (code_by code bits) c is.entries) change) (omega arith) (omega (arith, alike-top));
          path = cut-path o own is.rooted key held did rows held-five sole-five cut-five rel graph_new below;
          others = cut-others o own is.rooted key held did rows held-five sole-five cut-five rel graph_new below;
          made = made-new o own is.rooted key held did rows held-five sole-five cut-five rel graph_new below makes (omega (arith, none.made, makes.made));
        }

-- with nothing edited yet
module _ {T : Type 0} (cmp : T → T → Ordering) (code : T → ℕ) (owner : Owner) (bits : ℕ) (old mid : Heap T) (r : ℕ) (own : IsOwned owner old mid r) where
  pub map-top : (M : List (Binding T)) → IsMapOf cmp code old (by_bits bits (owned old owner)) M → IsMapOf cmp code mid (by_bits bits r) M
  map-top M is = record { entries = is.entries; rooted = entries-owned cmp code owner bits old mid r own is.entries is.rooted; pairs = map-owned cmp code owner bits old mid r own M is }

  pub edits-top : IsGraph mid → EditsBy owner old mid r [] [] 0 1
  edits-top graph = own.edits mid [] [] 0 0 (Changes-Builds r graph (λ k up one. one) (Builds-refl mid [] 0 0 graph))

-- the way to a pair was made the owner's own, once the root was
module _ {T : Type 0} {cmp : T → T → Ordering} {code : T → ℕ} (total : IsTotalOrder cmp) {owner : Owner} {old mid : Heap T} {r : ℕ} (owns : OwnsRoot owner old mid r) {bits : ℕ} {M : List (Binding T)} (is : IsMapOf cmp code old (by_bits bits (owned old owner)) M) (key : T) where
  pub pair-owned : (x : ℕ) → link_with cmp key is.entries ≡ Some x → (e : Entry T) × HasPair cmp mid is.entries key e
  pair-owned = pair-top total (is-owned owns) is key

  module _ {n : ℕ} (code_is : n ≡ code_by code bits key) where
    pub can-by : CanEditBelow cmp (code_by code bits) mid DEEPEST 0 r n is.entries
    can-by = subst (λ m. CanEditBelow cmp (code_by code bits) mid DEEPEST 0 r m is.entries) (sym code_is) (can-top total (is-owned owns) is key owns.graph)

    module _ {new : Heap T} {e : Entry T} {link : ℕ} (pair : HasPair cmp mid is.entries key e) (made : OwnsIn cmp (code_by code bits) mid new DEEPEST 0 r n is.entries key e link) where
      did : OwnsIn cmp (code_by code bits) mid new DEEPEST 0 r (code_by code bits key) is.entries key e link
      did = subst (λ m. OwnsIn cmp (code_by code bits) mid new DEEPEST 0 r m is.entries key e link) code_is made

      pub owns-by : ((j k : T) → cmp j k ≡ Equal → code j ≡ code k) → MakesWhatCame old new → OwnsPair cmp code owner bits old new r M key link
      owns-by equal_codes came = owns-pair total (is-owned owns) is key equal_codes new e link pair did came

      pub up-by : ChangesUp owner old new r [] [] 0 (OWN_NODES + alike_keys code bits key M)
      up-by = owns.up new [] [] 0 _ _ (omega (arith, alike-top total (is-owned owns) is key)) did.changes (λ l some. absurd (omega (arith, some)))

      pub down-by : OwnsBy owner new link
      down-by = owns.down new [] [] 0 _ did.changes (λ l some. absurd (omega (arith, some))) link did.down

      pub entry-by : OwnsEntry cmp code old new (by_bits bits r) is.entries key link
      entry-by = owned-entry total (is-owned owns) is key new e link pair did
