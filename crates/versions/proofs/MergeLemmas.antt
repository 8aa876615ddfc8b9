-- Merged sets and maps by their roots.
use Rattle.std.proofs.Common.{◌≡◌, ℕ, ◌≤◌, not, List, ◌++◌, map, Option, Some, None, refl, ap, sym, ◌∙◌, subst}
use Rattle.std.specs.Prelude.{count_by, is_some, option_map}
use Rattle.std.specs.Ordering.{eq_by_cmp}
use Rattle.std.specs.Cmp.{IsTotalOrder}
use Rattle.std.specs.FinMap.{find}
use Rattle.std.specs.List.{AllZip}
use Rattle.std.specs.declared.cmp.Ordering.{Ordering}
use Rattle.std.proofs.lemmas.List.{map-append}
use Rattle.elem_core.specs.declared.codes.TheConstants.{CODE_BITS}
use Rattle.node_heap.specs.Heap.{Heap}
use Rattle.node_heap.specs.Calls.{Extends}
use Rattle.champ_chain.specs.Entry.{Entry}
use Rattle.champ_kinds.specs.Root.{Root}
use Rattle.champ_kinds.specs.Binding.{Binding, value_with}
use Rattle.champ_kinds.specs.Kinds.{IsSetOf, IsMapOf}
use Rattle.champ_kinds.proofs.StayLemmas.{map-live}
use Rattle.set_merge.specs.Merge.{is_key}
use Rattle.set_merge.specs.Merge as merge
use Rattle.set_merge.proofs.ZipLemmas.{zip-joined, zip-filter}
use Rattle.versions.specs.declared.piece.Piece.{Piece}
use Rattle.versions.specs.declared.piece.Piece.TheVariants.{Key, Value}
use Rattle.versions.specs.Rooted.{value_at}
use Rattle.versions.specs.Sorted.{both, by_keys, less, map_both, map_less, map_union, sorted_keys, union}
use Rattle.versions.specs.Keyed.{by_root, IsKeySet}
use Rattle.versions.specs.Pieces.{piece_code, piece_order}
use Rattle.versions.specs.Bound.{IsBoundTo, IsKeyMap}
use Rattle.versions.proofs.SortLemmas.{map-where}
use Rattle.versions.proofs.UnionLemmas.{both-by_keys, both-sorted, filter-as, less-by_keys, less-sorted, union-by_keys, union-sorted}
use Rattle.versions.proofs.KeyedLemmas.{has-link, keys-once, root-at}
use Rattle.versions.proofs.BoundLemmas.{bound-stays, map-once, value-found}

module _ {K : Type 0} (cmp : K → K → Ordering) where
  abbrev keys_in : List (Entry K) → List K
  keys_in E = map (λ (e : Entry K). e.key) E

  -- the keys of a merge are the merge of the keys
  keys-less : (E D : List (Entry K)) → keys_in (merge.less cmp E D) ≡ less cmp (keys_in E) (keys_in D)
  keys-less E D = map-where (λ (e : Entry K). e.key) (λ k. not (is_key cmp D k)) E ∙ filter-as _ _ (λ k. ap not (sym (has-link cmp k D))) (keys_in E)

  keys-both : (E D : List (Entry K)) → keys_in (merge.both cmp E D) ≡ both cmp (keys_in E) (keys_in D)
  keys-both E D = map-where (λ (e : Entry K). e.key) (is_key cmp D) E ∙ filter-as _ _ (λ k. sym (has-link cmp k D)) (keys_in E)

  keys-union : (E D : List (Entry K)) → keys_in (merge.union cmp E D) ≡ keys_in E ++ less cmp (keys_in D) (keys_in E)
  keys-union E D = map-append (λ (e : Entry K). e.key) E (merge.less cmp D E) ∙ ap (λ ks. keys_in E ++ ks) (keys-less D E)

  module _ (o : IsTotalOrder cmp) (code : K → ℕ) (old new : Heap K) (l m : ℕ) (r : Root) (ks js : List K) (is : IsKeySet cmp code old l ks) (are : IsKeySet cmp code old m js) (bits : r.bits ≡ CODE_BITS) where
    merged : (M : List (Entry K)) → IsSetOf cmp code new r M → (us : List K) → us ≡ sorted_keys cmp (keys_in M) → IsKeySet cmp code new r.root us
    merged M made us sorted = record { entries = M; set = subst (λ (q : Root). IsSetOf cmp code new q M) (sym (root-at r bits)) made; sorted = sorted }

    pub set-both : IsSetOf cmp code new r (merge.both cmp is.entries are.entries) → IsKeySet cmp code new r.root (both cmp ks js)
    set-both made = merged _ made _ ((λ i. both cmp (is.sorted i) (are.sorted i)) ∙ sym (ap (sorted_keys cmp) (keys-both is.entries are.entries) ∙ both-sorted cmp o (keys_in is.entries) (keys_in are.entries)))

    pub set-less : IsSetOf cmp code new r (merge.less cmp is.entries are.entries) → IsKeySet cmp code new r.root (less cmp ks js)
    set-less made = merged _ made _ ((λ i. less cmp (is.sorted i) (are.sorted i)) ∙ sym (ap (sorted_keys cmp) (keys-less is.entries are.entries) ∙ less-sorted cmp o (keys_in is.entries) (keys_in are.entries)))

    pub set-union : IsSetOf cmp code new r (merge.union cmp is.entries are.entries) → IsKeySet cmp code new r.root (union cmp ks js)
    set-union made =
        let A = keys_in is.entries in
        let B = keys_in are.entries in
        let once : (q : K) → count_by (eq_by_cmp cmp q) (A ++ less cmp B A) ≤ 1 = λ q. subst (λ us. count_by (eq_by_cmp cmp q) us ≤ 1) (keys-union is.entries are.entries) (keys-once cmp o code new r (merge.union cmp is.entries are.entries) made.rooted q) in
        let same = union-sorted cmp o A B (keys-once cmp o code old (by_root l) is.entries is.set.rooted) (keys-once cmp o code old (by_root m) are.entries are.set.rooted) once in
        merged _ made _ ((λ i. union cmp (is.sorted i) (are.sorted i)) ∙ sym (ap (sorted_keys cmp) (keys-union is.entries are.entries) ∙ same))

some-same : {A B C : Type 0} (f : A → C) (g : B → C) (a : Option A) (b : Option B) → option_map f a ≡ option_map g b → is_some a ≡ is_some b
some-same f g None None same = refl
some-same f g None (Some y) same = ap is_some same
some-same f g (Some x) None same = ap is_some same
some-same f g (Some x) (Some y) same = refl

module _ {K V : Type 0} (cmp : K → K → Ordering) (value_cmp : V → V → Ordering) where
  -- a binding's key is in a map just where that of its entry is
  bound-as : (h : Heap (Piece K V)) (M : List (Binding (Piece K V))) (es : List (K × V)) → AllZip (IsBoundTo cmp h) M es → (b : Binding (Piece K V)) (d : K × V) → IsBoundTo cmp h b d → is_some (value_with (piece_order cmp value_cmp) b.key M) ≡ is_some (find cmp d.0 es)
  bound-as h M es zip b d bound =
      ap (λ k. is_some (value_with (piece_order cmp value_cmp) k M)) bound.key ∙ some-same (λ z. value_at h z) (λ v. Some (Value v)) (value_with (piece_order cmp value_cmp) (Key d.0) M) (find cmp d.0 es) (value-found cmp value_cmp h d.0 M es zip)

  module _ (o : IsTotalOrder cmp) (p : IsTotalOrder value_cmp) (code : K → ℕ) (old new : Heap (Piece K V)) (l m : ℕ) (r : Root) (es ds : List (K × V)) (is : IsKeyMap cmp value_cmp code old l es) (are : IsKeyMap cmp value_cmp code old m ds) (bits : r.bits ≡ CODE_BITS) (extends : Extends old new) where
    -- both maps stand in the new heap
    first : AllZip (IsBoundTo cmp new) is.bindings is.entries
    first = bound-stays cmp value_cmp o p code old new l es (extends.kept l (map-live old (by_root l) l refl is.stands)) is

    second : AllZip (IsBoundTo cmp new) are.bindings are.entries
    second = bound-stays cmp value_cmp o p code old new m ds (extends.kept m (map-live old (by_root m) m refl are.stands)) are

    made-map : (M : List (Binding (Piece K V))) → IsMapOf (piece_order cmp value_cmp) (piece_code code) new r M → (us : List (K × V)) → AllZip (IsBoundTo cmp new) M us → (vs : List (K × V)) → vs ≡ by_keys cmp us → IsKeyMap cmp value_cmp code new r.root vs
    made-map M made us bound vs sorted = record {
      bindings = M;
      stands = subst (λ (q : Root). IsMapOf (piece_order cmp value_cmp) (piece_code code) new q M) (sym (root-at r bits)) made;
      entries = us;
      bound = bound;
      sorted = sorted;
    }

    pub map-both : IsMapOf (piece_order cmp value_cmp) (piece_code code) new r (merge.map_both (piece_order cmp value_cmp) is.bindings are.bindings) → IsKeyMap cmp value_cmp code new r.root (map_both cmp es ds)
    map-both made =
        made-map _ made (map_both cmp is.entries are.entries) (zip-filter (IsBoundTo cmp new) (λ b. is_some (value_with (piece_order cmp value_cmp) b.key are.bindings)) (λ e. is_some (find cmp e.0 are.entries)) (bound-as new are.bindings are.entries second) is.bindings is.entries first) _
        ((λ i. map_both cmp (is.sorted i) (are.sorted i)) ∙ sym (both-by_keys cmp o is.entries are.entries))

    pub map-less : IsMapOf (piece_order cmp value_cmp) (piece_code code) new r (merge.map_less (piece_order cmp value_cmp) is.bindings are.bindings) → IsKeyMap cmp value_cmp code new r.root (map_less cmp es ds)
    map-less made =
        made-map _ made (map_less cmp is.entries are.entries) (zip-filter (IsBoundTo cmp new) (λ b. not (is_some (value_with (piece_order cmp value_cmp) b.key are.bindings))) (λ e. not (is_some (find cmp e.0 are.entries))) (λ b e bound. ap not (bound-as new are.bindings are.entries second b e bound)) is.bindings is.entries first) _
        ((λ i. map_less cmp (is.sorted i) (are.sorted i)) ∙ sym (less-by_keys cmp o is.entries are.entries))

    pub map-united : IsMapOf (piece_order cmp value_cmp) (piece_code code) new r (merge.map_union (piece_order cmp value_cmp) is.bindings are.bindings) → IsKeyMap cmp value_cmp code new r.root (map_union cmp es ds)
    unfolding made-map
    map-united made =
        let zip = zip-joined (IsBoundTo cmp new) is.bindings _ is.entries (map_less cmp are.entries is.entries) first
        (zip-filter (IsBoundTo cmp new) (λ b. not (is_some (value_with (piece_order cmp value_cmp) b.key is.bindings))) (λ e. not (is_some (find cmp e.0 is.entries))) (λ b e bound. ap not (bound-as new is.bindings is.entries first b e bound)) are.bindings are.entries second) in
        let there = made-map _ made (is.entries ++ map_less cmp are.entries is.entries) zip _ refl in
        let same = union-by_keys cmp o is.entries are.entries (map-once cmp value_cmp o p code old l es is) (map-once cmp value_cmp o p code old m ds are) (map-once cmp value_cmp o p code new r.root _ there) in
        subst (IsKeyMap cmp value_cmp code new r.root) (same ∙ sym (λ i. map_union cmp (is.sorted i) (are.sorted i))) there
