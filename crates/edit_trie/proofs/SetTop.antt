-- What each edit in place makes of a whole set, once the root was made its owner's own.
use Rattle.std.proofs.Common.{◌≡◌, ◌≢◌, ℕ, not, ◌+◌, ◌<◌, ◌≤◌, List, [], ◌∷◌, length, refl, ap, ◌∙◌, arith, None, Some, IsSome, option_map}
use Rattle.std.specs.List.{All}
use Rattle.std.specs.Cmp.{IsTotalOrder}
use Rattle.std.specs.declared.cmp.Ordering.{Ordering}
use Rattle.std.proofs.lemmas.List.Elements.{All-cons, All-filter, All-weaker}
use Rattle.elem_core.specs.declared.codes.TheConstants.{DEEPEST, LEVELS}
use Rattle.node_heap.specs.Links.{count, Reaches, here, below}
use Rattle.node_heap.specs.Forms.{cell, form_of, links_of}
use Rattle.node_heap.specs.Heap.{Heap, row_at, form_at, links_at, owners_at, live_count, holds_at, one_at, IsGraph}
use Rattle.node_heap.specs.Calls.{Adds, AddsOwner, Builds, Gains, KeepsBelow, MakesWhatCame, Releases}
use Rattle.node_heap.specs.InPlace.{Changes}
use Rattle.node_heap.specs.declared.owner.Owner.{Owner}
use Rattle.node_heap.specs.Owner.{owned}
use Rattle.node_heap.proofs.CallerLemmas.{test_other, owned-live, IsOwned, Changes-more, Changes-then, EditsBy-more}
use Rattle.champ_chain.specs.Entry.{Entry, entry, has_key, key_at, key_of, link_with, others}
use Rattle.champ_chain.proofs.CallerLemmas.{forms-kept}
use Rattle.champ_trie.specs.declared.TheConstants.{ADD_NODES}
use Rattle.champ_trie.specs.Trie.{code_by}
use Rattle.champ_trie.specs.Reach.{alike_in, alike_to}
use Rattle.champ_trie.proofs.CallerLemmas.{forms-below, canon-reach, canon-fit}
use Rattle.champ_kinds.specs.Kinds.{HasEntries, IsKeyCell, IsSetOf}
use Rattle.champ_kinds.proofs.CallerLemmas.{container-stays}
use Rattle.edit_trie.specs.Path.{MakesFew, edit_path, key_way}
use Rattle.edit_trie.specs.Walk.{CanEditBelow, PutsEntryIn, CutsIn}
use Rattle.edit_trie.specs.Edit.{by_bits, AddsKey, CutsEntry}
use Rattle.edit_trie.specs.Way.{IsSoleWay}
use Rattle.edit_trie.proofs.PathLemmas.{edit-paths}
use Rattle.edit_trie.proofs.StepLemmas.{none-live}
use Rattle.edit_trie.proofs.WayLemmas.{way-paths}
use Rattle.edit_trie.proofs.MapLemmas.{entries-owned}
use Rattle.edit_trie.proofs.TrieTop.{way-shared, way-count, way-length, way-others, root-held, root-sole, cut-held, entries-cut, cut-rows, release, root-below, cut-path, made-new, cut-others}
use Rattle.edit_trie.proofs.AddLemmas.{can-add, way-add, entries-added, key-stays, add-changes, add-gains, add-path, add-writes, add-few}

-- a cell leads to nothing
cell-reach : {T : Type 0} (h : Heap T) (key : T) (a b : ℕ) → row_at h a ≡ Some (cell key) → Reaches (links_at h) a b → b ≡ a
cell-reach h key a b is (here l) = refl
cell-reach h key a b is (below l k m has rest) = absurd (omega (arith, has, ap (λ w. count k (links_of w)) is))

module _ {T : Type 0} {cmp : T → T → Ordering} {code : T → ℕ} (o : IsTotalOrder cmp) {owner : Owner} {bits : ℕ} {old mid : Heap T} {r : ℕ} (own : IsOwned owner old mid r) {E : List (Entry T)} (is : IsSetOf cmp code old (by_bits bits (owned old owner)) E) (key : T) where
  abbrev c : ℕ
  c = code_by code bits key

  short-old : length E ≤ live_count old
  short-old = canon-fit cmp (code_by code bits) o old (owned old owner) E is.rooted.trie

  rooted-mid : HasEntries cmp code mid (by_bits bits r) E
  rooted-mid = entries-owned cmp code owner bits old mid r own E is.rooted

  cells-mid : All (IsKeyCell (form_at mid)) E
  cells-mid = λ k d inside. forms-below old mid (owned old owner) own.below _ (canon-reach cmp (code_by code bits) (form_at old) (owned old owner) E is.rooted.trie k d inside) ∙ is.cells k d inside

  -- the cell of an absent key came
  module _ (graph : IsGraph mid) {celled : Heap T} {x : ℕ} (adds : Adds mid celled x (cell key)) (owners : AddsOwner mid celled x) (one : Builds mid celled [] (x ∷ []) 1 0) where
    other-cell : (k : ℕ) → IsSome (row_at mid k) → k ≢ x
    other-cell k live same = none-live (row_at mid k) (ap (row_at mid) same ∙ adds.fresh) live

    owners-stay : (k : ℕ) → IsSome (row_at mid k) → owners_at celled k ≡ owners_at mid k
    owners-stay k live = omega (arith, owners k, test_other k x (other-cell k live))

    cell-form : form_at celled x ≡ Some (cell key)
    cell-form = ap (option_map form_of) adds.here

    pub cell-key : key_at (form_at celled) x ≡ Some key
    cell-key = ap (key_of (form_at celled)) cell-form

    owners-missed : (k : ℕ) → (key_at (form_at celled) k ≡ Some key → ⊥) → owners_at celled k ≡ owners_at mid k
    owners-missed k missed = omega (arith, owners k, test_other k x (λ same. missed (ap (key_at (form_at celled)) same ∙ cell-key)))

    pub can-put : CanEditBelow cmp (code_by code bits) celled DEEPEST 0 r (code_by code bits key) E
    can-put = can-add o key graph own.sole rooted-mid one owners-stay

    pub way-put : (d n last : ℕ) → IsSoleWay mid r d n last → IsSoleWay celled r d n last
    way-put = way-add o key graph own.sole rooted-mid one owners-stay

    pub cell-apart : ¬ Reaches (links_at celled) x r
    cell-apart way = other-cell r (owned-live mid graph r (omega (arith, own.sole))) (cell-reach celled key x r adds.here way)

    -- it was put into the trie
    module _ (absent : link_with cmp key E ≡ None) {new : Heap T} (did : PutsEntryIn cmp (code_by code bits) celled new DEEPEST 0 r (code_by code bits key) E key x) where
      rooted-new : HasEntries cmp code new (by_bits bits r) (entry key x ∷ E)
      rooted-new = entries-added o key graph own.sole rooted-mid one owners-stay absent cell-key owners-missed did

      stays : (l : ℕ) (k : T) → form_at celled l ≡ Some (cell k) → form_at new l ≡ Some (cell k)
      stays l k is = ap (option_map form_of) (key-stays o key graph own.sole rooted-mid one owners-stay absent cell-key owners-missed did l k (ap (key_of (form_at celled)) is)) ∙ is

      set-new : IsSetOf cmp code new (by_bits bits r) (entry key x ∷ E)
      set-new = record {
        rooted = rooted-new;
        cells =
            All-cons (IsKeyCell (form_at new)) (entry key x) E (stays x key cell-form)
            (All-weaker (IsKeyCell (form_at mid)) (IsKeyCell (form_at new)) (λ d at. stays d.link d.key ((forms-kept mid celled one.extends).kept d.link (cell d.key) at)) E cells-mid);
      }

      pub set-gains : Gains mid new
      set-gains = add-gains o key graph own.sole rooted-mid one owners-stay absent cell-key owners-missed did

      short-new : length E + 1 ≤ live_count new
      short-new = omega (arith, canon-fit cmp (code_by code bits) o new r (entry key x ∷ E) rooted-new.trie)

      few-new : MakesFew old new (edit_path cmp code old bits key (owned old owner)) (key_way cmp code old bits key (owned old owner)) (key_way cmp code new bits key r) 1
      few-new =
          let came = add-few o key graph own.sole rooted-mid one owners-stay absent cell-key owners-missed did (live_count old) (live_count new) short-old short-new in
          let lone = way-count own is.rooted.trie (edit-paths cmp (code_by code bits) key) c (live_count old) in
          let long = way-length own is.rooted.trie (edit-paths cmp (code_by code bits) key) c (live_count old) in
          let ways = way-length own is.rooted.trie (way-paths cmp (code_by code bits)) c (live_count old) in
          omega (arith, came, own.came, lone, long, ways)

      pub adds-key : MakesWhatCame old new → AddsKey cmp code owner bits old new r E key
      adds-key makes = record {
        cell = x;
        set = set-new;
        edits = EditsBy-more 1 (ADD_NODES + alike_to code bits key E) (own.edits new [] [] 1 _ (add-changes o key graph own.sole rooted-mid one owners-stay absent cell-key owners-missed did)) (omega arith) (omega arith);
        path = way-shared own is.rooted.trie (edit-paths cmp (code_by code bits) key) c (live_count old) (edit_path cmp code new bits key r) (add-path o key graph own.sole rooted-mid one owners-stay absent cell-key owners-missed did (live_count old) (live_count new) short-old short-new);
        gains = few-new;
        others = way-others own is.rooted.trie (edit-paths cmp (code_by code bits) key) c (live_count old) new (add-writes o key graph own.sole rooted-mid one owners-stay absent cell-key owners-missed did (live_count old) short-old);
        makes = makes;
      }

  -- a key was taken out, and what was cut off with it given up
  module _ {four : Heap T} {cut : ℕ} (held : 0 < holds_at mid r) (did : CutsIn cmp (code_by code bits) mid four DEEPEST 0 r (code_by code bits key) E key cut) {new : Heap T} (rel : Releases four new cut) (graph_new : IsGraph new) (gone : (l : ℕ) → IsSome (row_at new l) → KeepsBelow four new l) where
    held-four : 0 < holds_at four r
    held-four = root-held o own is.rooted key held did

    sole-four : owners_at four r ≡ 1
    sole-four = root-sole o own is.rooted key held did

    held-cut : one_at r cut < holds_at four cut
    held-cut = cut-held o own is.rooted key held did

    set-four : IsSetOf cmp code four (by_bits bits r) (others cmp key E)
    set-four = record {
      rooted = entries-cut o own is.rooted key held did;
      cells =
          let kept = All-filter (λ d. not (has_key cmp key d)) (IsKeyCell (form_at mid)) E cells-mid in
          λ k d inside. ap (option_map form_of) (cut-rows o own is.rooted key held did k d inside) ∙ kept k d inside;
    }

    change : Changes r mid new [] [] 0 (DEEPEST + alike_in (code_by code bits) c E)
    change = Changes-more 0 _ (Changes-then did.changes (release o own is.rooted key held did (λ k. refl) held-four sole-four held-cut rel graph_new gone did.changes.trades.graph)) (omega arith) (omega arith)

    pub cuts-entry : MakesWhatCame old four → CutsEntry cmp code owner bits old new r E key
    cuts-entry makes = record {
      set = (container-stays four new (by_bits bits r) (root-below o own is.rooted key held did (λ k. refl) held-four sole-four held-cut rel graph_new gone)).set cmp code (others cmp key E) set-four;
      edits = EditsBy-more 0 (LEVELS + alike_to code bits key E) (own.edits new [] [] 0 (DEEPEST + alike_in (code_by code bits) c E) change) (omega arith) (omega arith);
      path = cut-path o own is.rooted key held did (λ k. refl) held-four sole-four held-cut rel graph_new gone;
      others = cut-others o own is.rooted key held did (λ k. refl) held-four sole-four held-cut rel graph_new gone;
      made = made-new o own is.rooted key held did (λ k. refl) held-four sole-four held-cut rel graph_new gone makes refl;
    }
