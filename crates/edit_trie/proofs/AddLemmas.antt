-- An entry of an absent key put below a root with one owner, where rows came before, the entry among them.
use Rattle.std.proofs.Common.{◌≡◌, ℕ, ◌+◌, ◌<◌, ◌≤◌, List, [], ◌∷◌, length, take, refl, ap, subst, ◌∙◌, arith, None, Some, IsSome}
use Rattle.std.specs.Prelude.{◌==◌, if◌then◌else◌}
use Rattle.std.specs.Cmp.{IsTotalOrder}
use Rattle.std.specs.declared.cmp.Ordering.{Ordering}
use Rattle.elem_core.specs.declared.codes.TheConstants.{DEEPEST, LEVELS}
use Rattle.node_heap.specs.Links.{count}
use Rattle.node_heap.specs.Heap.{Heap, row_at, form_at, owners_at, IsGraph}
use Rattle.node_heap.specs.Calls.{Builds, Gains}
use Rattle.node_heap.specs.InPlace.{Changes}
use Rattle.node_heap.specs.declared.owner.Owner.TheVariants.{Hold as by_hold}
use Rattle.node_heap.specs.Owner.{written, alone, WritesOnly}
use Rattle.node_heap.proofs.CallerLemmas.{count-link as count-cons, test_same, Extends-row, Changes-then, Changes-more, owned-live, Changes-Builds, Gains-trans, Gains-Builds}
use Rattle.champ_chain.specs.Entry.{Entry, entry, key_at, link_with, others, put}
use Rattle.champ_chain.proofs.CallerLemmas.{key-live}
use Rattle.champ_trie.specs.Trie.{IsCanon, code_by}
use Rattle.champ_trie.specs.Reach.{alike_in}
use Rattle.champ_trie.proofs.CallerLemmas.{forms-below, canon-stays, canon-below, put-distinct}
use Rattle.champ_kinds.specs.Kinds.{HasEntries}
use Rattle.champ_kinds.proofs.CallerLemmas.{link-none, others-none}
use Rattle.edit_trie.specs.Path.{edit_rows, way_rows, KeepsShared, MakesFew}
use Rattle.edit_trie.specs.Edit.{by_bits}
use Rattle.edit_trie.specs.Walk.{CanEditBelow, PutsEntryIn}
use Rattle.edit_trie.specs.Way.{IsSoleWay}
use Rattle.edit_trie.proofs.DownLemmas.{way-stays}
use Rattle.edit_trie.proofs.PathLemmas.{rows-stay, edit-says, edit-avoids, keeps-missed, stays-below}
use Rattle.edit_trie.proofs.WayLemmas.{way-says}
use Rattle.edit_trie.proofs.InChainLemmas.{count-take}

-- as many rows of a path are alone where each of it has as many owners
alone-same : {T : Type 0} (g h : Heap T) (path : List ℕ) → ((k : ℕ) → 0 < count k path → owners_at h k ≡ owners_at g k) → alone h path ≡ alone g path
alone-same g h [] same = refl
alone-same g h (k ∷ ks) same =
    ap (λ n. if n == 1 then 1 + alone h ks else 0) (same k (omega (arith, count-cons k k ks, test_same k k refl)))
    ∙ ap (λ (n : ℕ). if owners_at g k == 1 then 1 + n else 0) (alone-same g h ks (λ j some. same j (omega (arith, some, count-cons j k ks))))

module _ {T : Type 0} {cmp : T → T → Ordering} {code : T → ℕ} (o : IsTotalOrder cmp) {old mid : Heap T} {bits r : ℕ} (key : T) {E : List (Entry T)} (graph : IsGraph old) (sole : owners_at old r ≡ 1) (is : HasEntries cmp code old (by_bits bits r) E) {spent : List ℕ} {y cells nodes : ℕ}
    (builds : Builds old mid spent (y ∷ []) cells nodes) (stay : (k : ℕ) → IsSome (row_at old k) → owners_at mid k ≡ owners_at old k) where
  abbrev c : ℕ
  c = code_by code bits key

  live-root : IsSome (row_at old r)
  live-root = owned-live old graph r (omega (arith, sole))

  canon-mid : IsCanon cmp (code_by code bits) (form_at mid) r E
  canon-mid = canon-stays (form_at old) (form_at mid) r (forms-below old mid r (builds.extends.kept r live-root)) cmp (code_by code bits) E is.trie

  pub entries-stay : HasEntries cmp code mid (by_bits bits r) E
  entries-stay = record { bits = is.bits; trie = canon-mid }

  pub can-add : CanEditBelow cmp (code_by code bits) mid DEEPEST 0 r c E
  can-add = record { graph = builds.graph; sole = stay r live-root ∙ sole; below = canon-below cmp (code_by code bits) (form_at mid) r c E canon-mid }

  pub way-add : (d n last : ℕ) → IsSoleWay old r d n last → IsSoleWay mid r d n last
  way-add d n last way = (way-stays old mid r d graph (builds.extends.kept r live-root) stay n last way).0

  -- the entry was put there
  module _ (absent : link_with cmp key E ≡ None) (keyed : key_at (form_at mid) y ≡ Some key) (missed : (k : ℕ) → (key_at (form_at mid) k ≡ Some key → ⊥) → owners_at mid k ≡ owners_at old k) {new : Heap T} (did : PutsEntryIn cmp (code_by code bits) mid new DEEPEST 0 r c E key y) where
    all-same : others cmp key E ≡ E
    all-same = others-none cmp key E (link-none cmp key E absent)

    pub entries-put : HasEntries cmp code new (by_bits bits r) (put cmp E (entry key y))
    entries-put = record { bits = is.bits; trie = record { trie = did.trie; distinct = put-distinct cmp (code_by code bits) o E (entry key y) canon-mid.distinct } }

    pub entries-added : HasEntries cmp code new (by_bits bits r) (entry key y ∷ E)
    entries-added = subst (λ es. HasEntries cmp code new (by_bits bits r) (entry key y ∷ es)) all-same entries-put

    -- what names a key stays
    pub key-stays : (l : ℕ) (k : T) → key_at (form_at mid) l ≡ Some k → row_at new l ≡ row_at mid l
    key-stays l k named =
        did.others (length E) (omega arith) l (key-live mid l k named)
        (count-take l (edit_rows cmp (form_at mid) key (length E) LEVELS 0 c r) (alone mid (edit_rows cmp (form_at mid) key (length E) LEVELS 0 c r))
        (edit-avoids cmp (code_by code bits) (form_at mid) l k named key (length E) LEVELS 0 c r E canon-mid.trie))

    pub add-changes : Changes r old new spent [] cells (nodes + (LEVELS + alike_in (code_by code bits) c E))
    add-changes =
        Changes-more cells (nodes + (LEVELS + alike_in (code_by code bits) c E))
        (Changes-then (Changes-Builds r graph (λ k up one. stay k (owned-live old graph k (omega (arith, one))) ∙ one) builds) did.changes) (omega arith) (omega arith)

    pub add-gains : Gains old new
    add-gains = Gains-trans (Gains-Builds builds) did.gains

    -- the path missed what came
    same-path : (most : ℕ) → edit_rows cmp (form_at mid) key most LEVELS 0 c r ≡ edit_rows cmp (form_at old) key most LEVELS 0 c r
    same-path most =
        rows-stay cmp (code_by code bits) (form_at old) (form_at mid) (stays-below (form_at old) (form_at mid)) _ _ _ _ (edit-says cmp (code_by code bits) (form_at old) (form_at mid) (stays-below (form_at old) (form_at mid)) key most) LEVELS 0 c r E (forms-below old mid r (builds.extends.kept r live-root)) is.trie.trie

    off-path : (most k : ℕ) → 0 < count k (edit_rows cmp (form_at mid) key most LEVELS 0 c r) → owners_at mid k ≡ owners_at old k
    off-path most k some = missed k (λ named. absurd (omega (arith, some, edit-avoids cmp (code_by code bits) (form_at mid) k key named key most LEVELS 0 c r E canon-mid.trie)))

    off-first : (most n k : ℕ) → 0 < count k (take n (edit_rows cmp (form_at mid) key most LEVELS 0 c r)) → owners_at mid k ≡ owners_at old k
    off-first most n k some =
        let path = edit_rows cmp (form_at mid) key most LEVELS 0 c r in
        missed k (λ named. absurd (omega (arith, some, count-take k path n (edit-avoids cmp (code_by code bits) (form_at mid) k key named key most LEVELS 0 c r E canon-mid.trie))))

    pub add-path : (most more : ℕ) → length E ≤ most → length E + 1 ≤ more → KeepsShared old (edit_rows cmp (form_at old) key most LEVELS 0 c r) (edit_rows cmp (form_at new) key more LEVELS 0 c r)
    add-path most more short short' =
        let path = edit_rows cmp (form_at mid) key most LEVELS 0 c r in
        let path' = edit_rows cmp (form_at new) key more LEVELS 0 c r in
        subst (λ ks. KeepsShared old ks path') (same-path most)
        (keeps-missed old mid (take (length path') path) (take (length path) path') (alone-same old mid (take (length path') path) (off-first most (length path'))) (did.path most more short short'))

    alone-all : (most : ℕ) → alone mid (edit_rows cmp (form_at mid) key most LEVELS 0 c r) ≡ alone old (edit_rows cmp (form_at mid) key most LEVELS 0 c r)
    alone-all most = alone-same old mid (edit_rows cmp (form_at mid) key most LEVELS 0 c r) (off-path most)

    pub add-writes : (most : ℕ) → length E ≤ most → WritesOnly (by_hold r) old new r (edit_rows cmp (form_at old) key most LEVELS 0 c r)
    add-writes most short m live off =
        let there : count m (written mid (edit_rows cmp (form_at mid) key most LEVELS 0 c r)) ≡ 0 =
        ap (λ n. count m (take n (edit_rows cmp (form_at mid) key most LEVELS 0 c r))) (alone-all most) ∙ ap (λ ks. count m (written old ks)) (same-path most) ∙ off in
        did.others most short m (builds.extends.live m live) there ∙ Extends-row builds.extends m live

    pub add-few : (most more : ℕ) → length E ≤ most → length E + 1 ≤ more
        → MakesFew old new (edit_rows cmp (form_at old) key most LEVELS 0 c r) (way_rows (form_at old) most LEVELS 0 c r) (way_rows (form_at new) more LEVELS 0 c r) (cells + nodes)
    add-few most more short short' =
        let came = did.came most more short short' in
        let ways =
        rows-stay cmp (code_by code bits) (form_at old) (form_at mid) (stays-below (form_at old) (form_at mid)) _ _ _ _ (way-says cmp (code_by code bits) (form_at old) (form_at mid) (stays-below (form_at old) (form_at mid)) most) LEVELS 0 c r E (forms-below old mid r (builds.extends.kept r live-root)) is.trie.trie in
        omega (arith, came, builds.makes.live, builds.few_cells, builds.few_nodes, alone-all most, ap (alone old) (same-path most), ap length (same-path most), ap length ways)
