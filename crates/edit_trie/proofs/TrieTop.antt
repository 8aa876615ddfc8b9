-- What each edit in place makes of the entries of a whole trie, whatever they are, once the root was made its owner's own.
use Rattle.std.proofs.Common.{◌≡◌, ◌≢◌, ℕ, ◌+◌, ◌<◌, ◌≤◌, List, ◌∷◌, length, get_or, ap, sym, subst, ◌∙◌, arith, IsSome, option_map, inl, inr, [], refl, Some, ◌-◌, ◌^◌, min}
use Rattle.std.specs.declared.cmp.Ordering.{Ordering}
use Rattle.std.specs.List.{All}
use Rattle.std.specs.Cmp.{IsTotalOrder}
use Rattle.std.proofs.lemmas.Bool.{cases_eq}
use Rattle.elem_core.specs.declared.codes.TheConstants.{DEEPEST, LEVELS}
use Rattle.node_heap.specs.Links.{count, HasLink, here, SameBelow}
use Rattle.node_heap.specs.Forms.{links_in, form_of, is_node, Forms}
use Rattle.node_heap.specs.Heap.{Heap, row_at, form_at, links_at, owners_at, live_count, IsGraph, holds_at, one_at}
use Rattle.node_heap.specs.InPlace.{other_at, Changes}
use Rattle.node_heap.specs.declared.owner.Owner.{Owner}
use Rattle.node_heap.specs.Owner.{owned, KeepsAlone, alone, written, WritesOnly, WritesOnlyLeft}
use Rattle.node_heap.specs.Calls.{MakesWhatCame, KeepsBelow, SameRows, Releases}
use Rattle.node_heap.proofs.CallerLemmas.{SameBelow-link, KeepsAlone-own, alone-own, written-own, IsOwned, count-cons, test_same, test_other, KeepsBelow-trans, Changes-Releases, roots-off}
use Rattle.champ_chain.specs.Entry.{Entry, IsEntry, others}
use Rattle.champ_chain.proofs.CallerLemmas.{key-live, rows-live}
use Rattle.champ_chain.specs.Chain.{AreChainRows}
use Rattle.champ_trie.specs.Trie.{IsCanon, code_by}
use Rattle.champ_trie.proofs.CallerLemmas.{forms-below, canon-below, names-keys, canon-fit, canon-stays, others-distinct, row-at}
use Rattle.champ_kinds.specs.Kinds.{HasEntries}
use Rattle.edit_trie.specs.Path.{KeepsShared, MakesCopies, edit_rows, edit_path, chain_rows}
use Rattle.edit_trie.specs.Walk.{MakesShared, CanEditBelow, CutsIn}
use Rattle.edit_trie.specs.Edit.{by_bits}
use Rattle.edit_trie.proofs.PathLemmas.{Paths, path_of, rows_below, rows-first, below-moved, down-first, down-below, edit-paths, rows-stay, chain-fuel, edit-says, edit-avoids, stays-below}
use Rattle.edit_trie.proofs.StepLemmas.{shared-own, copies-own, made-own, alone-first, none-live, off-first}
use Rattle.edit_trie.proofs.RowLemmas.{node-form}
use Rattle.edit_trie.proofs.InChainLemmas.{count-take}
use Rattle.edit_trie.proofs.MapLemmas.{entries-owned, all-others}
use Rattle.edit_trie.proofs.ChainEdits.{rows-below-stay}

-- the root of a trie is a node
pub root-node : {T : Type 0} {cmp : T → T → Ordering} {code : T → ℕ} {h : Heap T} {bits root : ℕ} {E : List (Entry T)} → HasEntries cmp code h (by_bits bits root) E → is_node (row_at h root) ≡ 1
root-node {cmp = cmp} {code = code} {h = h} {bits = bits} {root = root} {E = E} is =
    let at = row-at cmp (code_by code bits) (form_at h) DEEPEST 0 root E is.trie.trie in
    node-form (row_at h root) _ at.2 at.3.row

module _ {T : Type 0} {cmp : T → T → Ordering} {code : T → ℕ} {owner : Owner} {old mid : Heap T} {r : ℕ} (own : IsOwned owner old mid r) {E : List (Entry T)} (is : IsCanon cmp code (form_at old) (owned old owner) E) (p : Paths cmp code) (c most : ℕ) where
  abbrev root : ℕ
  root = owned old owner

  abbrev tail : List ℕ
  tail = rows_below (p.entry (form_at old)) (p.chain (form_at old) most) (form_at old) DEEPEST 0 c root

  was : path_of p (form_at old) most LEVELS 0 c root ≡ root ∷ tail
  was = rows-first (p.entry (form_at old)) (p.chain (form_at old) most) (form_at old) DEEPEST 0 c root

  now : path_of p (form_at mid) most LEVELS 0 c r ≡ r ∷ tail
  now =
      let F = form_at old in
      let G = form_at mid in
      rows-first (p.entry G) (p.chain G most) G DEEPEST 0 c r
      ∙ ap (λ ks. r ∷ ks) (below-moved cmp code F G (stays-below F G) (p.entry F) (p.chain F most) (p.entry G) (p.chain G most) (p.says F G _ (stays-below F G) most) DEEPEST 0 c root r E (ap (option_map form_of) own.row_same)
      (λ s has. SameBelow-link (links_in F) F G root s has (forms-below old mid root own.below)) is.trie)

  next : 1 ≤ length tail → HasLink (links_at old) root (get_or tail 0 0)
  next some = down-first old root tail (down-below old cmp code (p.entry (form_at old)) (p.chain (form_at old) most) (p.goes old most) DEEPEST 0 c root E is.trie) some

  abbrev pub before : List ℕ
  before = path_of p (form_at old) most LEVELS 0 c (owned old owner)

  abbrev pub after : List ℕ
  after = path_of p (form_at mid) most LEVELS 0 c r

  -- what keeps the path from there on keeps the whole
  pub way-alone : (path' : List ℕ) → KeepsAlone mid after path' → KeepsAlone old before path'
  way-alone path' keep = subst (λ ks. KeepsAlone old ks path') (sym was) (KeepsAlone-own old mid root r tail own.same own.sole own.owners own.graph next path' (subst (λ ks. KeepsAlone mid ks path') now keep))

  pub way-shared : (path' : List ℕ) → KeepsShared mid after path' → KeepsShared old before path'
  way-shared path' keep = subst (λ ks. KeepsShared old ks path') (sym was) (shared-own old mid root r own.same own.sole own.owners own.graph tail next path' (subst (λ ks. KeepsShared mid ks path') now keep))

  -- it has one alone row more where the root was copied, and as many rows
  pub way-count : alone mid after ≡ alone old before + other_at (owned old owner) r
  way-count = omega (arith, ap (alone mid) now, ap (alone old) was, alone-own old mid root r tail own.same own.sole own.owners own.graph next)

  pub way-length : length after ≡ length before
  way-length = omega (arith, ap length now, ap length was)

  -- as many rows came beside
  pub way-copies : (new : Heap T) → MakesCopies mid new after → MakesCopies old new before
  way-copies new came = subst (MakesCopies old new) (sym was) (copies-own old mid root r own.same own.sole own.owners own.graph tail next new own.came (subst (MakesCopies mid new) now came))

  pub way-made : (new : Heap T) (z : ℕ) (zs : List ℕ) → MakesShared mid new after (z ∷ zs) → MakesShared old new before (z ∷ zs)
  way-made new z zs came =
      subst (λ ks. MakesShared old new ks (z ∷ zs)) (sym was) (made-own old mid root r own.same own.sole own.owners own.graph tail next new own.came z zs (subst (λ ks. MakesShared mid new ks (z ∷ zs)) now came))

  -- a row that isn't written isn't the root's own, nor written from there on
  pub way-off : (m : ℕ) → IsSome (row_at old m) → count m (written old before) ≡ 0 → (m ≢ r) × (count m (written mid after) ≡ 0)
  way-off m live off =
      let path : count m (written old (root ∷ tail)) ≡ 0 = subst (λ ks. count m (written old ks) ≡ 0) was off in
      let gone : r ≢ root → m ≢ r = λ copy e. none-live (row_at old m) (ap (row_at old) e ∙ own.fresh copy) live in
      let other : m ≢ r = λ e. elim (cases_eq r root) as (λ _. ⊥) [
        | inl itself ↦ (off-first old root m tail (own.same.0 itself) path).0 (e ∙ itself)
        | inr copy ↦ gone copy e
      ] in
      (other, subst (λ ks. count m (written mid ks) ≡ 0) (sym now) (written-own old mid root r tail own.same own.sole own.owners own.graph next m gone path))

  pub way-others : (new : Heap T) → ((m : ℕ) → IsSome (row_at mid m) → count m (written mid after) ≡ 0 → row_at new m ≡ row_at mid m) → WritesOnly owner old new r before
  way-others new others m live off = let both = way-off m live off in others m (own.live m live) both.1 ∙ own.kept m both.0 live

-- the root of a trie was made its owner's own
module _ {T : Type 0} {cmp : T → T → Ordering} {code : T → ℕ} (o : IsTotalOrder cmp) {owner : Owner} {bits : ℕ} {old mid : Heap T} {r : ℕ} (own : IsOwned owner old mid r) {E : List (Entry T)} (is : HasEntries cmp code old (by_bits bits (owned old owner)) E) (key : T) where
  abbrev c : ℕ
  c = code_by code bits key

  short-old : length E ≤ live_count old
  short-old = canon-fit cmp (code_by code bits) o old (owned old owner) E is.trie

  rooted-mid : HasEntries cmp code mid (by_bits bits r) E
  rooted-mid = entries-owned cmp code owner bits old mid r own E is

  pub can-edit : IsGraph mid → CanEditBelow cmp (code_by code bits) mid DEEPEST 0 r (code_by code bits key) E
  can-edit graph = record { graph = graph; sole = own.sole; below = canon-below cmp (code_by code bits) (form_at mid) r (code_by code bits key) E rooted-mid.trie }

  -- a key was taken out
  module _ {four : Heap T} {cut : ℕ} (held : 0 < holds_at mid r) (did : CutsIn cmp (code_by code bits) mid four DEEPEST 0 r (code_by code bits key) E key cut) where
    pub root-held : 0 < holds_at four r
    root-held = omega (arith, held, did.changes.trades.holds r)

    pub root-sole : owners_at four r ≡ 1
    root-sole = did.changes.paths.soles r (here r) own.sole

    pub cut-held : one_at r cut < holds_at four cut
    cut-held = elim (cases_eq r cut) as (λ _. one_at r cut < holds_at four cut) [
      | inl same ↦ omega (arith, did.changes.trades.holds cut, count-cons cut cut [], test_same cut cut refl, test_same cut r (sym same), held, ap (holds_at mid) same)
      | inr other ↦ omega (arith, did.changes.trades.holds cut, count-cons cut cut [], test_same cut cut refl, test_other cut r (λ same. other (sym same)))
    ]

    canon-cut : IsCanon cmp (code_by code bits) (form_at four) r (others cmp key E)
    canon-cut = record { trie = did.trie; distinct = others-distinct cmp (code_by code bits) key E rooted-mid.trie.distinct }

    pub entries-cut : HasEntries cmp code four (by_bits bits r) (others cmp key E)
    entries-cut = record { bits = is.bits; trie = canon-cut }

    -- each entry that is left stays, and names its key
    pub cut-names : All (IsEntry (form_at four)) (others cmp key E)
    cut-names = names-keys cmp (code_by code bits) (form_at four) r (others cmp key E) canon-cut

    pub cut-rows : All (λ d. row_at four d.link ≡ row_at mid d.link) (others cmp key E)
    cut-rows =
        all-others cmp key (IsEntry (form_at mid)) (λ d. row_at four d.link ≡ row_at mid d.link)
        (λ d apart keyed.
        let path = edit_rows cmp (form_at mid) key (length E) LEVELS 0 c r in
        let off = edit-avoids cmp (code_by code bits) (form_at mid) d.link d.key keyed key (length E) LEVELS 0 c r E rooted-mid.trie.trie in
        let live = key-live mid d.link d.key keyed in
        did.others (length E) (omega arith) d.link live (did.gains.stays d.link live) (count-take d.link path (alone mid path) off))
        E (names-keys cmp (code_by code bits) (form_at mid) r E rooted-mid.trie)

    -- then rows stayed, with one owner of the root, and a hold of what was cut off
    module _ {five : Heap T} (rows : SameRows four five) (root_held : 0 < holds_at five r) (root_sole : owners_at five r ≡ 1) (cut_held : one_at r cut < holds_at five cut) where
      -- and that was given up
      module _ {new : Heap T} (rel : Releases five new cut) (graph_new : IsGraph new) (below : (l : ℕ) → IsSome (row_at new l) → KeepsBelow five new l) where
        pub release : IsGraph five → Changes r five new (cut ∷ []) [] 0 0
        release graph = Changes-Releases five new cut graph rel r (roots-off five r cut root_held root_sole cut_held) graph_new

        held-new : 0 < holds_at new r
        held-new = elim (cases_eq r cut) as (λ _. 0 < holds_at new r) [
          | inl same ↦ omega (arith, rel.holds r, cut_held, ap (holds_at five) same, test_same r cut same, test_same cut r (sym same))
          | inr other ↦ omega (arith, rel.holds r, root_held, test_other r cut other)
        ]

        live-new : IsSome (row_at new r)
        live-new = (rel.stays r).1 (r, held-new, here r)

        -- all below the root stays from the cut on
        pub root-below : KeepsBelow four new r
        root-below = KeepsBelow-trans four five new r (λ m way. rows m) (below r live-new)

        pub entries-new : HasEntries cmp code new (by_bits bits r) (others cmp key E)
        entries-new = record { bits = is.bits; trie = canon-stays (form_at four) (form_at new) r (forms-below four new r root-below) cmp (code_by code bits) (others cmp key E) canon-cut }

        short-mid : length E ≤ live_count mid
        short-mid = canon-fit cmp (code_by code bits) o mid r E rooted-mid.trie

        -- the path is read alike once the rest was given up
        now-path : edit_path cmp code new bits key r ≡ edit_rows cmp (form_at four) key (live_count four) LEVELS 0 c r
        now-path =
            let F = form_at four in
            let G = form_at new in
            rows-stay cmp (code_by code bits) F G (stays-below F G) (λ _. []) (λ q. chain_rows cmp F key (λ _. []) (live_count four) (Some q)) (λ _. []) (λ q. chain_rows cmp G key (λ _. []) (live_count new) (Some q))
            (record {
              entry = λ y k same keyed. refl;
              chain = λ k P same chained.
                  let stay = (edit-says cmp (code_by code bits) F G (stays-below F G) key (live_count four)).chain k P same chained in
                  let there = key-rows F G k chained.entries same chained.rows in
                  chain-fuel cmp G key (λ _. []) (live_count new) (live_count four) (Some k) chained.entries (rows-live new graph_new chained.entries (Some k) there) (rows-live four did.changes.trades.graph chained.entries (Some k) chained.rows) there ∙ stay;
            }) LEVELS 0 c r (others cmp key E) (forms-below four new r root-below) did.trie
          where
            key-rows : (F G : Forms T) (k : ℕ) (es : List (Entry T)) → SameBelow (links_in F) F G k → AreChainRows F (Some k) es → AreChainRows G (Some k) es
            key-rows F G k es same rows = rows-below-stay F G (Some k) es (λ m e. let one : k ≡ m = cc in subst (SameBelow (links_in F) F G) one same) rows

        pub cut-path : KeepsShared old (edit_path cmp code old bits key (owned old owner)) (edit_path cmp code new bits key r)
        cut-path =
            let path' = edit_rows cmp (form_at four) key (live_count four) LEVELS 0 c r in
            let more : live_count mid ≤ live_count four = omega (arith, did.gains.makes.live) in
            let keep = did.path (live_count old) (live_count four) short-old (omega (arith, short-mid, more)) in
            subst (KeepsShared old (edit_path cmp code old bits key (owned old owner))) (sym now-path) (way-shared own is.trie (edit-paths cmp (code_by code bits) key) c (live_count old) path' keep)

        -- as many rows came before the rest was given up
        came-four : MakesShared old four (edit_path cmp code old bits key (owned old owner)) (edit_path cmp code new bits key r)
        came-four =
            let path' = edit_rows cmp (form_at four) key (live_count four) LEVELS 0 c r in
            let C' = λ (q : ℕ). chain_rows cmp (form_at four) key (λ _. []) (live_count four) (Some q) in
            let zs = rows_below (λ _. []) C' (form_at four) DEEPEST 0 c r in
            let first : path' ≡ r ∷ zs = rows-first (λ _. []) C' (form_at four) DEEPEST 0 c r in
            let more : live_count mid ≤ live_count four = omega (arith, did.gains.makes.live) in
            let came = subst (MakesShared mid four (edit_rows cmp (form_at mid) key (live_count old) LEVELS 0 c r)) first (did.came (live_count old) (live_count four) short-old (omega (arith, short-mid, more))) in
            subst (MakesShared old four (edit_path cmp code old bits key (owned old owner))) (sym (now-path ∙ first))
            (way-made own is.trie (edit-paths cmp (code_by code bits) key) c (live_count old) four r zs came)

        pub made-new : MakesWhatCame old four → five.made ≡ four.made → new.made ≡ min (old.made + (length (edit_path cmp code new bits key r) - alone old (edit_path cmp code old bits key (owned old owner)))) (2 ^ 64 - 1)
        made-new makes none =
            omega (arith, makes.live, makes.made, none, rel.made, came-four, alone-first old (length (edit_path cmp code new bits key r)) (edit_path cmp code old bits key (owned old owner)))

        pub cut-others : WritesOnlyLeft owner old new r (edit_path cmp code old bits key (owned old owner))
        cut-others m live live' off =
            let both = way-off own is.trie (edit-paths cmp (code_by code bits) key) c (live_count old) m live off in
            let live_mid = own.live m live in
            rel.same m live' ∙ rows m ∙ did.others (live_count old) short-old m live_mid (did.gains.stays m live_mid) both.1 ∙ own.kept m both.0 live
