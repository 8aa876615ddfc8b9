use Rattle.std.proofs.Common.{◌+◌, ◌≡◌, refl, ap, sym, subst, arith, List, [], ◌∷◌}
use Rattle.std.specs.Prelude.{option_map}
use Rattle.elem_core.specs.Codes.{masked_code}
use Rattle.elem_core.specs.declared.codes.TheConstants.{LEVELS}
use Rattle.champ_trie.specs.declared.TheConstants.{ADD_NODES}
use Rattle.champ_kinds.specs.declared.map.TheConstants.{INSERT_NODES}
use Rattle.node_heap.specs.Forms.{form_of}
use Rattle.node_heap.specs.Heap.{form_at}
use Rattle.node_heap.specs.Calls.{Answered, Builds}
use Rattle.node_heap.proofs.BuildLemmas.{Builds-node, Builds-Answered, Builds-MakesJust}
use Rattle.node_heap.proofs.Counts.{test_same}
use Rattle.node_heap.proofs.Frames.{Unchanged-refl}
use Rattle.node_heap.proofs.RoomLemmas.{KeepsToNeed-Builds}
use Rattle.champ_chain.specs.Entry.{Entry, entry, link_with, put}
use Rattle.champ_chain.proofs.FrameLemmas.{forms-kept}
use Rattle.champ_trie.specs.Edit.{SharesBeside}
use Rattle.champ_trie.specs.Reach.{alike_to}
use Rattle.champ_trie.specs.Trie.{IsTrieOf, code_by}
use Rattle.champ_trie.proofs.BesideLemmas.{shares-before}
use Rattle.champ_trie.proofs.StayLemmas.{canon-extended}
use Rattle.champ_kinds.specs.Root.{Root}
use Rattle.champ_kinds.specs.Binding.{Binding, alike_keys, bind}
use Rattle.champ_kinds.specs.Kinds.{IsMapOf, HasEntries}
use Rattle.champ_kinds.specs.Edit.{PutsPair}
use Rattle.champ_kinds.proofs.PairLemmas.{alike-pairs, alike-there}
use Rattle.champ_kinds.proofs.StayLemmas.{map-seen, entries-seen, containers-extended}
use Rattle.champ_kinds.proofs.EditLemmas.{pair-found, found-any, HasCell, cell-got, MakesPair, made-builds, made-key, all-built, map-with, puts-pair}
use Rattle.champ_kinds.proofs.map.map_insert_there.Given.{Over}
use Rattle.champ_kinds.proofs.map.map_insert_there.Goals as goal

pub key_cell-cell-requires-clause-pair : goal.key_cell-cell-requires-clause-pair
key_cell-cell-requires-clause-pair g c =
    let is = c.requires.contents.1 in
    pair-found g.T.Ord.cmp g.met.T.Ord.total (form_at c.args.heap.now) c.args.key is.entries c.requires.contents.0 c.args.found is.pairs
    (found-any g.T.Ord.cmp g.met.T.Ord.total g.T.Element.code_of c.args.heap.now c.args.map c.args.key c.args.found c.requires.found is.entries is.rooted)

pub added-root-requires-clause-held : goal.added-root-requires-clause-held
added-root-requires-clause-held g c = omega (arith, c.node-entry.ensures.adds.holds c.node-entry.result, c.node-entry.ensures.adds.apart, test_same c.node-entry.result c.node-entry.result refl)

pub added-root-requires-clause-trie : goal.added-root-requires-clause-trie
added-root-requires-clause-trie g c =
    let M = c.requires.contents.0 in
    let is = map-seen c.map.view_is c.requires.contents.1 in
    let made : MakesPair c.args.heap.now c.key_cell-cell.new.heap c.node-entry.new.self c.key_cell-cell.result c.args.value c.node-entry.result = record {
      gain = c.key_cell-cell.ensures.builds;
      pair_made = Builds-node c.node-entry.ensures.adds c.node-entry.ensures.makes c.node-entry.ensures.count c.node-entry.ensures.graph c.node-entry.ensures.extends;
      row = ap (option_map form_of) c.node-entry.ensures.adds.here;
    } in
    let looked = found-any g.T.Ord.cmp g.met.T.Ord.total g.T.Element.code_of c.args.heap.now c.args.map c.args.key c.args.found c.requires.found is.entries (entries-seen (sym c.map.view_is) is.rooted) in
    let got = cell-got g.T.Ord.cmp g.met.T.Ord.total (form_at c.args.heap.now) (form_at c.key_cell-cell.new.heap) (forms-kept c.args.heap.now c.key_cell-cell.new.heap c.key_cell-cell.ensures.builds.extends) c.args.key is.entries M c.args.found c.key_cell-cell.result is.pairs looked c.key_cell-cell.ensures.cell in
    let built = made-builds made in
    let bits = ap (λ (r : Root). alike_keys g.T.Element.code_of r.bits c.args.key M) c.map.view_is in
    let alike = alike-pairs (form_at c.args.heap.now) g.T.Element.code_of c.map.inside.bits c.args.key is.entries M is.pairs in
    let there = alike-there g.T.Element.code_of c.map.inside.bits c.args.key got.key_there is.entries (g.met.T.Element.equal_codes _ _ got.same) in (
      is.entries,
      got.key_there,
      canon-extended g.T.Ord.cmp (code_by g.T.Element.code_of c.map.inside.bits) c.args.heap.now c.node-entry.new.self built.extends c.map.inside.root is.entries is.rooted.trie,
      made-key made g.T.Ord.cmp g.met.T.Ord.total got,
      omega (arith, c.requires.contents.2.1, bits, alike, there, built.makes.spare_nodes, built.few_nodes),
    )

module _ (g : Over) (c : goal.After-from_root g) where
  abbrev given : Root
  given = record { root = c.map.inside.root; bits = c.map.inside.bits }

  made : MakesPair c.args.heap.now c.key_cell-cell.new.heap c.node-entry.new.self c.key_cell-cell.result c.args.value c.node-entry.result
  made = record {
    gain = c.key_cell-cell.ensures.builds;
    pair_made = Builds-node c.node-entry.ensures.adds c.node-entry.ensures.makes c.node-entry.ensures.count c.node-entry.ensures.graph c.node-entry.ensures.extends;
    row = ap (option_map form_of) c.node-entry.ensures.adds.here;
  }

  looked : (E : List (Entry g.row.T.Denot)) → HasEntries g.T.Ord.cmp g.T.Element.code_of c.args.heap.now given E → c.args.found ≡ link_with g.T.Ord.cmp c.args.key E
  looked E rooted = found-any g.T.Ord.cmp g.met.T.Ord.total g.T.Element.code_of c.args.heap.now c.args.map c.args.key c.args.found c.requires.found E (entries-seen (sym c.map.view_is) rooted)

  -- a trie of the map still stands when the pair is made
  stands : (E : List (Entry g.row.T.Denot)) → HasEntries g.T.Ord.cmp g.T.Element.code_of c.args.heap.now given E → IsTrieOf g.T.Ord.cmp g.T.Element.code_of given.bits c.node-entry.new.self given.root E
  stands E rooted = let built = made-builds made in canon-extended g.T.Ord.cmp (code_by g.T.Element.code_of c.map.inside.bits) c.args.heap.now c.node-entry.new.self built.extends c.map.inside.root E rooted.trie

  module _ (M : List (Binding g.row.T.Denot)) (is : IsMapOf g.T.Ord.cmp g.T.Element.code_of c.args.heap.now given M) where
    got : HasCell g.T.Ord.cmp g.met.T.Ord.total (form_at c.args.heap.now) (form_at c.key_cell-cell.new.heap) c.args.key M c.args.found c.key_cell-cell.result
    got = cell-got g.T.Ord.cmp g.met.T.Ord.total (form_at c.args.heap.now) (form_at c.key_cell-cell.new.heap) (forms-kept c.args.heap.now c.key_cell-cell.new.heap c.key_cell-cell.ensures.builds.extends) c.args.key is.entries M c.args.found c.key_cell-cell.result
        is.pairs (looked is.entries is.rooted) c.key_cell-cell.ensures.cell

    -- the trie of any entries of the map, with the pair
    with-pair : (E : List (Entry g.row.T.Denot)) → HasEntries g.T.Ord.cmp g.T.Element.code_of c.args.heap.now given E → IsTrieOf g.T.Ord.cmp g.T.Element.code_of given.bits c.added-root.new.heap c.added-root.result (put g.T.Ord.cmp E (entry got.key_there c.node-entry.result))
    with-pair E rooted = c.added-root.ensures.entries E got.key_there (stands E rooted) (made-key made g.T.Ord.cmp g.met.T.Ord.total got)

    added-rows : Builds c.node-entry.new.self c.added-root.new.heap (c.node-entry.result ∷ []) (c.added-root.result ∷ []) 0 (ADD_NODES + alike_to g.T.Element.code_of given.bits got.key_there is.entries)
    added-rows = c.added-root.ensures.builds is.entries got.key_there (stands is.entries is.rooted) (made-key made g.T.Ord.cmp g.met.T.Ord.total got)

    all-rows : Builds c.args.heap.now c.added-root.new.heap (c.args.value ∷ []) (c.added-root.result ∷ []) 1 (INSERT_NODES + alike_keys g.T.Element.code_of given.bits c.args.key M)
    all-rows =
        let there = alike-there g.T.Element.code_of given.bits c.args.key got.key_there is.entries (g.met.T.Element.equal_codes _ _ got.same) in
        let alike = alike-pairs (form_at c.args.heap.now) g.T.Element.code_of given.bits c.args.key is.entries M is.pairs in
        all-built made c.added-root.new.heap c.added-root.result (ADD_NODES + alike_to g.T.Element.code_of given.bits got.key_there is.entries) (INSERT_NODES + alike_keys g.T.Element.code_of given.bits c.args.key M) (omega (arith, there, alike)) added-rows

    map-made : IsMapOf g.T.Ord.cmp g.T.Element.code_of c.added-root.new.heap (record { root = c.added-root.result; bits = given.bits }) (bind g.T.Ord.cmp M c.args.key c.args.value)
    map-made = map-with made g.T.Ord.cmp g.met.T.Ord.total got g.T.Element.code_of c.added-root.new.heap added-rows.extends given c.added-root.result is (with-pair is.entries is.rooted)

    pair-put : (E : List (Entry g.row.T.Denot)) → HasEntries g.T.Ord.cmp g.T.Element.code_of c.args.heap.now given E → PutsPair g.T.Ord.cmp g.T.Element.code_of c.args.heap.now c.added-root.new.heap (record { root = c.added-root.result; bits = given.bits }) E c.args.key c.args.value
    pair-put E rooted = puts-pair made g.T.Ord.cmp g.met.T.Ord.total got g.T.Element.code_of c.added-root.new.heap added-rows.extends given c.added-root.result E rooted (looked E rooted) (with-pair E rooted)

pub returns-clause-answered : goal.returns-clause-answered
returns-clause-answered g c = λ M here.
    let bits = ap (λ (r : Root). alike_keys g.T.Element.code_of r.bits c.args.key M) c.map.view_is in
    let done = Builds-Answered (Unchanged-refl c.args.heap.now c.rows_form_a_graph.ensures) (all-rows g c M (map-seen c.map.view_is here)) in
    subst (λ (r : Root). Answered c.args.heap.now c.added-root.new.heap (c.args.value ∷ []) r.root 1 (INSERT_NODES + alike_keys g.T.Element.code_of c.args.map.bits c.args.key M)) (sym c.from_root.ensures)
    (subst (λ n. Answered c.args.heap.now c.added-root.new.heap (c.args.value ∷ []) c.added-root.result 1 (INSERT_NODES + n)) bits done)

pub returns-clause-made : goal.returns-clause-made
returns-clause-made g c = Builds-MakesJust (Unchanged-refl c.args.heap.now c.rows_form_a_graph.ensures) (all-rows g c c.requires.contents.0 (map-seen c.map.view_is c.requires.contents.1))

pub returns-clause-contents : goal.returns-clause-contents
returns-clause-contents g c = λ M here. map-seen c.from_root.ensures (map-made g c M (map-seen c.map.view_is here))

pub returns-clause-entries : goal.returns-clause-entries
returns-clause-entries g c = λ E here.
    subst (λ (r : Root). PutsPair g.T.Ord.cmp g.T.Element.code_of c.args.heap.now c.added-root.new.heap r E c.args.key c.args.value) (sym c.from_root.ensures)
    (pair-put g c c.requires.contents.0 (map-seen c.map.view_is c.requires.contents.1) E (entries-seen c.map.view_is here))

pub returns-clause-containers : goal.returns-clause-containers
returns-clause-containers g c = let all = all-rows g c c.requires.contents.0 (map-seen c.map.view_is c.requires.contents.1) in containers-extended _ _ all.extends

pub returns-clause-shares : goal.returns-clause-shares
returns-clause-shares g c =
    let is = map-seen c.map.view_is c.requires.contents.1 in
    let F = form_at c.args.heap.now in
    let G = form_at c.added-root.new.heap in
    let has = got g c c.requires.contents.0 is in
    let code = g.T.Element.code_of in
    let built = made-builds (made g c) in
    let there = c.added-root.ensures.shares is.entries has.key_there (stands g c is.entries is.rooted) (made-key (made g c) g.T.Ord.cmp g.met.T.Ord.total has) in
    let before = shares-before g.T.Ord.cmp (code_by code c.map.inside.bits) (form_at c.node-entry.new.self) F G (forms-kept c.args.heap.now c.node-entry.new.self built.extends) (code_by code c.map.inside.bits has.key_there) LEVELS 0 c.map.inside.root c.added-root.result is.entries is.rooted.trie.trie there in
    subst (λ (r : Root). SharesBeside F G (code_by code c.args.map.bits c.args.key) LEVELS 0 c.args.map.root r.root) (sym c.from_root.ensures)
    (subst (λ (r : Root). SharesBeside F G (code_by code r.bits c.args.key) LEVELS 0 r.root c.added-root.result) c.map.view_is
    (subst (λ n. SharesBeside F G (masked_code n c.map.inside.bits) LEVELS 0 c.map.inside.root c.added-root.result) (sym (g.met.T.Element.equal_codes _ _ has.same)) before))

pub returns-clause-spares : goal.returns-clause-spares
returns-clause-spares g c = KeepsToNeed-Builds 0 0 (all-rows g c c.requires.contents.0 (map-seen c.map.view_is c.requires.contents.1))
