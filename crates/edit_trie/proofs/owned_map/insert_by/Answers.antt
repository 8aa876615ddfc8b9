use Rattle.std.proofs.Common.{◌≡◌, ◌<◌, ◌≤◌, List, sym, ap, subst, ◌∙◌, arith, inl, inr}
use Rattle.std.proofs.lemmas.Bool.{cases_Bool}
use Rattle.elem_core.specs.Codes.{masked_code}
use Rattle.elem_core.specs.declared.codes.TheConstants.{DEEPEST}
use Rattle.node_heap.specs.Links.{Reaches}
use Rattle.node_heap.specs.Heap.{Heap, form_at, links_at, holds_at}
use Rattle.node_heap.specs.Owner.{owned}
use Rattle.node_heap.proofs.CallerLemmas.{IsOwned, KeepsToNeed-more, is-owned, only-one}
use Rattle.champ_chain.proofs.CallerLemmas.{not-ok}
use Rattle.champ_chain.specs.Entry.{Entry, link_with}
use Rattle.champ_trie.specs.Trie.{IsTrieOf, code_by}
use Rattle.champ_trie.specs.Reach.{alike_in}
use Rattle.champ_kinds.specs.Binding.{Binding}
use Rattle.champ_kinds.specs.Kinds.{IsMapOf}
use Rattle.champ_kinds.proofs.CallerLemmas.{alike-pairs}
use Rattle.edit_trie.specs.Bound.{Binds}
use Rattle.edit_trie.specs.Edit.{by_bits}
use Rattle.node_heap.specs.Root.{IsApart}
use Rattle.edit_trie.proofs.MapTop.{map-node, alike-top, can-bind, puts-value, pairs-of, can-bind-of, puts-before}
use Rattle.edit_trie.proofs.LawLemmas.{handed-by}
use Rattle.edit_trie.specs.Way.{LeadsDown}
use Rattle.edit_trie.specs.declared.way.Reached.{Reached}
use Rattle.edit_trie.proofs.DownLemmas.{way-begun}
use Rattle.edit_trie.proofs.owned_map.insert_by.Given.{Over}
use Rattle.edit_trie.proofs.owned_map.insert_by.Goals as goal
use Rattle.edit_trie.proofs.owned_map.insert_by.Goals.{After-found_below-found, In-Ok, After-bound}

-- a trie at the root that was read
trie-read : (g : Over) (c : After-found_below-found g) {E : List (Entry g.row.T.Denot)} → IsTrieOf g.T.Ord.cmp g.T.Element.code_of c.args.bits c.args.heap.now (owned c.args.heap.now c.args.owner.now) E → IsTrieOf g.T.Ord.cmp g.T.Element.code_of c.args.bits c.args.heap.now c.root_of-first.result E
trie-read g c {E} trie = subst (λ l. IsTrieOf g.T.Ord.cmp g.T.Element.code_of c.args.bits c.args.heap.now l E) (sym c.root_of-first.ensures) trie

-- the key's code, and what was found below the row to which it leads
module _ (g : Over) (c : After-found_below-found g) where
  code-is : c.masked-code.result ≡ code_by g.T.Element.code_of c.args.bits c.args.key
  code-is = c.masked-code.ensures.kept ∙ ap (λ n. masked_code n c.args.bits) c.code.ensures

  module _ {E : List (Entry g.row.T.Denot)} (trie : IsTrieOf g.T.Ord.cmp g.T.Element.code_of c.args.bits c.args.heap.now (owned c.args.heap.now c.args.owner.now) E) where
    leads : LeadsDown g.T.Ord.cmp (code_by g.T.Element.code_of c.args.bits) (form_at c.args.heap.now) E c.masked-code.result c.way_of-way.result.depth c.way_of-way.result.row
    leads = c.way_of-way.ensures.leads c.args.bits E (trie-read g c trie)

    found-entry : c.found_below-found.result.entry ≡ link_with g.T.Ord.cmp c.args.key E
    found-entry = c.found_below-found.ensures.entry E leads

    found-alike : c.found_below-found.result.alike ≡ alike_in (code_by g.T.Element.code_of c.args.bits) (code_by g.T.Element.code_of c.args.bits c.args.key) E
    found-alike = c.found_below-found.ensures.alike E leads ∙ ap (λ n. alike_in (code_by g.T.Element.code_of c.args.bits) n E) code-is

-- the root was made its owner's own
module _ (g : Over) (c : In-Ok g) where
  abbrev old : Heap g.row.T.Denot
  old = c.args.heap.now

  abbrev mid : Heap g.row.T.Denot
  mid = c.reserved_root.new.heap

  own : IsOwned c.args.owner.now old mid c.in-Ok.root
  own = is-owned c.in-Ok.ensures.owns

  beside : (0 < holds_at mid c.args.value) × (¬ Reaches (links_at mid) c.args.value c.in-Ok.root) × IsApart mid c.args.owner.now c.args.value
  beside = c.in-Ok.ensures.owns.beside c.args.value c.requires.held c.requires.apart

pub way_of-way-requires : goal.way_of-way-requires
way_of-way-requires g c =
    let is = c.requires.contents.1 in
    record { trie = (c.args.bits, is.entries, subst (λ l. IsTrieOf g.T.Ord.cmp g.T.Element.code_of c.args.bits c.args.heap.now l is.entries) (sym c.root_of-first.ensures) is.rooted.trie) }

pub found_below-found-requires-clause-bits : goal.found_below-found-requires-clause-bits
found_below-found-requires-clause-bits g c = c.requires.contents.1.rooted.bits

pub found_below-found-requires-clause-code : goal.found_below-found-requires-clause-code
found_below-found-requires-clause-code g c = c.masked-code.ensures.kept ∙ ap (λ n. masked_code n c.args.bits) c.code.ensures

pub found_below-found-requires-clause-leads : goal.found_below-found-requires-clause-leads
found_below-found-requires-clause-leads g c =
    let is = c.requires.contents.1 in
    (is.entries, c.way_of-way.ensures.leads c.args.bits is.entries (subst (λ l. IsTrieOf g.T.Ord.cmp g.T.Element.code_of c.args.bits c.args.heap.now l is.entries) (sym c.root_of-first.ensures) is.rooted.trie))

pub reserved_root-requires-clause-node : goal.reserved_root-requires-clause-node
reserved_root-requires-clause-node g c = map-node c.requires.contents.1

pub returns-in-Err-clause-ample : goal.returns-in-Err-clause-ample
returns-in-Err-clause-ample g c = λ M is spares.
    let found = found-alike g (goal.at.returns-in-Err-clause-ample g c).After-found_below-found is.rooted.trie in
    let alike = alike-pairs (form_at c.args.heap.now) g.T.Element.code_of c.args.bits c.args.key is.entries M is.pairs in
    absurd (not-ok c.reserved_root.result _ c.in-Err.is (c.reserved_root.ensures.ample (omega (arith, spares.0), omega (arith, found, alike, spares.1))))

pub bound-requires-clause-bits : goal.bound-requires-clause-bits
bound-requires-clause-bits g c = c.requires.contents.1.rooted.bits

pub bound-requires-clause-few : goal.bound-requires-clause-few
bound-requires-clause-few g c = omega (arith, c.requires.few, c.in-Ok.ensures.owns.total)

pub bound-requires-clause-cells : goal.bound-requires-clause-cells
bound-requires-clause-cells g c = c.in-Ok.ensures.spares.0

pub bound-requires-clause-held : goal.bound-requires-clause-held
bound-requires-clause-held g c = (beside g (goal.at.bound-requires-clause-held g c).In-Ok).0

pub bound-requires-clause-code : goal.bound-requires-clause-code
bound-requires-clause-code g c = c.masked-code.ensures.kept ∙ ap (λ n. masked_code n c.args.bits) c.code.ensures

pub bound-requires-clause-deep : goal.bound-requires-clause-deep
bound-requires-clause-deep g c = elim (cases_Bool c.way_of-way.result.sole) as (λ _. c.start-from.result.depth ≤ DEEPEST) [
  | inl sole ↦ omega (arith, c.way_of-way.ensures.deep, ap (λ (w : Reached). w.depth) (c.start-from.ensures.sole sole))
  | inr shared ↦ omega (arith, (c.start-from.ensures.top shared).1)
]

pub bound-requires-clause-map : goal.bound-requires-clause-map
bound-requires-clause-map g c =
    let at = goal.at.bound-requires-clause-map g c in
    let is = c.requires.contents.1 in
    let owns = c.in-Ok.ensures.owns in
    let found = c.found_below-found.ensures.alike is.entries (leads g at.After-found_below-found is.rooted.trie) in (
      c.in-Ok.root,
      is.entries,
      c.requires.contents.0,
      can-bind g.met.T.Ord.total (own g at.In-Ok) is c.args.key c.found_below-found.result.entry owns.graph (found-entry g at.After-found_below-found is.rooted.trie),
      way-begun c.masked-code.result (own g at.In-Ok) c.root_of-first.ensures c.way_of-way.ensures.sole c.start-from.ensures.sole c.start-from.ensures.top,
      (beside g at.In-Ok).1,
      omega (arith, found, c.in-Ok.ensures.spares.1),
    )

-- what `bound` did with the map
module _ (g : Over) (c : After-bound g) where
  module _ {M : List (Binding g.row.T.Denot)} (is : IsMapOf g.T.Ord.cmp g.T.Element.code_of c.args.heap.now (by_bits c.args.bits (owned c.args.heap.now c.args.owner.now)) M) where
    binds : Binds g.T.Ord.cmp g.T.Element.code_of c.reserved_root.new.heap c.bound.new.heap c.args.bits c.in-Ok.root c.args.key is.entries M c.args.value c.bound.result
    binds =
        let owns = c.in-Ok.ensures.owns in
        let leads = c.way_of-way.ensures.leads c.args.bits is.entries (subst (λ l. IsTrieOf g.T.Ord.cmp g.T.Element.code_of c.args.bits c.args.heap.now l is.entries) (sym c.root_of-first.ensures) is.rooted.trie) in
        c.bound.ensures c.in-Ok.root is.entries M (can-bind g.met.T.Ord.total (is-owned owns) is c.args.key c.found_below-found.result.entry owns.graph (c.found_below-found.ensures.entry is.entries leads))
        (way-begun c.masked-code.result (is-owned owns) c.root_of-first.ensures c.way_of-way.ensures.sole c.start-from.ensures.sole c.start-from.ensures.top) (owns.beside c.args.value c.requires.held c.requires.apart).1

pub returns-in-Ok-clause-puts : goal.returns-in-Ok-clause-puts
returns-in-Ok-clause-puts g c = λ M is.
    let did = binds g (goal.at.returns-in-Ok-clause-puts g c).After-bound is in
    puts-value g.met.T.Ord.total (is-owned c.in-Ok.ensures.owns) is c.args.key c.bound.new.heap c.args.value c.bound.result did (c.in-Ok.ensures.makes c.bound.new.heap did.gains).0

pub returns-in-Ok-clause-entries : goal.returns-in-Ok-clause-entries
returns-in-Ok-clause-entries g c = λ E mine.
    let total = g.met.T.Ord.total in
    let owns = c.in-Ok.ensures.owns in
    let is = c.requires.contents.1 in
    let N = (pairs-of total (is-owned owns) is c.args.key E mine).0 in
    let at = goal.at.returns-in-Ok-clause-entries g c in
    let did = c.bound.ensures c.in-Ok.root E N (can-bind-of total (is-owned owns) is c.args.key E mine c.found_below-found.result.entry owns.graph (found-entry g at.After-found_below-found mine.trie)) (way-begun c.masked-code.result (own g at.In-Ok) c.root_of-first.ensures c.way_of-way.ensures.sole c.start-from.ensures.sole c.start-from.ensures.top) (beside g at.In-Ok).1 in
    puts-before total (is-owned owns) is c.args.key E mine c.bound.new.heap c.args.value did.entries

pub returns-in-Ok-clause-value : goal.returns-in-Ok-clause-value
returns-in-Ok-clause-value g c =
    let owns = c.in-Ok.ensures.owns in
    let is = c.requires.contents.1 in
    let did = binds g (goal.at.returns-in-Ok-clause-value g c).After-bound is in
    let puts = puts-value g.met.T.Ord.total (is-owned owns) is c.args.key c.bound.new.heap c.args.value c.bound.result did (c.in-Ok.ensures.makes c.bound.new.heap did.gains).0 in
    handed-by g.T.Ord.cmp g.T.Element.code_of c.args.owner.now c.args.heap.now c.bound.new.heap c.in-Ok.root c.args.bits c.requires.contents.0 c.args.key c.args.value owns.before c.requires.owner c.requires.held c.requires.apart is puts.others

pub returns-in-Ok-clause-up : goal.returns-in-Ok-clause-up
returns-in-Ok-clause-up g c = λ M is.
    let at = goal.at.returns-in-Ok-clause-up g c in
    let owns = c.in-Ok.ensures.owns in
    let alike = alike-top g.met.T.Ord.total (is-owned owns) is c.args.key in
    let apart = (beside g at.In-Ok).2 in
    owns.up c.bound.new.heap _ _ 1 _ _ (omega (arith, alike)) (binds g at.After-bound is).changes (λ l some. subst (IsApart c.reserved_root.new.heap c.args.owner.now) (sym (only-one l c.args.value some)) apart)

pub returns-in-Ok-clause-spares : goal.returns-in-Ok-clause-spares
returns-in-Ok-clause-spares g c = λ M is.
    let at = goal.at.returns-in-Ok-clause-spares g c in
    let alike = alike-pairs (form_at c.args.heap.now) g.T.Element.code_of c.args.bits c.args.key is.entries M is.pairs in
    let found = found-alike g at.After-found_below-found is.rooted.trie in
    KeepsToNeed-more 1 _ (omega arith) (omega (arith, found, alike)) (c.in-Ok.ensures.makes c.bound.new.heap (binds g at.After-bound is).gains).1
