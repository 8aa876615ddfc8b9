use Rattle.std.proofs.Common.{arith, ◌<◌, ◌≡◌, ℕ, List, [], ◌∷◌, sym, subst, ap, ◌∙◌, Some, None}
use Rattle.elem_core.specs.declared.codes.TheConstants.{DEEPEST}
use Rattle.node_heap.specs.Links.{Reaches}
use Rattle.node_heap.specs.Heap.{Heap, form_at, links_at, holds_at}
use Rattle.node_heap.specs.Calls.{Builds}
use Rattle.node_heap.proofs.CallerLemmas.{Builds-cell, Builds-node}
use Rattle.champ_chain.specs.Entry.{Entry, key_at, link_with}
use Rattle.champ_chain.proofs.CallerLemmas.{one_at-same}
use Rattle.champ_trie.specs.Trie.{code_by}
use Rattle.champ_trie.specs.Reach.{alike_in}
use Rattle.champ_kinds.specs.Binding.{Binding}
use Rattle.edit_trie.specs.Bound.{CanBind}
use Rattle.edit_trie.specs.Walk.{CanEditBelow, HasPair, OwnsIn, PutsEntryIn}
use Rattle.edit_trie.proofs.BindLemmas.{can-put, keyed-put, apart-put, spare-put, way-put, binds-absent, can-own, pair-there, sole-own, second-own, held-own, apart-own, binds-present}
use Rattle.edit_trie.specs.Way.{IsSoleWay}
use Rattle.edit_trie.proofs.DownLemmas.{Lifts, lifts}
use Rattle.edit_trie.proofs.owned_map.bound.Given.{Over}
use Rattle.edit_trie.proofs.owned_map.bound.Goals as goal
use Rattle.edit_trie.proofs.owned_map.bound.Goals.{In-Some, After-node-entry}

-- the key is there
module _ (g : Over) (c : In-Some g) where
  module _ {root : ℕ} {E : List (Entry g.row.T.Denot)} {M : List (Binding g.row.T.Denot)} (can : CanBind g.T.Ord.cmp g.T.Element.code_of c.args.heap.now c.args.bits root c.args.key E M c.args.found.entry) where
    there : (e : Entry g.row.T.Denot) × HasPair g.T.Ord.cmp c.args.heap.now E c.args.key e
    there = pair-there g.T.Ord.cmp g.T.Element.code_of g.met.T.Ord.total c.args.heap.now c.args.bits root c.args.key E M c.args.found.entry c.in-Some.field-0 can c.in-Some.is

    can-there : CanEditBelow g.T.Ord.cmp (code_by g.T.Element.code_of c.args.bits) c.args.heap.now DEEPEST 0 root c.args.code E
    can-there = subst (λ n. CanEditBelow g.T.Ord.cmp (code_by g.T.Element.code_of c.args.bits) c.args.heap.now DEEPEST 0 root n E) (sym c.requires.code)
        (can-own g.T.Ord.cmp g.T.Element.code_of g.met.T.Ord.total c.args.heap.now c.args.bits root c.args.key E M c.args.found.entry c.in-Some.field-0 can c.in-Some.is)

    module _ (way : IsSoleWay c.args.heap.now root c.args.code c.args.from.now.depth c.args.from.now.row) where
      up : Lifts g.T.Ord.cmp (code_by g.T.Element.code_of c.args.bits) c.args.heap.now root c.args.code E c.args.key c.args.from.now.depth c.args.from.now.row
      up = lifts g.met.T.Ord.total g.met.T.Element.equal_codes c.args.bits c.args.key c.requires.code can-there c.args.from.now.depth c.args.from.now.row c.requires.deep way

      owned : {now : Heap g.row.T.Denot} {link : ℕ} → OwnsIn g.T.Ord.cmp (code_by g.T.Element.code_of c.args.bits) c.args.heap.now now up.left c.args.from.now.depth c.args.from.now.row c.args.code up.entries c.args.key there.0 link
          → OwnsIn g.T.Ord.cmp (code_by g.T.Element.code_of c.args.bits) c.args.heap.now now DEEPEST 0 root (code_by g.T.Element.code_of c.args.bits c.args.key) E c.args.key there.0 link
      owned {now} {link} made = subst (λ n. OwnsIn g.T.Ord.cmp (code_by g.T.Element.code_of c.args.bits) c.args.heap.now now DEEPEST 0 root n E c.args.key there.0 link) c.requires.code (up.owns there.0 there.1 now link made)

-- the key is absent, and its cell and the pair are made
module _ (g : Over) (c : After-node-entry g) where
  abbrev old : Heap g.row.T.Denot
  old = c.args.heap.now

  abbrev celled : Heap g.row.T.Denot
  celled = c.cell-cell.new.self

  abbrev mid : Heap g.row.T.Denot
  mid = c.node-entry.new.self

  abbrev x : ℕ
  x = c.cell-cell.result

  abbrev y : ℕ
  y = c.node-entry.result

  one : Builds old celled [] (x ∷ []) 1 0
  one = Builds-cell c.cell-cell.ensures.adds c.cell-cell.ensures.makes c.cell-cell.ensures.count c.cell-cell.ensures.graph c.cell-cell.ensures.extends

  two : Builds celled mid (x ∷ c.args.value ∷ []) (y ∷ []) 0 1
  two = Builds-node c.node-entry.ensures.adds c.node-entry.ensures.makes c.node-entry.ensures.count c.node-entry.ensures.graph c.node-entry.ensures.extends

  module _ {root : ℕ} {E : List (Entry g.row.T.Denot)} {M : List (Binding g.row.T.Denot)} (can : CanBind g.T.Ord.cmp g.T.Element.code_of old c.args.bits root c.args.key E M c.args.found.entry) (way : IsSoleWay old root c.args.code c.args.from.now.depth c.args.from.now.row)
      (off : ¬ Reaches (links_at old) c.args.value root) where
    can-new : CanEditBelow g.T.Ord.cmp (code_by g.T.Element.code_of c.args.bits) mid DEEPEST 0 root c.args.code E
    can-new = subst (λ n. CanEditBelow g.T.Ord.cmp (code_by g.T.Element.code_of c.args.bits) mid DEEPEST 0 root n E) (sym c.requires.code)
        (can-put g.T.Ord.cmp g.T.Element.code_of g.met.T.Ord.total old celled mid c.args.bits root c.args.key E M c.args.found.entry x c.args.value y can c.in-None.is off c.requires.held c.cell-cell.ensures.adds c.cell-cell.ensures.owners one c.node-entry.ensures.adds c.node-entry.ensures.owners two)

    up-new : Lifts g.T.Ord.cmp (code_by g.T.Element.code_of c.args.bits) mid root c.args.code E c.args.key c.args.from.now.depth c.args.from.now.row
    up-new =
        lifts g.met.T.Ord.total g.met.T.Element.equal_codes c.args.bits c.args.key c.requires.code can-new c.args.from.now.depth c.args.from.now.row c.requires.deep
        (way-put g.T.Ord.cmp g.T.Element.code_of g.met.T.Ord.total old celled mid c.args.bits root c.args.key E M c.args.found.entry x c.args.value y can c.in-None.is off c.requires.held c.cell-cell.ensures.adds c.cell-cell.ensures.owners one c.node-entry.ensures.adds c.node-entry.ensures.owners two
        c.args.code c.args.from.now.depth c.args.from.now.row way)

    keyed : key_at (form_at mid) y ≡ Some c.args.key
    keyed = keyed-put g.T.Ord.cmp g.T.Element.code_of g.met.T.Ord.total old celled mid c.args.bits root c.args.key E M c.args.found.entry x c.args.value y can c.in-None.is off c.requires.held c.cell-cell.ensures.adds c.cell-cell.ensures.owners one c.node-entry.ensures.adds c.node-entry.ensures.owners two

    absent : link_with g.T.Ord.cmp c.args.key E ≡ None
    absent = sym can.looked ∙ c.in-None.is

    apart : ¬ Reaches (links_at mid) y root
    apart = apart-put g.T.Ord.cmp g.T.Element.code_of g.met.T.Ord.total old celled mid c.args.bits root c.args.key E M c.args.found.entry x c.args.value y can c.in-None.is off c.requires.held c.cell-cell.ensures.adds c.cell-cell.ensures.owners one c.node-entry.ensures.adds c.node-entry.ensures.owners two

    held-new : 0 < holds_at mid y
    held-new = omega (arith, c.node-entry.ensures.adds.holds y, c.node-entry.ensures.adds.apart, one_at-same y)

pub own_entry-pair-requires-clause-row : goal.own_entry-pair-requires-clause-row
own_entry-pair-requires-clause-row g c =
    let some = (goal.at.own_entry-pair-requires-clause-row g c).In-Some in
    let can = c.requires.map.3 in
    let pair = there g some can in
    let at = up g some can c.requires.map.4 in
    (at.entries, at.left, pair.0, at.can, at.pair pair.0 pair.1, omega (arith, c.requires.map.6, at.less, at.alike))

pub replace-requires : goal.replace-requires
replace-requires g c =
    let some = (goal.at.replace-requires g c).In-Some in
    let root = c.requires.map.0 in
    let E = c.requires.map.1 in
    let can = c.requires.map.3 in
    let way = c.requires.map.4 in
    let pair = there g some can in
    let at = up g some can way in
    let did = owned g some can way (c.own_entry-pair.ensures at.entries at.left pair.0 at.can (at.pair pair.0 pair.1)) in record {
      sole = sole-own g.T.Ord.cmp g.T.Element.code_of g.met.T.Ord.total c.args.heap.now c.args.bits root c.args.key E c.requires.map.2 c.args.found.entry c.in-Some.field-0 can c.in-Some.is c.own_entry-pair.new.heap c.own_entry-pair.result c.args.value pair.0 pair.1 did;
      index = second-own g.T.Ord.cmp g.T.Element.code_of g.met.T.Ord.total c.args.heap.now c.args.bits root c.args.key E c.requires.map.2 c.args.found.entry c.in-Some.field-0 can c.in-Some.is c.own_entry-pair.new.heap c.own_entry-pair.result c.args.value pair.0 pair.1 did;
      held = held-own g.T.Ord.cmp g.T.Element.code_of g.met.T.Ord.total c.args.heap.now c.args.bits root c.args.key E c.requires.map.2 c.args.found.entry c.in-Some.field-0 can c.in-Some.is c.own_entry-pair.new.heap c.own_entry-pair.result c.args.value pair.0 pair.1 did c.requires.held;
      apart = apart-own g.T.Ord.cmp g.T.Element.code_of g.met.T.Ord.total c.args.heap.now c.args.bits root c.args.key E c.requires.map.2 c.args.found.entry c.in-Some.field-0 can c.in-Some.is c.own_entry-pair.new.heap c.own_entry-pair.result c.args.value pair.0 pair.1 did c.requires.held c.requires.map.5;
    }

pub returns-in-Some : goal.returns-in-Some
returns-in-Some g c = λ root E M can way off.
    let some = (goal.at.returns-in-Some g c).In-Some in
    let pair = there g some can in
    let at = up g some can way in
    let did = owned g some can way (c.own_entry-pair.ensures at.entries at.left pair.0 at.can (at.pair pair.0 pair.1)) in
    binds-present g.T.Ord.cmp g.T.Element.code_of g.met.T.Ord.total c.args.heap.now c.args.bits root c.args.key E M c.args.found.entry c.in-Some.field-0 can c.in-Some.is c.own_entry-pair.new.heap c.own_entry-pair.result c.args.value pair.0 pair.1 did c.replace.new.self c.replace.result c.replace.ensures.old c.replace.ensures.writes c.replace.ensures.changes c.replace.ensures.makes

pub put_below-requires-clause-apart : goal.put_below-requires-clause-apart
put_below-requires-clause-apart g c =
    let new = (goal.at.put_below-requires-clause-apart g c).After-node-entry in
    let at = up-new g new c.requires.map.3 c.requires.map.4 c.requires.map.5 in
    at.apart c.node-entry.result (held-new g new c.requires.map.3 c.requires.map.4 c.requires.map.5) (apart g new c.requires.map.3 c.requires.map.4 c.requires.map.5)

pub put_below-requires-clause-row : goal.put_below-requires-clause-row
put_below-requires-clause-row g c =
    let new = (goal.at.put_below-requires-clause-row g c).After-node-entry in
    let can = c.requires.map.3 in
    let off = c.requires.map.5 in
    let at = up-new g new can c.requires.map.4 off in
    let alike : alike_in (code_by g.T.Element.code_of c.args.bits) c.args.code c.requires.map.1 ≡ alike_in (code_by g.T.Element.code_of c.args.bits) (code_by g.T.Element.code_of c.args.bits c.args.key) c.requires.map.1 = ap (λ n. alike_in (code_by g.T.Element.code_of c.args.bits) n c.requires.map.1) c.requires.code in
    let spare = spare-put g.T.Ord.cmp g.T.Element.code_of g.met.T.Ord.total c.args.heap.now c.cell-cell.new.self c.node-entry.new.self c.args.bits c.requires.map.0 c.args.key c.requires.map.1 c.requires.map.2 c.args.found.entry c.cell-cell.result c.args.value c.node-entry.result can c.in-None.is off c.requires.held c.cell-cell.ensures.adds c.cell-cell.ensures.owners (one g new) c.node-entry.ensures.adds c.node-entry.ensures.owners (two g new) (omega (arith, c.requires.map.6, alike)) in (
      at.entries,
      at.left,
      c.args.key,
      at.can,
      keyed g new can c.requires.map.4 off,
      c.requires.code,
      at.link ∙ absent g new can c.requires.map.4 off,
      omega (arith, spare, alike, at.less, at.alike),
    )

pub returns-in-None : goal.returns-in-None
returns-in-None g c = λ root E M can way off.
    let new = (goal.at.returns-in-None g c).After-node-entry in
    let at = up-new g new can way off in
    let made = c.put_below.ensures at.entries at.left c.args.key at.can (keyed g new can way off) c.requires.code (at.link ∙ absent g new can way off) in
    let all = at.puts c.node-entry.result (held-new g new can way off) (apart g new can way off) c.put_below.new.heap made in
    let did = subst (λ n. PutsEntryIn g.T.Ord.cmp (code_by g.T.Element.code_of c.args.bits) c.node-entry.new.self c.put_below.new.heap DEEPEST 0 root n E c.args.key c.node-entry.result) c.requires.code all in
    binds-absent g.T.Ord.cmp g.T.Element.code_of g.met.T.Ord.total c.args.heap.now c.cell-cell.new.self c.node-entry.new.self c.args.bits root c.args.key E M c.args.found.entry c.cell-cell.result c.args.value c.node-entry.result can c.in-None.is off c.requires.held c.cell-cell.ensures.adds c.cell-cell.ensures.owners (one g new) c.node-entry.ensures.adds c.node-entry.ensures.owners (two g new) c.put_below.new.heap did
