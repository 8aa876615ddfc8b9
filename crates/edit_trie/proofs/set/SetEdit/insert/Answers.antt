use Rattle.std.proofs.Common.{◌≡◌, ℕ, ◌<◌, ◌≤◌, List, [], ◌∷◌, false, true, refl, ap, sym, subst, ◌∙◌, arith, inl, inr, Some, None}
use Rattle.std.specs.Option.{is_some}
use Rattle.std.proofs.lemmas.Bool.{cases_Bool}
use Rattle.elem_core.specs.Codes.{masked_code}
use Rattle.elem_core.specs.declared.codes.TheConstants.{DEEPEST}
use Rattle.node_heap.specs.Links.{Reaches}
use Rattle.node_heap.specs.Heap.{Heap, form_at, links_at, holds_at}
use Rattle.node_heap.specs.Calls.{Builds}
use Rattle.node_heap.specs.declared.owner.Owner.TheVariants.{Hold as by_hold}
use Rattle.node_heap.proofs.CallerLemmas.{Builds-cell, IsOwned, KeepsToNeed-more, is-owned}
use Rattle.champ_chain.proofs.CallerLemmas.{not-ok, one_at-same}
use Rattle.champ_chain.specs.Entry.{Entry, key_at, link_with}
use Rattle.champ_trie.specs.Trie.{code_by}
use Rattle.champ_trie.specs.Reach.{alike_in, alike_to}
use Rattle.champ_kinds.specs.Root.{Root}
use Rattle.champ_kinds.specs.Kinds.{IsSetOf}
use Rattle.champ_kinds.proofs.CallerLemmas.{set-seen}
use Rattle.edit_trie.specs.Edit.{by_bits, AddsKey}
use Rattle.edit_trie.specs.Walk.{CanEditBelow, PutsEntryIn}
use Rattle.edit_trie.specs.Way.{IsSoleWay, LeadsDown}
use Rattle.edit_trie.specs.declared.way.Reached.{Reached}
use Rattle.edit_trie.proofs.DownLemmas.{Lifts, lifts, way-begun}
use Rattle.edit_trie.proofs.LoneLemmas.{some-of, none-of}
use Rattle.edit_trie.proofs.TrieTop.{root-node}
use Rattle.edit_trie.proofs.SetTop.{cell-key, can-put, way-put, cell-apart, set-gains, adds-key}
use Rattle.edit_trie.proofs.set.SetEdit.insert.Given.{Over}
use Rattle.edit_trie.proofs.set.SetEdit.insert.Goals as goal
use Rattle.edit_trie.proofs.set.SetEdit.insert.Goals.{After-found_below-found, After-cell-cell}

-- the key's code, and what was found below the row to which it leads
module _ (g : Over) (c : After-found_below-found g) where
  code-is : c.masked-code.result ≡ code_by g.T.Element.code_of c.self.inside.bits c.args.key
  code-is = c.masked-code.ensures.kept ∙ ap (λ n. masked_code n c.self.inside.bits) c.code.ensures

  module _ {E : List (Entry g.row.T.Denot)} (is : IsSetOf g.T.Ord.cmp g.T.Element.code_of c.args.heap.now (by_bits c.self.inside.bits c.self.inside.root) E) where
    leads : LeadsDown g.T.Ord.cmp (code_by g.T.Element.code_of c.self.inside.bits) (form_at c.args.heap.now) E c.masked-code.result c.way_of-way.result.depth c.way_of-way.result.row
    leads = c.way_of-way.ensures.leads c.self.inside.bits E is.rooted.trie

    looked : c.found_below-found.result.entry ≡ link_with g.T.Ord.cmp c.args.key E
    looked = c.found_below-found.ensures.entry E leads

    counted : c.found_below-found.result.alike ≡ alike_in (code_by g.T.Element.code_of c.self.inside.bits) c.masked-code.result E
    counted = c.found_below-found.ensures.alike E leads

    counted-key : c.found_below-found.result.alike ≡ alike_to g.T.Element.code_of c.self.inside.bits c.args.key E
    counted-key = counted ∙ ap (λ n. alike_in (code_by g.T.Element.code_of c.self.inside.bits) n E) code-is

-- the root was made the edit's own, and the key's cell came
module _ (g : Over) (c : After-cell-cell g) where
  abbrev old : Heap g.row.T.Denot
  old = c.args.heap.now

  abbrev mid : Heap g.row.T.Denot
  mid = c.reserved_root.new.heap

  abbrev celled : Heap g.row.T.Denot
  celled = c.cell-cell.new.self

  abbrev r : ℕ
  r = c.in-Ok.root

  abbrev x : ℕ
  x = c.cell-cell.result

  own : IsOwned (by_hold c.self.inside.root) old mid r
  own = is-owned c.in-Ok.ensures.owns

  one : Builds mid celled [] (x ∷ []) 1 0
  one = Builds-cell c.cell-cell.ensures.adds c.cell-cell.ensures.makes c.cell-cell.ensures.count c.cell-cell.ensures.graph c.cell-cell.ensures.extends

  code-at : c.masked-code.result ≡ code_by g.T.Element.code_of c.self.inside.bits c.args.key
  code-at = c.masked-code.ensures.kept ∙ ap (λ n. masked_code n c.self.inside.bits) c.code.ensures

  deep : c.start-from.result.depth ≤ DEEPEST
  deep = elim (cases_Bool c.way_of-way.result.sole) as (λ _. c.start-from.result.depth ≤ DEEPEST) [
    | inl sole ↦ omega (arith, c.way_of-way.ensures.deep, ap (λ (w : Reached). w.depth) (c.start-from.ensures.sole sole))
    | inr shared ↦ omega (arith, (c.start-from.ensures.top shared).1)
  ]

  held-cell : 0 < holds_at celled x
  held-cell = omega (arith, c.cell-cell.ensures.adds.holds x, c.cell-cell.ensures.adds.apart, one_at-same x)

  module _ {E : List (Entry g.row.T.Denot)} (is : IsSetOf g.T.Ord.cmp g.T.Element.code_of old (by_bits c.self.inside.bits c.self.inside.root) E) where
    can : CanEditBelow g.T.Ord.cmp (code_by g.T.Element.code_of c.self.inside.bits) celled DEEPEST 0 r c.masked-code.result E
    can = subst (λ n. CanEditBelow g.T.Ord.cmp (code_by g.T.Element.code_of c.self.inside.bits) celled DEEPEST 0 r n E) (sym code-at)
        (can-put g.met.T.Ord.total own is c.args.key c.in-Ok.ensures.owns.graph c.cell-cell.ensures.adds c.cell-cell.ensures.owners one)

    way : IsSoleWay celled r c.masked-code.result c.start-from.result.depth c.start-from.result.row
    way = way-put g.met.T.Ord.total own is c.args.key c.in-Ok.ensures.owns.graph c.cell-cell.ensures.adds c.cell-cell.ensures.owners one c.masked-code.result c.start-from.result.depth c.start-from.result.row
        (way-begun c.masked-code.result own refl c.way_of-way.ensures.sole c.start-from.ensures.sole c.start-from.ensures.top)

    up : Lifts g.T.Ord.cmp (code_by g.T.Element.code_of c.self.inside.bits) celled r c.masked-code.result E c.args.key c.start-from.result.depth c.start-from.result.row
    up = lifts g.met.T.Ord.total g.met.T.Element.equal_codes c.self.inside.bits c.args.key code-at can c.start-from.result.depth c.start-from.result.row deep way

    off : ¬ Reaches (links_at celled) x r
    off = cell-apart g.met.T.Ord.total own is c.args.key c.in-Ok.ensures.owns.graph c.cell-cell.ensures.adds c.cell-cell.ensures.owners one

    keyed : key_at (form_at celled) x ≡ Some c.args.key
    keyed = cell-key g.met.T.Ord.total own is c.args.key c.in-Ok.ensures.owns.graph c.cell-cell.ensures.adds c.cell-cell.ensures.owners one

    absent : link_with g.T.Ord.cmp c.args.key E ≡ None
    absent =
        let leads = c.way_of-way.ensures.leads c.self.inside.bits E is.rooted.trie in
        sym (c.found_below-found.ensures.entry E leads) ∙ none-of c.found_below-found.result.entry (sym c.is_some.ensures ∙ c.if-is_some.false)

    -- the whole of what was put below the row where the edit began
    whole : {new : Heap g.row.T.Denot} → PutsEntryIn g.T.Ord.cmp (code_by g.T.Element.code_of c.self.inside.bits) celled new up.left c.start-from.result.depth c.start-from.result.row c.masked-code.result up.entries c.args.key x
        → PutsEntryIn g.T.Ord.cmp (code_by g.T.Element.code_of c.self.inside.bits) celled new DEEPEST 0 r (code_by g.T.Element.code_of c.self.inside.bits c.args.key) E c.args.key x
    whole {new} made = subst (λ n. PutsEntryIn g.T.Ord.cmp (code_by g.T.Element.code_of c.self.inside.bits) celled new DEEPEST 0 r n E c.args.key x) code-at (up.puts x held-cell off new made)

pub way_of-way-requires : goal.way_of-way-requires
way_of-way-requires g c = let is = set-seen c.self.view_is c.requires.contents.1 in record { trie = (c.self.inside.bits, c.requires.contents.0, is.rooted.trie) }

pub found_below-found-requires-clause-bits : goal.found_below-found-requires-clause-bits
found_below-found-requires-clause-bits g c = (set-seen c.self.view_is c.requires.contents.1).rooted.bits

pub found_below-found-requires-clause-code : goal.found_below-found-requires-clause-code
found_below-found-requires-clause-code g c = c.masked-code.ensures.kept ∙ ap (λ n. masked_code n c.self.inside.bits) c.code.ensures

pub found_below-found-requires-clause-leads : goal.found_below-found-requires-clause-leads
found_below-found-requires-clause-leads g c =
    let is = set-seen c.self.view_is c.requires.contents.1 in
    (c.requires.contents.0, c.way_of-way.ensures.leads c.self.inside.bits c.requires.contents.0 is.rooted.trie)

pub returns-then-is_some-clause-there : goal.returns-then-is_some-clause-there
returns-then-is_some-clause-there g c = λ E here.
    let found = (goal.at.returns-then-is_some-clause-there g c).After-found_below-found in
    let some = some-of c.found_below-found.result.entry (sym c.is_some.ensures ∙ c.if-is_some.true) in
    (λ _ none. let bad : None ≡ Some some.0 = sym (looked g found (set-seen c.self.view_is here) ∙ none) ∙ some.1 in cc, λ _. refl)

pub reserved_root-requires-clause-owner : goal.reserved_root-requires-clause-owner
reserved_root-requires-clause-owner g c =
    let some : 0 < holds_at c.args.heap.now c.self.inside.root = omega (arith, c.requires.held, ap (λ (q : Root). holds_at c.args.heap.now q.root) c.self.view_is) in
    some

pub reserved_root-requires-clause-node : goal.reserved_root-requires-clause-node
reserved_root-requires-clause-node g c = root-node (set-seen c.self.view_is c.requires.contents.1).rooted

pub returns-in-Err-clause-there : goal.returns-in-Err-clause-there
returns-in-Err-clause-there g c = λ E here.
    let found = (goal.at.returns-in-Err-clause-there g c).After-found_below-found in
    (λ e. absurd cc, λ there. absurd (there (sym (looked g found (set-seen c.self.view_is here)) ∙ none-of c.found_below-found.result.entry (sym c.is_some.ensures ∙ c.if-is_some.false))))

pub returns-in-Err-clause-ample : goal.returns-in-Err-clause-ample
returns-in-Err-clause-ample g c = λ E here spares.
    let found = (goal.at.returns-in-Err-clause-ample g c).After-found_below-found in
    let number = ap (λ (q : Root). alike_to g.T.Element.code_of q.bits c.args.key E) c.self.view_is in
    absurd (not-ok c.reserved_root.result _ c.in-Err.is (c.reserved_root.ensures.ample (omega (arith, spares.0), omega (arith, counted-key g found (set-seen c.self.view_is here), number, spares.1))))

pub cell-cell-requires-clause-spare : goal.cell-cell-requires-clause-spare
cell-cell-requires-clause-spare g c = omega (arith, c.in-Ok.ensures.spares.0)

pub cell-cell-requires-clause-few : goal.cell-cell-requires-clause-few
cell-cell-requires-clause-few g c = omega (arith, c.requires.few, c.in-Ok.ensures.owns.total)

pub put_below-requires-clause-bits : goal.put_below-requires-clause-bits
put_below-requires-clause-bits g c = (set-seen c.self.view_is c.requires.contents.1).rooted.bits

pub put_below-requires-clause-depth : goal.put_below-requires-clause-depth
put_below-requires-clause-depth g c = deep g (goal.at.put_below-requires-clause-depth g c).After-cell-cell

pub put_below-requires-clause-few : goal.put_below-requires-clause-few
put_below-requires-clause-few g c = omega (arith, c.requires.few, c.in-Ok.ensures.owns.total, c.cell-cell.ensures.count)

pub put_below-requires-clause-held : goal.put_below-requires-clause-held
put_below-requires-clause-held g c = held-cell g (goal.at.put_below-requires-clause-held g c).After-cell-cell

pub put_below-requires-clause-apart : goal.put_below-requires-clause-apart
put_below-requires-clause-apart g c =
    let at = (goal.at.put_below-requires-clause-apart g c).After-cell-cell in
    let is = set-seen c.self.view_is c.requires.contents.1 in
    (up g at is).apart c.cell-cell.result (held-cell g at) (off g at is)

pub put_below-requires-clause-row : goal.put_below-requires-clause-row
put_below-requires-clause-row g c =
    let at = (goal.at.put_below-requires-clause-row g c).After-cell-cell in
    let is = set-seen c.self.view_is c.requires.contents.1 in
    let u = up g at is in
    let leads = c.way_of-way.ensures.leads c.self.inside.bits c.requires.contents.0 is.rooted.trie in (
      u.entries,
      u.left,
      c.args.key,
      u.can,
      keyed g at is,
      code-at g at,
      u.link ∙ absent g at is,
      omega (arith, c.found_below-found.ensures.alike c.requires.contents.0 leads, c.in-Ok.ensures.spares.1, c.cell-cell.ensures.makes.spare_nodes, u.less, u.alike),
    )

pub returns-in-Ok-clause-adds : goal.returns-in-Ok-clause-adds
returns-in-Ok-clause-adds g c = λ E here yes.
    let at = (goal.at.returns-in-Ok-clause-adds g c).After-cell-cell in
    let is = set-seen c.self.view_is here in
    let u = up g at is in
    let owns = c.in-Ok.ensures.owns in
    let made = whole g at is (c.put_below.ensures u.entries u.left c.args.key u.can (keyed g at is) (code-at g at) (u.link ∙ absent g at is)) in
    let gains = set-gains g.met.T.Ord.total (own g at) is c.args.key owns.graph c.cell-cell.ensures.adds c.cell-cell.ensures.owners (one g at) (absent g at is) made in
    let did = adds-key g.met.T.Ord.total (own g at) is c.args.key owns.graph c.cell-cell.ensures.adds c.cell-cell.ensures.owners (one g at) (absent g at is) made (c.in-Ok.ensures.makes c.put_below.new.heap gains).0 in
    subst (λ (q : Root). AddsKey g.T.Ord.cmp g.T.Element.code_of (by_hold q.root) q.bits c.args.heap.now c.put_below.new.heap c.in-Ok.root E c.args.key) c.self.view_is did

pub returns-in-Ok-clause-there : goal.returns-in-Ok-clause-there
returns-in-Ok-clause-there g c = λ E here.
    let at = (goal.at.returns-in-Ok-clause-there g c).After-cell-cell in
    (λ e. absurd cc, λ there. absurd (there (absent g at (set-seen c.self.view_is here))))

pub returns-in-Ok-clause-spares : goal.returns-in-Ok-clause-spares
returns-in-Ok-clause-spares g c = λ E here.
    let at = (goal.at.returns-in-Ok-clause-spares g c).After-cell-cell in
    let is = set-seen c.self.view_is here in
    let u = up g at is in
    let leads = c.way_of-way.ensures.leads c.self.inside.bits E is.rooted.trie in
    let made = whole g at is (c.put_below.ensures u.entries u.left c.args.key u.can (keyed g at is) (code-at g at) (u.link ∙ absent g at is)) in
    let gains = set-gains g.met.T.Ord.total (own g at) is c.args.key c.in-Ok.ensures.owns.graph c.cell-cell.ensures.adds c.cell-cell.ensures.owners (one g at) (absent g at is) made in
    let counted = c.found_below-found.ensures.alike E leads ∙ ap (λ n. alike_in (code_by g.T.Element.code_of c.self.inside.bits) n E) (code-at g at) in
    let number = ap (λ (q : Root). alike_to g.T.Element.code_of q.bits c.args.key E) c.self.view_is in
    KeepsToNeed-more 1 _ (omega arith) (omega (arith, counted, number)) (c.in-Ok.ensures.makes c.put_below.new.heap gains).1
