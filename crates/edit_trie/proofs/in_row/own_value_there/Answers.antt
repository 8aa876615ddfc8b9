use Rattle.std.proofs.Common.{◌≡◌, ◌≢◌, ℕ, List, refl, ap, sym, subst, ◌∙◌, arith, Option, Some, None}
use Rattle.elem_core.specs.Codes.{masked_code}
use Rattle.elem_core.specs.declared.codes.TheConstants.{DEEPEST}
use Rattle.node_heap.specs.Heap.{form_at}
use Rattle.node_heap.specs.InPlace.{child_at}
use Rattle.node_heap.specs.declared.owner.Owner.TheVariants.{Child as by_place}
use Rattle.node_heap.proofs.CallerLemmas.{is-owned, makes-gained, needs-gained, Gains-trans}
use Rattle.champ_chain.specs.Entry.{Entry, link_with}
use Rattle.champ_trie.specs.Trie.{code_by}
use Rattle.champ_trie.specs.Reach.{alike_in}
use Rattle.champ_kinds.specs.Binding.{Binding, value_with}
use Rattle.champ_kinds.specs.Kinds.{IsMapOf}
use Rattle.champ_kinds.proofs.CallerLemmas.{absent-map}
use Rattle.edit_trie.specs.Edit.{by_bits, OwnsPair}
use Rattle.edit_trie.specs.Walk.{HasPair}
use Rattle.edit_trie.proofs.MapTop.{map-node, alike-top, pair-owned, can-by, owns-by, up-by, down-by}
use Rattle.edit_trie.proofs.in_row.own_value_there.Given.{Over}
use Rattle.edit_trie.proofs.in_row.own_value_there.Goals as goal
use Rattle.edit_trie.proofs.in_row.own_value_there.Goals.{After-masked-code}

-- what isn't nothing is something
found : (r : Option ℕ) → r ≢ None → (x : ℕ) × (r ≡ Some x)
found None is = absurd (is refl)
found (Some x) is = (x, refl)

-- the map's root was made its parent's own, and the key's code was counted
module _ (g : Over) (c : After-masked-code g) where
  abbrev key : g.row.T.Denot
  key = g.P.Probe.stands_for c.args.key.now

  code-is : c.masked-code.result ≡ code_by g.T.Element.code_of c.args.bits key
  code-is = c.masked-code.ensures.kept ∙ ap (λ n. masked_code n c.args.bits) c.code.ensures

  pair : {M : List (Binding g.row.T.Denot)} (is : IsMapOf g.T.Ord.cmp g.T.Element.code_of c.args.heap.now (by_bits c.args.bits (child_at c.args.heap.now c.args.parent c.args.child)) M) → value_with g.T.Ord.cmp key M ≢ None
      → (e : Entry g.row.T.Denot) × HasPair g.T.Ord.cmp c.own_root-root.new.heap is.entries key e
  pair {M} is there =
      let some = found (link_with g.T.Ord.cmp key is.entries) (λ none. there (absent-map (form_at c.args.heap.now) g.T.Ord.cmp key is.entries M is.pairs none)) in
      pair-owned g.met.T.Ord.total c.own_root-root.ensures.owns is key some.0 some.1

pub own_root-root-requires-clause-owner : goal.own_root-root-requires-clause-owner
own_root-root-requires-clause-owner g c = (c.requires.child, c.requires.sole)

pub own_root-root-requires-clause-node : goal.own_root-root-requires-clause-node
own_root-root-requires-clause-node g c = map-node c.requires.there.1

pub own_entry-requires-clause-row : goal.own_entry-requires-clause-row
own_entry-requires-clause-row g c =
    let way = (goal.at.own_entry-requires-clause-row g c).After-masked-code in
    let is = c.requires.there.1 in
    let e = pair g way is c.requires.there.2 in
    let alike = alike-top g.met.T.Ord.total (is-owned c.own_root-root.ensures.owns) is (key g way) in
    (is.entries, DEEPEST, e.0, can-by g.met.T.Ord.total c.own_root-root.ensures.owns is (key g way) (code-is g way), e.1, omega (arith, alike, ap (λ n. alike_in (code_by g.T.Element.code_of c.args.bits) n is.entries) (code-is g way), c.requires.there.3, c.own_root-root.ensures.spares.1))

pub returns-clause-owns : goal.returns-clause-owns
returns-clause-owns g c = λ M is there.
    let total = g.met.T.Ord.total in
    let way = (goal.at.returns-clause-owns g c).After-masked-code in
    let e = pair g way is there in
    let made = c.own_entry.ensures is.entries DEEPEST e.0 (can-by total c.own_root-root.ensures.owns is (key g way) (code-is g way)) e.1 in
    let up = up-by total c.own_root-root.ensures.owns is (key g way) (code-is g way) e.1 made in
    let came = makes-gained (Gains-trans c.own_root-root.ensures.gains made.gains) in
    let did = owns-by total c.own_root-root.ensures.owns is (key g way) (code-is g way) e.1 made g.met.T.Element.equal_codes came in
    (subst (λ r. OwnsPair g.T.Ord.cmp g.T.Element.code_of (by_place c.args.parent c.args.child) c.args.bits c.args.heap.now c.own_entry.new.heap r M (key g way) c.own_entry.result) (sym up.1) did, down-by total c.own_root-root.ensures.owns is (key g way) (code-is g way) e.1 made)

pub returns-clause-changes : goal.returns-clause-changes
returns-clause-changes g c = λ M is there.
    let total = g.met.T.Ord.total in
    let way = (goal.at.returns-clause-changes g c).After-masked-code in
    let e = pair g way is there in
    (up-by total c.own_root-root.ensures.owns is (key g way) (code-is g way) e.1 (c.own_entry.ensures is.entries DEEPEST e.0 (can-by total c.own_root-root.ensures.owns is (key g way) (code-is g way)) e.1)).0

pub returns-clause-spares : goal.returns-clause-spares
returns-clause-spares g c =
    let total = g.met.T.Ord.total in
    let way = (goal.at.returns-clause-spares g c).After-masked-code in
    let is = c.requires.there.1 in
    let e = pair g way is c.requires.there.2 in
    needs-gained (Gains-trans c.own_root-root.ensures.gains (c.own_entry.ensures is.entries DEEPEST e.0 (can-by total c.own_root-root.ensures.owns is (key g way) (code-is g way)) e.1).gains)
