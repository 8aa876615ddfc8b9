use Rattle.std.proofs.Common.{◌≡◌, List, refl, ap, sym, subst, ◌∙◌, arith}
use Rattle.std.specs.Option.{is_some}
use Rattle.std.proofs.lemmas.Bool.{true≢false}
use Rattle.elem_core.specs.Codes.{masked_code}
use Rattle.elem_core.specs.declared.codes.TheConstants.{DEEPEST}
use Rattle.node_heap.specs.Heap.{Heap, form_at}
use Rattle.node_heap.specs.Owner.{owned}
use Rattle.node_heap.proofs.CallerLemmas.{KeepsToNeed-more, is-owned}
use Rattle.champ_chain.specs.Entry.{Entry}
use Rattle.champ_chain.proofs.CallerLemmas.{not-ok, err-not-ok}
use Rattle.champ_trie.specs.Trie.{IsTrieOf, code_by}
use Rattle.champ_trie.specs.Reach.{alike_in}
use Rattle.champ_kinds.specs.Binding.{Binding}
use Rattle.champ_kinds.specs.Kinds.{IsMapOf}
use Rattle.champ_kinds.proofs.CallerLemmas.{alike-pairs, absent-map, absent-trie}
use Rattle.edit_trie.specs.Edit.{by_bits}
use Rattle.edit_trie.specs.Walk.{HasPair}
use Rattle.edit_trie.proofs.LoneLemmas.{some-of, none-of}
use Rattle.edit_trie.proofs.MapTop.{map-node, pairs-of, pair-owned, can-by, owns-by, up-by, down-by, entry-by}
use Rattle.edit_trie.proofs.owned_map.own_by.Given.{Over}
use Rattle.edit_trie.proofs.owned_map.own_by.Goals as goal
use Rattle.edit_trie.proofs.owned_map.own_by.Goals.{After-look_up-found, After-masked-code}

-- a trie at the root that was read
trie-read : (g : Over) (c : After-look_up-found g) {E : List (Entry g.row.T.Denot)} → IsTrieOf g.T.Ord.cmp g.T.Element.code_of c.args.bits c.args.heap.now (owned c.args.heap.now c.args.owner.now) E → IsTrieOf g.T.Ord.cmp g.T.Element.code_of c.args.bits c.args.heap.now c.root_of.result E
trie-read g c {E} trie = subst (λ l. IsTrieOf g.T.Ord.cmp g.T.Element.code_of c.args.bits c.args.heap.now l E) (sym c.root_of.ensures) trie

-- the root was made its owner's own, and the key's code was counted
module _ (g : Over) (c : After-masked-code g) where
  abbrev key : g.row.T.Denot
  key = g.P.Probe.stands_for c.args.key.now

  abbrev mid : Heap g.row.T.Denot
  mid = c.reserved_root.new.heap

  code-is : c.masked-code.result ≡ code_by g.T.Element.code_of c.args.bits key
  code-is = c.masked-code.ensures.kept ∙ ap (λ n. masked_code n c.args.bits) c.code.ensures

  pair : {M : List (Binding g.row.T.Denot)} (is : IsMapOf g.T.Ord.cmp g.T.Element.code_of c.args.heap.now (by_bits c.args.bits (owned c.args.heap.now c.args.owner.now)) M) → (e : Entry g.row.T.Denot) × HasPair g.T.Ord.cmp mid is.entries key e
  pair is =
      let trie = subst (λ l. IsTrieOf g.T.Ord.cmp g.T.Element.code_of c.args.bits c.args.heap.now l is.entries) (sym c.root_of.ensures) is.rooted.trie in
      let some = some-of c.look_up-found.result.entry c.if-is_none.ensures in
      pair-owned g.met.T.Ord.total c.in_ok-root.ensures.owns is key some.0 (sym (c.look_up-found.ensures.entry is.entries trie) ∙ some.1)

pub look_up-found-requires-clause-bits : goal.look_up-found-requires-clause-bits
look_up-found-requires-clause-bits g c = c.requires.contents.1.rooted.bits

pub look_up-found-requires-clause-trie : goal.look_up-found-requires-clause-trie
look_up-found-requires-clause-trie g c =
    let is = c.requires.contents.1 in
    (is.entries, subst (λ l. IsTrieOf g.T.Ord.cmp g.T.Element.code_of c.args.bits c.args.heap.now l is.entries) (sym c.root_of.ensures) is.rooted.trie)

pub returns-then-is_none-clause-none : goal.returns-then-is_none-clause-none
returns-then-is_none-clause-none g c = λ M is.
    let looked = c.look_up-found.ensures.entry is.entries (trie-read g (goal.at.returns-then-is_none-clause-none g c).After-look_up-found is.rooted.trie) in
    (λ e. absent-map (form_at c.args.heap.now) g.T.Ord.cmp (g.P.Probe.stands_for c.args.key.now) is.entries M is.pairs (sym looked ∙ none-of c.look_up-found.result.entry c.if-is_none.ensures), λ none. refl)

pub returns-in_err-root-clause-none : goal.returns-in_err-root-clause-none
returns-in_err-root-clause-none g c = λ M is.
    let looked = c.look_up-found.ensures.entry is.entries (trie-read g (goal.at.returns-in_err-root-clause-none g c).After-look_up-found is.rooted.trie) in (
      λ e. absurd (err-not-ok c.from_residual.result _ c.from_residual.ensures.0 e),
      λ none. absurd (true≢false (sym c.if-is_none.ensures ∙ ap is_some (looked ∙ absent-trie (form_at c.args.heap.now) g.T.Ord.cmp (g.P.Probe.stands_for c.args.key.now) is.entries M is.pairs none))),
    )

pub returns-in_err-root-clause-ample : goal.returns-in_err-root-clause-ample
returns-in_err-root-clause-ample g c = λ M is spares.
    let trie = trie-read g (goal.at.returns-in_err-root-clause-ample g c).After-look_up-found is.rooted.trie in
    let alike = alike-pairs (form_at c.args.heap.now) g.T.Element.code_of c.args.bits (g.P.Probe.stands_for c.args.key.now) is.entries M is.pairs in
    absurd (not-ok c.reserved_root.result _ c.in_err-root.was (c.reserved_root.ensures.ample (omega arith, omega (arith, c.look_up-found.ensures.alike is.entries trie, alike, spares.1))))

pub reserved_root-requires-clause-node : goal.reserved_root-requires-clause-node
reserved_root-requires-clause-node g c = map-node c.requires.contents.1

pub own_entry-requires-clause-row : goal.own_entry-requires-clause-row
own_entry-requires-clause-row g c =
    let at = goal.at.own_entry-requires-clause-row g c in
    let way = at.After-masked-code in
    let is = c.requires.contents.1 in
    let owns = c.in_ok-root.ensures.owns in
    let found = c.look_up-found.ensures.alike is.entries (trie-read g at.After-look_up-found is.rooted.trie) in
    let e = pair g way is in
    (is.entries, DEEPEST, e.0, can-by g.met.T.Ord.total owns is (key g way) (code-is g way), e.1, omega (arith, found, ap (λ n. alike_in (code_by g.T.Element.code_of c.args.bits) n is.entries) (code-is g way), c.in_ok-root.ensures.spares.1))

pub returns-clause-owns : goal.returns-clause-owns
returns-clause-owns g c = λ M is.
    let total = g.met.T.Ord.total in
    let way = (goal.at.returns-clause-owns g c).After-masked-code in
    let owns = c.in_ok-root.ensures.owns in
    let e = pair g way is in
    let made = c.own_entry.ensures is.entries DEEPEST e.0 (can-by total owns is (key g way) (code-is g way)) e.1 in
    (owns-by total owns is (key g way) (code-is g way) e.1 made g.met.T.Element.equal_codes (c.in_ok-root.ensures.makes c.own_entry.new.heap made.gains).0, up-by total owns is (key g way) (code-is g way) e.1 made, down-by total owns is (key g way) (code-is g way) e.1 made)

pub returns-clause-entries : goal.returns-clause-entries
returns-clause-entries g c = λ E mine.
    let total = g.met.T.Ord.total in
    let old = c.args.heap.now in
    let way = (goal.at.returns-clause-entries g c).After-masked-code in
    let owns = c.in_ok-root.ensures.owns in
    let vs = pairs-of total (is-owned owns) c.requires.contents.1 (key g way) E mine in
    let is : IsMapOf g.T.Ord.cmp g.T.Element.code_of old (by_bits c.args.bits (owned old c.args.owner.now)) vs.0 = record { entries = E; rooted = mine; pairs = vs.2 } in
    let e = pair g way is in
    entry-by total owns is (key g way) (code-is g way) e.1 (c.own_entry.ensures E DEEPEST e.0 (can-by total owns is (key g way) (code-is g way)) e.1)

pub returns-clause-none : goal.returns-clause-none
returns-clause-none g c = λ M is.
    let looked = c.look_up-found.ensures.entry is.entries (trie-read g (goal.at.returns-clause-none g c).After-look_up-found is.rooted.trie) in
    (λ e. absurd cc, λ none. absurd (true≢false (sym c.if-is_none.ensures ∙ ap is_some (looked ∙ absent-trie (form_at c.args.heap.now) g.T.Ord.cmp (g.P.Probe.stands_for c.args.key.now) is.entries M is.pairs none))))

pub returns-clause-spares : goal.returns-clause-spares
returns-clause-spares g c = λ M is.
    let at = goal.at.returns-clause-spares g c in
    let way = at.After-masked-code in
    let e = pair g way is in
    let made = c.own_entry.ensures is.entries DEEPEST e.0 (can-by g.met.T.Ord.total c.in_ok-root.ensures.owns is (key g way) (code-is g way)) e.1 in
    let alike = alike-pairs (form_at c.args.heap.now) g.T.Element.code_of c.args.bits (key g way) is.entries M is.pairs in
    let found = c.look_up-found.ensures.alike is.entries (trie-read g at.After-look_up-found is.rooted.trie) in
    KeepsToNeed-more 0 _ (omega arith) (omega (arith, found, alike)) (c.in_ok-root.ensures.makes c.own_entry.new.heap made.gains).1
