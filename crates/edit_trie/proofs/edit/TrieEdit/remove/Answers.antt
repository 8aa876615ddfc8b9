use Rattle.std.proofs.Common.{◌≡◌, ◌≢◌, ℕ, ◌<◌, List, length, refl, ap, sym, subst, ◌∙◌, arith, IsSome, not, Some, None}
use Rattle.std.specs.declared.cmp.Ordering.{Ordering}
use Rattle.elem_core.specs.Codes.{masked_code}
use Rattle.elem_core.specs.declared.codes.TheConstants.{DEEPEST}
use Rattle.node_heap.specs.Links.{Reaches}
use Rattle.node_heap.specs.Heap.{Heap, row_at, form_at, links_at, holds_at, one_at}
use Rattle.node_heap.specs.Calls.{Gains}
use Rattle.node_heap.specs.InPlace.{child_at}
use Rattle.node_heap.specs.declared.owner.Owner.TheVariants.{Hold as by_hold}
use Rattle.node_heap.proofs.CallerLemmas.{count-one, Gains-trans, KeepsToNeed-more, IsOwned, is-owned}
use Rattle.champ_chain.specs.Entry.{link_with, others, has_key}
use Rattle.champ_chain.proofs.CallerLemmas.{one_at-same, same-filter, not-ok, err-not-ok}
use Rattle.champ_trie.specs.Trie.{code_by}
use Rattle.champ_trie.specs.Reach.{alike_in}
use Rattle.champ_trie.proofs.CallerLemmas.{takes-any-order, has-one-set}
use Rattle.champ_kinds.specs.Root.{Root}
use Rattle.champ_kinds.specs.Binding.{Binding, alike_keys}
use Rattle.champ_kinds.specs.Kinds.{IsMapOf}
use Rattle.champ_kinds.proofs.CallerLemmas.{IsFound, found-pairs, alike-pairs, absent-map, absent-trie, links-read, pair-live, map-seen, entries-seen}
use Rattle.edit_trie.specs.Edit.{by_bits, CutsKey}
use Rattle.edit_trie.specs.Walk.{CanEditBelow, CutsIn}
use Rattle.edit_trie.proofs.ChainLemmas.{read-child}
use Rattle.edit_trie.proofs.ChainEdits.{hold-change}
use Rattle.edit_trie.proofs.RootLemmas.{released-need}
use Rattle.edit_trie.proofs.TrieTop.{cut-held}
use Rattle.edit_trie.proofs.MapTop.{map-node, can-top, value-off, value-live, entries-left, cuts-key}
use Rattle.edit_trie.proofs.edit.TrieEdit.remove.Given.{Over}
use Rattle.edit_trie.proofs.edit.TrieEdit.remove.Goals as goal
use Rattle.edit_trie.proofs.edit.TrieEdit.remove.Goals.{After-masked-code}

-- the pair that was found
found-row : {T : Type 0} {cmp : T → T → Ordering} {code : T → ℕ} {old : Heap T} {root : Root} {key : T} {x : ℕ} {M : List (Binding T)} → (is : IsMapOf cmp code old root M) → link_with cmp key is.entries ≡ Some x → IsFound (form_at old) cmp key is.entries M x
found-row {cmp = cmp} {old = old} {key = key} {x = x} {M = M} is found = found-pairs (form_at old) cmp key is.entries M x is.pairs found

-- the root has no depth
at-root : {A : Type 0} → 0 < 0 → A
at-root deep = absurd (omega (arith, deep))

-- the root was made the edit's own, and the key's code was counted
module _ (g : Over) (c : After-masked-code g) where
  abbrev key : g.row.T.Denot
  key = g.P.Probe.stands_for c.args.key.now

  abbrev root : ℕ
  root = c.self.inside.root

  abbrev x : ℕ
  x = c.in-Some.pair

  abbrev old : Heap g.row.T.Denot
  old = c.args.heap.now

  abbrev mid : Heap g.row.T.Denot
  mid = c.reserved_root.new.heap

  abbrev r : ℕ
  r = c.in_ok-self-inside.field-0

  own : IsOwned (by_hold root) old mid r
  own = is-owned c.in_ok-self-inside.ensures.owns

  held : 0 < holds_at mid r
  held = omega (arith, c.in_ok-self-inside.ensures.owns.held r, count-one r r, one_at-same r)

  code-is : c.masked-code.result ≡ code_by g.T.Element.code_of c.self.inside.bits key
  code-is = c.masked-code.ensures.kept ∙ ap (λ n. masked_code n c.self.inside.bits) c.code.ensures

  module _ {M : List (Binding g.row.T.Denot)} (is : IsMapOf g.T.Ord.cmp g.T.Element.code_of old (by_bits c.self.inside.bits root) M) where
    found : link_with g.T.Ord.cmp key is.entries ≡ Some x
    found = sym (c.look_up-found.ensures.entry is.entries is.rooted.trie) ∙ c.in-Some.is

    there : link_with g.T.Ord.cmp key is.entries ≢ None
    there none = let bad : None ≡ Some x = sym none ∙ found in cc

    value-is : c.index-links-1.result ≡ child_at old x 1
    value-is =
        let long : 1 < length (links_at old x) = omega (arith, ap length c.links.ensures.links, ap length (links-read old (found-row is found).pair c.links.result.now c.links.ensures.links)) in
        read-child c.links.result.now (links_at old x) 1 c.index-links-1.result c.links.ensures.links long c.index-links-1.is

    can : CanEditBelow g.T.Ord.cmp (code_by g.T.Element.code_of c.self.inside.bits) mid DEEPEST 0 r c.masked-code.result is.entries
    can = subst (λ n. CanEditBelow g.T.Ord.cmp (code_by g.T.Element.code_of c.self.inside.bits) mid DEEPEST 0 r n is.entries) (sym code-is)
        (can-top g.met.T.Ord.total own is key c.in_ok-self-inside.ensures.owns.graph)

    -- the key was taken out
    module _ {four : Heap g.row.T.Denot} {cut : ℕ} (made : CutsIn g.T.Ord.cmp (code_by g.T.Element.code_of c.self.inside.bits) mid four DEEPEST 0 r c.masked-code.result is.entries key cut) where
      did : CutsIn g.T.Ord.cmp (code_by g.T.Element.code_of c.self.inside.bits) mid four DEEPEST 0 r (code_by g.T.Element.code_of c.self.inside.bits key) is.entries key cut
      did = subst (λ n. CutsIn g.T.Ord.cmp (code_by g.T.Element.code_of c.self.inside.bits) mid four DEEPEST 0 r n is.entries key cut) code-is made

      live : IsSome (row_at four c.index-links-1.result)
      live = value-live g.met.T.Ord.total own is key held found value-is c.in_ok-self-inside.ensures.owns.graph did

      off : ¬ Reaches (links_at four) c.index-links-1.result r
      off = value-off g.met.T.Ord.total own is key held found value-is c.in_ok-self-inside.ensures.owns.graph did

      cut-more : one_at r cut < holds_at four cut
      cut-more = cut-held g.met.T.Ord.total own is.rooted key held did

pub returns-in_default-clause-none : goal.returns-in_default-clause-none
returns-in_default-clause-none g c = λ M here.
    let is = map-seen c.self.view_is here in
    let look = c.look_up-found.ensures.entry is.entries is.rooted.trie in
    (λ e. absent-map (form_at c.args.heap.now) g.T.Ord.cmp (g.P.Probe.stands_for c.args.key.now) is.entries M is.pairs (sym look ∙ c.in_default.is), λ none. refl)

pub returns-in_err-self-inside-clause-none : goal.returns-in_err-self-inside-clause-none
returns-in_err-self-inside-clause-none g c = λ M here.
    let is = map-seen c.self.view_is here in
    let look = c.look_up-found.ensures.entry is.entries is.rooted.trie in (
      λ e. absurd (err-not-ok c.from_residual.result _ c.from_residual.ensures.0 e),
      λ none. absurd (let bad : None ≡ Some c.in-Some.pair = sym (look ∙ absent-trie (form_at c.args.heap.now) g.T.Ord.cmp (g.P.Probe.stands_for c.args.key.now) is.entries M is.pairs none) ∙ c.in-Some.is in cc),
    )

pub returns-in_err-self-inside-clause-ample : goal.returns-in_err-self-inside-clause-ample
returns-in_err-self-inside-clause-ample g c = λ M here spares.
    let code = g.T.Element.code_of in
    let key = g.P.Probe.stands_for c.args.key.now in
    let is = map-seen c.self.view_is here in
    let number = ap (λ (q : Root). alike_keys code q.bits key M) c.self.view_is in
    let alike = alike-pairs (form_at c.args.heap.now) code c.self.inside.bits key is.entries M is.pairs in
    absurd (not-ok c.reserved_root.result _ c.in_err-self-inside.was (c.reserved_root.ensures.ample (omega arith, omega (arith, c.from.ensures, c.look_up-found.ensures.alike is.entries is.rooted.trie, alike, number, spares.1))))

pub links-requires : goal.links-requires
links-requires g c =
    let is = map-seen c.self.view_is c.requires.contents.1 in
    let look = c.look_up-found.ensures.entry is.entries is.rooted.trie in
    pair-live c.args.heap.now (found-row is (sym look ∙ c.in-Some.is)).pair

pub bounds-links-1 : goal.bounds-links-1
bounds-links-1 g c =
    let is = map-seen c.self.view_is c.requires.contents.1 in
    let look = c.look_up-found.ensures.entry is.entries is.rooted.trie in
    let f = found-row is (sym look ∙ c.in-Some.is) in
    subst (λ xs. 1 < length xs) (sym (links-read c.args.heap.now f.pair c.links.result.now c.links.ensures.links)) (omega arith)

pub reserved_root-requires-clause-owner : goal.reserved_root-requires-clause-owner
reserved_root-requires-clause-owner g c =
    let some : 0 < holds_at c.args.heap.now c.self.inside.root = omega (arith, c.requires.held, ap (λ (q : Root). holds_at c.args.heap.now q.root) c.self.view_is) in
    some

pub reserved_root-requires-clause-node : goal.reserved_root-requires-clause-node
reserved_root-requires-clause-node g c = map-node (map-seen c.self.view_is c.requires.contents.1)

pub cut_below-cut-requires-clause-row : goal.cut_below-cut-requires-clause-row
cut_below-cut-requires-clause-row g c =
    let way = (goal.at.cut_below-cut-requires-clause-row g c).After-masked-code in
    let is = map-seen c.self.view_is c.requires.contents.1 in (
      is.entries,
      DEEPEST,
      can g way is,
      there g way is,
      at-root,
      omega (arith, c.from.ensures, c.look_up-found.ensures.alike is.entries is.rooted.trie, ap (λ n. alike_in (code_by g.T.Element.code_of c.self.inside.bits) n is.entries) (code-is g way), c.in_ok-self-inside.ensures.spares.1),
    )

pub cut_below-cut-requires-clause-few : goal.cut_below-cut-requires-clause-few
cut_below-cut-requires-clause-few g c = omega (arith, c.requires.few, c.in_ok-self-inside.ensures.owns.total)

pub hold-requires-clause-live : goal.hold-requires-clause-live
hold-requires-clause-live g c =
    let way = (goal.at.hold-requires-clause-live g c).After-masked-code in
    let is = map-seen c.self.view_is c.requires.contents.1 in
    live g way is (c.cut_below-cut.ensures is.entries DEEPEST (can g way is) (there g way is) at-root)

pub hold-requires-clause-few : goal.hold-requires-clause-few
hold-requires-clause-few g c =
    let way = (goal.at.hold-requires-clause-few g c).After-masked-code in
    let is = map-seen c.self.view_is c.requires.contents.1 in
    let made = c.cut_below-cut.ensures is.entries DEEPEST (can g way is) (there g way is) at-root in
    omega (arith, c.requires.few, c.in_ok-self-inside.ensures.owns.total, made.changes.trades.total)

pub release-requires : goal.release-requires
release-requires g c =
    let way = (goal.at.release-requires g c).After-masked-code in
    let is = map-seen c.self.view_is c.requires.contents.1 in
    omega (arith, c.hold.ensures.holds c.cut_below-cut.result, cut-more g way is (c.cut_below-cut.ensures is.entries DEEPEST (can g way is) (there g way is) at-root))

pub returns-clause-cuts : goal.returns-clause-cuts
returns-clause-cuts g c = λ M here.
    let cmp = g.T.Ord.cmp in
    let code = g.T.Element.code_of in
    let way = (goal.at.returns-clause-cuts g c).After-masked-code in
    let is = map-seen c.self.view_is here in
    let four = c.cut_below-cut.new.heap in
    let new = c.release.new.self in
    let r = r g way in
    let value = c.index-links-1.result in
    let made = c.cut_below-cut.ensures is.entries DEEPEST (can g way is) (there g way is) at-root in
    let kept = hold-change r value made.changes.trades.graph c.hold.ensures.graph c.hold.ensures.rows c.hold.ensures.holds c.hold.ensures.owners c.hold.ensures.makes c.hold.ensures.count c.hold.ensures.extends (off g way is made) in
    let came = (c.in_ok-self-inside.ensures.makes four made.gains).0 in
    let cuts = cuts-key g.met.T.Ord.total (own g way) is (key g way) (held g way) (found g way is) (value-is g way is) c.in_ok-self-inside.ensures.owns.graph (did g way is made)
    c.hold.ensures.rows c.hold.ensures.holds c.hold.ensures.owners kept c.release.ensures.releases c.release.ensures.graph c.release.ensures.below came c.hold.ensures.makes in
    subst (λ (q : Root). CutsKey cmp code (by_hold q.root) q.bits c.args.heap.now new r M (key g way) value) c.self.view_is cuts

pub returns-clause-entries : goal.returns-clause-entries
returns-clause-entries g c = λ E here.
    let cmp = g.T.Ord.cmp in
    let code = g.T.Element.code_of in
    let total = g.met.T.Ord.total in
    let bits = c.self.inside.bits in
    let old = c.args.heap.now in
    let way = (goal.at.returns-clause-entries g c).After-masked-code in
    let M = c.requires.contents.0 in
    let is = map-seen c.self.view_is c.requires.contents.1 in
    let new = c.release.new.self in
    let r = r g way in
    let value = c.index-links-1.result in
    let made = c.cut_below-cut.ensures is.entries DEEPEST (can g way is) (there g way is) at-root in
    let kept = hold-change r value made.changes.trades.graph c.hold.ensures.graph c.hold.ensures.rows c.hold.ensures.holds c.hold.ensures.owners c.hold.ensures.makes c.hold.ensures.count c.hold.ensures.extends (off g way is made) in
    let cuts = entries-left total (own g way) is (key g way) (held g way) (found g way is) (value-is g way is) c.in_ok-self-inside.ensures.owns.graph (did g way is made)
    c.hold.ensures.rows c.hold.ensures.holds c.hold.ensures.owners kept c.release.ensures.releases c.release.ensures.graph c.release.ensures.below in
    let mine = entries-seen c.self.view_is here in
    let same = has-one-set cmp (code_by code bits) total (form_at old) c.self.inside.root is.entries E is.rooted.trie mine.trie in
    record {
      bits = cuts.bits;
      trie = takes-any-order cmp (code_by code bits) total (form_at new) r (others cmp (key g way) is.entries) (others cmp (key g way) E) (same-filter (λ d. not (has_key cmp (key g way) d)) is.entries E same) cuts.trie;
    }

pub returns-clause-none : goal.returns-clause-none
returns-clause-none g c = λ M here.
    let is = map-seen c.self.view_is here in
    let look = c.look_up-found.ensures.entry is.entries is.rooted.trie in
    (λ e. absurd cc, λ none. absurd (let bad : None ≡ Some c.in-Some.pair = sym (look ∙ absent-trie (form_at c.args.heap.now) g.T.Ord.cmp (g.P.Probe.stands_for c.args.key.now) is.entries M is.pairs none) ∙ c.in-Some.is in cc))

pub returns-clause-spares : goal.returns-clause-spares
returns-clause-spares g c = λ M here.
    let code = g.T.Element.code_of in
    let way = (goal.at.returns-clause-spares g c).After-masked-code in
    let is = map-seen c.self.view_is here in
    let made = c.cut_below-cut.ensures is.entries DEEPEST (can g way is) (there g way is) at-root in
    let kept : Gains c.cut_below-cut.new.heap c.hold.new.self = record { stays = c.hold.ensures.extends.live; cells = 0; nodes = 0; makes = c.hold.ensures.makes } in
    let need = (c.in_ok-self-inside.ensures.makes c.hold.new.self (Gains-trans made.gains kept)).1 in
    let all = released-need need c.release.ensures.releases in
    let alike = alike-pairs (form_at c.args.heap.now) code c.self.inside.bits (key g way) is.entries M is.pairs in
    let number = ap (λ (q : Root). alike_keys code q.bits (key g way) M) c.self.view_is in
    KeepsToNeed-more 0 _ (omega arith) (omega (arith, c.from.ensures, c.look_up-found.ensures.alike is.entries is.rooted.trie, alike, number)) all
