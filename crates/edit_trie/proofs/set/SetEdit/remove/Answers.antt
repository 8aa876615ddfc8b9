use Rattle.std.proofs.Common.{◌≡◌, ◌≢◌, ℕ, ◌<◌, List, refl, ap, sym, subst, ◌∙◌, arith, Some, None}
use Rattle.std.specs.Option.{is_some}
use Rattle.std.proofs.lemmas.Bool.{true≢false}
use Rattle.elem_core.specs.Codes.{masked_code}
use Rattle.elem_core.specs.declared.codes.TheConstants.{DEEPEST}
use Rattle.node_heap.specs.Heap.{Heap, holds_at}
use Rattle.node_heap.specs.declared.owner.Owner.TheVariants.{Hold as by_hold}
use Rattle.node_heap.proofs.CallerLemmas.{count-one, KeepsToNeed-more, IsOwned, is-owned}
use Rattle.champ_chain.specs.Entry.{Entry, link_with}
use Rattle.champ_chain.proofs.CallerLemmas.{one_at-same, not-ok, err-not-ok}
use Rattle.champ_trie.specs.Trie.{code_by}
use Rattle.champ_trie.specs.Reach.{alike_in, alike_to}
use Rattle.champ_kinds.specs.Root.{Root}
use Rattle.champ_kinds.specs.Kinds.{IsSetOf}
use Rattle.champ_kinds.proofs.CallerLemmas.{set-seen}
use Rattle.edit_trie.specs.Edit.{by_bits, CutsEntry}
use Rattle.edit_trie.specs.Walk.{CanEditBelow, CutsIn}
use Rattle.edit_trie.proofs.LoneLemmas.{some-of, none-of}
use Rattle.edit_trie.proofs.RootLemmas.{released-need}
use Rattle.edit_trie.proofs.TrieTop.{root-node, can-edit, cut-held}
use Rattle.edit_trie.proofs.SetTop.{cuts-entry}
use Rattle.edit_trie.proofs.set.SetEdit.remove.Given.{Over}
use Rattle.edit_trie.proofs.set.SetEdit.remove.Goals as goal
use Rattle.edit_trie.proofs.set.SetEdit.remove.Goals.{After-masked-code}

-- the root has no depth
at-root : {A : Type 0} → 0 < 0 → A
at-root deep = absurd (omega (arith, deep))

-- the root was made the edit's own, and the key's code was counted
module _ (g : Over) (c : After-masked-code g) where
  abbrev key : g.row.T.Denot
  key = g.P.Probe.stands_for c.args.key.now

  abbrev old : Heap g.row.T.Denot
  old = c.args.heap.now

  abbrev mid : Heap g.row.T.Denot
  mid = c.reserved_root.new.heap

  abbrev r : ℕ
  r = c.in_ok-self-inside.field-0

  own : IsOwned (by_hold c.self.inside.root) old mid r
  own = is-owned c.in_ok-self-inside.ensures.owns

  held : 0 < holds_at mid r
  held = omega (arith, c.in_ok-self-inside.ensures.owns.held r, count-one r r, one_at-same r)

  code-is : c.masked-code.result ≡ code_by g.T.Element.code_of c.self.inside.bits key
  code-is = c.masked-code.ensures.kept ∙ ap (λ n. masked_code n c.self.inside.bits) c.code.ensures

  module _ {E : List (Entry g.row.T.Denot)} (is : IsSetOf g.T.Ord.cmp g.T.Element.code_of old (by_bits c.self.inside.bits c.self.inside.root) E) where
    there : link_with g.T.Ord.cmp key E ≢ None
    there none =
        let some = some-of c.look_up-found.result.entry c.if-is_none.ensures in
        let bad : None ≡ Some some.0 = sym (c.look_up-found.ensures.entry E is.rooted.trie ∙ none) ∙ some.1 in
        cc

    can : CanEditBelow g.T.Ord.cmp (code_by g.T.Element.code_of c.self.inside.bits) mid DEEPEST 0 r c.masked-code.result E
    can = subst (λ n. CanEditBelow g.T.Ord.cmp (code_by g.T.Element.code_of c.self.inside.bits) mid DEEPEST 0 r n E) (sym code-is)
        (can-edit g.met.T.Ord.total own is.rooted key c.in_ok-self-inside.ensures.owns.graph)

    -- the key was taken out
    whole : {four : Heap g.row.T.Denot} {cut : ℕ} → CutsIn g.T.Ord.cmp (code_by g.T.Element.code_of c.self.inside.bits) mid four DEEPEST 0 r c.masked-code.result E key cut
        → CutsIn g.T.Ord.cmp (code_by g.T.Element.code_of c.self.inside.bits) mid four DEEPEST 0 r (code_by g.T.Element.code_of c.self.inside.bits key) E key cut
    whole {four} {cut} made = subst (λ n. CutsIn g.T.Ord.cmp (code_by g.T.Element.code_of c.self.inside.bits) mid four DEEPEST 0 r n E key cut) code-is made

pub look_up-found-requires-clause-bits : goal.look_up-found-requires-clause-bits
look_up-found-requires-clause-bits g c = (set-seen c.self.view_is c.requires.contents.1).rooted.bits

pub look_up-found-requires-clause-trie : goal.look_up-found-requires-clause-trie
look_up-found-requires-clause-trie g c = (c.requires.contents.0, (set-seen c.self.view_is c.requires.contents.1).rooted.trie)

pub returns-then-is_none-clause-absent : goal.returns-then-is_none-clause-absent
returns-then-is_none-clause-absent g c = λ E here.
    let looked = c.look_up-found.ensures.entry E (set-seen c.self.view_is here).rooted.trie in
    (λ e. sym looked ∙ none-of c.look_up-found.result.entry c.if-is_none.ensures, λ none. refl)

pub reserved_root-requires-clause-owner : goal.reserved_root-requires-clause-owner
reserved_root-requires-clause-owner g c =
    let some : 0 < holds_at c.args.heap.now c.self.inside.root = omega (arith, c.requires.held, ap (λ (q : Root). holds_at c.args.heap.now q.root) c.self.view_is) in
    some

pub reserved_root-requires-clause-node : goal.reserved_root-requires-clause-node
reserved_root-requires-clause-node g c = root-node (set-seen c.self.view_is c.requires.contents.1).rooted

pub returns-in_err-self-inside-clause-absent : goal.returns-in_err-self-inside-clause-absent
returns-in_err-self-inside-clause-absent g c = λ E here.
    let looked = c.look_up-found.ensures.entry E (set-seen c.self.view_is here).rooted.trie in (
      λ e. absurd (err-not-ok c.from_residual.result _ c.from_residual.ensures.0 e),
      λ none. absurd (true≢false (sym c.if-is_none.ensures ∙ ap is_some (looked ∙ none))),
    )

pub returns-in_err-self-inside-clause-ample : goal.returns-in_err-self-inside-clause-ample
returns-in_err-self-inside-clause-ample g c = λ E here spares.
    let is = set-seen c.self.view_is here in
    let number = ap (λ (q : Root). alike_to g.T.Element.code_of q.bits (g.P.Probe.stands_for c.args.key.now) E) c.self.view_is in
    absurd (not-ok c.reserved_root.result _ c.in_err-self-inside.was (c.reserved_root.ensures.ample (omega arith, omega (arith, c.from.ensures, c.look_up-found.ensures.alike E is.rooted.trie, number, spares.1))))

pub cut_below-cut-requires-clause-bits : goal.cut_below-cut-requires-clause-bits
cut_below-cut-requires-clause-bits g c = (set-seen c.self.view_is c.requires.contents.1).rooted.bits

pub cut_below-cut-requires-clause-few : goal.cut_below-cut-requires-clause-few
cut_below-cut-requires-clause-few g c = omega (arith, c.requires.few, c.in_ok-self-inside.ensures.owns.total)

pub cut_below-cut-requires-clause-code : goal.cut_below-cut-requires-clause-code
cut_below-cut-requires-clause-code g c = code-is g (goal.at.cut_below-cut-requires-clause-code g c).After-masked-code

pub cut_below-cut-requires-clause-row : goal.cut_below-cut-requires-clause-row
cut_below-cut-requires-clause-row g c =
    let way = (goal.at.cut_below-cut-requires-clause-row g c).After-masked-code in
    let E = c.requires.contents.0 in
    let is = set-seen c.self.view_is c.requires.contents.1 in (
      E,
      DEEPEST,
      can g way is,
      there g way is,
      at-root,
      omega (arith, c.from.ensures, c.look_up-found.ensures.alike E is.rooted.trie, ap (λ n. alike_in (code_by g.T.Element.code_of c.self.inside.bits) n E) (code-is g way), c.in_ok-self-inside.ensures.spares.1),
    )

pub release-requires : goal.release-requires
release-requires g c =
    let way = (goal.at.release-requires g c).After-masked-code in
    let is = set-seen c.self.view_is c.requires.contents.1 in
    let made = whole g way is (c.cut_below-cut.ensures c.requires.contents.0 DEEPEST (can g way is) (there g way is) at-root) in
    omega (arith, cut-held g.met.T.Ord.total (own g way) is.rooted (key g way) (held g way) made)

pub returns-clause-cuts : goal.returns-clause-cuts
returns-clause-cuts g c = λ E here yes.
    let way = (goal.at.returns-clause-cuts g c).After-masked-code in
    let is = set-seen c.self.view_is here in
    let made = whole g way is (c.cut_below-cut.ensures E DEEPEST (can g way is) (there g way is) at-root) in
    let came = (c.in_ok-self-inside.ensures.makes c.cut_below-cut.new.heap made.gains).0 in
    let cuts = cuts-entry g.met.T.Ord.total (own g way) is (key g way) (held g way) made c.release.ensures.releases c.release.ensures.graph c.release.ensures.below came in
    subst (λ (q : Root). CutsEntry g.T.Ord.cmp g.T.Element.code_of (by_hold q.root) q.bits c.args.heap.now c.release.new.self (r g way) E (key g way)) c.self.view_is cuts

pub returns-clause-absent : goal.returns-clause-absent
returns-clause-absent g c = λ E here.
    let way = (goal.at.returns-clause-absent g c).After-masked-code in
    (λ e. absurd cc, λ none. absurd (there g way (set-seen c.self.view_is here) none))

pub returns-clause-spares : goal.returns-clause-spares
returns-clause-spares g c = λ E here.
    let way = (goal.at.returns-clause-spares g c).After-masked-code in
    let is = set-seen c.self.view_is here in
    let made = whole g way is (c.cut_below-cut.ensures E DEEPEST (can g way is) (there g way is) at-root) in
    let need = (c.in_ok-self-inside.ensures.makes c.cut_below-cut.new.heap made.gains).1 in
    let number = ap (λ (q : Root). alike_to g.T.Element.code_of q.bits (key g way) E) c.self.view_is in
    KeepsToNeed-more 0 _ (omega arith) (omega (arith, c.from.ensures, c.look_up-found.ensures.alike E is.rooted.trie, number)) (released-need need c.release.ensures.releases)
