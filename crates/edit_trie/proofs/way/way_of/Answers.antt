use Rattle.std.proofs.Common.{rules, arith, ◌≡◌, ℕ, ◌-◌, ◌*◌, ◌<◌, ◌≤◌, ◌^◌, sym, subst, refl}
use Rattle.elem_core.specs.Codes.{digit_at}
use Rattle.elem_core.specs.declared.codes.TheConstants.{DEEPEST, LEVELS}
use Rattle.node_heap.specs.Heap.{form_at}
use Rattle.champ_trie.specs.Trie.{IsTrie, code_by}
use Rattle.champ_trie.specs.Reach.{agreeing}
use Rattle.champ_trie.proofs.CallerLemmas.{canon-live, agreeing-none}
use Rattle.edit_trie.specs.Way.{IsSoleWay}
use Rattle.edit_trie.proofs.LeadLemmas.{row-is, few-links, spot-of, node-in, trie-on, child-live, child-of, way-more, spot-one}
use Rattle.edit_trie.proofs.DownLemmas.{way-none}
use Rattle.edit_trie.proofs.way.way_of.Given.{Over}
use Rattle.edit_trie.proofs.way.way_of.Goals.{After-trie-entries}
use Rattle.edit_trie.proofs.way.way_of.Goals as goal

pub has_one_owner-sole-requires : goal.has_one_owner-sole-requires
has_one_owner-sole-requires g c = canon-live g.T.Ord.cmp (code_by g.T.Element.code_of c.requires.trie.0) c.args.heap.now c.args.root c.requires.trie.1 c.requires.trie.2

pub loop-depth-init : goal.loop-depth-init
loop-depth-init g c = (
  λ sole. (c.has_one_owner-sole.ensures.0 sole, way-none c.args.heap.now c.args.root c.args.code 0 c.args.root refl refl),
  λ bits E canon. subst (IsTrie g.T.Ord.cmp (code_by g.T.Element.code_of bits) (form_at c.args.heap.now) LEVELS 0 c.args.root) (sym (agreeing-none g.T.Ord.cmp (code_by g.T.Element.code_of bits) c.args.code E)) canon.trie,
)

pub trie-entries-requires : goal.trie-entries-requires
trie-entries-requires g c =
    let row = row-is g.T.Ord.cmp (code_by g.T.Element.code_of c.requires.trie.0) c.args.heap.now c.requires.trie.1 c.args.code c.loop-depth.depth c.loop-depth.row (omega (arith, c.loop-depth-test.true)) (c.loop-depth.invariant.1 c.requires.trie.0 c.requires.trie.1 c.requires.trie.2) in
    (row.1, row.2, row.3, (row.0, row.4.row))

module _ (g : Over) (c : After-trie-entries g) where
  deep : c.loop-depth.depth ≤ DEEPEST
  deep = omega (arith, c.loop-depth-test.true)

  -- by the map that the caller has
  abbrev code : g.row.T.Denot → ℕ
  code = code_by g.T.Element.code_of c.requires.trie.0

  trie : IsTrie g.T.Ord.cmp code (form_at c.args.heap.now) (LEVELS - c.loop-depth.depth) c.loop-depth.depth c.loop-depth.row (agreeing code c.loop-depth.depth c.args.code c.requires.trie.1)
  trie = c.loop-depth.invariant.1 c.requires.trie.0 c.requires.trie.1 c.requires.trie.2

pub bounds-links-index : goal.bounds-links-index
bounds-links-index g c =
    let at = (goal.at.bounds-links-index g c).After-trie-entries in
    node-in g.T.Ord.cmp (code g at) c.args.heap.now c.requires.trie.1 c.args.code c.loop-depth.depth c.loop-depth.row (deep g at) (trie g at) c.trie-entries.ensures c.digit.ensures.read c.in-Node.index c.in-Node.ensures

pub offset_bounds-links-index : goal.offset_bounds-links-index
offset_bounds-links-index g c =
    let at = (goal.at.offset_bounds-links-index g c).After-trie-entries in
    let inside = node-in g.T.Ord.cmp (code g at) c.args.heap.now c.requires.trie.1 c.args.code c.loop-depth.depth c.loop-depth.row (deep g at) (trie g at) c.trie-entries.ensures c.digit.ensures.read c.in-Node.index c.in-Node.ensures in
    let few = few-links g.T.Ord.cmp (code g at) c.args.heap.now c.requires.trie.1 c.args.code c.loop-depth.depth c.loop-depth.row (deep g at) (trie g at) c.trie-entries.ensures c.digit.ensures.read in
    let small : c.in-Node.index * 8 < 2 ^ 64 = omega (arith, inside, few) in
    search rules

pub is_alone_below-sole-requires-clause-live : goal.is_alone_below-sole-requires-clause-live
is_alone_below-sole-requires-clause-live g c =
    let at = (goal.at.is_alone_below-sole-requires-clause-live g c).After-trie-entries in
    child-live g.T.Ord.cmp (code g at) c.args.heap.now c.requires.trie.1 c.args.code c.loop-depth.depth c.loop-depth.row (deep g at) (trie g at) c.trie-entries.ensures c.digit.ensures.read c.in-Node.index c.index-links-index.result c.in-Node.ensures c.index-links-index.is c.rows_form_a_graph.ensures

pub is_alone_below-sole-requires-clause-linked : goal.is_alone_below-sole-requires-clause-linked
is_alone_below-sole-requires-clause-linked g c =
    let at = (goal.at.is_alone_below-sole-requires-clause-linked g c).After-trie-entries in
    child-of g.T.Ord.cmp (code g at) c.args.heap.now c.requires.trie.1 c.args.code c.loop-depth.depth c.loop-depth.row (deep g at) (trie g at) c.trie-entries.ensures c.digit.ensures.read c.in-Node.index c.index-links-index.result c.in-Node.ensures c.index-links-index.is

pub loop-depth-preserved : goal.loop-depth-preserved
loop-depth-preserved g c =
    let at = (goal.at.loop-depth-preserved g c).After-trie-entries in (
      λ sole.
          let both = c.is_alone_below-sole.ensures.0 sole in
          let was = c.loop-depth.invariant.0 both.0 in
          (was.0, way-more g.T.Ord.cmp (code g at) c.args.heap.now c.requires.trie.1 c.args.code c.loop-depth.depth c.loop-depth.row (deep g at) (trie g at) c.trie-entries.ensures c.digit.ensures.read c.in-Node.index c.index-links-index.result c.in-Node.ensures c.index-links-index.is c.args.root was.1 both.1),
      λ bits E canon. trie-on g.T.Ord.cmp (code_by g.T.Element.code_of bits) c.args.heap.now E c.args.code c.loop-depth.depth c.loop-depth.row (deep g at) (c.loop-depth.invariant.1 bits E canon) c.trie-entries.ensures c.digit.ensures.read c.in-Node.index c.index-links-index.result c.in-Node.ensures c.index-links-index.is,
    )

pub returns-in_default-clause-sole : goal.returns-in_default-clause-sole
returns-in_default-clause-sole g c = λ sole. c.loop-depth.invariant.0 sole

pub returns-in_default-clause-leads : goal.returns-in_default-clause-leads
returns-in_default-clause-leads g c = λ bits E canon.
    let at = (goal.at.returns-in_default-clause-leads g c).After-trie-entries in
    let trie = c.loop-depth.invariant.1 bits E canon in
    record {
      deep = deep g at;
      trie = trie;
      lowest = λ d e n i ls is there.
          let spot = spot-of g.T.Ord.cmp (code_by g.T.Element.code_of bits) c.args.heap.now E c.args.code c.loop-depth.depth c.loop-depth.row (deep g at) trie c.trie-entries.ensures c.digit.ensures.read c.spot_in.result c.spot_in.ensures d e n ls is in
          absurd (c.in_default.not-Node i (spot-one e n (digit_at c.args.code c.loop-depth.depth) i c.spot_in.result spot there));
    }

pub returns-clause-sole : goal.returns-clause-sole
returns-clause-sole g c = λ sole.
    let last : c.loop-depth.depth ≡ DEEPEST = omega (arith, c.loop-depth-test.false) in
    let was = c.loop-depth.invariant.0 sole in
    (was.0, subst (λ n. IsSoleWay c.args.heap.now c.args.root c.args.code n c.loop-depth.row) last was.1)

pub returns-clause-leads : goal.returns-clause-leads
returns-clause-leads g c = λ bits E canon.
    let code = code_by g.T.Element.code_of bits in
    let last : c.loop-depth.depth ≡ DEEPEST = omega (arith, c.loop-depth-test.false) in
    record {
      deep = omega arith;
      trie = subst (λ n. IsTrie g.T.Ord.cmp code (form_at c.args.heap.now) (LEVELS - n) n c.loop-depth.row (agreeing code n c.args.code E)) last (c.loop-depth.invariant.1 bits E canon);
      lowest = λ d e n i ls is there. refl;
    }
