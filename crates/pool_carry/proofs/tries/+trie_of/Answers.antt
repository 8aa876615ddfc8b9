use Rattle.std.proofs.Common.{◌≡◌, suc, ◌-◌, sym, subst, arith, get_or, length, map}
use Rattle.std.specs.Prelude.{slice_get}
use Rattle.std.specs.Ordering.{nat_cmp}
use Rattle.std.specs.Cmp.Lexicographic.{slice_cmp}
use Rattle.std.proofs.lemmas.Option.{slice_get_within}
use Rattle.champ_chain.specs.Entry.{IsEntry}
use Rattle.champ_trie.specs.Trie.{IsTrie}
use Rattle.champ_trie.proofs.WithLemmas.{chain-trie}
use Rattle.pool_carry.specs.Making.{seen, forms_made, AreCodedEntries}
use Rattle.pool_carry.proofs.Rows.{begun-same, begun-trans, begun-keeps}
use Rattle.pool_carry.proofs.Filled.{filled-none, filled-later, filled-skip, filled-more, filled-trie}
use Rattle.pool_carry.proofs.Standing.{ok-both, ok-then, if-then, begun-longer, slice-part, named-over, place-within, node-within, first-of, slice-named, slice-coded, slice-distinct, none-left, one-stands, more-stand}
use Rattle.pool_carry.proofs.tries.+trie_of.Goals as goal
use Rattle.pool_carry.proofs.tries.+trie_of.Goals.{in-empty, in-len1+in_ok-put_entry-in-len1, in_default+in_ok-node-in_default+in_ok-put_node-in_default}

pub returns-then-depth-deepest-clause-trie : goal.returns-then-depth-deepest-clause-trie
returns-then-depth-deepest-clause-trie t c = λ code left named levels.
    if-then c.chain_of.result c.chain_of.ensures.chain (λ place is. chain-trie (slice_cmp nat_cmp) code (slice_get (forms_made c.chain_of.new.made)) left c.args.depth place (map seen c.args.entries.now) (omega (arith, c.if-depth-deepest.true, levels)) is)

pub loop-position-init : goal.loop-position-init
loop-position-init t c = record {
  made = c.requires.made;
  more = begun-same (forms_made c.args.made.now);
  filled = λ code left named levels. filled-none code left c.args.depth (map seen c.args.entries.now) (slice_get (forms_made c.args.made.now)) (length (forms_made c.args.made.now)) c.empty-row.result.entries c.empty-row.result.nodes c.empty-row.result.links.items
      c.empty-row.ensures.sets c.empty-row.ensures.places c.empty-row.ensures.none;
}

pub put_entry-requires-clause-sets : goal.put_entry-requires-clause-sets
put_entry-requires-clause-sets t c = (c.loop-position.invariant.filled c.requires.named.0 (c.args.deepest - c.args.depth) c.requires.named.1 (omega (arith, c.if-depth-deepest.false))).sets

pub put_entry-requires-clause-free : goal.put_entry-requires-clause-free
put_entry-requires-clause-free t c =
    (c.loop-position.invariant.filled c.requires.named.0 (c.args.deepest - c.args.depth) c.requires.named.1 (omega (arith, c.if-depth-deepest.false))).free c.loop-position.position c.loop-position-test.true (omega arith)

pub trie_of-requires : goal.trie_of-requires
trie_of-requires t c =
    let es = c.args.entries.now in
    let p = c.loop-position.position in
    let slice = c.as_slice.result.now in
    let is = slice-part c.args.depth p es slice c.in_ok-parts.parts.items c.index.result.now c.in_ok-parts.ensures.many c.in_ok-parts.ensures.each c.loop-position-test.true c.index.ensures c.as_slice.ensures.value in
    let code = c.requires.named.0 in
    let named = c.requires.named.1 in (
      omega (arith, c.decreases, c.if-depth-deepest.false),
      (
        c.requires.deepest,
        (
          omega (arith, c.if-depth-deepest.false),
          (
            (λ _. c.in_default.len_at_least),
            (
              slice-distinct c.args.depth p es slice is code named.codes c.requires.distinct,
              (
                (
                  code,
                  record {
                    codes = slice-coded c.args.depth p es slice is code named.codes;
                    named = slice-named c.args.depth p es slice is (forms_made c.loop-position.made) (named-over (forms_made c.args.made.now) (forms_made c.loop-position.made) es c.loop-position.invariant.more named.named);
                  },
                ),
                c.loop-position.invariant.made,
              ),
            ),
          ),
        ),
      ),
    )

pub put_node-requires-clause-sets : goal.put_node-requires-clause-sets
put_node-requires-clause-sets t c = (c.loop-position.invariant.filled c.requires.named.0 (c.args.deepest - c.args.depth) c.requires.named.1 (omega (arith, c.if-depth-deepest.false))).sets

pub put_node-requires-clause-free : goal.put_node-requires-clause-free
put_node-requires-clause-free t c =
    (c.loop-position.invariant.filled c.requires.named.0 (c.args.deepest - c.args.depth) c.requires.named.1 (omega (arith, c.if-depth-deepest.false))).free c.loop-position.position c.loop-position-test.true (omega arith)

pub loop-position-preserved : goal.loop-position-preserved
loop-position-preserved t c =
    let es = c.args.entries.now in
    let p = c.loop-position.position in
    let slice = c.as_slice.result.now in
    let old = forms_made c.args.made.now in
    let rows = forms_made c.loop-position.made in
    let row = c.loop-position.row in
    let inv = c.loop-position.invariant in
    let is = slice-part c.args.depth p es slice c.in_ok-parts.parts.items c.index.result.now c.in_ok-parts.ensures.many c.in_ok-parts.ensures.each c.loop-position-test.true c.index.ensures c.as_slice.ensures.value in
    elim c.if-as_slice-lt1.branch [
      | in-empty w ↦ rw (w.made-is, w.row-is) record {
        made = inv.made;
        more = inv.more;
        filled = λ code left named levels. filled-skip code left c.args.depth (map seen es) (slice_get rows) (length rows) p row.entries row.nodes row.links.items (inv.filled code left named levels) c.loop-position-test.true
            (none-left c.args.depth p es slice is code named.codes w.in-empty.len_below);
      }
      | in-len1+in_ok-put_entry-in-len1 w ↦ rw (w.made-is, w.row-is) record {
        made = inv.made;
        more = inv.more;
        filled = λ code left named levels.
            let key = first-of (λ e. IsEntry (slice_get rows) (seen e)) slice _ w.in-len1.len_at_least (slice-named c.args.depth p es slice is rows (named-over old rows es inv.more named.named)) in
            let put = w.in_ok-put_entry-in-len1.ensures in
            filled-more code left c.args.depth (map seen es) (slice_get rows) (length rows) p row.entries row.nodes row.links.items (inv.filled code left named levels) c.loop-position-test.true
            w.put_entry.new.self.entries w.put_entry.new.self.nodes w.put_entry.new.self.links.items _ put.sets put.here put.others put.links
            (place-within rows (get_or slice 0 _) key) (one-stands c.args.depth p es slice is code named.codes left (slice_get rows) _ w.in-len1.len_at_least w.in-len1.len_below key);
      }
      | in_default+in_ok-node-in_default+in_ok-put_node-in_default w ↦
          let made = w.in_ok-node-in_default.ensures in
          let next = forms_made w.trie_of.new.made in
          rw (w.made-is, w.row-is) record {
            made = made.made;
            more = begun-trans old rows next inv.more made.more;
            filled = λ code left named levels.
                let put = w.in_ok-put_node-in_default.ensures in
                let place = w.in_ok-node-in_default.node in
                let these : AreCodedEntries code rows slice = record {
                  codes = slice-coded c.args.depth p es slice is code named.codes;
                  named = slice-named c.args.depth p es slice is rows (named-over old rows es inv.more named.named);
                } in
                filled-more code left c.args.depth (map seen es) (slice_get next) (length next) p row.entries row.nodes row.links.items
                (filled-later code left c.args.depth (map seen es) (slice_get rows) (slice_get next) (length rows) (length next) p row.entries row.nodes row.links.items (begun-keeps rows next made.more) (begun-longer rows next made.more) (inv.filled code left named levels))
                c.loop-position-test.true w.put_node.new.self.entries w.put_node.new.self.nodes w.put_node.new.self.links.items _ put.sets put.here put.others put.links
                (node-within (length next) place made.low)
                (more-stand c.args.depth p es slice is code named.codes left (slice_get next) place w.in_default.len_at_least (made.trie code left these (omega (arith, levels))));
          }
    ]

pub add_trie_row-requires-clause-linked : goal.add_trie_row-requires-clause-linked
add_trie_row-requires-clause-linked t c = (c.loop-position.invariant.filled c.requires.named.0 (c.args.deepest - c.args.depth) c.requires.named.1 (omega (arith, c.if-depth-deepest.false))).low

pub returns-clause-more : goal.returns-clause-more
returns-clause-more t c =
    ok-then c.add_trie_row.result c.add_trie_row.ensures.more (λ more. begun-trans (forms_made c.args.made.now) (forms_made c.loop-position.made) (forms_made c.add_trie_row.new.self) c.loop-position.invariant.more more)

pub returns-clause-low : goal.returns-clause-low
returns-clause-low t c = if-then c.add_trie_row.result c.add_trie_row.ensures.row (λ place at. slice_get_within (forms_made c.add_trie_row.new.self) place _ at)

pub returns-clause-trie : goal.returns-clause-trie
returns-clause-trie t c = λ code left named levels.
    let E = map seen c.args.entries.now in
    let rows = forms_made c.loop-position.made in
    let next = forms_made c.add_trie_row.new.self in
    let row = c.loop-position.row in
    let below : left ≡ suc (left - 1) = omega (arith, c.if-depth-deepest.false, levels) in
    let filled = c.loop-position.invariant.filled code (left - 1) named (omega (arith, c.if-depth-deepest.false, levels)) in
    ok-both c.add_trie_row.result c.add_trie_row.ensures.more c.add_trie_row.ensures.row (λ more place at.
    subst (λ n. IsTrie (slice_cmp nat_cmp) code (slice_get next) n c.args.depth place E) (sym below)
    (filled-trie code (left - 1) c.args.depth E (slice_get next) (length next) place c.loop-position.position row.entries row.nodes row.links.items (omega (arith, c.loop-position-test.false)) record { row = at; sets = filled.sets }
    (filled-later code (left - 1) c.args.depth E (slice_get rows) (slice_get next) (length rows) (length next) c.loop-position.position row.entries row.nodes row.links.items (begun-keeps rows next more) (begun-longer rows next more) filled)))
