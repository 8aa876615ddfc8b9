use Rattle.std.proofs.Common.{◌∙◌, sym, subst, arith, List, length, map, None}
use Rattle.std.specs.Prelude.{slice_get}
use Rattle.std.specs.List.{All}
use Rattle.std.proofs.lemmas.List.{length-map, nil_from_length}
use Rattle.std.proofs.lemmas.List.Elements.{All-map, All-weaker}
use Rattle.std.proofs.lemmas.Option.{slice_get_within}
use Rattle.node_heap.specs.Forms.{Form}
use Rattle.champ_chain.specs.Entry.{Entry, IsEntry}
use Rattle.champ_chain.proofs.FrameLemmas.{key-kept}
use Rattle.pool_text.specs.Rows.{Bytes}
use Rattle.pool_carry.specs.Making.{seen, forms_made, IsBegun}
use Rattle.pool_carry.specs.declared.entries.Entry.{Entry as CodedEntry}
use Rattle.pool_carry.proofs.Rows.{begun-same, begun-trans, begun-keeps}
use Rattle.pool_carry.proofs.Chained.{IsChained, chained-none, last-entry, chained-more, entry-within, links-within, some-chained}
use Rattle.pool_carry.proofs.tries.chain_of.Goals as goal

-- entries stay entries while rows are made
named-later : (old rows : List (Form Bytes)) (es : List CodedEntry) → IsBegun old rows → All (λ e. IsEntry (slice_get old) (seen e)) es → All (λ (d : Entry Bytes). IsEntry (slice_get rows) d) (map seen es)
named-later old rows es begun named =
    All-map (λ (d : Entry Bytes). IsEntry (slice_get rows) d) seen es
    (All-weaker (λ e. IsEntry (slice_get old) (seen e)) (λ e. IsEntry (slice_get rows) (seen e)) (λ e is. key-kept (slice_get old) (slice_get rows) (begun-keeps old rows begun) e.place e.key.now is) es named)

pub loop-entry-init : goal.loop-entry-init
loop-entry-init c = (c.requires.made, begun-same (forms_made c.args.made.now), tt, chained-none (slice_get (forms_made c.args.made.now)) c.in_ok-left.left.items (map seen c.args.entries.now) c.in_ok-left.ensures.same c.in_ok-left.ensures.rising)

pub add_trie_row-requires-clause-linked : goal.add_trie_row-requires-clause-linked
add_trie_row-requires-clause-linked c =
    let rows = forms_made c.loop-entry.made in
    let key = last-entry (slice_get rows) c.loop-entry.rest c.loop-entry.left.items c.pop.new.self.items c.in-Some.entry (map seen c.args.entries.now) c.in-Some.ensures.items c.loop-entry.invariant.3
    (named-later (forms_made c.args.made.now) rows c.args.entries.now c.loop-entry.invariant.1 c.requires.named.1.named) in
    links-within (length rows) c.in-Some.entry.place c.loop-entry.rest (entry-within rows c.in-Some.entry.place c.in-Some.entry.key.now key) c.loop-entry.invariant.2

pub loop-entry-preserved : goal.loop-entry-preserved
loop-entry-preserved c =
    let rows = forms_made c.loop-entry.made in
    let next = forms_made c.add_trie_row.new.self in
    let key = last-entry (slice_get rows) c.loop-entry.rest c.loop-entry.left.items c.pop.new.self.items c.in-Some.entry (map seen c.args.entries.now) c.in-Some.ensures.items c.loop-entry.invariant.3
    (named-later (forms_made c.args.made.now) rows c.args.entries.now c.loop-entry.invariant.1 c.requires.named.1.named) in (
      c.in_ok-add_trie_row.ensures.made,
      begun-trans (forms_made c.args.made.now) rows next c.loop-entry.invariant.1 c.in_ok-add_trie_row.ensures.more,
      slice_get_within next c.in_ok-add_trie_row.field-0 _ c.in_ok-add_trie_row.ensures.row,
      chained-more (slice_get rows) c.loop-entry.rest c.loop-entry.left.items c.pop.new.self.items c.in-Some.entry (map seen c.args.entries.now) c.in-Some.ensures.items c.loop-entry.invariant.3
          (slice_get next) c.in_ok-add_trie_row.field-0 (begun-keeps rows next c.in_ok-add_trie_row.ensures.more) c.in_ok-add_trie_row.ensures.row key,
    )

pub unreachable-requires : goal.unreachable-requires
unreachable-requires c =
    let chained : IsChained (slice_get (forms_made c.loop-entry.made)) None c.loop-entry.left.items (map seen c.args.entries.now) =
    subst (λ o. IsChained (slice_get (forms_made c.loop-entry.made)) o c.loop-entry.left.items (map seen c.args.entries.now)) c.in-None.is c.loop-entry.invariant.3 in
    some-chained (slice_get (forms_made c.loop-entry.made)) c.loop-entry.left.items (map seen c.args.entries.now) chained (nil_from_length c.loop-entry.left.items (sym c.loop-entry.left.ok.0 ∙ c.in_default.ensures.cases.0))
    (omega (arith, c.requires.two, length-map c.args.entries.now seen))
