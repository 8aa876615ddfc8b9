use Rattle.std.proofs.Common.{◌≡◌, ◌<◌, Some, List, [], ◌∷◌, ◌++◌, length, ap, sym, subst, ◌∙◌, arith, rules}
use Rattle.std.specs.Prelude.{slice_index}
use Rattle.node_heap.specs.Links.{count}
use Rattle.node_heap.specs.Forms.{Form, links_of}
use Rattle.pool_text.specs.Rows.{Bytes, row_form}
use Rattle.pool_text.specs.Rules.{rules_named}
use Rattle.pool_text.specs.declared.row.Row.{Row}
use Rattle.pool_text.proofs.FormRows.{count-same, form-read}
use Rattle.pool_check.specs.Kinds.{is_trie_root}
use Rattle.pool_carry.specs.Carried.{is_of_trie}
use Rattle.pool_carry.specs.Making.{forms_made, IsBegun}
use Rattle.pool_carry.proofs.Rows.{begun-same, begun-end}
use Rattle.pool_carry.proofs.Standing.{ok-both, ok-then}
use Rattle.pool_carry.proofs.RowImages.{own-row, trie-row, top-row, lower-row, relink-own, row-here, image-of-none, links-passed, links-named, image-of-own}
use Rattle.pool_carry.proofs.carrying.image_of.Goals as goal

pub bounds-rows-place : goal.bounds-rows-place
bounds-rows-place c = omega (arith, c.requires.more, count-same c.args.pool.now.rows c.as_slice-rows.result.now c.as_slice-rows.ensures)

pub offset_bounds-rows-place : goal.offset_bounds-rows-place
offset_bounds-rows-place c =
    let inside : c.args.place < length c.as_slice-rows.result.now = omega (arith, c.requires.more, count-same c.args.pool.now.rows c.as_slice-rows.result.now c.as_slice-rows.ensures) in
    search rules

-- a row inside a trie
pub returns-then-depth-gt0-clause-more : goal.returns-then-depth-gt0-clause-more
returns-then-depth-gt0-clause-more c = begun-same (forms_made c.args.made.now)

pub returns-then-depth-gt0-clause-image : goal.returns-then-depth-gt0-clause-image
returns-then-depth-gt0-clause-image c =
    let here = row-here c.args.pool.now c.as_slice-rows.result.now c.as_slice-rows.ensures c.args.images.now c.args.place c.index-rows-place.result c.requires.place c.requires.more c.index-rows-place.is in
    image-of-none (rules_named c.args.rules) c.args.bits c.args.pool.now c.requires.valid.0 c.requires.valid.1 (forms_made c.args.made.now) c.args.images.now c.requires.images (omega (arith, c.requires.place, c.requires.more))
    (ap is_of_trie here ∙ trie-row c.index-rows-place.result c.in-Trie.depth c.in-Trie.entries c.in-Trie.nodes c.in-Trie.links c.in-Trie.is)
    (ap is_trie_root here ∙ lower-row c.index-rows-place.result c.in-Trie.depth c.in-Trie.entries c.in-Trie.nodes c.in-Trie.links c.in-Trie.is (omega arith))

pub returns-in-Chain-clause-more : goal.returns-in-Chain-clause-more
returns-in-Chain-clause-more c = begun-same (forms_made c.args.made.now)

pub returns-in-Chain-clause-image : goal.returns-in-Chain-clause-image
returns-in-Chain-clause-image c =
    let here = row-here c.args.pool.now c.as_slice-rows.result.now c.as_slice-rows.ensures c.args.images.now c.args.place c.index-rows-place.result c.requires.place c.requires.more c.index-rows-place.is in
    image-of-none (rules_named c.args.rules) c.args.bits c.args.pool.now c.requires.valid.0 c.requires.valid.1 (forms_made c.args.made.now) c.args.images.now c.requires.images (omega (arith, c.requires.place, c.requires.more))
    (ap is_of_trie here ∙ ap (λ (row : Row). is_of_trie (Some (row_form row))) c.in-Chain.is)
    (ap is_trie_root here ∙ ap (λ (row : Row). is_trie_root (Some (row_form row))) c.in-Chain.is)

-- a trie
pub root_of-requires-clause-root : goal.root_of-requires-clause-root
root_of-requires-clause-root c =
    ap is_trie_root (form-read c.args.pool.now.rows c.as_slice-rows.result.now c.as_slice-rows.ensures c.args.place c.index-rows-place.result c.requires.more c.index-rows-place.is)
    ∙ top-row c.index-rows-place.result c.in-Trie.depth c.in-Trie.entries c.in-Trie.nodes c.in-Trie.links c.in-Trie.is (omega arith)

-- a row of its own
pub relinked-requires : goal.relinked-requires
relinked-requires c = record {
  low = links-passed (rules_named c.args.rules) c.args.bits c.args.pool.now c.requires.valid.0 c.requires.valid.1 (forms_made c.args.made.now) c.args.images.now c.requires.images (omega (arith, c.requires.place, c.requires.more)) (row_form c.index-rows-place.result)
      (row-here c.args.pool.now c.as_slice-rows.result.now c.as_slice-rows.ensures c.args.images.now c.args.place c.index-rows-place.result c.requires.place c.requires.more c.index-rows-place.is);
}

pub add_own-requires : goal.add_own-requires
add_own-requires c =
    let row : Form Bytes = row_form c.index-rows-place.result in
    let image = slice_index c.args.images.now in
    record {
      own = ap (λ (form : Form Bytes). is_of_trie (Some form)) c.in_ok-image-in_default.ensures ∙ relink-own image row ∙ own-row c.index-rows-place.result c.in_default.not-Trie c.in_default.not-Chain;
      linked = λ k has.
          links-named (rules_named c.args.rules) c.args.bits c.args.pool.now c.requires.valid.0 c.requires.valid.1 (forms_made c.args.made.now) c.args.images.now c.requires.images (omega (arith, c.requires.place, c.requires.more)) row
          (row-here c.args.pool.now c.as_slice-rows.result.now c.as_slice-rows.ensures c.args.images.now c.args.place c.index-rows-place.result c.requires.place c.requires.more c.index-rows-place.is)
          k (subst (λ (form : Form Bytes). 0 < count k (links_of (Some form))) c.in_ok-image-in_default.ensures has);
      made = c.requires.made;
    }

pub returns-in_ok-image-in_default : goal.returns-in_ok-image-in_default
returns-in_ok-image-in_default c =
    let row : Form Bytes = row_form c.index-rows-place.result in
    let image = slice_index c.args.images.now in
    let old : List (Form Bytes) = forms_made c.args.made.now in
    let new : List (Form Bytes) = forms_made c.add_own.new.self in
    record {
      made = c.add_own.ensures.made;
      more = ok-then c.add_own.result c.add_own.ensures.rows (λ (rows : new ≡ old ++ row_form c.in_ok-image-in_default.image ∷ []). subst (IsBegun old) (sym rows) (begun-end old (row_form c.in_ok-image-in_default.image)));
      image = ok-both c.add_own.result c.add_own.ensures.rows c.add_own.ensures.place (λ rows place at.
          image-of-own (rules_named c.args.rules) c.args.bits c.args.pool.now c.requires.valid.0 c.requires.valid.1 (forms_made c.args.made.now) c.args.images.now c.requires.images (omega (arith, c.requires.place, c.requires.more)) row
          (row-here c.args.pool.now c.as_slice-rows.result.now c.as_slice-rows.ensures c.args.images.now c.args.place c.index-rows-place.result c.requires.place c.requires.more c.index-rows-place.is)
          (own-row c.index-rows-place.result c.in_default.not-Trie c.in_default.not-Chain) new place at
          (rows ∙ ap (λ (form : Form Bytes). old ++ form ∷ []) c.in_ok-image-in_default.ensures));
    }
