use Rattle.std.proofs.Common.{◌≡◌, ◌∙◌, ℕ, List, Some, map, ap, sym, subst, arith}
use Rattle.std.specs.Prelude.{slice_get, slice_index}
use Rattle.std.specs.List.{All}
use Rattle.std.specs.Ordering.{nat_cmp}
use Rattle.std.specs.Cmp.Lexicographic.{slice_cmp}
use Rattle.std.proofs.lemmas.List.{length-map}
use Rattle.elem_core.specs.Codes.{digit_at}
use Rattle.node_heap.specs.Forms.{node, trie}
use Rattle.champ_trie.specs.Trie.{IsTrie, code_by}
use Rattle.pool_text.specs.Rows.{row_form}
use Rattle.pool_text.specs.Rules.{rules_named}
use Rattle.pool_text.specs.Pool.{forms_in, row_count}
use Rattle.pool_text.specs.declared.row.Row.{Row}
use Rattle.pool_text.proofs.FormRows.{form-read}
use Rattle.pool_check.specs.Tries.{entries_below}
use Rattle.pool_check.specs.Readings.{moved}
use Rattle.pool_carry.specs.Making.{seen, forms_made, AreCoded, AreCodedEntries, image_entries}
use Rattle.pool_carry.specs.declared.entries.Entry.{Entry as CodedEntry}
use Rattle.pool_carry.proofs.Joined.{digits-seen}
use Rattle.pool_carry.proofs.RowImages.{coded-named, coded-distinct}
use Rattle.pool_carry.proofs.Once.{below-distinct, below-two}
use Rattle.pool_carry.proofs.shared_parts.part_of.Goals as goal

pub trie_of-requires-clause-distinct : goal.trie_of-requires-clause-distinct
trie_of-requires-clause-distinct c =
    let P = c.args.pool.now in
    let R = rules_named c.args.rules in
    let code = code_by R.code_of c.args.bits in
    let images : List ℕ = c.args.images.now in
    let es : List CodedEntry = c.as_slice-in-Some.result.now in
    let same : map seen es ≡ image_entries P images c.args.place = ap (map seen) c.as_slice-in-Some.ensures.value ∙ c.in_ok-entries-in-Trie.ensures.entries in
    let row = c.in-Trie in
    let one : row.depth ≡ 1 = omega (arith, c.if-depth-ne1.false) in
    let is : forms_in P c.args.place ≡ Some (node (trie 1 row.entries row.nodes) row.links) =
    form-read P.rows c.as_slice-rows.result.now c.as_slice-rows.ensures c.args.place c.index-rows-place.result c.requires.there c.index-rows-place.is ∙ ap (λ (r : Row). Some (row_form r)) row.is
    ∙ ap (λ d. Some (node (trie d row.entries row.nodes) row.links)) one in
    coded-distinct R c.args.bits P c.requires.valid.0 c.requires.valid.1 (forms_made c.args.made.now) images c.requires.images c.args.place c.requires.place c.requires.there es same
    (below-distinct c.requires.valid.0 P c.requires.valid.1 c.args.place c.requires.there row.entries row.nodes row.links is)

pub trie_of-requires-clause-named : goal.trie_of-requires-clause-named
trie_of-requires-clause-named c =
    let P = c.args.pool.now in
    let R = rules_named c.args.rules in
    let code = code_by R.code_of c.args.bits in
    let images : List ℕ = c.args.images.now in
    let es : List CodedEntry = c.as_slice-in-Some.result.now in
    let same : map seen es ≡ image_entries P images c.args.place = ap (map seen) c.as_slice-in-Some.ensures.value ∙ c.in_ok-entries-in-Trie.ensures.entries in
    let coded : AreCoded code es = subst (AreCoded code) (sym c.as_slice-in-Some.ensures.value) c.in_ok-entries-in-Trie.ensures.codes in
    (code, coded-named R c.args.bits P c.requires.valid.0 c.requires.valid.1 (forms_made c.args.made.now) images c.requires.images c.args.place c.requires.place c.requires.there es same code coded)

pub returns-in-Some-clause-part : goal.returns-in-Some-clause-part
returns-in-Some-clause-part c =
    let P = c.args.pool.now in
    let R = rules_named c.args.rules in
    let code = code_by R.code_of c.args.bits in
    let images : List ℕ = c.args.images.now in
    let es : List CodedEntry = c.as_slice-in-Some.result.now in
    let same : map seen es ≡ image_entries P images c.args.place = ap (map seen) c.as_slice-in-Some.ensures.value ∙ c.in_ok-entries-in-Trie.ensures.entries in
    let row = c.in-Trie in
    let one : row.depth ≡ 1 = omega (arith, c.if-depth-ne1.false) in
    let is : forms_in P c.args.place ≡ Some (node (trie 1 row.entries row.nodes) row.links) =
    form-read P.rows c.as_slice-rows.result.now c.as_slice-rows.ensures c.args.place c.index-rows-place.result c.requires.there c.index-rows-place.is ∙ ap (λ (r : Row). Some (row_form r)) row.is
    ∙ ap (λ d. Some (node (trie d row.entries row.nodes) row.links)) one in
    let coded : AreCoded code es = subst (AreCoded code) (sym c.as_slice-in-Some.ensures.value) c.in_ok-entries-in-Trie.ensures.codes in
    let named : AreCodedEntries code (forms_made c.args.made.now) es = coded-named R c.args.bits P c.requires.valid.0 c.requires.valid.1 (forms_made c.args.made.now) images c.requires.images c.args.place c.requires.place c.requires.there es same code coded in
    let place : ℕ = c.in_ok-place-in-Some.place in
    let digits : All (λ e. digit_at e.code 0 ≡ c.in-Some.digit) es =
    subst (All (λ (e : CodedEntry). digit_at e.code 0 ≡ c.in-Some.digit)) (c.as_slice.ensures.value ∙ sym c.as_slice-in-Some.ensures.value) c.in-Some.ensures.same in
    record {
      two = omega (arith, length-map (entries_below (row_count P) (forms_in P) c.args.place) (moved (slice_index images)), below-two c.requires.valid.0 P c.requires.valid.1 c.args.place c.requires.there row.entries row.nodes row.links is);
      small = c.in-Some.ensures.small;
      digit = subst (All (λ e. digit_at (code e.key) 0 ≡ c.in-Some.digit)) same (digits-seen code c.in-Some.digit es coded digits);
      low = c.in_ok-place-in-Some.ensures.low;
      trie = subst (λ E. IsTrie (slice_cmp nat_cmp) code (slice_get (forms_made c.trie_of.new.made)) R.deepest 1 place E) same (c.in_ok-place-in-Some.ensures.trie code R.deepest named (omega (arith, c.deepest.ensures.value)));
    }
