use Rattle.std.proofs.Common.{◌≡◌, ◌<◌, ◌≤◌, ◌++◌, ◌∙◌, ℕ, List, map, length, IsSome, ap, sym, subst}
use Rattle.std.specs.Prelude.{slice_get, slice_index, IfOk, IfSome}
use Rattle.std.specs.List.{All, filter_map, flat_map}
use Rattle.std.proofs.lemmas.List.Elements.{All-nil}
use Rattle.node_heap.specs.Forms.{Form, links_of}
use Rattle.champ_chain.specs.Entry.{key_at}
use Rattle.champ_trie.specs.Trie.{code_by}
use Rattle.champ_trie.specs.Walk.{entry_count, own_entries, rows_below}
use Rattle.pool_text.specs.Rows.{Bytes}
use Rattle.pool_text.specs.Rules.{rules_named}
use Rattle.pool_text.specs.Pool.{forms_in}
use Rattle.pool_text.proofs.FormRows.{form-read}
use Rattle.pool_check.specs.Tries.{entry_at}
use Rattle.pool_check.specs.Keeping.{forms_at}
use Rattle.pool_check.specs.Readings.{moved}
use Rattle.pool_carry.specs.Making.{seen, AreCoded, IsRowOver, image_entries}
use Rattle.pool_carry.specs.declared.entries.Entry.{Entry as CodedEntry}
use Rattle.pool_carry.proofs.Joined.{entries-joined, own-named, root-walked, own-low, below-low, own-keys}
use Rattle.pool_carry.proofs.RowImages.{root-of-trie}
use Rattle.pool_carry.proofs.shared_parts.joined.Goals as goal

pub split_links-requires-clause-count : goal.split_links-requires-clause-count
split_links-requires-clause-count c =
    let P = c.args.pool.now in
    let is = form-read P.rows c.as_slice-rows.result.now c.as_slice-rows.ensures c.args.root c.index-rows-root.result c.requires.there c.index-rows-root.is in
    let walked = root-walked c.requires.valid.0 P c.requires.valid.1 c.args.images.now c.args.root c.requires.there (root-of-trie (forms_in P c.args.root) c.requires.root) in
    subst (λ r. entry_count r ≤ length (links_of r)) is walked.count

pub add_entries-requires-clause-keys : goal.add_entries-requires-clause-keys
add_entries-requires-clause-keys c =
    let P = c.args.pool.now in
    let rows = c.as_slice-rows.result.now in
    let is = form-read P.rows rows c.as_slice-rows.ensures c.args.root c.index-rows-root.result c.requires.there c.index-rows-root.is in
    subst (λ ks. All (λ k. IsSome (key_at (forms_at rows) k)) ks) (ap own_entries is ∙ sym c.split_links.ensures.own)
    (own-keys c.requires.valid.0 P c.requires.valid.1 c.args.images.now c.args.root c.requires.there (root-of-trie (forms_in P c.args.root) c.requires.root) rows c.as_slice-rows.ensures)

pub add_entries-requires-clause-low : goal.add_entries-requires-clause-low
add_entries-requires-clause-low c =
    let P = c.args.pool.now in
    let is = form-read P.rows c.as_slice-rows.result.now c.as_slice-rows.ensures c.args.root c.index-rows-root.result c.requires.there c.index-rows-root.is in
    subst (λ ks. All (λ k. k < length c.args.images.now) ks) (ap own_entries is ∙ sym c.split_links.ensures.own)
    (own-low c.requires.valid.0 P c.requires.valid.1 c.args.images.now c.args.root c.requires.there (root-of-trie (forms_in P c.args.root) c.requires.root) (length c.args.images.now) c.requires.images)

pub with_parts-requires-clause-low : goal.with_parts-requires-clause-low
with_parts-requires-clause-low c =
    let P = c.args.pool.now in
    let is = form-read P.rows c.as_slice-rows.result.now c.as_slice-rows.ensures c.args.root c.index-rows-root.result c.requires.there c.index-rows-root.is in
    subst (λ ks. All (λ k. k < length c.args.parts.now) ks) (ap rows_below is ∙ sym c.split_links.ensures.below)
    (below-low c.requires.valid.0 P c.requires.valid.1 c.args.images.now c.args.root c.requires.there (root-of-trie (forms_in P c.args.root) c.requires.root) (length c.args.parts.now) c.requires.parts)

pub returns-in-Some : goal.returns-in-Some
returns-in-Some c =
    let P = c.args.pool.now in
    let code = code_by (rules_named c.args.rules).code_of c.args.bits in
    let deepest = (rules_named c.args.rules).deepest in
    let items = c.as_slice-rows.result.now in
    let images : List ℕ = c.args.images.now in
    let own : List ℕ = c.split_links.result.0.now in
    let below : List ℕ = c.split_links.result.1.now in
    let is = form-read P.rows items c.as_slice-rows.ensures c.args.root c.index-rows-root.result c.requires.there c.index-rows-root.is in
    let es : List CodedEntry = c.as_slice.result.now in
    let read : map seen es ≡ map (moved (slice_index images)) (filter_map (entry_at (forms_in P)) own) =
    ap (map seen) c.as_slice.ensures.value ∙ c.in_ok-add_entries.ensures.entries ∙ ap (λ (xs : List CodedEntry). map seen xs ++ map (moved (slice_index images)) (filter_map (entry_at (forms_at items)) own)) c.new-entries.ensures.items
    ∙ ap (λ (fs : List (Form Bytes)). map (moved (slice_index images)) (filter_map (entry_at (λ l. slice_get fs l)) own)) c.as_slice-rows.ensures in
    let whole : map seen es ++ flat_map (image_entries P images) below ≡ image_entries P images c.args.root =
    entries-joined c.requires.valid.0 P c.requires.valid.1 images c.args.root c.requires.there (map seen es) own below (c.split_links.ensures.own ∙ sym (ap own_entries is)) (c.split_links.ensures.below ∙ sym (ap rows_below is)) read in
    let coded : AreCoded code es = subst (AreCoded code) (sym c.as_slice.ensures.value) (c.in_ok-add_entries.ensures.codes (subst (AreCoded code) (sym c.new-entries.ensures.items) (All-nil (λ (e : CodedEntry). e.code ≡ code e.key.now)))) in
    record {
      row = λ rows named parts.
          let over : IsRowOver code deepest rows (map seen es) c.in-Some.row =
          subst (λ o. IfSome o (IsRowOver code deepest rows (map seen es))) c.in-Some.is
          (c.in_ok-row.ensures.row code deepest rows (own-named c.requires.valid.0 P c.requires.valid.1 images c.args.root c.requires.there code rows es (flat_map (image_entries P images) below) coded whole named)) in
          subst (λ E. IfOk c.with_parts.result (λ o. IfSome o (IsRowOver code deepest rows E))) whole (c.with_parts.ensures.row code deepest rows (map seen es) (image_entries P images) over parts);
    }
