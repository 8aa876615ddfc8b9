use Rattle.std.proofs.Common.{◌≡◌, ◌<◌, ◌+◌, ℕ, suc, true, List, map, length, refl, ap, sym, subst, ◌∙◌, arith, Result, Ok, Err}
use Rattle.std.specs.Prelude.{slice_get, IfOk, IfSome}
use Rattle.std.specs.Ordering.{nat_cmp}
use Rattle.std.specs.Cmp.Lexicographic.{slice_cmp}
use Rattle.std.proofs.lemmas.Option.{slice_get_within}
use Rattle.elem_core.specs.declared.NoMemory.{NoMemory}
use Rattle.node_heap.specs.Forms.{Form}
use Rattle.champ_trie.specs.Trie.{IsTrie, code_by}
use Rattle.pool_text.specs.Rows.{Bytes}
use Rattle.pool_text.specs.Rules.{Rules, rules_named}
use Rattle.pool_text.specs.Pool.{forms_in}
use Rattle.pool_text.specs.declared.pool.Pool.{Pool}
use Rattle.pool_check.specs.Kinds.{is_trie_root}
use Rattle.pool_check.specs.Damages.{IsValidBy}
use Rattle.pool_check.proofs.PoolLaws.{trie-roots-canonical}
use Rattle.pool_carry.specs.Making.{seen, forms_made, AreCoded, AreCodedEntries, AreImagesOfFirst, ImageIsMade, IsRowOver, image_entries}
use Rattle.pool_carry.specs.declared.entries.Entry.{Entry as CodedEntry}
use Rattle.pool_carry.proofs.RowImages.{root-of-trie, named-entries, coded-named, coded-distinct, image-of-trie}
use Rattle.pool_carry.proofs.RowsOver.{row-later, row-is-trie}
use Rattle.pool_carry.proofs.Standing.{ok-both}
use Rattle.pool_carry.proofs.carrying.root_of.Goals as goal

-- what follows from two clauses about one result's value
if-both : {X : Type 0} {P Q R : X → Type 0} → (r : Result X NoMemory) → IfOk r P → IfOk r Q → ((x : X) → P x → Q x → R x) → IfOk r R
if-both (Ok x) p q both = both x p q
if-both (Err e) p q both = tt

-- the image of the root, once its trie is there
root-made : (R from : Rules) (bits : ℕ) (P : Pool) (valid : IsValidBy from P) (old new : List (Form Bytes)) (images : List ℕ) (are : AreImagesOfFirst R bits P old images) (root place n : ℕ) → length images ≡ root → is_trie_root (forms_in P root) ≡ true
    → place < length new → n ≡ R.deepest + 1 → IsTrie (slice_cmp nat_cmp) (code_by R.code_of bits) (slice_get new) n 0 place (image_entries P images root) → ImageIsMade R bits P old new images place
root-made R from bits P valid old new images are root place n long is_root low levels is_trie =
    image-of-trie R bits P from valid old images are (ap (λ l. is_trie_root (forms_in P l)) long ∙ is_root) new place low
    (subst (λ l. IsTrie (slice_cmp nat_cmp) (code_by R.code_of bits) (slice_get new) (R.deepest + 1) 0 place (image_entries P images l)) (sym long)
    (subst (λ m. IsTrie (slice_cmp nat_cmp) (code_by R.code_of bits) (slice_get new) m 0 place (image_entries P images root)) levels is_trie))

pub entries_below-requires-clause-root : goal.entries_below-requires-clause-root
entries_below-requires-clause-root c = root-of-trie (forms_in c.args.pool.now c.args.root) c.requires.root

pub add_trie_row-requires-clause-linked : goal.add_trie_row-requires-clause-linked
add_trie_row-requires-clause-linked c =
    let R = rules_named c.args.rules in
    let P = c.args.pool.now in
    let images : List ℕ = c.args.images.now in
    let old = forms_made c.args.made.now in
    let code = code_by R.code_of c.args.bits in
    let over : IsRowOver code R.deepest old (image_entries P images c.args.root) c.in-Some.row =
    subst (λ o. IfSome o (IsRowOver code R.deepest old (image_entries P images c.args.root))) c.in-Some.is
    (c.in_ok-row.ensures.row old (named-entries R c.args.bits P c.requires.valid.0 c.requires.valid.1 old images c.requires.images c.args.root (omega (arith, c.requires.place)) c.requires.more) c.requires.parts) in
    over.low

pub returns-in-Some-clause-image : goal.returns-in-Some-clause-image
returns-in-Some-clause-image c =
    let R = rules_named c.args.rules in
    let P = c.args.pool.now in
    let images : List ℕ = c.args.images.now in
    let old = forms_made c.args.made.now in
    let code = code_by R.code_of c.args.bits in
    let over : IsRowOver code R.deepest old (image_entries P images c.args.root) c.in-Some.row =
    subst (λ o. IfSome o (IsRowOver code R.deepest old (image_entries P images c.args.root))) c.in-Some.is
    (c.in_ok-row.ensures.row old (named-entries R c.args.bits P c.requires.valid.0 c.requires.valid.1 old images c.requires.images c.args.root (omega (arith, c.requires.place)) c.requires.more) c.requires.parts) in
    let new = forms_made c.add_trie_row.new.self in
    ok-both c.add_trie_row.result c.add_trie_row.ensures.more c.add_trie_row.ensures.row (λ more place at.
    root-made R c.requires.valid.0 c.args.bits P c.requires.valid.1 old new images c.requires.images c.args.root place (suc R.deepest) c.requires.place c.requires.root (slice_get_within new place _ at) (omega arith)
    (row-is-trie code R.deepest new (image_entries P images c.args.root) c.in-Some.row place (row-later code R.deepest old new more (image_entries P images c.args.root) c.in-Some.row over) at))

pub trie_of-requires-clause-distinct : goal.trie_of-requires-clause-distinct
trie_of-requires-clause-distinct c =
    let R = rules_named c.args.rules in
    let P = c.args.pool.now in
    let images : List ℕ = c.args.images.now in
    let old = forms_made c.args.made.now in
    let code = code_by R.code_of c.args.bits in
    let es : List CodedEntry = c.as_slice.result.now in
    let same : map seen es ≡ image_entries P images c.args.root = ap (map seen) c.as_slice.ensures.value ∙ c.in_ok-entries-in-None.ensures.entries in
    coded-distinct R c.args.bits P c.requires.valid.0 c.requires.valid.1 old images c.requires.images c.args.root (omega (arith, c.requires.place)) c.requires.more es same (trie-roots-canonical P c.requires.valid.1 c.args.root c.requires.root).distinct

pub trie_of-requires-clause-named : goal.trie_of-requires-clause-named
trie_of-requires-clause-named c =
    let R = rules_named c.args.rules in
    let P = c.args.pool.now in
    let images : List ℕ = c.args.images.now in
    let old = forms_made c.args.made.now in
    let code = code_by R.code_of c.args.bits in
    let es : List CodedEntry = c.as_slice.result.now in
    let same : map seen es ≡ image_entries P images c.args.root = ap (map seen) c.as_slice.ensures.value ∙ c.in_ok-entries-in-None.ensures.entries in (
      code,
      coded-named R c.args.bits P c.requires.valid.0 c.requires.valid.1 old images c.requires.images c.args.root (omega (arith, c.requires.place)) c.requires.more es same code
          (subst (AreCoded code) (sym c.as_slice.ensures.value) c.in_ok-entries-in-None.ensures.codes),
    )

pub returns-in_ok-entries-in-None-clause-image : goal.returns-in_ok-entries-in-None-clause-image
returns-in_ok-entries-in-None-clause-image c =
    let R = rules_named c.args.rules in
    let P = c.args.pool.now in
    let images : List ℕ = c.args.images.now in
    let old = forms_made c.args.made.now in
    let code = code_by R.code_of c.args.bits in
    let es : List CodedEntry = c.as_slice.result.now in
    let same : map seen es ≡ image_entries P images c.args.root = ap (map seen) c.as_slice.ensures.value ∙ c.in_ok-entries-in-None.ensures.entries in
    let named : AreCodedEntries code old es = coded-named R c.args.bits P c.requires.valid.0 c.requires.valid.1 old images c.requires.images c.args.root (omega (arith, c.requires.place)) c.requires.more es same code
    (subst (AreCoded code) (sym c.as_slice.ensures.value) c.in_ok-entries-in-None.ensures.codes) in
    let new = forms_made c.trie_of.new.made in
    if-both c.trie_of.result c.trie_of.ensures.low (c.trie_of.ensures.trie code (R.deepest + 1) named (omega (arith, c.deepest.ensures.value))) (λ place low is_trie.
    root-made R c.requires.valid.0 c.args.bits P c.requires.valid.1 old new images c.requires.images c.args.root place (R.deepest + 1) c.requires.place c.requires.root low refl
    (subst (λ E. IsTrie (slice_cmp nat_cmp) code (slice_get new) (R.deepest + 1) 0 place E) same is_trie))
