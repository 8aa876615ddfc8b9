use Rattle.std.proofs.Common.{◌≡◌, ◌+◌, ◌<◌, ℕ, List, [], ◌∷◌, ◌++◌, map, length, length-append, Option, ap, sym, subst, ◌∙◌, arith}
use Rattle.std.specs.Prelude.{slice_index, IfSome}
use Rattle.indexmap.specs.IndexMap.{get}
use Rattle.node_heap.specs.Links.{count}
use Rattle.champ_trie.specs.Trie.{code_by}
use Rattle.pool_text.specs.Rules.{rules_named}
use Rattle.pool_text.proofs.FormRows.{count-same}
use Rattle.pool_check.proofs.TestLemmas.{leads-down, roots-low}
use Rattle.pool_carry.specs.Making.{forms_made, AreImagesOfFirst, ArePartsOfFirst, ImageIsMade, AreCarriedRows, IsPart, image_entries}
use Rattle.pool_carry.specs.declared.shared_parts.Part.{Part}
use Rattle.pool_carry.specs.contracts.made.MadeRowPartialEq.TheImpl as same
use Rattle.pool_carry.proofs.Images.{images-none, images-more, images-later, parts-none, parts-later, parts-more}
use Rattle.pool_carry.proofs.Rooted.{rows-carried}
use Rattle.pool_carry.proofs.carrying.carried_rows.Goals as goal

pub loop-place-init : goal.loop-place-init
loop-place-init c =
    let P = c.args.pool.now in
    record {
      made = c.in_ok-made.ensures.made;
      images = subst (AreImagesOfFirst (rules_named c.args.rules) c.args.bits P (forms_made c.in_ok-made.made)) (sym c.in_ok-images.ensures.items)
          (images-none (rules_named c.args.rules) c.args.bits P (leads-down P c.requires.valid.1.lead_back) (forms_made c.in_ok-made.made));
      parts = subst (ArePartsOfFirst (rules_named c.args.rules) c.args.bits P (forms_made c.in_ok-made.made) c.in_ok-images.images.items) (sym c.in_ok-parts.ensures.items)
          (parts-none (rules_named c.args.rules) c.args.bits P (leads-down P c.requires.valid.1.lead_back) (forms_made c.in_ok-made.made) c.in_ok-images.images.items);
      image_count = ap length c.in_ok-images.ensures.items;
      part_count = ap length c.in_ok-parts.ensures.items;
    }

pub image_of-requires-clause-more : goal.image_of-requires-clause-more
image_of-requires-clause-more c = omega (arith, c.loop-place-test.true, count-same c.args.pool.now.rows c.as_slice-rows.result.now c.as_slice-rows.ensures)

pub image_of-requires-clause-place : goal.image_of-requires-clause-place
image_of-requires-clause-place c = ap length c.as_slice.ensures.value ∙ c.loop-place.invariant.image_count

pub image_of-requires-clause-images : goal.image_of-requires-clause-images
image_of-requires-clause-images c =
    subst (AreImagesOfFirst (rules_named c.args.rules) c.args.bits c.args.pool.now (forms_made c.loop-place.made)) (sym c.as_slice.ensures.value) c.loop-place.invariant.images

pub image_of-requires-clause-parts : goal.image_of-requires-clause-parts
image_of-requires-clause-parts c =
    let are = ArePartsOfFirst (rules_named c.args.rules) c.args.bits c.args.pool.now (forms_made c.loop-place.made) in
    subst (λ xs. are xs c.as_slice-in-loop-place.result.now) (sym c.as_slice.ensures.value) (subst (λ ps. are c.loop-place.images.items ps) (sym c.as_slice-in-loop-place.ensures.value) c.loop-place.invariant.parts)

pub image_of-requires-clause-same : goal.image_of-requires-clause-same
image_of-requires-clause-same c = ap length c.as_slice-in-loop-place.ensures.value ∙ c.loop-place.invariant.part_count

-- the images once one more is pushed
pub part_of-requires-clause-there : goal.part_of-requires-clause-there
part_of-requires-clause-there c = omega (arith, c.loop-place-test.true, count-same c.args.pool.now.rows c.as_slice-rows.result.now c.as_slice-rows.ensures)

pub part_of-requires-clause-place : goal.part_of-requires-clause-place
part_of-requires-clause-place c =
    omega (arith, ap length c.as_slice-in-loop-place-2.ensures.value, ap length c.in_ok-push.ensures.items, length-append c.loop-place.images.items (c.in_ok-image.image ∷ []), c.loop-place.invariant.image_count)

pub part_of-requires-clause-images : goal.part_of-requires-clause-images
part_of-requires-clause-images c =
    let P = c.args.pool.now in
    let mid = forms_made c.image_of.new.made in
    let images : List ℕ = c.loop-place.images.items in
    let image : ℕ = c.in_ok-image.image in
    subst (AreImagesOfFirst (rules_named c.args.rules) c.args.bits P mid) (sym (c.as_slice-in-loop-place-2.ensures.value ∙ c.in_ok-push.ensures.items))
    (images-more (rules_named c.args.rules) c.args.bits P (leads-down P c.requires.valid.1.lead_back) (forms_made c.loop-place.made) mid images image c.loop-place.invariant.images c.in_ok-image.ensures.more
    (subst (λ xs. ImageIsMade (rules_named c.args.rules) c.args.bits P (forms_made c.loop-place.made) mid xs image) c.as_slice.ensures.value c.in_ok-image.ensures.image)
    (omega (arith, c.loop-place.invariant.image_count, c.loop-place-test.true, count-same P.rows c.as_slice-rows.result.now c.as_slice-rows.ensures)))

pub loop-place-preserved : goal.loop-place-preserved
loop-place-preserved c =
    let P = c.args.pool.now in
    let R = rules_named c.args.rules in
    let falls = leads-down P c.requires.valid.1.lead_back in
    let inv = c.loop-place.invariant in
    let old = forms_made c.loop-place.made in
    let mid = forms_made c.image_of.new.made in
    let new = forms_made c.part_of.new.made in
    let images : List ℕ = c.loop-place.images.items in
    let image : ℕ = c.in_ok-image.image in
    let parts : List (Option Part) = c.loop-place.parts.items in
    let part : Option Part = c.in_ok-part.part in
    let next : List ℕ = images ++ image ∷ [] in
    let long : length images < length P.rows = omega (arith, inv.image_count, c.loop-place-test.true, count-same P.rows c.as_slice-rows.result.now c.as_slice-rows.ensures) in
    let items : c.push.new.self.items ≡ next = c.in_ok-push.ensures.items in
    let part_items : c.push-in-loop-place.new.self.items ≡ parts ++ part ∷ [] = c.in_ok-push-2.ensures.items in
    let count : length next ≡ length images + 1 = length-append images (image ∷ []) in
    let pushed : AreImagesOfFirst R c.args.bits P mid next =
    images-more R c.args.bits P falls old mid images image inv.images c.in_ok-image.ensures.more (subst (λ xs. ImageIsMade R c.args.bits P old mid xs image) c.as_slice.ensures.value c.in_ok-image.ensures.image) long in
    let made : IfSome part (IsPart (code_by R.code_of c.args.bits) R.deepest new (image_entries P next (length parts))) =
    subst (λ l. IfSome part (IsPart (code_by R.code_of c.args.bits) R.deepest new (image_entries P next l))) (sym inv.part_count)
    (subst (λ xs. IfSome part (IsPart (code_by R.code_of c.args.bits) R.deepest new (image_entries P xs c.loop-place.place))) (c.as_slice-in-loop-place-2.ensures.value ∙ items) c.in_ok-part.ensures.part) in
    record {
      made = c.in_ok-part.ensures.made;
      images = subst (AreImagesOfFirst R c.args.bits P new) (sym items) (images-later R c.args.bits P falls mid new next c.in_ok-part.ensures.more (omega (arith, count, long)) pushed);
      parts = subst (λ xs. ArePartsOfFirst R c.args.bits P new xs c.push-in-loop-place.new.self.items) (sym items)
          (subst (λ ps. ArePartsOfFirst R c.args.bits P new next ps) (sym part_items)
          (parts-more R c.args.bits P falls mid new next parts part c.in_ok-part.ensures.more
          (parts-later R c.args.bits P falls old mid images image parts c.in_ok-image.ensures.more (omega (arith, inv.part_count, inv.image_count)) long inv.parts) made));
      image_count = omega (arith, ap length items, count, inv.image_count);
      part_count = omega (arith, ap length part_items, length-append parts (part ∷ []), inv.part_count);
    }

pub at_places-requires : goal.at_places-requires
at_places-requires c =
    let P = c.args.pool.now in
    record {
      low = λ k has.
          let root : 0 < count k P.roots = subst (λ (ks : List ℕ). 0 < count k ks) c.as_slice-3.ensures has in
          omega (arith, roots-low P c.requires.valid.1.lead_back k root, ap length c.as_slice-2.ensures.value, c.loop-place.invariant.image_count, c.loop-place-test.false, count-same P.rows c.as_slice-rows.result.now c.as_slice-rows.ensures);
    }

pub returns : goal.returns
returns c =
    let P = c.args.pool.now in
    let rows = forms_made c.loop-place.made in
    let inv = c.loop-place.invariant in
    let long : length c.loop-place.images.items ≡ length P.rows = omega (arith, inv.image_count, c.loop-place-test.false, count-same P.rows c.as_slice-rows.result.now c.as_slice-rows.ensures) in
    subst (λ made. AreCarriedRows (rules_named c.args.rules) c.args.bits P made c.in_ok-roots.roots) (sym c.into_rows.ensures)
    (rows-carried (rules_named c.args.rules) c.args.bits P rows (get (same.ghosts).eq c.loop-place.made.places) c.loop-place.images.items c.in_ok-roots.roots inv.made inv.images long
    (roots-low P c.requires.valid.1.lead_back) (c.in_ok-roots.ensures ∙ ap (λ (ks : List ℕ). map (slice_index ks) c.as_slice-3.result.now) c.as_slice-2.ensures.value ∙ ap (map (slice_index c.loop-place.images.items)) c.as_slice-3.ensures))
