use Rattle.std.proofs.Common.{◌≡◌, length}
use Rattle.pool_text.specs.Rules.{rules_named}
use Rattle.pool_carry.specs.Making.{forms_made, AreMade, AreImagesOfFirst, ArePartsOfFirst}
use Rattle.pool_carry.proofs.carrying.carried_rows.Given as goal

abbrev pub invariant-loop-place : goal.invariant-loop-place
invariant-loop-place l = record {
  made : AreMade l.made;
  images : AreImagesOfFirst (rules_named l.rules) l.bits l.pool (forms_made l.made) l.images.items;
  parts : ArePartsOfFirst (rules_named l.rules) l.bits l.pool (forms_made l.made) l.images.items l.parts.items;
  image_count : length l.images.items ≡ l.place;
  part_count : length l.parts.items ≡ l.place;
}
