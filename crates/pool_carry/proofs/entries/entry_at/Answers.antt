use Rattle.std.proofs.Common.{◌∙◌, ap, Option, option_map}
use Rattle.std.specs.Prelude.{slice_index}
use Rattle.elem_core.specs.Codes.{masked_code}
use Rattle.champ_chain.specs.Entry.{entry}
use Rattle.pool_text.specs.Rows.{Bytes}
use Rattle.pool_check.specs.Readings.{moved}
use Rattle.pool_carry.proofs.entries.entry_at.Goals as goal

pub returns-clause-entry : goal.returns-clause-entry
returns-clause-entry c = ap (λ (o : Option Bytes). option_map (moved (slice_index c.args.images.now)) (option_map (λ key. entry key c.args.place) o)) c.key_of-key.ensures

pub returns-clause-code : goal.returns-clause-code
returns-clause-code c = c.masked.ensures.kept ∙ ap (λ b. masked_code b c.args.bits) c.code.ensures
