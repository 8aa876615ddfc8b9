use Rattle.pool_text.proofs.Held.{texts-are-forms}
use Rattle.pool_text.proofs.laws.texts_are_forms.Goals as goal

pub returns : goal.returns
returns c h roots settings = texts-are-forms h roots settings
