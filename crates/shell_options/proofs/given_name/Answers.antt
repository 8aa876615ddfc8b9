use Rattle.std.proofs.Common.{◌≡◌, ◌∙◌, Some, None, sym, ap, refl}
use Rattle.std.proofs.lemmas.Bool.{false≢true}
use Rattle.std.specs.Prelude.{option_copied}
use Rattle.elem_core.proofs.NamingLemmas.{is_name-yes, is_name-no}
use Rattle.shell_options.specs.Options.{Text, name_in, if_given}
use Rattle.shell_options.proofs.given_name.Goals as goal

pub returns-in-Some-new : goal.returns-in-Some-new
returns-in-Some-new c =
    let named = is_name-yes _ (c.in-Some-new.ensures.tested.0 refl) in
    let given : if_given name_in (Some c.in-Some.text.now) ≡ Some (Some c.in-Some.text.now) = rw named refl in
    ap (λ o. if_given name_in (option_copied o)) c.in-Some.is ∙ given ∙ sym (ap (λ (t : Text). Some (Some t)) c.in-Some-new.ensures.kept)

pub returns-in-None : goal.returns-in-None
returns-in-None c =
    let unnamed = is_name-no _ (λ named. false≢true (c.in-None.ensures.tested.1 named)) in
    let nothing : if_given name_in (Some c.in-Some.text.now) ≡ None = rw unnamed refl in
    ap (λ o. if_given name_in (option_copied o)) c.in-Some.is ∙ nothing
