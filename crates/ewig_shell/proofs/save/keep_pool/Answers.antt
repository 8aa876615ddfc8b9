use Rattle.std.proofs.Common.{◌≡◌, ◌∙◌, List, ℕ, sym, ap, subst, refl, inl, inr, Ok, Some}
use Rattle.pool_text.specs.Document.{document, value_in}
use Rattle.ewig_shell.specs.Saving.{saved_as}
use Rattle.ewig_shell.proofs.StepLemmas.{fault-is}
use Rattle.ewig_shell.proofs.SaveLemmas.{counted-large, counted-small, CallsKeep-of}
use Rattle.ewig_shell.proofs.save.keep_pool.Goals as goal

pub returns-then-text_length-gt-MOST_STORED-clause-keeps : goal.returns-then-text_length-gt-MOST_STORED-clause-keeps
returns-then-text_length-gt-MOST_STORED-clause-keeps g c = inr (inl (refl, counted-large _ c.text_length.result c.text_length.ensures.value c.if-text_length-gt-MOST_STORED.true, refl))

pub returns-in_err-bytes-clause-keeps : goal.returns-in_err-bytes-clause-keeps
returns-in_err-bytes-clause-keeps g c = inl (fault-is c.from_residual.result _ c.from_residual.ensures.1, refl)

pub returns-in_err-keep-clause-keeps : goal.returns-in_err-keep-clause-keeps
returns-in_err-keep-clause-keeps g c = inr (inr (CallsKeep-of c.deref.result.now c.as_str.result.now c.keep.result c.from_residual-in_err-keep.result
    (counted-small _ c.text_length.result c.text_length.ensures.value c.if-text_length-gt-MOST_STORED.false)
    (c.deref.ensures.value ∙ c.in_ok-bytes.ensures.value) c.as_str.ensures.shown c.keep.ensures.told c.keep.ensures.calls
    (ap saved_as c.in_err-keep.was ∙ sym (fault-is c.from_residual-in_err-keep.result _ c.from_residual-in_err-keep.ensures.1))))

pub returns-clause-keeps : goal.returns-clause-keeps
returns-clause-keeps g c = inr (inr (CallsKeep-of c.deref.result.now c.as_str.result.now c.keep.result (Ok tt)
    (counted-small _ c.text_length.result c.text_length.ensures.value c.if-text_length-gt-MOST_STORED.false)
    (c.deref.ensures.value ∙ c.in_ok-bytes.ensures.value) c.as_str.ensures.shown c.keep.ensures.told c.keep.ensures.calls
    (ap saved_as c.in_ok-keep.was)))

pub returns-clause-reads : goal.returns-clause-reads
returns-clause-reads g c = subst (λ (w : List ℕ). value_in w ≡ Some (document c.args.pool)) c.in_ok-bytes.ensures.value c.in_ok-bytes.ensures.reads
