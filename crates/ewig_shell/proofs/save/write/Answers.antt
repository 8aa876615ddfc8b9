use Rattle.std.proofs.Common.{◌≡◌, ◌≤◌, ◌<◌, ◌∙◌, ap, sym, subst, refl, length, List, ℕ, Ok, IsErrAnd}
use Rattle.elem_core.specs.Shown.{name_bytes}
use Rattle.ewig_shell.specs.declared.store_fault.StoreFault.{StoreFault}
use Rattle.ewig_shell.specs.Step.{ended_lines, most_stored}
use Rattle.ewig_shell.proofs.StepLemmas.{fault-is}
use Rattle.ewig_shell.specs.Saving.{saved_as}
use Rattle.ewig_shell.proofs.SaveLemmas.{count-absent, never-past, all-shown, shown-again, ObeysOn-absent, write-granted, write-stores, collected-are, collected-lacks, Stores-large, Stores-lacks, Stores-kept, no-more}
use Rattle.ewig_shell.proofs.save.write.Goals as goal

pub returns-in_default : goal.returns-in_default
returns-in_default g c = ObeysOn-absent c.in_default.ensures.0 _ _ c.in_default.ensures.1 (count-absent c.in_default.ensures.0 _ c.in_default.field-0 _ c.in_default.ensures.2)

pub unreachable-requires : goal.unreachable-requires
unreachable-requires g c = never-past c.args.space.now.pool c.in-Ok.ensures.0 c.in_default-lines.ensures.0 _ (λ lines. ⊥) c.in-Ok.count c.in_default-lines.field-0 _ c.in-Ok.ensures.1 c.in_default-lines.ensures.1 c.in-Ok.ensures.2 c.in_default-lines.ensures.2

pub returns-in_default-file_size : goal.returns-in_default-file_size
returns-in_default-file_size g c =
    let all = all-shown c.args.space.now.pool c.in-Ok.ensures.0 c.in-Ok-lines.ensures.0 _ (λ lines. ⊥) c.in-Ok.count c.in-Ok-lines.counted c.in-Ok.ensures.1 c.in-Ok-lines.ensures.1 c.in-Ok.ensures.2 c.in-Ok-lines.ensures.2 in
    Stores-large (write-stores c.in-Ok.ensures.0 (name_bytes c.args.buffer) (name_bytes c.args.file) all.0 c.in-Ok.ensures.1 all.1)
    (subst (λ (ls : List (List ℕ)). most_stored < length (ended_lines ls)) all.2 c.in_default-file_size.ensures)

pub unreachable-requires-in_default-lines-2 : goal.unreachable-requires-in_default-lines-2
unreachable-requires-in_default-lines-2 g c =
    never-past c.args.space.now.pool c.in-Ok.ensures.0 c.in_default-lines-2.ensures.0 _ (λ lines. ⊥) c.in-Ok.count c.in_default-lines-2.field-0 _ c.in-Ok.ensures.1 c.in_default-lines-2.ensures.1 c.in-Ok.ensures.2 c.in_default-lines-2.ensures.2

pub collected-requires : goal.collected-requires
collected-requires g c =
    let again : c.in-Ok-lines.counted ≡ c.in-Ok-lines-2.lines = shown-again c.args.space.now.pool c.in-Ok.ensures.0 c.in-Ok-lines.ensures.0 c.in-Ok-lines-2.ensures.0 _ (λ lines. ⊥) c.in-Ok.count c.in-Ok-lines.counted c.in-Ok-lines-2.lines c.in-Ok.ensures.1 c.in-Ok-lines.ensures.1 c.in-Ok-lines-2.ensures.1 c.in-Ok.ensures.2 c.in-Ok-lines.ensures.2 c.in-Ok-lines-2.ensures.2 in
    c.in-Some.ensures.0 ∙ ap (λ (ls : List (List ℕ)). length (ended_lines ls)) again

pub returns-in_err-bytes : goal.returns-in_err-bytes
returns-in_err-bytes g c =
    let all = all-shown c.args.space.now.pool c.in-Ok.ensures.0 c.in-Ok-lines-2.ensures.0 _ (λ lines. ⊥) c.in-Ok.count c.in-Ok-lines-2.lines c.in-Ok.ensures.1 c.in-Ok-lines-2.ensures.1 c.in-Ok.ensures.2 c.in-Ok-lines-2.ensures.2 in
    let lacks = collected-lacks _ c.collected.result c.in_err-bytes.field-0.0 c.collected.ensures c.in_err-bytes.was in
    Stores-lacks c.in-Ok.ensures.0 c.from_residual.result (subst (λ (f : StoreFault). IsErrAnd c.from_residual.result (λ (e : StoreFault). e ≡ f)) lacks c.from_residual.ensures.1) c.in-Ok.ensures.1
    (write-granted c.in-Ok.ensures.0 (name_bytes c.args.buffer) (name_bytes c.args.file) all.0 all.1) refl

pub returns-in_err-keep : goal.returns-in_err-keep
returns-in_err-keep g c =
    let all = all-shown c.args.space.now.pool c.in-Ok.ensures.0 c.in-Ok-lines-2.ensures.0 _ (λ lines. ⊥) c.in-Ok.count c.in-Ok-lines-2.lines c.in-Ok.ensures.1 c.in-Ok-lines-2.ensures.1 c.in-Ok.ensures.2 c.in-Ok-lines-2.ensures.2 in
    let again : c.in-Ok-lines.counted ≡ c.in-Ok-lines-2.lines = shown-again c.args.space.now.pool c.in-Ok.ensures.0 c.in-Ok-lines.ensures.0 c.in-Ok-lines-2.ensures.0 _ (λ lines. ⊥) c.in-Ok.count c.in-Ok-lines.counted c.in-Ok-lines-2.lines c.in-Ok.ensures.1 c.in-Ok-lines.ensures.1 c.in-Ok-lines-2.ensures.1 c.in-Ok.ensures.2 c.in-Ok-lines.ensures.2 c.in-Ok-lines-2.ensures.2 in
    let few : length (ended_lines all.0) ≤ most_stored
    = subst (λ (ls : List (List ℕ)). length (ended_lines ls) ≤ most_stored) (again ∙ all.2) (subst (λ (n : ℕ). n ≤ most_stored) c.in-Some.ensures.0 c.in-Some.ensures.1) in
    let are = collected-are _ c.collected.result c.in_ok-bytes.bytes c.collected.ensures c.in_ok-bytes.was in
    Stores-kept (write-stores c.in-Ok.ensures.0 (name_bytes c.args.buffer) (name_bytes c.args.file) all.0 c.in-Ok.ensures.1 all.1) c.deref.result.now c.as_str.result.now c.keep.result c.from_residual-in_err-keep.result few (no-more c.from_residual-in_err-keep.result)
    (c.deref.ensures.value ∙ are ∙ ap ended_lines all.2) c.as_str.ensures.shown c.keep.ensures.told c.keep.ensures.calls
    (ap saved_as c.in_err-keep.was ∙ sym (fault-is c.from_residual-in_err-keep.result _ c.from_residual-in_err-keep.ensures.1))

pub returns : goal.returns
returns g c =
    let all = all-shown c.args.space.now.pool c.in-Ok.ensures.0 c.in-Ok-lines-2.ensures.0 _ (λ lines. ⊥) c.in-Ok.count c.in-Ok-lines-2.lines c.in-Ok.ensures.1 c.in-Ok-lines-2.ensures.1 c.in-Ok.ensures.2 c.in-Ok-lines-2.ensures.2 in
    let again : c.in-Ok-lines.counted ≡ c.in-Ok-lines-2.lines = shown-again c.args.space.now.pool c.in-Ok.ensures.0 c.in-Ok-lines.ensures.0 c.in-Ok-lines-2.ensures.0 _ (λ lines. ⊥) c.in-Ok.count c.in-Ok-lines.counted c.in-Ok-lines-2.lines c.in-Ok.ensures.1 c.in-Ok-lines.ensures.1 c.in-Ok-lines-2.ensures.1 c.in-Ok.ensures.2 c.in-Ok-lines.ensures.2 c.in-Ok-lines-2.ensures.2 in
    let few : length (ended_lines all.0) ≤ most_stored
    = subst (λ (ls : List (List ℕ)). length (ended_lines ls) ≤ most_stored) (again ∙ all.2) (subst (λ (n : ℕ). n ≤ most_stored) c.in-Some.ensures.0 c.in-Some.ensures.1) in
    let are = collected-are _ c.collected.result c.in_ok-bytes.bytes c.collected.ensures c.in_ok-bytes.was in
    Stores-kept (write-stores c.in-Ok.ensures.0 (name_bytes c.args.buffer) (name_bytes c.args.file) all.0 c.in-Ok.ensures.1 all.1) c.deref.result.now c.as_str.result.now c.keep.result (Ok tt) few tt
    (c.deref.ensures.value ∙ are ∙ ap ended_lines all.2) c.as_str.ensures.shown c.keep.ensures.told c.keep.ensures.calls
    (ap saved_as c.in_ok-keep.was)
