use Rattle.std.proofs.Common.{◌≡◌, ◌∙◌, ℕ, Option, sym, ap, rules}
use Rattle.std.specs.Prelude.{option_map}
use Rattle.elem_core.specs.declared.words.Name.{Name}
use Rattle.elem_core.specs.Shown.{name_bytes}
use Rattle.shell_options.specs.Options.{pair}
use Rattle.shell_options.proofs.PartLemmas.{bits_refused, name_refused, seed_refused, count_refused, all_read, part_refused, refused_through, together_not, some_shown, options_are}
use Rattle.shell_options.proofs.make_options.Goals as goal
use Rattle.shell_options.proofs.make_options.Goals.{in-Some+in_ok-copied-in-Some, in-None}

pub returns-in_err-bits-clause-reads : goal.returns-in_err-bits-clause-reads
returns-in_err-bits-clause-reads c = refused_through _ _ _ (part_refused {A = Option ℕ} (λ given. given) _ _ _ c.in_err-bits.ensures.reads (λ e. bits_refused _ _ _ _ e)) c.from_residual.ensures.1

pub returns-in_err-name-clause-reads : goal.returns-in_err-name-clause-reads
returns-in_err-name-clause-reads c =
    refused_through _ _ _ (part_refused {A = Option Name} (option_map name_bytes) _ _ _ c.in_err-name.ensures (λ e. name_refused _ _ _ _ _ c.in_ok-bits.ensures.reads e)) c.from_residual-in_err-name.ensures.1

pub returns-in_err-seed-clause-reads : goal.returns-in_err-seed-clause-reads
returns-in_err-seed-clause-reads c =
    refused_through _ _ _ (part_refused {A = Option ℕ} (λ given. given) _ _ _ c.in_err-seed.ensures.reads (λ e. seed_refused _ _ _ _ _ _ c.in_ok-bits.ensures.reads c.in_ok-name.ensures e)) c.from_residual-in_err-seed.ensures.1

pub returns-in_err-count-clause-reads : goal.returns-in_err-count-clause-reads
returns-in_err-count-clause-reads c =
    refused_through _ _ _ (part_refused {A = Option ℕ} (λ given. given) _ _ _ c.in_err-count.ensures.reads (λ e. count_refused _ _ _ _ _ _ _ c.in_ok-bits.ensures.reads c.in_ok-name.ensures c.in_ok-seed.ensures.reads e)) c.from_residual-in_err-count.ensures.1

pub returns-in_err-work-clause-reads : goal.returns-in_err-work-clause-reads
returns-in_err-work-clause-reads c =
    let paired = ap (λ b. pair b c.in_ok-seed.seed c.in_ok-count.count) (c.is_some.ensures ∙ some_shown c.in_ok-name.name) in
    refused_through _ _ _ (part_refused {A = Option (ℕ × ℕ)} (λ given. given) _ _ _ c.in_err-work.ensures.reads (λ e.
    all_read _ _ _ _ _ _ _ _ c.in_ok-bits.ensures.reads c.in_ok-name.ensures c.in_ok-seed.ensures.reads c.in_ok-count.ensures.reads
    ∙ together_not _ _ _ _ (sym paired ∙ e))) c.from_residual-in_err-work.ensures.1

pub returns-clause-reads : goal.returns-clause-reads
returns-clause-reads c =
    let paired = ap (λ b. pair b c.in_ok-seed.seed c.in_ok-count.count) (c.is_some.ensures ∙ some_shown c.in_ok-name.name) in
    let named : c.match-name.first ≡ option_map name_bytes c.in_ok-name.name =
    elim c.match-name.branch [ in-Some+in_ok-copied-in-Some w ↦ search rules | in-None w ↦ search rules ] in
    options_are _ _ _ _ _ _ _ _ (all_read _ _ _ _ _ _ _ _ c.in_ok-bits.ensures.reads c.in_ok-name.ensures c.in_ok-seed.ensures.reads c.in_ok-count.ensures.reads)
    (sym paired ∙ c.in_ok-work.ensures.reads) c.unwrap_or.ensures named
