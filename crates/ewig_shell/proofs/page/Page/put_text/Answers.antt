use Rattle.std.proofs.Common.{◌≡◌, ℕ, List, [], ◌∷◌, ◌++◌, ap, codes, rules, ◌∙◌}
use Rattle.plain_space.specs.Answer.{text_line}
use Rattle.ewig_shell.specs.Step.{reply_of}
use Rattle.ewig_shell.proofs.SendingLemmas.{Puts-as, Puts-kept}
use Rattle.ewig_shell.proofs.PageLemmas.{text_put, line_behind}
use Rattle.ewig_shell.proofs.page.Page.put_text.Goals as goal

pub returns-then-shown-room : goal.returns-then-shown-room
returns-then-shown-room g c =
    let same : c.self.inside.text.bytes ≡ c.args.self.now = search rules in
    Puts-as (text_put c.args.text.now c.text-shown.result.now c.text-shown.ensures.shown)
    (Puts-kept (line_behind c.args.self.now c.text-shown.result.now _ _ _ (c.push_str.ensures.bytes ∙ ap (λ (w : List ℕ). w ++ codes "= ") same) c.push_str-then-shown-room.ensures.bytes c.push_str-then-shown-room-2.ensures.bytes))

pub returns : goal.returns
returns g c = Puts-as (ap (λ (t : List ℕ). reply_of (text_line t ∷ [])) c.text-shown.ensures.shown) c.put_in_parts.ensures
