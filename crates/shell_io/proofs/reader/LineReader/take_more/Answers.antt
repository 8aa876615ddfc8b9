use Rattle.std.proofs.Common.{rules, ◌≡◌, ℕ, List, ◌+◌, length, arith, ap, subst, ◌∙◌, length-append}
use Rattle.shell_io.specs.Window.{TakesMore}
use Rattle.shell_io.proofs.StandsLemmas.{stands-pull, still_open}
use Rattle.shell_io.proofs.reader.LineReader.take_more.Goals as goal

pub returns-clause-stands : goal.returns-clause-stands
returns-clause-stands g c = λ input s.
    let before = c.let_go_of_front.new.self in
    let held_is : c.self.inside.window.held ≡ before.held = ap (λ r. r.held) c.self.view_is in
    let taken_is : c.self.inside.given + c.self.inside.let_go + length c.self.inside.window.held ≡ before.taken = ap (λ r. r.taken) c.self.view_is in
    let more = c.in_ok-self-inside.ensures.more in
    let P : List ℕ → Type 0 = λ xs.
    TakesMore c.in_ok-self-inside.field-0 xs c.pull.new.self.held (g.S.Source.left c.args.source.now) (g.S.Source.left c.pull.new.source) in
    stands-pull input before _ c.in_ok-self-inside.field-0 _ _ (c.let_go_of_front.ensures.stands input _ s) (subst P held_is more)
    (record {
      taken = omega (arith, ap length more.held, length-append c.self.inside.window.held more.more, more.count, taken_is);
      given = ap (λ r. r.given) c.self.view_is;
      let_go = ap (λ r. r.let_go) c.self.view_is;
      going_on = c.let_go_of_front.ensures.same.at_end ∙ c.requires.going_on;
      settled = still_open c.self.inside.over _ _ (ap (λ r. r.settled) c.self.view_is ∙ c.let_go_of_front.ensures.same.settled ∙ c.requires.open);
      at_end = λ e. let none : c.in_ok-self-inside.field-0 ≡ 0 = search rules in (none, c.in_ok-self-inside.ensures.at_end none);
    })
