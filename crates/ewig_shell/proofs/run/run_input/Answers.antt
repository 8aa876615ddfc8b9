use Rattle.std.proofs.Common.{◌≡◌, subst, refl, inl, inr, rules, Some}
use Rattle.std.specs.Option.{option_copied}
use Rattle.shell_options.specs.Shown.{plain_options}
use Rattle.space_state.specs.View.{SpaceView}
use Rattle.ewig_shell.specs.Going.{GoesAs}
use Rattle.ewig_shell.proofs.RunLemmas.{Going-start, Opens-ended}
use Rattle.ewig_shell.proofs.AnsweredLemmas.{Answered-opens}
use Rattle.ewig_shell.proofs.EndLemmas.{GoesAs-opens, GoesAs-then}
use Rattle.ewig_shell.proofs.run.run_input.Goals as goal

pub returns-in_default : goal.returns-in_default
returns-in_default g c = inl (refl, refl, refl, c.unbegun.ensures)

pub returns-in-Some : goal.returns-in-Some
returns-in-Some g c =
    let first : c.args.options.now.first ≡ option_copied c.as_ref.result = search rules in
    let empty = c.in-Ok.ensures.empty in
    inr (record {
      last = c.open.new.session.space;
      last_is = refl;
      goes = subst (λ (w : SpaceView). GoesAs g.S.Source c.args.source.now c.args.source.now g.K.Sink c.args.sink.now c.open.new.sink g.D.Store c.args.store.now c.open.new.store w c.open.new.session.space (Some c.in-Some.status)) empty (GoesAs-opens _ c.in-Some.ensures);
      answers = Answered-opens (option_copied c.as_ref.result) first empty c.in-Some.ensures;
      told = λ input left. Opens-ended c.args.most left empty (option_copied c.as_ref.result) c.in-Some.status first c.in-Some.ensures;
    })

pub returns : goal.returns
returns g c =
    let asked = plain_options c.args.options.now in
    let first : c.args.options.now.first ≡ option_copied c.as_ref.result = search rules in
    let empty = c.in-Ok.ensures.empty in
    let all = c.follow-status.ensures in
    inr (record {
      last = c.follow-status.new.session.space;
      last_is = refl;
      goes = subst (λ (w : SpaceView). GoesAs g.S.Source c.args.source.now c.follow-status.new.source g.K.Sink c.args.sink.now c.follow-status.new.sink g.D.Store c.args.store.now c.follow-status.new.store w c.follow-status.new.session.space (Some c.follow-status.result)) empty
          (GoesAs-then (GoesAs-opens _ c.in-None.ensures) all.goes);
      answers = all.answers asked c.args.sink.now c.args.store.now (Answered-opens (option_copied c.as_ref.result) first empty c.in-None.ensures);
      told = λ input left. all.told asked input c.args.sink.now c.args.store.now
          (Going-start c.args.most (option_copied c.as_ref.result) first left c.in-Ok.ensures.start c.in-Ok.ensures.unread.0 empty c.in-None.ensures);
    })
