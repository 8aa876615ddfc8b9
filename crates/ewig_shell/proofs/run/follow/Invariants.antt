use Rattle.std.proofs.Common.{◌≡◌, ℕ, ◌+◌, ◌-◌, List, None}
use Rattle.std.specs.Option.{ForSome}
use Rattle.shell_options.specs.Options.{PlainOptions}
use Rattle.ewig_shell.specs.Run.{HasAnswered}
use Rattle.ewig_shell.specs.Going.{GoesAs, IsGoing}
use Rattle.ewig_shell.proofs.run.follow.Given as goal

-- what holds between two lines
abbrev pub invariant-lines : goal.invariant-lines
invariant-lines g l = record {
  same_most : ForSome l.reader.most (λ kept. kept ≡ l.most);
  goes : GoesAs g.S.Source l.fn.source l.source g.K.Sink l.fn.sink l.sink g.D.Store l.fn.store l.store l.fn.session.space l.session.space None;
  answers : (asked : PlainOptions) (begin : g.row.K.Denot) (first : g.row.D.Denot) →
      HasAnswered asked g.K.Sink begin l.fn.sink g.D.Store first l.fn.store l.fn.session.space None →
      HasAnswered asked g.K.Sink begin l.sink g.D.Store first l.store l.session.space None;
  told : (asked : PlainOptions) (input : List ℕ) (begin : g.row.K.Denot) (first : g.row.D.Denot) →
      IsGoing l.most asked input l.fn.reader (g.S.Source.left l.fn.source) g.K.Sink begin l.fn.sink g.D.Store first l.fn.store l.fn.session.space →
      IsGoing l.most asked input l.reader (g.S.Source.left l.source) g.K.Sink begin l.sink g.D.Store first l.store l.session.space;
}

-- each line gives a byte more
abbrev pub decreases-lines : goal.decreases-lines
decreases-lines g l = l.most + 1 - l.reader.given
