use Rattle.versions.proofs.CallerLemmas.{new-held, made-same, made-holds, made-keeps}
use Rattle.two_versions.proofs.merged.Goals as goal

pub returns-then-same-clause-apart : goal.returns-then-same-clause-apart
returns-then-same-clause-apart g c = λ apart. absurd (apart (c.same.ensures.0 c.if-same.true))

pub returns-then-same-clause-held : goal.returns-then-same-clause-held
returns-then-same-clause-held g c = new-held c.args.lists.now c.copy.new.self c.in_ok-copy.copy _ c.in_ok-copy.ensures.made

pub returns-then-same-clause-kept : goal.returns-then-same-clause-kept
returns-then-same-clause-kept g c = λ v held. made-same c.args.lists.now c.copy.new.self c.in_ok-copy.copy _ v c.in_ok-copy.ensures.made c.in_ok-copy.ensures.fresh held

pub returns-then-same-clause-long : goal.returns-then-same-clause-long
returns-then-same-clause-long g c = (λ e. absurd (let f = e in cc), λ long. absurd (long.0 (c.same.ensures.0 c.if-same.true)))

pub returns-clause-same : goal.returns-clause-same
returns-clause-same g c = λ same. absurd (let yes = c.same.ensures.1 same in let no = c.if-same.false in cc)

pub returns-clause-held : goal.returns-clause-held
returns-clause-held g c = made-holds c.args.lists.now c.concat.result c.concat.new.self _ c.concat.ensures.made

pub returns-clause-kept : goal.returns-clause-kept
returns-clause-kept g c = λ v held. made-keeps c.args.lists.now c.concat.result c.concat.new.self _ v held c.concat.ensures.fresh c.concat.ensures.made

pub returns-clause-long : goal.returns-clause-long
returns-clause-long g c = (λ e. (λ same. absurd (let yes = c.same.ensures.1 same in let no = c.if-same.false in cc), c.concat.ensures.long.0 e), λ long. c.concat.ensures.long.1 long.1)
