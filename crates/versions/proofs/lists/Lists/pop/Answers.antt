use Rattle.std.proofs.Common.{◌≡◌, ◌-◌, length, take, refl, ap, sym, subst, ◌∙◌, arith}
use Rattle.std.specs.Prelude.{IfOk}
use Rattle.std.specs.FinMap as map
use Rattle.versions.specs.Store.{list_of}
use Rattle.versions.proofs.CallLemmas.{no-elements}
use Rattle.versions.proofs.lists.Lists.pop.Goals as goal

pub returns-then-len-eq0-clause-range : goal.returns-then-len-eq0-clause-range
returns-then-len-eq0-clause-range g c = (λ _. no-elements (list_of c.args.self.now c.args.version) (sym c.len-len.ensures ∙ c.if-len-eq0.true), λ _. refl)

pub returns-clause-made : goal.returns-clause-made
returns-clause-made g c = subst (λ n. IfOk c.slice.result (λ v. c.slice.new.self ≡ map.insert c.args.self.now v (take (n - 1) (list_of c.args.self.now c.args.version)))) c.len-len.ensures c.slice.ensures.made

pub returns-clause-range : goal.returns-clause-range
returns-clause-range g c = (λ e. absurd (c.slice.ensures.range.0 e (omega arith, omega (arith, c.len-len.ensures))), λ none. absurd (c.if-len-eq0.false (c.len-len.ensures ∙ ap length none)))
