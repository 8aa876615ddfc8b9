use Rattle.std.proofs.Common.{Result, Ok, Err}
use Rattle.std.specs.Prelude.{IfOk}
use Rattle.versions.specs.Sorted.{entries_of}
use Rattle.versions.proofs.CallerLemmas.{new-held, made-held, made-keeps, found-made}
use Rattle.old_number.proofs.renumbered.Goals as goal

on-each : {A E : Type 0} {P Q S : A → Type 0} (r : Result A E) → ((a : A) → P a → Q a → S a) → IfOk r P → IfOk r Q → IfOk r S
on-each (Ok a) so p q = so a p q
on-each (Err e) so p q = tt

pub returns-clause-new_number : goal.returns-clause-new_number
returns-clause-new_number g c = on-each c.insert.result (λ v fresh made. found-made g.K.Ord.cmp g.met.K.Ord.total c.args.maps.now c.insert.new.self v c.args.key c.args.number (entries_of c.args.maps.now c.args.old) made) c.insert.ensures.fresh c.insert.ensures.made

pub returns-clause-old_number : goal.returns-clause-old_number
returns-clause-old_number g c = made-keeps c.args.maps.now c.insert.result c.insert.new.self _ c.args.old c.requires c.insert.ensures.fresh c.insert.ensures.made

pub returns-clause-held : goal.returns-clause-held
returns-clause-held g c = on-each c.insert.result (λ v fresh made. (new-held c.args.maps.now c.insert.new.self v _ made, made-held c.args.maps.now c.insert.new.self v _ c.args.old made fresh c.requires)) c.insert.ensures.fresh c.insert.ensures.made
