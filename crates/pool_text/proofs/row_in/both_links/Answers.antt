use Rattle.std.proofs.Common.{map, length, ap, sym, ◌∙◌, refl, inl, inr, arith}
use Rattle.std.proofs.lemmas.List.{length-map}
use Rattle.serde_json.specs.View.{view}
use Rattle.pool_text.specs.Parsing.{links_between}
use Rattle.pool_text.proofs.NumbersRead.{numbers-out}
use Rattle.pool_text.proofs.row_in.both_links.Goals as goal

pub returns-in_default-items : goal.returns-in_default-items
returns-in_default-items c not_memory =
    let items = c.in-Some-elements_of.items.now in
    (refl, ap (links_between 2 2) c.in-Some.ensures.some ∙ numbers-out 2 2 (view c.in-Some.links.now) (map view items) (sym c.in-Some-elements_of.ensures) (length items) (length-map items view) (inl (omega arith)))

pub returns-in_default-items-2 : goal.returns-in_default-items-2
returns-in_default-items-2 c not_memory =
    let items = c.in-Some-elements_of.items.now in
    (refl, ap (links_between 2 2) c.in-Some.ensures.some ∙ numbers-out 2 2 (view c.in-Some.links.now) (map view items) (sym c.in-Some-elements_of.ensures) (length items) (length-map items view) (inr (omega arith)))
