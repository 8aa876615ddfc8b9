use Rattle.std.proofs.Common.{◌≡◌, ◌∙◌, sym, ap, subst, [], ◌∷◌, ◌++◌, map}
use Rattle.std.specs.HashMap.{get}
use Rattle.std.proofs.lemmas.List.{map-append}
use Rattle.pool_text.specs.Rows.{row_form}
use Rattle.pool_carry.specs.Making.{forms_made, AreKept}
use Rattle.pool_carry.specs.contracts.made.MadeRowPartialEq.TheImpl as same
use Rattle.pool_carry.proofs.Rows.{kept-own}
use Rattle.pool_carry.proofs.made.MadeRows.add_own.Goals as goal

pub returns-clause-made : goal.returns-clause-made
returns-clause-made c =
    let more : map row_form c.push.new.self.items ≡ forms_made c.args.self.now ++ row_form c.args.row ∷ [] = ap (map row_form) c.in_ok-push.ensures.items ∙ map-append row_form c.args.self.now.rows.items (c.args.row ∷ []) in
    let named = get (same.ghosts).eq c.args.self.now.places in
    subst (λ xs. AreKept xs named) (sym more) (kept-own (forms_made c.args.self.now) named c.requires.made (row_form c.args.row) c.requires.own c.requires.linked)
