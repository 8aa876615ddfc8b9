use Rattle.std.proofs.Common.{◌≡◌, ◌∙◌, sym, ap, subst, cond, List, [], ◌∷◌, ◌++◌, map, Some}
use Rattle.std.specs.Prelude.{slice_get}
use Rattle.std.specs.HashMap.{get}
use Rattle.std.proofs.lemmas.List.{map-append, length-map}
use Rattle.node_heap.specs.Forms.{Form}
use Rattle.pool_text.specs.Rows.{Bytes, row_form}
use Rattle.pool_text.specs.declared.row.Row.{Row}
use Rattle.pool_carry.specs.Making.{forms_made, trie_row_form, AreKept}
use Rattle.pool_carry.specs.declared.made.MadeRows.{MadeRows}
use Rattle.pool_carry.specs.declared.made.MadeRow.{MadeRow}
use Rattle.pool_carry.specs.contracts.made.MadeRowPartialEq.TheImpl as same
use Rattle.pool_carry.proofs.Rows.{kept-trie, get-end}
use Rattle.pool_carry.proofs.RowEq.{eq-is, is-eq}
use Rattle.pool_carry.proofs.made.MadeRows.add_trie_row.Goals as goal

pub returns-in-Some-clause-row : goal.returns-in-Some-clause-row
returns-in-Some-clause-row c = c.requires.made.named c.in-Some.place.now c.args.row (sym c.in-Some.ensures.value)

-- the rows once one more is made
rows-made : (old : MadeRows) (rows : List Row) (made : Row) (row : MadeRow) → rows ≡ old.rows.items ++ made ∷ [] → row_form made ≡ trie_row_form row → map row_form rows ≡ forms_made old ++ trie_row_form row ∷ []
rows-made old rows made row items same = ap (map row_form) items ∙ map-append row_form old.rows.items (made ∷ []) ∙ ap (λ (r : Form Bytes). forms_made old ++ r ∷ []) same

pub returns-clause-made : goal.returns-clause-made
returns-clause-made c =
    subst (λ xs. AreKept xs (get (same.ghosts).eq c.insert.new.self))
    (sym (rows-made c.args.self.now c.push.new.self.items c.in_ok-row_of.field-0 c.args.row c.in_ok-push.ensures.items c.in_ok-row_of.ensures))
    (kept-trie (forms_made c.args.self.now) (get (same.ghosts).eq c.args.self.now.places) c.requires.made (same.ghosts).eq eq-is is-eq c.args.row (get (same.ghosts).eq c.insert.new.self) c.requires.linked
    (sym c.in_default.ensures.value)
    (λ q. c.in_ok-insert.ensures.updates.0 q ∙ ap (λ n. cond ((same.ghosts).eq c.args.row q) (Some n) (get (same.ghosts).eq c.args.self.now.places q)) (c.len-place.ensures ∙ c.args.self.now.rows.ok.0 ∙ sym (length-map c.args.self.now.rows.items row_form))))

pub returns-clause-row : goal.returns-clause-row
returns-clause-row c =
    ap (λ xs. slice_get xs c.len-place.result)
    (rows-made c.args.self.now c.push.new.self.items c.in_ok-row_of.field-0 c.args.row c.in_ok-push.ensures.items c.in_ok-row_of.ensures)
    ∙ ap (λ n. slice_get (forms_made c.args.self.now ++ trie_row_form c.args.row ∷ []) n) (c.len-place.ensures ∙ c.args.self.now.rows.ok.0 ∙ sym (length-map c.args.self.now.rows.items row_form))
    ∙ get-end (forms_made c.args.self.now) (trie_row_form c.args.row)
