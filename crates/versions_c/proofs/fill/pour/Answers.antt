use Rattle.std.proofs.Common.{[], ◌∷◌, ◌++◌, take, inl, inr, ap, ◌∙◌, length, arith}
use Rattle.std.proofs.lemmas.List.{take_more_set}
use Rattle.versions_c.proofs.FillLemmas.{behind, no-room}
use Rattle.versions_c.proofs.fill.pour.Goals as goal

pub overflow_sub-room : goal.overflow_sub-room
overflow_sub-room c = omega (arith, c.requires.1.few)

pub returns-then-at-forms-clause-shown : goal.returns-then-at-forms-clause-shown
returns-then-at-forms-clause-shown c = λ xs is. no-room xs c.args.value.now c.args.at c.args.forms.now c.args.room.now is (inl (omega (arith, c.if-at-forms.true)))

pub returns-then-bytes-room-clause-shown : goal.returns-then-bytes-room-clause-shown
returns-then-bytes-room-clause-shown c = λ xs is. no-room xs c.args.value.now c.args.at c.args.forms.now c.args.room.now is (inr (omega (arith, c.if-bytes-room.true, ap length c.bytes_of-bytes.ensures)))

pub append-requires : goal.append-requires
append-requires c = omega (arith, c.if-bytes-room.false, c.requires.1.few)

pub returns-clause-shown : goal.returns-clause-shown
returns-clause-shown c = λ xs is.
    behind xs c.args.value.now c.args.at c.append.result c.args.forms.now _ c.args.room.now c.append.new.room is
    (take_more_set c.args.forms.now c.args.at.count c.of.result (omega (arith, c.if-at-forms.false)) ∙ ap (λ f. take c.args.at.count c.args.forms.now ++ f ∷ []) c.of.ensures)
    (omega (arith, c.append.ensures.many, ap length c.bytes_of-bytes.ensures))
    (c.append.ensures.bytes ∙ ap (λ bs. take c.args.at.bytes c.args.room.now ++ bs) c.bytes_of-bytes.ensures)
    (omega (arith, c.append.ensures.many, c.append.ensures.len, c.if-bytes-room.false, is.few))
