use Rattle.std.proofs.Common.{◌≡◌, [], ◌∷◌, ◌++◌, rules, ap, sym, ◌∙◌, append_assoc, append-nil, arith}
use Rattle.std.proofs.lemmas.Bool.{eqb-true}
use Rattle.shell_io.specs.Pieces.{pieces}
use Rattle.shell_io.proofs.LinesLemmas.{pieces-none, HasOverlong-behind, HasOverlong-first, HasOverlong-none, HasOverlong-rest}
use Rattle.shell_io.proofs.lines.lines_of.Goals as goal

pub loop-rest-preserved : goal.loop-rest-preserved
loop-rest-preserved c =
    let lines = c.loop-rest.lines.items in
    let first = c.first_line.result.0.now in
    let others = c.first_line.result.1.now in
    let items : c.push.new.self.items ≡ lines ++ first ∷ [] =
    c.in_ok-push.ensures.items ∙ ap (λ line. lines ++ line ∷ []) (c.in_ok-text_of.ensures.kept ∙ c.of_cell.ensures) in (
      search rules,
      record {
        pieces_are =
            c.loop-rest.invariant.1.pieces_are ∙ ap (λ ps. lines ++ ps) c.first_line.ensures.pieces
            ∙ sym (append_assoc lines (first ∷ []) (pieces others)) ∙ ap (λ ls. ls ++ pieces others) (sym items);
        long = (
          λ h. HasOverlong-rest _ _ _ c.first_line.ensures.pieces (λ long. search (arith, long)) (c.loop-rest.invariant.1.long.0 h),
          λ h. c.loop-rest.invariant.1.long.1 (HasOverlong-behind _ _ _ c.first_line.ensures.pieces h),
        );
      },
    )

pub returns : goal.returns
returns c =
    let lines = c.loop-rest.lines.items in
    let none = eqb-true _ _ (sym c.loop-rest-test.ensures) in (
      c.from_vec.ensures ∙ sym (c.loop-rest.invariant.1.pieces_are
          ∙ ap (λ ps. lines ++ ps) (pieces-none c.loop-rest.rest.now none) ∙ append-nil lines),
      λ h. HasOverlong-none c.loop-rest.rest.now none (c.loop-rest.invariant.1.long.0 h),
      c.in-Ok.ensures.cases.1,
    )
