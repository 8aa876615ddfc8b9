use Rattle.std.proofs.Common.{◌≡◌, true, false, ap, sym, ◌∙◌}
use Rattle.std.specs.Prelude.{slice_index_or}
use Rattle.std.specs.String.{string_bytes}
use Rattle.versions.specs.declared.piece.Piece.TheVariants.{Key, Value}
use Rattle.versions_pool.specs.Apart.{piece_of}
use Rattle.versions_pool.proofs.apart.ValuePlacesCellValuesPiece.value.Goals as goal

pub returns-then-is_marked-clause-read : goal.returns-then-is_marked-clause-read
returns-then-is_marked-clause-read g c =
    let marks = c.args.self.now.marks.items in
    let mark : slice_index_or marks c.args.place false ≡ true = ap (λ ms. slice_index_or ms c.args.place false) (sym c.as_slice.ensures.value) ∙ sym c.is_marked.ensures ∙ c.if-is_marked.true in
    ap Value c.read_text.ensures.read ∙ ap (λ b. piece_of g.K.Stored.of_bytes g.V.Stored.of_bytes b (string_bytes c.args.text)) (sym mark)

pub returns-else-is_marked-clause-read : goal.returns-else-is_marked-clause-read
returns-else-is_marked-clause-read g c =
    let marks = c.args.self.now.marks.items in
    let mark : slice_index_or marks c.args.place false ≡ false = ap (λ ms. slice_index_or ms c.args.place false) (sym c.as_slice.ensures.value) ∙ sym c.is_marked.ensures ∙ c.if-is_marked.false in
    ap Key c.read_text-else-is_marked.ensures.read ∙ ap (λ b. piece_of g.K.Stored.of_bytes g.V.Stored.of_bytes b (string_bytes c.args.text)) (sym mark)
