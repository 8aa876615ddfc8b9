use Rattle.std.proofs.Common.{◌≡◌, ◌+◌, List, ℕ, map, length, ap, sym, ◌∙◌, arith}
use Rattle.std.specs.Prelude.{decimal}
use Rattle.serde_json.specs.Data.{Data}
use Rattle.serde_json.specs.Written.{compact_text}
use Rattle.pool_text.specs.Document.{list, naturals, row_value}
use Rattle.pool_text.specs.Length.{capped}
use Rattle.pool_text.proofs.DocumentRows.{map-forms}
use Rattle.pool_text.proofs.TextLengths.{capped-add, capped-more, document-length}
use Rattle.pool_text.proofs.lengths.text_length.Goals as goal

turn : (a b c d : ℕ) → (((70 + a) + b) + c) + d ≡ 70 + (a + (b + (c + d)))
turn a b c d = omega arith

pub returns : goal.returns
returns c =
    let bits : ℕ = length (decimal c.args.pool.now.bits) in
    let history : ℕ = length (decimal c.args.pool.now.history) in
    let roots : ℕ = length (compact_text (naturals c.args.pool.now.roots)) in
    let rows : ℕ = length (compact_text (list (map row_value c.args.pool.now.rows))) in
    let first = c.saturating_add.ensures ∙ ap (λ n. capped (70 + n)) c.digits.ensures in
    let second = c.saturating_add-2.ensures ∙ ap (λ n. capped (c.saturating_add.result + n)) c.digits-2.ensures ∙ capped-more (70 + bits) history c.saturating_add.result first in
    let numbers = c.numbers_length.ensures ∙ ap (λ (ks : List ℕ). capped (length (compact_text (naturals ks)))) c.as_slice.ensures in
    let third = c.saturating_add-3.ensures ∙ capped-add (70 + bits + history) roots c.saturating_add-2.result c.numbers_length.result second numbers in
    let last = c.rows_length.ensures ∙ ap (λ (ds : List Data). capped (length (compact_text (list ds)))) (map-forms c.as_slice-2.result.now ∙ ap (map row_value) c.as_slice-2.ensures) in
    record {
      value =
          c.saturating_add-4.ensures ∙ capped-add (70 + bits + history + roots) rows c.saturating_add-3.result c.rows_length.result third last
          ∙ ap capped (turn bits history roots rows ∙ sym (document-length c.args.pool.now));
    }
