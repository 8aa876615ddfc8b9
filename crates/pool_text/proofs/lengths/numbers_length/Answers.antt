use Rattle.std.proofs.Common.{◌≡◌, ◌+◌, List, ℕ, map, length, ap, sym, ◌∙◌, arith}
use Rattle.std.specs.Prelude.{sum_by, decimal, max}
use Rattle.serde_json.specs.Written.{compact_text}
use Rattle.pool_text.specs.Document.{natural, naturals}
use Rattle.pool_text.specs.Length.{capped}
use Rattle.pool_text.proofs.Gathered.{take_all}
use Rattle.pool_text.proofs.TextLengths.{array-length, sum-map, capped-last}
use Rattle.pool_text.proofs.lengths.numbers_length.Goals as goal

pub returns : goal.returns
returns c =
    let ns : List ℕ = c.args.numbers.now in
    let size : ℕ → ℕ = λ n. length (decimal n) + 1 in
    let whole : length (compact_text (naturals ns)) ≡ max (sum_by size ns) 1 + 1 = array-length (map natural ns) ∙ ap (λ n. max n 1 + 1) (sum-map natural ns) in
    let sum : c.loop-number.sum ≡ capped (sum_by size ns) = c.loop-number.invariant ∙ ap (λ (xs : List ℕ). capped (sum_by size xs)) (take_all ns c.loop-number.number-index (omega arith)) in
    c.saturating_add-2.ensures ∙ ap (λ n. capped (n + 1)) (c.max.ensures ∙ ap (λ n. max n 1) sum) ∙ capped-last (sum_by size ns) ∙ ap capped (sym whole)
