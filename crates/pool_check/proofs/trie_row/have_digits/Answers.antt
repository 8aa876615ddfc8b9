use Rattle.std.proofs.Common.{◌≡◌, ◌+◌, ◌<◌, true, false, length, sym, ap, ◌∙◌, arith}
use Rattle.champ_trie.specs.Bits.{has}
use Rattle.pool_check.proofs.DigitSteps.{left, left-all, left-skip, left-same, left-other, left-short, left-end}
use Rattle.pool_check.proofs.trie_row.have_digits.Goals as goal
use Rattle.pool_check.proofs.trie_row.have_digits.Goals.{then-next-codes-via-then-next-codes, then-next-codes-via-else-next-codes+then-digit-position, then-contains+else-next-codes+else-digit-position, else-contains}

pub loop-position-init : goal.loop-position-init
loop-position-init c = (omega arith, left-all c.args.depth c.args.set c.args.codes.now)

pub returns-then-next-codes : goal.returns-then-next-codes
returns-then-next-codes c =
    let depth = c.args.depth in
    let codes = c.args.codes.now in
    let there : has c.args.set c.loop-position.position ≡ true = sym c.contains.ensures ∙ c.if-contains.true in
    sym (c.loop-position.invariant.1
    ∙ elim c.then-next-codes.branch as (λ _. left depth c.args.set codes c.loop-position.position c.loop-position.next ≡ false) [
      | then-next-codes-via-then-next-codes w ↦ left-short depth c.args.set codes c.loop-position.position c.loop-position.next c.loop-position-test.true there (omega arith)
      | then-next-codes-via-else-next-codes+then-digit-position w ↦
          left-other depth c.args.set codes c.loop-position.position c.loop-position.next c.loop-position-test.true there (omega arith) (λ same. w.if-digit-position.true (w.digit.ensures.read ∙ same))
    ])

pub loop-position-preserved : goal.loop-position-preserved
loop-position-preserved c =
    let depth = c.args.depth in
    let codes = c.args.codes.now in
    let p = c.loop-position.position in
    let i = c.loop-position.next in
    elim c.if-contains.branch [
      | then-contains+else-next-codes+else-digit-position w ↦
          let there : has c.args.set p ≡ true = sym c.contains.ensures ∙ w.if-contains.true in
          let more : i < length codes = omega arith in
          (omega arith, c.loop-position.invariant.1 ∙ left-same depth c.args.set codes p i c.loop-position-test.true there more (sym w.digit.ensures.read ∙ w.if-digit-position.false) ∙ ap (left depth c.args.set codes (p + 1)) (sym w.next-is))
      | else-contains w ↦
          let absent : has c.args.set p ≡ false = sym c.contains.ensures ∙ w.if-contains.false in
          (omega arith, c.loop-position.invariant.1 ∙ left-skip depth c.args.set codes p i c.loop-position-test.true absent ∙ ap (left depth c.args.set codes (p + 1)) (sym w.next-is))
    ]

pub returns : goal.returns
returns c =
    sym (c.loop-position.invariant.1 ∙ left-end c.args.depth c.args.set c.args.codes.now c.loop-position.position c.loop-position.next (omega arith) c.loop-position.invariant.0)
