use Rattle.std.proofs.Common.{◌≡◌, ℕ, Option, Some, List, refl, ap, sym, ◌∙◌}
use Rattle.serde_json.specs.Data.{Data}
use Rattle.node_heap.specs.Forms.{Form}
use Rattle.pool_text.specs.Rows.{Bytes}
use Rattle.pool_text.specs.Rules.{rules_named}
use Rattle.pool_text.specs.Document.{all_of, row_in, parts_damage_by}
use Rattle.pool_text.specs.Parsing.{parts_seen}
use Rattle.pool_text.specs.declared.damage.Damage.{Damage}
use Rattle.pool_text.proofs.Refusals.{handed-on}
use Rattle.pool_text.proofs.PoolRead.{bits-damage, row-damage, no-damage, pool-read, range-by-rules}
use Rattle.pool_text.proofs.from_json.pool_by.Goals as goal

-- the rows that are read where tries go so deep
read : {deepest depth : ℕ} (ds : List Data) {rows : Option (List (Form Bytes))} → deepest ≡ depth → all_of (row_in deepest) ds ≡ rows → all_of (row_in depth) ds ≡ rows
read ds same are = sym (ap (λ d. all_of (row_in d) ds) same) ∙ are

pub returns-then-parts-kept-clause-damage : goal.returns-then-parts-kept-clause-damage
returns-then-parts-kept-clause-damage c not_memory =
    bits-damage c.args.bits (parts_seen c.args.parts) (rules_named c.args.rules) (λ e. c.if-parts-kept.true (e ∙ sym c.kept_bits-kept.ensures))

pub returns-in_err-rows-clause-damage : goal.returns-in_err-rows-clause-damage
returns-in_err-rows-clause-damage c =
    handed-on c.from_residual.result c.in_err-rows.field-0.0 (parts_damage_by c.args.bits (parts_seen c.args.parts) (rules_named c.args.rules)) c.from_residual.ensures.1
    (λ not_memory.
    let refused = c.in_err-rows.ensures not_memory in
    row-damage c.args.bits (parts_seen c.args.parts) (rules_named c.args.rules) (c.if-parts-kept.false ∙ c.kept_bits-kept.ensures) (read (parts_seen c.args.parts).rows c.deepest.ensures.value refused.1)
    ∙ ap (λ (d : Damage). Some d) (sym refused.0))

pub returns-clause-pool : goal.returns-clause-pool
returns-clause-pool c =
    pool-read c.args.bits (parts_seen c.args.parts) (rules_named c.args.rules) c.in_ok-rows.rows c.kept_bits-kept.result c.args.parts.version c.if-parts-kept.false refl
    (read (parts_seen c.args.parts).rows c.deepest.ensures.value c.in_ok-rows.ensures)

pub returns-clause-rows : goal.returns-clause-rows
returns-clause-rows c =
    range-by-rules (record { bits = c.kept_bits-kept.result; version = c.args.parts.version; history = c.args.parts.history; rows = c.in_ok-rows.rows; roots = c.args.parts.roots }) c.args.parts.version (rules_named c.args.rules)
    (parts_seen c.args.parts).rows refl c.requires.version (read (parts_seen c.args.parts).rows c.deepest.ensures.value c.in_ok-rows.ensures)

pub returns-clause-whole : goal.returns-clause-whole
returns-clause-whole c =
    no-damage c.args.bits (parts_seen c.args.parts) (rules_named c.args.rules) c.in_ok-rows.rows (c.if-parts-kept.false ∙ c.kept_bits-kept.ensures)
    (read (parts_seen c.args.parts).rows c.deepest.ensures.value c.in_ok-rows.ensures)
