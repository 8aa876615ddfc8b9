-- The pool of rooted rows stands for what their roots stand for.
use Rattle.std.proofs.Common.{◌≡◌, ℕ, ◌<◌, List, map, sym, subst, ◌∙◌, arith}
use Rattle.node_heap.specs.Links.{count, here}
use Rattle.node_heap.specs.Forms.{Forms, links_in}
use Rattle.rrb_core.specs.Seq.{IsWellShaped}
use Rattle.pool_order.specs.Order.{order}
use Rattle.pool_text.specs.Rules.{Rules}
use Rattle.pool_text.specs.Pool.{forms_in, place_in, settings_by, pool}
use Rattle.pool_text.specs.Renaming.{IsRooted}
use Rattle.pool_text.specs.declared.pool.Pool.{Pool}
use Rattle.pool_text.proofs.Renamed.{renamed-below}
use Rattle.pool_text.proofs.Ordered.{pool-roots}
use Rattle.pool_text.proofs.PoolRows.{pool-renamed}
use Rattle.pool_check.specs.Damages.{IsValidBy}
use Rattle.pool_check.specs.Passing.{PassesAsMade}
use Rattle.pool_check.proofs.VectorReadings.{vector-reads-the-same}
use Rattle.pool_check.proofs.PoolPasses.{passes-as-made}
use Rattle.shell_terms.specs.Edit.{Bytes}
use Rattle.plain_space.specs.Workspace.{Workspace, HasBoundedUndo}
use Rattle.state_rows.specs.Standing.{StandForBy, StandsForBy}
use Rattle.state_rows.proofs.HeapPools.{pool-bits, pool-history}
use Rattle.state_rows.proofs.PassesSpace.{standing-valid}
use Rattle.state_rows.proofs.Renamed.{GoesOver, roots-over}
use Rattle.pool_carry.specs.Laws.{HasDigits}

module _ (rules : Rules) (bits history many : ℕ) (G : Forms Bytes) (roots : List ℕ) (rooted : IsRooted many G roots) (space : Workspace) (bound : space.history ≡ history) (stands : StandForBy rules G (IsWellShaped G) bits roots space) where
  abbrev made : Pool
  made = pool many G roots (settings_by bits history)

  abbrev place : ℕ → ℕ
  place = place_in (order many (links_in G) roots)

  root-over : (r : ℕ) → 0 < count r roots → GoesOver place G (forms_in made) (IsWellShaped G) (IsWellShaped (forms_in made)) r
  root-over r root =
      let image = pool-renamed many G roots rooted (settings_by bits history) r r root (here r) in
      record {
        renamed = image;
        vectors = λ k down vector. (vector-reads-the-same place G (forms_in made) ℕ k (renamed-below place G (forms_in made) r k down image)).shaped vector;
      }

  pub made-stands : StandsForBy rules made space
  made-stands =
      let moved : StandForBy rules (forms_in made) (IsWellShaped (forms_in made)) bits (map place roots) space =
      roots-over place G (forms_in made) (IsWellShaped G) (IsWellShaped (forms_in made)) bits rules roots space root-over stands in
      let placed : StandForBy rules (forms_in made) (IsWellShaped (forms_in made)) bits made.roots space =
      subst (λ rs. StandForBy rules (forms_in made) (IsWellShaped (forms_in made)) bits rs space) (sym (pool-roots many G roots rooted (settings_by bits history))) moved in (
        subst (λ b. StandForBy rules (forms_in made) (IsWellShaped (forms_in made)) b made.roots space) (sym (pool-bits many G roots bits history)) placed,
        bound ∙ sym (pool-history many G roots bits history),
      )

  -- and is valid, where all code bits are kept in the digits
  pub made-valid : HasDigits rules bits → HasBoundedUndo space → IsValidBy rules made
  made-valid few fits =
      let passes : PassesAsMade G roots made = passes-as-made many G roots rooted (settings_by bits history) in
      standing-valid rules made space (omega (arith, few, pool-bits many G roots bits history)) made-stands fits passes.lead_back passes.in_order
