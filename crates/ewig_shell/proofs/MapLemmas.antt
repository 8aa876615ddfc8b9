-- What shows that lines were moved, or why not.
use Rattle.std.proofs.Common.{◌≡◌, ℕ, ◌<◌, ◌≤◌, ◌↔◌, ◌∙◌, length, true, false, nat_le, sym, ap, subst, refl, arith, codes, inl, inr, Result, Ok, Err, IsErrAnd}
use Rattle.std.proofs.lemmas.Bool.{le-leb, cases_Bool}
use Rattle.std.proofs.lemmas.Bool.Decides.{nat_tests}
use Rattle.std.proofs.lemmas.List.{length-map}
use Rattle.shell_terms.specs.Edit.{Bytes}
use Rattle.shell_terms.specs.Command.{indent, dedent}
use Rattle.plain_space.specs.declared.TheConstants.{MOST_SPACES}
use Rattle.plain_space.specs.declared.refusal.Refusal.TheVariants as why
use Rattle.plain_space.specs.Workspace.{Workspace, all_lines_pass, in_batch}
use Rattle.plain_space.specs.Refusing.{has_room_for}
use Rattle.plain_space.specs.Answer.{answer, elsewhere}
use Rattle.pool_text.specs.Pool.{pool}
use Rattle.pool_text.specs.Rules.{present_rules}
use Rattle.pool_text.specs.declared.pool.Pool.{Pool}
use Rattle.pool_text.specs.declared.rules.TheConstants.{MOST_HISTORY}
use Rattle.elem_core.specs.declared.codes.TheConstants.{CODE_BITS}
use Rattle.pool_check.specs.Damages.{IsValid}
use Rattle.pool_map.specs.Laws.{KeepsCells, MappedIsValid, IndentNeedsRoom}
use Rattle.pool_map.specs.Mapped.{mapped}
use Rattle.pool_map.specs.Spaces.{indented, dedented}
use Rattle.pool_map.specs.declared.fault.ChangeFault.{ChangeFault}
use Rattle.pool_map.specs.declared.fault.ChangeFault.TheVariants as change
use Rattle.state_rows.specs.Standing.{StandsFor}
use Rattle.state_rows.proofs.FourRoots.{four-roots}
use Rattle.space_state.specs.View.{SpaceView}
use Rattle.shell_io.specs.declared.device.Store as store_trait
use Rattle.ewig_shell.specs.declared.store_fault.StoreFault.{StoreFault}
use Rattle.ewig_shell.specs.declared.store_fault.StoreFault.TheVariants as fault
use Rattle.ewig_shell.specs.Faults.{change_fault}
use Rattle.ewig_shell.specs.Step.{MayLack, ObeysOn, shown_store, stored_reply, refusal_of}
use Rattle.ewig_shell.proofs.ReplyLemmas.{other-reply}
use Rattle.ewig_shell.proofs.StepLemmas.{Obeys-lacks_so, ObeysOn-refused, CountsStore-none, may_lack, fault-is}
use Rattle.ewig_shell.proofs.SaveLemmas.{IsStorable, StoresPool, says-saves}

-- so many spaces are too many, or not
many : (n : ℕ) → MOST_SPACES < n → nat_le n MOST_SPACES ≡ false
many n more = grind (arith, nat_tests)

module _ (W : Workspace) (n : ℕ) (file : Bytes) where
  pub indent-inside : in_batch W ≡ true → answer W (indent n file) ≡ Err why.Batch
  unfolding answer
  indent-inside e = rw e refl

  pub dedent-inside : in_batch W ≡ true → answer W (dedent n file) ≡ Err why.Batch
  unfolding answer
  dedent-inside e = rw e refl

  module _ (free : in_batch W ≡ false) where
    pub indent-past : MOST_SPACES < n → answer W (indent n file) ≡ Err why.Range
    unfolding answer
    indent-past more = let e = many n more in rw free (rw e refl)

    pub dedent-past : MOST_SPACES < n → answer W (dedent n file) ≡ Err why.Range
    unfolding answer
    dedent-past more = let e = many n more in rw free (rw e refl)

    pub dedent-granted : n ≤ MOST_SPACES → answer W (dedent n file) ≡ Ok elsewhere
    unfolding answer
    dedent-granted few = let e = le-leb n MOST_SPACES few in rw free (rw e refl)

    indent-granted : n ≤ MOST_SPACES → all_lines_pass (has_room_for n) W ≡ true → answer W (indent n file) ≡ Ok elsewhere
    unfolding answer
    indent-granted few room = let e = le-leb n MOST_SPACES few in rw free (rw e (rw room refl))

    indent-long : n ≤ MOST_SPACES → all_lines_pass (has_room_for n) W ≡ false → answer W (indent n file) ≡ Err why.Limit
    unfolding answer
    indent-long few room = let e = le-leb n MOST_SPACES few in rw free (rw e (rw room refl))

    indent-may : n ≤ MOST_SPACES → MayLack W (indent n file)
    indent-may few = elim (cases_Bool (all_lines_pass (has_room_for n) W)) [
      | inl room ↦ inl (may_lack (indent n file) W refl (indent-granted few room))
      | inr none ↦ inr (refl, indent-long few none)
    ]

    -- memory ran out, whether or not a line is too long
    pub indent-lacks : {C : Type 0} {D : store_trait.Ghosts C} {space : SpaceView} {store : C} → n ≤ MOST_SPACES → StandsFor space.pool W → (result : Result (Unit {0}) StoreFault) → IsErrAnd result (λ (f : StoreFault). f ≡ fault.Memory) →
        ObeysOn (indent n file) D space store (stored_reply result) space store
    indent-lacks {D = D} {store = store} few stands result lacks =
        let is : stored_reply result ≡ refusal_of (codes "memory") = ap stored_reply (fault-is result fault.Memory lacks) in
        record { obeys = Obeys-lacks_so W stands (indent-may few) is refl (shown_store D store); counts = CountsStore-none (other-reply is refl) }

    module _ (space : SpaceView) (few : n ≤ MOST_SPACES) (stands : StandsFor space.pool W) (needs : IndentNeedsRoom) (bits : space.pool.bits ≤ CODE_BITS) (valid : IsValid space.pool) where
      room-is : KeepsCells (indented n) space.pool ↔ (all_lines_pass (has_room_for n) W ≡ true)
      room-is = needs present_rules space.pool W n (omega (arith, bits)) (four-roots space.pool W stands free) valid stands

      indent-fails : {C : Type 0} {D : store_trait.Ghosts C} {store : C} (why_not : ChangeFault) → (why_not ≡ change.Long → KeepsCells (indented n) space.pool → ⊥) → ObeysOn (indent n file) D space store (stored_reply (Err (change_fault why_not))) space store
      indent-fails change.Long long = ObeysOn-refused (indent n file) W why.Limit stands (elim (cases_Bool (all_lines_pass (has_room_for n) W)) [
        | inl fits ↦ absurd (long refl (room-is.1 fits))
        | inr none ↦ indent-long few none
      ])
      indent-fails change.Memory long = indent-lacks few stands (Err fault.Memory) refl

      -- a line is too long, or memory ran out
      pub indent-refused : {C : Type 0} {D : store_trait.Ghosts C} {store : C} (why_not : ChangeFault) (result : Result (Unit {0}) StoreFault) → (why_not ≡ change.Long → KeepsCells (indented n) space.pool → ⊥) → IsErrAnd result (λ (f : StoreFault). f ≡ change_fault why_not) →
          ObeysOn (indent n file) D space store (stored_reply result) space store
      indent-refused {D = D} {store} why_not result long is =
          subst (λ (r : Result (Unit {0}) StoreFault). ObeysOn (indent n file) D space store (stored_reply r) space store) (sym (fault-is result (change_fault why_not) is)) (indent-fails why_not long)

      -- the pool with its lines moved is stored
      pub indent-stores : KeepsCells (indented n) space.pool → StoresPool (indent n file) W space file (mapped (indented n) space.pool)
      indent-stores lines = record {
        stands = stands;
        granted = indent-granted few (room-is.0 lines);
        wants = refl;
        uses = refl;
        says = says-saves (mapped (indented n)) file space;
      }

pub dedent-stores : {space : SpaceView} (W : Workspace) (n : ℕ) (file : Bytes) → in_batch W ≡ false → n ≤ MOST_SPACES → StandsFor space.pool W → StoresPool (dedent n file) W space file (mapped (dedented n) space.pool)
dedent-stores {space} W n file free few stands = record {
  stands = stands;
  granted = dedent-granted W n file free few;
  wants = refl;
  uses = refl;
  says = says-saves (mapped (dedented n)) file space;
}

-- ## The mapped pool

module _ (change : Bytes → Bytes) (P : Pool) where
  mapped-history : (mapped change P).history ≡ P.history
  unfolding mapped pool
  mapped-history = refl

  mapped-four : length P.roots ≡ 4 → length (mapped change P).roots ≡ 4
  unfolding mapped pool
  mapped-four four = length-map P.roots _ ∙ four

-- its document is one that a load takes, where each line stays one
pub mapped-storable : (change : Bytes → Bytes) (P : Pool) (W : Workspace) → MappedIsValid → StandsFor P W → in_batch W ≡ false → P.bits ≤ CODE_BITS → IsValid P → P.history ≤ MOST_HISTORY → KeepsCells change P → IsStorable (mapped change P)
mapped-storable change P W keeps-valid stands free bits valid within lines = record {
  valid = keeps-valid present_rules change P (omega (arith, bits)) valid lines;
  within = subst (λ (n : ℕ). n ≤ MOST_HISTORY) (sym (mapped-history change P)) within;
  four = mapped-four change P (four-roots P W stands free);
}
