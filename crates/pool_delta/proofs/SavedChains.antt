-- A chain that saves wrote stands for the pool of the last save.
use Rattle.std.proofs.Common.{◌≡◌, ℕ, cond, List, [], ◌∷◌, Option, Some, None, refl, ap, sym, ◌∙◌}
use Rattle.std.specs.Prelude.{not, option_and_then}
use Rattle.std.specs.Option.{option_or}
use Rattle.std.proofs.lemmas.Bool.{eq-eqb}
use Rattle.std.proofs.lemmas.Option.{none-some, option_and_then_some}
use Rattle.serde_json.specs.Data.{Data}
use Rattle.node_heap.specs.Forms.{Form}
use Rattle.pool_text.specs.Rows.{Bytes}
use Rattle.pool_text.specs.Rules.{present_rules, rules_of}
use Rattle.pool_text.specs.Pool.{at_present_version, pool}
use Rattle.pool_text.specs.Renaming.{RenamedHaveOnePool}
use Rattle.pool_text.specs.Document.{DocumentParts, parts_in, rows_in, pool_by, pool_from, pool_in, value_in, pool_in_bytes, parts_damage_by, parts_damage, value_damage, bytes_damage, or_damage, present_parts_damage, present_value_damage, present_bytes_damage}
use Rattle.pool_text.specs.declared.pool.Pool.{Pool}
use Rattle.pool_text.specs.declared.rules.TheConstants.{PRESENT_VERSION}
use Rattle.pool_text.specs.declared.damage.Damage.{Damage}
use Rattle.pool_text.specs.declared.damage.Damage.TheVariants.{Json, Form as FormDamage, Version}
use Rattle.pool_text.proofs.DocumentBack.{mapped}
use Rattle.pool_check.specs.Rows.{rows_in_range_by, links_lead_back, texts_are_lines}
use Rattle.pool_check.specs.Vectors.{vectors_stand}
use Rattle.pool_check.specs.Tries.{tries_stand_by}
use Rattle.pool_check.specs.Kinds.{roots_are_of_kind, undo_fits}
use Rattle.pool_check.specs.Damages.{IsValid, damage, damage_by, own_damage, document_damage}
use Rattle.pool_check.proofs.DocumentLaw.{valid-document}
use Rattle.pool_check.proofs.OwnRows.{of-itself}
use Rattle.pool_delta.specs.Chains.{IsChain, chain_pool, with_part, start_damage, chain_with, chain_with_all, damage_with_all}
use Rattle.pool_delta.specs.Delta.{delta}
use Rattle.pool_delta.specs.Laws.{CanBegin, IsPartSaved, AreSaved, last_of, SavedChainsStand}
use Rattle.pool_delta.proofs.DeltaStands.{delta-stands-for}
use Rattle.pool_delta.proofs.ChainLaws.{open-passed, passed-open, goes-on}
use Rattle.pool_delta.proofs.PartsBack.{delta-undamaged}

-- ## The first document

-- a document of which the pool is read has the pool's version
part-version : (p : DocumentParts) (Q : Pool) → pool_from p ≡ Some Q → p.version ≡ Q.version
part-version p Q e =
    option_and_then_some (pool_by p) (rules_of p.version) Q e (λ rules _ by.
    mapped (λ (rows : List (Form Bytes)). record { bits = p.bits; version = p.version; history = p.history; rows = rows; roots = p.roots }) (rows_in p rules) Q by (λ rows _ is. ap (λ (R : Pool). R.version) is))

-- a document of which the pool is read, and has the version that is written, has no other damage as the first of a chain
present-none : (bits : ℕ) (bytes : Bytes) (Q : Pool) → pool_in_bytes bytes ≡ Some Q → Q.version ≡ PRESENT_VERSION → bytes_damage bits bytes ≡ None → present_bytes_damage bits bytes ≡ None
unfolding present_bytes_damage present_value_damage bytes_damage value_damage pool_in
present-none bits bytes Q read version whole = by_value (value_in bytes) read whole
  where
    by_parts : (o : Option DocumentParts) → option_and_then pool_from o ≡ Some Q → or_damage FormDamage (parts_damage bits) o ≡ None → or_damage FormDamage (present_parts_damage bits) o ≡ None
    by_parts None e h = absurd (none-some Q e)
    by_parts (Some p) e h =
        let v : p.version ≡ PRESENT_VERSION = part-version p Q e ∙ version in
        ap (λ b. cond (not b) (Some Version) (parts_damage_by bits p present_rules)) (eq-eqb p.version PRESENT_VERSION v)
        ∙ sym (ap (or_damage Version (parts_damage_by bits p)) (ap rules_of v)) ∙ h

    by_value : (o : Option Data) → option_and_then (λ d. option_and_then pool_from (parts_in d)) o ≡ Some Q
        → or_damage Json (λ d. or_damage FormDamage (parts_damage bits) (parts_in d)) o ≡ None → or_damage Json (λ d. or_damage FormDamage (present_parts_damage bits) (parts_in d)) o ≡ None
    by_value None e h = absurd (none-some Q e)
    by_value (Some d) e h = by_parts (parts_in d) e h

both-none : (a b : Option Damage) → option_or a b ≡ None → (a ≡ None) × (b ≡ None)
both-none None b e = (refl, e)
both-none (Some d) b e = absurd (let some : Some d ≡ None = e in cc)

start-undamaged : (bits : ℕ) (bytes : Bytes) (Q : Pool) → pool_in_bytes bytes ≡ Some Q → Q.version ≡ PRESENT_VERSION → document_damage bits bytes ≡ None → start_damage bits bytes ≡ None
unfolding start_damage document_damage
start-undamaged bits bytes Q read version whole =
    let both = both-none (bytes_damage bits bytes) (option_and_then own_damage (pool_in_bytes bytes)) whole in
    ap (λ o. option_or o (option_and_then damage (pool_in_bytes bytes))) (present-none bits bytes Q read version both.0)
    ∙ ap (option_and_then damage) read
    ∙ sym (ap (option_and_then (λ rules. damage_by rules Q)) (ap rules_of version))
    ∙ sym (ap (option_and_then own_damage) read) ∙ both.1

-- a whole save begins a chain
begins-chain : (P : Pool) → CanBegin P → IsChain (at_present_version P)
unfolding rows_in_range_by links_lead_back texts_are_lines vectors_stand tries_stand_by roots_are_of_kind undo_fits
begins-chain P is = record {
  version = refl;
  bits = is.bits;
  history = is.history;
  roots = is.roots;
  in_range = is.valid.in_range;
  passes = passed-open present_rules (at_present_version P) (record {
    lead_back = is.valid.lead_back;
    lines = is.valid.lines;
    vectors = is.valid.vectors;
    tries = is.valid.tries;
    kinds = is.valid.kinds;
    fits = is.valid.fits;
  });
}

begins-pool : (P : Pool) → IsValid P → chain_pool (at_present_version P) ≡ at_present_version P
unfolding pool
begins-pool P valid = ap at_present_version (of-itself P valid)

-- ## Those after it

module _ (one : RenamedHaveOnePool) where
  -- of a chain that stands for a pool
  pub record GoesOn (C : Pool) (more : List Bytes) (D Q : Pool) : Type 0 where
    pub undamaged : damage_with_all C more ≡ None
    pub chain : chain_with_all C more ≡ Some D
    pub is_chain : IsChain D
    pub pool : chain_pool D ≡ at_present_version Q

  go-on : (C P : Pool) (Ps : List Pool) (more : List Bytes) (D : Pool) → IsChain C → chain_pool C ≡ at_present_version P → AreSaved C Ps more D → GoesOn C more D (last_of P Ps)
  go-on C P [] [] D is stands saved = record { undamaged = refl; chain = ap Some (sym saved); is_chain = chain-same C D saved is; pool = ap chain_pool saved ∙ stands }
    where
      chain-same : (C D : Pool) → D ≡ C → IsChain C → IsChain D
      chain-same C D same is = rw same is
  go-on C P [] (bytes ∷ more) D is stands saved = absurd saved
  go-on C P (Q ∷ Qs) [] D is stands saved = absurd saved
  go-on C P (Q ∷ Qs) (bytes ∷ more) D is stands saved =
      let now : IsPartSaved C Q bytes = saved.0 in
      let part = delta-undamaged C Q is now.follows bytes now.reads in
      let E : Pool = with_part C (delta C Q) in
      let longer : IsChain E = goes-on C Q is now.follows in
      let rest = go-on E Q Qs more D longer (delta-stands-for C Q (open-passed present_rules C is.passes).lead_back now.follows.valid.lead_back one present_rules now.follows.valid now.follows.bits) saved.1 in
      record {
        undamaged =
            ap (λ o. option_or o (option_and_then (λ F. damage_with_all F more) (chain_with C bytes))) part.undamaged
            ∙ ap (option_and_then (λ F. damage_with_all F more)) part.with_it ∙ rest.undamaged;
        chain = ap (option_and_then (λ F. chain_with_all F more)) part.with_it ∙ rest.chain;
        is_chain = rest.is_chain;
        pool = rest.pool;
      }

  pub saved-chains-stand : SavedChainsStand
  saved-chains-stand P Ps first more D saved are =
      let is = valid-document P first saved.reads saved.begins.history saved.begins.roots saved.begins.valid in
      let rest = go-on (at_present_version P) P Ps more D (begins-chain P saved.begins) (begins-pool P saved.begins.valid) are in
      record {
        undamaged =
            ap (λ o. option_or o (option_and_then (λ C. damage_with_all C more) (pool_in_bytes first))) (start-undamaged P.bits first (at_present_version P) is.read refl is.undamaged)
            ∙ ap (option_and_then (λ C. damage_with_all C more)) is.read ∙ rest.undamaged;
        chain = ap (option_and_then (λ C. chain_with_all C more)) is.read ∙ rest.chain;
        is_chain = rest.is_chain;
        pool = rest.pool;
      }
