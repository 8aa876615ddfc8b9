-- Laws of chains and of what a pool has more than a chain.
use Rattle.std.specs.Prelude.{◌≡◌, ◌≤◌, ℕ, true, List, [], ◌∷◌, length, None, Some}
use Rattle.std.specs.List.{list_all}
use Rattle.elem_core.specs.declared.codes.TheConstants.{CODE_BITS}
use Rattle.pool_text.specs.Rows.{Bytes, is_in_range}
use Rattle.pool_text.specs.Pool.{at_present_version}
use Rattle.pool_text.specs.Document.{document, text, value_in}
use Rattle.pool_text.specs.declared.pool.Pool.{Pool}
use Rattle.pool_text.specs.declared.rules.TheConstants.{MOST_HISTORY}
use Rattle.pool_check.specs.Rows.{links_lead_back}
use Rattle.pool_check.specs.Damages.{IsValid}
use Rattle.pool_delta.specs.Parts.{Part, part_document, part_text, part_in}
use Rattle.pool_delta.specs.Chains.{IsChain, chain_pool, with_part, more_damage, chain_with, chain_damage, chain_in}
use Rattle.pool_delta.specs.Delta.{delta}

-- a pool that can follow a chain: valid, of four roots, with the chain's bits
pub record CanFollow (C P : Pool) : Type 0 where
  pub valid : IsValid P
  pub bits : C.bits ≡ P.bits
  pub roots : length P.roots ≡ 4
  pub history : P.history ≤ MOST_HISTORY

-- a chain stands for a valid pool
abbrev pub ChainsStand : Type 0
ChainsStand = (C : Pool) → IsChain C → IsValid (chain_pool C)

-- a chain of rows that lead back, followed by what a valid pool has more, stands for the pool
abbrev pub DeltaStands : Type 0
DeltaStands = (C P : Pool) → links_lead_back C ≡ true → IsValid P → C.bits ≡ P.bits → chain_pool (with_part C (delta C P)) ≡ at_present_version P

-- and is a chain
abbrev pub DeltaGoesOn : Type 0
DeltaGoesOn = (C P : Pool) → IsChain C → CanFollow C P → IsChain (with_part C (delta C P))

-- bytes that read as the document of what the pool has more have no damage after the chain, and say just that
pub record IsPartOf (C P : Pool) (bytes : Bytes) : Type 0 where
  pub undamaged : more_damage C bytes ≡ None
  pub with_it : chain_with C bytes ≡ Some (with_part C (delta C P))

abbrev pub DeltasAreUndamaged : Type 0
DeltasAreUndamaged = (C P : Pool) (bytes : Bytes) → IsChain C → CanFollow C P → value_in bytes ≡ Some (part_document (delta C P)) → IsPartOf C P bytes

-- a part that is within the greatest bound, has four roots and rows in range reads back as itself
abbrev pub PartsReadBack : Type 0
PartsReadBack = (p : Part) → p.history ≤ MOST_HISTORY → length p.roots ≡ 4 → list_all is_in_range p.rows ≡ true → part_in (part_document p) ≡ Some p

-- ## Chains that are written by saves

-- a pool that a whole save stores: valid, of four roots
pub record CanBegin (P : Pool) : Type 0 where
  pub valid : IsValid P
  pub bits : P.bits ≤ CODE_BITS
  pub roots : length P.roots ≡ 4
  pub history : P.history ≤ MOST_HISTORY

-- the bytes are the text of the pool
pub record IsSaved (P : Pool) (bytes : Bytes) : Type 0 where
  pub begins : CanBegin P
  pub text : bytes ≡ text P
  pub reads : value_in bytes ≡ Some (document P)

-- the bytes are the text of what the pool has more than the chain
pub record IsPartSaved (C P : Pool) (bytes : Bytes) : Type 0 where
  pub follows : CanFollow C P
  pub text : bytes ≡ part_text (delta C P)
  pub reads : value_in bytes ≡ Some (part_document (delta C P))

-- each of the pools was stored in turn as what it has more than the chain before, and this chain came of it
abbrev pub AreSaved : Pool → List Pool → List Bytes → Pool → Type 0
AreSaved C [] [] D = D ≡ C
AreSaved C (P ∷ Ps) (bytes ∷ more) D = IsPartSaved C P bytes × AreSaved (with_part C (delta C P)) Ps more D
AreSaved C _ _ D = ⊥

-- the last of the pools
abbrev pub last_of : Pool → List Pool → Pool
last_of P [] = P
last_of P (Q ∷ Qs) = last_of Q Qs

-- a chain of these documents is undamaged, and stands for the pool
pub record StandsFor (bits : ℕ) (first : Bytes) (more : List Bytes) (D P : Pool) : Type 0 where
  pub undamaged : chain_damage bits first more ≡ None
  pub chain : chain_in first more ≡ Some D
  pub is_chain : IsChain D
  pub pool : chain_pool D ≡ at_present_version P

-- a chain that a whole save and then partial saves wrote stands for the pool of the last save
abbrev pub SavedChainsStand : Type 0
SavedChainsStand =
    (P : Pool) (Ps : List Pool) (first : Bytes) (more : List Bytes) (D : Pool) → IsSaved P first → AreSaved (at_present_version P) Ps more D → StandsFor P.bits first more D (last_of P Ps)
