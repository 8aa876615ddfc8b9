-- Heights and links where rows stay, and steps that make nothing in vain.
use Rattle.std.proofs.Common.{◌≡◌, ℕ, ◌<◌, ◌≤◌, List, get_or, ap, arith}
use Rattle.std.specs.Prelude.{option_map}
use Rattle.std.specs.List.{All, flat_map}
use Rattle.node_heap.specs.Forms.{form_of, links_of}
use Rattle.node_heap.specs.Links.{here}
use Rattle.node_heap.specs.Heap.{Heap, links_at, holds_at}
use Rattle.node_heap.specs.Calls.{Unchanged, Extends, KeepsHeld}
use Rattle.node_heap.proofs.Frames.{Extends-form}
use Rattle.rrb_core.specs.Seq.{form_height}
use Rattle.rrb_core.specs.Vector.{height_at, IsGoodVector}
use Rattle.rrb_core.proofs.ClosedRows.{Stays}
use Rattle.rrb_core.proofs.Lists.{flat_map-same}
use Rattle.rrb_core.proofs.Stays.{well-live, form-stays, links-stay, below-stays}
use Rattle.rrb_join.specs.Answers.{NeedsTwoRows, RisesAtNeed}

module _ {T : Type 0} where
  pub unchanged-height : {old new : Heap T} → Unchanged old new → (l : ℕ) → height_at new l ≡ height_at old l
  unchanged-height same l = ap (λ r. form_height (option_map form_of r)) (same.rows l)

  pub unchanged-links : {old new : Heap T} → Unchanged old new → (l : ℕ) → links_at new l ≡ links_at old l
  unchanged-links same l = ap links_of (same.rows l)

  pub extended-height : {old new : Heap T} → Extends old new → (l : ℕ) → IsGoodVector old l → height_at new l ≡ height_at old l
  extended-height {old} ext l good = ap form_height (Extends-form ext l (well-live old (height_at old l) l good.shape.well))

  -- a vector that is no higher has no need of two rows
  pub no-higher : {h : Heap T} {n l : ℕ} → height_at h l ≤ n → RisesAtNeed h n l
  no-higher low = record { most = omega (arith, low); need = λ up. absurd (omega (arith, low, up)) }

  pub rises-more : {h : Heap T} {n m l : ℕ} → RisesAtNeed h n l → n ≤ m → RisesAtNeed h m l
  rises-more r le = record { most = omega (arith, r.most, le); need = λ up. r.need (omega (arith, up, le)) }

-- what stays
module _ {T : Type 0} {P : ℕ → Type 0} {old new : Heap T} (s : Stays P old new) where
  pub height-stays : (l : ℕ) → P l → height_at new l ≡ height_at old l
  height-stays l p = ap form_height (form-stays s l p)

  pub all-links-stay : (ks : List ℕ) → All P ks → flat_map (links_at new) ks ≡ flat_map (links_at old) ks
  all-links-stay ks named = flat_map-same (links_at new) (links_at old) ks (λ k d b. links-stay s (get_or ks k d) (named k d b))

  pub rises-stays : {n : ℕ} (l : ℕ) → P l → RisesAtNeed old n l → RisesAtNeed new n l
  rises-stays {n} l p r =
      let height : height_at new l ≡ height_at old l = height-stays l p in
      let links : links_at new l ≡ links_at old l = links-stay s l p in
      let all : flat_map (links_at new) (links_at old l) ≡ flat_map (links_at old) (links_at old l) = all-links-stay (links_at old l) (s.closed l p) in
      let need : n < height_at old l → NeedsTwoRows new l = λ up. record { two = rw links (r.need up).two; more = rw (links, all) (r.need up).more } in
      record { most = rw height r.most; need = λ up. need (rw height at up) }

module _ {T : Type 0} {old new : Heap T} {spent : ℕ → ℕ} (keeps : KeepsHeld spent old new) (l : ℕ) (held : spent l < holds_at old l) where
  -- a vector that is still held stays as high
  pub height-held : height_at new l ≡ height_at old l
  height-held = height-stays (below-stays {old = old} {new = new} l (keeps.kept l held)) l (here l)

  pub rises-held : {n : ℕ} → RisesAtNeed old n l → RisesAtNeed new n l
  rises-held r = rises-stays (below-stays {old = old} {new = new} l (keeps.kept l held)) l (here l) r
