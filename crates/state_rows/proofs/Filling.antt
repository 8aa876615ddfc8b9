-- Cells that are made of texts one by one.
use Rattle.std.proofs.Common.{◌≡◌, ℕ, ◌+◌, ◌≤◌, List, [], ◌∷◌, ◌++◌, option_map, ap, sym, subst, ◌∙◌, arith}
use Rattle.elem_core.specs.Cell.{IsCell}
use Rattle.node_heap.specs.Forms.{cell, form_of}
use Rattle.node_heap.specs.Heap.{Heap, row_at, form_at, hold_count, IsGraph}
use Rattle.node_heap.specs.Calls.{Extends, Adds, Makes, Builds}
use Rattle.node_heap.proofs.Frames.{Extends-form}
use Rattle.node_heap.proofs.BuildLemmas.{Builds-beside, Builds-cell, Builds-more}
use Rattle.rrb_core.specs.Vector.{IsGoodVector}
use Rattle.rrb_core.proofs.Stays.{form-live}
use Rattle.champ_kinds.proofs.ZipLemmas.{zip-as}
use Rattle.shell_terms.specs.Edit.{Bytes}
use Rattle.state_rows.specs.Reading.{IsText}
use Rattle.state_rows.specs.InHeap.{AreTextsIn}
use Rattle.state_rows.proofs.Zips.{zip-push}

-- a text stays where every row stays
text-stays : {old new : Heap Bytes} (bits : ℕ) → Extends old new → (l : ℕ) (text : Bytes) → IsText (form_at old) (IsGoodVector old) bits l text → IsText (form_at new) (IsGoodVector new) bits l text
text-stays {old} bits more l text is = record { row = Extends-form more l (form-live (row_at old l) _ is.row) ∙ is.row; line = is.line }

pub texts-stay : {old new : Heap Bytes} (bits : ℕ) → Extends old new → (ls : List ℕ) (texts : List Bytes) → AreTextsIn old bits ls texts → AreTextsIn new bits ls texts
texts-stay {old} {new} bits more ls texts are =
    zip-as (IsText (form_at old) (IsGoodVector old) bits) (IsText (form_at new) (IsGoodVector new) bits) (text-stays bits more) ls texts are

-- one cell more
pub cells-more : {old mid new : Heap Bytes} {ls : List ℕ} {n l : ℕ} {text : Bytes} (longer : List ℕ) (m : ℕ) → longer ≡ ls ++ l ∷ [] → n + 1 ≤ m → Builds old mid [] ls n 0 → Adds mid new l (cell text) → Makes mid new 1 0
    → hold_count new ≡ hold_count mid + 1 → IsGraph new → Extends mid new → Builds old new [] longer m 0
cells-more {old} {mid} {new} longer m is more b adds makes total graph extends =
    subst (λ (ks : List ℕ). Builds old new [] ks m 0) (sym is) (Builds-more m 0 (Builds-beside b (Builds-cell adds makes total graph extends)) more (omega arith))

pub texts-more : {mid new : Heap Bytes} {l : ℕ} {text : Bytes} (bits : ℕ) (ls longer : List ℕ) (texts : List Bytes) → longer ≡ ls ++ l ∷ [] → Adds mid new l (cell text) → Extends mid new → IsCell text
    → AreTextsIn mid bits ls texts → AreTextsIn new bits longer (texts ++ text ∷ [])
texts-more {mid} {new} {l} {text} bits ls longer texts is adds extends line are =
    subst (λ (ks : List ℕ). AreTextsIn new bits ks (texts ++ text ∷ [])) (sym is)
    (zip-push (IsText (form_at new) (IsGoodVector new) bits) ls texts l text (texts-stay bits extends ls texts are) (record { row = ap (λ r. option_map form_of r) adds.here; line = line }))
