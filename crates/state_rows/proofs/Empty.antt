-- What the first rows of a space stand for.
use Rattle.std.proofs.Common.{◌≡◌, ℕ, List, [], Some, option_map, None, is_some, length, ap, sym, subst, ◌∙◌, arith}
use Rattle.std.specs.List.{AllZip}
use Rattle.std.specs.FinMap as finite
use Rattle.std.proofs.lemmas.List.Elements.{All-nil}
use Rattle.elem_core.specs.Naming.{IsName}
use Rattle.elem_core.specs.Codes.{text_code}
use Rattle.node_heap.specs.Forms.{Forms, node, leaf, trie, form_of, links_of}
use Rattle.node_heap.specs.declared.row.Head.TheVariants.{Leaf}
use Rattle.node_heap.specs.Heap.{Heap, row_at, form_at}
use Rattle.rrb_core.specs.Seq.{form_height, height_in, seq_at, IsWell}
use Rattle.rrb_core.specs.Vector.{HasSums, elements, IsGoodVector}
use Rattle.champ_chain.specs.Entry.{Entry}
use Rattle.champ_trie.specs.Trie.{IsCanon, code_by}
use Rattle.champ_trie.proofs.BitLemmas.{has-none, rank-none}
use Rattle.champ_trie.proofs.PlaceLemmas.{place-empty}
use Rattle.champ_trie.proofs.CallerLemmas.{canon-empty}
use Rattle.champ_kinds.specs.Kinds.{IsKeyCell}
use Rattle.shell_terms.specs.Edit.{Bytes}
use Rattle.state_rows.specs.Reading.{StandsIfThere, IsVectorOver, IsNamed, AreNames}
use Rattle.state_rows.proofs.Keys.{by_bytes}

-- a leaf without links is the empty vector
module _ {T : Type 0} (h : Heap T) (l : ℕ) (here : row_at h l ≡ Some (node Leaf [])) where
  leaf-form : form_at h l ≡ Some (node leaf [])
  leaf-form = ap (option_map form_of) here

  leaf-low : height_in (form_at h) l ≡ 0
  leaf-low = ap form_height leaf-form

  pub leaf-empty : elements h l ≡ []
  unfolding seq_at
  leaf-empty = ap (λ n. seq_at (form_at h) n l) leaf-low ∙ ap links_of leaf-form

  leaf-well : IsWell (form_at h) 0 l
  unfolding IsWell
  leaf-well = record {
    kind = leaf-form ∙ ap (λ ks. Some (node leaf ks)) (sym (ap links_of leaf-form));
    most = omega (arith, ap (λ r. length (links_of r)) leaf-form);
  }

  leaf-sums : HasSums h 0 l
  unfolding HasSums
  leaf-sums = tt

  pub leaf-good : IsGoodVector h l
  leaf-good = record {
    shape = record {
      well = subst (λ n. IsWell (form_at h) n l) (sym leaf-low) leaf-well;
      two = λ high. absurd (omega (arith, high, leaf-low));
      short = omega (arith, ap length leaf-empty);
      low = omega (arith, leaf-low);
    };
    sums = subst (λ n. HasSums h n l) (sym leaf-low) leaf-sums;
  }

-- and so it stands for no values
pub vector-empty : {X : Type 0} (h : Heap Bytes) (l : ℕ) → row_at h l ≡ Some (node Leaf []) → (bits : ℕ) (R : ℕ → X → Type 0) → IsVectorOver (form_at h) (IsGoodVector h) bits R l []
vector-empty h l here bits R = record { vector = leaf-good h l here; values = subst (λ (ks : List ℕ). AllZip R ks []) (sym (leaf-empty h l here)) tt }

-- a trie row without links is the trie of no entries
pub trie-empty : (F : Forms Bytes) (l : ℕ) → F l ≡ Some (node (trie 0 0 0) []) → (bits : ℕ) → IsCanon by_bytes (code_by text_code bits) F l []
trie-empty F l row bits =
    canon-empty by_bytes (code_by text_code bits) F l 0 0 []
    (record { row = row; sets = record { entries_small = omega arith; nodes_small = omega arith; apart = λ p low has. has-none p; count = omega (arith, rank-none 32) } })
    (λ p. place-empty 0 0 [] p (has-none p) (has-none p))

-- the trie of no entries is the map and the set of no names
pub named-empty : {X : Type 0} (F : Forms Bytes) (V : ℕ → Type 0) (bits : ℕ) (R : ℕ → X → Type 0) (l : ℕ) → IsCanon by_bytes (code_by text_code bits) F l [] → IsNamed F V bits R l finite.empty
named-empty F V bits R l is = record {
  entries = [];
  bindings = [];
  trie = record { trie = is; names = All-nil (λ (e : Entry Bytes). IsName e.key) };
  pairs = tt;
  reads = λ name. subst (StandsIfThere R None) (sym (finite.get-empty by_bytes name)) tt;
}

pub names-empty : (F : Forms Bytes) (V : ℕ → Type 0) (bits : ℕ) (l : ℕ) → IsCanon by_bytes (code_by text_code bits) F l [] → AreNames F V bits l finite.empty
names-empty F V bits l is = record {
  entries = [];
  trie = record { trie = is; names = All-nil (λ (e : Entry Bytes). IsName e.key) };
  cells = All-nil (IsKeyCell F);
  reads = λ name. ap is_some (sym (finite.get-empty by_bytes name));
}
