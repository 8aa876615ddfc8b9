-- What a pool is carried to.
use Rattle.std.specs.Prelude.{◌≡◌, ℕ, ◌<◌, Bool, true, false, map, Option, Some, option_map}
use Rattle.std.specs.Ordering.{nat_cmp}
use Rattle.std.specs.Cmp.Lexicographic.{slice_cmp}
use Rattle.node_heap.specs.Forms.{Form, Forms, node, trie, chain}
use Rattle.champ_trie.specs.Trie.{IsCanonTo, code_by}
use Rattle.pool_text.specs.Rows.{Bytes}
use Rattle.pool_text.specs.Rules.{Rules}
use Rattle.pool_text.specs.Pool.{forms_in, row_count, relink, settings_by, pool}
use Rattle.pool_text.specs.Renaming.{IsRooted}
use Rattle.pool_text.specs.declared.pool.Pool.{Pool}
use Rattle.pool_text.specs.declared.rules.TheConstants.{MOST_HISTORY}
use Rattle.pool_check.specs.Tries.{entries_below}
use Rattle.pool_check.specs.Kinds.{is_trie_root}
use Rattle.pool_check.specs.Readings.{moved}

-- a row of a trie: a trie row or a chain row
abbrev pub is_of_trie : {K : Type 0} → Option (Form K) → Bool
is_of_trie (Some (node (trie _ _ _) _)) = true
is_of_trie (Some (node chain _)) = true
is_of_trie _ = false

-- In G stand the images of the pool's rows. A row that is none of a trie has an image of its own, with the images of its links.
-- A trie row of depth 0 has the canonical trie of its entries' images. No row of a trie stands twice.
pub record AreImages (rules : Rules) (bits : ℕ) (P : Pool) (image : ℕ → ℕ) (G : Forms Bytes) : Type 0 where
  pub own : (l : ℕ) → l < row_count P → is_of_trie (forms_in P l) ≡ false → G (image l) ≡ option_map (relink image) (forms_in P l)
  pub apart : (k l : ℕ) → k < row_count P → l < row_count P → is_of_trie (forms_in P k) ≡ false → is_of_trie (forms_in P l) ≡ false → image k ≡ image l → k ≡ l
  pub tries : (l : ℕ) → l < row_count P → is_trie_root (forms_in P l) ≡ true
      → IsCanonTo (slice_cmp nat_cmp) (code_by rules.code_of bits) rules.deepest G (image l) (map (moved image) (entries_below (row_count P) (forms_in P) l))
  pub once : (k l : ℕ) → is_of_trie (G k) ≡ true → G k ≡ G l → k ≡ l

-- Q is P, carried over to these rules and so many code bits: the pool of the images from those of the roots. Undo may keep as many
-- states as it can.
pub record IsCarried (rules : Rules) (bits : ℕ) (P Q : Pool) : Type 0 where
  pub image : ℕ → ℕ
  pub forms : Forms Bytes
  pub many : ℕ
  pub images : AreImages rules bits P image forms
  pub rooted : IsRooted many forms (map image P.roots)
  pub same : Q ≡ pool many forms (map image P.roots) (settings_by bits MOST_HISTORY)
