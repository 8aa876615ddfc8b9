use Rattle.std.proofs.Common.{◌≡◌, ℕ, Some, ◌++◌, ◌+◌, length, take}
use Rattle.std.specs.Prelude.{option_map}
use Rattle.node_heap.specs.Forms.{Forms}
use Rattle.pool_text.specs.Rows.{Bytes}
use Rattle.pool_check.specs.Keeping.{code_at, codes_by, AreKept}
use Rattle.pool_check.proofs.trie_row.add_codes.Given as goal

abbrev pub invariant-loop-link : goal.invariant-loop-link
invariant-loop-link l =
    (length l.codes.items ≡ length l.fn.codes.items + l.link-index) × ((n : ℕ) (F : Forms Bytes) (code : Bytes → ℕ) → AreKept n F code l.fn.deepest l.fn.kept → option_map (λ cs. l.fn.codes.items ++ cs) (codes_by (code_at n F code l.fn.deepest l.fn.part l.fn.depth) (take l.link-index l.links)) ≡ Some l.codes.items)
