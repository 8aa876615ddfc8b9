-- What a merge of two states takes, and how many rows it needs.
use Rattle.std.specs.Prelude.{ℕ, List}
use Rattle.std.specs.Ordering.{nat_cmp}
use Rattle.std.specs.Cmp.Lexicographic.{slice_cmp}
use Rattle.elem_core.specs.Codes.{text_code}
use Rattle.node_heap.specs.Forms.{Forms}
use Rattle.node_heap.specs.Heap.{Heap, form_at}
use Rattle.node_heap.specs.InPlace.{child_at}
use Rattle.champ_chain.specs.Entry.{Entry}
use Rattle.set_merge.specs.Merge.{union, both, less}
use Rattle.set_merge.specs.Need.{union_need, both_need, less_need}
use Rattle.shell_terms.specs.Edit.{Bytes}
use Rattle.shell_terms.specs.Command.{Merging, join_stars, common_stars, other_stars, join_buffers}
use Rattle.state_rows.specs.declared.merge.Stars.{Stars}
use Rattle.state_rows.specs.declared.merge.Stars.TheVariants.{Joined, Common, Other}
use Rattle.state_rows.specs.declared.merge.Merging.{Merging as Merge}
use Rattle.state_rows.specs.declared.merge.Merging.TheVariants.{Stars as OfStars, Buffers}

-- the merge by its plain name
abbrev pub star_kind : Stars → Merging
star_kind Joined = join_stars
star_kind Common = common_stars
star_kind Other = other_stars

abbrev pub plain_kind : Merge → Merging
plain_kind (OfStars stars) = star_kind stars
plain_kind Buffers = join_buffers

-- which entries it keeps of two sets
abbrev pub entries_merged : Stars → List (Entry Bytes) → List (Entry Bytes) → List (Entry Bytes)
entries_merged Joined E D = union (slice_cmp nat_cmp) E D
entries_merged Common E D = both (slice_cmp nat_cmp) E D
entries_merged Other E D = less (slice_cmp nat_cmp) E D

-- how many nodes the merge of two roots needs
abbrev pub stars_need : Stars → Forms Bytes → ℕ → ℕ → ℕ → ℕ
stars_need Joined = union_need (slice_cmp nat_cmp) text_code
stars_need Common = both_need (slice_cmp nat_cmp) text_code
stars_need Other = less_need (slice_cmp nat_cmp) text_code

-- how many nodes the merge of two states needs besides the state's row: those of their stars, the second links of their rows, or of
-- their buffers, the first
abbrev pub merge_rows : Merge → Heap Bytes → ℕ → ℕ → ℕ → ℕ
merge_rows (OfStars stars) h bits state other = stars_need stars (form_at h) bits (child_at h state 1) (child_at h other 1)
merge_rows Buffers h bits state other = union_need (slice_cmp nat_cmp) text_code (form_at h) bits (child_at h state 0) (child_at h other 0)
