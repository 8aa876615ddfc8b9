use Rattle.std.proofs.Common.{◌≡◌, ℕ, List, ◌<◌, length, get_or, Option, Some, ap, sym, subst, ◌∙◌, arith}
use Rattle.std.specs.Ordering.{nat_cmp}
use Rattle.std.specs.Cmp.Lexicographic.{slice_cmp}
use Rattle.elem_core.specs.Shown.{name_bytes}
use Rattle.node_heap.specs.Heap.{form_at}
use Rattle.champ_kinds.proofs.PairLemmas.{found-pairs, absent-map}
use Rattle.champ_kinds.proofs.PairRows.{links-read, pair-live}
use Rattle.plain_space.specs.Workspace.{lines_of}
use Rattle.state_rows.specs.Reading.{StandsIfThere}
use Rattle.state_rows.specs.InHeap.{AreLinesIn}
use Rattle.state_rows.proofs.look_up.lines_in.Goals as goal

pub links-requires : goal.links-requires
links-requires c =
    let is = c.requires.1 in
    let f = found-pairs (form_at c.args.heap.now) (slice_cmp nat_cmp) (name_bytes c.args.name) is.buffers_are.entries is.buffers_are.bindings c.in-Some.entry is.buffers_are.pairs (sym c.requires.2 ∙ c.in-Some.is) in
    pair-live c.args.heap.now f.pair

pub bounds-links-1 : goal.bounds-links-1
bounds-links-1 c =
    let is = c.requires.1 in
    let f = found-pairs (form_at c.args.heap.now) (slice_cmp nat_cmp) (name_bytes c.args.name) is.buffers_are.entries is.buffers_are.bindings c.in-Some.entry is.buffers_are.pairs (sym c.requires.2 ∙ c.in-Some.is) in
    subst (λ xs. 1 < length xs) (sym (links-read c.args.heap.now f.pair c.links.result.now c.links.ensures.links)) (omega arith)

pub returns-in_default : goal.returns-in_default
returns-in_default c = λ s is found.
    let none = absent-map (form_at c.args.heap.now) (slice_cmp nat_cmp) (name_bytes c.args.name) is.buffers_are.entries is.buffers_are.bindings is.buffers_are.pairs (sym found ∙ c.in_default.is) in
    subst (λ (o : Option ℕ). StandsIfThere (AreLinesIn c.args.heap.now c.args.bits) o (lines_of s (name_bytes c.args.name))) none (is.buffers_are.reads (name_bytes c.args.name))

pub returns : goal.returns
returns c = λ s is found.
    let f = found-pairs (form_at c.args.heap.now) (slice_cmp nat_cmp) (name_bytes c.args.name) is.buffers_are.entries is.buffers_are.bindings c.in-Some.entry is.buffers_are.pairs (sym found ∙ c.in-Some.is) in
    let read : c.index-links-1.result ≡ f.value = c.index-links-1.is ∙ ap (λ (xs : List ℕ). get_or xs 1 c.index-links-1.result) (links-read c.args.heap.now f.pair c.links.result.now c.links.ensures.links) in
    subst (λ (o : Option ℕ). StandsIfThere (AreLinesIn c.args.heap.now c.args.bits) o (lines_of s (name_bytes c.args.name))) (f.here ∙ ap Some (sym read ∙ sym c.at.ensures)) (is.buffers_are.reads (name_bytes c.args.name))
