use Rattle.std.proofs.Common.{rules, ℕ, ◌∙◌, ◌<◌, ap, sym, subst, List, [], ◌∷◌, ◌++◌, map, length, reverse, IsSome}
use Rattle.std.specs.Prelude.{slice_index}
use Rattle.std.specs.List.{All, filter_map}
use Rattle.champ_chain.specs.Entry.{key_at}
use Rattle.champ_trie.specs.Trie.{code_by}
use Rattle.pool_text.specs.Rules.{rules_named}
use Rattle.pool_text.specs.Pool.{forms_in, row_count}
use Rattle.pool_check.specs.Tries.{entry_at}
use Rattle.pool_check.specs.Keeping.{forms_at}
use Rattle.pool_check.specs.Readings.{moved}
use Rattle.pool_carry.specs.Making.{seen}
use Rattle.pool_carry.proofs.EntryWalk.{walk-begun, walk-done, next-within, next-there}
use Rattle.pool_carry.proofs.entries.entries_below.Goals as goal

pub loop-place-init : goal.loop-place-init
loop-place-init c =
    walk-begun (row_count c.args.pool.now) (forms_in c.args.pool.now) (slice_index c.args.images.now) (code_by (rules_named c.args.rules).code_of c.args.bits) c.args.root c.requires.root c.new-entries.result.items c.push.new.self.items
    c.new-entries.ensures.items (c.in_ok-push.ensures.items ∙ ap (λ ks. ks ++ c.args.root ∷ []) c.new-waiting.ensures.items)

pub offset_bounds-rows-place : goal.offset_bounds-rows-place
offset_bounds-rows-place c =
    let low : c.in-Some.place < length c.as_slice-rows.result.now =
    next-within c.requires.valid.0 c.args.pool.now c.requires.valid.1 c.as_slice-rows.result.now c.as_slice-rows.ensures (slice_index c.args.images.now) (code_by (rules_named c.args.rules).code_of c.args.bits) c.args.root c.requires.there
    c.loop-place.entries.items c.loop-place.waiting.items c.pop.new.self.items c.in-Some.place c.in-Some.ensures.items c.loop-place.invariant in
    search rules

pub bounds-rows-place : goal.bounds-rows-place
bounds-rows-place c =
    next-within c.requires.valid.0 c.args.pool.now c.requires.valid.1 c.as_slice-rows.result.now c.as_slice-rows.ensures (slice_index c.args.images.now) (code_by (rules_named c.args.rules).code_of c.args.bits) c.args.root c.requires.there
    c.loop-place.entries.items c.loop-place.waiting.items c.pop.new.self.items c.in-Some.place c.in-Some.ensures.items c.loop-place.invariant

pub split_links-requires-clause-trie : goal.split_links-requires-clause-trie
split_links-requires-clause-trie c =
    (next-there c.requires.valid.0 c.args.pool.now c.requires.valid.1 c.as_slice-rows.result.now c.as_slice-rows.ensures (slice_index c.args.images.now) (code_by (rules_named c.args.rules).code_of c.args.bits) c.args.root c.requires.there
    c.loop-place.entries.items c.loop-place.waiting.items c.pop.new.self.items c.in-Some.place c.in-Some.ensures.items c.loop-place.invariant c.index-rows-place.result c.index-rows-place.is).of_trie

pub split_links-requires-clause-count : goal.split_links-requires-clause-count
split_links-requires-clause-count c =
    (next-there c.requires.valid.0 c.args.pool.now c.requires.valid.1 c.as_slice-rows.result.now c.as_slice-rows.ensures (slice_index c.args.images.now) (code_by (rules_named c.args.rules).code_of c.args.bits) c.args.root c.requires.there
    c.loop-place.entries.items c.loop-place.waiting.items c.pop.new.self.items c.in-Some.place c.in-Some.ensures.items c.loop-place.invariant c.index-rows-place.result c.index-rows-place.is).count

pub add_entries-requires-clause-keys : goal.add_entries-requires-clause-keys
add_entries-requires-clause-keys c =
    let rows = c.as_slice-rows.result.now in
    let next =
    next-there c.requires.valid.0 c.args.pool.now c.requires.valid.1 rows c.as_slice-rows.ensures (slice_index c.args.images.now) (code_by (rules_named c.args.rules).code_of c.args.bits) c.args.root c.requires.there c.loop-place.entries.items c.loop-place.waiting.items
    c.pop.new.self.items c.in-Some.place c.in-Some.ensures.items c.loop-place.invariant c.index-rows-place.result c.index-rows-place.is in
    subst (λ ks. All (λ k. IsSome (key_at (forms_at rows) k)) ks) (sym c.split_links.ensures.own) next.keys

pub add_entries-requires-clause-low : goal.add_entries-requires-clause-low
add_entries-requires-clause-low c =
    let rows = c.as_slice-rows.result.now in
    let next =
    next-there c.requires.valid.0 c.args.pool.now c.requires.valid.1 rows c.as_slice-rows.ensures (slice_index c.args.images.now) (code_by (rules_named c.args.rules).code_of c.args.bits) c.args.root c.requires.there c.loop-place.entries.items c.loop-place.waiting.items
    c.pop.new.self.items c.in-Some.place c.in-Some.ensures.items c.loop-place.invariant c.index-rows-place.result c.index-rows-place.is in
    subst (λ ks. All (λ k. k < length c.args.images.now) ks) (sym c.split_links.ensures.own) (next.low (length c.args.images.now) c.requires.images)

pub loop-place-preserved : goal.loop-place-preserved
loop-place-preserved c =
    let rows = c.as_slice-rows.result.now in
    let f = slice_index c.args.images.now in
    let next =
    next-there c.requires.valid.0 c.args.pool.now c.requires.valid.1 rows c.as_slice-rows.ensures f (code_by (rules_named c.args.rules).code_of c.args.bits) c.args.root c.requires.there c.loop-place.entries.items c.loop-place.waiting.items
    c.pop.new.self.items c.in-Some.place c.in-Some.ensures.items c.loop-place.invariant c.index-rows-place.result c.index-rows-place.is in
    next.steps c.add_entries.new.entries.items c.add_reversed.new.waiting.items
    (c.in_ok-add_entries.ensures.entries ∙ ap (λ ks. map seen c.loop-place.entries.items ++ map (moved f) (filter_map (entry_at (forms_at rows)) ks)) c.split_links.ensures.own)
    (c.in_ok-add_entries.ensures.codes c.loop-place.invariant.codes)
    (c.in_ok-add_reversed.ensures ∙ ap (λ (ks : List ℕ). c.pop.new.self.items ++ reverse ks) c.split_links.ensures.below)

pub loop-place-smaller : goal.loop-place-smaller
loop-place-smaller c =
    let rows = c.as_slice-rows.result.now in
    let next =
    next-there c.requires.valid.0 c.args.pool.now c.requires.valid.1 rows c.as_slice-rows.ensures (slice_index c.args.images.now) (code_by (rules_named c.args.rules).code_of c.args.bits) c.args.root c.requires.there c.loop-place.entries.items c.loop-place.waiting.items
    c.pop.new.self.items c.in-Some.place c.in-Some.ensures.items c.loop-place.invariant c.index-rows-place.result c.index-rows-place.is in
    next.fewer c.add_reversed.new.waiting.items (c.in_ok-add_reversed.ensures ∙ ap (λ (ks : List ℕ). c.pop.new.self.items ++ reverse ks) c.split_links.ensures.below)

pub returns-clause-entries : goal.returns-clause-entries
returns-clause-entries c =
    walk-done (row_count c.args.pool.now) (forms_in c.args.pool.now) (slice_index c.args.images.now) (code_by (rules_named c.args.rules).code_of c.args.bits) c.args.root c.loop-place.entries.items c.loop-place.waiting.items
    (sym c.loop-place.waiting.ok.0 ∙ c.in_default.ensures.cases.0) c.loop-place.invariant

pub returns-clause-codes : goal.returns-clause-codes
returns-clause-codes c = c.loop-place.invariant.codes
