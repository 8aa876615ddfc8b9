use Rattle.std.proofs.Common.{◌≡◌, ◌∙◌, ap, sym, subst, arith, [], ◌∷◌, ◌++◌, map, append-nil}
use Rattle.std.specs.Prelude.{slice_index}
use Rattle.std.specs.List.{filter_map}
use Rattle.std.proofs.lemmas.List.{map-append, take_all}
use Rattle.std.proofs.lemmas.List.Elements.{All-push}
use Rattle.champ_trie.specs.Trie.{code_by}
use Rattle.pool_text.specs.Rules.{rules_named}
use Rattle.pool_check.specs.Tries.{entry_at}
use Rattle.pool_check.specs.Keeping.{forms_at}
use Rattle.pool_check.specs.Readings.{moved}
use Rattle.pool_carry.specs.Making.{seen, AreCoded}
use Rattle.pool_carry.specs.declared.entries.Entry.{Entry as CodedEntry}
use Rattle.pool_carry.proofs.EntryRows.{entry-more}
use Rattle.pool_carry.proofs.entries.add_entries.Goals as goal

pub loop-place-init : goal.loop-place-init
loop-place-init c = record { whole = sym (append-nil (map seen c.args.entries.now.items)); codes = λ coded. coded }

pub entry_at-requires-clause-key : goal.entry_at-requires-clause-key
entry_at-requires-clause-key c = c.requires.keys c.loop-place.place-index 0 c.loop-place-test.true

pub entry_at-requires-clause-low : goal.entry_at-requires-clause-low
entry_at-requires-clause-low c = c.requires.low c.loop-place.place-index 0 c.loop-place-test.true

pub loop-place-preserved : goal.loop-place-preserved
loop-place-preserved c =
    let code = code_by (rules_named c.args.rules).code_of c.args.bits in
    let es = c.loop-place.entries.items in
    let pushed = c.in_ok-push.ensures.items in
    record {
      whole =
          ap (map seen) pushed ∙ map-append seen es (c.entry_at.result ∷ [])
          ∙ entry-more (forms_at c.args.rows.now) (slice_index c.args.images.now) c.args.places.now c.loop-place.place-index c.loop-place-test.true (map seen c.args.entries.now.items) (map seen es) (seen c.entry_at.result)
          c.loop-place.invariant.whole c.entry_at.ensures.entry;
      codes = λ coded.
          subst (λ xs. AreCoded code xs) (sym pushed) (All-push (λ (e : CodedEntry). e.code ≡ code e.key.now) es c.entry_at.result (c.loop-place.invariant.codes coded) c.entry_at.ensures.code);
    }

pub returns-clause-entries : goal.returns-clause-entries
returns-clause-entries c =
    c.loop-place.invariant.whole
    ∙ ap (λ ks. map seen c.args.entries.now.items ++ map (moved (slice_index c.args.images.now)) (filter_map (entry_at (forms_at c.args.rows.now)) ks)) (take_all c.loop-place.place-index c.args.places.now (omega arith))

pub returns-clause-codes : goal.returns-clause-codes
returns-clause-codes c = c.loop-place.invariant.codes
