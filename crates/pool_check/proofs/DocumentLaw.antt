-- Bytes without damage have the rows of a valid pool, and those that read as the document of a valid pool have none.
use Rattle.std.proofs.Common.{◌≡◌, ◌≢◌, ◌≤◌, ℕ, Bool, true, false, ◌&&◌, cond, eqb, Option, Some, None, List, [], ◌∷◌, length, refl, ap, sym, subst, ◌∙◌}
use Rattle.std.specs.Prelude.{not, is_some, IsSomeAnd, option_and_then, option_map}
use Rattle.std.specs.List.{list_all}
use Rattle.std.specs.Option.{option_or}
use Rattle.std.proofs.lemmas.Bool.{eqb-true}
use Rattle.std.proofs.lemmas.Option.{none-some, same_Some, option_and_then_some}
use Rattle.serde_json.specs.Data.{Data, object}
use Rattle.node_heap.specs.Forms.{Form}
use Rattle.pool_text.specs.Rows.{Bytes, is_in_range}
use Rattle.pool_text.specs.Rules.{Rules, rules_of, bits_by}
use Rattle.pool_text.specs.Pool.{at_present_version}
use Rattle.pool_text.specs.Document.{document, DocumentParts, four, values_at, document_keys, older_keys, number_in, numbers_in, elements_in, kept_if, history_in, fits_version, parts_read, parts_by_format, parts_from, parts_in, rows_in, pool_by, pool_from, pool_in, value_in, pool_in_bytes, parts_damage_by, parts_damage, value_damage, bytes_damage, or_damage, HistoryFitsVersion}
use Rattle.pool_text.specs.declared.pool.Pool.{Pool}
use Rattle.pool_text.specs.declared.rules.TheConstants.{MOST_HISTORY}
use Rattle.pool_text.specs.declared.damage.Damage.{Damage}
use Rattle.pool_text.specs.declared.damage.Damage.TheVariants.{Json, Form as FormDamage, Version, Bits, Row, Link, Text, Vector, Trie, Kind, Order, Memory}
use Rattle.pool_check.specs.Rows.{rows_in_range, rows_in_range_by, links_lead_back, texts_are_lines}
use Rattle.pool_check.specs.Vectors.{vectors_stand}
use Rattle.pool_check.specs.Tries.{tries_stand_by}
use Rattle.pool_check.specs.Kinds.{roots_are_of_kind, undo_fits}
use Rattle.pool_check.specs.Damages.{rows_in_order, damage_by, own_damage, document_damage, IsValid, IsValidBy}
use Rattle.pool_check.specs.Laws.{IsReadAs, IsDocumentOf}
use Rattle.pool_text.proofs.DocumentBack.{mapped, format-back}
use Rattle.pool_text.proofs.HistoryRead.{pool-history}
use Rattle.pool_text.proofs.ReadBack.{reads-back}
use Rattle.pool_check.proofs.DamageLemmas.{undamaged-valid, valid-undamaged}

four-are : (ns rs : List ℕ) → four ns ≡ Some rs → length rs ≡ 4
four-are (a ∷ b ∷ c ∷ d ∷ []) rs e = let same : Some (a ∷ b ∷ c ∷ d ∷ []) ≡ Some rs = e in let is : rs ≡ a ∷ b ∷ c ∷ d ∷ [] = cc in ap length is
four-are _ rs e = absurd (let none : None ≡ Some rs = e in cc)

as-four : (q p : DocumentParts) → q ≡ p → length q.roots ≡ 4 → length p.roots ≡ 4
as-four q p same four = ap (λ (parts : DocumentParts). length parts.roots) (sym same) ∙ four

read-four : (bits : Data) (history : Option Data) (roots rows version : Data) (p : DocumentParts) → parts_read bits history roots rows version ≡ Some p → length p.roots ≡ 4
read-four bits history roots rows version p e =
    option_and_then_some _ (number_in bits) p e (λ b _ after.
    option_and_then_some _ (history_in history) p after (λ h _ then.
    option_and_then_some _ (option_and_then four (numbers_in roots)) p then (λ rs are_four next.
    option_and_then_some _ (elements_in rows) p next (λ ds _ last.
    mapped (λ v. record { bits = b; history = h; roots = rs; rows = ds; version = v }) (kept_if (fits_version history) (number_in version)) p last (λ v _ made.
    option_and_then_some four (numbers_in roots) rs are_four (λ ns _ four.
    ap (λ (parts : DocumentParts). length parts.roots) (sym made) ∙ four-are ns rs four))))))

format-four : (format bits : Data) (history : Option Data) (roots rows version : Data) (p : DocumentParts) → parts_by_format format (parts_read bits history roots rows version) ≡ Some p → length p.roots ≡ 4
format-four format bits history roots rows version p e = format-back format (parts_read bits history roots rows version) p e (λ _ read. read-four bits history roots rows version p read)

from-four : (ds : List Data) (p : DocumentParts) → parts_from ds ≡ Some p → length p.roots ≡ 4
from-four [] p e = absurd (none-some p e)
from-four (a ∷ []) p e = absurd (none-some p e)
from-four (a ∷ f ∷ []) p e = absurd (none-some p e)
from-four (a ∷ f ∷ c ∷ []) p e = absurd (none-some p e)
from-four (a ∷ f ∷ c ∷ d ∷ []) p e = absurd (none-some p e)
from-four (a ∷ f ∷ c ∷ d ∷ v ∷ []) p e = format-four f a None c d v p e
from-four (a ∷ f ∷ h ∷ c ∷ d ∷ v ∷ []) p e = format-four f a (Some h) c d v p e
from-four (a ∷ f ∷ h ∷ c ∷ d ∷ v ∷ x ∷ xs) p e = absurd (none-some p e)

parts-four : (d : Data) (p : DocumentParts) → parts_in d ≡ Some p → length p.roots ≡ 4
parts-four (object ms) p e = option_and_then_some parts_from (option_or (values_at document_keys ms) (values_at older_keys ms)) p e (λ ds _ from. from-four ds p from)
parts-four _ p e = absurd (let none : None ≡ Some p = e in cc)

no-damage : {X : Type 0} (d : Damage) (next : X → Option Damage) (o : Option X) → or_damage d next o ≡ None → (x : X) × (o ≡ Some x) × (next x ≡ None)
no-damage d next None e = absurd (let some : Some d ≡ None = e in cc)
no-damage d next (Some x) e = (x, refl, e)

both-none : (a b : Option Damage) → option_or a b ≡ None → (a ≡ None) × (b ≡ None)
both-none None b e = (refl, e)
both-none (Some d) b e = absurd (let some : Some d ≡ None = e in cc)

-- the two tests after that of the version are passed
both-passed : (bits : Bool) (rows : Option (List (Form Bytes))) → cond (not bits) (Some Bits) (cond (is_some rows) None (Some Row)) ≡ None
    → (bits ≡ true) × (found : List (Form Bytes)) × (rows ≡ Some found)
both-passed false rows e = absurd (let some : Some Bits ≡ None = e in cc)
both-passed true None e = absurd (let some : Some Row ≡ None = e in cc)
both-passed true (Some found) e = (refl, found, refl)

pool-stands : (bits : ℕ) (bytes : Bytes) → bytes_damage bits bytes ≡ None
    → (P : Pool) × (pool_in_bytes bytes ≡ Some P) × (P.bits ≡ bits_by P.version bits) × (length P.roots ≡ 4) × HistoryFitsVersion P × (rules : Rules) × (rules_of P.version ≡ Some rules)
unfolding bytes_damage value_damage pool_in
pool-stands bits bytes e =
    let value = no-damage Json (value_damage bits) (value_in bytes) e in
    let parts = no-damage FormDamage (parts_damage bits) (parts_in value.0) value.2 in
    let p : DocumentParts = parts.0 in
    let version = no-damage Version (parts_damage_by bits p) (rules_of p.version) parts.2 in
    let rules : Rules = version.0 in
    let passed = both-passed (eqb p.bits (bits_by p.version bits)) (rows_in p rules) version.2 in
    let P : Pool = record { bits = p.bits; version = p.version; history = p.history; rows = passed.1; roots = p.roots } in
    let from : pool_from p ≡ Some P =
    ap (option_and_then (pool_by p)) version.1 ∙ ap (option_map (λ rows. record { bits = p.bits; version = p.version; history = p.history; rows = rows; roots = p.roots })) passed.2 in
    let stands : pool_in value.0 ≡ Some P = ap (option_and_then pool_from) parts.1 ∙ from in (
      P,
      ap (option_and_then pool_in) value.1 ∙ stands,
      eqb-true p.bits (bits_by p.version bits) passed.0,
      parts-four value.0 p parts.1,
      pool-history value.0 P stands,
      rules,
      version.1,
    )

pub undamaged-stands : (bits : ℕ) (bytes : Bytes) → document_damage bits bytes ≡ None → (P : Pool) × IsReadAs bits P bytes
unfolding document_damage
undamaged-stands bits bytes whole =
    let none = both-none (bytes_damage bits bytes) (option_and_then own_damage (pool_in_bytes bytes)) whole in
    let stands = pool-stands bits bytes none.0 in
    let P : Pool = stands.0 in
    let rules : Rules = stands.5 in
    let own : damage_by rules P ≡ None =
    sym (ap (option_and_then (λ r. damage_by r P)) stands.6) ∙ sym (ap (option_and_then own_damage) stands.1) ∙ none.1 in (
      P,
      record {
        read = stands.1;
        kept = stands.2;
        roots = stands.3;
        valid = subst (λ o. IsSomeAnd o (λ r. IsValidBy r P)) (sym stands.6) (undamaged-valid P own);
        history = stands.4;
      },
    )

in-range-rows : (P : Pool) → rows_in_range P ≡ true → list_all is_in_range P.rows ≡ true
unfolding rows_in_range_by
in-range-rows P h = h

-- a pool's version is none of its tests
pub valid-at-present : {rules : Rules} (P : Pool) → IsValidBy rules P → IsValidBy rules (at_present_version P)
unfolding rows_in_range_by links_lead_back texts_are_lines vectors_stand tries_stand_by roots_are_of_kind undo_fits rows_in_order
valid-at-present P v = record {
  in_range = v.in_range;
  lead_back = v.lead_back;
  lines = v.lines;
  vectors = v.vectors;
  tries = v.tries;
  kinds = v.kinds;
  fits = v.fits;
  in_order = v.in_order;
}

pub valid-document : (P : Pool) (bytes : Bytes) → value_in bytes ≡ Some (document P) → P.history ≤ MOST_HISTORY → length P.roots ≡ 4 → IsValid P → IsDocumentOf P bytes
unfolding document_damage bytes_damage
valid-document P bytes value within four valid =
    let back = reads-back P within four (in-range-rows P valid.in_range) in
    let read : pool_in_bytes bytes ≡ Some (at_present_version P) = ap (option_and_then pool_in) value ∙ back.same in
    record {
      undamaged =
          ap (λ o. option_or o (option_and_then own_damage (pool_in_bytes bytes))) (ap (or_damage Json (value_damage P.bits)) value ∙ back.whole)
          ∙ ap (option_and_then own_damage) read ∙ valid-undamaged (at_present_version P) (valid-at-present P valid);
      read = read;
    }

-- No damage is want of memory.

test-failed : (t : Bool) (d : Damage) (rest : Option Damage) → d ≢ Memory → rest ≢ Some Memory → cond t rest (Some d) ≢ Some Memory
test-failed true d rest other none e = none e
test-failed false d rest other none e = other (same_Some d Memory e)

failed-test : (t : Bool) (d : Damage) (rest : Option Damage) → d ≢ Memory → rest ≢ Some Memory → cond t (Some d) rest ≢ Some Memory
failed-test true d rest other none e = other (same_Some d Memory e)
failed-test false d rest other none e = none e

damage-is-test : (rules : Rules) (P : Pool) → damage_by rules P ≢ Some Memory
unfolding damage_by
damage-is-test rules P =
    test-failed (rows_in_range_by rules P) Row _ (λ e. cc)
    (test-failed (links_lead_back P) Link _ (λ e. cc)
    (test-failed (texts_are_lines P) Text _ (λ e. cc)
    (test-failed (vectors_stand P) Vector _ (λ e. cc)
    (test-failed (tries_stand_by rules P) Trie _ (λ e. cc)
    (test-failed (roots_are_of_kind P && undo_fits P) Kind _ (λ e. cc)
    (test-failed (rows_in_order P) Order _ (λ e. cc) (λ e. none-some Memory e)))))))

-- or nothing is there, or what is there has this damage
or-damaged : {X : Type 0} (d : Damage) (next : X → Option Damage) (o : Option X) → d ≢ Memory → ((x : X) → next x ≢ Some Memory) → or_damage d next o ≢ Some Memory
or-damaged d next None other each e = other (same_Some d Memory e)
or-damaged d next (Some x) other each e = each x e

bytes-damage-is-test : (bits : ℕ) (bytes : Bytes) → bytes_damage bits bytes ≢ Some Memory
unfolding bytes_damage value_damage
bytes-damage-is-test bits bytes =
    or-damaged Json (value_damage bits) (value_in bytes) (λ e. cc) (λ d.
    or-damaged FormDamage (parts_damage bits) (parts_in d) (λ e. cc) (λ p.
    or-damaged Version (parts_damage_by bits p) (rules_of p.version) (λ e. cc) (λ rules.
    failed-test (not (eqb p.bits (bits_by p.version bits))) Bits _ (λ e. cc) (test-failed (is_some (rows_in p rules)) Row None (λ e. cc) (λ e. none-some Memory e)))))

pub no-memory : (bits : ℕ) (bytes : Bytes) → document_damage bits bytes ≢ Some Memory
unfolding document_damage
no-memory bits bytes e = by (bytes_damage bits bytes) (pool_in_bytes bytes) (bytes-damage-is-test bits bytes) e
  where
    own : (P : Pool) (o : Option Rules) → option_and_then (λ rules. damage_by rules P) o ≢ Some Memory
    own P None is = none-some Memory is
    own P (Some rules) is = damage-is-test rules P is

    by : (o : Option Damage) (p : Option Pool) → o ≢ Some Memory → option_or o (option_and_then own_damage p) ≢ Some Memory
    by (Some d) p none e = none e
    by None None none e = none-some Memory e
    by None (Some P) none e = own P (rules_of P.version) e
