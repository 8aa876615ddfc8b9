-- How many states undo keeps in what a document stands for.
use Rattle.std.proofs.Common.{◌≡◌, ◌≤◌, ℕ, true, List, [], ◌∷◌, Option, Some, None, sym, subst, arith}
use Rattle.std.specs.Option.{option_or}
use Rattle.std.proofs.lemmas.Bool.{eqb-true}
use Rattle.std.proofs.lemmas.Bool.Decides.{nat_tests}
use Rattle.std.proofs.lemmas.Option.{none-some, same_Some, option_and_then_some}
use Rattle.serde_json.specs.Data.{Data, null, boolean, number, string, array, object}
use Rattle.pool_text.specs.Rows.{is_between}
use Rattle.pool_text.specs.Rules.{rules_of}
use Rattle.pool_text.specs.Document.{number_in, DocumentParts, document_keys, older_keys, values_at, history_in, fits_version, parts_read, parts_by_format, parts_from, parts_in, rows_in, pool_by, pool_from, pool_in, HistoryFitsVersion}
use Rattle.pool_text.specs.declared.pool.Pool.{Pool}
use Rattle.pool_text.specs.declared.rules.TheConstants.{MOST_HISTORY}
use Rattle.pool_text.proofs.DocumentBack.{mapped, kept-same, read-back, format-back}

-- the history is within the greatest bound, and is that bound where the version says none
abbrev FitsHistory : ℕ → ℕ → Type 0
FitsHistory version history = (history ≤ MOST_HISTORY) × ((version ≡ 3 → ⊥) → history ≡ MOST_HISTORY)

at-most : (n : ℕ) → is_between 0 MOST_HISTORY n ≡ true → n ≤ MOST_HISTORY
at-most n pass = grind (arith, nat_tests)

-- a history that is said, of the version that says one, and one that isn't
fits-history : (value : Option Data) (version history : ℕ) → history_in value ≡ Some history → fits_version value version ≡ true → FitsHistory version history
fits-history (Some value) version history is fits =
    (kept-same (is_between 0 MOST_HISTORY) (number_in value) history is (λ _ pass. at-most history pass), λ other. absurd (other (eqb-true version 3 fits)))
fits-history None version history is fits = let same : history ≡ MOST_HISTORY = sym (same_Some MOST_HISTORY history is) in (omega (arith, same), λ _. same)

read-history : (format bits : Data) (value : Option Data) (roots rows version : Data) (p : DocumentParts) → parts_by_format format (parts_read bits value roots rows version) ≡ Some p → FitsHistory p.version p.history
read-history format bits value roots rows version p e =
    format-back format (parts_read bits value roots rows version) p e (λ _ read.
    let are = read-back bits value roots rows version p read in
    fits-history value p.version p.history are.history_is are.fits)

from-history : (ds : List Data) (p : DocumentParts) → parts_from ds ≡ Some p → FitsHistory p.version p.history
from-history [] p e = absurd (none-some p e)
from-history (a ∷ []) p e = absurd (none-some p e)
from-history (a ∷ f ∷ []) p e = absurd (none-some p e)
from-history (a ∷ f ∷ c ∷ []) p e = absurd (none-some p e)
from-history (a ∷ f ∷ c ∷ d ∷ []) p e = absurd (none-some p e)
from-history (a ∷ f ∷ c ∷ d ∷ v ∷ []) p e = read-history f a None c d v p e
from-history (a ∷ f ∷ h ∷ c ∷ d ∷ v ∷ []) p e = read-history f a (Some h) c d v p e
from-history (a ∷ f ∷ h ∷ c ∷ d ∷ v ∷ x ∷ xs) p e = absurd (none-some p e)

parts-history : (d : Data) (p : DocumentParts) → parts_in d ≡ Some p → FitsHistory p.version p.history
parts-history null p e = absurd (none-some p e)
parts-history (boolean b) p e = absurd (none-some p e)
parts-history (number n) p e = absurd (none-some p e)
parts-history (string s) p e = absurd (none-some p e)
parts-history (array ds) p e = absurd (none-some p e)
parts-history (object ms) p e = option_and_then_some parts_from (option_or (values_at document_keys ms) (values_at older_keys ms)) p e (λ vs _ from. from-history vs p from)

pub pool-history : (d : Data) (P : Pool) → pool_in d ≡ Some P → HistoryFitsVersion P
unfolding pool_in
pool-history d P is =
    option_and_then_some pool_from (parts_in d) P is (λ p parts found.
    option_and_then_some (pool_by p) (rules_of p.version) P found (λ rules _ pool_is.
    mapped (λ rows. record { bits = p.bits; version = p.version; history = p.history; rows = rows; roots = p.roots }) (rows_in p rules) P pool_is (λ rows _ made.
    let fits = parts-history d p parts in
    subst HistoryFitsVersion made (record { within = fits.0; older = fits.1 }))))
