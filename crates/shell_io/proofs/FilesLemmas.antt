-- A look-up in a map of texts is one in the files that it stands for, and to write there is to write in these.
use Rattle.std.proofs.Common.{◌≡◌, ℕ, Bool, true, false, cond, List, [], ◌∷◌, map, Some, refl, sym, ap, ◌∙◌}
use Rattle.std.specs.Option.{option_map}
use Rattle.std.specs.Ordering.{nat_cmp, eq_by_cmp, match_ordering}
use Rattle.std.specs.declared.cmp.Ordering.{Ordering}
use Rattle.std.specs.declared.cmp.Ordering.TheVariants.{Less, Equal, Greater}
use Rattle.std.specs.Cmp.Lexicographic.{slice_cmp, nat_list_cmp_total}
use Rattle.std.specs.FinMap.{get, insert, find, put, same_map, nat_cmp-IsAntisymmetric, slice_cmp-IsAntisymmetric, get-from_entries, get-insert}
use Rattle.std.specs.FinMap.Entries.{by_order, find-put}
use Rattle.std.specs.BTreeMap.{is_at, insert_entry}
use Rattle.std.specs.Map.{lookup}
use Rattle.std.specs.String.{string_bytes}
use Rattle.std.specs.declared.string.String.{String}
use Rattle.std.specs.declared.vec.Vec.{Vec}
use Rattle.shell_io.specs.InMemory.{files_of}

-- the list in a vector
abbrev pub items_of : {B : Type 0} → Vec ℕ B → List ℕ
items_of v = v.items

found : {B : Type 0} (b : Bool) (v : Vec ℕ B) (o : _) (p : _) → p ≡ option_map items_of o →
    cond b (Some (items_of v)) p ≡ option_map items_of (cond b (Some v) o)
found true v o p e = refl
found false v o p e = e

find-map : {A B : Type 0} (entries : List (String A × Vec ℕ B)) (name : List ℕ) →
    find (slice_cmp nat_cmp) name (map (λ e. (string_bytes e.0, items_of e.1)) entries)
    ≡ option_map items_of (lookup (is_at (λ k. slice_cmp nat_cmp name (string_bytes k))) entries)
find-map [] name = refl
find-map (e ∷ es) name = found (eq_by_cmp (slice_cmp nat_cmp) name (string_bytes e.0)) e.1 _ _ (find-map es name)

pub get-files_of : {A B : Type 0} (entries : List (String A × Vec ℕ B)) (name : List ℕ) →
    get (files_of entries) name ≡ option_map items_of (lookup (is_at (λ k. slice_cmp nat_cmp name (string_bytes k))) entries)
get-files_of entries name = get-from_entries nat_list_cmp_total _ name ∙ find-map entries name

-- an entry of a map of texts as a file
abbrev file_of : {A B : Type 0} → String A × Vec ℕ B → List ℕ × List ℕ
file_of e = (string_bytes e.0, items_of e.1)

abbrev by_bytes : {A : Type 0} → String A → String A → Ordering
by_bytes j k = slice_cmp nat_cmp (string_bytes j) (string_bytes k)

placed : {X Y : Type 0} (f : X → Y) (o : Ordering) (a b c : List X) (rest : List Y) → rest ≡ map f c →
    by_order o (map f a) (map f b) rest ≡ map f (match_ordering o a b c)
placed f Less a b c rest e = refl
placed f Equal a b c rest e = refl
placed f Greater a b c rest e = e

put-map : {A B : Type 0} (entries : List (String A × Vec ℕ B)) (name : String A) (bytes : Vec ℕ B) →
    put (slice_cmp nat_cmp) (string_bytes name) (items_of bytes) (map file_of entries) ≡ map file_of (insert_entry by_bytes entries name bytes)
put-map [] name bytes = refl
put-map (e ∷ es) name bytes =
    placed file_of (by_bytes name e.0) ((name, bytes) ∷ e ∷ es) ((e.0, bytes) ∷ es) (e ∷ insert_entry by_bytes es name bytes)
    (file_of e ∷ put (slice_cmp nat_cmp) (string_bytes name) (items_of bytes) (map file_of es)) (ap (λ l. file_of e ∷ l) (put-map es name bytes))

-- to write at a text is to write at its bytes
pub files_of-insert_entry : {A B : Type 0} (entries : List (String A × Vec ℕ B)) (name : String A) (bytes : Vec ℕ B) →
    files_of (insert_entry by_bytes entries name bytes) ≡ insert (files_of entries) (string_bytes name) (items_of bytes)
files_of-insert_entry entries name bytes =
    same_map nat_list_cmp_total (slice_cmp-IsAntisymmetric nat_cmp-IsAntisymmetric) _ _
    (λ q. get-from_entries nat_list_cmp_total (map file_of (insert_entry by_bytes entries name bytes)) q
    ∙ ap (find (slice_cmp nat_cmp) q) (sym (put-map entries name bytes))
    ∙ find-put (slice_cmp nat_cmp) nat_list_cmp_total q (string_bytes name) (items_of bytes) (map file_of entries)
    ∙ sym (get-insert nat_list_cmp_total (files_of entries) (string_bytes name) (items_of bytes) q
    ∙ ap (cond (eq_by_cmp (slice_cmp nat_cmp) q (string_bytes name)) (Some (items_of bytes))) (get-from_entries nat_list_cmp_total (map file_of entries) q)))
