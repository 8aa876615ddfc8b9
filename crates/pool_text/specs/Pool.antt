-- The pool of some roots: their rows in first-seen order, with places for links.
use Rattle.std.specs.Prelude.{ℕ, ◌==◌, Bool, true, false, List, length, map, Option, Some, None, option_map, slice_get, nat_eq}
use Rattle.std.specs.List.{position_or_len, filter_map}
use Rattle.node_heap.specs.Links.{Links}
use Rattle.node_heap.specs.Forms.{Row, Form, Forms, cell, node, leaf, inner, trie, chain, pair, state, kind_of, links_of, links_in}
use Rattle.node_heap.specs.Heap.{Heap, row_at}
use Rattle.pool_order.specs.Order.{order}
use Rattle.pool_text.specs.Rows.{Bytes}
use Rattle.pool_text.specs.declared.pool.Pool.{Pool}
use Rattle.pool_text.specs.declared.rules.TheConstants.{PRESENT_VERSION}

-- the links of the row at each place in a list
abbrev pub links_from : {K : Type 0} → List (Form K) → Links
links_from rows l = links_of (slice_get rows l)

-- the row at each place
abbrev pub forms_in : Pool → Forms Bytes
forms_in P place = slice_get P.rows place

abbrev pub row_count : Pool → ℕ
row_count P = length P.rows

-- the order of a pool's own rows
abbrev pub order_in : Pool → List ℕ
order_in P = order (row_count P) (links_in (forms_in P)) P.roots

-- the index of the link in the list
abbrev pub place_in : List ℕ → ℕ → ℕ
place_in ks l = position_or_len (nat_eq l) ks

-- the row, with each link replaced
abbrev pub relink : {K : Type 0} → (ℕ → ℕ) → Form K → Form K
relink f (cell x) = cell x
relink f (node kind links) = node kind (map f links)

-- what a pool has beside its rows and its roots
pub record Settings : Type 0 where
  pub bits : ℕ
  pub version : ℕ
  pub history : ℕ

-- the settings that keep so many code bits and so many states, of the version of the pools that are made
abbrev pub settings_by : ℕ → ℕ → Settings
settings_by bits history = record { bits = bits; version = PRESENT_VERSION; history = history }

abbrev pub settings_of : Pool → Settings
settings_of P = record { bits = P.bits; version = P.version; history = P.history }

-- the pool, whatever its version, as one that is made: its version is no part of what it stands for
abbrev pub at_present_version : Pool → Pool
at_present_version P = record P { version = PRESENT_VERSION }

-- the pool of the rows that the roots reach, each way down at most n rows long
unfoldable pub pool : ℕ → Forms Bytes → List ℕ → Settings → Pool
pool n G roots settings =
    let ks : List ℕ = order n (links_in G) roots in
    record {
      bits = settings.bits;
      version = settings.version;
      history = settings.history;
      rows = filter_map (λ k. option_map (relink (place_in ks)) (G k)) ks;
      roots = map (place_in ks) roots;
    }

-- whether a pool's row can stand for the form: a pair and a state have their two links
abbrev pub fits_pool : {K : Type 0} → Option (Form K) → Bool
fits_pool None = false
fits_pool (Some (cell _)) = true
fits_pool (Some (node leaf _)) = true
fits_pool (Some (node (inner _) _)) = true
fits_pool (Some (node (trie _ _ _) _)) = true
fits_pool (Some (node chain _)) = true
fits_pool (Some (node pair links)) = length links == 2
fits_pool (Some (node state links)) = length links == 2

module _ {T : Type 0} (text : T → Bytes) where
  -- a row's form, with the text of its value
  abbrev pub text_form : Row T → Form Bytes
  text_form (cell x) = cell (text x)
  text_form (node head links) = node (kind_of head) links

  -- the forms of a heap's rows, with the texts of their values
  abbrev pub text_forms : Heap T → Forms Bytes
  text_forms h l = option_map text_form (row_at h l)

  -- the pool of the rows of a heap that the roots reach
  abbrev pub pool_at : Heap T → List ℕ → Settings → Pool
  pool_at h roots settings = pool (length h.rows) (text_forms h) roots settings
