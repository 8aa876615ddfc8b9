-- What small documents stand for.
use Rattle.std.specs.Prelude.{◌≡◌, [], ◌∷◌, Some, codes}
use Rattle.std.specs.Ordering.{nat_cmp}
use Rattle.std.specs.Cmp.Lexicographic.{slice_cmp}
use Rattle.std.specs.FinMap.{from_entries}
use Rattle.node_heap.specs.Forms.{cell, node, leaf, trie}
use Rattle.pool_text.specs.Rows.{Bytes}
use Rattle.pool_text.specs.declared.damage.Damage.TheVariants.{Json, Form, Version, Row, Link, Text, Vector, Trie, Kind, Order}
use Rattle.versions_pool.specs.Saved.{Saved, saved_text}
use Rattle.versions_pool.specs.Lists.{lists_format, lists_damage, lists_in}
use Rattle.versions_pool.specs.Sets.{sets_format, sets_damage, sets_in}
use Rattle.versions_pool.specs.Maps.{maps_damage, maps_in}

-- the lists `a` and `a`, `b`, which share a cell, as the versions 0 and 2
abbrev pub two_lists : Saved
two_lists = record { names = 0 ∷ 2 ∷ []; roots = 1 ∷ 3 ∷ []; rows = cell (97 ∷ []) ∷ node leaf (0 ∷ []) ∷ cell (98 ∷ []) ∷ node leaf (0 ∷ 2 ∷ []) ∷ [] }

-- the elements of the worked documents are their texts
abbrev texts_in : Bytes → Bytes
texts_in text = text

pub record WorkedLists : Type 0 where
  pub is_text : saved_text lists_format two_lists ≡ codes "{\"format\":\"naipselu-lists\",\"names\":[0,2],\"roots\":[1,3],\"rows\":[[\"c\",\"a\"],[\"l\",[0]],[\"c\",\"b\"],[\"l\",[0,2]]],\"version\":1}"
  pub is_read : lists_in texts_in (codes "{\"format\":\"naipselu-lists\",\"names\":[0,2],\"roots\":[1,3],\"rows\":[[\"c\",\"a\"],[\"l\",[0]],[\"c\",\"b\"],[\"l\",[0,2]]],\"version\":1}")
      ≡ Some (from_entries ((0, (97 ∷ []) ∷ []) ∷ (2, (97 ∷ []) ∷ (98 ∷ []) ∷ []) ∷ []))
  pub is_none : lists_in texts_in (codes "{\"format\":\"naipselu-lists\",\"names\":[],\"roots\":[],\"rows\":[],\"version\":1}") ≡ Some (from_entries [])
  -- two versions may be one list
  pub is_one_twice : lists_in texts_in (codes "{\"format\":\"naipselu-lists\",\"names\":[1,4],\"roots\":[0,0],\"rows\":[[\"l\",[]]],\"version\":1}") ≡ Some (from_entries ((1, []) ∷ (4, []) ∷ []))
  pub is_cut_off : lists_damage (codes "{\"format\":") ≡ Some Json
  pub is_pool : lists_damage (codes "{\"format\":\"ewig-pool\",\"names\":[],\"roots\":[],\"rows\":[],\"version\":1}") ≡ Some Form
  -- the versions in another order, and one twice
  pub is_turned : lists_damage (codes "{\"format\":\"naipselu-lists\",\"names\":[2,0],\"roots\":[0,0],\"rows\":[[\"l\",[]]],\"version\":1}") ≡ Some Form
  pub is_same : lists_damage (codes "{\"format\":\"naipselu-lists\",\"names\":[2,2],\"roots\":[0,0],\"rows\":[[\"l\",[]]],\"version\":1}") ≡ Some Form
  pub is_unnamed : lists_damage (codes "{\"format\":\"naipselu-lists\",\"names\":[2],\"roots\":[0,0],\"rows\":[[\"l\",[]]],\"version\":1}") ≡ Some Form
  pub is_later : lists_damage (codes "{\"format\":\"naipselu-lists\",\"names\":[],\"roots\":[],\"rows\":[[\"q\"]],\"version\":2}") ≡ Some Version
  pub is_row : lists_damage (codes "{\"format\":\"naipselu-lists\",\"names\":[],\"roots\":[],\"rows\":[[\"q\"]],\"version\":1}") ≡ Some Row
  pub is_forward : lists_damage (codes "{\"format\":\"naipselu-lists\",\"names\":[0],\"roots\":[0],\"rows\":[[\"l\",[0]]],\"version\":1}") ≡ Some Link
  pub is_broken : lists_damage (codes "{\"format\":\"naipselu-lists\",\"names\":[0],\"roots\":[1],\"rows\":[[\"c\",\"a\\nb\"],[\"l\",[0]]],\"version\":1}") ≡ Some Text
  pub is_thin : lists_damage (codes "{\"format\":\"naipselu-lists\",\"names\":[0],\"roots\":[1],\"rows\":[[\"l\",[]],[\"i\",1,[0]]],\"version\":1}") ≡ Some Vector
  pub is_cell : lists_damage (codes "{\"format\":\"naipselu-lists\",\"names\":[0],\"roots\":[0],\"rows\":[[\"c\",\"a\"]],\"version\":1}") ≡ Some Kind
  -- a row that no version has, and the rows in another order
  pub is_loose : lists_damage (codes "{\"format\":\"naipselu-lists\",\"names\":[0],\"roots\":[0],\"rows\":[[\"l\",[]],[\"c\",\"a\"]],\"version\":1}") ≡ Some Order
  pub is_out_of_order : lists_damage (codes "{\"format\":\"naipselu-lists\",\"names\":[0],\"roots\":[2],\"rows\":[[\"c\",\"a\"],[\"c\",\"b\"],[\"l\",[1,0]]],\"version\":1}") ≡ Some Order

-- the sets of `a` and of `a`, `b`, which share a cell, as the versions 0 and 2: the code of `b` has the smaller digit
abbrev pub two_sets : Saved
two_sets = record { names = 0 ∷ 2 ∷ []; roots = 1 ∷ 3 ∷ []; rows = cell (97 ∷ []) ∷ node (trie 0 4096 0) (0 ∷ []) ∷ cell (98 ∷ []) ∷ node (trie 0 4128 0) (2 ∷ 0 ∷ []) ∷ [] }

pub record WorkedSets : Type 0 where
  pub is_text : saved_text sets_format two_sets ≡ codes "{\"format\":\"naipselu-sets\",\"names\":[0,2],\"roots\":[1,3],\"rows\":[[\"c\",\"a\"],[\"m\",0,4096,0,[0]],[\"c\",\"b\"],[\"m\",0,4128,0,[2,0]]],\"version\":1}"
  pub is_read : sets_in (slice_cmp nat_cmp) texts_in (codes "{\"format\":\"naipselu-sets\",\"names\":[0,2],\"roots\":[1,3],\"rows\":[[\"c\",\"a\"],[\"m\",0,4096,0,[0]],[\"c\",\"b\"],[\"m\",0,4128,0,[2,0]]],\"version\":1}")
      ≡ Some (from_entries ((0, (97 ∷ []) ∷ []) ∷ (2, (97 ∷ []) ∷ (98 ∷ []) ∷ []) ∷ []))
  pub is_empty : sets_in (slice_cmp nat_cmp) texts_in (codes "{\"format\":\"naipselu-sets\",\"names\":[1,4],\"roots\":[0,0],\"rows\":[[\"m\",0,0,0,[]]],\"version\":1}") ≡ Some (from_entries ((1, []) ∷ (4, []) ∷ []))
  pub is_lists : sets_damage (codes "{\"format\":\"naipselu-lists\",\"names\":[],\"roots\":[],\"rows\":[],\"version\":1}") ≡ Some Form
  -- the key where its digit isn't
  pub is_misplaced : sets_damage (codes "{\"format\":\"naipselu-sets\",\"names\":[0],\"roots\":[1],\"rows\":[[\"c\",\"a\"],[\"m\",0,8192,0,[0]]],\"version\":1}") ≡ Some Trie
  pub is_vector : sets_damage (codes "{\"format\":\"naipselu-sets\",\"names\":[0],\"roots\":[0],\"rows\":[[\"l\",[]]],\"version\":1}") ≡ Some Kind
  -- a map
  pub is_bound : sets_damage (codes "{\"format\":\"naipselu-sets\",\"names\":[0],\"roots\":[2],\"rows\":[[\"c\",\"a\"],[\"p\",[0,0]],[\"m\",0,4096,0,[1]]],\"version\":1}") ≡ Some Kind
  pub is_turned : sets_damage (codes "{\"format\":\"naipselu-sets\",\"names\":[0],\"roots\":[2],\"rows\":[[\"c\",\"a\"],[\"c\",\"b\"],[\"m\",0,4128,0,[1,0]]],\"version\":1}") ≡ Some Order

pub record WorkedMaps : Type 0 where
  -- `a` is bound to `b` in the version 0, and in the version 2 to `b` and `b` to `a`: the cells of keys and of values are apart
  pub is_read : maps_in (slice_cmp nat_cmp) texts_in texts_in (codes "{\"format\":\"naipselu-maps\",\"names\":[0,2],\"roots\":[3,7],\"rows\":[[\"c\",\"a\"],[\"c\",\"b\"],[\"p\",[0,1]],[\"m\",0,4096,0,[2]],[\"c\",\"b\"],[\"c\",\"a\"],[\"p\",[4,5]],[\"m\",0,4128,0,[6,2]]],\"version\":1}")
      ≡ Some (from_entries ((0, (97 ∷ [], 98 ∷ []) ∷ []) ∷ (2, (97 ∷ [], 98 ∷ []) ∷ (98 ∷ [], 97 ∷ []) ∷ []) ∷ []))
  -- a cell that is a key and a value
  pub is_both : maps_damage (codes "{\"format\":\"naipselu-maps\",\"names\":[0],\"roots\":[2],\"rows\":[[\"c\",\"a\"],[\"p\",[0,0]],[\"m\",0,4096,0,[1]]],\"version\":1}") ≡ Some Kind
  pub is_empty : maps_in (slice_cmp nat_cmp) texts_in texts_in (codes "{\"format\":\"naipselu-maps\",\"names\":[1],\"roots\":[0],\"rows\":[[\"m\",0,0,0,[]]],\"version\":1}") ≡ Some (from_entries ((1, []) ∷ []))
  -- a set, and a key where its digit isn't
  pub is_set : maps_damage (codes "{\"format\":\"naipselu-maps\",\"names\":[0],\"roots\":[1],\"rows\":[[\"c\",\"a\"],[\"m\",0,4096,0,[0]]],\"version\":1}") ≡ Some Kind
  pub is_misplaced : maps_damage (codes "{\"format\":\"naipselu-maps\",\"names\":[0],\"roots\":[2],\"rows\":[[\"c\",\"a\"],[\"p\",[0,0]],[\"m\",0,8192,0,[1]]],\"version\":1}") ≡ Some Trie
