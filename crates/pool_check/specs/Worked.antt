-- What the tests say of small pools.
use Rattle.std.specs.Prelude.{◌≡◌, Some, None, codes}
use Rattle.pool_text.specs.Documents.{start_pool, two_cells, shared_empties, sub_node, one_line_twice, old_start_pool, old_two_cells, old_sub_node}
use Rattle.pool_text.specs.Document.{text}
use Rattle.pool_text.specs.Rules.{first_rules, present_rules}
use Rattle.pool_text.specs.declared.damage.Damage.TheVariants.{Json, Form, Version, Bits, Row, Link, Text, Vector, Trie, Kind, Order}
use Rattle.pool_check.specs.Documents.{chained, old_chained, full_history, long_history, one_undone, tall_row, long_pair, forward_link, root_past_end, broken_text, empty_leaf_below, overfull_history, lone_below, two_at_one, wrong_position, turned_chain, trie_for_state, loose_row, turned_roots, turned_lines}
use Rattle.pool_check.specs.Damages.{open_damage, damage_by, damage, document_damage}

-- pools that pass every test
pub record UndamagedPools : Type 0 where
  pub is_start : damage start_pool ≡ None
  pub is_two_cells : damage two_cells ≡ None
  pub is_shared_empties : damage shared_empties ≡ None
  pub is_sub_node : damage sub_node ≡ None
  pub is_one_line_twice : damage one_line_twice ≡ None
  pub is_chained : damage chained ≡ None
  pub is_full_history : damage full_history ≡ None
  pub is_one_undone : damage (one_undone 1) ≡ None
  -- by the rules of the first version
  pub is_old_start : damage_by first_rules old_start_pool ≡ None
  pub is_old_two_cells : damage_by first_rules old_two_cells ≡ None
  pub is_old_sub_node : damage_by first_rules old_sub_node ≡ None
  pub is_old_chained : damage_by first_rules old_chained ≡ None

-- pools that fail a test and pass those before it
pub record DamagedPools : Type 0 where
  pub is_tall_row : damage tall_row ≡ Some Row
  pub is_long_pair : damage long_pair ≡ Some Row
  pub is_forward_link : damage forward_link ≡ Some Link
  pub is_root_past_end : damage root_past_end ≡ Some Link
  pub is_broken_text : damage broken_text ≡ Some Text
  pub is_empty_leaf_below : damage empty_leaf_below ≡ Some Vector
  pub is_overfull_history : damage overfull_history ≡ Some Vector
  pub is_lone_below : damage lone_below ≡ Some Trie
  pub is_two_at_one : damage two_at_one ≡ Some Trie
  pub is_wrong_position : damage wrong_position ≡ Some Trie
  pub is_turned_chain : damage turned_chain ≡ Some Trie
  pub is_trie_for_state : damage trie_for_state ≡ Some Kind
  -- undo is longer than the pool's history
  pub is_one_undone_of_none : damage (one_undone 0) ≡ Some Kind
  pub is_long_history : damage long_history ≡ Some Kind
  pub is_loose_row : damage loose_row ≡ Some Order
  pub is_turned_roots : damage turned_roots ≡ Some Order
  pub is_turned_lines : damage turned_lines ≡ Some Order
  -- below the first digit the rules of one version don't fit the other
  pub is_old_sub_node : damage old_sub_node ≡ Some Trie
  pub is_old_chained : damage old_chained ≡ Some Trie
  pub is_later_sub_node : damage_by first_rules sub_node ≡ Some Trie
  pub is_later_chained : damage_by first_rules chained ≡ Some Row
  -- the tests `Link` to `Kind` ask nothing of the order
  pub is_open_loose_row : open_damage present_rules loose_row ≡ None
  pub is_open_turned_roots : open_damage present_rules turned_roots ≡ None

-- documents that fail each of the tests, and one that fails none
pub record WorkedDamages : Type 0 where
  pub is_start : document_damage 64 (text start_pool) ≡ None
  pub is_cut_off : document_damage 32 (codes "{\"bits\":32") ≡ Some Json
  pub is_three_roots : document_damage 32 (codes "{\"bits\":32,\"format\":\"ewig-pool\",\"roots\":[2,3,4],\"rows\":[],\"version\":1}") ≡ Some Form
  pub is_later_version : document_damage 32 (codes "{\"bits\":32,\"format\":\"ewig-pool\",\"roots\":[2,3,4,5],\"rows\":[],\"version\":9}") ≡ Some Version
  pub is_other_bits : document_damage 63 (text start_pool) ≡ Some Bits
  pub is_tall_row : document_damage 64 (text tall_row) ≡ Some Row
  pub is_tall_row_by_other_bits : document_damage 63 (text tall_row) ≡ Some Bits
  pub is_forward_link : document_damage 64 (text forward_link) ≡ Some Link
  pub is_broken_text : document_damage 64 (text broken_text) ≡ Some Text
  pub is_empty_leaf_below : document_damage 64 (text empty_leaf_below) ≡ Some Vector
  pub is_lone_below : document_damage 64 (text lone_below) ≡ Some Trie
  pub is_trie_for_state : document_damage 64 (text trie_for_state) ≡ Some Kind
  pub is_one_undone_of_none : document_damage 64 (text (one_undone 0)) ≡ Some Kind
  pub is_loose_row : document_damage 64 (text loose_row) ≡ Some Order
  pub is_turned_roots : document_damage 64 (text turned_roots) ≡ Some Order
  -- in documents of the first version, of which the bits are at most 32
  pub is_old_start : document_damage 64 (codes "{\"bits\":32,\"format\":\"ewig-pool\",\"roots\":[2,3,4,5],\"rows\":[[\"m\",0,0,0,[]],[\"m\",0,0,0,[]],[\"s\",[0,1]],[\"m\",0,0,0,[]],[\"l\",[]],[\"l\",[]]],\"version\":1}") ≡ None
  pub is_old_by_few_bits : document_damage 5 (codes "{\"bits\":5,\"format\":\"ewig-pool\",\"roots\":[2,3,4,5],\"rows\":[[\"m\",0,0,0,[]],[\"m\",0,0,0,[]],[\"s\",[0,1]],[\"m\",0,0,0,[]],[\"l\",[]],[\"l\",[]]],\"version\":1}") ≡ None
  pub is_old_by_other_bits : document_damage 5 (codes "{\"bits\":32,\"format\":\"ewig-pool\",\"roots\":[2,3,4,5],\"rows\":[],\"version\":1}") ≡ Some Bits
  pub is_old_sub_node : document_damage 64 (codes "{\"bits\":32,\"format\":\"ewig-pool\",\"roots\":[9,10,11,12],\"rows\":[[\"c\",\"a\"],[\"l\",[]],[\"p\",[0,1]],[\"c\",\"A\"],[\"l\",[]],[\"p\",[3,4]],[\"m\",1,4194816,0,[2,5]],[\"m\",0,0,4096,[6]],[\"m\",0,0,0,[]],[\"s\",[7,8]],[\"m\",0,0,0,[]],[\"l\",[]],[\"l\",[]]],\"version\":1}") ≡ None
  pub is_later_sub_node : document_damage 32 (codes "{\"bits\":32,\"format\":\"ewig-pool\",\"roots\":[9,10,11,12],\"rows\":[[\"c\",\"a\"],[\"l\",[]],[\"p\",[0,1]],[\"c\",\"A\"],[\"l\",[]],[\"p\",[3,4]],[\"m\",1,8388624,0,[2,5]],[\"m\",0,0,4096,[6]],[\"m\",0,0,0,[]],[\"s\",[7,8]],[\"m\",0,0,0,[]],[\"l\",[]],[\"l\",[]]],\"version\":1}") ≡ Some Trie
