-- What the definitions say of small spaces.
use Rattle.std.specs.Prelude.{◌≡◌, Some, None, codes, [], ◌∷◌}
use Rattle.pool_text.specs.Pool.{settings_by, pool, forms_in, at_present_version}
use Rattle.pool_text.specs.Document.{document, text, pool_in, pool_in_bytes, value_damage, bytes_damage}
use Rattle.pool_text.specs.Documents.{start_pool, two_cells, shared_empties, sub_node, one_line_twice, old_start_pool}
use Rattle.pool_text.specs.Renaming.{IsOfItself}
use Rattle.pool_text.specs.declared.rules.TheConstants.{MOST_HISTORY}
use Rattle.pool_text.specs.declared.damage.Damage.TheVariants.{Json, Form, Version, Bits, Row}

pub record WorkedDocuments : Type 0 where
  pub start_itself : IsOfItself start_pool
  pub two_cells_itself : IsOfItself two_cells
  pub shared_empties_itself : IsOfItself shared_empties
  pub sub_node_itself : IsOfItself sub_node
  pub one_line_twice_itself : IsOfItself one_line_twice
  -- rows are listed in order, whatever links name them
  pub turned : pool 6 (forms_in start_pool) (2 ∷ 3 ∷ 5 ∷ 4 ∷ []) (settings_by 64 MOST_HISTORY) ≡ start_pool
  -- the bits are those of another space
  pub other_bits : value_damage 31 (document start_pool) ≡ Some Bits
  -- the text of the start space, from which its pool is read again
  pub start_text : text start_pool ≡ codes "{\"bits\":64,\"format\":\"ewig-pool\",\"history\":4294967295,\"roots\":[2,3,4,5],\"rows\":[[\"m\",0,0,0,[]],[\"m\",0,0,0,[]],[\"s\",[0,1]],[\"m\",0,0,0,[]],[\"l\",[]],[\"l\",[]]],\"version\":3}"
  pub cut_off : bytes_damage 32 (codes "{\"bits\":32") ≡ Some Json
  pub three_roots : bytes_damage 32 (codes "{\"bits\":32,\"format\":\"ewig-pool\",\"roots\":[2,3,4],\"rows\":[],\"version\":1}") ≡ Some Form
  pub later_version : bytes_damage 32 (codes "{\"bits\":32,\"format\":\"ewig-pool\",\"roots\":[2,3,4,5],\"rows\":[],\"version\":9}") ≡ Some Version
  pub unknown_letter : bytes_damage 32 (codes "{\"bits\":32,\"format\":\"ewig-pool\",\"roots\":[0,0,0,0],\"rows\":[[\"q\",[]]],\"version\":1}") ≡ Some Row
  pub no_damage : bytes_damage 64 (text start_pool) ≡ None
  pub fewer_bits : bytes_damage 32 (text start_pool) ≡ Some Bits
  pub deepest_row : bytes_damage 5 (codes "{\"bits\":5,\"format\":\"ewig-pool\",\"roots\":[0,0,0,0],\"rows\":[[\"m\",12,1,0,[]]],\"version\":2}") ≡ None
  -- a document of the second version says no history, and has the greatest
  pub second : pool_in_bytes (codes "{\"bits\":64,\"format\":\"ewig-pool\",\"roots\":[2,3,4,5],\"rows\":[[\"m\",0,0,0,[]],[\"m\",0,0,0,[]],[\"s\",[0,1]],[\"m\",0,0,0,[]],[\"l\",[]],[\"l\",[]]],\"version\":2}") ≡ Some (record start_pool { version = 2 })
  pub second_bounded : bytes_damage 64 (codes "{\"bits\":64,\"format\":\"ewig-pool\",\"history\":4294967295,\"roots\":[2,3,4,5],\"rows\":[],\"version\":2}") ≡ Some Form
  -- and one of the third version says one that is within it
  pub third_unbounded : bytes_damage 64 (codes "{\"bits\":64,\"format\":\"ewig-pool\",\"roots\":[2,3,4,5],\"rows\":[],\"version\":3}") ≡ Some Form
  pub history_too_great : bytes_damage 64 (codes "{\"bits\":64,\"format\":\"ewig-pool\",\"history\":4294967296,\"roots\":[2,3,4,5],\"rows\":[],\"version\":3}") ≡ Some Form
  pub no_history : pool_in_bytes (codes "{\"bits\":64,\"format\":\"ewig-pool\",\"history\":0,\"roots\":[2,3,4,5],\"rows\":[[\"m\",0,0,0,[]],[\"m\",0,0,0,[]],[\"s\",[0,1]],[\"m\",0,0,0,[]],[\"l\",[]],[\"l\",[]]],\"version\":3}") ≡ Some (record start_pool { history = 0 })
  pub later_bounded : bytes_damage 64 (codes "{\"bits\":64,\"format\":\"ewig-pool\",\"history\":7,\"roots\":[2,3,4,5],\"rows\":[],\"version\":9}") ≡ Some Form
  -- a document of the first version keeps at most 32 bits, and tries go to depth 6 in it
  pub old : bytes_damage 64 (codes "{\"bits\":32,\"format\":\"ewig-pool\",\"roots\":[2,3,4,5],\"rows\":[[\"m\",0,0,0,[]],[\"m\",0,0,0,[]],[\"s\",[0,1]],[\"m\",0,0,0,[]],[\"l\",[]],[\"l\",[]]],\"version\":1}") ≡ None
  pub old_pool : pool_in_bytes (codes "{\"bits\":32,\"format\":\"ewig-pool\",\"roots\":[2,3,4,5],\"rows\":[[\"m\",0,0,0,[]],[\"m\",0,0,0,[]],[\"s\",[0,1]],[\"m\",0,0,0,[]],[\"l\",[]],[\"l\",[]]],\"version\":1}") ≡ Some old_start_pool
  pub old_by_few_bits : bytes_damage 7 (codes "{\"bits\":7,\"format\":\"ewig-pool\",\"roots\":[0,0,0,0],\"rows\":[[\"m\",6,1,0,[]]],\"version\":1}") ≡ None
  pub old_by_more_bits : bytes_damage 7 (codes "{\"bits\":32,\"format\":\"ewig-pool\",\"roots\":[0,0,0,0],\"rows\":[],\"version\":1}") ≡ Some Bits
  pub old_by_all_bits : bytes_damage 64 (codes "{\"bits\":64,\"format\":\"ewig-pool\",\"roots\":[0,0,0,0],\"rows\":[],\"version\":1}") ≡ Some Bits
  pub too_deep : bytes_damage 7 (codes "{\"bits\":7,\"format\":\"ewig-pool\",\"roots\":[0,0,0,0],\"rows\":[[\"m\",7,1,0,[]]],\"version\":1}") ≡ Some Row
  -- the version of a pool is no part of its document
  pub old_written : pool_in (document old_start_pool) ≡ Some (at_present_version old_start_pool)
