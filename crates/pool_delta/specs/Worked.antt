-- What the definitions say of small chains.
use Rattle.std.specs.Prelude.{◌≡◌, None, Some, codes, [], ◌∷◌}
use Rattle.pool_text.specs.Documents.{start_pool, two_cells}
use Rattle.pool_text.specs.Document.{text}
use Rattle.pool_text.specs.declared.damage.Damage.TheVariants.{Json, Form, Version, Bits, Row, Link, Text, Vector, Trie, Kind}
use Rattle.pool_delta.specs.Parts.{part_text, part_in_bytes}
use Rattle.pool_delta.specs.Chains.{chain_pool, with_part, start_damage, more_damage, chain_damage, chain_in}
use Rattle.pool_delta.specs.Delta.{delta}
use Rattle.pool_delta.specs.Documents.{two_cells_more, two_cells_again}

pub record WorkedParts : Type 0 where
  -- two lines more than the start space
  pub is_more : delta start_pool two_cells ≡ two_cells_more
  -- nothing more than the same
  pub is_again : delta two_cells two_cells ≡ two_cells_again
  -- and back to the start space, of whose rows the chain has some
  pub is_back : chain_pool (with_part two_cells (delta two_cells start_pool)) ≡ start_pool
  pub is_more_text : part_text two_cells_more ≡ codes "{\"after\":6,\"bits\":64,\"format\":\"ewig-part\",\"history\":4294967295,\"roots\":[12,1,4,5],\"rows\":[[\"c\",\"a\"],[\"c\",\"x\"],[\"c\",\"x\"],[\"l\",[7,8]],[\"p\",[6,9]],[\"m\",0,4096,0,[10]],[\"s\",[11,0]]],\"version\":3}"
  pub is_again_text : part_text two_cells_again ≡ codes "{\"after\":11,\"bits\":64,\"format\":\"ewig-part\",\"history\":4294967295,\"roots\":[7,8,9,10],\"rows\":[],\"version\":3}"
  pub is_read : part_in_bytes (codes "{\"after\":6,\"bits\":64,\"format\":\"ewig-part\",\"history\":4294967295,\"roots\":[12,1,4,5],\"rows\":[[\"c\",\"a\"],[\"c\",\"x\"],[\"c\",\"x\"],[\"l\",[7,8]],[\"p\",[6,9]],[\"m\",0,4096,0,[10]],[\"s\",[11,0]]],\"version\":3}") ≡ Some two_cells_more
  pub stands : chain_pool (with_part start_pool two_cells_more) ≡ two_cells
  pub stands_again : chain_pool (with_part two_cells two_cells_again) ≡ two_cells
  pub is_chain : chain_in (text start_pool) (codes "{\"after\":6,\"bits\":64,\"format\":\"ewig-part\",\"history\":4294967295,\"roots\":[12,1,4,5],\"rows\":[[\"c\",\"a\"],[\"c\",\"x\"],[\"c\",\"x\"],[\"l\",[7,8]],[\"p\",[6,9]],[\"m\",0,4096,0,[10]],[\"s\",[11,0]]],\"version\":3}" ∷ []) ≡ Some (with_part start_pool two_cells_more)

pub record WorkedChains : Type 0 where
  pub is_whole : chain_damage 64 (text start_pool) [] ≡ None
  pub is_more : chain_damage 64 (text start_pool) (codes "{\"after\":6,\"bits\":64,\"format\":\"ewig-part\",\"history\":4294967295,\"roots\":[12,1,4,5],\"rows\":[[\"c\",\"a\"],[\"c\",\"x\"],[\"c\",\"x\"],[\"l\",[7,8]],[\"p\",[6,9]],[\"m\",0,4096,0,[10]],[\"s\",[11,0]]],\"version\":3}" ∷ []) ≡ None
  pub is_again : chain_damage 64 (text two_cells) (codes "{\"after\":11,\"bits\":64,\"format\":\"ewig-part\",\"history\":4294967295,\"roots\":[7,8,9,10],\"rows\":[],\"version\":3}" ∷ codes "{\"after\":11,\"bits\":64,\"format\":\"ewig-part\",\"history\":4294967295,\"roots\":[7,8,9,10],\"rows\":[],\"version\":3}" ∷ []) ≡ None
  -- the first document has the version that is written, whatever else is wrong with it
  pub is_cut_off : start_damage 64 (codes "{\"bits\":32") ≡ Some Json
  pub is_other_bits : start_damage 63 (text start_pool) ≡ Some Bits
  pub is_first_version : start_damage 64 (codes "{\"bits\":7,\"format\":\"ewig-pool\",\"roots\":[0,0,0,0],\"rows\":[[\"q\"]],\"version\":1}") ≡ Some Version
  pub is_second_version : start_damage 64 (codes "{\"bits\":7,\"format\":\"ewig-pool\",\"roots\":[0,0,0,0],\"rows\":[[\"q\"]],\"version\":2}") ≡ Some Version
  pub is_form : start_damage 64 (codes "{\"bits\":7,\"format\":\"ewig-pool\",\"roots\":[0,0,0,0],\"rows\":[[\"q\"]],\"version\":3}") ≡ Some Form
  pub more_cut_off : more_damage start_pool (codes "{\"bits\":32") ≡ Some Json
  pub more_whole : more_damage start_pool (codes "{\"bits\":64,\"format\":\"ewig-pool\",\"history\":0,\"roots\":[2,3,4,5],\"rows\":[],\"version\":3}") ≡ Some Form
  pub more_format : more_damage start_pool (codes "{\"after\":6,\"bits\":64,\"format\":\"ewig-pool\",\"history\":4294967295,\"roots\":[2,3,4,5],\"rows\":[],\"version\":3}") ≡ Some Form
  pub more_history : more_damage start_pool (codes "{\"after\":6,\"bits\":64,\"format\":\"ewig-part\",\"history\":4294967296,\"roots\":[2,3,4,5],\"rows\":[],\"version\":3}") ≡ Some Form
  pub more_roots : more_damage start_pool (codes "{\"after\":6,\"bits\":64,\"format\":\"ewig-part\",\"history\":4294967295,\"roots\":[2,3,4],\"rows\":[],\"version\":2}") ≡ Some Form
  pub more_version : more_damage start_pool (codes "{\"after\":6,\"bits\":7,\"format\":\"ewig-part\",\"history\":4294967295,\"roots\":[2,3,4,5],\"rows\":[],\"version\":2}") ≡ Some Version
  pub more_bits : more_damage start_pool (codes "{\"after\":6,\"bits\":63,\"format\":\"ewig-part\",\"history\":4294967295,\"roots\":[2,3,4,5],\"rows\":[[\"q\"]],\"version\":3}") ≡ Some Bits
  pub more_row : more_damage start_pool (codes "{\"after\":5,\"bits\":64,\"format\":\"ewig-part\",\"history\":4294967295,\"roots\":[2,3,4,5],\"rows\":[[\"q\"]],\"version\":3}") ≡ Some Row
  pub more_after : more_damage start_pool (codes "{\"after\":5,\"bits\":64,\"format\":\"ewig-part\",\"history\":4294967295,\"roots\":[2,3,4,5],\"rows\":[[\"c\",\"x\\ny\"]],\"version\":3}") ≡ Some Link
  pub more_after_more : more_damage start_pool (codes "{\"after\":5,\"bits\":64,\"format\":\"ewig-part\",\"history\":4294967295,\"roots\":[12,1,4,5],\"rows\":[[\"c\",\"a\"],[\"c\",\"x\"],[\"c\",\"x\"],[\"l\",[7,8]],[\"p\",[6,9]],[\"m\",0,4096,0,[10]],[\"s\",[11,0]]],\"version\":3}") ≡ Some Link
  pub more_forward : more_damage start_pool (codes "{\"after\":6,\"bits\":64,\"format\":\"ewig-part\",\"history\":4294967295,\"roots\":[2,3,4,5],\"rows\":[[\"l\",[6]]],\"version\":3}") ≡ Some Link
  pub more_text : more_damage start_pool (codes "{\"after\":6,\"bits\":64,\"format\":\"ewig-part\",\"history\":4294967295,\"roots\":[2,3,4,5],\"rows\":[[\"c\",\"x\\ny\"]],\"version\":3}") ≡ Some Text
  pub more_vector : more_damage start_pool (codes "{\"after\":6,\"bits\":64,\"format\":\"ewig-part\",\"history\":4294967295,\"roots\":[2,3,4,5],\"rows\":[[\"i\",1,[4]]],\"version\":3}") ≡ Some Vector
  pub more_trie : more_damage start_pool (codes "{\"after\":6,\"bits\":64,\"format\":\"ewig-part\",\"history\":4294967295,\"roots\":[2,3,4,5],\"rows\":[[\"c\",\"a\"],[\"m\",1,16,0,[6]]],\"version\":3}") ≡ Some Trie
  pub more_kind : more_damage start_pool (codes "{\"after\":6,\"bits\":64,\"format\":\"ewig-part\",\"history\":4294967295,\"roots\":[3,3,4,5],\"rows\":[],\"version\":3}") ≡ Some Kind
  pub more_undo : more_damage start_pool (codes "{\"after\":6,\"bits\":64,\"format\":\"ewig-part\",\"history\":0,\"roots\":[2,3,6,5],\"rows\":[[\"l\",[2]]],\"version\":3}") ≡ Some Kind
  -- rows that nothing reaches, and roots in any order, are no damage
  pub more_loose : more_damage start_pool (codes "{\"after\":6,\"bits\":64,\"format\":\"ewig-part\",\"history\":4294967295,\"roots\":[2,3,4,5],\"rows\":[[\"c\",\"z\"]],\"version\":3}") ≡ None
  pub more_turned : more_damage start_pool (codes "{\"after\":6,\"bits\":64,\"format\":\"ewig-part\",\"history\":4294967295,\"roots\":[2,0,5,5],\"rows\":[],\"version\":3}") ≡ None
