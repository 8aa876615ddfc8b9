-- What a contract sees of a map or a set.
use Rattle.std.specs.Prelude.{ℕ}

-- the root of a trie, and how many bits of the codes it goes by
pub record Root : Type 0 where
  pub root : ℕ
  pub bits : ℕ
