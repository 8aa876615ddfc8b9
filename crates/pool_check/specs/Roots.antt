-- What the roots of a pool have to be, where that is handed in.
use Rattle.std.specs.Prelude.{Bool, List}
use Rattle.pool_text.specs.Pool.{forms_in, row_count}
use Rattle.pool_text.specs.declared.pool.Pool.{Pool}
use Rattle.pool_check.specs.declared.root.RootKind.{RootKind}
pub use Rattle.pool_check.specs.Kinds.{is_of, are_of}

-- whether a pool's roots are of these kinds
unfoldable pub roots_are_of : List RootKind → Pool → Bool
roots_are_of kinds P = are_of (row_count P) (forms_in P) kinds P.roots
