-- What a handle owns.
use Rattle.std.specs.Prelude.{Bool, true, false, Option, None, Some}
use base.Fml.{Fml, ffalse, feq, fex}
use denote.RawPtr.{Ptr, null_ptr}
use Rattle.std.specs.declared.alloc.Global.{Global}
use Rattle.std.specs.contracts.impls.GlobalAllocator.TheImpl.{ghosts}
use Rattle.std_alloc.specs.Box.Ownership.{box_owns}
use Rattle.versions_c.specs.declared.store.Store.{Store}
use Rattle.versions_c.specs.contracts.store.Store.{the_row}

-- what a box of the store owns, or nothing and a null pointer
abbrev pub owned : Ptr → Bool → Option Store → Fml
owned p true (Some s) = fex Global (λ a. box_owns (ghosts.dealloc_token a) the_row p s)
owned p true None = ffalse
owned p false (Some s) = ffalse
owned p false None = feq Ptr p null_ptr
