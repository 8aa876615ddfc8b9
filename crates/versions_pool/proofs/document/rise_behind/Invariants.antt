use Rattle.std.proofs.Common.{◌≡◌, drop}
use Rattle.versions_pool.specs.Saved.{rise_after}
use Rattle.versions_pool.proofs.document.rise_behind.Given as goal

abbrev pub invariant-loop-name : goal.invariant-loop-name
invariant-loop-name l = rise_after l.fn.first l.fn.rest ≡ rise_after l.last (drop l.name-index l.fn.rest)
