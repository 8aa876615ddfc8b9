use Rattle.std.proofs.Common.{◌≡◌, ◌-◌}
use denote.Text.{Utf8}
use denote.Shadow.{shadow}
use Rattle.pool_map.specs.Spaces.{dedented}
use Rattle.pool_map.proofs.spaces.without_spaces.Given as goal

abbrev pub invariant-loop-space : goal.invariant-loop-space
invariant-loop-space l = shadow (Utf8 l.rest) × (dedented l.most l.text ≡ dedented (l.most - l._space) l.rest)
