use Rattle.std.proofs.Common.{◌≡◌, drop, map}
use Rattle.std.specs.Prelude.{string_bytes}
use Rattle.std.specs.List.{list_any}
use Rattle.shell_options.specs.Split.{AreWords, is_bare}
use Rattle.shell_options.proofs.has_hyphens.Given as goal

-- what is left decides
abbrev pub invariant-loop-word : goal.invariant-loop-word
invariant-loop-word l =
    (list_any is_bare (map string_bytes (drop l.word-index l.fn.words)) ≡ list_any is_bare (map string_bytes l.fn.words))
    × (AreWords (map string_bytes (drop l.word-index l.fn.words)) → AreWords (map string_bytes l.fn.words))
