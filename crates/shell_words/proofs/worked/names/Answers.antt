use Rattle.std.proofs.Common.{◌≡◌, ◌++◌, ◌<◌, ℕ, true, replicate, codes, refl, rules, arith}
use Rattle.std.specs.Str.{is_utf8}
use Rattle.std.proofs.lemmas.List.Elements.{All-append, All-replicate}
use Rattle.std.proofs.lemmas.Str.Ascii.{IsAscii-from_all}
use Rattle.std.proofs.lemmas.Str.{IsUtf8-from_ascii, is_utf8-from_IsUtf8}
use Rattle.elem_core.specs.Naming.{is_name}
use Rattle.shell_words.specs.Grammar.{meaning, first_piece, after_piece, command_of, commands, the_end, a_name, if_named}
use Rattle.shell_words.proofs.worked.names.Goals as goal

-- such a line is a text
is_text : (n : ℕ) → is_utf8 (codes "new " ++ replicate n 97) ≡ true
is_text n =
    let line = codes "new " ++ replicate n 97 in
    is_utf8-from_IsUtf8 line (IsUtf8-from_ascii line (IsAscii-from_all line (All-append (λ (b : ℕ). b < 128) (codes "new ") (replicate n 97) (search rules) (All-replicate (λ (b : ℕ). b < 128) n 97 (omega arith)))))

pub returns : goal.returns
unfolding meaning first_piece after_piece command_of commands the_end a_name if_named is_name
returns c = record { longest = rw (is_text 64) refl; longer = rw (is_text 65) refl }
