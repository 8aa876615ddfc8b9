-- What a line of the shell means: the grammar of its commands.
use Rattle.std.specs.Prelude.{ℕ, Bool, ◌==◌, if◌then◌else◌, List, [], ◌∷◌}
use Rattle.std.specs.Prelude.{Option, Some, None, Result, Ok, Err, codes, bytes_eq}
use Rattle.std.specs.List.{list_any, before_first, after_first}
use Rattle.std.specs.Option.{option_map_or}
use Rattle.std.specs.Map.{lookup}
use Rattle.std.specs.Str.{is_utf8}
use Rattle.elem_core.specs.Naming.{is_name}
use Rattle.shell_terms.specs.Edit.{Bytes, new, add, set, put, del, cat, cut, copy, drop, star, unstar}
use Rattle.shell_terms.specs.Command.{PlainCommand, join_stars, common_stars, other_stars, join_buffers, edit, merge, mark, unmark, back, undo, redo, begin, «end», abort, history, get, len, show, list, stars, marks, same, eqv, stats, made, read, write, save, load, part, chain, indent, dedent, quit}
use Rattle.shell_words.specs.Files.{numbered}
use Rattle.shell_words.specs.declared.BadLine.{BadLine}
use Rattle.shell_words.specs.declared.BadLine.TheVariants as refused
use Rattle.shell_words.specs.Number.{number_of}

-- The byte between two pieces: a space.
abbrev pub is_space : ℕ → Bool
is_space byte = byte == 32

-- The first piece: what stands before the first space, or all where there is none.
unfoldable pub first_piece : List ℕ → List ℕ
first_piece bytes = before_first is_space bytes

-- What stands behind that space, or None where no space is left.
unfoldable pub after_piece : List ℕ → Option (List ℕ)
after_piece bytes = if list_any is_space bytes then Some (after_first is_space bytes) else None

-- What the rest of a line means: the bytes behind the space, or None where the line has ended.
abbrev pub RestMeaning : Type 0
RestMeaning = Option (List ℕ) → Result PlainCommand BadLine

-- A line that is a command by its form is refused where this piece should be a name and isn't.
unfoldable pub if_named : List ℕ → Result PlainCommand BadLine → Result PlainCommand BadLine
if_named piece (Ok command) = if is_name piece then Ok command else Err refused.Name
if_named piece (Err bad) = Err bad

-- The line has ended, and this is the command.
unfoldable pub the_end : PlainCommand → RestMeaning
the_end command None = Ok command
the_end command (Some rest) = Err refused.Command

-- The same of a command on a chain: the file of this number must have a name too.
unfoldable pub the_chain_end : Bytes → ℕ → PlainCommand → RestMeaning
the_chain_end file number command rest = if_named (numbered file number) (the_end command rest)

-- Next comes a piece that is a name.
unfoldable pub a_name : (List ℕ → RestMeaning) → RestMeaning
a_name more None = Err refused.Command
a_name more (Some rest) = if_named (first_piece rest) (more (first_piece rest) (after_piece rest))

-- Next comes a piece that is a number.
unfoldable pub a_number : (ℕ → RestMeaning) → RestMeaning
a_number more None = Err refused.Command
a_number more (Some rest) =
    option_map_or (λ n. more n (after_piece rest)) (number_of (first_piece rest)) (Err refused.Command)

-- All the rest is the text, spaces and all, and may be empty.
unfoldable pub the_text : (List ℕ → PlainCommand) → RestMeaning
the_text command None = Err refused.Command
the_text command (Some rest) = Ok (command rest)

-- Each command: its word, and what follows the word.
unfoldable pub commands : List (List ℕ × RestMeaning)
commands =
    (codes "new", a_name (λ b. the_end (edit (new b))))
    ∷ (codes "add", a_name (λ b. the_text (λ t. edit (add b t))))
    ∷ (codes "set", a_name (λ b. a_number (λ i. the_text (λ t. edit (set b i t)))))
    ∷ (codes "put", a_name (λ b. a_number (λ i. the_text (λ t. edit (put b i t)))))
    ∷ (codes "del", a_name (λ b. a_number (λ i. a_number (λ j. the_end (edit (del b i j))))))
    ∷ (codes "cat", a_name (λ b. a_name (λ c. the_end (edit (cat b c)))))
    ∷ (codes "cut", a_name (λ b. a_number (λ i. a_number (λ j. a_name (λ c. the_end (edit (cut b i j c)))))))
    ∷ (codes "copy", a_name (λ b. a_name (λ c. the_end (edit (copy b c)))))
    ∷ (codes "drop", a_name (λ b. the_end (edit (drop b))))
    ∷ (codes "star", a_name (λ n. the_end (edit (star n))))
    ∷ (codes "unstar", a_name (λ n. the_end (edit (unstar n))))
    ∷ (codes "starmerge", a_name (λ v. the_end (merge join_stars v)))
    ∷ (codes "starboth", a_name (λ v. the_end (merge common_stars v)))
    ∷ (codes "starless", a_name (λ v. the_end (merge other_stars v)))
    ∷ (codes "merge", a_name (λ v. the_end (merge join_buffers v)))
    ∷ (codes "mark", a_name (λ v. the_end (mark v)))
    ∷ (codes "unmark", a_name (λ v. the_end (unmark v)))
    ∷ (codes "back", a_name (λ v. the_end (back v)))
    ∷ (codes "undo", the_end undo)
    ∷ (codes "redo", the_end redo)
    ∷ (codes "begin", the_end begin)
    ∷ (codes "end", the_end end)
    ∷ (codes "abort", the_end abort)
    ∷ (codes "history", a_number (λ n. the_end (history n)))
    ∷ (codes "get", a_name (λ b. a_number (λ i. the_end (get b i))))
    ∷ (codes "len", a_name (λ b. the_end (len b)))
    ∷ (codes "show", a_name (λ b. a_number (λ i. a_number (λ j. the_end (show b i j)))))
    ∷ (codes "list", the_end list)
    ∷ (codes "stars", the_end stars)
    ∷ (codes "marks", the_end marks)
    ∷ (codes "same", a_name (λ b. a_name (λ c. the_end (same b c))))
    ∷ (codes "eqv", a_name (λ v. a_name (λ w. the_end (eqv v w))))
    ∷ (codes "stats", the_end stats)
    ∷ (codes "made", the_end made)
    ∷ (codes "read", a_name (λ b. a_name (λ f. the_end (read b f))))
    ∷ (codes "write", a_name (λ b. a_name (λ f. the_end (write b f))))
    ∷ (codes "save", a_name (λ f. the_end (save f)))
    ∷ (codes "load", a_name (λ f. the_end (load f)))
    ∷ (codes "part", a_name (λ f. a_number (λ k. the_chain_end f k (part f k))))
    ∷ (codes "chain", a_name (λ f. a_number (λ k. the_chain_end f k (chain f k))))
    ∷ (codes "indent", a_number (λ n. a_name (λ f. the_end (indent n f))))
    ∷ (codes "dedent", a_number (λ n. a_name (λ f. the_end (dedent n f))))
    ∷ (codes "quit", the_end quit)
    ∷ []

-- The command of a word and what follows it. A word that isn't in the table is no command.
unfoldable pub command_of : List ℕ → RestMeaning
command_of word rest =
    option_map_or (λ (more : RestMeaning). more rest) (lookup (bytes_eq word) commands) (Err refused.Command)

-- The command that a line gives, or the first refusal that holds: `Utf8`, then `Command`, then `Name`.
unfoldable pub meaning : List ℕ → Result PlainCommand BadLine
meaning line =
    if is_utf8 line then command_of (first_piece line) (after_piece line) else Err refused.Utf8
