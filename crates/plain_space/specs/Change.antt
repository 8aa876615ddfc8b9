-- Edits of the code as those of the definitions.
use Rattle.elem_core.specs.Shown.{line_bytes, name_bytes}
use Rattle.shell_terms.specs.Edit.{new, add, set, put, del, cat, cut, copy, drop, star, unstar}
use Rattle.shell_terms.specs.Command.{PlainCommand, edit, merge, join_stars, common_stars, other_stars, join_buffers}
use Rattle.plain_space.specs.declared.edit.Edit.{Edit}
use Rattle.plain_space.specs.declared.edit.Edit.TheVariants.{New, Add, Set, Put, Del, Cat, Cut, Copy, Drop, Star, Unstar, StarMerge, StarBoth, StarLess, Merge}

-- The command that carries out the edit, with its names and texts as their bytes.
abbrev pub edit_command : Edit → PlainCommand
edit_command (New name) = edit (new (name_bytes name))
edit_command (Add name text) = edit (add (name_bytes name) (line_bytes text))
edit_command (Set name index text) = edit (set (name_bytes name) index (line_bytes text))
edit_command (Put name index text) = edit (put (name_bytes name) index (line_bytes text))
edit_command (Del name from to) = edit (del (name_bytes name) from to)
edit_command (Cat name other) = edit (cat (name_bytes name) (name_bytes other))
edit_command (Cut name from to other) = edit (cut (name_bytes name) from to (name_bytes other))
edit_command (Copy name other) = edit (copy (name_bytes name) (name_bytes other))
edit_command (Drop name) = edit (drop (name_bytes name))
edit_command (Star name) = edit (star (name_bytes name))
edit_command (Unstar name) = edit (unstar (name_bytes name))
edit_command (StarMerge version) = merge join_stars (name_bytes version)
edit_command (StarBoth version) = merge common_stars (name_bytes version)
edit_command (StarLess version) = merge other_stars (name_bytes version)
edit_command (Merge version) = merge join_buffers (name_bytes version)
