use Rattle.std.proofs.Common.{◌≡◌, ◌∙◌, sym, refl, ap, None, bytes_eq, rules}
use Rattle.std.specs.Map.{lookup}
use Rattle.shell_terms.specs.Edit.{new, add, set, put, del, cat, cut, copy, drop, star, unstar}
use Rattle.shell_terms.specs.Command.{edit, merge, join_stars, common_stars, other_stars, join_buffers, mark, unmark, back, undo, redo, begin, «end», abort, history, get, len, show, list, stars, marks, same, eqv, stats, made, read, write, save, load, part, chain, indent, dedent, quit}
use Rattle.elem_core.specs.Shown.{name_bytes, line_bytes}
use Rattle.shell_words.specs.Grammar.{commands}
use Rattle.shell_words.specs.Shown.{plain_command}
use Rattle.shell_words.proofs.CommandLemmas.{answers_word, meaning-unknown, other_word}
use Rattle.shell_words.proofs.read_text.Goals as goal

pub returns-in-add : goal.returns-in-add
unfolding commands
returns-in-add c =
    answers_word c.args.text.now _ _ _ c.name_and_text.result c.map.result _ (λ x. edit (add (name_bytes x.0) (line_bytes x.1)))
    c.utf8.text (sym c.split_piece.ensures.piece ∙ c.in-add.is) refl c.split_piece.ensures.rest (c.name_and_text.ensures (λ b t. edit (add b t)))
    c.map.ensures.cases (λ x command is. search rules)

pub returns-in-history : goal.returns-in-history
unfolding commands
returns-in-history c =
    answers_word c.args.text.now _ _ _ c.number.result c.map-in-history.result _ (λ n. history n)
    c.utf8.text (sym c.split_piece.ensures.piece ∙ c.in-history.is) refl c.split_piece.ensures.rest (c.number.ensures history)
    c.map-in-history.ensures.cases (λ x command is. search rules)

pub returns-in-get : goal.returns-in-get
unfolding commands
returns-in-get c =
    answers_word c.args.text.now _ _ _ c.name_and_number.result c.map-in-get.result _ (λ x. get (name_bytes x.0) x.1)
    c.utf8.text (sym c.split_piece.ensures.piece ∙ c.in-get.is) refl c.split_piece.ensures.rest (c.name_and_number.ensures get)
    c.map-in-get.ensures.cases (λ x command is. search rules)

pub returns-in-set : goal.returns-in-set
unfolding commands
returns-in-set c =
    answers_word c.args.text.now _ _ _ c.name_number_and_text.result c.map-in-set.result _ (λ x. edit (set (name_bytes x.0) x.1 (line_bytes x.2)))
    c.utf8.text (sym c.split_piece.ensures.piece ∙ c.in-set.is) refl c.split_piece.ensures.rest (c.name_number_and_text.ensures (λ b i t. edit (set b i t)))
    c.map-in-set.ensures.cases (λ x command is. search rules)

pub returns-in-put : goal.returns-in-put
unfolding commands
returns-in-put c =
    answers_word c.args.text.now _ _ _ c.name_number_and_text-in-put.result c.map-in-put.result _ (λ x. edit (put (name_bytes x.0) x.1 (line_bytes x.2)))
    c.utf8.text (sym c.split_piece.ensures.piece ∙ c.in-put.is) refl c.split_piece.ensures.rest (c.name_number_and_text-in-put.ensures (λ b i t. edit (put b i t)))
    c.map-in-put.ensures.cases (λ x command is. search rules)

pub returns-in-del : goal.returns-in-del
unfolding commands
returns-in-del c =
    answers_word c.args.text.now _ _ _ c.name_and_range.result c.map-in-del.result _ (λ x. edit (del (name_bytes x.0) x.1 x.2))
    c.utf8.text (sym c.split_piece.ensures.piece ∙ c.in-del.is) refl c.split_piece.ensures.rest (c.name_and_range.ensures (λ b i j. edit (del b i j)))
    c.map-in-del.ensures.cases (λ x command is. search rules)

pub returns-in-len : goal.returns-in-len
unfolding commands
returns-in-len c =
    answers_word c.args.text.now _ _ _ c.name.result c.map-in-len.result _ (λ b. len (name_bytes b))
    c.utf8.text (sym c.split_piece.ensures.piece ∙ c.in-len.is) refl c.split_piece.ensures.rest (c.name.ensures len)
    c.map-in-len.ensures.cases (λ x command is. ap plain_command is)

pub returns-in-show : goal.returns-in-show
unfolding commands
returns-in-show c =
    answers_word c.args.text.now _ _ _ c.name_and_range-in-show.result c.map-in-show.result _ (λ x. show (name_bytes x.0) x.1 x.2)
    c.utf8.text (sym c.split_piece.ensures.piece ∙ c.in-show.is) refl c.split_piece.ensures.rest (c.name_and_range-in-show.ensures show)
    c.map-in-show.ensures.cases (λ x command is. search rules)

pub returns-in-undo : goal.returns-in-undo
unfolding commands
returns-in-undo c =
    answers_word c.args.text.now _ _ _ c.nothing.result c.map-in-undo.result _ (λ _. undo)
    c.utf8.text (sym c.split_piece.ensures.piece ∙ c.in-undo.is) refl c.split_piece.ensures.rest (c.nothing.ensures undo)
    c.map-in-undo.ensures.cases (λ x command is. search rules)

pub returns-in-redo : goal.returns-in-redo
unfolding commands
returns-in-redo c =
    answers_word c.args.text.now _ _ _ c.nothing-in-redo.result c.map-in-redo.result _ (λ _. redo)
    c.utf8.text (sym c.split_piece.ensures.piece ∙ c.in-redo.is) refl c.split_piece.ensures.rest (c.nothing-in-redo.ensures redo)
    c.map-in-redo.ensures.cases (λ x command is. search rules)

pub returns-in-new : goal.returns-in-new
unfolding commands
returns-in-new c =
    answers_word c.args.text.now _ _ _ c.name-in-new.result c.map-in-new.result _ (λ b. edit (new (name_bytes b)))
    c.utf8.text (sym c.split_piece.ensures.piece ∙ c.in-new.is) refl c.split_piece.ensures.rest (c.name-in-new.ensures (λ b. edit (new b)))
    c.map-in-new.ensures.cases (λ x command is. search rules)

pub returns-in-cat : goal.returns-in-cat
unfolding commands
returns-in-cat c =
    answers_word c.args.text.now _ _ _ c.two_names.result c.map-in-cat.result _ (λ x. edit (cat (name_bytes x.0) (name_bytes x.1)))
    c.utf8.text (sym c.split_piece.ensures.piece ∙ c.in-cat.is) refl c.split_piece.ensures.rest (c.two_names.ensures (λ b d. edit (cat b d)))
    c.map-in-cat.ensures.cases (λ x command is. search rules)

pub returns-in-cut : goal.returns-in-cut
unfolding commands
returns-in-cut c =
    answers_word c.args.text.now _ _ _ c.name_range_and_name.result c.map-in-cut.result _ (λ x. edit (cut (name_bytes x.0) x.1 x.2 (name_bytes x.3)))
    c.utf8.text (sym c.split_piece.ensures.piece ∙ c.in-cut.is) refl c.split_piece.ensures.rest (c.name_range_and_name.ensures (λ b i j d. edit (cut b i j d)))
    c.map-in-cut.ensures.cases (λ x command is. search rules)

pub returns-in-copy : goal.returns-in-copy
unfolding commands
returns-in-copy c =
    answers_word c.args.text.now _ _ _ c.two_names-in-copy.result c.map-in-copy.result _ (λ x. edit (copy (name_bytes x.0) (name_bytes x.1)))
    c.utf8.text (sym c.split_piece.ensures.piece ∙ c.in-copy.is) refl c.split_piece.ensures.rest (c.two_names-in-copy.ensures (λ b d. edit (copy b d)))
    c.map-in-copy.ensures.cases (λ x command is. search rules)

pub returns-in-drop : goal.returns-in-drop
unfolding commands
returns-in-drop c =
    answers_word c.args.text.now _ _ _ c.name-in-drop.result c.map-in-drop.result _ (λ b. edit (drop (name_bytes b)))
    c.utf8.text (sym c.split_piece.ensures.piece ∙ c.in-drop.is) refl c.split_piece.ensures.rest (c.name-in-drop.ensures (λ b. edit (drop b)))
    c.map-in-drop.ensures.cases (λ x command is. search rules)

pub returns-in-star : goal.returns-in-star
unfolding commands
returns-in-star c =
    answers_word c.args.text.now _ _ _ c.name-in-star.result c.map-in-star.result _ (λ b. edit (star (name_bytes b)))
    c.utf8.text (sym c.split_piece.ensures.piece ∙ c.in-star.is) refl c.split_piece.ensures.rest (c.name-in-star.ensures (λ b. edit (star b)))
    c.map-in-star.ensures.cases (λ x command is. search rules)

pub returns-in-unstar : goal.returns-in-unstar
unfolding commands
returns-in-unstar c =
    answers_word c.args.text.now _ _ _ c.name-in-unstar.result c.map-in-unstar.result _ (λ b. edit (unstar (name_bytes b)))
    c.utf8.text (sym c.split_piece.ensures.piece ∙ c.in-unstar.is) refl c.split_piece.ensures.rest (c.name-in-unstar.ensures (λ b. edit (unstar b)))
    c.map-in-unstar.ensures.cases (λ x command is. search rules)

pub returns-in-starmerge : goal.returns-in-starmerge
unfolding commands
returns-in-starmerge c =
    answers_word c.args.text.now _ _ _ c.name-in-starmerge.result c.map-in-starmerge.result _ (λ v. merge join_stars (name_bytes v))
    c.utf8.text (sym c.split_piece.ensures.piece ∙ c.in-starmerge.is) refl c.split_piece.ensures.rest (c.name-in-starmerge.ensures (merge join_stars))
    c.map-in-starmerge.ensures.cases (λ x command is. search rules)

pub returns-in-starboth : goal.returns-in-starboth
unfolding commands
returns-in-starboth c =
    answers_word c.args.text.now _ _ _ c.name-in-starboth.result c.map-in-starboth.result _ (λ v. merge common_stars (name_bytes v))
    c.utf8.text (sym c.split_piece.ensures.piece ∙ c.in-starboth.is) refl c.split_piece.ensures.rest (c.name-in-starboth.ensures (merge common_stars))
    c.map-in-starboth.ensures.cases (λ x command is. search rules)

pub returns-in-starless : goal.returns-in-starless
unfolding commands
returns-in-starless c =
    answers_word c.args.text.now _ _ _ c.name-in-starless.result c.map-in-starless.result _ (λ v. merge other_stars (name_bytes v))
    c.utf8.text (sym c.split_piece.ensures.piece ∙ c.in-starless.is) refl c.split_piece.ensures.rest (c.name-in-starless.ensures (merge other_stars))
    c.map-in-starless.ensures.cases (λ x command is. search rules)

pub returns-in-merge : goal.returns-in-merge
unfolding commands
returns-in-merge c =
    answers_word c.args.text.now _ _ _ c.name-in-merge.result c.map-in-merge.result _ (λ v. merge join_buffers (name_bytes v))
    c.utf8.text (sym c.split_piece.ensures.piece ∙ c.in-merge.is) refl c.split_piece.ensures.rest (c.name-in-merge.ensures (merge join_buffers))
    c.map-in-merge.ensures.cases (λ x command is. search rules)

pub returns-in-mark : goal.returns-in-mark
unfolding commands
returns-in-mark c =
    answers_word c.args.text.now _ _ _ c.name-in-mark.result c.map-in-mark.result _ (λ b. mark (name_bytes b))
    c.utf8.text (sym c.split_piece.ensures.piece ∙ c.in-mark.is) refl c.split_piece.ensures.rest (c.name-in-mark.ensures mark)
    c.map-in-mark.ensures.cases (λ x command is. ap plain_command is)

pub returns-in-unmark : goal.returns-in-unmark
unfolding commands
returns-in-unmark c =
    answers_word c.args.text.now _ _ _ c.name-in-unmark.result c.map-in-unmark.result _ (λ b. unmark (name_bytes b))
    c.utf8.text (sym c.split_piece.ensures.piece ∙ c.in-unmark.is) refl c.split_piece.ensures.rest (c.name-in-unmark.ensures unmark)
    c.map-in-unmark.ensures.cases (λ x command is. ap plain_command is)

pub returns-in-back : goal.returns-in-back
unfolding commands
returns-in-back c =
    answers_word c.args.text.now _ _ _ c.name-in-back.result c.map-in-back.result _ (λ b. back (name_bytes b))
    c.utf8.text (sym c.split_piece.ensures.piece ∙ c.in-back.is) refl c.split_piece.ensures.rest (c.name-in-back.ensures back)
    c.map-in-back.ensures.cases (λ x command is. ap plain_command is)

pub returns-in-begin : goal.returns-in-begin
unfolding commands
returns-in-begin c =
    answers_word c.args.text.now _ _ _ c.nothing-in-begin.result c.map-in-begin.result _ (λ _. begin)
    c.utf8.text (sym c.split_piece.ensures.piece ∙ c.in-begin.is) refl c.split_piece.ensures.rest (c.nothing-in-begin.ensures begin)
    c.map-in-begin.ensures.cases (λ x command is. search rules)

pub returns-in-end : goal.returns-in-end
unfolding commands
returns-in-end c =
    answers_word c.args.text.now _ _ _ c.nothing-in-end.result c.map-in-end.result _ (λ _. end)
    c.utf8.text (sym c.split_piece.ensures.piece ∙ c.in-end.is) refl c.split_piece.ensures.rest (c.nothing-in-end.ensures end)
    c.map-in-end.ensures.cases (λ x command is. search rules)

pub returns-in-abort : goal.returns-in-abort
unfolding commands
returns-in-abort c =
    answers_word c.args.text.now _ _ _ c.nothing-in-abort.result c.map-in-abort.result _ (λ _. abort)
    c.utf8.text (sym c.split_piece.ensures.piece ∙ c.in-abort.is) refl c.split_piece.ensures.rest (c.nothing-in-abort.ensures abort)
    c.map-in-abort.ensures.cases (λ x command is. search rules)

pub returns-in-list : goal.returns-in-list
unfolding commands
returns-in-list c =
    answers_word c.args.text.now _ _ _ c.nothing-in-list.result c.map-in-list.result _ (λ _. list)
    c.utf8.text (sym c.split_piece.ensures.piece ∙ c.in-list.is) refl c.split_piece.ensures.rest (c.nothing-in-list.ensures list)
    c.map-in-list.ensures.cases (λ x command is. search rules)

pub returns-in-stars : goal.returns-in-stars
unfolding commands
returns-in-stars c =
    answers_word c.args.text.now _ _ _ c.nothing-in-stars.result c.map-in-stars.result _ (λ _. stars)
    c.utf8.text (sym c.split_piece.ensures.piece ∙ c.in-stars.is) refl c.split_piece.ensures.rest (c.nothing-in-stars.ensures stars)
    c.map-in-stars.ensures.cases (λ x command is. search rules)

pub returns-in-marks : goal.returns-in-marks
unfolding commands
returns-in-marks c =
    answers_word c.args.text.now _ _ _ c.nothing-in-marks.result c.map-in-marks.result _ (λ _. marks)
    c.utf8.text (sym c.split_piece.ensures.piece ∙ c.in-marks.is) refl c.split_piece.ensures.rest (c.nothing-in-marks.ensures marks)
    c.map-in-marks.ensures.cases (λ x command is. search rules)

pub returns-in-same : goal.returns-in-same
unfolding commands
returns-in-same c =
    answers_word c.args.text.now _ _ _ c.two_names-in-same.result c.map-in-same.result _ (λ x. same (name_bytes x.0) (name_bytes x.1))
    c.utf8.text (sym c.split_piece.ensures.piece ∙ c.in-same.is) refl c.split_piece.ensures.rest (c.two_names-in-same.ensures same)
    c.map-in-same.ensures.cases (λ x command is. search rules)

pub returns-in-eqv : goal.returns-in-eqv
unfolding commands
returns-in-eqv c =
    answers_word c.args.text.now _ _ _ c.two_names-in-eqv.result c.map-in-eqv.result _ (λ x. eqv (name_bytes x.0) (name_bytes x.1))
    c.utf8.text (sym c.split_piece.ensures.piece ∙ c.in-eqv.is) refl c.split_piece.ensures.rest (c.two_names-in-eqv.ensures eqv)
    c.map-in-eqv.ensures.cases (λ x command is. search rules)

pub returns-in-stats : goal.returns-in-stats
unfolding commands
returns-in-stats c =
    answers_word c.args.text.now _ _ _ c.nothing-in-stats.result c.map-in-stats.result _ (λ _. stats)
    c.utf8.text (sym c.split_piece.ensures.piece ∙ c.in-stats.is) refl c.split_piece.ensures.rest (c.nothing-in-stats.ensures stats)
    c.map-in-stats.ensures.cases (λ x command is. search rules)

pub returns-in-made : goal.returns-in-made
unfolding commands
returns-in-made c =
    answers_word c.args.text.now _ _ _ c.nothing-in-made.result c.map-in-made.result _ (λ _. made)
    c.utf8.text (sym c.split_piece.ensures.piece ∙ c.in-made.is) refl c.split_piece.ensures.rest (c.nothing-in-made.ensures made)
    c.map-in-made.ensures.cases (λ x command is. search rules)

pub returns-in-read : goal.returns-in-read
unfolding commands
returns-in-read c =
    answers_word c.args.text.now _ _ _ c.two_names-in-read.result c.map-in-read.result _ (λ x. read (name_bytes x.0) (name_bytes x.1))
    c.utf8.text (sym c.split_piece.ensures.piece ∙ c.in-read.is) refl c.split_piece.ensures.rest (c.two_names-in-read.ensures read)
    c.map-in-read.ensures.cases (λ x command is. search rules)

pub returns-in-write : goal.returns-in-write
unfolding commands
returns-in-write c =
    answers_word c.args.text.now _ _ _ c.two_names-in-write.result c.map-in-write.result _ (λ x. write (name_bytes x.0) (name_bytes x.1))
    c.utf8.text (sym c.split_piece.ensures.piece ∙ c.in-write.is) refl c.split_piece.ensures.rest (c.two_names-in-write.ensures write)
    c.map-in-write.ensures.cases (λ x command is. search rules)

pub returns-in-save : goal.returns-in-save
unfolding commands
returns-in-save c =
    answers_word c.args.text.now _ _ _ c.name-in-save.result c.map-in-save.result _ (λ f. save (name_bytes f))
    c.utf8.text (sym c.split_piece.ensures.piece ∙ c.in-save.is) refl c.split_piece.ensures.rest (c.name-in-save.ensures save)
    c.map-in-save.ensures.cases (λ x command is. ap plain_command is)

pub returns-in-load : goal.returns-in-load
unfolding commands
returns-in-load c =
    answers_word c.args.text.now _ _ _ c.name-in-load.result c.map-in-load.result _ (λ f. load (name_bytes f))
    c.utf8.text (sym c.split_piece.ensures.piece ∙ c.in-load.is) refl c.split_piece.ensures.rest (c.name-in-load.ensures load)
    c.map-in-load.ensures.cases (λ x command is. ap plain_command is)

pub returns-in-part : goal.returns-in-part
unfolding commands
returns-in-part c =
    answers_word c.args.text.now _ _ _ c.chain.result c.map-in-part.result _ (λ x. part (name_bytes x.0) x.1)
    c.utf8.text (sym c.split_piece.ensures.piece ∙ c.in-part.is) refl c.split_piece.ensures.rest (c.chain.ensures part)
    c.map-in-part.ensures.cases (λ x command is. search rules)

pub returns-in-chain : goal.returns-in-chain
unfolding commands
returns-in-chain c =
    answers_word c.args.text.now _ _ _ c.chain-in-chain.result c.map-in-chain.result _ (λ x. chain (name_bytes x.0) x.1)
    c.utf8.text (sym c.split_piece.ensures.piece ∙ c.in-chain.is) refl c.split_piece.ensures.rest (c.chain-in-chain.ensures chain)
    c.map-in-chain.ensures.cases (λ x command is. search rules)

pub returns-in-indent : goal.returns-in-indent
unfolding commands
returns-in-indent c =
    answers_word c.args.text.now _ _ _ c.number_and_name.result c.map-in-indent.result _ (λ x. indent x.0 (name_bytes x.1))
    c.utf8.text (sym c.split_piece.ensures.piece ∙ c.in-indent.is) refl c.split_piece.ensures.rest (c.number_and_name.ensures indent)
    c.map-in-indent.ensures.cases (λ x command is. search rules)

pub returns-in-dedent : goal.returns-in-dedent
unfolding commands
returns-in-dedent c =
    answers_word c.args.text.now _ _ _ c.number_and_name-in-dedent.result c.map-in-dedent.result _ (λ x. dedent x.0 (name_bytes x.1))
    c.utf8.text (sym c.split_piece.ensures.piece ∙ c.in-dedent.is) refl c.split_piece.ensures.rest (c.number_and_name-in-dedent.ensures dedent)
    c.map-in-dedent.ensures.cases (λ x command is. search rules)

pub returns-in-quit : goal.returns-in-quit
unfolding commands
returns-in-quit c =
    answers_word c.args.text.now _ _ _ c.nothing-in-quit.result c.map-in-quit.result _ (λ _. quit)
    c.utf8.text (sym c.split_piece.ensures.piece ∙ c.in-quit.is) refl c.split_piece.ensures.rest (c.nothing-in-quit.ensures quit)
    c.map-in-quit.ensures.cases (λ x command is. search rules)

pub returns-in_default : goal.returns-in_default
unfolding commands
returns-in_default c =
    let no_new = other_word _ _ c.in_default.not-new in
    let no_add = other_word _ _ c.in_default.not-add in
    let no_set = other_word _ _ c.in_default.not-set in
    let no_put = other_word _ _ c.in_default.not-put in
    let no_del = other_word _ _ c.in_default.not-del in
    let no_cat = other_word _ _ c.in_default.not-cat in
    let no_cut = other_word _ _ c.in_default.not-cut in
    let no_copy = other_word _ _ c.in_default.not-copy in
    let no_drop = other_word _ _ c.in_default.not-drop in
    let no_star = other_word _ _ c.in_default.not-star in
    let no_unstar = other_word _ _ c.in_default.not-unstar in
    let no_starmerge = other_word _ _ c.in_default.not-starmerge in
    let no_starboth = other_word _ _ c.in_default.not-starboth in
    let no_starless = other_word _ _ c.in_default.not-starless in
    let no_merge = other_word _ _ c.in_default.not-merge in
    let no_mark = other_word _ _ c.in_default.not-mark in
    let no_unmark = other_word _ _ c.in_default.not-unmark in
    let no_back = other_word _ _ c.in_default.not-back in
    let no_undo = other_word _ _ c.in_default.not-undo in
    let no_redo = other_word _ _ c.in_default.not-redo in
    let no_begin = other_word _ _ c.in_default.not-begin in
    let no_end = other_word _ _ c.in_default.not-end in
    let no_abort = other_word _ _ c.in_default.not-abort in
    let no_history = other_word _ _ c.in_default.not-history in
    let no_get = other_word _ _ c.in_default.not-get in
    let no_len = other_word _ _ c.in_default.not-len in
    let no_show = other_word _ _ c.in_default.not-show in
    let no_list = other_word _ _ c.in_default.not-list in
    let no_stars = other_word _ _ c.in_default.not-stars in
    let no_marks = other_word _ _ c.in_default.not-marks in
    let no_same = other_word _ _ c.in_default.not-same in
    let no_eqv = other_word _ _ c.in_default.not-eqv in
    let no_stats = other_word _ _ c.in_default.not-stats in
    let no_made = other_word _ _ c.in_default.not-made in
    let no_read = other_word _ _ c.in_default.not-read in
    let no_write = other_word _ _ c.in_default.not-write in
    let no_save = other_word _ _ c.in_default.not-save in
    let no_load = other_word _ _ c.in_default.not-load in
    let no_part = other_word _ _ c.in_default.not-part in
    let no_chain = other_word _ _ c.in_default.not-chain in
    let no_indent = other_word _ _ c.in_default.not-indent in
    let no_dedent = other_word _ _ c.in_default.not-dedent in
    let no_quit = other_word _ _ c.in_default.not-quit in
    let none : lookup (bytes_eq c.split_piece.result.0.now) commands ≡ None = rw (no_new, no_add, no_set, no_put, no_del, no_cat, no_cut, no_copy, no_drop, no_star, no_unstar, no_starmerge, no_starboth, no_starless, no_merge, no_mark, no_unmark, no_back, no_undo, no_redo, no_begin, no_end, no_abort, no_history, no_get, no_len, no_show, no_list, no_stars, no_marks, no_same, no_eqv, no_stats, no_made, no_read, no_write, no_save, no_load, no_part, no_chain, no_indent, no_dedent, no_quit) refl in
    sym (meaning-unknown c.args.text.now _ c.utf8.text (sym c.split_piece.ensures.piece) none)
