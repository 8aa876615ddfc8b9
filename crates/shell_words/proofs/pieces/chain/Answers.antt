use Rattle.std.proofs.Common.{◌≡◌, ◌∙◌, sym, ap, Ok}
use Rattle.std.proofs.lemmas.Result.{err_from_is_err_and}
use Rattle.shell_words.specs.Files.{numbered}
use Rattle.shell_terms.specs.Command.{len}
use Rattle.elem_core.specs.Shown.{name_bytes}
use Rattle.shell_words.specs.Grammar.{if_named, the_chain_end, a_number}
use Rattle.shell_words.proofs.GrammarLemmas.{if_named-bad, if_named-first, named-then}
use Rattle.shell_words.proofs.pieces.chain.Goals as goal

pub returns-in_err-number : goal.returns-in_err-number
returns-in_err-number c = λ f.
    let p = err_from_is_err_and c.from_residual-in_err-number.result c.from_residual-in_err-number.ensures.1 in
    rw (p.1, p.2)
    (c.in_ok-piece.ensures.read (λ b. a_number (λ i. the_chain_end b i (f b i)))
    ∙ if_named-bad _ _ _ (c.in_err-number.ensures.read (λ i. the_chain_end c.in_ok-piece.piece.now i (f c.in_ok-piece.piece.now i))))

pub returns-in_err-nothing : goal.returns-in_err-nothing
unfolding the_chain_end
returns-in_err-nothing c = λ f.
    let piece = c.in_ok-piece.piece.now in
    let number = c.in_ok-number.number in
    let p = err_from_is_err_and c.from_residual-in_err-nothing.result c.from_residual-in_err-nothing.ensures.1 in
    rw (p.1, p.2)
    (c.in_ok-piece.ensures.read (λ b. a_number (λ i. the_chain_end b i (f b i)))
    ∙ if_named-bad _ _ _
    (c.in_ok-number.ensures.read (λ i. the_chain_end piece i (f piece i))
    ∙ if_named-bad _ _ _ (c.in_err-nothing.ensures (f piece number))))

pub returns-in_err-file : goal.returns-in_err-file
unfolding the_chain_end
returns-in_err-file c = λ f.
    let piece = c.in_ok-piece.piece.now in
    let number = c.in_ok-number.number in
    let p = err_from_is_err_and c.from_residual-in_err-file.result c.from_residual-in_err-file.ensures.1 in
    rw (p.1, p.2)
    (c.in_ok-piece.ensures.read (λ b. a_number (λ i. the_chain_end b i (f b i)))
    ∙ ap (if_named piece)
    (c.in_ok-number.ensures.read (λ i. the_chain_end piece i (f piece i))
    ∙ ap (if_named (numbered piece number)) (c.in_ok-nothing.ensures (f piece number)))
    ∙ if_named-first _ _ _ _ _ (c.in_err-file.ensures (λ b. f b number)))

pub returns-in_err-named : goal.returns-in_err-named
unfolding the_chain_end
returns-in_err-named c = λ f.
    let piece = c.in_ok-piece.piece.now in
    let number = c.in_ok-number.number in
    let file = name_bytes c.in_ok-file.file in
    let p = err_from_is_err_and c.from_residual-in_err-named.result c.from_residual-in_err-named.ensures.1 in
    let bytes : c.deref.result.now ≡ numbered file number = cc in
    rw (p.1, p.2)
    (c.in_ok-piece.ensures.read (λ b. a_number (λ i. the_chain_end b i (f b i)))
    ∙ ap (if_named piece)
    (c.in_ok-number.ensures.read (λ i. the_chain_end piece i (f piece i))
    ∙ ap (if_named (numbered piece number)) (c.in_ok-nothing.ensures (f piece number)))
    ∙ named-then piece file (λ b. if_named (numbered b number) (Ok (f b number))) (c.in_ok-file.ensures len)
    ∙ ap (λ b. if_named b (Ok (f file number))) (sym bytes)
    ∙ c.in_err-named.ensures (λ _. f file number))

pub returns : goal.returns
unfolding the_chain_end
returns c = λ f.
    let piece = c.in_ok-piece.piece.now in
    let number = c.in_ok-number.number in
    let file = name_bytes c.in_ok-file.file in
    let bytes : c.deref.result.now ≡ numbered file number = cc in
    c.in_ok-piece.ensures.read (λ b. a_number (λ i. the_chain_end b i (f b i)))
    ∙ ap (if_named piece)
    (c.in_ok-number.ensures.read (λ i. the_chain_end piece i (f piece i))
    ∙ ap (if_named (numbered piece number)) (c.in_ok-nothing.ensures (f piece number)))
    ∙ named-then piece file (λ b. if_named (numbered b number) (Ok (f b number))) (c.in_ok-file.ensures len)
    ∙ ap (λ b. if_named b (Ok (f file number))) (sym bytes)
    ∙ c.in_ok-named.ensures (λ _. f file number)
