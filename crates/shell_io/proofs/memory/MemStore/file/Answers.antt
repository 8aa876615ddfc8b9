use Rattle.std.proofs.Common.{ap, sym, ◌∙◌, Some}
use Rattle.std.specs.Option.{option_map}
use Rattle.std.specs.FinMap.{get}
use Rattle.shell_io.proofs.FilesLemmas.{items_of, get-files_of}
use Rattle.shell_io.proofs.memory.MemStore.file.Goals as goal

pub returns-in-Some : goal.returns-in-Some
returns-in-Some c =
    ap Some c.as_slice.ensures.value ∙ ap (option_map items_of) c.in-Some.ensures.value
    ∙ sym (get-files_of c.self.inside.files.entries c.args.name.now) ∙ ap (λ s. get s.held c.args.name.now) c.self.view_is

pub returns-in-None : goal.returns-in-None
returns-in-None c =
    ap (option_map items_of) c.in-None.ensures.value
    ∙ sym (get-files_of c.self.inside.files.entries c.args.name.now) ∙ ap (λ s. get s.held c.args.name.now) c.self.view_is
