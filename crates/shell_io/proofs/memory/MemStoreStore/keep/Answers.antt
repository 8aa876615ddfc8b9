use Rattle.std.proofs.Common.{◌≡◌, ap, ◌∙◌}
use Rattle.std.specs.FinMap.{insert}
use Rattle.shell_io.specs.InMemory.{files_of, next_call}
use Rattle.shell_io.proofs.FilesLemmas.{files_of-insert_entry}
use Rattle.shell_io.proofs.memory.MemStoreStore.keep.Goals as goal

pub returns-clause-after : goal.returns-clause-after
returns-clause-after c =
    let held : files_of c.insert.new.self.entries ≡ insert c.args.self.now.held c.args.name.now c.args.bytes.now =
    ap files_of c.in_ok-insert.ensures.entries ∙ files_of-insert_entry c.self.inside.files.entries c.in_ok-name.name c.in_ok-bytes.bytes
    ∙ (λ i. insert (c.self.view_is i).held (c.in_ok-name.ensures.ok i) (c.in_ok-bytes.ensures.items i)) in
    let call = c.saturating_add-self-inside.ensures ∙ ap (λ s. next_call s.keep_call) c.self.view_is in
    λ i. record {
      held = held i;
      fetch_fails = (c.self.view_is i).fetch_fails;
      keep_fails = (c.self.view_is i).keep_fails;
      fetch_call = (c.self.view_is i).fetch_call;
      keep_call = call i;
      faults = (c.self.view_is i).faults;
    }
