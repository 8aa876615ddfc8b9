use Rattle.std.proofs.Common.{◌≡◌, Some, subst}
use Rattle.std.proofs.lemmas.Result.{IfOk-weaker}
use Rattle.pool_text.specs.Document.{value_in}
use Rattle.pool_check.specs.declared.root.RootKind.TheVariants.{Lines}
use Rattle.versions_pool.specs.Saved.{saved_document, saved_text}
use Rattle.versions_pool.specs.Seen.{saved_seen}
use Rattle.versions_pool.specs.Stores.{Says}
use Rattle.versions_pool.specs.Lists.{lists_format, list_in, lists_in, IsListsDocument}
use Rattle.versions_pool.proofs.StoresRead.{says-read}
use Rattle.versions_pool.proofs.lists.save_lists.Goals as goal

pub saved_lists-requires : goal.saved_lists-requires
saved_lists-requires g c = c.parts.ensures.stands

pub returns-clause-saved : goal.returns-clause-saved
returns-clause-saved g c =
    let s = saved_seen c.in_ok-saved.saved in
    let said = subst (λ m. Says (list_in g.T.Stored.of_bytes) Lines m s) c.parts.ensures.same c.in_ok-saved.ensures in
    IfOk-weaker c.saved_bytes.result (λ b. value_in b.items ≡ Some (saved_document lists_format s)) (λ b. lists_in g.T.Stored.of_bytes b.items ≡ Some c.args.lists.now)
    (λ b reads. says-read lists_format Lines b.items (list_in g.T.Stored.of_bytes) c.args.lists.now s said reads) c.saved_bytes.ensures.reads

pub returns-clause-text : goal.returns-clause-text
returns-clause-text g c =
    let s = saved_seen c.in_ok-saved.saved in
    let said = subst (λ m. Says (list_in g.T.Stored.of_bytes) Lines m s) c.parts.ensures.same c.in_ok-saved.ensures in
    IfOk-weaker c.saved_bytes.result (λ b. b.items ≡ saved_text lists_format s) (λ b. IsListsDocument g.T.Stored.of_bytes c.args.lists.now b.items)
    (λ b text. record { saved = s; text = text; says = said }) c.saved_bytes.ensures.value
