use Rattle.std.proofs.Common.{◌≡◌, Some, subst}
use Rattle.std.proofs.lemmas.Result.{IfOk-weaker}
use Rattle.pool_text.specs.Document.{value_in}
use Rattle.pool_check.specs.declared.root.RootKind.TheVariants.{Cells}
use Rattle.versions_pool.specs.Saved.{saved_document, saved_text}
use Rattle.versions_pool.specs.Seen.{saved_seen}
use Rattle.versions_pool.specs.Stores.{Says}
use Rattle.versions_pool.specs.Sets.{sets_format, set_in, sets_in, IsSetsDocument}
use Rattle.versions_pool.proofs.StoresRead.{says-read}
use Rattle.versions_pool.proofs.sets.save_sets.Goals as goal

pub saved_sets-requires : goal.saved_sets-requires
saved_sets-requires g c = c.parts.ensures.stands

pub returns-clause-saved : goal.returns-clause-saved
returns-clause-saved g c =
    let s = saved_seen c.in_ok-saved.saved in
    let said = subst (λ m. Says (set_in g.K.Ord.cmp g.K.Stored.of_bytes) Cells m s) c.parts.ensures.same c.in_ok-saved.ensures in
    IfOk-weaker c.saved_bytes.result (λ b. value_in b.items ≡ Some (saved_document sets_format s)) (λ b. sets_in g.K.Ord.cmp g.K.Stored.of_bytes b.items ≡ Some c.args.sets.now)
    (λ b reads. says-read sets_format Cells b.items (set_in g.K.Ord.cmp g.K.Stored.of_bytes) c.args.sets.now s said reads) c.saved_bytes.ensures.reads

pub returns-clause-text : goal.returns-clause-text
returns-clause-text g c =
    let s = saved_seen c.in_ok-saved.saved in
    let said = subst (λ m. Says (set_in g.K.Ord.cmp g.K.Stored.of_bytes) Cells m s) c.parts.ensures.same c.in_ok-saved.ensures in
    IfOk-weaker c.saved_bytes.result (λ b. b.items ≡ saved_text sets_format s) (λ b. IsSetsDocument g.K.Ord.cmp g.K.Stored.of_bytes c.args.sets.now b.items)
    (λ b text. record { saved = s; text = text; says = said }) c.saved_bytes.ensures.value
