use Rattle.std.proofs.Common.{refl}
use Rattle.ewig_shell.proofs.StepLemmas.{Replies-alone, Replies-ends, Replies-on}
use Rattle.ewig_shell.proofs.CommandLemmas.{edit-asks, edit-alone}
use Rattle.ewig_shell.proofs.execute.answer.Goals as goal

pub returns-in-Edit : goal.returns-in-Edit
returns-in-Edit g c = Replies-ends _ _ c.edit.result c.in-Edit.is (edit-alone c.in-Edit.edit) (edit-asks c.in-Edit.edit) c.edit.ensures c.send_done.ensures

pub returns-in-Mark : goal.returns-in-Mark
returns-in-Mark g c = Replies-ends _ _ c.mark.result c.in-Mark.is refl refl c.mark.ensures c.send_done-in-Mark.ensures

pub returns-in-Unmark : goal.returns-in-Unmark
returns-in-Unmark g c = Replies-ends _ _ c.unmark.result c.in-Unmark.is refl refl c.unmark.ensures c.send_done-in-Unmark.ensures

pub returns-in-Back : goal.returns-in-Back
returns-in-Back g c = Replies-ends _ _ c.back.result c.in-Back.is refl refl c.back.ensures.ends c.send_done-in-Back.ensures

pub returns-in-Undo : goal.returns-in-Undo
returns-in-Undo g c = Replies-ends _ _ c.undo.result c.in-Undo.is refl refl c.undo.ensures.ends c.send_done-in-Undo.ensures

pub returns-in-Redo : goal.returns-in-Redo
returns-in-Redo g c = Replies-ends _ _ c.redo.result c.in-Redo.is refl refl c.redo.ensures.ends c.send_done-in-Redo.ensures

pub returns-in-Begin : goal.returns-in-Begin
returns-in-Begin g c = Replies-ends _ _ c.begin.result c.in-Begin.is refl refl c.begin.ensures.ends c.send_done-in-Begin.ensures

pub returns-in-End : goal.returns-in-End
returns-in-End g c = Replies-ends _ _ c.end.result c.in-End.is refl refl c.end.ensures.ends c.send_done-in-End.ensures

pub returns-in-Abort : goal.returns-in-Abort
returns-in-Abort g c = Replies-ends _ _ c.abort.result c.in-Abort.is refl refl c.abort.ensures.ends c.send_done-in-Abort.ensures

pub returns-in-History : goal.returns-in-History
returns-in-History g c = Replies-ends _ _ c.history.result c.in-History.is refl refl c.history.ensures.ends c.send_done-in-History.ensures

pub returns-in-Get : goal.returns-in-Get
returns-in-Get g c = Replies-alone _ _ c.in-Get.is refl c.get.ensures

pub returns-in-Len : goal.returns-in-Len
returns-in-Len g c = Replies-alone _ _ c.in-Len.is refl c.len.ensures

pub returns-in-Show : goal.returns-in-Show
returns-in-Show g c = Replies-alone _ _ c.in-Show.is refl c.show.ensures

pub returns-in-List : goal.returns-in-List
returns-in-List g c = Replies-alone _ _ c.in-List.is refl c.list.ensures

pub returns-in-Stars : goal.returns-in-Stars
returns-in-Stars g c = Replies-alone _ _ c.in-Stars.is refl c.stars.ensures

pub returns-in-Marks : goal.returns-in-Marks
returns-in-Marks g c = Replies-alone _ _ c.in-Marks.is refl c.marks.ensures

pub returns-in-Same : goal.returns-in-Same
returns-in-Same g c = Replies-alone _ _ c.in-Same.is refl c.same.ensures

pub returns-in-Eqv : goal.returns-in-Eqv
returns-in-Eqv g c = Replies-alone _ _ c.in-Eqv.is refl c.eqv.ensures

pub returns-in-Stats : goal.returns-in-Stats
returns-in-Stats g c = Replies-alone _ _ c.in-Stats.is refl c.stats.ensures

pub returns-in-Made : goal.returns-in-Made
returns-in-Made g c = Replies-alone _ _ c.in-Made.is refl c.made.ensures

pub returns-in-Quit : goal.returns-in-Quit
returns-in-Quit g c = Replies-alone _ _ c.in-Quit.is refl c.quit.ensures

pub returns-in-Read : goal.returns-in-Read
returns-in-Read g c = Replies-on _ _ c.in-Read.is c.read.ensures c.send_stored.ensures

pub returns-in-Write : goal.returns-in-Write
returns-in-Write g c = Replies-on _ _ c.in-Write.is c.write.ensures c.send_stored-in-Write.ensures

pub returns-in-Save : goal.returns-in-Save
returns-in-Save g c = Replies-on _ _ c.in-Save.is c.save.ensures c.send_stored-in-Save.ensures

pub returns-in-Load : goal.returns-in-Load
returns-in-Load g c = Replies-on _ _ c.in-Load.is c.load.ensures.obeys c.send_stored-in-Load.ensures

pub returns-in-Part : goal.returns-in-Part
returns-in-Part g c = Replies-on _ _ c.in-Part.is c.part.ensures c.send_stored-in-Part.ensures

pub returns-in-Chain : goal.returns-in-Chain
returns-in-Chain g c = Replies-on _ _ c.in-Chain.is c.chain.ensures c.send_stored-in-Chain.ensures

pub returns-in-Indent : goal.returns-in-Indent
returns-in-Indent g c = Replies-on _ _ c.in-Indent.is c.indent.ensures c.send_stored-in-Indent.ensures

pub returns-in-Dedent : goal.returns-in-Dedent
returns-in-Dedent g c = Replies-on _ _ c.in-Dedent.is c.dedent.ensures c.send_stored-in-Dedent.ensures
