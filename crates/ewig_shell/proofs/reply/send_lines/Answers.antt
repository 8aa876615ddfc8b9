use Rattle.std.proofs.Common.{◌≡◌, [], ◌∷◌, ◌++◌, rules, refl}
use Rattle.plain_space.specs.Answer.{text_line}
use Rattle.ewig_shell.proofs.SendingLemmas.{Puts-as, Puts-kept, Puts-then, Puts-more, Puts-ends, Puts-failed}
use Rattle.ewig_shell.proofs.LinesLemmas.{one_more, all_others, next_of, none_left}
use Rattle.ewig_shell.proofs.reply.send_lines.Goals as goal

pub loop-line-init : goal.loop-line-init
loop-line-init g c = record { so_far = []; others = search rules; puts = Puts-kept c.clear.ensures }

pub loop-line-preserved : goal.loop-line-preserved
loop-line-preserved g c =
    let so_far = c.loop-line.invariant in
    let e : c.loop-line.line-iterator ≡ c.in-Some.line.now ∷ c.next.new.self = search rules in
    record {
      so_far = so_far.so_far ++ c.in-Some.line.now ∷ [];
      others = next_of so_far.so_far c.in-Some.line.now _ _ c.args.lines so_far.others e;
      puts = Puts-as (one_more text_line so_far.so_far c.in-Some.line.now) (Puts-then so_far.puts c.in_ok-put_text.ensures);
    }

pub returns-in_err-put_text : goal.returns-in_err-put_text
returns-in_err-put_text g c =
    let so_far = c.loop-line.invariant in
    let e : c.loop-line.line-iterator ≡ c.in-Some.line.now ∷ c.next.new.self = search rules in
    Puts-failed c.from_residual.ensures.0 refl
    (Puts-as (all_others text_line (so_far.so_far ++ c.in-Some.line.now ∷ []) c.next.new.self c.args.lines (next_of so_far.so_far c.in-Some.line.now _ _ c.args.lines so_far.others e))
    (Puts-more _ (Puts-as (one_more text_line so_far.so_far c.in-Some.line.now) (Puts-then so_far.puts c.in_err-put_text.ensures))))

pub returns-in_err-put : goal.returns-in_err-put
returns-in_err-put g c =
    let so_far = c.loop-line.invariant in
    let e : c.loop-line.line-iterator ≡ [] = search rules in
    Puts-failed c.from_residual-in_err-put.ensures.0 refl
    (Puts-as (all_others text_line so_far.so_far [] c.args.lines (none_left so_far.so_far _ c.args.lines so_far.others e)) (Puts-then so_far.puts c.in_err-put.ensures))

pub returns : goal.returns
returns g c =
    let so_far = c.loop-line.invariant in
    let e : c.loop-line.line-iterator ≡ [] = search rules in
    Puts-ends refl
    (Puts-as (all_others text_line so_far.so_far [] c.args.lines (none_left so_far.so_far _ c.args.lines so_far.others e)) (Puts-then so_far.puts c.in_ok-put.ensures))
    c.flush.ensures.sends
