use Rattle.std.proofs.Common.{◌++◌, ap, sym, ◌∙◌}
use Rattle.rawk_value.specs.Values.{Bytes}
use Rattle.rawk_debug.specs.Transcript.{reply_rest}
use Rattle.rawk.proofs.DialogSoFar.{part_behind}
use Rattle.rawk.proofs.dialog.write_reply.Goals as goal

pub returns-in-Ok-clause-err : goal.returns-in-Ok-clause-err
returns-in-Ok-clause-err g c =
    part_behind g.W.Sink.may_hold c.write_all-in-Ok.result c.args.sink.now c.write_all.new.sink c.write_all-in-Ok.new.sink c.shown.result.now c.rest.result.now _
    (ap (λ (b : Bytes). b ++ reply_rest c.args.reply.now) (sym c.shown.ensures) ∙ ap (λ (b : Bytes). c.shown.result.now ++ b) (sym c.rest.ensures)) c.in-Ok.ensures.ok c.write_all-in-Ok.ensures.err
