use Rattle.std.proofs.Common.{◌++◌, ap, refl, sym, ◌∙◌, subst}
use Rattle.rawk_value.specs.Values.{Bytes}
use Rattle.rawk_debug.specs.Transcript.{reply_text}
use Rattle.rawk.specs.Runs.{IsCut}
use Rattle.rawk.proofs.dialog.tell.Goals as goal

pub returns-then-quits-clause-told : goal.returns-then-quits-clause-told
returns-then-quits-clause-told g c = (sym c.quits.ensures ∙ c.if-quits.true, refl)

pub returns-in-Ok-clause-told : goal.returns-in-Ok-clause-told
returns-in-Ok-clause-told g c = (
  sym c.quits.ensures ∙ c.if-quits.false,
  subst (λ (b : Bytes). (held : Bytes) → g.W.Sink.may_hold c.args.sink.now held → g.W.Sink.may_hold c.write_reply.new.sink (held ++ reply_text b c.args.reply.now)) (c.output.ensures ∙ ap (λ (m : g.row.M.Denot). (g.M.Stepper.held m).state.output) c.machine.ensures) c.in-Ok.ensures.ok,
)

pub returns-in-Err-clause-told : goal.returns-in-Err-clause-told
returns-in-Err-clause-told g c = (
  sym c.quits.ensures ∙ c.if-quits.false,
  subst (λ (b : Bytes). IsCut g.W.Sink.may_hold (reply_text b c.args.reply.now) c.args.sink.now c.write_reply.new.sink) (c.output.ensures ∙ ap (λ (m : g.row.M.Denot). (g.M.Stepper.held m).state.output) c.machine.ensures) c.in-Err.ensures.err,
)
