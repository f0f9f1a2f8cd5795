use Rattle.std.proofs.Common.{◌≡◌, ◌++◌, inl, drop, ap, ◌∙◌, subst}
use Rattle.rawk_value.specs.Values.{Bytes}
use Rattle.rawk_debug.specs.Sessions.{stand}
use Rattle.rawk_answers.specs.Positions.{Snapshot}
use Rattle.rawk_debug.specs.Answers.{shown_of, text_of}
use Rattle.rawk_debug.proofs.Shown.{whole_answer}
use Rattle.rawk_debug.proofs.transcript.reply_to.Goals as goal

pub returns-in-Ok-clause-says : goal.returns-in-Ok-clause-says
returns-in-Ok-clause-says g c = λ input may.
    let m = c.args.session.now.machine in
    let h : Snapshot = g.M.Stepper.held m in
    let s = stand g.M.Stepper.position c.args.session.now in
    let shown : drop c.shown_from.result h.state.output ≡ shown_of c.args.answer h.state.output = subst (λ (b : Bytes). drop c.shown_from.result b ≡ shown_of c.args.answer b) c.output.ensures c.shown_from.ensures in
    inl
    (ap (λ (b : Bytes). b ++ c.in-Ok.text.items) shown ∙ (ap (λ (b : Bytes). shown_of c.args.answer h.state.output ++ b) c.in-Ok.ensures
    ∙ (whole_answer s h (g.M.Stepper.before m) c.args.answer ∙ ap (λ (x : Snapshot). text_of s x (g.M.Stepper.before m) c.args.answer) (c.known.ensures.stands input may).holds)))
