use Rattle.std.proofs.Common.{refl}
use Rattle.rawk.proofs.SoFar.{hands_on, hands_given, cut_in}
use Rattle.rawk.proofs.running.hand_on.Goals as goal

pub returns-clause-ok : goal.returns-clause-ok
returns-clause-ok g c =
    hands_on g.R.Source.may_give g.W.Sink.may_hold c.args.runner.now c.drop_output.new.self c.drop_consumed.new.self c.args.sink.now c.write_all.new.sink c.drop_consumed.result c.args.runner.now.state.output c.output.result.now
    c.drop_output.ensures.rest refl c.output.ensures c.drop_consumed.ensures.dropped c.drop_output.ensures.may c.drop_output.ensures.stands c.drop_consumed.ensures.may c.drop_consumed.ensures.stands c.in-Ok.ensures.ok

pub returns-then-not-eventful-clause-ok : goal.returns-then-not-eventful-clause-ok
returns-then-not-eventful-clause-ok g c =
    hands_given g.R.Source.may_give g.W.Sink.may_hold c.args.runner.now c.drop_output.new.self c.args.sink.now c.write_all.new.sink c.args.runner.now.state.output c.output.result.now
    c.drop_output.ensures.rest refl c.output.ensures c.drop_output.ensures.may c.drop_output.ensures.stands c.in-Ok.ensures.ok

pub returns-in-Err-clause-err : goal.returns-in-Err-clause-err
returns-in-Err-clause-err g c = cut_in g.W.Sink.may_hold c.args.runner.now.state.output c.output.result.now c.args.sink.now c.write_all.new.sink c.output.ensures c.in-Err.ensures.err
