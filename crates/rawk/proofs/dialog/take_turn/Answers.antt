use Rattle.std.proofs.Common.{◌+◌, take, ap, refl, ◌∙◌, subst, Option}
use Rattle.rawk_value.specs.Values.{Bytes}
use Rattle.rawk_debug.specs.Sessions.{stand, machine_of}
use Rattle.rawk_debug.specs.Transcript.{Heard, Passed, Carries}
use Rattle.rawk_tape.specs.declared.lines.Line.{Line}
use Rattle.rawk_tape.specs.Lines.{Finds, Hears, PassesOver}
use Rattle.rawk.proofs.dialog.take_turn.Goals as goal

-- the line is heard
pub returns-in-Ok-Some-clause-takes : goal.returns-in-Ok-Some-clause-takes
returns-in-Ok-Some-clause-takes g c =
    let f : Hears g.C.Source.may_give g.C.Source.handed c.args.commands.now c.args.lines.now c.next.new.source c.next.new.self c.in-Ok-Some.line = subst (λ (o : Option Line). Finds g.C.Source.may_give g.C.Source.handed c.args.commands.now c.args.lines.now c.next.new.source c.next.new.self o) c.in-Ok-Some.field-0-is c.in-Ok-Some.ensures.finds in
    record {
      all = c.next.new.self.bytes;
      turn = Heard (take c.in-Ok-Some.line.size c.next.new.self.bytes);
      count = c.in-Ok-Some.line.count;
      reads = f.reads;
      next = f.next;
      within = f.within.1;
      left = c.let_go.ensures.bytes;
      taken = c.let_go.ensures.taken ∙ ap (λ k. k + 1) f.taken;
      carries = λ input may. subst (λ (b : Bytes). Carries input (Heard b) (stand g.M.Stepper.position c.args.session.now) (g.M.Stepper.held (machine_of c.carry_out-reply.new.session)).state.output c.carry_out-reply.result (stand g.M.Stepper.position c.carry_out-reply.new.session)) c.text.ensures (c.carry_out-reply.ensures.carries input may);
    }

-- it is passed over
pub returns-in-Ok-None-clause-takes : goal.returns-in-Ok-None-clause-takes
returns-in-Ok-None-clause-takes g c =
    let f : PassesOver g.C.Source.may_give g.C.Source.handed c.args.commands.now c.args.lines.now c.next.new.source c.next.new.self = subst (λ (o : Option Line). Finds g.C.Source.may_give g.C.Source.handed c.args.commands.now c.args.lines.now c.next.new.source c.next.new.self o) c.in-Ok-None.field-0-is c.in-Ok-None.ensures.finds in
    record {
      all = f.all;
      turn = Passed f.line;
      count = f.count;
      reads = f.reads;
      next = λ rest come. (f.next rest come, f.long, tt);
      within = f.within;
      left = f.left;
      taken = f.taken;
      carries = λ input may. (refl, (refl, refl));
    }
