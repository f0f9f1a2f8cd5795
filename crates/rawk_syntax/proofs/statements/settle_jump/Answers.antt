use Rattle.std.proofs.Common.{◌∙◌}
use Rattle.rawk_resolution.specs.Meant.{sense_of}
use Rattle.rawk_syntax.proofs.Layings.{breaks, continues, goes_next, exit_jumps, return_jumps}
use Rattle.rawk_syntax.proofs.statements.settle_jump.Goals as goal

pub returns-in-Next-clause-settled : goal.returns-in-Next-clause-settled
returns-in-Next-clause-settled c =
    goes_next (sense_of c.args.scope.now) c.args.sites.now.text.now c.args.left c.args.jump.now c.len-site.result c.args.sites.now.lines.items c.add.new.self.lines.items c.in-Next.is (c.len-site.ensures ∙ c.args.sites.now.lines.ok.0) c.in_ok-add.ensures.lines

pub returns-in-Break-clause-settled : goal.returns-in-Break-clause-settled
returns-in-Break-clause-settled c =
    breaks (sense_of c.args.scope.now) c.args.sites.now.text.now c.args.left c.args.jump.now c.len-site.result c.args.sites.now.lines.items c.add.new.self.lines.items c.in-Break.is (c.len-site.ensures ∙ c.args.sites.now.lines.ok.0) c.in_ok-add.ensures.lines

pub returns-in-Continue-clause-settled : goal.returns-in-Continue-clause-settled
returns-in-Continue-clause-settled c =
    continues (sense_of c.args.scope.now) c.args.sites.now.text.now c.args.left c.args.jump.now c.len-site.result c.args.sites.now.lines.items c.add.new.self.lines.items c.in-Continue.is (c.len-site.ensures ∙ c.args.sites.now.lines.ok.0) c.in_ok-add.ensures.lines

pub returns-in-Exit-clause-settled : goal.returns-in-Exit-clause-settled
returns-in-Exit-clause-settled c =
    exit_jumps (sense_of c.args.scope.now) c.settle_exit.result c.args.sites.now.text.now c.args.left c.args.jump.now c.in-Exit.status c.len-site.result c.args.sites.now.lines.items c.add.new.self.lines.items c.in-Exit.is (c.len-site.ensures ∙ c.args.sites.now.lines.ok.0) c.in_ok-add.ensures.lines c.settle_exit.ensures

pub returns-in-Return-clause-settled : goal.returns-in-Return-clause-settled
returns-in-Return-clause-settled c =
    return_jumps (sense_of c.args.scope.now) c.settle_return.result c.args.sites.now.text.now c.args.left c.args.jump.now c.in-Return.value c.len-site.result c.args.sites.now.lines.items c.add.new.self.lines.items c.in-Return.is (c.len-site.ensures ∙ c.args.sites.now.lines.ok.0) c.in_ok-add.ensures.lines c.settle_return.ensures
