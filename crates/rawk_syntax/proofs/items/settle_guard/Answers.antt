use Rattle.rawk_resolution.specs.Meant.{sense_of}
use Rattle.rawk_syntax.proofs.Layings.{tests_guard, bounds_guard}
use Rattle.rawk_syntax.proofs.items.settle_guard.Goals as goal

pub returns-in_ok-test-in-When-clause-settled : goal.returns-in_ok-test-in-When-clause-settled
returns-in_ok-test-in-When-clause-settled c =
    tests_guard (sense_of c.args.scope.now) c.args.ranges c.args.sites.now.text.now c.args.pattern.now c.in-When.left c.in-When.test c.get.result.now c.in_ok-test-in-When.test c.args.sites.now.lines.items c.add.new.self.lines.items
    c.in-When.is c.get.ensures c.in_ok-add-in-When.ensures.lines c.in_ok-test-in-When.ensures

pub returns-in_ok-last-in-Range-clause-settled : goal.returns-in_ok-last-in-Range-clause-settled
returns-in_ok-last-in-Range-clause-settled c =
    bounds_guard (sense_of c.args.scope.now) c.args.ranges c.in_ok-first-in-Range.first c.in_ok-last-in-Range.last c.args.sites.now.text.now c.args.pattern.now c.in-Range.left c.in-Range.first c.get-in-Range.result.now c.in-Range.last c.get-in-Range-2.result.now c.args.sites.now.lines.items c.add-in-Range.new.self.lines.items
    c.in-Range.is c.get-in-Range.ensures c.get-in-Range-2.ensures c.in_ok-add-in-Range.ensures.lines c.in_ok-first-in-Range.ensures c.in_ok-last-in-Range.ensures
