use Rattle.std.proofs.Common.{◌∙◌}
use Rattle.rawk_resolution.specs.Meant.{sense_of}
use Rattle.rawk_syntax.proofs.Layings.{evaluates, prints, printfs, delete_lays}
use Rattle.rawk_syntax.proofs.statements.settle_simple.Goals as goal

pub returns-in_ok-value-in-Evaluate-clause-settled : goal.returns-in_ok-value-in-Evaluate-clause-settled
returns-in_ok-value-in-Evaluate-clause-settled c =
    evaluates (sense_of c.args.scope.now) c.args.sites.now.text.now c.args.simple.now c.in-Evaluate.e c.get.result.now c.in_ok-value-in-Evaluate.value c.len-site.result c.args.sites.now.lines.items c.add.new.self.lines.items
    c.in-Evaluate.is c.get.ensures (c.len-site.ensures ∙ c.args.sites.now.lines.ok.0) c.in_ok-add.ensures.lines c.in_ok-value-in-Evaluate.ensures

pub returns-in_ok-values-in-Print-clause-settled : goal.returns-in_ok-values-in-Print-clause-settled
returns-in_ok-values-in-Print-clause-settled c =
    prints (sense_of c.args.scope.now) c.args.sites.now.text.now c.args.simple.now c.in-Print.list c.as_slice.result.now c.in_ok-values-in-Print.values c.len-site.result c.args.sites.now.lines.items c.add.new.self.lines.items
    c.in-Print.is c.as_slice.ensures (c.len-site.ensures ∙ c.args.sites.now.lines.ok.0) c.in_ok-add.ensures.lines c.in_ok-values-in-Print.ensures

pub returns-in_ok-format-in-Printf-clause-settled : goal.returns-in_ok-format-in-Printf-clause-settled
returns-in_ok-format-in-Printf-clause-settled c =
    printfs (sense_of c.args.scope.now) c.args.sites.now.text.now c.args.simple.now c.in-Printf.list c.as_slice-in-Printf.result.now c.in_ok-format-in-Printf.format c.in_ok-format-in-Printf.values c.len-site.result c.args.sites.now.lines.items c.add.new.self.lines.items
    c.in-Printf.is c.as_slice-in-Printf.ensures (c.len-site.ensures ∙ c.args.sites.now.lines.ok.0) c.in_ok-add.ensures.lines c.in_ok-format-in-Printf.ensures

pub returns-in-Delete-clause-settled : goal.returns-in-Delete-clause-settled
returns-in-Delete-clause-settled c =
    delete_lays (sense_of c.args.scope.now) c.settle_delete.result c.args.sites.now.text.now c.args.simple.now c.in-Delete.place c.len-site.result c.args.sites.now.lines.items c.add.new.self.lines.items
    c.in-Delete.is (c.len-site.ensures ∙ c.args.sites.now.lines.ok.0) c.in_ok-add.ensures.lines c.settle_delete.ensures
