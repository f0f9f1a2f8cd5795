use Rattle.std.proofs.Common.{◌∙◌, map}
use Rattle.rawk_code.specs.declared.code.Instr.TheVariants.{Point}
use Rattle.std.specs.Prelude.{None}
use Rattle.rawk_compiler.specs.Code.{rule_code, in_turn, nowhere}
use Rattle.rawk_compiler.proofs.Patch.{patch_records}
use Rattle.rawk_compiler.proofs.compiler.emit_records.Goals as goal

pub returns : goal.returns
returns c =
    c.pass_rest.ensures
    ∙ patch_records c.args.code.now.items (in_turn (map rule_code c.args.rules.now)) nowhere c.put_reading.new.code.items c.emit_rules.new.code.items c.put_go_to.new.code.items c.len-start.result c.in_ok-read.read (Point None) (c.len-start.ensures ∙ c.args.code.now.ok.0) c.in_ok-read.ensures.items c.in_ok-read.ensures.place c.in_ok-emit_rules.ensures c.in_ok-put_go_to.ensures
