use Rattle.std.proofs.Common.{◌≡◌, ◌+◌, length, take, ap, ◌∙◌, length-append}
use Rattle.rawk_compiler.specs.Code.{nowhere, function_code, functions_code}
use Rattle.rawk_compiler.proofs.Trees.{more_turns, more_entries}
use Rattle.rawk_compiler.proofs.compiler.emit_functions.Goals as goal

pub loop-function-preserved : goal.loop-function-preserved
loop-function-preserved c =
    let fs = c.args.functions.now in
    let i = c.loop-function.function-index in
    let base = c.args.code.now.items in
    let m = c.loop-function.code.items in
    let inv = c.loop-function.invariant in
    let at : c.len-place.result ≡ length base + length (functions_code (take i fs) (length base)) =
    c.len-place.ensures ∙ c.loop-function.code.ok.0 ∙ ap length inv.items ∙ length-append base (functions_code (take i fs) (length base)) in
    record {
      items = more_turns function_code fs i c.function-item.result nowhere base m c.emit_function.new.code.items c.loop-function-test.true c.function-item.is inv.items c.in_ok-emit_function.ensures;
      entries = c.in_ok-push.ensures.items ∙ more_entries fs i c.function-item.result (length base) c.len-place.result c.in_ok-kinds.kinds c.loop-function.entries.items c.loop-function-test.true c.function-item.is at (c.in_ok-kinds.ensures ∙ c.deref.ensures.value) inv.entries;
    }
