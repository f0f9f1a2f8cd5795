use Rattle.std.proofs.Common.{◌≡◌, ◌++◌, take, length}
use Rattle.rawk_compiler.specs.Code.{functions_code, entries_from}
use Rattle.rawk_compiler.proofs.compiler.emit_functions.Given as goal

abbrev pub invariant-loop-function : goal.invariant-loop-function
invariant-loop-function l = record {
  items : l.code.items ≡ l.fn.code.items ++ functions_code (take l.function-index l.functions) (length l.fn.code.items);
  entries : l.entries.items ≡ entries_from (take l.function-index l.functions) (length l.fn.code.items);
}
