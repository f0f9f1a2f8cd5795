use Rattle.std.proofs.Common.{◌≡◌, ◌++◌, drop}
use Rattle.std.specs.List.{flat_map}
use Rattle.rawk_commands.specs.Texts.{shown_byte}
use Rattle.rawk_commands.proofs.text.push_shown.Given as goal

abbrev pub invariant-loop-b : goal.invariant-loop-b
invariant-loop-b l = l.out.items ++ flat_map shown_byte (drop l.b-index l.text) ≡ l.initial.out.items ++ flat_map shown_byte l.text
