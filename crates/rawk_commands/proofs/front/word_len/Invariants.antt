use Rattle.std.proofs.Common.{◌≡◌, ◌+◌, ◌-◌, ◌≤◌, length, drop}
use Rattle.rawk_keywords.specs.Name.{is_in_name}
use Rattle.std.specs.List.{prefix_len}
use Rattle.rawk_commands.proofs.front.word_len.Given as goal

abbrev pub invariant-loop-len : goal.invariant-loop-len
invariant-loop-len l = (l.len + prefix_len is_in_name (drop l.len l.text) ≡ prefix_len is_in_name l.text) × (l.len ≤ length l.text)

abbrev pub decreases-loop-len : goal.decreases-loop-len
decreases-loop-len l = length l.text - l.len
