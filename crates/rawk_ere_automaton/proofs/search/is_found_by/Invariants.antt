use Rattle.std.proofs.Common.{◌≤◌, ◌-◌, length}
use Rattle.rawk_ere_automaton.specs.Search.{BeginsNone, Knows}
use Rattle.rawk_ere_automaton.proofs.search.is_found_by.Given as goal

abbrev pub invariant-loop-begin : goal.invariant-loop-begin
invariant-loop-begin l = record { high : l.begin ≤ length l.text; none : BeginsNone l.code l.text 0 l.begin; known : Knows l.code l.text l.known }

abbrev pub decreases-loop-begin : goal.decreases-loop-begin
decreases-loop-begin l = length l.text - l.begin
