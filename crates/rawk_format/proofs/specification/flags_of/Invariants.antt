-- What was asked for, and what the rest asks for, is what the run asks for.
use Rattle.std.proofs.Common.{◌≡◌, length}
use Rattle.std.specs.Prelude.{◌==◌, ◌||◌}
use Rattle.std.specs.List.{list_any}
use Rattle.rawk_format.proofs.specification.flags_of.Given as goal

abbrev pub invariant-flags : goal.invariant-flags
invariant-flags l = record {
  minus : (l.flags.minus || list_any (λ b. b == 45) l.left) ≡ list_any (λ b. b == 45) l.fn.run;
  plus : (l.flags.plus || list_any (λ b. b == 43) l.left) ≡ list_any (λ b. b == 43) l.fn.run;
  space : (l.flags.space || list_any (λ b. b == 32) l.left) ≡ list_any (λ b. b == 32) l.fn.run;
  alternate : (l.flags.alternate || list_any (λ b. b == 35) l.left) ≡ list_any (λ b. b == 35) l.fn.run;
  zero : (l.flags.zero || list_any (λ b. b == 48) l.left) ≡ list_any (λ b. b == 48) l.fn.run;
}

abbrev pub decreases-flags : goal.decreases-flags
decreases-flags l = length l.left
