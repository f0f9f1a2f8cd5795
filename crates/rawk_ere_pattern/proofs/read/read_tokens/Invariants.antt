use Rattle.std.proofs.Common.{◌≡◌, drop, reverse, []}
use Rattle.rawk_ere_pattern.specs.Reading.{run, fresh}
use Rattle.rawk_ere_pattern.proofs.read.read_tokens.Given as goal

abbrev pub invariant-loop-index : goal.invariant-loop-index
invariant-loop-index l = run (reverse l.outer.items) l.inner (drop l.index l.tokens) ≡ run [] fresh l.tokens
