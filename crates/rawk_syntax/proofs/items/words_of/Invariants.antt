use Rattle.std.proofs.Common.{◌≡◌, take}
use Rattle.rawk_syntax.specs.Laid.{words_of}
use Rattle.rawk_syntax.proofs.items.words_of.Given as goal

abbrev pub invariant-loop-name : goal.invariant-loop-name
invariant-loop-name l = l.words.items ≡ words_of (take l.name-index l.names)
