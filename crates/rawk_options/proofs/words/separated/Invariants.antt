use Rattle.std.proofs.Common.{◌≡◌, ◌++◌, map, drop, string_bytes}
use Rattle.rawk_options.specs.declared.words.Next.TheVariants.{Word}
use Rattle.rawk_options.specs.Words.{separated_from}
use Rattle.rawk_options.proofs.words.separated.Given as goal

abbrev pub invariant-loop-word : goal.invariant-loop-word
invariant-loop-word l = map (λ s. s.now) l.separated.items ++ separated_from l.next (map string_bytes (drop l.word-index l.words)) ≡ separated_from Word (map string_bytes l.words)
