use Rattle.std.proofs.Common.{◌+◌, [], drop, reverse, get_or, rules}
use Rattle.std.proofs.lemmas.List.{drop_more}
use Rattle.rawk_ere_pattern.specs.declared.token.Token.TheVariants.{OneOf}
use Rattle.rawk_ere_pattern.specs.Reading.{run, fresh, IsTreeRefused}
use Rattle.rawk_ere_pattern.specs.ReadingLemmas.{refused_from}
use Rattle.rawk_ere_pattern.proofs.read.read_tokens.Goals as goal

pub returns-in_err-inner-clause-refused : goal.returns-in_err-inner-clause-refused
returns-in_err-inner-clause-refused c =
    let ts = c.args.tokens.now in
    let i = c.loop-index.index in
    let f : IsTreeRefused c.in_err-inner.field-0.0 (run [] fresh ts) =
    refused_from c.in_err-inner.field-0.0 (reverse c.loop-index.outer.items) c.loop-index.inner (get_or ts i (OneOf [])) (drop (i + 1) ts) (drop i ts) ts
    (drop_more ts i (OneOf []) c.loop-index-test.true) c.loop-index.invariant c.in_err-inner.ensures.refused in
    search (rules, f)
