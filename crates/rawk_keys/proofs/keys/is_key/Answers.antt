use Rattle.std.proofs.Common.{◌∙◌, sym}
use Rattle.std.proofs.lemmas.Bool.{false≢true}
use Rattle.rawk_keys.specs.declared.keys.KeyRange.{KeyRange}
use Rattle.rawk_keys.specs.ArrayKey.{array_key}
use Rattle.rawk_keys.proofs.KeyLemmas.{named_if, key_of, array_of}
use Rattle.rawk_keys.proofs.keys.is_key.Goals as goal

blank : KeyRange
blank = record { start = 0; end = 0 }

pub returns-then-label-array : goal.returns-then-label-array
returns-then-label-array c =
    let text = c.args.text.now in
    let arrays = c.args.by_array.now in
    let spans = c.args.spans.now in
    let key = c.key_at.ensures blank in (
      λ t. named_if text arrays spans c.args.number c.args.array c.args.key.now blank c.requires.sizes c.requires.there (sym c.label.ensures ∙ c.if-label-array.true) (sym key ∙ c.same_bytes.ensures.0 t),
      λ e. c.same_bytes.ensures.1 (key ∙ key_of text arrays spans c.args.number (array_key c.args.array c.args.key.now) blank c.requires.sizes e),
    )

pub returns : goal.returns
returns c = (
  λ t. absurd (false≢true t),
  λ e. absurd (c.if-label-array.false (c.label.ensures ∙ array_of c.args.text.now c.args.by_array.now c.args.spans.now c.args.number (array_key c.args.array c.args.key.now) c.requires.sizes e)),
)
